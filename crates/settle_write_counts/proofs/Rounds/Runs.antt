-- What each call of a run lowers, the run lowers.
use Rattle.std.proofs.Common.{◌≡◌, ◌∙◌, ℕ, ◌+◌, ◌-◌, ◌≤◌, List, [], ◌∷◌, ◌++◌, append_assoc, Bool, true, false, true≢false, Option, Some, None, inl, inr, refl, sym, ap, subst, arith}
use Rattle.std.proofs.lemmas.List.{append_cancel_right}
use Rattle.kube_parts.specs.declared.parts.Kind.{Kind}
use Rattle.kube_objects.specs.declared.objects.Object.{Object}
use Rattle.call_types.specs.declared.entry.Entry.{Entry}
use Rattle.call_types.specs.declared.reply.Reply.{Reply}
use Rattle.call_types.specs.declared.request.Request.{Request}
use Rattle.call_types.specs.declared.setup.Setup.{Setup}
use Rattle.binder_model.specs.Licence.{Licensed}
use Rattle.binder_model.specs.Promises.{IsRunOf}
use Rattle.binder_model.specs.Told.{own}
use Rattle.binder_model.specs.World.{World, world}
use Rattle.informer_cache.specs.All.{AllKnown, all_objects}
use Rattle.model_laws.proofs.Lists.{none_some}
use Rattle.sync_queue.specs.Work.{Work}
use Rattle.attention_law.proofs.Turned.{calls_fresh}
use Rattle.worker_core.specs.declared.role.Role.{Role}
use Rattle.worker_core.specs.declared.task.Under.{Under}
use Rattle.worker_core.specs.declared.turn.Given.{Given}
use Rattle.worker_core.specs.declared.turn.Given.TheVariants as givens
use Rattle.worker_core.specs.declared.turn.Next.TheVariants.{Call}
use Rattle.worker_core.specs.declared.turn.Outcome.TheVariants.{Lost, Told}
use Rattle.worker_core.specs.Absorbs.{lost_given, lost_to, lost_under, told_to}
use Rattle.worker_core.specs.Memories.{Memory}
use Rattle.worker_core.specs.Roles.{IsBuiltKind}
use Rattle.worker_core.specs.Stands.{StandsFor}
use Rattle.worker_core.specs.States.{ActorState, asked, call_in, start_call}
use Rattle.worker_core.specs.Tasks.{GivesCall}
use Rattle.worker_core.specs.Turns.{AfterKeys, Begins, Decides, Drops, IsTurn, Nothing, TurnBy, passing, unlisted}
use Rattle.worker_core.proofs.Answered.{answer_licensed, gives_asked}
use Rattle.worker_core.proofs.Turning.{turn_stands}
use Rattle.actor_rounds.specs.Rounds.{Asks, IsHeld, IsIdle, IsReady, IsSpent, Lets, Runs, told_entry}
use Rattle.actor_rounds.proofs.RunFacts.{run_grows, still_role}
use Rattle.worker_core.proofs.Answered.{turn_role}
use Rattle.settle_pays.specs.Pays.Pays.{AllPay, HavePaid, Pays}
use Rattle.settle_progress.proofs.Epochs.Silent.{older_run}

-- ---- entries that pay

-- the oldest of them, and those that came after it
all_but_oldest : (setup : Setup) (newer : List Entry) (e : Entry) (h : List Entry) → AllPay setup (newer ++ (e ∷ [])) h → Pays setup (world setup h) e.kind e.request × AllPay setup newer (e ∷ h)
all_but_oldest setup [] e h each = (each.0, tt)
all_but_oldest setup (x ∷ newer) e h each =
    let rest = all_but_oldest setup newer e h each.1 in
    (rest.0, (subst (λ es. Pays setup (world setup es) x.kind x.request) (append_assoc newer (e ∷ []) h) each.0, rest.1))

oldest_pays : (setup : Setup) (e : Entry) (h past newer : List Entry) → past ≡ newer ++ (e ∷ h) → HavePaid setup h past → Pays setup (world setup h) e.kind e.request × HavePaid setup (e ∷ h) past
oldest_pays setup e h past newer are paid =
    let same : paid.newer ≡ newer ++ (e ∷ []) = append_cancel_right paid.newer (newer ++ (e ∷ [])) h (sym paid.are ∙ (are ∙ sym (append_assoc newer (e ∷ []) h))) in
    let rest = all_but_oldest setup newer e h (subst (λ es. AllPay setup es h) same paid.each) in
    (rest.0, record { newer = newer; are = are; each = rest.1 })

-- ---- a call of a run

-- a call that an actor has given and that was answered, in a run
pub record IsCalled (setup : Setup) (seat : ℕ) (x : ActorState) (request : Request) (reply : Reply) (h : List Entry) : Type 0 where
  pub run : IsRunOf setup (told_entry seat x request reply ∷ h)
  pub stands : StandsFor x (own seat h)
  pub ask : asked x ≡ Some request
  pub may : Licensed x.role.kind (own seat h) request

module _ (setup : Setup) (lets : Lets) (seat : ℕ) (after : ActorState) (past : List Entry) (left : ℕ) (idle : Bool) (run : IsRunOf setup past) where
  pub run_at : (s : ActorState) (h : List Entry) (b : ℕ) → Runs lets seat after past left idle s h b → IsRunOf setup h
  run_at s h b runs = let g = run_grows lets seat after past left idle s h b runs in older_run setup g.longer.added h (subst (IsRunOf setup) g.longer.are run)

  pub called_at : (s given : ActorState) (h : List Entry) (request : Request) (reply : Reply) → IsBuiltKind s.role.kind → IsReady seat s h
      → IsTurn s given (Call request) → IsRunOf setup (told_entry seat given request reply ∷ h) → IsCalled setup seat given request reply h
  called_at s given h request reply built ready turn whole = record {
    run = whole;
    stands = turn_stands s given (Call request) (own seat h) ready.rows ready.stands.told turn;
    ask = sym (gives_asked s given (Call request) turn);
    may = subst (λ (r : Role). Licensed r.kind (own seat h) request) (sym (turn_role s given (Call request) turn))
        (answer_licensed s given (Call request) (own seat h) built ready.rows ready.stands.told turn);
  }

  -- an actor that was told that its epoch is stale makes no call
  pub silent_run : (s : ActorState) (h : List Entry) (b : ℕ) → Runs lets seat after past left idle s h b → s.memory.stale ≡ true → (past ≡ h) × (left ≡ b)
  silent_run s h b (IsSpent none state entries rest busy) stale = (entries, rest)
  silent_run s h b (IsIdle some ready turn entries rest calm) stale = (entries, rest)
  silent_run s h b (Asks given next request reply some ready turn lets_it absorbs more) stale = absurd (true≢false (sym stale ∙ calls_fresh s given request turn))
  silent_run s h b (IsHeld given next request some ready turn held absorbs more) stale = absurd (true≢false (sym stale ∙ calls_fresh s given request turn))

  -- ---- what each call does to the world, where it adds up
  module _ (role : Role) (built : IsBuiltKind role.kind) (Moves : World → World → Type 0) (stays : (w : World) → Moves w w) (joins : (a b c : World) → Moves a b → Moves b c → Moves a c)
      (calls : (x : ActorState) (request : Request) (reply : Reply) (h : List Entry) → x.role ≡ role → IsCalled setup seat x request reply h
      → Moves (world setup h) (world setup (told_entry seat x request reply ∷ h))) where
    pub run_moves : (s : ActorState) (h : List Entry) (b : ℕ) → Runs lets seat after past left idle s h b → s.role ≡ role → Moves (world setup h) (world setup past)
    run_moves s h b (IsSpent spent state entries rest busy) is = subst (λ es. Moves (world setup h) (world setup es)) (sym entries) (stays (world setup h))
    run_moves s h b (IsIdle some ready turn entries rest calm) is = subst (λ es. Moves (world setup h) (world setup es)) (sym entries) (stays (world setup h))
    run_moves s h b (Asks given next request reply some ready turn lets_it absorbs more) is =
        let later = run_moves next (told_entry seat given request reply ∷ h) (b - 1) more (still_role s given next (Call request) request (Told reply) turn absorbs ∙ is) in
        let called = called_at s given h request reply (subst (λ (r : Role). IsBuiltKind r.kind) (sym is) built) ready turn (run_at next (told_entry seat given request reply ∷ h) (b - 1) more) in
        joins (world setup h) (world setup (told_entry seat given request reply ∷ h)) (world setup past) (calls given request reply h (turn_role s given (Call request) turn ∙ is) called) later
    run_moves s h b (IsHeld given next request some ready turn held absorbs more) is = run_moves next h (b - 1) more (still_role s given next (Call request) request Lost turn absorbs ∙ is)

  -- ---- a number that each call lowers, by the world and by what is under way. What a decision begins adds nothing to it
  module _ (role : Role) (built : IsBuiltKind role.kind) (low : World → ℕ) (weigh : Option Under → ℕ) (none : weigh None ≡ 0)
      (begins : (memory : Memory) (rows : List Object) (u : Under) → GivesCall role memory rows u → weigh (Some u) ≡ 0)
      (calls : (x : ActorState) (caches : AllKnown) (request : Request) (reply : Reply) (h : List Entry) → x.role ≡ role
      → IsCalled setup seat x request reply h → Pays setup (world setup h) x.role.kind request
      → low (world setup (told_entry seat x request reply ∷ h)) + weigh (told_to x caches request reply).under ≤ low (world setup h) + weigh x.under) where
    decided : (memory : Memory) (rows : List Object) (after_ : Work) (under : Option Under) (w : Work) → Decides role memory rows after_ under w → weigh under ≡ 0
    decided memory rows after_ under w (Nothing empty same nothing) = ap weigh nothing ∙ none
    decided memory rows after_ under w (Begins u old gives same some) = ap weigh some ∙ begins memory rows u gives
    decided memory rows after_ under w (Drops key first old gives rest) = decided memory rows after_ under _ rest

    turned : (s given : ActorState) (request : Request) → s.role ≡ role → IsTurn s given (Call request) → weigh given.under ≤ weigh s.under
    turned s given request is turn = by s.memory.stale s.under (start_call s.role s.memory) (unlisted s) (passing s) refl turn
      where
        same : (x : ActorState) → given ≡ x → weigh x.under ≤ weigh s.under → weigh given.under ≤ weigh s.under
        same x e le = subst (λ (y : ActorState). weigh y.under ≤ weigh s.under) (sym e) le

        keys : (w : Work) (under : Option Under) → Decides role s.memory (all_objects s.caches) w under s.work → AfterKeys s given (Call request) w under → weigh given.under ≤ weigh s.under
        keys w (Some u) d b =
            let z = decided s.memory (all_objects s.caches) w (Some u) s.work d in
            same (record s { work = w; under = Some u; given = Some givens.Task }) b.state (omega (arith, z))
        keys w None d (inl b) = same (record s { work = w; pass = record { behind = 0; event = false }; given = Some (givens.Read b.kind) }) b.state (omega arith)
        keys w None d (inr b) = none_some (sym (ap call_in b.idle))

        by : (stale : Bool) (u : Option Under) (start : Option Request) (l p : Option Kind) → s.under ≡ u → TurnBy s given (Call request) stale u start l p → weigh given.under ≤ weigh s.under
        by true u start l p eu t = none_some (sym (ap call_in t.idle))
        by false (Some u) start l p eu t = same (record s { given = Some givens.Task }) t.state (omega arith)
        by false None (Some r) l p eu t = same (record s { given = Some givens.Start }) t.state (omega arith)
        by false None None (Some k) p eu t = same (record s { given = Some (givens.Read k) }) t.state (omega arith)
        by false None None None (Some k) eu t = same (record s { given = Some (givens.Read k) }) t.state (omega arith)
        by false None None None None eu t = keys t.work t.under (subst (λ r. Decides r s.memory (all_objects s.caches) t.work t.under s.work) is t.decides) t.then_

    lost : (x : ActorState) → weigh (lost_to x).under ≤ weigh x.under
    lost x = by x.given
      where
        of_task : (u : Option Under) → weigh (lost_under x u).under ≤ weigh x.under
        of_task None = omega arith
        of_task (Some u) = omega (arith, none)

        by : (g : Option Given) → weigh (lost_given x g).under ≤ weigh x.under
        by None = omega arith
        by (Some givens.Start) = omega arith
        by (Some givens.Task) = of_task x.under
        by (Some (givens.Read k)) = omega arith

    pub run_low : (s : ActorState) (h : List Entry) (b : ℕ) → Runs lets seat after past left idle s h b → s.role ≡ role → HavePaid setup h past
        → low (world setup past) ≤ low (world setup h) + weigh s.under
    run_low s h b (IsSpent spent state entries rest busy) is paid = let e = ap (λ es. low (world setup es)) entries in omega (arith, e)
    run_low s h b (IsIdle some ready turn entries rest calm) is paid = let e = ap (λ es. low (world setup es)) entries in omega (arith, e)
    run_low s h b (Asks given next request reply some ready turn lets_it absorbs more) is paid =
        let g = run_grows lets seat after past left idle next (told_entry seat given request reply ∷ h) (b - 1) more in
        let pays = oldest_pays setup (told_entry seat given request reply) h past g.longer.added g.longer.are paid in
        let later = run_low next (told_entry seat given request reply ∷ h) (b - 1) more (still_role s given next (Call request) request (Told reply) turn absorbs ∙ is) pays.1 in
        let called = called_at s given h request reply (subst (λ (r : Role). IsBuiltKind r.kind) (sym is) built) ready turn (run_at next (told_entry seat given request reply ∷ h) (b - 1) more) in
        let here = calls given next.caches request reply h (turn_role s given (Call request) turn ∙ is) called pays.0 in
        let begun = turned s given request is turn in
        let became = ap (λ (y : ActorState). weigh y.under) absorbs in
        omega (arith, later, here, begun, became)
    run_low s h b (IsHeld given next request some ready turn held absorbs more) is paid =
        let later = run_low next h (b - 1) more (still_role s given next (Call request) request Lost turn absorbs ∙ is) paid in
        let dropped = lost given in
        let begun = turned s given request is turn in
        let became = ap (λ (y : ActorState). weigh y.under) absorbs in
        omega (arith, later, dropped, begun, became)
