-- Each entry of a slot that lasts is a call of what the actor decided in it.
use Rattle.std.proofs.Common.{◌≡◌, ◌∙◌, ◌⊎◌, ℕ, ◌-◌, List, [], ◌∷◌, ◌++◌, append_assoc, Bool, true, false, true≢false, Option, Some, None, inl, inr, refl, sym, ap, subst}
use Rattle.std.proofs.lemmas.List.{append_cancel_right}
use Rattle.std.specs.Prelude.{⊤}
use Rattle.kube_parts.specs.declared.parts.Kind.{Kind}
use Rattle.call_types.specs.declared.entry.Entry.{Entry}
use Rattle.call_types.specs.declared.reply.Reply.{Reply}
use Rattle.call_types.specs.declared.request.Request.{Request}
use Rattle.call_types.specs.declared.request.SeatKind.{SeatKind}
use Rattle.call_types.specs.declared.setup.Setup.{Setup}
use Rattle.binder_model.specs.Promises.{IsRunOf}
use Rattle.binder_model.specs.World.{IsHistory, effect, reply_to, world}
use Rattle.informer_cache.specs.All.{all_objects}
use Rattle.model_laws.proofs.Growing.{runs_are_histories}
use Rattle.model_laws.proofs.Lists.{none_some, one}
use Rattle.sync_queue.specs.Work.{Work}
use Rattle.worker_core.specs.declared.role.Role.{Role}
use Rattle.worker_core.specs.declared.task.Under.{Under}
use Rattle.worker_core.specs.declared.turn.Given.TheVariants as givens
use Rattle.worker_core.specs.declared.turn.Next.TheVariants.{Call}
use Rattle.worker_core.specs.declared.turn.Outcome.TheVariants.{Told}
use Rattle.worker_core.specs.Absorbs.{absorbed, woken}
use Rattle.worker_core.specs.Roles.{IsBuiltKind}
use Rattle.worker_core.specs.States.{ActorState, call_in, read_of_kind, start_call}
use Rattle.worker_core.specs.Tasks.{under_after}
use Rattle.worker_core.specs.Turns.{AfterKeys, Decides, IsTurn, TurnBy, passing, unlisted}
use Rattle.actor_rounds.specs.Rounds.{Asks, IsHeld, IsIdle, IsReady, IsSpent, Runs, all_pass, told_entry}
use Rattle.actor_rounds.proofs.RunFacts.{still_role}
use Rattle.worker_core.proofs.Answered.{turn_role}
use Rattle.settle_writes.specs.Writes.Lasting.{Lasts}
use Rattle.settle_slot.specs.Slot.Slots.{IsDecisionPoint, KnowsBehind, own_entry}
use Rattle.settle_slot.specs.Slot.Would.{Here, Leads, On}
use Rattle.settle_slot.proofs.Slot.Knowing.{sees, told_knows}
use Rattle.settle_slot.proofs.Slot.Slots.{decides_gives, none_told, nothing_behind, run_older, told_under}
use Rattle.settle_pays.proofs.Pays.Slots.{read_never, start_never}
use Rattle.settle_tries.specs.Tries.Coming.{IsCallOf, IsDecidedIn, LastingAreDecided}

-- what leads on leads on by one call more
pub leads_on : (setup : Setup) (seat : ℕ) (kind : SeatKind) {h g : List Entry} {u v : Under} (next : Under) → Leads setup seat kind h u g v
    → under_after v (reply_to (effect setup (world setup g) kind v.call)) ≡ Some next → Leads setup seat kind h u (own_entry setup seat kind g v.call ∷ g) next
leads_on setup seat kind next Here follows = On next follows Here
leads_on setup seat kind next (On n goes more) follows = On n goes (leads_on setup seat kind next more follows)

-- a call never lasts
abbrev NeverLasts : Setup → List Entry → Request → Type 0
NeverLasts setup h request = (kind : SeatKind) → Lasts setup (world setup h) kind request → ⊥

module _ (setup : Setup) (seat : ℕ) (role : Role) (built : IsBuiltKind role.kind) (start : List Entry) where
  abbrev Under_ : List Entry → ActorState → Type 0
  Under_ h s = (u : Under) → s.under ≡ Some u → IsDecidedIn setup seat role start h u

  -- a call is one of what is under way, or a read, with nothing under way
  data CallsSo (h : List Entry) (given : ActorState) (request : Request) : Type 0 where
    OfUnder : (u : Under) → given.under ≡ Some u → given.given ≡ Some givens.Task → request ≡ u.call → IsDecidedIn setup seat role start h u → CallsSo h given request
    Reads : given.under ≡ None → NeverLasts setup h request → CallsSo h given request

  calls_so : (s given : ActorState) (request : Request) (h older : List Entry) → h ≡ older ++ start → s.role ≡ role → IsHistory setup h
      → IsReady seat s h → IsTurn s given (Call request) → KnowsBehind setup seat s.role s.pass h → Under_ h s → CallsSo h given request
  calls_so s given request h older since is history ready turn knows under_way = by s.memory.stale s.under (start_call s.role s.memory) (unlisted s) (passing s) refl refl refl turn
    where
      asked : (x : Request) → Call request ≡ Call x → request ≡ x
      asked x e = one request x (ap call_in e)

      reads_so : (k : Kind) → given.under ≡ None → Call request ≡ Call (read_of_kind s.caches k) → CallsSo h given request
      reads_so k none e = Reads none (subst (NeverLasts setup h) (sym (asked (read_of_kind s.caches k) e)) (read_never setup (world setup h) s.caches k))

      point : passing s ≡ None → IsDecisionPoint setup seat role h s h
      point over = record {
        role_is = is;
        history = history;
        alike = record { rows = refl; stored = refl; mounts = refl };
        ready = ready;
        sees =
            sees setup seat s h history ready.stands.told knows over;
      }

      keys : (w : Work) (under : Option Under) → s.under ≡ None → passing s ≡ None → Decides s.role s.memory (all_objects s.caches) w under s.work
          → AfterKeys s given (Call request) w under → CallsSo h given request
      keys w (Some u) none over d b =
          OfUnder u (ap (λ (x : ActorState). x.under) b.state) (ap (λ (x : ActorState). x.given) b.state) (asked u.call b.call)
          (record {
            state = s;
            point = h;
            older = older;
            behind = since;
            sees = point over;
            first = u;
            gives =
                decides_gives s.role s.memory (all_objects s.caches) w (Some u) u s.work d refl;
            leads = Here;
          })
      keys w None none over d (inl b) = reads_so b.kind (ap (λ (x : ActorState). x.under) b.state ∙ none) b.call
      keys w None none over d (inr b) = none_some (sym (ap call_in b.idle))

      by : (stale : Bool) (under : Option Under) (begin : Option Request) (l p : Option Kind) → s.under ≡ under → start_call s.role s.memory ≡ begin
          → passing s ≡ p → TurnBy s given (Call request) stale under begin l p → CallsSo h given request
      by true under begin l p eu est ep t = none_some (sym (ap call_in t.idle))
      by false (Some u) begin l p eu est ep t = OfUnder u (ap (λ (x : ActorState). x.under) t.state ∙ eu) (ap (λ (x : ActorState). x.given) t.state) (asked u.call t.call) (under_way u eu)
      by false None (Some r) l p eu est ep t =
          Reads (ap (λ (x : ActorState). x.under) t.state ∙ eu) (subst (NeverLasts setup h) (sym (asked r t.call)) (start_never setup (world setup h) s.role.kind s.role.node s.memory r est))
      by false None None (Some k) p eu est ep t = reads_so k (ap (λ (x : ActorState). x.under) t.state ∙ eu) t.call
      by false None None None (Some k) eu est ep t = reads_so k (ap (λ (x : ActorState). x.under) t.state ∙ eu) t.call
      by false None None None None eu est ep t = keys t.work t.under eu ep t.decides t.then_

  -- the entry, and what is then under way
  module _ (given next : ActorState) (request : Request) (reply : Reply) (h : List Entry) (of_kind : given.role.kind ≡ role.kind)
      (said : reply ≡ reply_to (effect setup (world setup h) given.role.kind request)) (absorbs : next ≡ absorbed given next.caches request (Told reply)) where
    abbrev Comes : Type 0
    Comes = (Lasts setup (world setup h) given.role.kind request → ⊥) ⊎ IsCallOf setup seat role start (told_entry seat given request reply) h

    entry_is : (u : Under) → request ≡ u.call → own_entry setup seat role.kind h u.call ≡ told_entry seat given request reply
    entry_is u asked =
        let told : reply_to (effect setup (world setup h) role.kind u.call) ≡ reply =
        sym (said ∙ (ap (λ k. reply_to (effect setup (world setup h) k request)) of_kind ∙ ap (λ r. reply_to (effect setup (world setup h) role.kind r)) asked)) in
        λ i. record { seat = seat; kind = (sym of_kind) i; request = (sym asked) i; reply = told i; told = true }

    comes : CallsSo h given request → Comes
    comes (OfUnder u under task asked decided) = inr (record { under = u; decided = decided; is = entry_is u asked })
    comes (Reads none never) = inl (never given.role.kind)

    next_under : CallsSo h given request → Under_ (told_entry seat given request reply ∷ h) next
    next_under (OfUnder u under task asked d) n e =
        let follows : under_after u (reply_to (effect setup (world setup h) role.kind u.call)) ≡ Some n =
        ap (λ (x : Entry). under_after u x.reply) (entry_is u asked)
        ∙ (sym (told_under given request reply u next.caches given.given given.under task under) ∙ (sym (ap (λ (x : ActorState). x.under) absorbs) ∙ e)) in
        subst (λ x. IsDecidedIn setup seat role start (x ∷ h) n) (entry_is u asked)
        (record { state = d.state; point = d.point; older = d.older; behind = d.behind; sees = d.sees; first = d.first; gives = d.gives; leads = leads_on setup seat role.kind n d.leads follows })
    next_under (Reads none never) n e = none_some (sym (none_told given request reply next.caches given.given given.under none) ∙ (sym (ap (λ (x : ActorState). x.under) absorbs) ∙ e))

  -- ---- all of them

  abbrev ComesSo : Entry → List Entry → Type 0
  ComesSo e h = (Lasts setup (world setup h) e.kind e.request → ⊥) ⊎ IsCallOf setup seat role start e h

  abbrev AllCome : List Entry → List Entry → Type 0
  AllCome [] h = ⊤
  AllCome (e ∷ newer) h = ComesSo e (newer ++ h) × AllCome newer h

  all_with : (newer : List Entry) (e : Entry) (h : List Entry) → AllCome newer (e ∷ h) → ComesSo e h → AllCome (newer ++ (e ∷ [])) h
  all_with [] e h all here = (here, tt)
  all_with (x ∷ newer) e h all here = (subst (ComesSo x) (sym (append_assoc newer (e ∷ []) h)) all.0, all_with newer e h all.1 here)

  come_at : (newer : List Entry) (e : Entry) (older h : List Entry) → AllCome (newer ++ (e ∷ older)) h → ComesSo e (older ++ h)
  come_at [] e older h all = all.0
  come_at (x ∷ newer) e older h all = come_at newer e older h all.1

  record HaveCome (h past : List Entry) : Type 0 where
    newer : List Entry
    are : past ≡ newer ++ h
    all : AllCome newer h

  module _ (after : ActorState) (past : List Entry) (left : ℕ) (idle : Bool) (run : IsRunOf setup past) where
    run_comes : (s : ActorState) (h older : List Entry) (b : ℕ) → Runs all_pass seat after past left idle s h b → h ≡ older ++ start → s.role ≡ role
        → KnowsBehind setup seat s.role s.pass h → Under_ h s → HaveCome h past
    run_comes s h older b (IsSpent none state entries rest busy) since is knows under_way = record { newer = []; are = entries; all = tt }
    run_comes s h older b (IsIdle some ready turn entries rest calm) since is knows under_way = record { newer = []; are = entries; all = tt }
    run_comes s h older b (IsHeld given next request some ready turn held absorbs more) since is knows under_way = absurd (true≢false held)
    run_comes s h older b (Asks given next request reply some ready turn passes absorbs more) since is knows under_way =
        let whole : IsHistory setup (told_entry seat given request reply ∷ h) = run_older setup all_pass seat after past left idle next _ _ more (runs_are_histories setup past run.run) in
        let given_role : given.role ≡ role = turn_role s given (Call request) turn ∙ is in
        let of_kind : given.role.kind ≡ role.kind = ap (λ (r : Role). r.kind) given_role in
        let so = calls_so s given request h older since is whole.0 ready turn knows under_way in
        let rest = run_comes next (told_entry seat given request reply ∷ h) (told_entry seat given request reply ∷ older) (b - 1) more
        (ap (λ es. told_entry seat given request reply ∷ es) since) (still_role s given next (Call request) request (Told reply) turn absorbs ∙ is)
        (told_knows setup seat s given request reply h (subst (λ (r : Role). IsBuiltKind r.kind) (sym is) built) ready turn whole knows next absorbs)
        (next_under given next request reply h of_kind whole.1 absorbs so) in
        record {
          newer = rest.newer ++ (told_entry seat given request reply ∷ []);
          are = rest.are ∙ sym (append_assoc rest.newer (told_entry seat given request reply ∷ []) h);
          all = all_with rest.newer (told_entry seat given request reply) h rest.all (comes given next request reply h of_kind whole.1 absorbs so);
        }

pub lasting_are_decided : LastingAreDecided
lasting_are_decided setup seat old after h past b left idle newer older e built run none runs are lasts =
    let c = run_comes setup seat old.role built h after past left idle run (woken old) h [] b runs refl refl (nothing_behind setup seat old h) (λ u e_. none_some (sym none ∙ e_)) in
    let same : c.newer ≡ newer ++ (e ∷ older) = append_cancel_right c.newer (newer ++ (e ∷ older)) h (sym c.are ∙ (are ∙ sym (append_assoc newer (e ∷ older) h))) in
    elim (come_at setup seat old.role built h newer e older h (subst (λ es. AllCome setup seat old.role built h es h) same c.all)) [
      | inl never ↦ absurd (never lasts)
      | inr call ↦ call
    ]
