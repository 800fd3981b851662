-- A slot does few writes: each leaves less to do, or is counted apart.
use Rattle.std.proofs.Common.{◌≡◌, ◌≢◌, ◌∙◌, ℕ, ◌+◌, ◌≤◌, List, [], ◌∷◌, ◌++◌, Bool, true, false, Option, Some, None, inl, inr, refl, sym, ap, subst, arith}
use Rattle.std.specs.Prelude.{option_map}
use Rattle.kube_objects.specs.declared.objects.Object.{Object}
use Rattle.kube_objects.specs.declared.objects.Object.TheVariants.{Claim}
use Rattle.call_types.specs.declared.entry.Entry.{Entry}
use Rattle.call_types.specs.declared.reply.Refusal.TheVariants as refusals
use Rattle.call_types.specs.declared.reply.Reply.{Reply}
use Rattle.call_types.specs.declared.reply.Reply.TheVariants as replies
use Rattle.call_types.specs.declared.request.Request.{Request}
use Rattle.call_types.specs.declared.request.Request.TheVariants as requests
use Rattle.call_types.specs.declared.request.SeatKind.{SeatKind}
use Rattle.call_types.specs.declared.request.SeatKind.TheVariants as seats
use Rattle.call_types.specs.declared.setup.Setup.{Setup}
use Rattle.binder_model.specs.Answers.{Removes, Says, Stores, after}
use Rattle.binder_model.specs.Licence.{Licensed, RowAllows}
use Rattle.binder_model.specs.Promises.{IsRunOf}
use Rattle.binder_model.specs.Told.{own}
use Rattle.binder_model.specs.World.{Effect, IsHistory, OnDevices, OnStore, SetsMoment, World, effect, world, world_after}
use Rattle.informer_cache.specs.All.{AllKnown}
use Rattle.model_laws.proofs.Growing.{runs_are_histories}
use Rattle.model_laws.proofs.Histories.{rows_stand_in_order}
use Rattle.model_laws.proofs.Lists.{none_some, one}
use Rattle.model_laws.proofs.Uids.{rises}
use Rattle.safety_law.specs.Invariant.Moves.{written_by}
use Rattle.safety_law.specs.Invariant.Writes.{Writes}
use Rattle.safety_law.proofs.Invariant.Effects.{effect_form}
use Rattle.settle_measure.specs.Left.Measure.{total, work_left}
use Rattle.worker_core.specs.declared.role.Role.{Role}
use Rattle.worker_core.specs.declared.task.Under.{Under}
use Rattle.worker_core.specs.declared.turn.Given.{Given}
use Rattle.worker_core.specs.declared.turn.Given.TheVariants as givens
use Rattle.worker_core.specs.Absorbs.{given_told, learned, task_told, told_to, woken}
use Rattle.worker_core.specs.Roles.{IsBuiltKind}
use Rattle.worker_core.specs.Stands.{AnyIsUnderWay}
use Rattle.worker_core.specs.States.{ActorState, call_under, given_call, read_of_kind, read_request, start_of}
use Rattle.worker_core.specs.Tasks.{under_after}
use Rattle.worker_core.proofs.Machines.{KeepsUnder, keeps_under}
use Rattle.worker_core.proofs.Owning.{stood}
use Rattle.actor_rounds.specs.Rounds.{Lets, Runs, told_entry}
use Rattle.actor_rounds.proofs.RunFacts.{run_grows}
use Rattle.informer_cache.specs.declared.cache.NextRead.{NextRead}
use Rattle.informer_cache.specs.declared.cache.NextRead.TheVariants as asks
use Rattle.informer_cache.specs.All.{cache_of}
use Rattle.informer_cache.specs.Cache.{ask_of}
use Rattle.kube_parts.specs.declared.parts.Kind.{Kind}
use Rattle.settle_writes.specs.Writes.Lasting.{IsBackFault, Lasts}
use Rattle.settle_writes.specs.Done.Apart.{is_apart}
use Rattle.settle_writes.proofs.Done.Doing.{other_writes_last, write_asked}
use Rattle.settle_calls.specs.Slots.Slots.{writes_since}
use Rattle.settle_pays.specs.Pays.Pays.{DecisionsPay, Pays, worth}
use Rattle.settle_pays.proofs.Pays.Entries.{one_paid, paid_is_less}
use Rattle.settle_pays.proofs.Pays.Slots.{pays_from}
use Rattle.settle_progress.proofs.Epochs.Silent.{older_run}
use Rattle.settle_write_counts.specs.Rounds.Counts.{OpsWriteLittle, OthersSelectNone, OthersWriteLittle, SchedulersSelectFew, nodes_in, nodes_on, to_write}
use Rattle.settle_write_counts.proofs.Rounds.Failing.{erase_failed, fails_go, none_begins, phase_written, under_fails}
use Rattle.settle_write_counts.proofs.Rounds.Keeping.{other_nodes}
use Rattle.settle_write_counts.proofs.Rounds.Nodes.{IsMoved, ops_nodes, scheduled_nodes, taken_back}
use Rattle.settle_write_counts.proofs.Rounds.Runs.{IsCalled, run_low, run_moves, silent_run}
use Rattle.settle_slot.specs.Slot.Slots.{begun}

-- ---- what a call comes to

-- the store stays, or one object is written
pub data ComesTo (w : World) (x : Effect) : Type 0 where
  Leaves : (world_after w x).store ≡ w.store → ComesTo w x
  Wrote : (o : Object) → written_by x ≡ Some o → (world_after w x).store.version ≡ w.store.version + 1 → IsMoved w.store.rows (world_after w x).store.rows o → ComesTo w x

pub comes_to : (w : World) (x : Effect) → ComesTo w x
unfolding world_after after
comes_to w (OnStore (Says reply)) = Leaves refl
comes_to w (OnStore (Stores change o)) = Wrote o refl refl (inl refl)
comes_to w (OnStore (Removes o)) = Wrote o refl refl (inr refl)
comes_to w (OnDevices a) = Leaves refl
comes_to w (SetsMoment at) = Leaves refl

-- ---- what a write is worth

plain_worth : (kind : SeatKind) (request : Request) → kind ≢ seats.Scheduler → kind ≢ seats.Ops → (is_apart kind request ≡ false) × (worth kind request ≡ 1)
plain_worth seats.Scheduler request scheduler ops = absurd (scheduler refl)
plain_worth seats.Ops request scheduler ops = absurd (ops refl)
plain_worth seats.User request scheduler ops = (refl, refl)
plain_worth seats.Binder request scheduler ops = (refl, refl)
plain_worth seats.ClaimProtect request scheduler ops = (refl, refl)
plain_worth seats.VolumeProtect request scheduler ops = (refl, refl)
plain_worth seats.Agent request scheduler ops = (refl, refl)

-- a write of ops lasts and is worth something, or takes a node back, or is of a phase
ops_worth : (r : Request) (before now : ℕ) → (is_apart seats.Ops r ≡ false → now + worth seats.Ops r ≤ before) → now ≤ before → now + 1 ≤ before + taken_back r + phase_written r
ops_worth (requests.Update (Claim c) given) before now lasts stays = omega (arith, stays)
ops_worth (requests.UpdateStatus key status given) before now lasts stays = omega (arith, stays)
ops_worth _ before now lasts stays = let less = lasts refl in omega (arith, less)

-- a planned fault that came is behind
fault_worth : (r : Request) (reply : Reply) (before now : ℕ) → (IsBackFault reply → now + worth seats.Ops r ≤ before) → now ≤ before → now + erase_failed r reply ≤ before
fault_worth (requests.Erase id) (replies.Refused (refusals.BackFault planned)) before now faults stays = faults tt
fault_worth _ _ before now faults stays = omega (arith, stays)

-- an erase writes nothing in the store
no_erase : (w : World) (kind : SeatKind) (r : Request) (reply : Reply) (o : Object) → Writes w kind r o → erase_failed r reply ≡ 0
no_erase w kind (requests.Erase id) reply o writes = absurd writes
no_erase w kind _ reply o writes = refl

-- ---- each call

module _ (setup : Setup) (seat : ℕ) (x : ActorState) (request : Request) (reply : Reply) (h : List Entry) (called : IsCalled setup seat x request reply h) where
  here : IsRunOf setup h
  here = older_run setup (told_entry seat x request reply ∷ []) h called.run

  history : IsHistory setup (told_entry seat x request reply ∷ h)
  history = runs_are_histories setup (told_entry seat x request reply ∷ h) called.run.run

  came : ComesTo (world setup h) (effect setup (world setup h) x.role.kind request)
  came = comes_to (world setup h) (effect setup (world setup h) x.role.kind request)

  stays : Pays setup (world setup h) x.role.kind request → work_left setup (world setup (told_entry seat x request reply ∷ h)) ≤ work_left setup (world setup h)
  stays pays = (paid_is_less setup h (told_entry seat x request reply ∷ h) history (one_paid setup (told_entry seat x request reply) h pays)).stays

  wrote : (o : Object) → written_by (effect setup (world setup h) x.role.kind request) ≡ Some o → Writes (world setup h) x.role.kind request o
  wrote o written = write_asked setup (world setup h) x.role.kind request o (effect setup (world setup h) x.role.kind request)
      (effect_form setup (world setup h) x.role.kind request (rows_stand_in_order setup h)) written

  lasting : (o : Object) → written_by (effect setup (world setup h) x.role.kind request) ≡ Some o → is_apart x.role.kind request ≡ false → Lasts setup (world setup h) x.role.kind request
  lasting o written plain = other_writes_last setup seat x request h o here.imports history.0 called.stands called.ask plain written

  -- of another actor
  other_call : x.role.kind ≢ seats.Scheduler → x.role.kind ≢ seats.Ops → Pays setup (world setup h) x.role.kind request
      → (world setup (told_entry seat x request reply ∷ h)).store.version + work_left setup (world setup (told_entry seat x request reply ∷ h)) ≤
      (world setup h).store.version + work_left setup (world setup h)
  other_call scheduler ops pays = by came
    where
      by : ComesTo (world setup h) (effect setup (world setup h) x.role.kind request)
          → (world setup (told_entry seat x request reply ∷ h)).store.version + work_left setup (world setup (told_entry seat x request reply ∷ h)) ≤
          (world setup h).store.version + work_left setup (world setup h)
      by (Leaves same) =
          let version : (world setup (told_entry seat x request reply ∷ h)).store.version ≡ (world setup h).store.version = ap (λ s. s.version) same in
          let less = stays pays in
          omega (arith, version, less)
      by (Wrote o written version moved) =
          let plain = plain_worth x.role.kind request scheduler ops in
          let less = pays (lasting o written plain.0) in
          let one_worth = plain.1 in
          omega (arith, version, less, one_worth)

  -- of the scheduler
  scheduler_call : x.role.kind ≡ seats.Scheduler
      → nodes_in (world setup (told_entry seat x request reply ∷ h)) + (world setup h).store.version ≤ nodes_in (world setup h) + (world setup (told_entry seat x request reply ∷ h)).store.version
  scheduler_call kind = by came
    where
      may : RowAllows seats.Scheduler (own seat h) request
      may = (subst (λ k. Licensed k (own seat h) request) kind called.may).1

      by : ComesTo (world setup h) (effect setup (world setup h) x.role.kind request)
          → nodes_in (world setup (told_entry seat x request reply ∷ h)) + (world setup h).store.version ≤ nodes_in (world setup h) + (world setup (told_entry seat x request reply ∷ h)).store.version
      by (Leaves same) =
          let version : (world setup (told_entry seat x request reply ∷ h)).store.version ≡ (world setup h).store.version = ap (λ s. s.version) same in
          let nodes : nodes_in (world setup (told_entry seat x request reply ∷ h)) ≡ nodes_in (world setup h) = ap (λ s. total nodes_on s.rows) same in
          omega (arith, version, nodes)
      by (Wrote o written version moved) =
          let few = scheduled_nodes setup seat h history.0 o (world setup (told_entry seat x request reply ∷ h)).store.rows moved request may
          (subst (λ k. Writes (world setup h) k request o) kind (wrote o written)) in
          omega (arith, version, few)

  -- no other selects a node
  other_nodes_call : IsBuiltKind x.role.kind → x.role.kind ≢ seats.Scheduler → x.role.kind ≢ seats.Ops → nodes_in (world setup (told_entry seat x request reply ∷ h)) ≤ nodes_in (world setup h)
  other_nodes_call built scheduler ops = by came
    where
      by : ComesTo (world setup h) (effect setup (world setup h) x.role.kind request) → nodes_in (world setup (told_entry seat x request reply ∷ h)) ≤ nodes_in (world setup h)
      by (Leaves same) =
          let nodes : nodes_in (world setup (told_entry seat x request reply ∷ h)) ≡ nodes_in (world setup h) = ap (λ s. total nodes_on s.rows) same in
          omega (arith, nodes)
      by (Wrote o written version moved) = other_nodes setup seat h history.0 o (world setup (told_entry seat x request reply ∷ h)).store.rows moved
          x.role.kind request built scheduler ops called.may (wrote o written)

  -- of ops
  ops_call : x.role.kind ≡ seats.Ops → Pays setup (world setup h) x.role.kind request
      → (world setup (told_entry seat x request reply ∷ h)).store.version + work_left setup
      (world setup (told_entry seat x request reply ∷ h)) + nodes_in (world setup (told_entry seat x request reply ∷ h)) + erase_failed request reply
      ≤ (world setup h).store.version + work_left setup (world setup h) + nodes_in (world setup h) + phase_written request
  ops_call kind pays = by came
    where
      may : RowAllows seats.Ops (own seat h) request
      may = (subst (λ k. Licensed k (own seat h) request) kind called.may).1

      by_worth : Lasts setup (world setup h) x.role.kind request → work_left setup (world setup (told_entry seat x request reply ∷ h)) + worth seats.Ops request ≤ work_left setup (world setup h)
      by_worth lasts = let less = pays lasts in let same = ap (λ k. worth k request) kind in omega (arith, less, same)

      by : ComesTo (world setup h) (effect setup (world setup h) x.role.kind request)
          → (world setup (told_entry seat x request reply ∷ h)).store.version + work_left setup
          (world setup (told_entry seat x request reply ∷ h)) + nodes_in (world setup (told_entry seat x request reply ∷ h)) + erase_failed request reply
          ≤ (world setup h).store.version + work_left setup (world setup h) + nodes_in (world setup h) + phase_written request
      by (Leaves same) =
          let version : (world setup (told_entry seat x request reply ∷ h)).store.version ≡ (world setup h).store.version = ap (λ s. s.version) same in
          let nodes : nodes_in (world setup (told_entry seat x request reply ∷ h)) ≡ nodes_in (world setup h) = ap (λ s. total nodes_on s.rows) same in
          let less = fault_worth request reply (work_left setup (world setup h))
          (work_left setup (world setup (told_entry seat x request reply ∷ h))) (λ fault. by_worth (inr (inr (subst IsBackFault history.1 fault)))) (stays pays) in
          omega (arith, version, nodes, less)
      by (Wrote o written version moved) =
          let writes = wrote o written in
          let none = no_erase (world setup h) x.role.kind request reply o writes in
          let less = ops_worth request (work_left setup (world setup h)) (work_left setup (world setup (told_entry seat x request reply ∷ h)))
          (λ plain. by_worth (lasting o written (ap (λ k. is_apart k request) kind ∙ plain))) (stays pays) in
          let few = ops_nodes setup seat h history.0 o (world setup (told_entry seat x request reply ∷ h)).store.rows moved request may (subst (λ k. Writes (world setup h) k request o) kind writes) in
          omega (arith, version, none, less, few)

  -- and what is then under way
  ops_under : (caches : AllKnown) → x.role.kind ≡ seats.Ops → under_fails (told_to x caches request reply).under + phase_written request ≤ under_fails x.under + erase_failed request reply
  ops_under caches kind = by x.given refl
    where
      goes : (u : Option Under) → x.under ≡ u → AnyIsUnderWay x.role u (own seat h) → option_map call_under u ≡ Some request
          → under_fails (task_told (learned x caches request reply) reply u).under + phase_written request ≤ under_fails u + erase_failed request reply
      goes None eu way c = none_some c
      goes (Some u) eu way c =
          let kept : KeepsUnder x.role u (own seat h) = keeps_under x.role u (own seat h) (stood x (own seat h) called.stands) way in
          let asked_it : u.call ≡ request = one u.call request c in
          subst (λ r. under_fails (under_after u reply) + phase_written r ≤ under_fails (Some u) + erase_failed r reply) asked_it (fails_go u reply (kept.of_kind ∙ kind) kept.call)

      read : (k : Kind) (a : NextRead) (r : Request) → read_request k a ≡ r → phase_written r ≡ 0
      read k asks.List r e = sym (ap phase_written e)
      read k (asks.Watch from) r e = sym (ap phase_written e)

      by : (g : Option Given) → x.given ≡ g → under_fails (told_to x caches request reply).under + phase_written request ≤ under_fails x.under + erase_failed request reply
      by None e = none_some (ap (given_call x) (sym e) ∙ called.ask)
      by (Some givens.Start) e = none_some (ap (λ k. start_of k x.role.node x.memory) (sym kind) ∙ (ap (given_call x) (sym e) ∙ called.ask))
      by (Some givens.Task) e =
          let under : (told_to x caches request reply).under ≡ (task_told (learned x caches request reply) reply x.under).under =
          ap (λ g. (given_told (learned x caches request reply) request reply g).under) e in
          let moves = goes x.under refl called.stands.under_way (ap (given_call x) (sym e) ∙ called.ask) in
          let same = ap under_fails under in
          omega (arith, moves, same)
      by (Some (givens.Read k)) e =
          let under : (told_to x caches request reply).under ≡ x.under = ap (λ g. (given_told (learned x caches request reply) request reply g).under) e in
          let same = ap under_fails under in
          let none = read k (ask_of (cache_of k x.caches)) request (one (read_of_kind x.caches k) request (ap (given_call x) (sym e) ∙ called.ask)) in
          omega (arith, same, none)

-- ---- each slot

-- how many writes were done, where the version never falls
pub counted : (setup : Setup) (newer h past : List Entry) → past ≡ newer ++ h → writes_since setup h past + (world setup h).store.version ≡ (world setup past).store.version
counted setup newer h past are = let low = subst (λ es. (world setup h).store.version ≤ (world setup es).store.version) (sym are) (rises setup newer h) in omega (arith, low)

module _ (setup : Setup) (lets : Lets) (seat : ℕ) (old after_ : ActorState) (h past : List Entry) (b left : ℕ) (idle : Bool)
    (run : IsRunOf setup past) (runs : Runs lets seat after_ past left idle (begun old) h b) where
  done : writes_since setup h past + (world setup h).store.version ≡ (world setup past).store.version
  done = let g = run_grows lets seat after_ past left idle (begun old) h b runs in counted setup g.longer.added h past g.longer.are

  pub other_slot : IsBuiltKind old.role.kind → old.role.kind ≢ seats.Scheduler → old.role.kind ≢ seats.Ops → (old.memory.stale ≡ false → old.under ≡ None) → DecisionsPay setup seat old.role
      → writes_since setup h past + work_left setup (world setup past) ≤ work_left setup (world setup h)
  other_slot built scheduler ops rests decides =
      let paid = pays_from setup lets seat old after_ h past b left idle built run runs rests decides in
      let low = run_low setup lets seat after_ past left idle run old.role built (λ w. w.store.version + work_left setup w) (λ u. 0) refl
      (λ memory rows u gives. refl) calls (begun old) h b runs refl paid in
      let n = done in
      omega (arith, low, n)
    where
      calls : (x : ActorState) (caches : AllKnown) (request : Request) (reply : Reply) (hh : List Entry) → x.role ≡ old.role
          → IsCalled setup seat x request reply hh → Pays setup (world setup hh) x.role.kind request
          → (world setup (told_entry seat x request reply ∷ hh)).store.version + work_left setup
          (world setup (told_entry seat x request reply ∷ hh)) + 0 ≤ (world setup hh).store.version + work_left setup (world setup hh) + 0
      calls x caches request reply hh is called pays =
          let low = other_call setup seat x request reply hh called (subst (λ (r : Role). r.kind ≢ seats.Scheduler) (sym is) scheduler) (subst (λ (r : Role). r.kind ≢ seats.Ops) (sym is) ops) pays in
          omega (arith, low)

  pub ops_slot : old.role.kind ≡ seats.Ops → (old.memory.stale ≡ false → old.under ≡ None) → DecisionsPay setup seat old.role
      → writes_since setup h past + to_write setup (world setup past) ≤ to_write setup (world setup h)
  ops_slot kind rests decides = by old.memory.stale refl
    where
      built : IsBuiltKind old.role.kind
      built = subst IsBuiltKind (sym kind) tt

      calls : (x : ActorState) (caches : AllKnown) (request : Request) (reply : Reply) (hh : List Entry) → x.role ≡ old.role
          → IsCalled setup seat x request reply hh → Pays setup (world setup hh) x.role.kind request
          → (world setup (told_entry seat x request reply ∷ hh)).store.version + work_left setup
          (world setup (told_entry seat x request reply ∷ hh)) + nodes_in (world setup (told_entry seat x request reply ∷ hh)) + under_fails (told_to x caches request reply).under
          ≤ (world setup hh).store.version + work_left setup (world setup hh) + nodes_in (world setup hh) + under_fails x.under
      calls x caches request reply hh is called pays =
          let of_kind : x.role.kind ≡ seats.Ops = ap (λ (r : Role). r.kind) is ∙ kind in
          let low = ops_call setup seat x request reply hh called of_kind pays in
          let under = ops_under setup seat x request reply hh called caches of_kind in
          omega (arith, low, under)

      by : (stale : Bool) → old.memory.stale ≡ stale → writes_since setup h past + to_write setup (world setup past) ≤ to_write setup (world setup h)
      by true stale =
          let same = (silent_run setup lets seat after_ past left idle run (begun old) h b runs stale).0 in
          let version = ap (λ es. (world setup es).store.version) same in
          let work = ap (λ es. work_left setup (world setup es)) same in
          let nodes = ap (λ es. nodes_in (world setup es)) same in
          omega (arith, version, work, nodes)
      by false fresh =
          let paid = pays_from setup lets seat old after_ h past b left idle built run runs rests decides in
          let low = run_low setup lets seat after_ past left idle run old.role built
          (λ w. w.store.version + work_left setup w + nodes_in w) under_fails refl (λ memory rows u gives. none_begins old.role memory rows u kind gives) calls (begun old) h b runs refl paid in
          let none : under_fails old.under ≡ 0 = ap under_fails (rests fresh) in
          let n = done in
          omega (arith, low, none, n)

pub others_write_little : OthersWriteLittle
others_write_little setup lets seat old after_ h past b left idle built scheduler ops run rests decides runs =
    other_slot setup lets seat (woken old) after_ h past b left idle run runs built scheduler ops rests decides

pub ops_write_little : OpsWriteLittle
ops_write_little setup lets seat old after_ h past b left idle kind run rests decides runs = ops_slot setup lets seat (woken old) after_ h past b left idle run runs kind rests decides

-- ---- the nodes that are selected

module _ (setup : Setup) (lets : Lets) (seat : ℕ) (old after_ : ActorState) (h past : List Entry) (b left : ℕ) (idle : Bool)
    (run : IsRunOf setup past) (runs : Runs lets seat after_ past left idle (woken old) h b) where
  few_selected : old.role.kind ≡ seats.Scheduler → nodes_in (world setup past) + (world setup h).store.version ≤ nodes_in (world setup h) + (world setup past).store.version
  few_selected kind = run_moves setup lets seat after_ past left idle run old.role (subst IsBuiltKind (sym kind) tt)
      (λ v w. nodes_in w + v.store.version ≤ nodes_in v + w.store.version) (λ w. omega arith) (λ u v w first then_. omega (arith, first, then_)) calls (woken old) h b runs refl
    where
      calls : (x : ActorState) (request : Request) (reply : Reply) (hh : List Entry) → x.role ≡ old.role → IsCalled setup seat x request reply hh
          → nodes_in (world setup (told_entry seat x request reply ∷ hh)) + (world setup hh).store.version ≤ nodes_in (world setup hh) +
          (world setup (told_entry seat x request reply ∷ hh)).store.version
      calls x request reply hh is called = scheduler_call setup seat x request reply hh called (ap (λ (r : Role). r.kind) is ∙ kind)

  none_selected : IsBuiltKind old.role.kind → old.role.kind ≢ seats.Scheduler → old.role.kind ≢ seats.Ops → nodes_in (world setup past) ≤ nodes_in (world setup h)
  none_selected built scheduler ops = run_moves setup lets seat after_ past left idle run old.role built (λ v w. nodes_in w ≤ nodes_in v) (λ w. omega
      arith) (λ u v w first then_. omega (arith, first, then_)) calls (woken old) h b runs refl
    where
      calls : (x : ActorState) (request : Request) (reply : Reply) (hh : List Entry) → x.role ≡ old.role → IsCalled setup seat x request reply hh
          → nodes_in (world setup (told_entry seat x request reply ∷ hh)) ≤ nodes_in (world setup hh)
      calls x request reply hh is called = other_nodes_call setup seat x request reply hh called (subst (λ (r : Role). IsBuiltKind r.kind) (sym is)
          built) (subst (λ (r : Role). r.kind ≢ seats.Scheduler) (sym is) scheduler) (subst (λ (r : Role). r.kind ≢ seats.Ops) (sym is) ops)

pub schedulers_select_few : SchedulersSelectFew
schedulers_select_few setup lets seat old after_ h past b left idle kind run runs =
    let g = run_grows lets seat after_ past left idle (woken old) h b runs in
    let n = counted setup g.longer.added h past g.longer.are in
    let few = few_selected setup lets seat old after_ h past b left idle run runs kind in
    omega (arith, n, few)

pub others_select_none : OthersSelectNone
others_select_none setup lets seat old after_ h past b left idle built scheduler ops run runs = none_selected setup lets seat old after_ h past b left idle run runs built scheduler ops
