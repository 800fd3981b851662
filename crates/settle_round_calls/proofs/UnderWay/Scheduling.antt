-- What a scheduler has under way writes each object once, at the version that was told.
use Rattle.std.proofs.Common.{◌≡◌, ◌∙◌, ℕ, zero, suc, ◌+◌, ◌≤◌, ◌<◌, List, [], ◌∷◌, drop, length, Bool, true, false, true≢false, Option, Some, None, refl, sym, ap, subst, arith, if◌then◌else◌}
use Rattle.std.specs.Prelude.{◌&&◌, nat_lt, option_map, slice_get, ⊤}
use Rattle.std.specs.List.{AllByRecursion}
use Rattle.std.proofs.lemmas.Bool.Decides.{nat_tests}
use Rattle.kube_objects.specs.declared.key.Key.{Key}
use Rattle.kube_parts.specs.declared.parts.Kind.{Kind}
use Rattle.kube_parts.specs.declared.parts.Kind.TheVariants as kinds
use Rattle.kube_objects.specs.declared.objects.Claim.{Claim as ClaimData}
use Rattle.kube_objects.specs.declared.objects.Volume.{Volume as VolumeData}
use Rattle.kube_objects.specs.declared.objects.Object.{Object}
use Rattle.kube_objects.specs.declared.objects.Object.TheVariants.{Class, Node, Volume, Claim, Pod}
use Rattle.kube_objects.specs.Keys.{AreRows, key_of, meta_of, put_row, row_at}
use Rattle.kube_objects.proofs.KeyOrder.{row_at_key}
use Rattle.call_types.specs.declared.entry.Entry.{Entry}
use Rattle.call_types.specs.declared.reply.Reply.{Reply}
use Rattle.call_types.specs.declared.reply.Reply.TheVariants as replies
use Rattle.call_types.specs.declared.request.Request.{Request}
use Rattle.call_types.specs.declared.request.Request.TheVariants as requests
use Rattle.call_types.specs.declared.request.SeatKind.{SeatKind}
use Rattle.call_types.specs.declared.request.SeatKind.TheVariants as seats
use Rattle.call_types.specs.declared.setup.Setup.{Setup}
use Rattle.binder_model.specs.At.{IsWrittenAt}
use Rattle.binder_model.specs.BinderLicence.{MayTake}
use Rattle.binder_model.specs.Licence.{RowAllows}
use Rattle.binder_model.specs.SchedulerLicence.{MaySelectNode}
use Rattle.binder_model.specs.Store.{at_version, with_meta}
use Rattle.binder_model.specs.Told.{IsClaimWith, IsVolumeWith, ToldObject, own}
use Rattle.binder_model.specs.World.{IsHistory, World, world}
use Rattle.model_laws.proofs.Lists.{none_some, one}
use Rattle.model_laws.proofs.Stood.{version_stood}
use Rattle.model_laws.proofs.Truths.{told_is_true}
use Rattle.safety_law.specs.Invariant.Writes.{IsUpdate, Writes}
use Rattle.safety_law.proofs.Invariant.Whence.{updated_next}
use Rattle.binder_machines.specs.declared.machine.Machine.{Machine}
use Rattle.binder_machines.specs.Machines.{moved}
use Rattle.pod_scheduler.specs.declared.schedule.ScheduleOp.{ScheduleOp}
use Rattle.pod_scheduler.specs.declared.schedule.ScheduleStep.{ScheduleStep}
use Rattle.pod_scheduler.specs.declared.schedule.ScheduleStep.TheVariants as steps
use Rattle.pod_scheduler.specs.Evidence.{MayUpdate, MayWrite}
use Rattle.pod_scheduler.specs.Schedules.{is_refused, is_write, is_written, only_write, schedule_call, schedule_call_at, schedule_moved, schedule_step_after}
use Rattle.settle_measure.specs.Left.Measure.{total, unless}
use Rattle.settle_measure.proofs.Left.Sums.{none_paid, none_pays, put_falls}
use Rattle.worker_core.specs.declared.task.Task.{Task}
use Rattle.worker_core.specs.declared.task.Task.TheVariants as tasks
use Rattle.worker_core.specs.declared.task.Under.{Under}
use Rattle.worker_core.specs.Steps.Evidence.{TaskKeeps}
use Rattle.worker_core.specs.Tasks.{task_call, task_moved, under_after, with_call, with_task}
use Rattle.settle_writes.proofs.Done.Doing.{told_one}
use Rattle.settle_round_calls.specs.UnderWay.Ends.{volume_write}
use Rattle.settle_round_calls.proofs.UnderWay.Counts.{low_claim, low_volume, task_volumes, task_writes, under_by, with_few, with_none}
use Rattle.safety_law.proofs.Invariant.StandsAt.{same_version}

-- ---- writes at versions no greater than one

abbrev pub IsOld : ℕ → Request → Type 0
IsOld base (requests.Update (Volume new) (Some n)) = n ≤ base
IsOld base (requests.Update (Claim new) (Some n)) = n ≤ base
IsOld base (requests.Update new given) = ⊥
IsOld base request = ⊤

abbrev pub AreOld : ℕ → List Request → Type 0
AreOld base [] = ⊤
AreOld base (r ∷ rs) = IsOld base r × AreOld base rs

abbrev pub StepIsOld : ℕ → ScheduleStep → List Request → Type 0
StepIsOld base (steps.Writes place) writes = AreOld base (drop place writes)
StepIsOld base step writes = ⊤

abbrev pub TaskIsOld : ℕ → Task → Type 0
TaskIsOld base (tasks.Schedule op) = StepIsOld base op.step op.writes
TaskIsOld base task = ⊤

-- ---- each write that is under way was told: it is no newer than the store

module _ (setup : Setup) (seat : ℕ) (h : List Entry) (history : IsHistory setup h) where
  abbrev now : ℕ
  now = (world setup h).store.version

  told_low : (P : Object → Type 0) → ToldObject P (own seat h) → (o : Object) × P o × ((meta_of o).version ≤ now)
  told_low P told = let r = told_one P (own seat h) told in (r.0, r.2, version_stood setup h r.0 (told_is_true setup h seat r.0 history r.1))

  module _ (new : VolumeData) (given : Option ℕ) where
    abbrev IsTaken : VolumeData → Type 0
    IsTaken o = IsWrittenAt given new.meta.namespace new.meta.name o.meta × MayTake (own seat h) o new

    of_volume : (x : Object) → IsVolumeWith IsTaken x → (meta_of x).version ≤ now → IsOld now (requests.Update (Volume new) given)
    of_volume (Volume v) q low = subst (λ g. IsOld now (requests.Update (Volume new) g)) (sym q.0.version) low
    of_volume (Claim x) q low = absurd q
    of_volume (Class x) q low = absurd q
    of_volume (Node x) q low = absurd q
    of_volume (Pod x) q low = absurd q

  module _ (new : ClaimData) (given : Option ℕ) where
    abbrev IsPlaced : ClaimData → Type 0
    IsPlaced o = IsWrittenAt given new.meta.namespace new.meta.name o.meta × MaySelectNode (own seat h) o new

    of_claim : (x : Object) → IsClaimWith IsPlaced x → (meta_of x).version ≤ now → IsOld now (requests.Update (Claim new) given)
    of_claim (Claim c) q low = subst (λ g. IsOld now (requests.Update (Claim new) g)) (sym q.0.version) low
    of_claim (Volume x) q low = absurd q
    of_claim (Class x) q low = absurd q
    of_claim (Node x) q low = absurd q
    of_claim (Pod x) q low = absurd q

  allowed_old : (r : Request) → RowAllows seats.Scheduler (own seat h) r → IsOld now r
  allowed_old (requests.Update (Volume new) given) may = let t = told_low (IsVolumeWith (IsTaken new given)) may in of_volume new given t.0 t.1 t.2
  allowed_old (requests.Update (Claim new) given) may = let t = told_low (IsClaimWith (IsPlaced new given)) may in of_claim new given t.0 t.1 t.2
  allowed_old (requests.Update (Class new) given) may = absurd may
  allowed_old (requests.Update (Node new) given) may = absurd may
  allowed_old (requests.Update (Pod new) given) may = absurd may
  allowed_old _ may = tt

  updates_old : (r : Request) → MayUpdate (own seat h) r → IsOld now r
  updates_old (requests.Update new given) may = allowed_old (requests.Update new given) may
  updates_old _ may = absurd may

  each_old : (rs : List Request) → AllByRecursion (MayUpdate (own seat h)) rs → AreOld now rs
  each_old [] may = tt
  each_old (r ∷ rs) may = (updates_old r may.0, each_old rs may.1)

  all_old : (rs : List Request) → MayWrite (own seat h) rs → AreOld now rs
  all_old [] may = tt
  all_old (r ∷ rs) may = (allowed_old r may.0, each_old rs may.1)

  pub task_old : (t : Task) → TaskKeeps t (own seat h) → TaskIsOld now t
  task_old (tasks.Schedule op) keeps = by op.step keeps
    where
      by : (step : ScheduleStep) → TaskKeeps (tasks.Schedule (record op { step = step })) (own seat h) → StepIsOld now step op.writes
      by (steps.Writes place) k = all_old (drop place op.writes) k
      by steps.Done k = tt
      by steps.Parked k = tt
  task_old (tasks.Binder m) keeps = tt
  task_old (tasks.ClaimProtect op) keeps = tt
  task_old (tasks.VolumeProtect op) keeps = tt
  task_old (tasks.Agent op) keeps = tt
  task_old (tasks.Provision op) keeps = tt
  task_old (tasks.Erase op) keeps = tt

-- ---- and stays so with each answer

module _ (base : ℕ) where
  rest_old : (rs : List Request) (place : ℕ) → AreOld base (drop place rs) → AreOld base (drop (suc place) rs)
  rest_old [] zero old = tt
  rest_old [] (suc place) old = tt
  rest_old (r ∷ rs) zero old = old.1
  rest_old (r ∷ rs) (suc place) old = rest_old rs place old

  head_old : (rs : List Request) (place : ℕ) (r : Request) → AreOld base (drop place rs) → slice_get rs place ≡ Some r → IsOld base r
  head_old [] zero r old at = none_some at
  head_old [] (suc place) r old at = none_some at
  head_old (x ∷ rs) zero r old at = subst (IsOld base) (one x r at) old.0
  head_old (x ∷ rs) (suc place) r old at = head_old rs place r old at

  next_place : (place : ℕ) → suc place ≡ place + 1
  next_place place = omega arith

  step_on : (step : ScheduleStep) (writes : List Request) (reply : Reply) → StepIsOld base step writes → StepIsOld base (schedule_step_after writes step reply) writes
  step_on (steps.Writes place) writes reply old = by (is_refused reply) (is_written reply) (nat_lt place (length writes))
    where
      by : (a b d : Bool) → StepIsOld base (if a then steps.Parked else if b && d then steps.Writes (place + 1) else steps.Done) writes
      by true b d = tt
      by false true true = subst (λ n. AreOld base (drop n writes)) (next_place place) (rest_old writes place old)
      by false true false = tt
      by false false d = tt
  step_on steps.Done writes reply old = tt
  step_on steps.Parked writes reply old = tt

  abbrev IsOldIf : Option Task → Type 0
  IsOldIf None = ⊤
  IsOldIf (Some t) = TaskIsOld base t

  moved_old : (t : Task) (reply : Reply) → TaskIsOld base t → IsOldIf (task_moved t reply)
  unfolding schedule_moved
  moved_old (tasks.Schedule op) reply old = step_on op.step op.writes reply old
  moved_old (tasks.Binder m) reply old = by (moved m reply)
    where
      by : (x : Option Machine) → IsOldIf (option_map (λ k. tasks.Binder k) x)
      by None = tt
      by (Some k) = tt
  moved_old (tasks.ClaimProtect op) reply old = tt
  moved_old (tasks.VolumeProtect op) reply old = tt
  moved_old (tasks.Agent op) reply old = tt
  moved_old (tasks.Provision op) reply old = tt
  moved_old (tasks.Erase op) reply old = tt

  pub kept_old : (u n : Under) (reply : Reply) → TaskIsOld base u.task → under_after u reply ≡ Some n → TaskIsOld base n.task
  kept_old u n reply old is = by (task_moved u.task reply) (moved_old u.task reply old) is
    where
      of : (t : Task) (c : Option Request) → TaskIsOld base t → with_call u.key t c ≡ Some n → TaskIsOld base n.task
      of t None o e = none_some e
      of t (Some r) o e = subst (λ (x : Under). TaskIsOld base x.task) (one _ n e) o

      by : (x : Option Task) → IsOldIf x → with_task u.key x ≡ Some n → TaskIsOld base n.task
      by None o e = none_some e
      by (Some t) o e = of t (task_call t) o e

-- ---- what a write leaves

abbrev is_volume_kind : Kind → Bool
is_volume_kind kinds.PersistentVolume = true
is_volume_kind kind = false

abbrev is_claim_kind : Kind → Bool
is_claim_kind kinds.PersistentVolumeClaim = true
is_claim_kind kind = false

low_one : (base n : ℕ) → n ≤ base → unless (nat_lt base n) 1 ≡ 1
low_one base n le = let e : nat_lt base n ≡ false = grind (arith, nat_tests) in ap (λ b. unless b 1) e

high_none : (base n : ℕ) → base < n → unless (nat_lt base n) 1 ≡ 0
high_none base n lt = let e : nat_lt base n ≡ true = grind (arith, nat_tests) in ap (λ b. unless b 1) e

module _ (base : ℕ) where
  old_volume : (o : Object) → is_volume_kind (key_of o).kind ≡ true → (meta_of o).version ≤ base → low_volume base o ≡ 1
  old_volume (Volume v) k le = low_one base v.meta.version le
  old_volume (Claim x) k le = absurd (true≢false (sym k))
  old_volume (Class x) k le = absurd (true≢false (sym k))
  old_volume (Node x) k le = absurd (true≢false (sym k))
  old_volume (Pod x) k le = absurd (true≢false (sym k))

  old_claim : (o : Object) → is_claim_kind (key_of o).kind ≡ true → (meta_of o).version ≤ base → low_claim base o ≡ 1
  old_claim (Claim c) k le = low_one base c.meta.version le
  old_claim (Volume x) k le = absurd (true≢false (sym k))
  old_claim (Class x) k le = absurd (true≢false (sym k))
  old_claim (Node x) k le = absurd (true≢false (sym k))
  old_claim (Pod x) k le = absurd (true≢false (sym k))

  new_volume : (o : Object) → base < (meta_of o).version → low_volume base o ≡ 0
  new_volume (Volume v) lt = high_none base v.meta.version lt
  new_volume (Claim x) lt = refl
  new_volume (Class x) lt = refl
  new_volume (Node x) lt = refl
  new_volume (Pod x) lt = refl

  new_claim : (o : Object) → base < (meta_of o).version → low_claim base o ≡ 0
  new_claim (Claim c) lt = high_none base c.meta.version lt
  new_claim (Volume x) lt = refl
  new_claim (Class x) lt = refl
  new_claim (Node x) lt = refl
  new_claim (Pod x) lt = refl

module _ (base : ℕ) (w : World) (order : AreRows w.store.rows) (begun : base ≤ w.store.version) (kind : SeatKind) (new : Object) (n : ℕ) (o : Object)
    (rows : List Object) (put : rows ≡ put_row o w.store.rows) (u : IsUpdate w.store kind new (Some n) o) (low : n ≤ base) where
  there : row_at (key_of o) w.store.rows ≡ Some u.old
  there = (updated_next w.store kind new (Some n) o u).there

  newer : base < (meta_of o).version
  newer = let v = (updated_next w.store kind new (Some n) o u).version in omega (arith, v, begun)

  older : (meta_of u.old).version ≤ base
  older = let v = same_version n (meta_of u.old).version u.version in omega (arith, v, low)

  key_is : key_of u.old ≡ key_of new
  key_is = row_at_key (key_of new) u.old w.store.rows u.there

  falls : (f : Object → ℕ) → total f rows + f u.old ≤ total f w.store.rows + f o
  falls f =
      let e = ap (total f) put in
      let h = put_falls f f none_paid o u.old w.store.rows order there (λ x i other. omega arith) in
      let z = none_pays w.store.rows in
      omega (arith, e, h, z)

  volumes_fall : total (low_volume base) rows ≤ total (low_volume base) w.store.rows
  volumes_fall = let h = falls (low_volume base) in let z = new_volume base o newer in omega (arith, h, z)

  claims_fall : total (low_claim base) rows ≤ total (low_claim base) w.store.rows
  claims_fall = let h = falls (low_claim base) in let z = new_claim base o newer in omega (arith, h, z)

  volume_falls : is_volume_kind (key_of new).kind ≡ true → total (low_volume base) rows + 1 ≤ total (low_volume base) w.store.rows
  volume_falls k =
      let h = falls (low_volume base) in
      let z = new_volume base o newer in
      let a = old_volume base u.old (ap (λ (x : Key). is_volume_kind x.kind) key_is ∙ k) older in
      omega (arith, h, z, a)

  claim_falls : is_claim_kind (key_of new).kind ≡ true → total (low_claim base) rows + 1 ≤ total (low_claim base) w.store.rows
  claim_falls k =
      let h = falls (low_claim base) in
      let z = new_claim base o newer in
      let a = old_claim base u.old (ap (λ (x : Key). is_claim_kind x.kind) key_is ∙ k) older in
      omega (arith, h, z, a)

-- a pod that is bound ends what is under way
pod_written : (p : Object) (version : ℕ) (o : Object) → o ≡ at_version p version → is_written (replies.Done p) ≡ false → is_written (replies.Done o) ≡ false
unfolding at_version with_meta
pod_written (Volume x) version o e none = absurd (true≢false none)
pod_written (Claim x) version o e none = absurd (true≢false none)
pod_written (Class x) version o e none = ap (λ y. is_written (replies.Done y)) e
pod_written (Node x) version o e none = ap (λ y. is_written (replies.Done y)) e
pod_written (Pod x) version o e none = ap (λ y. is_written (replies.Done y)) e

no_next : (writes : List Request) (step : ScheduleStep) (reply : Reply) → is_written reply ≡ false → schedule_call_at writes (schedule_step_after writes step reply) ≡ None
no_next writes steps.Done reply none = refl
no_next writes steps.Parked reply none = refl
no_next writes (steps.Writes place) reply none = by (is_refused reply) (is_written reply) (nat_lt place (length writes)) none
  where
    by : (a b d : Bool) → b ≡ false → schedule_call_at writes (if a then steps.Parked else if b && d then steps.Writes (place + 1) else steps.Done) ≡ None
    by true b d e = refl
    by false true d e = absurd (true≢false e)
    by false false d e = refl

pub schedule_ends : (op : ScheduleOp) (reply : Reply) → is_written reply ≡ false → task_call (tasks.Schedule (schedule_moved op reply)) ≡ None
unfolding schedule_call schedule_moved
schedule_ends op reply none = no_next op.writes op.step reply none

-- the next call is a write, at a version that is old
data IsCall (base : ℕ) (request : Request) : Type 0 where
  IsNow : IsOld base request → is_write request ≡ true → IsCall base request

call_is : (base : ℕ) (op : ScheduleOp) (request : Request) → StepIsOld base op.step op.writes → schedule_call op ≡ Some request → IsCall base request
unfolding schedule_call
call_is base op request old call = by op.step old call
  where
    test : (r : Request) (b : Bool) → is_write r ≡ b → IsOld base r → (if b then Some r else None) ≡ Some request → IsCall base request
    test r true e o c = subst (IsCall base) (one r request c) (IsNow o e)
    test r false e o c = none_some c

    at : (place : ℕ) (x : Option Request) → slice_get op.writes place ≡ x → AreOld base (drop place op.writes) → only_write x ≡ Some request → IsCall base request
    at place None e o c = none_some c
    at place (Some r) e o c = test r (is_write r) refl (head_old base op.writes place r o e) c

    by : (step : ScheduleStep) → StepIsOld base step op.writes → schedule_call_at op.writes step ≡ Some request → IsCall base request
    by (steps.Writes place) o c = at place (slice_get op.writes place) refl o c
    by steps.Done o c = none_some c
    by steps.Parked o c = none_some c

-- what is left, of writes and of writes into volumes
pub record LeavesFewer (base : ℕ) (old new : List Object) (t : Task) (request : Request) (reply : Reply) (x : Option Under) : Type 0 where
  pub writes : under_by (task_writes base new) x + 1 ≤ task_writes base old t
  pub volumes : volume_write request reply + under_by (task_volumes base new) x ≤ task_volumes base old t

pub schedule_wrote : (base : ℕ) (w : World) → AreRows w.store.rows → base ≤ w.store.version
    → (kind : SeatKind) (key : Key) (op : ScheduleOp) (request : Request) (o : Object) (rows : List Object) → rows ≡ put_row o w.store.rows → Writes w kind request o
    → StepIsOld base op.step op.writes → schedule_call op ≡ Some request
    → LeavesFewer base w.store.rows rows (tasks.Schedule op) request (replies.Done o) (with_task key (task_moved (tasks.Schedule op) (replies.Done o)))
schedule_wrote base w order begun kind key op request o rows put writes old call = by request (call_is base op request old call) writes
  where
    t : Task
    t = tasks.Schedule (schedule_moved op (replies.Done o))

    few_writes : under_by (task_writes base rows) (with_call key t (task_call t)) ≤ task_writes base rows t
    few_writes = with_few (task_writes base rows) key t (task_call t)

    few_volumes : under_by (task_volumes base rows) (with_call key t (task_call t)) ≤ task_volumes base rows t
    few_volumes = with_few (task_volumes base rows) key t (task_call t)

    by : (r : Request) → IsCall base r → Writes w kind r o → LeavesFewer base w.store.rows rows (tasks.Schedule op) r (replies.Done o) (with_call key t (task_call t))
    by (requests.Update (Volume new) (Some n)) (IsNow low is) u =
        let a = volume_falls base w order begun kind (Volume new) n o rows put u low refl in
        let b = claims_fall base w order begun kind (Volume new) n o rows put u low in
        let c = few_writes in
        let d = few_volumes in
        record { writes = omega (arith, a, b, c); volumes = omega (arith, a, d) }
    by (requests.Update (Claim new) (Some n)) (IsNow low is) u =
        let a = claim_falls base w order begun kind (Claim new) n o rows put u low refl in
        let b = volumes_fall base w order begun kind (Claim new) n o rows put u low in
        let c = few_writes in
        let d = few_volumes in
        record { writes = omega (arith, a, b, c); volumes = omega (arith, b, d) }
    by (requests.Update (Volume new) None) (IsNow low is) u = absurd low
    by (requests.Update (Claim new) None) (IsNow low is) u = absurd low
    by (requests.Update (Class new) given) (IsNow low is) u = absurd low
    by (requests.Update (Node new) given) (IsNow low is) u = absurd low
    by (requests.Update (Pod new) given) (IsNow low is) u = absurd low
    by (requests.BindPod pod uid node) (IsNow low is) i =
        let none = schedule_ends op (replies.Done o) (pod_written (Pod (record i.pod { node = node })) (w.store.version + 1) o i.is refl) in
        let a = with_none (task_writes base rows) key t (task_call t) none in
        let b = with_none (task_volumes base rows) key t (task_call t) none in
        record { writes = omega (arith, a); volumes = omega (arith, b) }
    by _ (IsNow low is) u = absurd (true≢false (sym is))
