-- What a scheduler begins for a pod has no more writes than the pod has claims, and one; each call leaves fewer.
use Rattle.std.proofs.Common.{
  ◌≡◌,
  ℕ,
  suc,
  ◌+◌,
  ◌-◌,
  ◌≤◌,
  ◌<◌,
  List,
  [],
  ◌∷◌,
  ◌++◌,
  length,
  length-append,
  Bool,
  true,
  false,
  true≢false,
  Option,
  Some,
  None,
  filter,
  refl,
  sym,
  ap,
  subst,
  arith,
  if◌then◌else◌,
}
use Rattle.std.specs.Prelude.{◌&&◌, filter_map, map, nat_lt, slice_get}
use Rattle.std.specs.Ordering.{is_gt}
use Rattle.std.proofs.lemmas.Option.{slice_get_within}
use Rattle.kube_objects.specs.declared.key.Key.{Key}
use Rattle.kube_parts.specs.declared.uid.Uid.{Uid}
use Rattle.kube_objects.specs.declared.objects.Claim.{Claim as ClaimData}
use Rattle.kube_objects.specs.declared.objects.Node.{Node as NodeData}
use Rattle.kube_objects.specs.declared.objects.Pod.{Pod as PodData}
use Rattle.kube_objects.specs.declared.objects.Volume.{Volume as VolumeData}
use Rattle.kube_objects.specs.declared.objects.Object.{Object}
use Rattle.kube_objects.specs.declared.objects.Object.TheVariants.{Class, Node, Volume, Claim, Pod}
use Rattle.kube_objects.specs.Bindings.{is_scheduled}
use Rattle.kube_objects.specs.Keys.{row_at}
use Rattle.call_types.specs.declared.reply.Reply.{Reply}
use Rattle.call_types.specs.declared.request.Request.{Request}
use Rattle.call_types.specs.declared.request.SeatKind.{SeatKind}
use Rattle.call_types.specs.declared.request.SeatKind.TheVariants as seats
use Rattle.binder_model.specs.Choice.{IsProvisioned, Share, TakesVolume, by_size, claim_cmp, claim_named, claims_of, insert_claim, is_other}
use Rattle.delayed_binding.specs.declared.choice.Choice.{Choice}
use Rattle.delayed_binding.specs.declared.choice.Choice.TheVariants.{Assign, NoNode, Prepare, Wait}
use Rattle.delayed_binding.specs.Choices.{
  IsChoice,
  IsChoiceAt,
  IsCompleted,
  IsSearching,
  IsServedElsewhere,
  IsUnderWay,
  LacksClaim,
  Prepares,
  Stage,
  binds_of,
  others_in,
  pair_of,
  provisions_of,
  stage_of,
}
use Rattle.delayed_binding.specs.Writes.{bind_write, node_write, writes_of}
use Rattle.volume_match.specs.Volumes.{volume_at}
use Rattle.model_laws.proofs.Lists.{none_some, one}
use Rattle.pod_scheduler.specs.declared.schedule.ScheduleOp.{ScheduleOp}
use Rattle.pod_scheduler.specs.declared.schedule.ScheduleStep.{ScheduleStep}
use Rattle.pod_scheduler.specs.declared.schedule.ScheduleStep.TheVariants as steps
use Rattle.pod_scheduler.specs.declared.tries.Tried.{Tried}
use Rattle.pod_scheduler.specs.Decisions.{BeginsIf, are_known, begun_with, binding, last_refused, present, writes_for}
use Rattle.pod_scheduler.specs.Schedules.{is_refused, is_written, only_write, schedule_call, schedule_call_at, schedule_moved, schedule_step_after}
use Rattle.worker_core.specs.declared.role.Role.{Role}
use Rattle.worker_core.specs.declared.task.First.TheVariants as firsts
use Rattle.worker_core.specs.declared.task.Task.{Task}
use Rattle.worker_core.specs.declared.task.Task.TheVariants as tasks
use Rattle.worker_core.specs.declared.task.Under.{Under}
use Rattle.worker_core.specs.Memories.{Memory}
use Rattle.worker_core.specs.Steps.Evidence.{task_kind}
use Rattle.worker_core.specs.Tasks.{GivesCall, IsFirstOf, IsPodFirst, task_call, task_moved, under_after, with_call, with_task}
use Rattle.settle_write_counts.specs.Scheduler.Pods.{pod_writes}

-- ---- lengths

inserted : (c : ClaimData) (cs : List ClaimData) → length (insert_claim c cs) ≡ length cs + 1
inserted c [] = refl
inserted c (d ∷ ds) = by (is_gt (claim_cmp c d)) (inserted c ds)
  where
    by : (b : Bool) → length (insert_claim c ds) ≡ length ds + 1 → length (if b then d ∷ insert_claim c ds else c ∷ d ∷ ds) ≡ length (d ∷ ds) + 1
    by true rest = omega (arith, rest)
    by false rest = omega arith

pub sized : (cs : List ClaimData) → length (by_size cs) ≡ length cs
sized [] = refl
sized (c ∷ cs) = let a = inserted c (by_size cs) in let b = sized cs in omega (arith, a, b)

pub filtered : {X : Type 0} (p : X → Bool) (xs : List X) → length (filter p xs) ≤ length xs
filtered p [] = omega arith
filtered p (x ∷ xs) = by (p x) (filtered p xs)
  where
    by : (b : Bool) → length (filter p xs) ≤ length xs → length (if b then x ∷ filter p xs else filter p xs) ≤ suc (length xs)
    by true rest = omega (arith, rest)
    by false rest = omega (arith, rest)

pub mapped : {X Y : Type 0} (f : X → Option Y) (xs : List X) → length (filter_map f xs) ≤ length xs
mapped f [] = omega arith
mapped {Y = Y} f (x ∷ xs) = by (f x) refl (mapped f xs)
  where
    by : (y : Option Y) → f x ≡ y → length (filter_map f xs) ≤ length xs → length (filter_map f (x ∷ xs)) ≤ suc (length xs)
    by None e rest = rw e (omega (arith, rest))
    by (Some y) e rest = rw e (omega (arith, rest))

presents : {X : Type 0} (xs : List (Option X)) → length (present xs) ≤ length xs
presents [] = omega arith
presents (None ∷ xs) = let rest = presents xs in omega (arith, rest)
presents (Some x ∷ xs) = let rest = presents xs in omega (arith, rest)

pub counted : {X Y : Type 0} (f : X → Y) (xs : List X) → length (map f xs) ≡ length xs
counted f [] = refl
counted f (x ∷ xs) = let rest = counted f xs in omega (arith, rest)

-- each claim takes a volume or is to be provisioned
shared : (rows : List Object) (cs : List ClaimData) (shares : List Share) → length (binds_of rows cs shares) + length (provisions_of cs shares) ≤ length cs
shared rows [] shares = omega arith
shared rows (c ∷ cs) [] = omega arith
shared rows (c ∷ cs) (IsProvisioned ∷ shares) = let rest = shared rows cs shares in omega (arith, rest)
shared rows (c ∷ cs) (TakesVolume place ∷ shares) = by (volume_at rows place) (shared rows cs shares)
  where
    by : (v : Option VolumeData) → length (binds_of rows cs shares) + length (provisions_of cs shares) ≤ length cs
        → length (pair_of c v ++ binds_of rows cs shares) + length (provisions_of cs shares) ≤ suc (length cs)
    by None rest = omega (arith, rest)
    by (Some v) rest = omega (arith, rest)

-- ---- the writes of a choice

abbrev is_preparing : Choice → Bool
is_preparing (Prepare node binds provisions) = true
is_preparing choice = false

few_shares : (rows : List Object) (p : PodData) (last : Option (List ℕ)) (node : List ℕ) (binds : List (Key × Key)) (provisions : List Key)
    → IsChoice rows p last (Prepare node binds provisions) → length binds + length provisions ≤ length p.claims
few_shares rows p last node binds provisions chosen = of (stage_of rows p) chosen
  where
    prepares : (n : NodeData) → Prepares rows (claims_of rows p) n binds provisions → length binds + length provisions ≤ length p.claims
    prepares n q =
        let a = shared rows (others_in rows (claims_of rows p)) q.shares in
        let b = sized (filter (is_other rows) (claims_of rows p)) in
        let c = filtered (is_other rows) (claims_of rows p) in
        let d = mapped (claim_named rows p.meta.namespace) p.claims in
        let e = ap length q.binds_are in
        let f = ap length q.provisions_are in
        omega (arith, a, b, c, d, e, f)

    of : (stage : Stage) → IsChoiceAt stage rows (claims_of rows p) last (Prepare node binds provisions) → length binds + length provisions ≤ length p.claims
    of LacksClaim e = absurd (true≢false (ap is_preparing e))
    of IsCompleted e = absurd e
    of IsServedElsewhere e = absurd (true≢false (ap is_preparing e))
    of IsUnderWay e = absurd (true≢false (ap is_preparing e))
    of IsSearching e = prepares e.node e.prepares

writes_few : (rows : List Object) (p : PodData) (last : Option (List ℕ)) (choice : Choice) → IsChoice rows p last choice → length (writes_for rows p choice) ≤ 1 + length p.claims
writes_few rows p last (Assign node) chosen = by p.meta.uid
  where
    by : (uid : Option Uid) → length (binding p uid node) ≤ 1 + length p.claims
    by None = omega arith
    by (Some uid) = omega arith
writes_few rows p last (Prepare node binds provisions) chosen = by (are_known rows p)
  where
    by : (b : Bool) → length (if b then present (writes_of rows (Prepare node binds provisions)) else []) ≤ 1 + length p.claims
    by false = omega arith
    by true =
        let a = presents (writes_of rows (Prepare node binds provisions)) in
        let b = length-append (map (bind_write rows) binds) (map (node_write rows node) provisions) in
        let c = counted (bind_write rows) binds in
        let d = counted (node_write rows node) provisions in
        let e = few_shares rows p last node binds provisions chosen in
        omega (arith, a, b, c, d, e)
writes_few rows p last Wait chosen = omega arith
writes_few rows p last NoNode chosen = omega arith

-- ---- what is still to be written

abbrev pub step_writes : List Request → ScheduleStep → ℕ
step_writes writes (steps.Writes place) = length writes - place
step_writes writes step = 0

abbrev pub task_writes : Task → ℕ
task_writes (tasks.Schedule op) = step_writes op.writes op.step
task_writes t = 0

abbrev pub under_writes : Option Under → ℕ
under_writes None = 0
under_writes (Some u) = task_writes u.task

abbrev pub writes_if : Option Object → ℕ
writes_if None = 0
writes_if (Some o) = pod_writes o

abbrev pub key_writes : List Object → Key → ℕ
key_writes rows key = writes_if (row_at key rows)

-- what begins on the row of a pod
begun_few : (rows : List Object) (refused : List Tried) (row : Option Object) (t : Task) → IsPodFirst rows refused row (firsts.Begins t) → task_writes t ≤ writes_if row
begun_few rows refused (Some (Pod p)) (tasks.Schedule op) first = by (is_scheduled p) first
  where
    of : (ws : List Request) → length ws ≤ 1 + length p.claims → Some op ≡ begun_with ws → step_writes op.writes op.step ≤ 1 + length p.claims
    of [] few e = none_some (sym e)
    of (w ∷ ws) few e = subst (λ (x : ScheduleOp). step_writes x.writes x.step ≤ 1 + length p.claims) (sym (one op _ e)) (omega (arith, few))

    by : (b : Bool) → BeginsIf b rows refused p (Some op) → step_writes op.writes op.step ≤ (if b then 0 else 1 + length p.claims)
    by true e = none_some (sym e)
    by false f = of (writes_for rows p f.choice) (writes_few rows p (last_refused rows p refused) f.choice f.chosen) f.begins
begun_few rows refused None (tasks.Schedule op) first = none_some (sym first)
begun_few rows refused (Some (Class x)) (tasks.Schedule op) first = none_some (sym first)
begun_few rows refused (Some (Node x)) (tasks.Schedule op) first = none_some (sym first)
begun_few rows refused (Some (Volume x)) (tasks.Schedule op) first = none_some (sym first)
begun_few rows refused (Some (Claim x)) (tasks.Schedule op) first = none_some (sym first)
begun_few rows refused row _ first = absurd first

pub begins_few : (role : Role) (memory : Memory) (rows : List Object) (u : Under) → role.kind ≡ seats.Scheduler → GivesCall role memory rows u → task_writes u.task ≤ key_writes rows u.key
begins_few role memory rows u kind gives =
    begun_few rows memory.tries.refused (row_at u.key rows) u.task (subst (λ k. IsFirstOf k role.node memory rows u.key (firsts.Begins u.task)) kind gives.decided)

-- ---- an answer

step_goes : (writes : List Request) (step : ScheduleStep) (request : Request) (reply : Reply) → schedule_call_at writes step ≡ Some request
    → step_writes writes (schedule_step_after writes step reply) + 1 ≤ step_writes writes step
step_goes writes steps.Done request reply call = none_some call
step_goes writes steps.Parked request reply call = none_some call
step_goes writes (steps.Writes place) request reply call = of (slice_get writes place) refl call
  where
    by : place < length writes → (a b d : Bool) → step_writes writes (if a then steps.Parked else if b && d then steps.Writes (place + 1) else steps.Done) + 1 ≤ length writes - place
    by lt true b d = omega (arith, lt)
    by lt false true true = omega (arith, lt)
    by lt false true false = omega (arith, lt)
    by lt false false d = omega (arith, lt)

    of : (x : Option Request) → slice_get writes place ≡ x → only_write x ≡ Some request → step_writes writes (schedule_step_after writes (steps.Writes place) reply) + 1 ≤ length writes - place
    of None e h = none_some h
    of (Some r) e h = by (slice_get_within writes place r e) (is_refused reply) (is_written reply) (nat_lt place (length writes))

abbrev pub is_scheduler : SeatKind → Bool
is_scheduler seats.Scheduler = true
is_scheduler kind = false

-- each call leaves the scheduler fewer writes
pub call_goes : (u : Under) (reply : Reply) → task_kind u.task ≡ seats.Scheduler → task_call u.task ≡ Some u.call → under_writes (under_after u reply) + 1 ≤ task_writes u.task
unfolding schedule_call schedule_moved
call_goes u reply kind call = by u.task kind call
  where
    with_it : (t : Task) (c : Option Request) (n : ℕ) → task_writes t + 1 ≤ n → under_writes (with_call u.key t c) + 1 ≤ n
    with_it t None n le = omega (arith, le)
    with_it t (Some r) n le = le

    by : (t : Task) → task_kind t ≡ seats.Scheduler → task_call t ≡ Some u.call → under_writes (with_task u.key (task_moved t reply)) + 1 ≤ task_writes t
    by (tasks.Schedule op) k c = with_it (tasks.Schedule (schedule_moved op reply)) (task_call (tasks.Schedule (schedule_moved op reply)))
        (step_writes op.writes op.step) (step_goes op.writes op.step u.call reply c)
    by (tasks.Binder m) k c = absurd (true≢false (sym (ap is_scheduler k)))
    by (tasks.ClaimProtect op) k c = absurd (true≢false (sym (ap is_scheduler k)))
    by (tasks.VolumeProtect op) k c = absurd (true≢false (sym (ap is_scheduler k)))
    by (tasks.Agent op) k c = absurd (true≢false (sym (ap is_scheduler k)))
    by (tasks.Provision op) k c = absurd (true≢false (sym (ap is_scheduler k)))
    by (tasks.Erase op) k c = absurd (true≢false (sym (ap is_scheduler k)))
