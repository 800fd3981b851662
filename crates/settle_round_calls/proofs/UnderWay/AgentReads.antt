-- Each call of what is under way is a write that is done, or leaves it fewer calls: each claim that an agent finds ready is another
-- one that stands. And they are few.
use Rattle.std.proofs.Common.{◌≡◌, ◌∙◌, ℕ, ◌+◌, ◌*◌, ◌≤◌, List, [], ◌∷◌, ◌++◌, Bool, true, false, true≢false, Option, Some, None, refl, sym, ap, subst, arith, if◌then◌else◌}
use Rattle.std.specs.Prelude.{◌&&◌, ◌||◌, bytes_eq, cond, option_map}
use Rattle.std.specs.Ordering.{is_eq}
use Rattle.std.proofs.lemmas.Slice.Eq.{bytes_eq-Decides}
use Rattle.kube_objects.specs.declared.key.Key.{Key}
use Rattle.kube_objects.specs.declared.objects.Claim.{Claim as ClaimData}
use Rattle.kube_objects.specs.declared.objects.Object.{Object}
use Rattle.kube_objects.specs.declared.objects.Object.TheVariants.{Class, Node, Volume, Claim, Pod}
use Rattle.kube_parts.specs.declared.uid.Uid.{Uid}
use Rattle.kube_objects.specs.Bindings.{carries, has_name}
use Rattle.kube_objects.specs.Keys.{key_cmp, key_of, row_at}
use Rattle.kube_objects.proofs.KeyOrder.{row_at_key}
use Rattle.call_types.specs.declared.reply.Reply.{Reply}
use Rattle.call_types.specs.declared.reply.Reply.TheVariants as replies
use Rattle.call_types.specs.declared.request.Request.{Request}
use Rattle.call_types.specs.declared.request.Request.TheVariants as requests
use Rattle.call_types.specs.declared.request.SeatKind.{SeatKind}
use Rattle.call_types.specs.declared.setup.Setup.{Setup}
use Rattle.binder_model.specs.Answers.{after, get, outcome}
use Rattle.binder_model.specs.Devices.{device_answer}
use Rattle.binder_model.specs.ObjectKeys.{claim_key}
use Rattle.binder_model.specs.World.{World, effect, log_after, on_devices, reply_to, world, world_after}
use Rattle.model_laws.proofs.Lists.{none_some, one}
use Rattle.model_laws.proofs.Readings.{gets_tell_what_stands}
use Rattle.model_laws.specs.Reads.{found}
use Rattle.binder_machines.specs.declared.machine.Machine.{Machine}
use Rattle.binder_machines.specs.declared.machine.Machine.TheVariants.{ReadsClaim, ReadsVolume, Unbinds}
use Rattle.node_agent.specs.declared.agent.AgentOp.{AgentOp}
use Rattle.node_agent.specs.declared.step.AgentStep.{AgentStep}
use Rattle.node_agent.specs.declared.step.AgentStep.TheVariants as steps
use Rattle.node_agent.specs.declared.step.ReadyClaim.{ReadyClaim}
use Rattle.node_agent.specs.Agents.{after_claim, agent_after, agent_call, agent_call_at, agent_moved, is_claim_read, next_step, ready_by, ready_claim}
use Rattle.pod_scheduler.specs.declared.schedule.ScheduleStep.{ScheduleStep}
use Rattle.pod_scheduler.specs.declared.schedule.ScheduleStep.TheVariants as schedule_steps
use Rattle.pod_scheduler.specs.Schedules.{schedule_moved}
use Rattle.protect_sync.specs.ClaimGuards.{claim_moved}
use Rattle.protect_sync.specs.VolumeGuards.{volume_moved}
use Rattle.protect_sync.specs.declared.claims.ClaimGuardStep.{ClaimGuardStep}
use Rattle.protect_sync.specs.declared.claims.ClaimGuardStep.TheVariants as claim_steps
use Rattle.protect_sync.specs.declared.volumes.VolumeGuardStep.{VolumeGuardStep}
use Rattle.protect_sync.specs.declared.volumes.VolumeGuardStep.TheVariants as volume_steps
use Rattle.reclaim_ops.specs.Erasures.{erase_moved}
use Rattle.reclaim_ops.specs.Provisions.{provision_moved}
use Rattle.reclaim_ops.specs.declared.erase.EraseStep.{EraseStep}
use Rattle.reclaim_ops.specs.declared.erase.EraseStep.TheVariants as erase_steps
use Rattle.reclaim_ops.specs.declared.provision.ProvisionStep.{ProvisionStep}
use Rattle.reclaim_ops.specs.declared.provision.ProvisionStep.TheVariants as provision_steps
use Rattle.worker_core.specs.declared.task.Task.{Task}
use Rattle.worker_core.specs.declared.task.Task.TheVariants as tasks
use Rattle.worker_core.specs.Tasks.{task_call, task_moved, with_call, with_task}
use Rattle.settle_measure.specs.Left.Measure.{claims_in, unless}
use Rattle.settle_calls.specs.Tasks.Ends.{done_by}
use Rattle.settle_calls.specs.Tasks.Tasks.{claim_guard_left, erase_left, machine_left, provision_left, schedule_left, task_left, under_left, volume_guard_left}
use Rattle.settle_calls.proofs.Tasks.Tasks.{under_goes}
use Rattle.settle_round_calls.specs.UnderWay.Reads.{LeftoverCallsEnd, LeftoversAreFew, calls_left, names_of, reads_left, under_calls, unread, unread_in}
use Rattle.settle_writes.proofs.Writes.Valid.{named_last as named_more}

-- the names

ready_named : (name : List ℕ) (ready : List ReadyClaim) → has_name name (names_of ready) ≡ is_claim_read name ready
ready_named name [] = refl
ready_named name (r ∷ ready) = ap (λ b. bytes_eq r.claim name || b) (ready_named name ready)

names_more : (ready : List ReadyClaim) (r : ReadyClaim) → names_of (ready ++ r ∷ []) ≡ names_of ready ++ r.claim ∷ []
names_more [] r = refl
names_more (x ∷ ready) r = ap (λ ns. x.claim ∷ ns) (names_more ready r)

-- a claim that is read and stands is another one

module _ (namespace name : List ℕ) (names : List (List ℕ)) where
  less : (o : Object) → unread namespace (names ++ name ∷ []) o ≤ unread namespace names o
  less (Claim c) = subst (λ b. unless (bytes_eq c.meta.namespace namespace && b) 1 ≤ unless
      (bytes_eq c.meta.namespace namespace && has_name c.meta.name names) 1) (sym (named_more c.meta.name name names))
      (by (bytes_eq c.meta.namespace namespace) (has_name c.meta.name names) (bytes_eq name c.meta.name))
    where
      by : (a b d : Bool) → unless (a && (b || d)) 1 ≤ unless (a && b) 1
      by true true d = omega arith
      by true false true = omega arith
      by true false false = omega arith
      by false b d = omega arith
  less (Class x) = omega arith
  less (Node x) = omega arith
  less (Volume v) = omega arith
  less (Pod p) = omega arith

  all_less : (rows : List Object) → unread_in namespace (names ++ name ∷ []) rows ≤ unread_in namespace names rows
  all_less [] = omega arith
  all_less (o ∷ os) = let h = less o in let rest = all_less os in omega (arith, h, rest)

  one_less : (c : ClaimData) → key_of (Claim c) ≡ claim_key namespace name → has_name name names ≡ false → unread namespace (names ++ name ∷ []) (Claim c) + 1 ≤ unread namespace names (Claim c)
  one_less c keyed none =
      subst (λ b. unless (bytes_eq c.meta.namespace namespace && b) 1 + 1 ≤ unless (bytes_eq c.meta.namespace namespace && has_name c.meta.name names) 1) (sym (named_more c.meta.name name names))
      (by (bytes_eq c.meta.namespace namespace) (has_name c.meta.name names) (bytes_eq name c.meta.name)
      ((bytes_eq-Decides c.meta.namespace namespace).1 (ap (λ (k : Key). k.namespace) keyed)) (ap (λ n. has_name n names) named ∙ none) ((bytes_eq-Decides name c.meta.name).1 (sym named)))
    where
      named : c.meta.name ≡ name
      named = ap (λ (k : Key). k.name) keyed

      by : (a b d : Bool) → a ≡ true → b ≡ false → d ≡ true → unless (a && (b || d)) 1 + 1 ≤ unless (a && b) 1
      by true false true ha hb hd = omega arith
      by false b d ha hb hd = absurd (true≢false (sym ha))
      by true true d ha hb hd = absurd (true≢false hb)
      by true false false ha hb hd = absurd (true≢false (sym hd))

  found_less : (rows : List Object) (c : ClaimData) → row_at (claim_key namespace name) rows ≡ Some (Claim c) → has_name name names ≡ false
      → unread_in namespace (names ++ name ∷ []) rows + 1 ≤ unread_in namespace names rows
  found_less [] c there none = none_some there
  found_less (x ∷ xs) c there none = by (is_eq (key_cmp (key_of x) (claim_key namespace name))) there (λ later. found_less xs c later none)
    where
      by : (b : Bool) → cond b (Some x) (row_at (claim_key namespace name) xs) ≡ Some (Claim c)
          → (row_at (claim_key namespace name) xs ≡ Some (Claim c) → unread_in namespace (names ++ name ∷ []) xs + 1 ≤ unread_in namespace names xs)
          → unread_in namespace (names ++ name ∷ []) (x ∷ xs) + 1 ≤ unread_in namespace names (x ∷ xs)
      by true is rest =
          let first : unread namespace (names ++ name ∷ []) x + 1 ≤ unread namespace names x =
          subst (λ o. unread namespace (names ++ name ∷ []) o + 1 ≤ unread namespace names o) (sym (one x (Claim c) is))
          (one_less c (row_at_key (claim_key namespace name) (Claim c) (x ∷ xs) there) none) in
          let others = all_less xs in
          omega (arith, first, others)
      by false is rest =
          let h = less x in
          let others = rest is in
          omega (arith, h, others)

-- no more than there are

unread_few : (namespace : List ℕ) (names : List (List ℕ)) (rows : List Object) → unread_in namespace names rows ≤ claims_in rows
unread_few namespace names [] = omega arith
unread_few namespace names (Claim c ∷ os) = by _ (unread_few namespace names os)
  where
    by : (b : Bool) → unread_in namespace names os ≤ claims_in os → unless b 1 + unread_in namespace names os ≤ 1 + claims_in os
    by true h = omega (arith, h)
    by false h = omega (arith, h)
unread_few namespace names (Class x ∷ os) = let h = unread_few namespace names os in omega (arith, h)
unread_few namespace names (Node x ∷ os) = let h = unread_few namespace names os in omega (arith, h)
unread_few namespace names (Volume v ∷ os) = let h = unread_few namespace names os in omega (arith, h)
unread_few namespace names (Pod p ∷ os) = let h = unread_few namespace names os in omega (arith, h)

-- an agent

module _ (rows : List Object) (op : AgentOp) where
  abbrev left_at : AgentStep → ℕ
  left_at step = reads_left op.pod.meta.namespace (names_of op.ready) rows step

  some_left : (b : Bool) (n : ℕ) → 0 + 1 ≤ (if b then 3 else 1) + n
  some_left true n = omega arith
  some_left false n = omega arith

  goes_on : (name : List ℕ) (c : ClaimData) → row_at (claim_key op.pod.meta.namespace name) rows ≡ Some (Claim c) → left_at (steps.ReadsVolume name c) + 1 ≤ left_at (steps.ReadsClaim name)
  goes_on name c there = by (has_name name (names_of op.ready)) refl
    where
      by : (b : Bool) → has_name name (names_of op.ready) ≡ b
          → 2 + 2 * unread_in op.pod.meta.namespace (names_of op.ready ++ name ∷ []) rows + 1 ≤ (if b then 3 else 1) + 2 * unread_in op.pod.meta.namespace (names_of op.ready) rows
      by true e = let h = all_less op.pod.meta.namespace name (names_of op.ready) rows in omega (arith, h)
      by false e = let h = found_less op.pod.meta.namespace name (names_of op.ready) rows c there e in omega (arith, h)

  was_found : (x : Option Object) (o : Object) → replies.Found o ≡ found x → x ≡ Some o
  was_found None o e = absurd (true≢false (ap is_found e))
    where
      is_found : Reply → Bool
      is_found (replies.Found p) = true
      is_found reply = false
  was_found (Some p) o e = ap (λ q. Some (found_or q)) (sym e)
    where
      found_or : Reply → Object
      found_or (replies.Found q) = q
      found_or reply = p

  claim_goes : (name : List ℕ) (reply : Reply) → reply ≡ found (row_at (claim_key op.pod.meta.namespace name) rows) → left_at (after_claim name op.ready reply) + 1 ≤ left_at (steps.ReadsClaim name)
  claim_goes name (replies.Found (Claim c)) is = by _
    where
      by : (b : Bool) → left_at (if b then steps.ReadsVolume name c else steps.Parked) + 1 ≤ left_at (steps.ReadsClaim name)
      by true = goes_on name c (was_found _ (Claim c) is)
      by false = some_left _ _
  claim_goes name _ is = some_left _ _

  named_so : (name : List ℕ) (c : ClaimData) (reply : Reply) (r : ReadyClaim) → ready_by (steps.ReadsVolume name c) reply ≡ Some r → r.claim ≡ name
  named_so name c (replies.Found (Volume v)) r e = by (carries v c) c.meta.uid e
    where
      by : (b : Bool) (uid : Option Uid) → (if b then ready_claim name c uid else None) ≡ Some r → r.claim ≡ name
      by true None h = none_some h
      by true (Some uid) h = sym (ap (λ (y : ReadyClaim). y.claim) (one _ r h))
      by false uid h = none_some h
  named_so name c _ r e = none_some e

  volume_goes : (name : List ℕ) (c : ClaimData) (reply : Reply)
      → calls_left rows (tasks.Agent (agent_after op (steps.ReadsVolume name c) (ready_by (steps.ReadsVolume name c) reply) reply)) + 1 ≤ left_at (steps.ReadsVolume name c)
  volume_goes name c reply = by (ready_by (steps.ReadsVolume name c) reply) refl
    where
      next : (r : ReadyClaim) → r.claim ≡ name → (x : Option (List ℕ))
          → reads_left op.pod.meta.namespace (names_of (op.ready ++ r ∷ [])) rows (next_step (op.ready ++ r ∷ []) x) + 1 ≤ left_at (steps.ReadsVolume name c)
      next r same None = omega arith
      next r same (Some n) = reads (is_claim_read n (op.ready ++ r ∷ [])) refl
        where
          counted : names_of (op.ready ++ r ∷ []) ≡ names_of op.ready ++ name ∷ []
          counted = names_more op.ready r ∙ ap (λ m. names_of op.ready ++ m ∷ []) same

          low : (b : Bool) → b ≡ false → (if b then 3 else 1) + 2 * unread_in op.pod.meta.namespace (names_of (op.ready ++ r ∷ [])) rows + 1 ≤ left_at (steps.ReadsVolume name c)
          low true e = absurd (true≢false e)
          low false e = let h = ap (λ ns. unread_in op.pod.meta.namespace ns rows) counted in omega (arith, h)

          reads : (b : Bool) → is_claim_read n (op.ready ++ r ∷ []) ≡ b
              → reads_left op.pod.meta.namespace (names_of (op.ready ++ r ∷ [])) rows (if b then steps.Parked else steps.ReadsClaim n) + 1 ≤ left_at (steps.ReadsVolume name c)
          reads true e = omega arith
          reads false e = low (has_name n (names_of (op.ready ++ r ∷ []))) (ready_named n (op.ready ++ r ∷ []) ∙ e)

      by : (x : Option ReadyClaim) → ready_by (steps.ReadsVolume name c) reply ≡ x
          → calls_left rows (tasks.Agent (agent_after op (steps.ReadsVolume name c) x reply)) + 1 ≤ left_at (steps.ReadsVolume name c)
      by None e = omega arith
      by (Some r) e = next r (named_so name c reply r e) _

-- a read changes nothing
rows_stay : (setup : Setup) (w : World) (kind : SeatKind) (key : Key) → (world_after w (effect setup w kind (requests.Get key))).store.rows ≡ w.store.rows
unfolding effect on_devices device_answer outcome get world_after after log_after
rows_stay setup w kind key = by (row_at key w.store.rows)
  where
    by : (x : Option Object) → (after w.store (get x)).rows ≡ w.store.rows
    by None = refl
    by (Some o) = refl

-- behind any other call what is left does not depend on what stands
agent_goes : (rows later : List Object) (op : AgentOp) (step : AgentStep) (request : Request) (reply : Reply) → agent_call_at op step ≡ Some request
    → ((key : Key) → request ≡ requests.Get key → (later ≡ rows) × (reply ≡ found (row_at key rows)))
    → calls_left later (tasks.Agent (agent_after op step (ready_by step reply) reply)) + 1 ≤ left_at rows op step
agent_goes rows later op (steps.ReadsClaim name) request reply call read =
    let r = read _ (sym (one _ request call)) in
    subst (λ os. left_at os op (after_claim name op.ready reply) + 1 ≤ left_at rows op (steps.ReadsClaim name)) (sym r.0) (claim_goes rows op name reply r.1)
agent_goes rows later op (steps.ReadsVolume name c) request reply call read =
    let r = read _ (sym (one _ request call)) in
    subst (λ os. calls_left os (tasks.Agent (agent_after op (steps.ReadsVolume name c) (ready_by (steps.ReadsVolume name c) reply) reply)) + 1 ≤
    left_at rows op (steps.ReadsVolume name c)) (sym r.0) (volume_goes rows op name c reply)
agent_goes rows later op steps.MountsPod request (replies.Refused refusal) call read = omega arith
agent_goes rows later op steps.MountsPod request _ call read = omega arith
agent_goes rows later op steps.Unmounts request (replies.Mounted mounts) call read = omega arith
agent_goes rows later op steps.Unmounts request _ call read = omega arith
agent_goes rows later op steps.ReadsMounts request (replies.Mounted mounts) call read = by _
  where
    by : (b : Bool) → left_at later op (if b then steps.Parked else steps.Finishes) + 1 ≤ 2
    by true = omega arith
    by false = omega arith
agent_goes rows later op steps.ReadsMounts request _ call read = omega arith
agent_goes rows later op steps.Finishes request (replies.Refused refusal) call read = omega arith
agent_goes rows later op steps.Finishes request _ call read = omega arith
agent_goes rows later op steps.Done request reply call read = none_some call
agent_goes rows later op steps.Parked request reply call read = none_some call

-- each task

called : (rows : List Object) (key : Key) (t : Task) (c : Option Request) → under_calls rows (with_call key t c) ≤ calls_left rows t
called rows key t None = omega arith
called rows key t (Some r) = omega arith

-- of another actor

abbrev IsPlain : Task → Type 0
IsPlain (tasks.Agent op) = ⊥
IsPlain task = Unit {0}

module _ (rows : List Object) (key : Key) where
  same_calls : (t : Task) (c : Option Request) → calls_left rows t ≡ task_left t → under_calls rows (with_call key t c) ≡ under_left (with_call key t c)
  same_calls t None same = refl
  same_calls t (Some r) same = same

  binder_calls : (x : Option Machine) → under_calls rows (with_task key (option_map (λ m. tasks.Binder m) x)) ≡ under_left (with_task key (option_map (λ m. tasks.Binder m) x))
  binder_calls None = refl
  binder_calls (Some m) = same_calls (tasks.Binder m) _ refl

  same_moved : (t : Task) (reply : Reply) → IsPlain t → under_calls rows (with_task key (task_moved t reply)) ≡ under_left (with_task key (task_moved t reply))
  same_moved (tasks.Agent op) reply plain = absurd plain
  same_moved (tasks.Binder m) reply plain = binder_calls _
  same_moved (tasks.ClaimProtect op) reply plain = same_calls (tasks.ClaimProtect (claim_moved op reply)) (task_call (tasks.ClaimProtect (claim_moved op reply))) refl
  same_moved (tasks.VolumeProtect op) reply plain = same_calls (tasks.VolumeProtect (volume_moved op reply)) (task_call (tasks.VolumeProtect (volume_moved op reply))) refl
  same_moved (tasks.Provision op) reply plain = same_calls (tasks.Provision (provision_moved op reply)) (task_call (tasks.Provision (provision_moved op reply))) refl
  same_moved (tasks.Erase op) reply plain = same_calls (tasks.Erase (erase_moved op reply)) (task_call (tasks.Erase (erase_moved op reply))) refl
  same_moved (tasks.Schedule op) reply plain = same_calls (tasks.Schedule (schedule_moved op reply)) (task_call (tasks.Schedule (schedule_moved op reply))) refl

plain_ends : (rows later : List Object) (key : Key) (t : Task) (request : Request) (reply : Reply) → IsPlain t → task_call t ≡ Some request → calls_left rows t ≡ task_left t
    → under_calls later (with_task key (task_moved t reply)) + 1 ≤ calls_left rows t + done_by request reply
plain_ends rows later key t request reply plain call same =
    let h = under_goes (record { key = key; task = t; call = request }) reply call in
    let e = same_moved later key t reply plain in
    omega (arith, h, e, same)

task_ends : (rows later : List Object) (key : Key) (t : Task) (request : Request) (reply : Reply) → task_call t ≡ Some request
    → ((k : Key) → request ≡ requests.Get k → (later ≡ rows) × (reply ≡ found (row_at k rows)))
    → under_calls later (with_task key (task_moved t reply)) + 1 ≤ calls_left rows t + done_by request reply
unfolding agent_call agent_moved
task_ends rows later key (tasks.Agent op) request reply call read =
    let h = agent_goes rows later op op.step request reply call read in
    let low = called later key (tasks.Agent (agent_after op op.step (ready_by op.step reply) reply)) (task_call (tasks.Agent (agent_after op op.step (ready_by op.step reply) reply))) in
    omega (arith, h, low)
task_ends rows later key (tasks.Binder m) request reply call read = plain_ends rows later key (tasks.Binder m) request reply tt call refl
task_ends rows later key (tasks.ClaimProtect op) request reply call read = plain_ends rows later key (tasks.ClaimProtect op) request reply tt call refl
task_ends rows later key (tasks.VolumeProtect op) request reply call read = plain_ends rows later key (tasks.VolumeProtect op) request reply tt call refl
task_ends rows later key (tasks.Provision op) request reply call read = plain_ends rows later key (tasks.Provision op) request reply tt call refl
task_ends rows later key (tasks.Erase op) request reply call read = plain_ends rows later key (tasks.Erase op) request reply tt call refl
task_ends rows later key (tasks.Schedule op) request reply call read = plain_ends rows later key (tasks.Schedule op) request reply tt call refl

-- each call leaves less
pub calls_end : LeftoverCallsEnd
calls_end setup e h u history asked call = task_ends (world setup h).store.rows (world setup (e ∷ h)).store.rows u.key u.task u.call e.reply call reads
  where
    reads : (k : Key) → u.call ≡ requests.Get k → ((world setup (e ∷ h)).store.rows ≡ (world setup h).store.rows) × (e.reply ≡ found (row_at k (world setup h).store.rows))
    reads k is =
        let get_of : e.request ≡ requests.Get k = asked ∙ is in (
          ap (λ q. (world_after (world setup h) (effect setup (world setup h) e.kind q)).store.rows) get_of ∙ rows_stay setup (world setup h) e.kind k,
          history.1 ∙ ap (λ q. reply_to (effect setup (world setup h) e.kind q)) get_of ∙ gets_tell_what_stands setup (world setup h) e.kind k,
        )

-- and they are few

agent_few : (namespace : List ℕ) (names : List (List ℕ)) (rows : List Object) (step : AgentStep) → reads_left namespace names rows step ≤ 2 * claims_in rows + 3
agent_few namespace names rows (steps.ReadsClaim name) = by (has_name name names) (unread_few namespace names rows)
  where
    by : (b : Bool) → unread_in namespace names rows ≤ claims_in rows → (if b then 3 else 1) + 2 * unread_in namespace names rows ≤ 2 * claims_in rows + 3
    by true h = omega (arith, h)
    by false h = omega (arith, h)
agent_few namespace names rows (steps.ReadsVolume name c) = let h = unread_few namespace (names ++ name ∷ []) rows in omega (arith, h)
agent_few namespace names rows steps.MountsPod = omega arith
agent_few namespace names rows steps.Unmounts = omega arith
agent_few namespace names rows steps.ReadsMounts = omega arith
agent_few namespace names rows steps.Finishes = omega arith
agent_few namespace names rows steps.Done = omega arith
agent_few namespace names rows steps.Parked = omega arith

machine_few : (m : Machine) → machine_left m ≤ 3
machine_few (ReadsClaim v) = omega arith
machine_few (Unbinds v) = omega arith
machine_few (ReadsVolume c) = omega arith
machine_few _ = omega arith

claim_guard_few : (step : ClaimGuardStep) → claim_guard_left step ≤ 3
claim_guard_few claim_steps.Adds = omega arith
claim_guard_few claim_steps.ListsPods = omega arith
claim_guard_few claim_steps.Drops = omega arith
claim_guard_few _ = omega arith

volume_guard_few : (step : VolumeGuardStep) → volume_guard_left step ≤ 3
volume_guard_few volume_steps.Adds = omega arith
volume_guard_few volume_steps.Drops = omega arith
volume_guard_few _ = omega arith

erase_few : (step : EraseStep) → erase_left step ≤ 3
erase_few erase_steps.ReadsVolume = omega arith
erase_few (erase_steps.Erases uid) = omega arith
erase_few (erase_steps.Deletes uid) = omega arith
erase_few erase_steps.WritesFailed = omega arith
erase_few _ = omega arith

provision_few : (step : ProvisionStep) → provision_left step ≤ 3
provision_few (provision_steps.Provisions labels) = omega arith
provision_few (provision_steps.Creates id topology) = omega arith
provision_few provision_steps.ClearsNode = omega arith
provision_few _ = omega arith

schedule_few : (step : ScheduleStep) → schedule_left step ≤ 3
schedule_few (schedule_steps.Writes place) = omega arith
schedule_few _ = omega arith

pub few : LeftoversAreFew
few rows (tasks.Agent op) = agent_few op.pod.meta.namespace (names_of op.ready) rows op.step
few rows (tasks.Binder m) = machine_few m
few rows (tasks.ClaimProtect op) = claim_guard_few op.step
few rows (tasks.VolumeProtect op) = volume_guard_few op.step
few rows (tasks.Provision op) = provision_few op.step
few rows (tasks.Erase op) = erase_few op.step
few rows (tasks.Schedule op) = schedule_few op.step
