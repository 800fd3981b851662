-- An actor acts on a key where its decision on the store begins a task that will make a call that lasts.
use Rattle.std.proofs.Common.{◌≡◌, ◌∙◌, ℕ, List, Bool, true, false, true≢false, Option, Some, None, refl, sym, ap, subst}
use Rattle.std.specs.Prelude.{option_map}
use Rattle.kube_objects.specs.declared.key.Key.{Key}
use Rattle.kube_objects.specs.declared.objects.Claim.{Claim as ClaimData}
use Rattle.kube_objects.specs.declared.objects.Volume.{Volume as VolumeData}
use Rattle.kube_objects.specs.declared.objects.Object.{Object}
use Rattle.kube_objects.specs.declared.objects.Object.TheVariants.{Class, Node, Volume, Claim, Pod}
use Rattle.kube_objects.specs.Keys.{row_at}
use Rattle.kube_objects.proofs.KeyOrder.{row_at_key}
use Rattle.kube_objects.specs.declared.objects.Pod.{Pod as PodData}
use Rattle.call_types.specs.declared.entry.Entry.{Entry}
use Rattle.call_types.specs.declared.request.Request.{Request}
use Rattle.call_types.specs.declared.setup.Setup.{Setup}
use Rattle.binder_model.specs.Imports.{ImportsPass}
use Rattle.binder_model.specs.World.{World, world}
use Rattle.informer_cache.specs.All.{all_objects}
use Rattle.model_laws.proofs.Lists.{none_some, one}
use Rattle.worker_core.specs.declared.role.Role.{Role}
use Rattle.worker_core.specs.declared.task.First.{First}
use Rattle.worker_core.specs.declared.task.First.TheVariants as firsts
use Rattle.worker_core.specs.declared.task.Task.{Task}
use Rattle.worker_core.specs.declared.task.Under.{Under}
use Rattle.worker_core.specs.States.{ActorState}
use Rattle.worker_core.specs.Tasks.{GivesCall, GivesNone, IsDecision, task_call}
use Rattle.settle_writes.specs.Writes.Lasting.{content_of}
use Rattle.settle_writes.specs.Writes.Writes.{IsStored}
use Rattle.settle_writes.proofs.Writes.Valid.{rows_are_valid}
use Rattle.settle_alike.specs.Alike.Alike.{AreAlike}
use Rattle.settle_alike.proofs.Alike.Rows.{plain_claim, plain_pod, plain_volume, row_plain}
use Rattle.settle_slot.specs.Slot.Slots.{IsDecisionPoint}
use Rattle.settle_slot.specs.Slot.Would.{WouldActOn, WouldLast}

-- the decision on the key begins this task, with this call, and what is then under way will make a call that lasts
pub record BeginsLasting (setup : Setup) (seat : ℕ) (role : Role) (start : List Entry) (key : Key) (s : ActorState) (h : List Entry) : Type 0 where
  pub task : Task
  pub call : Request
  pub only : (first : First) → IsDecision s.role s.memory (all_objects s.caches) key first → first ≡ firsts.Begins task
  pub asks : task_call task ≡ Some call
  pub will : WouldLast setup seat role.kind start h (record { key = key; task = task; call = call })

abbrev pub task_in : Task → First → Task
task_in t (firsts.Begins task) = task
task_in t first = t

pub acts_by : (setup : Setup) (seat : ℕ) (role : Role) (start : List Entry) (key : Key)
    → ((s : ActorState) (h : List Entry) → IsDecisionPoint setup seat role start s h → BeginsLasting setup seat role start key s h) → WouldActOn setup seat role start key
acts_by setup seat role start key begins = record { lasts = lasts; acts = acts }
  where
    lasts : (s : ActorState) (h : List Entry) (u : Under) → IsDecisionPoint setup seat role start s h → u.key ≡ key
        → GivesCall s.role s.memory (all_objects s.caches) u → WouldLast setup seat role.kind start h u
    lasts s h u p own gives =
        let b = begins s h p in
        let decided : IsDecision s.role s.memory (all_objects s.caches) key (firsts.Begins u.task) =
        subst (λ k. IsDecision s.role s.memory (all_objects s.caches) k (firsts.Begins u.task)) own gives.decided in
        let task : u.task ≡ b.task = ap (task_in u.task) (b.only (firsts.Begins u.task) decided) in
        let call : u.call ≡ b.call = one u.call b.call (sym gives.call ∙ (ap task_call task ∙ b.asks)) in
        subst (WouldLast setup seat role.kind start h) (λ i. record { key = (sym own) i; task = (sym task) i; call = (sym call) i }) b.will

    acts : (s : ActorState) (h : List Entry) (first : First) → IsDecisionPoint setup seat role start s h → GivesNone s.role s.memory (all_objects s.caches) key first → ⊥
    acts s h first p none = let b = begins s h p in none_some (sym (none.none b.task (b.only first none.decided)) ∙ b.asks)

-- what stands under a key in a world that is alike

pub record IsVolumeAt (x : Option Object) (v : VolumeData) : Type 0 where
  pub volume : VolumeData
  pub is : x ≡ Some (Volume volume)
  pub same : plain_volume volume ≡ plain_volume v

abbrev pub volume_in : VolumeData → Option Object → VolumeData
volume_in v (Some (Volume x)) = x
volume_in v o = v

abbrev is_volume : Option Object → Bool
is_volume (Some (Volume x)) = true
is_volume o = false

volume_back : (x : Option Object) (v : VolumeData) → option_map content_of x ≡ Some (Volume (plain_volume v)) → IsVolumeAt x v
volume_back None v e = none_some e
volume_back (Some (Volume x)) v e = record { volume = x; is = refl; same = ap (volume_in v) e }
volume_back (Some (Class x)) v e = absurd (true≢false (sym (ap is_volume e)))
volume_back (Some (Node x)) v e = absurd (true≢false (sym (ap is_volume e)))
volume_back (Some (Claim x)) v e = absurd (true≢false (sym (ap is_volume e)))
volume_back (Some (Pod x)) v e = absurd (true≢false (sym (ap is_volume e)))

pub volume_alike : (old new : World) (key : Key) (v : VolumeData) → AreAlike old new → row_at key old.store.rows ≡ Some (Volume v) → IsVolumeAt (row_at key new.store.rows) v
volume_alike old new key v alike there =
    volume_back (row_at key new.store.rows) v (sym (row_plain key new.store.rows) ∙ (ap (row_at key) (sym alike.rows) ∙ (row_plain key old.store.rows ∙ ap (option_map content_of) there)))

pub record IsClaimAt (x : Option Object) (c : ClaimData) : Type 0 where
  pub claim : ClaimData
  pub is : x ≡ Some (Claim claim)
  pub same : plain_claim claim ≡ plain_claim c

abbrev claim_in : ClaimData → Option Object → ClaimData
claim_in c (Some (Claim x)) = x
claim_in c o = c

abbrev is_claim : Option Object → Bool
is_claim (Some (Claim x)) = true
is_claim o = false

claim_back : (x : Option Object) (c : ClaimData) → option_map content_of x ≡ Some (Claim (plain_claim c)) → IsClaimAt x c
claim_back None c e = none_some e
claim_back (Some (Claim x)) c e = record { claim = x; is = refl; same = ap (claim_in c) e }
claim_back (Some (Class x)) c e = absurd (true≢false (sym (ap is_claim e)))
claim_back (Some (Node x)) c e = absurd (true≢false (sym (ap is_claim e)))
claim_back (Some (Volume x)) c e = absurd (true≢false (sym (ap is_claim e)))
claim_back (Some (Pod x)) c e = absurd (true≢false (sym (ap is_claim e)))

pub claim_alike : (old new : World) (key : Key) (c : ClaimData) → AreAlike old new → row_at key old.store.rows ≡ Some (Claim c) → IsClaimAt (row_at key new.store.rows) c
claim_alike old new key c alike there =
    claim_back (row_at key new.store.rows) c (sym (row_plain key new.store.rows) ∙ (ap (row_at key) (sym alike.rows) ∙ (row_plain key old.store.rows ∙ ap (option_map content_of) there)))

pub record IsPodAt (x : Option Object) (p : PodData) : Type 0 where
  pub pod : PodData
  pub is : x ≡ Some (Pod pod)
  pub same : plain_pod pod ≡ plain_pod p

abbrev pod_in : PodData → Option Object → PodData
pod_in p (Some (Pod x)) = x
pod_in p o = p

abbrev is_pod : Option Object → Bool
is_pod (Some (Pod x)) = true
is_pod o = false

pod_back : (x : Option Object) (p : PodData) → option_map content_of x ≡ Some (Pod (plain_pod p)) → IsPodAt x p
pod_back None p e = none_some e
pod_back (Some (Pod x)) p e = record { pod = x; is = refl; same = ap (pod_in p) e }
pod_back (Some (Class x)) p e = absurd (true≢false (sym (ap is_pod e)))
pod_back (Some (Node x)) p e = absurd (true≢false (sym (ap is_pod e)))
pod_back (Some (Volume x)) p e = absurd (true≢false (sym (ap is_pod e)))
pod_back (Some (Claim x)) p e = absurd (true≢false (sym (ap is_pod e)))

pub pod_alike : (old new : World) (key : Key) (p : PodData) → AreAlike old new → row_at key old.store.rows ≡ Some (Pod p) → IsPodAt (row_at key new.store.rows) p
pod_alike old new key p alike there =
    pod_back (row_at key new.store.rows) p (sym (row_plain key new.store.rows) ∙ (ap (row_at key) (sym alike.rows) ∙ (row_plain key old.store.rows ∙ ap (option_map content_of) there)))

-- an object that stands is stored
pub stored : (setup : Setup) (h : List Entry) (key : Key) (o : Object) → ImportsPass setup.imports → row_at key (world setup h).store.rows ≡ Some o → IsStored (world setup h) o
stored setup h key o pass there = record {
  there = ap (λ k. row_at k (world setup h).store.rows) (row_at_key key o (world setup h).store.rows there) ∙ there;
  valid = rows_are_valid setup h pass key o there;
}

-- one decision on the key begins a task that will make a call that lasts; others may begin others
pub record DecisionLasts (setup : Setup) (seat : ℕ) (role : Role) (start : List Entry) (key : Key) (h : List Entry) (first : First) : Type 0 where
  pub task : Task
  pub call : Request
  pub is : first ≡ firsts.Begins task
  pub asks : task_call task ≡ Some call
  pub will : WouldLast setup seat role.kind start h (record { key = key; task = task; call = call })

pub acts_each : (setup : Setup) (seat : ℕ) (role : Role) (start : List Entry) (key : Key)
    → ((s : ActorState) (h : List Entry) → IsDecisionPoint setup seat role start s h → (first : First)
    → IsDecision s.role s.memory (all_objects s.caches) key first → DecisionLasts setup seat role start key h first) → WouldActOn setup seat role start key
acts_each setup seat role start key each = record { lasts = lasts; acts = acts }
  where
    lasts : (s : ActorState) (h : List Entry) (u : Under) → IsDecisionPoint setup seat role start s h → u.key ≡ key
        → GivesCall s.role s.memory (all_objects s.caches) u → WouldLast setup seat role.kind start h u
    lasts s h u p own gives =
        let b = each s h p (firsts.Begins u.task) (subst (λ k. IsDecision s.role s.memory (all_objects s.caches) k (firsts.Begins u.task)) own gives.decided) in
        let task : u.task ≡ b.task = ap (task_in u.task) b.is in
        let call : u.call ≡ b.call = one u.call b.call (sym gives.call ∙ (ap task_call task ∙ b.asks)) in
        subst (WouldLast setup seat role.kind start h) (λ i. record { key = (sym own) i; task = (sym task) i; call = (sym call) i }) b.will

    acts : (s : ActorState) (h : List Entry) (first : First) → IsDecisionPoint setup seat role start s h → GivesNone s.role s.memory (all_objects s.caches) key first → ⊥
    acts s h first p none = let b = each s h p first none.decided in none_some (sym (none.none b.task b.is) ∙ b.asks)
