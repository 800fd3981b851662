-- What begins on the key of a pod has its evidence, where the look-up shows what was told newest; and it has a next call.
use Rattle.std.proofs.Common.{◌≡◌, ◌∙◌, ℕ, List, [], ◌∷◌, Bool, true, false, true≢false, Option, Some, None, inl, inr, refl, sym, ap, subst, slice_get, if◌then◌else◌}
use Rattle.std.specs.Prelude.{◌++◌, ◌&&◌, bytes_eq, is_some}
use Rattle.std.specs.List.{list_any}
use Rattle.std.proofs.lemmas.Bool.{and_parts, or_parts}
use Rattle.std.proofs.lemmas.Slice.Eq.{bytes_eq-Decides}
use Rattle.kube_objects.specs.declared.key.Key.{Key}
use Rattle.kube_parts.specs.declared.uid.Uid.{Uid}
use Rattle.kube_objects.specs.declared.objects.Pod.{Pod as PodData}
use Rattle.kube_objects.specs.declared.objects.Object.{Object}
use Rattle.kube_objects.specs.declared.objects.Object.TheVariants.{Class, Node, Volume, Claim, Pod}
use Rattle.kube_objects.specs.Bindings.{is_deleting, is_scheduled}
use Rattle.kube_objects.specs.Keys.{row_at}
use Rattle.kube_objects.proofs.KeyOrder.{row_at_key}
use Rattle.call_types.specs.declared.entry.Entry.{Entry}
use Rattle.call_types.specs.declared.reply.MountRow.{MountRow}
use Rattle.binder_model.specs.AgentLicence.{IsEndingPod, IsPodOn, ListedPods, epoch_in, has_row, since_epoch}
use Rattle.binder_model.specs.ObjectKeys.{pod_key}
use Rattle.binder_model.specs.Told.{IsNewest, IsPodWith, TellsObject, ToldPod}
use Rattle.informer_cache.specs.All.{AllKnown, AllStandFor, all_objects}
use Rattle.model_laws.proofs.Lists.{none_some, one}
use Rattle.safety_law.specs.Pods.Tellings.{tells_pod}
use Rattle.safety_law.proofs.Pods.Told.{telling}
use Rattle.node_agent.specs.declared.agent.AgentOp.{AgentOp}
use Rattle.node_agent.specs.declared.step.AgentStep.TheVariants as steps
use Rattle.node_agent.specs.Agents.{agent_at, agent_begins, agent_call, agent_for, agent_known, at_start, next_step, step_for}
use Rattle.node_agent.specs.BeginLaw.{BegunAgentsHaveCalls}
use Rattle.node_agent.specs.Evidence.{AgentKeeps, HasStarted, MayDecide, MayReadForPod, StartedBy}
use Rattle.node_agent.proofs.Allowed.{newest_pod}
use Rattle.node_agent.proofs.Moves.{next_keeps}

-- a pod that was told was told after the node was taken, by a list of all pods or after one

record IsCut (p : PodData) (entries : List Entry) : Type 0 where
  recent : List Entry
  teller : Entry
  earlier : List Entry
  since : entries ≡ recent ++ teller ∷ earlier
  listed : ListedPods (teller ∷ earlier)
  told : TellsObject (IsPodWith (λ q. q ≡ p)) teller

none_told : (P : PodData → Type 0) (mine : List Entry) → list_any tells_pod mine ≡ false → ToldPod P mine → ⊥
none_told P [] none h = h
none_told P (e ∷ mine) none (inl t) = true≢false (sym (telling P e t) ∙ (or_parts (tells_pod e) (list_any tells_pod mine) none).0)
none_told P (e ∷ mine) none (inr h) = none_told P mine (or_parts (tells_pod e) (list_any tells_pod mine) none).1 h

cut : (p : PodData) (node : List ℕ) (mine : List Entry) → HasStarted node mine → ToldPod (λ q. q ≡ p) mine → IsCut p (since_epoch node mine)
cut p node [] started h = absurd h
cut p node (e ∷ mine) started h = by (is_some (epoch_in node e)) started h (cut p node mine)
  where
    by : (b : Bool) → StartedBy b node e mine (HasStarted node mine) → ToldPod (λ q. q ≡ p) (e ∷ mine)
        → (HasStarted node mine → ToldPod (λ q. q ≡ p) mine → IsCut p (since_epoch node mine)) → IsCut p (if b then [] else e ∷ since_epoch node mine)
    by true none told rest = absurd (none_told (λ q. q ≡ p) (e ∷ mine) none told)
    by false before (inl t) rest = record { recent = []; teller = e; earlier = since_epoch node mine; since = refl; listed = before.0 (telling (λ q. q ≡ p) e t); told = t }
    by false before (inr later) rest =
        let c = rest before.1 later in
        record { recent = e ∷ c.recent; teller = c.teller; earlier = c.earlier; since = ap (λ (xs : List Entry). e ∷ xs) c.since; listed = c.listed; told = c.told }

becomes : (a b : AgentOp) (mine : List Entry) → Some a ≡ Some b → AgentKeeps a mine → AgentKeeps b mine
becomes a b mine e kept = subst (λ (k : AgentOp). AgentKeeps k mine) (one a b e) kept

-- the pod stands on the node
module _ (node : List ℕ) (epoch : ℕ) (p : PodData) (uid : Uid) (mine : List Entry) (row : Option Object) (at : row ≡ Some (Pod p))
    (may : MayDecide node epoch row mine) (newest : IsNewest mine (pod_key p.meta.namespace p.meta.name) (Pod p)) (on_node : IsPodOn uid node p) where
  reading : is_deleting p.meta ≡ false → MayReadForPod (at_start node epoch p uid steps.Done) mine
  reading staying =
      let c = cut p node mine may.started (newest_pod (λ q. q ≡ p) mine (pod_key p.meta.namespace p.meta.name) p newest refl) in
      record {
        current = may.current;
        recent = c.recent;
        teller = c.teller;
        earlier = c.earlier;
        since = c.since;
        listed = c.listed;
        told = c.told;
        on_node = on_node;
        newest = newest;
        staying = staying;
        ready = tt;
        unfinished = may.unfinished p uid at on_node.same staying;
      }

  ending : is_deleting p.meta ≡ true → IsEndingPod uid node p
  ending deleting = record { same = on_node.same; placed = on_node.placed; scheduled = on_node.scheduled; deleting = deleting }

  at_keeps : (mounted : Bool) (op : AgentOp) → agent_at node epoch p uid mounted ≡ Some op → AgentKeeps op mine
  at_keeps mounted op = by (is_deleting p.meta) mounted refl
    where
      by : (deleting there : Bool) → is_deleting p.meta ≡ deleting
          → (if deleting then Some (at_start node epoch p uid steps.Unmounts) else if there then None else Some (at_start node epoch p uid (step_for p []))) ≡ Some op → AgentKeeps op mine
      by true there d e = becomes (at_start node epoch p uid steps.Unmounts) op mine e
          (record { current = may.current; told = newest_pod (IsEndingPod uid node) mine (pod_key p.meta.namespace p.meta.name) p newest (ending d) })
      by false true d e = none_some e
      by false false d e = becomes (at_start node epoch p uid (step_for p [])) op mine e (next_keeps (at_start node epoch p uid steps.Done) mine (reading d))

pod_keeps : (node : List ℕ) (epoch : ℕ) (mounts : List MountRow) (p : PodData) (mine : List Entry) (row : Option Object) (op : AgentOp)
    → row ≡ Some (Pod p) → MayDecide node epoch row mine → IsNewest mine (pod_key p.meta.namespace p.meta.name) (Pod p) → agent_for node epoch mounts p ≡ Some op → AgentKeeps op mine
pod_keeps node epoch mounts p mine row op at may newest = by (is_scheduled p && bytes_eq p.node node) p.meta.uid refl refl
  where
    by : (b : Bool) (u : Option Uid) → (is_scheduled p && bytes_eq p.node node) ≡ b → p.meta.uid ≡ u → (if b then agent_known node epoch mounts p u else None) ≡ Some op → AgentKeeps op mine
    by false u on known e = none_some e
    by true None on known e = none_some e
    by true (Some uid) on known e =
        let parts = and_parts (is_scheduled p) (bytes_eq p.node node) on in
        at_keeps node epoch p uid mine row at may newest (record { same = known; placed = (bytes_eq-Decides p.node node).0 parts.1; scheduled = parts.0 }) (has_row uid mounts) op e

pub decisions : (caches : AllKnown) (mine : List Entry) (node : List ℕ) (epoch : ℕ) (mounts : List MountRow) (key : Key) (op : AgentOp)
    → AllStandFor caches mine → MayDecide node epoch (row_at key (all_objects caches)) mine → agent_begins node epoch mounts (row_at key (all_objects caches)) ≡ Some op → AgentKeeps op mine
decisions caches mine node epoch mounts key op stand may = by (row_at key (all_objects caches)) refl
  where
    newest : (p : PodData) → row_at key (all_objects caches) ≡ Some (Pod p) → IsNewest mine (pod_key p.meta.namespace p.meta.name) (Pod p)
    newest p at = subst (λ k. IsNewest mine k (Pod p)) (sym (row_at_key key (Pod p) (all_objects caches) at)) (sym (stand.rows key) ∙ at)

    by : (row : Option Object) → row_at key (all_objects caches) ≡ row → agent_begins node epoch mounts row ≡ Some op → AgentKeeps op mine
    by (Some (Pod p)) at e = pod_keeps node epoch mounts p mine (row_at key (all_objects caches)) op at may (newest p at) e
    by None at e = none_some e
    by (Some (Class x)) at e = none_some e
    by (Some (Node x)) at e = none_some e
    by (Some (Volume x)) at e = none_some e
    by (Some (Claim x)) at e = none_some e

-- next calls

has_call : (a b : AgentOp) → Some a ≡ Some b → is_some (agent_call a) ≡ true → is_some (agent_call b) ≡ true
has_call a b e is = subst (λ (k : AgentOp). is_some (agent_call k) ≡ true) (one a b e) is

at_calls : (node : List ℕ) (epoch : ℕ) (p : PodData) (uid : Uid) (mounted : Bool) (op : AgentOp) → agent_at node epoch p uid mounted ≡ Some op → is_some (agent_call op) ≡ true
unfolding agent_call
at_calls node epoch p uid mounted op = by (is_deleting p.meta) mounted
  where
    reads : (x : Option (List ℕ)) → is_some (agent_call (at_start node epoch p uid (next_step [] x))) ≡ true
    reads None = refl
    reads (Some name) = refl

    by : (deleting there : Bool) → (if deleting then Some (at_start node epoch p uid steps.Unmounts) else if there then None else Some
        (at_start node epoch p uid (step_for p []))) ≡ Some op → is_some (agent_call op) ≡ true
    by true there e = has_call (at_start node epoch p uid steps.Unmounts) op e refl
    by false true e = none_some e
    by false false e = has_call (at_start node epoch p uid (step_for p [])) op e (reads (slice_get p.claims 0))

pod_calls : (node : List ℕ) (epoch : ℕ) (mounts : List MountRow) (p : PodData) (op : AgentOp) → agent_for node epoch mounts p ≡ Some op → is_some (agent_call op) ≡ true
pod_calls node epoch mounts p op = by (is_scheduled p && bytes_eq p.node node) p.meta.uid
  where
    by : (b : Bool) (u : Option Uid) → (if b then agent_known node epoch mounts p u else None) ≡ Some op → is_some (agent_call op) ≡ true
    by false u e = none_some e
    by true None e = none_some e
    by true (Some uid) e = at_calls node epoch p uid (has_row uid mounts) op e

pub begun_have_calls : BegunAgentsHaveCalls
begun_have_calls node epoch mounts (Some (Pod p)) op e = pod_calls node epoch mounts p op e
begun_have_calls node epoch mounts None op e = none_some e
begun_have_calls node epoch mounts (Some (Class x)) op e = none_some e
begun_have_calls node epoch mounts (Some (Node x)) op e = none_some e
begun_have_calls node epoch mounts (Some (Volume x)) op e = none_some e
begun_have_calls node epoch mounts (Some (Claim x)) op e = none_some e
