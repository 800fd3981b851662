-- The next call of a machine is allowed by its evidence; and it reads no whole kind.
use Rattle.std.proofs.Common.{◌≡◌, ◌∙◌, ℕ, suc, zero, List, [], ◌∷◌, Bool, true, false, Some, None, inl, inr, refl, sym, ap, subst, length, slice_get}
use Rattle.std.specs.Prelude.{◌||◌, IfSome, bytes_eq, is_some}
use Rattle.std.proofs.lemmas.Slice.Eq.{bytes_eq-Decides}
use Rattle.kube_objects.specs.declared.key.Key.{Key}
use Rattle.kube_objects.specs.declared.objects.Pod.{Pod as PodData}
use Rattle.kube_objects.specs.declared.objects.Object.TheVariants.{Pod}
use Rattle.kube_objects.specs.Bindings.{has_name}
use Rattle.call_types.specs.declared.entry.Entry.{Entry}
use Rattle.call_types.specs.declared.request.Request.{Request}
use Rattle.call_types.specs.declared.request.Request.TheVariants as requests
use Rattle.call_types.specs.declared.request.SeatKind.TheVariants.{Agent}
use Rattle.call_types.proofs.WholeKinds.{ReadsNone, call_reads_none, reads_no_kind}
use Rattle.binder_model.specs.AgentLicence.{AreReadReady, MayFinish, last_epoch}
use Rattle.call_types.specs.declared.request.SeatKind.TheVariants as seats
use Rattle.binder_model.specs.Licence.{AreOfKind, Licensed, RowAllows}
use Rattle.binder_model.specs.ObjectKeys.{claim_key, pod_key, volume_key}
use Rattle.binder_model.specs.Reading.{NamesClaim}
use Rattle.binder_model.specs.Told.{IsNewest, IsPodWith, ToldPod}
use Rattle.model_laws.proofs.Evidence.{told_map}
use Rattle.model_laws.proofs.Lists.{none_some, one}
use Rattle.model_laws.proofs.Mounting.{mount_joined}
use Rattle.model_laws.proofs.Newest.{newest_told}
use Rattle.node_agent.specs.declared.agent.AgentOp.{AgentOp}
use Rattle.node_agent.specs.declared.step.AgentStep.{AgentStep}
use Rattle.node_agent.specs.declared.step.AgentStep.TheVariants as steps
use Rattle.node_agent.specs.declared.step.ReadyClaim.{ReadyClaim}
use Rattle.node_agent.specs.Agents.{agent_call, agent_call_at, finish_call, mount_call, uids_of}
use Rattle.node_agent.specs.BeginLaw.{CallsReadNoKind}
use Rattle.node_agent.specs.Evidence.{AgentKeeps, AreFoundReady, MayFinishPod, MayMountPod, MayReadClaim, StepKeeps, at_rest}

answered : (mine : List Entry) (a b : Request) → Some a ≡ Some b → RowAllows seats.Agent mine a → RowAllows seats.Agent mine b
answered mine a b e may = subst (λ r. RowAllows seats.Agent mine r) (one a b e) may

-- what was told newest was told
pub newest_pod : (P : PodData → Type 0) (mine : List Entry) (key : Key) (p : PodData) → IsNewest mine key (Pod p) → P p → ToldPod P mine
newest_pod P mine key p is holds = told_map {P = λ x. x ≡ Pod p} {Q = IsPodWith P} (λ o same. subst (IsPodWith P) (sym same) holds) mine (newest_told mine key (Pod p) is)

-- a name at a place stands in the list
named_at : (names : List (List ℕ)) (i : ℕ) (name : List ℕ) → slice_get names i ≡ Some name → has_name name names ≡ true
named_at [] i name e = none_some e
named_at (n ∷ names) zero name e = ap (λ b. b || has_name name names) ((bytes_eq-Decides n name).1 (one n name e))
named_at (n ∷ names) (suc i) name e = or_true (bytes_eq n name) (has_name name names) (named_at names i name e)
  where
    or_true : (a b : Bool) → b ≡ true → (a || b) ≡ true
    or_true true b h = refl
    or_true false b h = h

reads_claim : (op : AgentOp) (name : List ℕ) (mine : List Entry) → MayReadClaim op name mine → RowAllows seats.Agent mine (requests.Get (claim_key op.pod.meta.namespace name))
reads_claim op name mine kept =
    let m = kept.pod in
    let taken : is_some (last_epoch op.pod.node mine) ≡ true = ap (λ (n : List ℕ). is_some (last_epoch n mine)) m.on_node.placed ∙ ap is_some m.current in
    let names : NamesClaim mine (claim_key op.pod.meta.namespace name) op.pod =
    record { taken = taken; scheduled = m.on_node.scheduled; placed = refl; kind = refl; named = named_at op.pod.claims (length op.ready) name kept.next.place } in
    inl (newest_pod (NamesClaim mine (claim_key op.pod.meta.namespace name)) mine (pod_key op.pod.meta.namespace op.pod.meta.name) op.pod m.newest names)

-- each claim was counted
whole : (recent : List Entry) (namespace : List ℕ) (ready : List ReadyClaim) (names : List (List ℕ)) → AreFoundReady recent namespace ready names
    → slice_get names (length ready) ≡ None → AreReadReady recent namespace names (uids_of ready)
whole recent namespace [] [] all e = tt
whole recent namespace [] (n ∷ names) all e = none_some (sym e)
whole recent namespace (r ∷ ready) [] all e = absurd all
whole recent namespace (r ∷ ready) (n ∷ names) all e = (all.0.read, whole recent namespace ready names all.1 e)

mounts : (op : AgentOp) (mine : List Entry) → MayMountPod op mine → RowAllows seats.Agent mine (mount_call op)
mounts op mine kept =
    let m = kept.pod in
    mount_joined mine op.node op.epoch op.uid (uids_of op.ready)
    (record {
      current = m.current;
      recent = m.recent;
      teller = m.teller;
      earlier = m.earlier;
      since = m.since;
      listed = m.listed;
      shown = op.pod;
      on_node = m.on_node;
      told = m.told;
      latest = op.pod;
      newest = m.newest;
      same = m.on_node.same;
      staying = m.staying;
      ready = whole m.recent op.pod.meta.namespace op.ready op.pod.claims m.ready kept.whole;
      unfinished = m.unfinished;
    })

finishes : (op : AgentOp) (mine : List Entry) → MayFinishPod op mine → MayFinish mine (pod_key op.pod.meta.namespace op.pod.meta.name) op.uid op.node op.epoch
finishes op mine kept = record { current = kept.ending.current; kind = refl; told = kept.ending.told; unmounted = kept.unmounted }

row_allows : (step : AgentStep) (op : AgentOp) (mine : List Entry) (request : Request) → StepKeeps step (at_rest op) mine → agent_call_at op step ≡ Some request → RowAllows seats.Agent mine request
row_allows (steps.ReadsClaim name) op mine request kept e = answered mine (requests.Get (claim_key op.pod.meta.namespace name)) request e (reads_claim (at_rest op) name mine kept)
row_allows (steps.ReadsVolume name c) op mine request kept e = answered mine (requests.Get (volume_key c.volume_name)) request e (inr kept.naming)
row_allows steps.MountsPod op mine request kept e = answered mine (mount_call op) request e (mounts (at_rest op) mine kept)
row_allows steps.Unmounts op mine request kept e = answered mine (requests.Unmount op.node op.epoch op.uid) request e (record { current = kept.current; told = kept.told })
row_allows steps.ReadsMounts op mine request kept e = answered mine (requests.Mounts op.node op.epoch) request e kept.current
row_allows steps.Finishes op mine request kept e = answered mine (finish_call op) request e (finishes (at_rest op) mine kept)
row_allows steps.Done op mine request kept e = none_some e
row_allows steps.Parked op mine request kept e = none_some e

pub allowed : (op : AgentOp) (mine : List Entry) (request : Request) → AreOfKind Agent mine → AgentKeeps op mine → agent_call op ≡ Some request → Licensed Agent mine request
unfolding agent_call
allowed op mine request own kept e = (own, row_allows op.step op mine request kept e)

-- no call reads a whole kind

step_reads_none : (step : AgentStep) (op : AgentOp) → IfSome (agent_call_at op step) ReadsNone
step_reads_none (steps.ReadsClaim name) op = λ kind. refl
step_reads_none (steps.ReadsVolume name c) op = λ kind. refl
step_reads_none steps.MountsPod op = λ kind. refl
step_reads_none steps.Unmounts op = λ kind. refl
step_reads_none steps.ReadsMounts op = λ kind. refl
step_reads_none steps.Finishes op = λ kind. refl
step_reads_none steps.Done op = tt
step_reads_none steps.Parked op = tt

pub calls_read_no_kind : CallsReadNoKind
unfolding agent_call
calls_read_no_kind op request e = reads_no_kind request (call_reads_none (agent_call_at op op.step) request e (step_reads_none op.step op))
