-- The next call of a claim's machine is allowed by its evidence; and it neither lists nor watches.
use Rattle.std.proofs.Common.{◌≡◌, ℕ, List, false, Option, Some, refl, sym, ap}
use Rattle.plain_data.specs.Pairs.{Pair}
use Rattle.kube_parts.specs.declared.uid.Uid.{Uid}
use Rattle.kube_objects.specs.declared.objects.DataId.{DataId}
use Rattle.kube_objects.specs.declared.objects.Class.{Class as ClassData}
use Rattle.kube_objects.specs.declared.objects.Claim.{Claim as ClaimData}
use Rattle.call_types.specs.declared.entry.Entry.{Entry}
use Rattle.call_types.specs.declared.request.Request.{Request}
use Rattle.call_types.specs.declared.request.SeatKind.TheVariants.{Ops}
use Rattle.binder_model.specs.At.{IsWrittenAt}
use Rattle.call_types.specs.declared.request.SeatKind.TheVariants as seats
use Rattle.binder_model.specs.Licence.{AreOfKind, Licensed, RowAllows}
use Rattle.binder_model.specs.OpsLicence.{MayClearNode, MayCreate}
use Rattle.binder_model.specs.Provisioning.{provisioned_volume}
use Rattle.model_laws.proofs.Evidence.{told_claim}
use Rattle.model_laws.proofs.Lists.{none_some, one}
use Rattle.reclaim_ops.specs.declared.provision.ProvisionOp.{ProvisionOp}
use Rattle.reclaim_ops.specs.declared.provision.ProvisionStep.{ProvisionStep}
use Rattle.reclaim_ops.specs.declared.provision.ProvisionStep.TheVariants as steps
use Rattle.reclaim_ops.specs.BeginLaw.{ProvisionCallsReadNoKind, lists_or_watches}
use Rattle.reclaim_ops.specs.Evidence.{MayAsk, MayClear, MayCreateOver, ProvisionKeeps, ProvisionStepKeeps}
use Rattle.reclaim_ops.specs.Provisions.{ask_call, provision_call_at, clear_call, create_call, provision_call, unselected}
use Rattle.reclaim_ops.proofs.EraseAllowed.{answered}

asks : (c : ClaimData) (uid : Uid) (x : ClassData) (labels : Option (List Pair)) (mine : List Entry) → MayAsk c uid x labels mine → RowAllows seats.Ops mine (ask_call c uid x labels)
asks c uid x labels mine kept = record {
  claim = c;
  uid = uid;
  known = kept.current.known;
  newest = kept.current.newest;
  wanting = kept.wanting;
  class = x;
  class_newest = kept.current.class_newest;
  by_class = refl;
  real = kept.real;
  named = refl;
  sized = refl;
  placed = kept.placed;
}

creates : (c : ClaimData) (uid : Uid) (x : ClassData) (id : DataId) (topology : Option (List ℕ × List ℕ)) (mine : List Entry)
    → MayCreateOver c uid x id topology mine → RowAllows seats.Ops mine (create_call c uid x id topology)
creates c uid x id topology mine kept =
    let row : MayCreate mine (provisioned_volume c uid x id topology) = record {
      claim = c;
      uid = uid;
      known = kept.current.known;
      newest = kept.current.newest;
      class = x;
      class_newest = kept.current.class_newest;
      id = id;
      topology = topology;
      given = kept.given;
      object = refl;
    } in
    row

clears : (c : ClaimData) (uid : Uid) (mine : List Entry) → MayClear c uid mine → RowAllows seats.Ops mine (clear_call c)
clears c uid mine kept =
    let row : MayClearNode mine c (unselected c) = record { undone = kept.undone; uid = uid; known = kept.known; node = kept.node; selected = kept.selected; why = kept.why; change = refl } in
    told_claim (λ o. IsWrittenAt (Some c.meta.version) c.meta.namespace c.meta.name o.meta × MayClearNode mine o (unselected c)) c mine kept.told
    (record { version = refl; placed = refl; named = refl }, row)

step_row : (step : ProvisionStep) (c : ClaimData) (uid : Uid) (x : ClassData) (mine : List Entry) (request : Request)
    → ProvisionStepKeeps step c uid x mine → provision_call_at step c uid x ≡ Some request → RowAllows seats.Ops mine request
step_row (steps.Provisions labels) c uid x mine request kept e = answered mine (ask_call c uid x labels) request e (asks c uid x labels mine kept)
step_row (steps.Creates id topology) c uid x mine request kept e = answered mine (create_call c uid x id topology) request e (creates c uid x id topology mine kept)
step_row steps.ClearsNode c uid x mine request kept e = answered mine (clear_call c) request e (clears c uid mine kept)
step_row steps.Done c uid x mine request kept e = none_some e
step_row steps.Parked c uid x mine request kept e = none_some e

pub provision_allowed : (op : ProvisionOp) (mine : List Entry) (request : Request) → AreOfKind Ops mine → ProvisionKeeps op mine → provision_call op ≡ Some request → Licensed Ops mine request
unfolding provision_call
provision_allowed op mine request own kept e = (own, step_row op.step op.claim op.uid op.class mine request kept e)

step_reads : (step : ProvisionStep) (c : ClaimData) (uid : Uid) (x : ClassData) (request : Request) → provision_call_at step c uid x ≡ Some request → lists_or_watches request ≡ false
step_reads (steps.Provisions labels) c uid x request e = sym (ap lists_or_watches (one _ request e))
step_reads (steps.Creates id topology) c uid x request e = sym (ap lists_or_watches (one _ request e))
step_reads steps.ClearsNode c uid x request e = sym (ap lists_or_watches (one _ request e))
step_reads steps.Done c uid x request e = none_some e
step_reads steps.Parked c uid x request e = none_some e

pub provision_calls_read_no_kind : ProvisionCallsReadNoKind
unfolding provision_call
provision_calls_read_no_kind op request e = step_reads op.step op.claim op.uid op.class request e
