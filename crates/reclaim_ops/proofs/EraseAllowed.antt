-- The next call of a volume's machine is allowed by its evidence; and it neither lists nor watches.
use Rattle.std.proofs.Common.{◌≡◌, List, [], ◌∷◌, false, Some, inl, inr, refl, sym, ap, subst}
use Rattle.kube_parts.specs.declared.uid.Uid.{Uid}
use Rattle.kube_parts.specs.declared.parts.VolumePhase.TheVariants as phases
use Rattle.kube_objects.specs.declared.objects.Volume.{Volume as VolumeData}
use Rattle.kube_objects.specs.Sources.{data_id_of}
use Rattle.call_types.specs.declared.entry.Entry.{Entry}
use Rattle.call_types.specs.declared.request.Request.{Request}
use Rattle.call_types.specs.declared.request.Request.TheVariants as requests
use Rattle.call_types.specs.declared.request.SeatKind.TheVariants.{Ops}
use Rattle.binder_model.specs.At.{IsWrittenAt}
use Rattle.call_types.specs.declared.request.SeatKind.TheVariants as seats
use Rattle.binder_model.specs.Licence.{AreOfKind, Licensed, RowAllows, PhaseMay, ops_phase}
use Rattle.binder_model.specs.OpsLicence.{IsEndedOver, MayDelete, MayErase, MayFail, TellsErased}
use Rattle.binder_model.specs.Reading.{AsksForEnded}
use Rattle.binder_model.specs.Told.{After, ToldVolume}
use Rattle.model_laws.proofs.Evidence.{told_volume}
use Rattle.model_laws.proofs.Lists.{none_some, one}
use Rattle.reclaim_ops.specs.declared.erase.EraseOp.{EraseOp}
use Rattle.reclaim_ops.specs.declared.erase.EraseStep.{EraseStep}
use Rattle.reclaim_ops.specs.declared.erase.EraseStep.TheVariants as steps
use Rattle.reclaim_ops.specs.BeginLaw.{EraseCallsReadNoKind, lists_or_watches}
use Rattle.reclaim_ops.specs.Erasures.{erase_call_at, erase_call, fail_call, key_of_volume}
use Rattle.reclaim_ops.specs.Evidence.{EraseKeeps, EraseStepKeeps, MayDeleteErased, MayEraseData, MayReclaim, MayWriteFailed}

pub answered : (mine : List Entry) (a b : Request) → Some a ≡ Some b → RowAllows seats.Ops mine a → RowAllows seats.Ops mine b
answered mine a b e may = subst (λ r. RowAllows seats.Ops mine r) (one a b e) may

reads : (v : VolumeData) (mine : List Entry) → MayReclaim v mine → RowAllows seats.Ops mine (requests.Get (key_of_volume v))
reads v mine kept =
    let row : AsksForEnded mine (key_of_volume v) = record { volume = v; newest_volume = kept.newest; ended = kept.ended } in
    row

erases : (v : VolumeData) (uid : Uid) (mine : List Entry) → MayEraseData v uid mine → RowAllows seats.Ops mine (requests.Erase (data_id_of v.source))
erases v uid mine kept =
    let row : MayErase mine (data_id_of v.source) = record { volume = v; last = kept.last; ended = kept.ended } in
    row

-- what was told before holds of more
after_map : (P Q : List Entry → Type 0) (R : Entry → Type 0) → ((mine : List Entry) → P mine → Q mine) → (mine : List Entry) → After P R mine → After Q R mine
after_map P Q R f [] h = absurd h
after_map P Q R f (e ∷ mine) h = elim h [ inl here ↦ inl (here.0, f mine here.1) | inr before ↦ inr (after_map P Q R f mine before) ]

deletes : (v : VolumeData) (uid : Uid) (mine : List Entry) → MayDeleteErased v uid mine → RowAllows seats.Ops mine (requests.Delete (key_of_volume v) (Some uid))
deletes v uid mine kept =
    let id = data_id_of v.source in
    let over : IsEndedOver uid id v = record { same = kept.known; ended = kept.ended.ended; policy = kept.ended.policy; over = refl } in
    let row : MayDelete mine uid = record {
      id = id;
      erased = after_map (ToldVolume (λ o. o ≡ v)) (ToldVolume (IsEndedOver uid id)) (TellsErased id) (λ m told. told_volume (IsEndedOver uid id) v m told over) mine kept.erased;
    } in
    (refl, row)

fails : (v : VolumeData) (mine : List Entry) → MayWriteFailed v mine → RowAllows seats.Ops mine (fail_call v)
fails v mine kept =
    let row : MayFail mine v = record { ended = kept.ended.ended; failed = kept.failed } in (
      refl,
      told_volume (λ o. IsWrittenAt (Some v.meta.version) v.meta.namespace v.meta.name o.meta × PhaseMay (ops_phase phases.Failed) mine o) v
          mine kept.told (record { version = refl; placed = refl; named = refl }, row),
    )

step_row : (step : EraseStep) (v : VolumeData) (mine : List Entry) (request : Request) → EraseStepKeeps step v mine → erase_call_at step v ≡ Some request → RowAllows seats.Ops mine request
step_row steps.ReadsVolume v mine request kept e = answered mine (requests.Get (key_of_volume v)) request e (reads v mine kept)
step_row (steps.Erases uid) v mine request kept e = answered mine (requests.Erase (data_id_of v.source)) request e (erases v uid mine kept)
step_row (steps.Deletes uid) v mine request kept e = answered mine (requests.Delete (key_of_volume v) (Some uid)) request e (deletes v uid mine kept)
step_row steps.WritesFailed v mine request kept e = answered mine (fail_call v) request e (fails v mine kept)
step_row steps.Done v mine request kept e = none_some e
step_row steps.Parked v mine request kept e = none_some e

pub erase_allowed : (op : EraseOp) (mine : List Entry) (request : Request) → AreOfKind Ops mine → EraseKeeps op mine → erase_call op ≡ Some request → Licensed Ops mine request
unfolding erase_call
erase_allowed op mine request own kept e = (own, step_row op.step op.volume mine request kept e)

step_reads : (step : EraseStep) (v : VolumeData) (request : Request) → erase_call_at step v ≡ Some request → lists_or_watches request ≡ false
step_reads steps.ReadsVolume v request e = sym (ap lists_or_watches (one _ request e))
step_reads (steps.Erases uid) v request e = sym (ap lists_or_watches (one _ request e))
step_reads (steps.Deletes uid) v request e = sym (ap lists_or_watches (one _ request e))
step_reads steps.WritesFailed v request e = sym (ap lists_or_watches (one _ request e))
step_reads steps.Done v request e = none_some e
step_reads steps.Parked v request e = none_some e

pub erase_calls_read_no_kind : EraseCallsReadNoKind
unfolding erase_call
erase_calls_read_no_kind op request e = step_reads op.step op.volume request e
