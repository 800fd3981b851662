use Rattle.std.proofs.Common.{◌≡◌, ◌↔◌, IsTrue, get_or, take, reverse, sym, subst, true≢false}
use Rattle.std.proofs.lemmas.List.{get_or_read}
use Rattle.kube_objects.specs.Sources.{data_id_of}
use Rattle.call_types.specs.declared.entry.Entry.{Entry}
use Rattle.binder_model.specs.OpsLicence.{IsEndedOver, TellsErased}
use Rattle.binder_model.specs.Told.{IsVolumeWith, ToldVolume}
use Rattle.licence_writes.specs.OpsRows.Providing.{WasEnded}
use Rattle.licence_scans.proofs.Afters.{after_last}
use Rattle.model_laws.proofs.AfterEntries.{after_some}
use Rattle.licence_writes.proofs.OpsRows.Erasing.{ended_is}
use Rattle.licence_writes.proofs.roles.ops.was_erased.Goals as goal

pub returns-in-None : goal.returns-in-None
returns-in-None c =
    let id = data_id_of c.args.volume.now.source in (
      (λ t. absurd (true≢false (sym t))),
      (λ h. absurd (c.in-None.ensures (after_some (ToldVolume (IsEndedOver c.args.uid id)) (TellsErased id) (reverse c.args.mine.now) h))),
    )

pub returns-in-Some : goal.returns-in-Some
returns-in-Some c =
    let id = data_id_of c.args.volume.now.source in
    let last = c.in-Some.ensures in
    let xs = reverse (take c.in-Some.place c.args.mine.now) in
    let same : last.entry ≡ get_or c.args.mine.now c.in-Some.place c.index-mine-place.result =
    get_or_read c.args.mine.now c.in-Some.place last.entry last.within last.there c.index-mine-place.result in
    let asks : IsTrue c.was_ended.result ↔ WasEnded xs c.args.uid last.entry.request =
    subst (λ (e : Entry). IsTrue c.was_ended.result ↔ WasEnded xs c.args.uid e.request) (sym same) c.was_ended.ensures in
    let is = ended_is id c.args.uid xs last.entry.request last.entry.reply last.is.1 in
    after_last (IsVolumeWith (IsEndedOver c.args.uid id)) (TellsErased id) c.args.mine.now c.in-Some.place c.was_ended.result last ((λ t. is.0 (asks.0 t)), (λ t. asks.1 (is.1 t)))
