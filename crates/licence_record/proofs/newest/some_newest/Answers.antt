use Rattle.std.proofs.Common.{reverse}
use Rattle.kube_objects.specs.Keys.{key_of}
use Rattle.binder_model.specs.Told.{ToldObject}
use Rattle.licence_rows.specs.Asking.{IsNewestWith}
use Rattle.licence_rows.proofs.Asks.{newest_some}
use Rattle.evidence_pages.proofs.Growing.{told_grows}
use Rattle.licence_record.proofs.Judging.{lift, paged}
use Rattle.licence_record.proofs.newest.some_newest.Goals as goal

pub returns : goal.returns
returns g c =
    let P = g.T.ObjectTest.allows c.args.may.now in
    let Q = g.U.SureTest.allows c.args.row.now in
    let mine = g.R.Record.told c.args.seat.now in
    let page = reverse c.args.page.now in
    lift _ _ _ _ (λ b is. newest_some P Q mine b is)
    (paged _ (λ m. ToldObject (λ o. P o × IsNewestWith (λ x. P x × Q x) mine (key_of o)) m) page mine _
    (told_grows (λ o. P o × IsNewestWith (λ x. P x × Q x) mine (key_of o)) page mine c.requires.part) (λ w. c.requires.all w.0) c.told_shared.ensures)
