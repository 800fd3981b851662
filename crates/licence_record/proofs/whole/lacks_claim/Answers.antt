use Rattle.std.proofs.Common.{◌↔◌, IsTrue, reverse, ◌∙◌, subst}
use Rattle.binder_model.specs.Reading.{LacksUid}
use Rattle.licence_rows.proofs.Asks.{newest_at}
use Rattle.licence_record.proofs.whole.lacks_claim.Goals as goal

pub returns : goal.returns
returns c =
    let mine = reverse c.args.mine.now in
    subst (λ o. IsTrue c.lacks_uid.result ↔ LacksUid o c.args.uid) (c.newest_object-found.ensures ∙ newest_at mine c.args.key.now.kind _ _ _ _ c.as_str.ensures c.as_str-2.ensures) c.lacks_uid.ensures
