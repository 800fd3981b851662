use Rattle.std.proofs.Common.{◌∙◌, ap, sym}
use Rattle.std.proofs.lemmas.Result.{on_ok_weaker}
use Rattle.informer_cache.specs.Knowledge.{telling_of}
use Rattle.informer_cache.specs.Steps.Sights.{is_older}
use Rattle.informer_cache.proofs.Seen.{told_put}
use Rattle.informer_cache.proofs.tell.tell.Goals as goal

pub returns-clause-told : goal.returns-clause-told
returns-clause-told c =
    let newer = ap (is_older c.args.told.version) (sym c.known_version-known.ensures) ∙ (sym c.is_older.ensures ∙ c.if-is_older.false) in
    on_ok_weaker c.store.result (λ told. told_put c.args.lists.now c.args.rows.now c.store.new.self c.args.key.now (telling_of c.args.told) newer told) c.store.ensures.told
