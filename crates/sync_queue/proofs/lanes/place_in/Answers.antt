use Rattle.std.proofs.Common.{◌<◌, arith, sym, ◌∙◌}
use Rattle.std.proofs.lemmas.Option.{slice_get_read}
use Rattle.indexmap.specs.IndexMap.{keys}
use Rattle.sync_queue.proofs.KeyFacts.{key_is}
use Rattle.sync_queue.proofs.MapPlaces.{below_at, there_at}
use Rattle.sync_queue.proofs.lanes.place_in.Goals as goal

pub key_at-requires : goal.key_at-requires
key_at-requires c =
    let list = c.args.list.now in
    let lt : c.loop-at.at < list.len = omega (arith, c.len-at-end.ensures) in
    below_at _ _ c.loop-at.at _ (slice_get_read list.items list.len c.loop-at.at _ list.ok.0 lt c.index.ensures) c.requires.below

pub returns-then-is-clause-key : goal.returns-then-is-clause-key
returns-then-is-clause-key c =
    let list = c.args.list.now in
    let lt : c.loop-at.at < list.len = omega (arith, c.len-at-end.ensures) in
    there_at (keys c.args.stages.now) list.items c.loop-at.at _ (slice_get_read list.items list.len c.loop-at.at _ list.ok.0 lt c.index.ensures)
    ∙ (sym c.key_at.ensures ∙ (sym c.get.ensures ∙ sym (key_is c.args.key.now _ (sym c.is.ensures ∙ c.if-is.true))))
