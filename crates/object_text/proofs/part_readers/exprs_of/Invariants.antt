use Rattle.std.proofs.Common.{◌≡◌, [], drop}
use Rattle.serde_json.specs.View.{items_view}
use Rattle.object_text.specs.PartReaders.{exprs_from}
use Rattle.object_text.proofs.part_readers.exprs_of.Given as goal

abbrev pub invariant-loop-value : goal.invariant-loop-value
invariant-loop-value l = exprs_from (items_view (drop l.value-index l.values)) l.found ≡ exprs_from (items_view l.values) []
