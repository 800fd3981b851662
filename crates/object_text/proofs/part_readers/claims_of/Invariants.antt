use Rattle.std.proofs.Common.{◌≡◌, [], drop}
use Rattle.serde_json.specs.View.{items_view}
use Rattle.object_text.specs.PartReaders.{claims_from}
use Rattle.object_text.proofs.part_readers.claims_of.Given as goal

abbrev pub invariant-loop-value : goal.invariant-loop-value
invariant-loop-value l = claims_from (items_view (drop l.value-index l.values)) l.found ≡ claims_from (items_view l.values) []
