use Rattle.std.proofs.Common.{◌≡◌, [], drop}
use Rattle.serde_json.specs.View.{items_view}
use Rattle.object_text.specs.PartReaders.{terms_from}
use Rattle.object_text.proofs.part_readers.terms_of.Given as goal

abbrev pub invariant-loop-value : goal.invariant-loop-value
invariant-loop-value l = terms_from (items_view (drop l.value-index l.values)) l.found ≡ terms_from (items_view l.values) []
