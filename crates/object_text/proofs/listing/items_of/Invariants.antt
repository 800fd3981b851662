use Rattle.std.proofs.Common.{◌≡◌, ◌+◌, [], drop}
use Rattle.serde_json.specs.View.{items_view}
use Rattle.object_text.specs.Listing.{items_from}
use Rattle.object_text.proofs.listing.items_of.Given as goal

-- what is left goes on from the objects so far
abbrev pub invariant-loop-value : goal.invariant-loop-value
invariant-loop-value l = (l.item ≡ l.value-index + 1) × (items_from l.item (items_view (drop l.value-index l.values)) l.found ≡ items_from 1 (items_view l.values) [])
