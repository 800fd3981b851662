use Rattle.std.proofs.Common.{◌≡◌, drop}
use Rattle.json_text.specs.Writing.{written, items_after}
use Rattle.json_text.specs.Members.{items_data}
use Rattle.object_print.proofs.members.write_items.Given as goal

abbrev pub invariant-loop-item : goal.invariant-loop-item
invariant-loop-item g l = items_after (items_data (g.T.AsJson.json) (drop l.item-index l.items)) (written l.out) ≡ items_after (items_data (g.T.AsJson.json) l.items) (written l.initial.out)
