use Rattle.std.proofs.Common.{◌≡◌, ◌+◌, false, drop}
use Rattle.serde_json.specs.View.{items_view, members_view}
use Rattle.json_text.specs.Sizes.{least_items, least_members}
use Rattle.json_text.proofs.sizes.+sizes.Given as goal

-- what is left of the room is short of it by what was counted
abbrev pub invariant-after_items-loop-item : goal.invariant-after_items-loop-item
invariant-after_items-loop-item l = l.left + least_items false (items_view l.item-items) ≡ l.room + least_items l.later (items_view (drop l.item-index l.item-items))

abbrev pub invariant-after_members-loop-name : goal.invariant-after_members-loop-name
invariant-after_members-loop-name l = l.left + least_members false (members_view l.members.entries) ≡ l.room + least_members l.later (members_view l.name-iterator)
