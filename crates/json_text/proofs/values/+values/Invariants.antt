use Rattle.std.proofs.Common.{◌≡◌, false, drop}
use Rattle.serde_json.specs.View.{items_view, members_view}
use Rattle.serde_json.specs.Written.{items_have_float, members_have_float}
use Rattle.json_text.specs.Members.{member_texts}
use Rattle.json_text.specs.Writing.{written, with_texts, items_after}
use Rattle.json_text.proofs.values.+values.Given as goal

abbrev pub invariant-write_items-loop-item : goal.invariant-write_items-loop-item
invariant-write_items-loop-item l =
    (items_after (items_view (drop l.item-index l.item-items)) (written l.out) ≡ items_after (items_view l.item-items) (written l.initial.out))
    × (items_have_float (items_view (drop l.item-index l.item-items)) ≡ false)

abbrev pub invariant-write_members-loop-name : goal.invariant-write_members-loop-name
invariant-write_members-loop-name l =
    (with_texts (member_texts (members_view l.name-iterator)) (written l.out) ≡ with_texts (member_texts (members_view l.members.entries)) (written l.initial.out))
    × (members_have_float (members_view l.name-iterator) ≡ false)
