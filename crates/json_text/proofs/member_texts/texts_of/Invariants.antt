use Rattle.std.proofs.Common.{◌≡◌, [], false}
use Rattle.serde_json.specs.View.{members_view}
use Rattle.serde_json.specs.Written.{members_have_float}
use Rattle.json_text.specs.Members.{then_texts}
use Rattle.json_text.proofs.member_texts.texts_of.Given as goal

abbrev pub invariant-loop-name : goal.invariant-loop-name
invariant-loop-name l =
    (then_texts (members_view l.name-iterator) l.rows.items ≡ then_texts (members_view l.map.entries) [])
    × (members_have_float (members_view l.name-iterator) ≡ false)
