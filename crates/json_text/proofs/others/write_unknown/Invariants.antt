use Rattle.std.proofs.Common.{◌≡◌, false}
use Rattle.serde_json.specs.View.{members_view}
use Rattle.serde_json.specs.Written.{members_have_float}
use Rattle.json_text.specs.Members.{member_texts}
use Rattle.json_text.specs.Trees.{unknown}
use Rattle.json_text.specs.Writing.{written, with_texts}
use Rattle.json_text.proofs.others.write_unknown.Given as goal

abbrev pub invariant-loop-name : goal.invariant-loop-name
invariant-loop-name g l =
    (with_texts (member_texts (unknown (g.N.KnownNames.known l.names) (members_view l.name-iterator))) (written l.out)
    ≡ with_texts (member_texts (unknown (g.N.KnownNames.known l.names) (members_view l.map.entries))) (written l.initial.out))
    × (members_have_float (members_view l.name-iterator) ≡ false)
