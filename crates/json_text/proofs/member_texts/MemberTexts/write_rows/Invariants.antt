use Rattle.std.proofs.Common.{◌≡◌, drop}
use Rattle.json_text.specs.Writing.{written, with_texts}
use Rattle.json_text.proofs.member_texts.MemberTexts.write_rows.Given as goal

abbrev pub invariant-loop-row : goal.invariant-loop-row
invariant-loop-row l = with_texts (drop l.row-index l.self) (written l.out) ≡ with_texts l.self (written l.initial.out)
