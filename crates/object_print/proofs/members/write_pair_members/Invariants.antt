use Rattle.std.proofs.Common.{◌≡◌, drop}
use Rattle.json_text.specs.Writing.{written, with_all}
use Rattle.json_text.specs.Members.{pair_members}
use Rattle.object_print.proofs.members.write_pair_members.Given as goal

abbrev pub invariant-loop-pair : goal.invariant-loop-pair
invariant-loop-pair l = with_all (pair_members (drop l.pair-index l.pairs)) (written l.out) ≡ with_all (pair_members l.pairs) (written l.initial.out)
