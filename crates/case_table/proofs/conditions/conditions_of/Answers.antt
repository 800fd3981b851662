use Rattle.std.proofs.Common.{ℕ, Bool, true, List, ◌+◌, set, arith, subst, sym}
use Rattle.case_table.proofs.Numbers.{Digits, digits_begin, digit_set, digit_clear, digits_end}
use Rattle.case_table.proofs.conditions.conditions_of.Goals.{then-weight-rest, else-weight-rest}
use Rattle.case_table.proofs.conditions.conditions_of.Goals as goal

pub loop-i-init : goal.loop-i-init
loop-i-init g c = digits_begin g.row.K c.args.number c.requires.below

pub loop-i-preserved : goal.loop-i-preserved
loop-i-preserved g c = elim c.if-weight-rest.branch [
  | then-weight-rest w ↦
      subst (λ (cs : List Bool). Digits g.row.K (c.loop-i.i + 1) c.args.number cs c.if-weight-rest.rest) (sym w.conditions-is)
      (subst (λ (n : ℕ). Digits g.row.K (c.loop-i.i + 1) c.args.number (set c.loop-i.conditions c.loop-i.i true) n) (sym w.rest-is)
      (digit_set g.row.K c.loop-i.i c.args.number _ _ _ c.loop-i-test.true c.power-weight.ensures w.if-weight-rest.true c.loop-i.invariant))
  | else-weight-rest w ↦
      subst (λ (cs : List Bool). Digits g.row.K (c.loop-i.i + 1) c.args.number cs c.if-weight-rest.rest) (sym w.conditions-is)
      (subst (λ (n : ℕ). Digits g.row.K (c.loop-i.i + 1) c.args.number c.loop-i.conditions n) (sym w.rest-is)
      (digit_clear g.row.K c.loop-i.i c.args.number _ _ _ c.loop-i-test.true c.power-weight.ensures w.if-weight-rest.false c.loop-i.invariant))
]

pub returns-clause-number : goal.returns-clause-number
returns-clause-number g c = digits_end _ _ _ _ _ (omega arith) c.loop-i.invariant

pub returns-clause-whole : goal.returns-clause-whole
returns-clause-whole g c = c.loop-i.invariant.whole
