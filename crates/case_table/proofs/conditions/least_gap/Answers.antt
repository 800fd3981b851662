use Rattle.std.proofs.Common.{◌≡◌, ◌∙◌, ◌^◌, sym, ap, arith, inl, inr}
use Rattle.std.proofs.lemmas.Bool.{cases_lt}
use Rattle.case_table.specs.Cases.{binary, some_row_fits}
use Rattle.case_table.proofs.Numbers.{binary_below, binary_one}
use Rattle.case_table.proofs.conditions.least_gap.Goals as goal

pub loop-number-preserved : goal.loop-number-preserved
loop-number-preserved g c = λ cs whole below. elim (cases_lt (binary cs) c.loop-number.number) [
  | inl less ↦ c.loop-number.invariant cs whole less
  | inr above ↦
      let number : binary cs ≡ binary c.conditions_of-conditions.result = omega (arith, c.conditions_of-conditions.ensures.number) in
      let same = binary_one cs c.conditions_of-conditions.result (whole ∙ sym c.conditions_of-conditions.ensures.whole) number in
      ap (some_row_fits c.args.rows.now) same ∙ (sym c.some_row_fits.ensures ∙ c.if-not-some_row_fits.false)
]

pub returns-clause-none : goal.returns-clause-none
returns-clause-none g c = λ cs whole. c.loop-number.invariant cs whole (omega (arith, binary_below cs, ap (λ n. 2 ^ n) whole))
