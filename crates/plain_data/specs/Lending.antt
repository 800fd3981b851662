-- What a caller may say of a shared value after writing to it.
-- A choice of this project.
use Rattle.std.specs.declared.result.Result.{Result}
use Rattle.std.specs.Borrow.{LendsIfOk, MutBor, Fml}
use denote.RattleType.{RattleType}
use Rattle.plain_data.specs.contracts.shared.Shared.{the_row}

-- where the value was lent, it is afterwards what was written last; else it is what it was
abbrev pub LendsValue : (R : RattleType) → MutBor R.Denot → {E : Type 0} → Result (MutBor R.Denot) E → Fml
LendsValue R s r = LendsIfOk (the_row R) R s r (λ w. w) s.now
