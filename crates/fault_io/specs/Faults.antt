-- Counts of faults, which stand still at 2^64 - 1 (a choice of this project).
use Rattle.std.specs.Prelude.{ℕ, ◌+◌, ◌-◌, ◌^◌, ◌≤◌, min, OnErr}
use Rattle.std.specs.declared.result.Result.{Result}

-- one more, or the last value
abbrev pub one_more : ℕ → ℕ
one_more n = min (n + 1) (2 ^ 64 - 1)

-- the count rose, or stands at its last value
abbrev pub Rose : ℕ → ℕ → Type 0
Rose old new = one_more old ≤ new

-- the count never falls, and a failure raised it
pub record HasCause {T E : Type 0} (old new : ℕ) (result : Result T E) : Type 0 where
  pub later : old ≤ new
  pub failed : OnErr result (Rose old new)
