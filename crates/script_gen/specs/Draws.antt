-- The numbers that a seed gives.
-- Source: D. E. Knuth, The Art of Computer Programming, volume 2, section 3.3.4: the linear congruential generator of MMIX. That a
-- draw takes the 31 highest bits is a choice of this project.
use Rattle.std.specs.Prelude.{ℕ, zero, suc, ◌+◌, ◌*◌, ◌/◌, ◌%◌, ◌^◌}

-- the next state of the generator: a linear congruential generator of 64 bits, with the constants of Knuth's MMIX
abbrev pub next_state : ℕ → ℕ
next_state x = (x * 6364136223846793005 + 1442695040888963407) % 2 ^ 64

-- the state after so many draws; it begins as the seed
unfoldable pub state_after : ℕ → ℕ → ℕ
state_after seed zero = seed
state_after seed (suc n) = next_state (state_after seed n)

-- a number below k, from the high bits of a state
abbrev pub drawn : ℕ → ℕ → ℕ
drawn x k = (x / 2 ^ 33) % k

-- the draw of this number, counted from 1, of a number below k
abbrev pub draw : ℕ → ℕ → ℕ → ℕ
draw seed n k = drawn (state_after seed n) k

-- a generator after so many draws
pub record Made : Type 0 where
  pub seed : ℕ
  pub made : ℕ
