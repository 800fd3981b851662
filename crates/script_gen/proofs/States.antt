-- The states of a generator, one after the other.
use Rattle.std.proofs.Common.{◌≡◌, ℕ, ◌+◌, ◌/◌, ◌%◌, refl, ap, sym, ◌∙◌, add-one}
use Rattle.script_gen.specs.Draws.{state_after, next_state, draw}

pub first_state : (seed : ℕ) → seed ≡ state_after seed 0
unfolding state_after
first_state seed = refl

state_more : (seed n : ℕ) → state_after seed (n + 1) ≡ next_state (state_after seed n)
unfolding state_after
state_more seed n = rw add-one refl

pub next_is : (seed n state next : ℕ) → state ≡ state_after seed n → next ≡ next_state state → next ≡ state_after seed (n + 1)
next_is seed n state next at is = is ∙ ap next_state at ∙ sym (state_more seed n)

pub drawn_next : (seed n state next most : ℕ) → state ≡ state_after seed n → next ≡ next_state state → next / 8589934592 % most ≡ draw seed (n + 1) most
drawn_next seed n state next most at is = ap (λ (s : ℕ). s / 8589934592 % most) (next_is seed n state next at is)
