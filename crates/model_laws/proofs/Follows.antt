-- Where a seat stands with a kind that it follows.
use Rattle.std.proofs.Common.{ℕ, refl, inl}
use Rattle.binder_model.specs.Reading.{Following, IsFrom, ListedAt, Unlisted, reached_on}

-- a kind that may be watched after a watch might be watched before it
pub watched_before : (upto from : ℕ) (f : Following) (L : Type 0) → ((n : ℕ) → IsFrom n f → L) → IsFrom from (reached_on upto f) → L
watched_before upto from Unlisted L rest h = absurd h
watched_before upto from (ListedAt version seen) L rest h = rest version (inl refl)
