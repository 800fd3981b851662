-- What a source has left, where it tells it, and what reads do to that.
-- A choice of this project.
use Rattle.std.specs.Prelude.{◌≡◌, ℕ, ◌<◌, List, [], ◌++◌, length, take, ⊤, Option, Some, None, MatchResult}
use Rattle.std.specs.declared.result.Result.{Result}

-- these bytes were taken from the front; who tells what is left goes on telling it
abbrev pub Takes : Option (List ℕ) → Option (List ℕ) → List ℕ → Type 0
Takes None None bytes = ⊤
Takes None (Some new) bytes = ⊥
Takes (Some old) None bytes = ⊥
Takes (Some old) (Some new) bytes = old ≡ bytes ++ new

-- these are all the bytes that are left
abbrev pub IsLeft : Option (List ℕ) → List ℕ → Type 0
IsLeft None bytes = ⊤
IsLeft (Some left) bytes = left ≡ bytes

-- more bytes than this are left
abbrev pub IsLongerThan : ℕ → Option (List ℕ) → Type 0
IsLongerThan most None = ⊤
IsLongerThan most (Some left) = most < length left

-- some bytes were taken from the front
pub record TakesFront (old new : Option (List ℕ)) : Type 0 where
  pub front : List ℕ
  pub taken : Takes old new front

-- a front of more bytes than this was taken
pub record TakesPast (most : ℕ) (old new : Option (List ℕ)) : Type 0 where
  pub front : List ℕ
  pub taken : Takes old new front
  pub past : most < length front

-- a read gave the bytes that it took, none only at the end or where there was no room; a failed read took none
abbrev pub Reads : {E : Type 0} → Option (List ℕ) → Option (List ℕ) → Result ℕ E → List ℕ → Type 0
Reads old new result buf = MatchResult result (λ n. Takes old new (take n buf) × (n ≡ 0 → 0 < length buf → IsLeft new [])) (λ _. new ≡ old)
