-- Pairs of a key and a value, both texts.
-- A choice of this project.
use Rattle.std.specs.Prelude.{ℕ, List, Option, option_map}
use Rattle.std.specs.declared.cmp.Ordering.{Ordering}
use Rattle.std.specs.Ordering.{nat_cmp}
use Rattle.std.specs.Cmp.Lexicographic.{slice_cmp}
use Rattle.plain_data.specs.Rows.{IsRising, IsAt, IsGap, put, find, without}

-- a name and its value, both texts
abbrev pub Pair : Type 0
Pair = List ℕ × List ℕ

-- the order of texts, by bytes
abbrev pub text_cmp : List ℕ → List ℕ → Ordering
text_cmp = slice_cmp nat_cmp

-- the name of a pair
abbrev pub pair_key : Pair → List ℕ
pair_key p = p.0

-- the pairs stand in the order of their names, each name once
abbrev pub ArePairs : List Pair → Type 0
ArePairs ps = IsRising text_cmp pair_key ps

-- the pairs with this name and value, in place of the pair of that name if there is one
abbrev pub put_pair : List ℕ → List ℕ → List Pair → List Pair
put_pair k v ps = put text_cmp pair_key (k, v) ps

-- the pair of a name, if there is one
abbrev pub pair_at : List ℕ → List Pair → Option Pair
pair_at k ps = find text_cmp pair_key k ps

-- the value of a name, if there is one
abbrev pub value_at : List ℕ → List Pair → Option (List ℕ)
value_at k ps = option_map (λ p. p.1) (pair_at k ps)

-- the pairs without that of a name
abbrev pub without_key : List ℕ → List Pair → List Pair
without_key k ps = without text_cmp pair_key k ps

-- the pair of the name stands at this place
abbrev pub IsPairAt : List Pair → List ℕ → ℕ → Type 0
IsPairAt ps k i = IsAt text_cmp pair_key k ps i

-- no pair has the name, and one that had it would stand at this place
abbrev pub IsPairGap : List Pair → List ℕ → ℕ → Type 0
IsPairGap ps k i = IsGap text_cmp pair_key k ps i
