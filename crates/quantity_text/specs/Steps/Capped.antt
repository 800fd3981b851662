-- Numbers up to 10^18, and 10^18 in place of each number above. A choice of this project.
use Rattle.std.specs.Prelude.{ℕ, ◌≤◌, min, ⊤}
use Rattle.quantity_text.specs.declared.scales.Scale.{Scale}
use Rattle.quantity_text.specs.declared.scales.Scale.TheVariants.{Binary, Decimal, Fraction}

-- the number, at most 10^18
abbrev pub capped : ℕ → ℕ
capped n = min 1_000_000_000_000_000_000 n

-- the scale with its decimal exponent, at most 10^18
abbrev pub capped_scale : Scale → Scale
capped_scale (Binary x) = Binary x
capped_scale (Decimal x) = Decimal (capped x)
capped_scale (Fraction x) = Fraction (capped x)

-- a power of two that has a name
abbrev pub IsNamed : Scale → Type 0
IsNamed (Binary x) = x ≤ 60
IsNamed (Decimal x) = ⊤
IsNamed (Fraction x) = ⊤

-- an exponent that is accepted
abbrev pub IsNear : Scale → Type 0
IsNear (Binary x) = x ≤ 60
IsNear (Decimal x) = x ≤ 18
IsNear (Fraction x) = x ≤ 18
