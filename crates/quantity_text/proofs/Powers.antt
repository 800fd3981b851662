-- Bounds on powers, and on a fraction of them.
use Rattle.std.proofs.Common.{ℕ, ◌*◌, ◌^◌, ◌≤◌, ◌<◌, lit<, arith}
use Rattle.std.proofs.Math.Nat.{mul-le-mul_right, one-le-pow, pow-le-pow_right}

pub ten_small : (x : ℕ) → x ≤ 18 → 10 ^ x ≤ 1_000_000_000_000_000_000
ten_small x small = pow-le-pow_right {n = 10} (lit< tt) small

pub two_small : (x : ℕ) → x ≤ 60 → 2 ^ x ≤ 1_152_921_504_606_846_976
two_small x small = pow-le-pow_right {n = 2} (lit< tt) small

pub ten_positive : (x : ℕ) → 0 < 10 ^ x
ten_positive x = let one = one-le-pow x 10 (lit< tt) in omega arith

pub product_positive : (a b : ℕ) → 0 < a → 0 < b → 0 < a * b
product_positive a b left right = let more = mul-le-mul_right {m = 1} b left in omega arith
