-- Sums over the kinds that an actor follows, and how quotients fall.
use Rattle.std.proofs.Common.{◌≡◌, ℕ, ◌+◌, ◌*◌, ◌≤◌, List, [], ◌∷◌, Bool, true, false, inl, inr, refl, ap, subst, arith}
use Rattle.std.specs.Prelude.{◌/◌, cond}
use Rattle.std.proofs.Math.Nat.{mul-add}
use Rattle.std.proofs.lemmas.Nat.{div-add-mod', le-div, mul-le}
use Rattle.kube_parts.specs.declared.parts.Kind.{Kind}
use Rattle.kube_parts.specs.declared.parts.Kind.TheVariants as kinds
use Rattle.kube_objects.specs.Keys.{same_kind}
use Rattle.kube_objects.proofs.SameKeys.{same_kind-Decides}
use Rattle.call_types.specs.declared.request.SeatKind.{SeatKind}
use Rattle.call_types.specs.declared.request.SeatKind.TheVariants as seats
use Rattle.model_laws.proofs.Lists.{IsIn}
use Rattle.worker_core.specs.Roles.{kinds_of}
use Rattle.settle_calls.specs.Events.Ahead.{sum_over}

pub sum_less : (f g : Kind → ℕ) (ks : List Kind) → ((k : Kind) → g k ≤ f k) → sum_over g ks ≤ sum_over f ks
sum_less f g [] each = omega arith
sum_less f g (k ∷ ks) each = let h = each k in let rest = sum_less f g ks each in omega (arith, h, rest)

pub sum_more : (f g d : Kind → ℕ) (ks : List Kind) → ((k : Kind) → g k ≤ f k + d k) → sum_over g ks ≤ sum_over f ks + sum_over d ks
sum_more f g d [] each = omega arith
sum_more f g d (k ∷ ks) each = let h = each k in let rest = sum_more f g d ks each in omega (arith, h, rest)

-- one of the kinds falls, and no other rises
pub sum_falls : (f g : Kind → ℕ) (n : ℕ) (kind : Kind) (ks : List Kind) → ((k : Kind) → same_kind kind k ≡ false → g k ≤ f k) → g kind + n ≤ f kind → IsIn kind ks → sum_over g ks + n ≤ sum_over f ks
sum_falls f g n kind [] others own i = absurd i
sum_falls f g n kind (k ∷ ks) others own (inl is) =
    let rest = sum_less f g ks each in
    let gk : g k ≡ g kind = ap g is in
    let fk : f k ≡ f kind = ap f is in
    omega (arith, own, rest, gk, fk)
  where
    by : (x : Kind) (b : Bool) → same_kind kind x ≡ b → g x ≤ f x
    by x true e = subst (λ y. g y ≤ f y) ((same_kind-Decides kind x).0 e) (omega (arith, own))
    by x false e = others x e

    each : (x : Kind) → g x ≤ f x
    each x = by x (same_kind kind x) refl
sum_falls f g n kind (k ∷ ks) others own (inr more) = let h = by (same_kind kind k) refl in let rest = sum_falls f g n kind ks others own more in omega (arith, h, rest)
  where
    by : (b : Bool) → same_kind kind k ≡ b → g k ≤ f k
    by true e = subst (λ y. g y ≤ f y) ((same_kind-Decides kind k).0 e) (omega (arith, own))
    by false e = others k e

-- a kind is followed once
abbrev pub at_kind : Kind → Kind → ℕ
at_kind kind k = 9 * cond (same_kind kind k) 1 0

pub once : (seat : SeatKind) (kind : Kind) → sum_over (at_kind kind) (kinds_of seat) ≤ 9
once seats.User kind = omega arith
once seats.Binder kinds.PersistentVolume = omega arith
once seats.Binder kinds.PersistentVolumeClaim = omega arith
once seats.Binder kinds.StorageClass = omega arith
once seats.Binder kinds.Node = omega arith
once seats.Binder kinds.Pod = omega arith
once seats.Ops kinds.PersistentVolume = omega arith
once seats.Ops kinds.PersistentVolumeClaim = omega arith
once seats.Ops kinds.StorageClass = omega arith
once seats.Ops kinds.Node = omega arith
once seats.Ops kinds.Pod = omega arith
once seats.Scheduler kinds.PersistentVolume = omega arith
once seats.Scheduler kinds.PersistentVolumeClaim = omega arith
once seats.Scheduler kinds.StorageClass = omega arith
once seats.Scheduler kinds.Node = omega arith
once seats.Scheduler kinds.Pod = omega arith
once seats.ClaimProtect kinds.PersistentVolume = omega arith
once seats.ClaimProtect kinds.PersistentVolumeClaim = omega arith
once seats.ClaimProtect kinds.StorageClass = omega arith
once seats.ClaimProtect kinds.Node = omega arith
once seats.ClaimProtect kinds.Pod = omega arith
once seats.VolumeProtect kinds.PersistentVolume = omega arith
once seats.VolumeProtect kinds.PersistentVolumeClaim = omega arith
once seats.VolumeProtect kinds.StorageClass = omega arith
once seats.VolumeProtect kinds.Node = omega arith
once seats.VolumeProtect kinds.Pod = omega arith
once seats.Agent kinds.PersistentVolume = omega arith
once seats.Agent kinds.PersistentVolumeClaim = omega arith
once seats.Agent kinds.StorageClass = omega arith
once seats.Agent kinds.Node = omega arith
once seats.Agent kinds.Pod = omega arith

-- at most five kinds are followed
pub of_each : (seat : SeatKind) (f : Kind → ℕ) (n : ℕ) → ((k : Kind) → f k ≤ n) → sum_over f (kinds_of seat) ≤ 5 * n
of_each seats.User f n each = omega arith
of_each seats.Binder f n each = let a = each kinds.PersistentVolume in let b = each kinds.PersistentVolumeClaim in let c = each kinds.StorageClass in omega (arith, a, b, c)
of_each seats.Ops f n each = let a = each kinds.PersistentVolume in let b = each kinds.PersistentVolumeClaim in let c = each kinds.StorageClass in let d = each kinds.Node in omega (arith, a, b, c, d)
of_each seats.Scheduler f n each = let a = each kinds.PersistentVolume in let b = each kinds.PersistentVolumeClaim in let c =
    each kinds.StorageClass in let d = each kinds.Node in let e = each kinds.Pod in omega (arith, a, b, c, d, e)
of_each seats.ClaimProtect f n each = let b = each kinds.PersistentVolumeClaim in let e = each kinds.Pod in omega (arith, b, e)
of_each seats.VolumeProtect f n each = let a = each kinds.PersistentVolume in omega (arith, a)
of_each seats.Agent f n each = let e = each kinds.Pod in omega (arith, e)

-- quotients

pub div_less : (a b : ℕ) → a ≤ b → a / 513 ≤ b / 513
div_less a b le = let e = div-add-mod' a 513 in le-div (a / 513) b 513 (omega arith) (omega (arith, e, le))

pub div_falls : (a b : ℕ) → a + 513 ≤ b → a / 513 + 1 ≤ b / 513
div_falls a b le = let e = div-add-mod' a 513 in le-div (a / 513 + 1) b 513 (omega arith) (omega (arith, e, le))

pub full_falls : (a b : ℕ) → a + 64 ≤ b → a / 64 + 1 ≤ b / 64
full_falls a b le = let e = div-add-mod' a 64 in le-div (a / 64 + 1) b 64 (omega arith) (omega (arith, e, le))

pub full_less : (a b : ℕ) → a ≤ b → a / 64 ≤ b / 64
full_less a b le = let e = div-add-mod' a 64 in le-div (a / 64) b 64 (omega arith) (omega (arith, e, le))

pub mul_less : (n a b : ℕ) → a ≤ b → n * a ≤ n * b
mul_less n a b le = mul-le n a n b (omega arith) le

pub mul_falls : (n a b : ℕ) → a + 1 ≤ b → n * a + n ≤ n * b
mul_falls n a b le =
    let h = mul-le n (a + 1) n b (omega arith) le in
    let e = mul-add n a 1 in
    let one : n * 1 ≡ n = omega arith in
    omega (arith, h, e, one)
