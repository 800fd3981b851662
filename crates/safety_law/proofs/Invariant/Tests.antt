-- What the tests of texts and UIDs tell.
use Rattle.std.proofs.Common.{refl, ap, sym, true≢false, arith}
use Rattle.std.proofs.lemmas.Bool.Decides.{nat_tests}
use Rattle.std.proofs.lemmas.Slice.Eq.{bytes_eq-Decides}
use Rattle.std.specs.Prelude.{ℕ, ◌≡◌, true, List, Option, Some, None, bytes_eq}
use Rattle.kube_parts.specs.declared.uid.Uid.{Uid}
use Rattle.kube_objects.specs.Bindings.{is_uid}
use Rattle.std.specs.Prelude.{is_some}
use Rattle.binder_model.specs.Same.{same_uid}

-- texts that are equal by their test
pub same_text : (a b : List ℕ) → bytes_eq a b ≡ true → a ≡ b
same_text a b e = (bytes_eq-Decides a b).0 e

pub uid_is : (x : Option Uid) (u : Uid) → is_uid x u ≡ true → x ≡ Some u
uid_is None u e = absurd (true≢false (sym e))
uid_is (Some v) u e = let n : v.0 ≡ u.0 = grind (arith, nat_tests) in ap (λ (k : ℕ). Some (record { 0 = k })) n

pub uid_same : (a b : Uid) → a ≡ b → same_uid a b ≡ true
uid_same a b e = let n : a.0 ≡ b.0 = ap (λ (u : Uid). u.0) e in grind (arith, nat_tests)

pub text_same : (a b : List ℕ) → a ≡ b → bytes_eq a b ≡ true
text_same a b e = (bytes_eq-Decides a b).1 e

pub known_uid : (x : Option Uid) → is_some x ≡ true → (u : Uid) × (x ≡ Some u)
known_uid None e = absurd (true≢false (sym e))
known_uid (Some u) e = (u, refl)
