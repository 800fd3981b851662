-- What stands at the version that was told is what was told.
use Rattle.std.proofs.Common.{◌≡◌, ℕ, List, true, false, Some, inl, sym, ◌∙◌, ap, arith}
use Rattle.std.specs.Prelude.{◌==◌, not}
use Rattle.std.proofs.lemmas.Bool.{not-false}
use Rattle.std.proofs.lemmas.Bool.Decides.{nat_tests}
use Rattle.kube_objects.specs.declared.key.Key.{Key}
use Rattle.kube_objects.specs.declared.objects.Volume.{Volume as VolumeData}
use Rattle.kube_objects.specs.declared.objects.Claim.{Claim as ClaimData}
use Rattle.kube_objects.specs.declared.objects.Object.{Object}
use Rattle.kube_objects.specs.declared.objects.Object.TheVariants.{Class, Node, Volume, Claim, Pod}
use Rattle.kube_objects.specs.Keys.{meta_of, key_of, row_at}
use Rattle.kube_objects.proofs.KeyOrder.{row_at_key}
use Rattle.call_types.specs.declared.entry.Entry.{Entry}
use Rattle.call_types.specs.declared.setup.Setup.{Setup}
use Rattle.binder_model.specs.Answers.{is_other_version}
use Rattle.binder_model.specs.Told.{IsClaimWith, IsVolumeWith}
use Rattle.binder_model.specs.World.{world}
use Rattle.model_laws.specs.Stood.{Stood}
use Rattle.model_laws.proofs.Stood.{one_version_one_object}
use Rattle.safety_law.proofs.Invariant.Came.{row_was}

pub same_version : (told now : ℕ) → is_other_version (Some told) now ≡ false → now ≡ told
same_version told now v = let t : (told == now) ≡ true = not-false (told == now) v in grind (arith, nat_tests)

pub stands_it : (setup : Setup) (rest : List Entry) (x old : Object) (key : Key) → Stood setup rest x → key_of x ≡ key → row_at key (world setup rest).store.rows ≡ Some old
    → is_other_version (Some (meta_of x).version) (meta_of old).version ≡ false → old ≡ x
stands_it setup rest x old key was keyed there v =
    one_version_one_object setup rest old x (row_was setup rest key old there) was (same_version (meta_of x).version (meta_of old).version v)
    (inl (row_at_key key old (world setup rest).store.rows there ∙ sym keyed))

pub is_volume : (v : VolumeData) (o : Object) → IsVolumeWith (λ u. u ≡ v) o → o ≡ Volume v
is_volume v (Volume u) h = ap (λ x. Volume x) h
is_volume v (Class x) h = absurd h
is_volume v (Node x) h = absurd h
is_volume v (Claim x) h = absurd h
is_volume v (Pod x) h = absurd h

pub is_claim : (c : ClaimData) (o : Object) → IsClaimWith (λ d. d ≡ c) o → o ≡ Claim c
is_claim c (Claim d) h = ap (λ x. Claim x) h
is_claim c (Class x) h = absurd h
is_claim c (Node x) h = absurd h
is_claim c (Volume x) h = absurd h
is_claim c (Pod x) h = absurd h
