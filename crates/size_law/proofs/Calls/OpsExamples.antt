-- What ops makes, computed.
use Rattle.std.proofs.Common.{◌≡◌, ℕ, [], true≢false, inl, inr, refl, sym, ap, arith}
use Rattle.std.specs.Prelude.{bytes_eq, codes}
use Rattle.kube_parts.specs.declared.parts.Modes.{Modes}
use Rattle.kube_objects.specs.declared.objects.Amount.{Amount}
use Rattle.kube_objects.specs.declared.objects.Object.{Object}
use Rattle.kube_objects.specs.declared.objects.Object.TheVariants.{Claim}
use Rattle.binder_model.specs.BindWrites.{taken_for}
use Rattle.binder_model.specs.ObjectKeys.{claim_key}
use Rattle.binder_model.specs.Provisioning.{provisioned_volume}
use Rattle.model_laws.proofs.Newest.{newest_told}
use Rattle.size_law.specs.Law.Examples.{c}
use Rattle.size_law.proofs.Law.Examples.{fewer}
use Rattle.size_law.specs.Calls.Makes.{IsMade, IsMadeFor}
use Rattle.size_law.specs.Calls.OpsExamples.{MadeExamples, MakingExamples, made, told_claim}

-- a volume that is made for a claim

fits_itself : IsMadeFor (made 3) (c 3)
unfolding provisioned_volume
fits_itself = record { given = refl; amount = refl; modes = refl; mode = refl; class_name = refl }

same_bytes : (size asked : ℕ) → IsMadeFor (made size) (c asked) → (c size).amount.bytes ≡ (c asked).amount.bytes
unfolding provisioned_volume
same_bytes size asked m = ap (λ (x : Amount). x.bytes) m.amount

larger : IsMadeFor (made 3) (c 9) → ⊥
larger m = let e : (c 3).amount.bytes ≡ (c 9).amount.bytes = same_bytes 3 9 m in omega (arith, e)

smaller : IsMadeFor (made 9) (c 3) → ⊥
smaller m = let e : (c 9).amount.bytes ≡ (c 3).amount.bytes = same_bytes 9 3 m in omega (arith, e)

pub made_examples : MadeExamples
unfolding provisioned_volume
made_examples = record {
  for_the_claim = fits_itself;
  it_fits = record { bytes = omega arith; mode = refl };
  not_for_a_larger_claim = larger;
  it_does_not_fit_the_larger = fewer (made 3) (c 9) refl;
  nor_for_a_smaller_claim = smaller;
  not_for_a_claim_of_blocks = λ m. true≢false (sym m.mode);
  not_with_other_modes = λ m. true≢false (sym (ap (λ (x : Modes). x.rwo) m.modes));
  not_of_another_class = λ m. true≢false (sym (ap (λ n. bytes_eq n (codes "slow")) m.class_name));
  not_where_it_is_free = λ m. true≢false (sym m.given);
}

-- what gives a volume

abbrev bytes_in : Object → ℕ
bytes_in (Claim x) = x.amount.bytes
bytes_in o = 0

-- the claim that was told is the one of 9 gibibytes
other_size : IsMade (told_claim 9) (made 3) → ⊥
unfolding provisioned_volume
other_size m = elim (newest_told (told_claim 9) (claim_key m.claim.meta.namespace m.claim.meta.name) (Claim m.claim) m.newest) [
  | inl told ↦ elim told.1 [
    | inl same ↦
        let its : (c 9).amount.bytes ≡ m.claim.amount.bytes = ap bytes_in same in
        let made_ : (c 3).amount.bytes ≡ m.claim.amount.bytes = ap (λ (x : Amount). x.bytes) m.made.amount in
        omega (arith, its, made_)
    | inr none ↦ none
  ]
  | inr none ↦ none
]

pub making_examples : MakingExamples
unfolding taken_for
making_examples = record {
  creates_what_is_made_for_the_claim = record { claim = c 3; newest = refl; made = fits_itself };
  not_of_another_size = other_size;
  not_for_a_claim_that_was_never_told = λ m. newest_told [] (claim_key m.claim.meta.namespace m.claim.meta.name) (Claim m.claim) m.newest;
  not_a_volume_that_stands = λ m. true≢false m;
  asking_for_data_gives_nothing = refl;
  erasing_gives_nothing = refl;
  deleting_gives_nothing = refl;
  writing_failed_gives_nothing = refl;
  clearing_a_node_gives_nothing = refl;
}
