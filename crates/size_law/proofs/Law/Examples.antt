-- The examples of what fits, of what may be given and of what claims get, computed.
use Rattle.std.proofs.Common.{sym, refl, inl, inr, ap, ◌∙◌, true≢false, arith}
use Rattle.std.proofs.lemmas.Bool.{le-leb}
use Rattle.std.specs.Prelude.{◌≡◌, ◌⊎◌, nat_le, Bool, true, false, Option, Some, None, is_some, bytes_eq}
use Rattle.kube_objects.specs.declared.objects.Ref.{Ref}
use Rattle.kube_objects.specs.declared.objects.Volume.{Volume as VolumeData}
use Rattle.kube_objects.specs.declared.objects.Claim.{Claim as ClaimData}
use Rattle.kube_parts.specs.Uids.{uid_of_serial}
use Rattle.kube_objects.specs.Bindings.{is_completed, names_claim, ref_uid}
use Rattle.call_types.specs.declared.request.SeatKind.{SeatKind}
use Rattle.call_types.specs.declared.request.SeatKind.TheVariants as seats
use Rattle.binder_model.specs.BindWrites.{taken_for}
use Rattle.size_law.specs.Law.Fitting.{Fits, IsReservedFor, Suits, GivesTo}
use Rattle.size_law.specs.Law.Examples.{FitsExamples, ByHandExamples, GivingExamples, a, c, completed, naming_a, of_blocks, reserved_a, reserved_for_other, taken_a, told}

-- sums of cases

pub neither : {A B : Type 0} → (A → ⊥) → (B → ⊥) → A ⊎ B → ⊥
neither f g (inl a) = f a
neither f g (inr b) = g b

sole : {A : Type 0} → A ⊎ ⊥ → A
sole (inl a) = a
sole (inr h) = absurd h

-- what fits

pub fewer : (v : VolumeData) (x : ClaimData) → nat_le x.amount.bytes v.amount.bytes ≡ false → Fits v x → ⊥
fewer v x test f = true≢false (sym (le-leb x.amount.bytes v.amount.bytes f.bytes) ∙ test)

other_mode : (v : VolumeData) (x : ClaimData) → Fits v x → v.block ≡ false → x.block ≡ true → ⊥
other_mode v x f is other = true≢false (sym other ∙ sym f.mode ∙ is)

pub fits_examples : FitsExamples
fits_examples = record {
  more_bytes = record { bytes = omega arith; mode = refl };
  same_bytes = record { bytes = omega arith; mode = refl };
  fewer_bytes = fewer a (c 6) refl;
  other_mode = λ f. other_mode a (of_blocks (c 3)) f refl refl;
}

no_reference : (v : VolumeData) (x : ClaimData) → v.claim_ref ≡ None → IsReservedFor v x → ⊥
no_reference v x none r = true≢false (sym (ap is_some (sym none ∙ r.is)))

has_uid : (v : VolumeData) (x : ClaimData) → is_some (ref_uid v.claim_ref) ≡ true → IsReservedFor v x → ⊥
has_uid v x has r = true≢false (sym has ∙ ap is_some (ap ref_uid r.is ∙ r.free))

abbrev names_it : Option Ref → ClaimData → Bool
names_it None x = false
names_it (Some r) x = names_claim r x

misnames : (v : VolumeData) (x : ClaimData) → names_it v.claim_ref x ≡ false → IsReservedFor v x → ⊥
misnames v x other r = true≢false (sym r.names ∙ sym (ap (λ z. names_it z x) r.is) ∙ other)

unnamed : (v : VolumeData) (x : ClaimData) → bytes_eq x.volume_name v.meta.name ≡ false → bytes_eq v.meta.name v.meta.name ≡ true → x.volume_name ≡ v.meta.name → ⊥
unnamed v x other same e = true≢false (sym same ∙ ap (λ n. bytes_eq n v.meta.name) (sym e) ∙ other)

reserved : (x : ClaimData) → names_it reserved_a.claim_ref x ≡ true → IsReservedFor reserved_a x
reserved x names = record { reference = _; is = refl; names = names; free = refl }

pub by_hand_examples : ByHandExamples
by_hand_examples = record {
  reserved = reserved (c 9) refl;
  free_is_not_reserved = no_reference a (c 9) refl;
  taken_is_not_reserved = has_uid taken_a (c 9) refl;
  reserved_for_other = misnames reserved_for_other (c 9) refl;
  pair = record { reserved = reserved (naming_a (c 9)) refl; named = refl; undone = refl };
  claim_that_names_none = λ p. unnamed reserved_a (c 9) refl refl p.named;
  volume_that_is_free = λ p. no_reference a (naming_a (c 9)) refl p.reserved;
  completed_claim = λ p. true≢false p.undone;
  restored = record { free = refl; named = refl; completed = refl };
  restored_but_reserved = λ r. true≢false (ap is_some r.free);
  restored_elsewhere = λ r. unnamed a (completed (c 9)) refl refl r.named;
  restored_undone = λ r. true≢false (sym r.completed);
}

-- what may be given

-- what was given of two that were told
suited : (kind : SeatKind) (v : VolumeData) (x : ClaimData) → GivesTo (Some (uid_of_serial 2)) (told kind v x) (taken_for v x) (Some v.meta.version) → Suits v x
suited kind v x g = elim g [
  | inl t ↦ absurd (sole t.1)
  | inr rest ↦ elim rest [
    | inl t ↦ elim (sole t.1).1 [
      | inl of ↦ (sole of.1).suits
      | inr others ↦ elim others [ inl of ↦ absurd (sole of.1) | inr none ↦ absurd none ]
    ]
    | inr none ↦ absurd none
  ]
]

-- a free volume that does not fit, and a claim that is not completed
not_free : (v : VolumeData) (x : ClaimData) → (Fits v x → ⊥) → v.claim_ref ≡ None → is_completed x ≡ false → Suits v x → ⊥
not_free v x misfits free undone s = neither misfits (neither (λ p. no_reference v x free p.reserved) (λ r. true≢false (sym r.completed ∙ undone))) s

pub giving_examples : GivingExamples
unfolding taken_for
giving_examples = record {
  fitting = inr (inl (refl, inl (record { version = refl; placed = refl; named = refl }, inl (refl, inl (record { change = refl; suits = inl (record { bytes = omega arith; mode = refl }) })))));
  pair = inr (inl (refl, inl (record { version = refl; placed = refl; named = refl }, inl (refl, inl (record { change = refl; suits = inr (inl by_hand_examples.pair) })))));
  restored = inr (inl (refl, inl (record { version = refl; placed = refl; named = refl }, inl (refl, inl (record { change = refl; suits = inr (inr by_hand_examples.restored) })))));
  too_small = λ g. not_free a (c 9) (fewer a (c 9) refl) refl refl (suited seats.Binder a (c 9) g);
  other_mode = λ g. not_free a (of_blocks (c 3)) (λ f. other_mode a (of_blocks (c 3)) f refl refl) refl refl (suited seats.Binder a (of_blocks (c 3)) g);
  too_small_and_named = λ g. not_free a (naming_a (c 9)) (fewer a (naming_a (c 9)) refl) refl refl (suited seats.Binder a (naming_a (c 9)) g);
  too_small_and_reserved = λ g. neither (fewer reserved_a (c 9) refl) (neither (λ p. unnamed reserved_a (c 9) refl refl p.named)
      (λ r. true≢false (sym r.completed))) (suited seats.Binder reserved_a (c 9) g);
  too_small_and_completed = λ g. neither (fewer reserved_a (completed (naming_a (c 9))) refl) (neither (λ p. true≢false p.undone)
      (λ r. true≢false (ap is_some r.free))) (suited seats.Binder reserved_a (completed (naming_a (c 9))) g);
  claim_never_told = λ g. sole (sole (sole (sole g).1).1).1;
  volume_never_told = λ g. sole (sole g).1;
  scheduler_fitting = inr (inl
      (refl, inl (record { version = refl; placed = refl; named = refl }, inl (refl, inl (record { change = refl; suits = inl (record { bytes = omega arith; mode = refl }) })))));
  scheduler_too_small = λ g. not_free a (c 9) (fewer a (c 9) refl) refl refl (suited seats.Scheduler a (c 9) g);
  other_writes_are_free = tt;
}
