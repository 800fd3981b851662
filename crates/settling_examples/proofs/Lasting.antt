-- Which writes and calls last, computed.
use Rattle.std.proofs.Common.{Bool, true, false, true≢false, List, [], ◌∷◌, Option, Some, None, inl, inr, refl, sym, ap}
use Rattle.kube_objects.specs.declared.objects.Ref.{Ref}
use Rattle.kube_objects.specs.declared.objects.Object.{Object}
use Rattle.kube_objects.specs.declared.objects.Object.TheVariants.{Volume}
use Rattle.kube_objects.specs.Bindings.{is_available}
use Rattle.binder_model.specs.BindWrites.{taken_for}
use Rattle.binder_model.specs.Devices.{Data}
use Rattle.settling_examples.specs.Lasting.{AlikeExamples, LastingExamples}

abbrev shows_available : Object → Bool
shows_available (Volume v) = is_available v.phase
shows_available o = false

abbrev has_ref : Option Ref → Bool
has_ref None = false
has_ref (Some r) = true

abbrev refers : Object → Bool
refers (Volume v) = has_ref v.claim_ref
refers o = false

abbrev first_shows : List Object → Bool
first_shows [] = false
first_shows (o ∷ os) = shows_available o

abbrev first_there : List Data → Bool
first_there [] = false
first_there (x ∷ xs) = x.there

pub lasting_examples : LastingExamples
unfolding taken_for
lasting_examples = record {
  phase = λ e. true≢false (sym (ap shows_available e));
  reference = λ e. true≢false (sym (ap refers e));
  new_object = tt;
  gone = tt;
  erased = inl (λ e. true≢false (sym (ap first_there e)));
  fault = tt;
  version_alone = λ differs. differs refl;
  refusal = λ e. e;
  count_alone = λ which. elim which [ inl stored ↦ stored refl | inr mounts ↦ mounts refl ];
  exhausted = λ e. e;
}

pub alike_examples : AlikeExamples
alike_examples = record {
  versions = record { rows = refl; stored = refl; mounts = refl };
  counts = record { rows = refl; stored = refl; mounts = refl };
  phases = λ a. true≢false (sym (ap first_shows a.rows));
  data_gone = λ a. true≢false (ap first_there a.stored);
}
