-- Worlds that are near, computed.
use Rattle.std.proofs.Common.{Bool, false, true≢false, not, List, ◌∷◌, refl, ap}
use Rattle.kube_objects.specs.declared.objects.Object.{Object}
use Rattle.kube_objects.specs.declared.objects.Object.TheVariants.{Claim}
use Rattle.kube_objects.specs.Bindings.{is_completed}
use Rattle.binder_model.specs.BindWrites.{completed_with}
use Rattle.settling_examples.specs.Near.{NearExamples}

-- an open claim is the first of these
abbrev first_is_open : List Object → Bool
first_is_open (Claim c ∷ rows) = not (is_completed c)
first_is_open rows = false

pub near_examples : NearExamples
unfolding completed_with
near_examples = record {
  other_node = record { rows = refl; stored = refl; mounts = refl };
  no_node = record { rows = refl; stored = refl; mounts = refl };
  completed_since = λ near. true≢false (ap first_is_open near.rows);
  gone = λ near. true≢false (ap first_is_open near.rows);
}
