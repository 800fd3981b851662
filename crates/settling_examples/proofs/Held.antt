-- A gate that holds back the Mounts of one pod, computed.
use Rattle.std.proofs.Common.{◌≡◌, Bool, true, false, true≢false, [], Option, Some, None, refl, sym, ap, subst}
use Rattle.kube_parts.specs.declared.uid.Uid.{Uid}
use Rattle.kube_objects.specs.declared.objects.Object.TheVariants.{Pod}
use Rattle.kube_parts.specs.Uids.{uid_of_serial}
use Rattle.call_types.specs.declared.request.Request.TheVariants as requests
use Rattle.binder_model.specs.Imports.{imported_object}
use Rattle.binder_model.specs.Same.{same_uid}
use Rattle.model_laws.proofs.Lists.{one as same_in}
use Rattle.settle_progress.specs.Drains.Held.{HoldsMountsAlone, LetsMountPass}
use Rattle.settling_examples.specs.Held.{HeldExamples, lets_other, other, two_pods}

alone : HoldsMountsAlone lets_other
alone h (requests.Mount node epoch pod claims) none = absurd (true≢false none)
alone h _ none = refl

passes : LetsMountPass two_pods lets_other [] (Pod other)
passes due h epoch uid claims history alike known are = subst (λ u. lets_other h (requests.Mount other.node epoch u claims) ≡ true) (same_in (uid_of_serial 6) uid known) refl

abbrev is_third : Option Uid → Bool
is_third None = false
is_third (Some uid) = same_uid uid (uid_of_serial 3)

pub held_examples : HeldExamples
unfolding imported_object
held_examples = record {
  one_stands = refl;
  other_stands = refl;
  one_is_due = refl;
  other_is_due = refl;
  alone = alone;
  passes = passes;
  claim = tt;
  held = λ lets. true≢false (sym (lets refl [] 1 (uid_of_serial 5) [] tt (record { rows = refl; stored = refl; mounts = refl }) refl tt));
  uids = (refl, tt);
  another = λ are. true≢false (sym (ap is_third are.0));
  fewer = λ are. are;
}
