-- The best volume of a claim is for the claim where any is.
use Rattle.std.proofs.Common.{◌≡◌, ℕ, zero, suc, List, [], ◌∷◌, Bool, true, false, Some, None, inl, inr, refl, ap}
use Rattle.std.specs.Prelude.{slice_get}
use Rattle.kube_parts.specs.declared.parts.Kind.TheVariants as kinds
use Rattle.kube_objects.specs.declared.objects.Claim.{Claim as ClaimData}
use Rattle.kube_objects.specs.declared.objects.Volume.{Volume as VolumeData}
use Rattle.kube_objects.specs.declared.objects.Object.{Object}
use Rattle.kube_objects.specs.declared.objects.Object.TheVariants.{Volume}
use Rattle.kube_objects.specs.Bindings.{is_for}
use Rattle.kube_objects.specs.Keys.{is_of_kind, rows_of}
use Rattle.binder_model.specs.Matching.{IsCandidate, only_own_passes}
use Rattle.model_laws.proofs.Lists.{IsIn}
use Rattle.settle_due.specs.Binding.Best.{BestIsOwn}
use Rattle.model_laws.proofs.Readings.{filter_keeps as kept}

record At (x : Object) (xs : List Object) : Type 0 where
  place : ℕ
  is : slice_get xs place ≡ Some x

at_place : (x : Object) (xs : List Object) → IsIn x xs → At x xs
at_place x [] i = absurd i
at_place x (y ∷ ys) (inl is) = record { place = zero; is = ap Some is }
at_place x (y ∷ ys) (inr more) = let r = at_place x ys more in record { place = suc r.place; is = r.is }

own_passes : (b : Bool) (u : VolumeData) (c : ClaimData) → is_for u c ≡ true → only_own_passes b u c ≡ true
own_passes true u c e = e
own_passes false u c e = refl

pub best_is_own : BestIsOwn
best_is_own rows c only_own place best u i fits own = by (is_for best.volume c) refl
  where
    found : At (Volume u) (rows_of kinds.PersistentVolume rows)
    found = at_place (Volume u) (rows_of kinds.PersistentVolume rows) (kept (is_of_kind kinds.PersistentVolume) (Volume u) rows i refl)

    candidate : IsCandidate rows c None only_own [] (at_place (Volume u) (rows_of kinds.PersistentVolume rows) (kept (is_of_kind kinds.PersistentVolume) (Volume u) rows i refl)).place u
    candidate = record {
      there = (at_place (Volume u) (rows_of kinds.PersistentVolume rows)
          (kept (is_of_kind kinds.PersistentVolume) (Volume u) rows i refl)).is;
      open_to = refl;
      own = own_passes only_own u c own;
      eligible = fits;
    }

    by : (b : Bool) → is_for best.volume c ≡ b → is_for best.volume c ≡ true
    by true e = e
    by false e = absurd (best.first _ u candidate (let a : is_for u c ≡ true = own in rw (e, a) refl))
