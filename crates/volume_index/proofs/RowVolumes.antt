-- Volumes of rows in order: each is the row of its key.
use Rattle.std.proofs.Common.{◌≡◌, inl, inr, Bool, true, false, List, [], ◌∷◌, Some, ◌∙◌, refl, sym, ap, subst, if◌then◌else◌}
use Rattle.std.specs.List.{Contains}
use Rattle.std.specs.Cmp.{IsTotalOrder}
use Rattle.std.specs.declared.cmp.Ordering.{Ordering}
use Rattle.std.specs.Ordering.{is_eq}
use Rattle.std.proofs.lemmas.Cmp.{tied_itself}
use Rattle.plain_data.specs.Rows.{IsRising, find}
use Rattle.kube_parts.specs.declared.parts.Kind.TheVariants as kinds
use Rattle.kube_objects.specs.declared.key.Key.{Key}
use Rattle.kube_objects.specs.declared.objects.Volume.{Volume as VolumeData}
use Rattle.kube_objects.specs.declared.objects.Object.{Object}
use Rattle.kube_objects.specs.declared.objects.Object.TheVariants.{Class, Node, Volume, Claim, Pod}
use Rattle.kube_objects.specs.Keys.{AreRows, key_of, row_at, rows_of}
use Rattle.volume_index.specs.VolumeIndex.{AreApart, volumes_in}
use Rattle.volume_index.proofs.HeldValues.{after_has, here, nothing, split, there}
use Rattle.volume_index.proofs.IndexRows.{held_volume, volume_held}
use Rattle.kube_objects.proofs.KeyOrder.{key_cmp_total}
use Rattle.kube_objects.proofs.SameKeys.{same_key-Decides}
use Rattle.volume_index.proofs.PlacesBehind.{some_volume as volume_is}

module _ {K X : Type 0} {cmp : K → K → Ordering} (o : IsTotalOrder cmp) (key : X → K) where
  -- what rows hold is found under its key
  pub found_held : (x : X) (xs : List X) → IsRising cmp key xs → Contains xs x → find cmp key (key x) xs ≡ Some x
  found_held x [] r c = absurd (nothing x c)
  found_held x (y ∷ ys) r c = elim (split y x ys c) [
    | inl is ↦ subst (λ w. find cmp key (key w) (y ∷ ys) ≡ Some w) is (rw (tied_itself o (key y)) refl)
    | inr h ↦ rw (after_has o key y x ys r.0 h) (found_held x ys r.1 h)
  ]

  some_is : (x y : X) → Some x ≡ Some y → x ≡ y
  some_is x y e = cc

  -- and what is found is held
  pub held_found : (k : K) (x : X) (xs : List X) → find cmp key k xs ≡ Some x → Contains xs x
  held_found k x [] e = absurd cc
  held_found k x (y ∷ ys) e = by (is_eq (cmp (key y) k)) e (held_found k x ys)
    where
      by : (b : Bool) → (if b then Some y else find cmp key k ys) ≡ Some x → (find cmp key k ys ≡ Some x → Contains ys x) → Contains (y ∷ ys) x
      by true e rest = here y x ys (some_is y x e)
      by false e rest = there y x ys (rest e)

-- a volume of the rows is the row of its key
pub row_held : (v : VolumeData) (rows : List Object) → AreRows rows → Contains (volumes_in rows) v → row_at (key_of (Volume v)) rows ≡ Some (Volume v)
row_held v rows order c = found_held key_cmp_total key_of (Volume v) rows order (volume_held v rows c)

-- and a row that is a volume is a volume of the rows
pub held_row : (k : Key) (v : VolumeData) (rows : List Object) → row_at k rows ≡ Some (Volume v) → Contains (volumes_in rows) v
held_row k v rows e = held_volume v rows (held_found key_cmp_total key_of k (Volume v) rows e)

pub are_apart : (rows : List Object) → AreRows rows → AreApart (volumes_in rows)
are_apart rows order v u c d e =
    let is : key_of (Volume v) ≡ key_of (Volume u) = (same_key-Decides (key_of (Volume v)) (key_of (Volume u))).0 e in
    volume_is v u (sym (row_held v rows order c) ∙ ap (λ k. row_at k rows) is ∙ row_held u rows order d)

value_is : (x v : VolumeData) → Some x ≡ Some v → x ≡ v
value_is x v e = cc

-- the volumes among rows are those among the rows of their kind
pub volumes_of_kind : (os : List Object) → volumes_in (rows_of kinds.PersistentVolume os) ≡ volumes_in os
volumes_of_kind [] = refl
volumes_of_kind (Volume v ∷ os) = ap (λ vs. v ∷ vs) (volumes_of_kind os)
volumes_of_kind (Class x ∷ os) = volumes_of_kind os
volumes_of_kind (Node x ∷ os) = volumes_of_kind os
volumes_of_kind (Claim x ∷ os) = volumes_of_kind os
volumes_of_kind (Pod x ∷ os) = volumes_of_kind os
