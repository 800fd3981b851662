-- The volumes of an index that refer to a claim.
use Rattle.std.proofs.Common.{ℕ, ◌≡◌, ◌≤◌, Bool, true, false, true≢false, bytes_eq, List, length, Option, Some, None, IfSome, ◌∙◌, refl, sym, ap}
use Rattle.std.specs.Prelude.{is_some}
use Rattle.std.specs.List.{Contains}
use Rattle.std.specs.declared.cmp.Ordering.{Ordering}
use Rattle.std.specs.declared.cmp.Ordering.TheVariants.{Less, Equal, Greater}
use Rattle.std.specs.Ordering.{is_eq, is_lt, ordering_then}
use Rattle.std.proofs.lemmas.Cmp.{tied_itself}
use Rattle.std.proofs.lemmas.Map.Lookups.{exact_bytes}
use Rattle.std.proofs.lemmas.Slice.Eq.{bytes_eq-Decides}
use Rattle.plain_data.specs.Pairs.{text_cmp}
use Rattle.kube_objects.specs.declared.objects.Ref.{Ref}
use Rattle.kube_objects.specs.declared.objects.Volume.{Volume as VolumeData}
use Rattle.kube_objects.specs.declared.objects.Object.{Object}
use Rattle.kube_objects.specs.Keys.{AreRows}
use Rattle.volume_index.specs.IndexPlaces.{IsOwnerStart}
use Rattle.volume_index.specs.VolumeIndex.{Index, StandsFor, is_owned, volumes_in}
use Rattle.volume_index.specs.VolumeOrders.{AreInOrder, Owner, by_owner, need_cmp, owner_cmp, owner_in, owner_of}
use Rattle.volume_index.proofs.VolumeOrders.{both_equal, by_owner_total, owner_total}
use Rattle.volume_index.specs.Steps.VolumePlaces.{AreCountedFrom, AreOwned, IsKept}
use Rattle.volume_index.specs.VolumePlaces.{is_of_claim, refers_to}
use Rattle.volume_index.proofs.PlacesBehind.{all_true, both_true}
use Rattle.volume_index.proofs.PlacesKept.{are_kept, counted_from}

-- claims that stand alike are one
same_owner : (a b : Owner) → owner_cmp a b ≡ Equal → a ≡ b
same_owner a b e =
    let p = both_equal (text_cmp a.namespace b.namespace) (text_cmp a.name b.name) (ap is_eq e) in
    let namespace : a.namespace ≡ b.namespace = exact_bytes _ _ p.0 in
    let name : a.name ≡ b.name = exact_bytes _ _ p.1 in
    λ i. record { namespace = namespace i; name = name i }

module _ (namespace name : List ℕ) where
  abbrev owner : Owner
  owner = record { namespace = namespace; name = name }

  abbrev is_of : VolumeData → Bool
  is_of v = is_of_claim namespace name v

  ref_owner : (r : Option Ref) → refers_to namespace name r ≡ true → owner_in r ≡ owner
  ref_owner None e = absurd (true≢false (sym e))
  ref_owner (Some r) e =
      let p = both_true (bytes_eq r.namespace namespace) (bytes_eq r.name name) e in
      let a = (bytes_eq-Decides r.namespace namespace).0 p.0 in
      let b = (bytes_eq-Decides r.name name).0 p.1 in
      λ i. record { namespace = a i; name = b i }

  owner_ref : (r : Option Ref) → is_some r ≡ true → owner_in r ≡ owner → refers_to namespace name r ≡ true
  owner_ref None e is = absurd (true≢false (sym e))
  owner_ref (Some r) e is =
      all_true (bytes_eq r.namespace namespace) (bytes_eq r.name name)
      ((bytes_eq-Decides r.namespace namespace).1 (ap (λ (w : Owner). w.namespace) is))
      ((bytes_eq-Decides r.name name).1 (ap (λ (w : Owner). w.name) is))

  ref_some : (r : Option Ref) → refers_to namespace name r ≡ true → is_some r ≡ true
  ref_some None e = absurd (true≢false (sym e))
  ref_some (Some r) e = refl

  of_owner : (v : VolumeData) → is_of v ≡ true → owner_of v ≡ owner
  of_owner v e = ref_owner v.claim_ref e

  of_owned : (v : VolumeData) → is_of v ≡ true → is_owned v ≡ true
  of_owned v e = ref_some v.claim_ref e

  -- a volume that refers to an earlier claim refers to another
  earlier_is : (v : VolumeData) → is_lt (owner_cmp (owner_of v) owner) ≡ true → is_of v ≡ false
  earlier_is v lt = by (is_of v) refl
    where
      by : (b : Bool) → is_of v ≡ b → b ≡ false
      by true e = absurd (true≢false (sym lt ∙ ap (λ w. is_lt (owner_cmp w owner)) (of_owner v e) ∙ ap is_lt (tied_itself owner_total owner)))
      by false e = refl

  -- what stands before one that refers to the claim, and refers to no earlier claim, refers to it too, and stands before it by need
  between : (y v : VolumeData) → is_owned y ≡ true → is_lt (owner_cmp (owner_of y) owner) ≡ false → is_of v ≡ true → by_owner y v ≡ Less → (is_of y ≡ true) × (need_cmp y v ≡ Less)
  between y v owned late e less =
      by (owner_cmp (owner_of y) owner) refl late (ap (λ w. ordering_then (owner_cmp (owner_of y) w) (need_cmp y v)) (sym (of_owner v e)) ∙ less)
    where
      by : (a : Ordering) → owner_cmp (owner_of y) owner ≡ a → is_lt a ≡ false → ordering_then (owner_cmp (owner_of y) owner) (need_cmp y v) ≡ Less → (is_of y ≡ true) × (need_cmp y v ≡ Less)
      by Less is ge k = absurd (true≢false ge)
      by Equal is ge k = (owner_ref y.claim_ref owned (same_owner (owner_of y) owner is), ap (λ a. ordering_then a (need_cmp y v)) (sym is) ∙ k)
      by Greater is ge k = absurd (true≢false (sym (ap is_lt k) ∙ ap (λ a. is_lt (ordering_then a (need_cmp y v))) is))

  pub owned_counted : (os : List VolumeData) (s : ℕ) → AreInOrder by_owner os → ((u : VolumeData) → Contains os u → is_owned u ≡ true)
      → IsOwnerStart owner os s → s ≤ length os → AreCountedFrom is_of os s
  owned_counted os s r owned start le = counted_from is_of is_owned (λ v. is_lt (owner_cmp (owner_of v) owner)) by_owner_total earlier_is between os s r owned start le

  pub owned_kept : (rows : List Object) → AreRows rows → (i : Index) → StandsFor i (volumes_in rows) → AreInOrder by_owner i.owned → IsKept is_of rows i.owned
  owned_kept rows order i stands sorted = are_kept is_of by_owner_total rows order i.owned sorted (λ u c. ((stands.owned u).0 c).0) (λ u c e. (stands.owned u).1 (c, of_owned u e))

-- what an index that stands for volumes holds as referring to claims does so
pub shown_owned : (i : Option Index) (rows : List Object) → IfSome i (λ x. StandsFor x (volumes_in rows)) → IfSome i (λ x. AreOwned x)
shown_owned None rows stands = tt
shown_owned (Some x) rows stands = λ u c. ((stands.owned u).0 c).1
