-- What a search by halves finds among the objects of a kind.
use Rattle.std.proofs.Common.{ℕ, ◌≡◌, ◌<◌, true, List, length, Option, Some, None, Err, slice_get, get_or, refl, sym, ◌∙◌, ap}
use Rattle.std.specs.declared.cmp.Ordering.{Ordering}
use Rattle.std.specs.declared.cmp.Ordering.TheVariants.{Equal}
use Rattle.std.specs.Ordering.{is_eq}
use Rattle.std.proofs.lemmas.Option.{slice_get-get_or}
use Rattle.plain_data.proofs.RowFacts.{Parted, find_gap, searched}
use Rattle.kube_parts.specs.declared.parts.Kind.{Kind}
use Rattle.kube_objects.specs.declared.objects.Object.{Object}
use Rattle.kube_objects.specs.Keys.{AreRows, is_of_kind, key_cmp, key_of, row_at, rows_of}
use Rattle.kube_objects.proofs.KeyOrder.{equal_keys, key_cmp_total}
use Rattle.kube_objects.proofs.RowPlaces.{rising_filter, row_at_place, row_of_kind}
use Rattle.volume_match.specs.Named.{has_key_at, key_with_parts}
use Rattle.volume_match.specs.Steps.Search.{key_order_at}

module _ (kind : Kind) (namespace name : List ℕ) where
  -- what a look at a place said of the object there
  pub order_seen : (seen there : Option Object) (a : Ordering) → seen ≡ there → a ≡ key_order_at kind namespace name seen → key_order_at kind namespace name there ≡ a
  order_seen seen there a at is = sym (ap (key_order_at kind namespace name) at) ∙ sym is

  pub order_there : (os : List Object) (i : ℕ) (a : Ordering) → i < length os → key_order_at kind namespace name (slice_get os i) ≡ a → (d : Object)
      → key_cmp (key_of (get_or os i d)) (key_with_parts kind namespace name) ≡ a
  order_there os i a lt h d = sym (ap (key_order_at kind namespace name) (slice_get-get_or os i d lt)) ∙ h

  -- an object that stands as the key does has it
  pub named_there : (o : Option Object) → key_order_at kind namespace name o ≡ Equal → has_key_at kind namespace name o ≡ true
  named_there None h = absurd cc
  named_there (Some o) h = ap is_eq h

  -- and is the row of the key
  pub row_there : (rows : List Object) (i : ℕ) → AreRows rows → key_order_at kind namespace name (slice_get (rows_of kind rows) i) ≡ Equal
      → slice_get (rows_of kind rows) i ≡ row_at (key_with_parts kind namespace name) rows
  row_there rows i order = by (slice_get (rows_of kind rows) i) refl
    where
      by : (o : Option Object) → slice_get (rows_of kind rows) i ≡ o → key_order_at kind namespace name o ≡ Equal → o ≡ row_at (key_with_parts kind namespace name) rows
      by None at h = absurd cc
      by (Some o) at h = sym (row_at_place kind i o rows order at) ∙ ap (λ k. row_at k rows) (equal_keys (key_of o) (key_with_parts kind namespace name) h)

  -- where nothing is left between what is before the key and what is after it, there is no row of it
  pub no_row : (rows : List Object) (i : ℕ) → AreRows rows
      → Parted (λ o. key_cmp (key_of o) (key_with_parts kind namespace name)) (rows_of kind rows) i i → row_at (key_with_parts kind namespace name) rows ≡ None
  no_row rows i order p =
      let rising = rising_filter key_cmp_total key_of (is_of_kind kind) rows order in
      let place = searched key_cmp_total key_of (key_with_parts kind namespace name) (rows_of kind rows) (Err i) rising p.range (λ rise. (p.less rise, p.greater rise)) in
      row_of_kind (key_with_parts kind namespace name) rows ∙ find_gap key_cmp_total key_of (key_with_parts kind namespace name) (rows_of kind rows) i rising place.gap
