-- The next of the wanted volumes, and its number.
use Rattle.std.proofs.Common.{ℕ, ◌≡◌, ◌≢◌, ◌+◌, ◌≤◌, Bool, true, false, true≢false, ◌&&◌, List, [], ◌∷◌, length, Option, Some, None, slice_get, arith, ◌∙◌, refl, sym, ap, subst}
use Rattle.std.specs.List.{Contains}
use Rattle.std.specs.declared.cmp.Ordering.TheVariants.{Greater}
use Rattle.std.proofs.lemmas.Option.{slice_get-get_or, slice_get_within}
use Rattle.plain_data.specs.Rows.{IsAfter, IsRising}
use Rattle.kube_parts.specs.declared.parts.Kind.TheVariants as kinds
use Rattle.kube_objects.specs.declared.objects.Volume.{Volume as VolumeData}
use Rattle.kube_objects.specs.declared.objects.Object.{Object}
use Rattle.kube_objects.specs.declared.objects.Object.TheVariants.{Class, Node, Volume, Claim, Pod}
use Rattle.kube_objects.specs.Keys.{AreRows, is_of_kind, key_cmp, key_of, rows_of}
use Rattle.volume_index.specs.Steps.Scan.{IsFirstAt}
use Rattle.volume_index.specs.VolumeIndex.{as_volume, volumes_in}
use Rattle.volume_index.specs.VolumeOrders.{need_cmp}
use Rattle.volume_index.proofs.HeldValues.{filter_held, held_at, held_filter}
use Rattle.volume_index.proofs.IndexRows.{held_volume, volume_held}
use Rattle.kube_objects.proofs.KeyOrder.{key_cmp_total}
use Rattle.volume_index.proofs.Scans as scans
use Rattle.volume_index.proofs.VolumeOrders.{need_total}
use Rattle.kube_objects.proofs.RowPlaces.{rising_filter}
use Rattle.volume_index.specs.VolumePlaces.{IsNth, IsNthAt, count_before, those_in}
use Rattle.volume_index.specs.Steps.VolumePlaces.{IsBehindAt, IsNextVolume, IsNextVolumeBelow, IsNthOf, IsThenNthOf, is_before_place, is_before, is_behind}
use Rattle.volume_index.proofs.PlacesCounted.{before_first, before_next, before_within, none_behind, nothing_held, key_of_volume}

pub some_volume : (x y : VolumeData) → Some (Volume x) ≡ Some (Volume y) → x ≡ y
some_volume x y e = cc

pub as_volume_some : (o : Option Object) (x : VolumeData) → as_volume o ≡ Some x → o ≡ Some (Volume x)
as_volume_some None x e = cc
as_volume_some (Some (Volume y)) x e = cc
as_volume_some (Some (Class y)) x e = cc
as_volume_some (Some (Node y)) x e = cc
as_volume_some (Some (Claim y)) x e = cc
as_volume_some (Some (Pod y)) x e = cc

none_is : (x : VolumeData) → None ≡ Some x → ⊥
none_is x e = cc

pub both_true : (a b : Bool) → (a && b) ≡ true → (a ≡ true) × (b ≡ true)
both_true true b e = (refl, e)
both_true false b e = absurd (true≢false (sym e))

pub all_true : (a b : Bool) → a ≡ true → b ≡ true → (a && b) ≡ true
all_true true b e f = f
all_true false b e f = absurd (true≢false (sym e))

-- ---- one look at a place

module _ (test : VolumeData → Bool) (os : List Object) (other : Option VolumeData) (place : ℕ) (before : Option ℕ) where
  one : (at : ℕ) (x y : VolumeData) → IsBehindAt test os other at x → IsBehindAt test os other at y → x ≡ y
  one at x y a b = some_volume x y (sym a.there ∙ b.there)

  candidate : (v : VolumeData) → as_volume (slice_get os place) ≡ Some v → (test v && is_behind other v) ≡ true → IsBehindAt test os other place v
  candidate v at wanted =
      let parts = both_true (test v) (is_behind other v) wanted in
      record { there = as_volume_some _ v at; passes = parts.0; behind = parts.1 }

  -- no volume stands at the place
  pub absent : as_volume (slice_get os place) ≡ None → IsNextVolumeBelow test os other place before → IsNextVolumeBelow test os other (place + 1) before
  absent gone first = scans.passed_over need_total one place before (λ x c. none_is x (sym gone ∙ ap as_volume c.there)) first

  -- the volume at the place is not wanted
  pub unwanted : (v : VolumeData) → as_volume (slice_get os place) ≡ Some v → (test v && is_behind other v) ≡ false
      → IsNextVolumeBelow test os other place before → IsNextVolumeBelow test os other (place + 1) before
  unwanted v at refused first = scans.passed_over need_total one place before (λ x c. none x c (some_volume x v (sym c.there ∙ as_volume_some _ v at))) first
    where
      none : (x : VolumeData) → IsBehindAt test os other place x → x ≡ v → ⊥
      none x c is = true≢false (sym (all_true (test x) (is_behind other x) c.passes c.behind) ∙ ap (λ w. test w && is_behind other w) is ∙ refused)

  -- it is wanted, and comes before the first one
  pub first_now : (v : VolumeData) → as_volume (slice_get os place) ≡ Some v → (test v && is_behind other v) ≡ true
      → is_before_place os v before ≡ true → IsNextVolumeBelow test os other place before → IsNextVolumeBelow test os other (place + 1) (Some place)
  first_now v at wanted less first =
      scans.taken need_total one place before v (candidate v at wanted)
      (λ k y is c. subst (λ o. is_before v o ≡ true) (ap as_volume c.there) (subst (λ b. is_before_place os v b ≡ true) is less)) first

-- it does not come before the first one
pub not_first : (test : VolumeData → Bool) (os : List Object) (other : Option VolumeData) (place : ℕ) (before : Option ℕ) (v : VolumeData)
    → as_volume (slice_get os place) ≡ Some v → (test v && is_behind other v) ≡ true
    → is_before_place os v before ≡ false → IsNextVolumeBelow test os other place before → IsNextVolumeBelow test os other (place + 1) before
not_first test os other place None v at wanted more first = absurd (true≢false more)
not_first test os other place (Some k) v at wanted more first =
    scans.kept need_total (one test os other place (Some k)) place k v (candidate test os other place (Some k) v at wanted)
    (λ y c. subst (λ o. is_before v o ≡ false) (ap as_volume c.there) more) first

-- all places were looked at
pub all_seen : (test : VolumeData → Bool) (os : List Object) (other : Option VolumeData) (count : ℕ) (r : Option ℕ) → count ≡ length os
    → IsNextVolumeBelow test os other count r → IsNextVolume test os other r
all_seen test os other count r e next = subst (λ n. IsNextVolumeBelow test os other n r) e next

-- ---- volumes among rows, in the order of their keys

after_in : (v : VolumeData) (os : List Object) → IsAfter key_cmp key_of (Volume v) os → IsAfter key_cmp key_of_volume v (volumes_in os)
after_in v [] a = tt
after_in v (Volume x ∷ os) a = (a.0, after_in v os a.1)
after_in v (Class x ∷ os) a = after_in v os a.1
after_in v (Node x ∷ os) a = after_in v os a.1
after_in v (Claim x ∷ os) a = after_in v os a.1
after_in v (Pod x ∷ os) a = after_in v os a.1

rising_in : (os : List Object) → AreRows os → IsRising key_cmp key_of_volume (volumes_in os)
rising_in [] r = tt
rising_in (Volume x ∷ os) r = (after_in x os r.0, rising_in os r.1)
rising_in (Class x ∷ os) r = rising_in os r.1
rising_in (Node x ∷ os) r = rising_in os r.1
rising_in (Claim x ∷ os) r = rising_in os r.1
rising_in (Pod x ∷ os) r = rising_in os r.1

module _ (test : VolumeData → Bool) (rows : List Object) (order : AreRows rows) where
  pub those_rise : IsRising key_cmp key_of_volume (those_in test rows)
  those_rise = rising_filter key_cmp_total key_of_volume test (volumes_in rows) (rising_in rows order)

  pub held_those : (place : ℕ) (v : VolumeData) → slice_get (rows_of kinds.PersistentVolume rows) place ≡ Some (Volume v) → test v ≡ true → Contains (those_in test rows) v
  held_those place v there passes =
      filter_held test v (volumes_in rows) (held_volume v rows
      (held_filter (is_of_kind kinds.PersistentVolume) (Volume v) rows (held_at (rows_of kinds.PersistentVolume rows) place (Volume v) there)).0) passes

  -- a volume of those has a place
  placed : (u : VolumeData) → Contains (those_in test rows) u → (place : ℕ) × (slice_get (rows_of kinds.PersistentVolume rows) place ≡ Some (Volume u))
  placed u c =
      let h = filter_held (is_of_kind kinds.PersistentVolume) (Volume u) rows (volume_held u rows (held_filter test u (volumes_in rows) c).0) refl in
      (h.0, slice_get-get_or (rows_of kinds.PersistentVolume rows) h.0 (Volume u) h.1 ∙ ap Some h.2)

  -- so the next one is before each of those behind the other
  ahead : (other : Option VolumeData) (at : ℕ)
      (first : IsFirstAt need_cmp (IsBehindAt test (rows_of kinds.PersistentVolume rows) other) (length (rows_of kinds.PersistentVolume rows)) at)
      (u : VolumeData) → Contains (those_in test rows) u → is_behind other u ≡ true → need_cmp first.it u ≢ Greater
  ahead other at first u c behind =
      let p = placed u c in
      first.first p.0 (slice_get_within (rows_of kinds.PersistentVolume rows) p.0 (Volume u) p.1) u (record { there = p.1; passes = (held_filter test u (volumes_in rows) c).1; behind = behind })

  -- where there is no next one, none of those is behind the other
  nobody : (other : Option VolumeData) → IsNextVolume test (rows_of kinds.PersistentVolume rows) other None → (u : VolumeData) → Contains (those_in test rows) u → is_behind other u ≡ true → ⊥
  nobody other none u c behind =
      let p = placed u c in
      none p.0 (slice_get_within (rows_of kinds.PersistentVolume rows) p.0 (Volume u) p.1) u (record { there = p.1; passes = (held_filter test u (volumes_in rows) c).1; behind = behind })

  pub numbered : (n at : ℕ) (v : VolumeData) → slice_get (rows_of kinds.PersistentVolume rows) at ≡ Some (Volume v) → test v ≡ true → count_before v (those_in test rows) ≡ n → IsNthAt test rows n at
  numbered n at v there passes before =
      let less = before_within (those_in test rows) those_rise v (held_those at v there passes) in
      record { volume = v; there = there; passes = passes; before = before; within = omega (arith, less, before) }

  -- the first of all is the one of number 0
  pub first_of : (r : Option ℕ) → IsNextVolume test (rows_of kinds.PersistentVolume rows) None r → IsNth test rows 0 r
  first_of None none = let empty = nothing_held (those_in test rows) (λ u c. nobody None none u c refl) in omega (arith, empty)
  first_of (Some at) first = numbered 0 at first.it first.candidate.there first.candidate.passes (before_first (those_in test rows) first.it (λ u c. ahead None at first u c refl))

  -- the first one behind that of a number is that of the next number
  pub next_of : (n at : ℕ) (w : VolumeData) → as_volume (slice_get (rows_of kinds.PersistentVolume rows) at) ≡ Some w → IsNthAt test rows n at
      → (r : Option ℕ) → IsNextVolume test (rows_of kinds.PersistentVolume rows) (Some w) r → IsNth test rows (n + 1) r
  next_of n at w there nth r next = by r next
    where
      same : nth.volume ≡ w
      same = some_volume nth.volume w (sym nth.there ∙ as_volume_some _ w there)

      held : Contains (those_in test rows) w
      held = held_those at w (as_volume_some _ w there) (ap test (sym same) ∙ nth.passes)

      before : count_before w (those_in test rows) ≡ n
      before = ap (λ v. count_before v (those_in test rows)) (sym same) ∙ nth.before

      by : (r : Option ℕ) → IsNextVolume test (rows_of kinds.PersistentVolume rows) (Some w) r → IsNth test rows (n + 1) r
      by None none = let last = none_behind (those_in test rows) those_rise w held (λ u c less. nobody (Some w) none u c less) in omega (arith, last, before)
      by (Some k) first =
          numbered (n + 1) k first.it first.candidate.there first.candidate.passes
          (before_next (those_in test rows) those_rise w held first.it first.candidate.behind (λ u c less. ahead (Some w) k first u c less) ∙ ap (λ m. m + 1) before)

-- where a volume of a number stands, there is a volume
pub never_gone : (test : VolumeData → Bool) (rows : List Object) (n at : ℕ) → as_volume (slice_get (rows_of kinds.PersistentVolume rows) at) ≡ None → IsNthAt test rows n at → ⊥
never_gone test rows n at gone nth = none_is nth.volume (sym gone ∙ ap as_volume nth.there)

-- ---- the same of the objects that a look-up gives as its volumes

module _ (test : VolumeData → Bool) (os : List Object) where
  pub first_nth : (r : Option ℕ) → IsNextVolume test os None r → IsNthOf test os 0 r
  first_nth r next rows order is = first_of test rows order r (subst (λ xs. IsNextVolume test xs None r) is next)

  pub next_nth : (at : ℕ) (w : VolumeData) (r : Option ℕ) → as_volume (slice_get os at) ≡ Some w → IsNextVolume test os (Some w) r → IsThenNthOf test os at r
  next_nth at w r there next rows order is n nth =
      next_of test rows order n at w (subst (λ xs. as_volume (slice_get xs at) ≡ Some w) is there) nth r (subst (λ xs. IsNextVolume test xs (Some w) r) is next)

  pub gone_nth : (at : ℕ) → as_volume (slice_get os at) ≡ None → IsThenNthOf test os at None
  gone_nth at gone rows order is n nth = absurd (never_gone test rows n at (subst (λ xs. as_volume (slice_get xs at) ≡ None) is gone) nth)

  -- past the last of them there is none
  pub none_later : (n m : ℕ) → n ≤ m → IsNthOf test os n None → IsNthOf test os m None
  none_later n m le none rows order is = let few = none rows order is in omega (arith, le, few)

  pub next_number : (n at : ℕ) (r : Option ℕ) → IsNthOf test os n (Some at) → IsThenNthOf test os at r → IsNthOf test os (n + 1) r
  next_number n at r nth next rows order is = next rows order is n (nth rows order is)
