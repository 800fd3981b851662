-- The volumes of rows after a change are those of an edit.
use Rattle.std.proofs.Common.{◌≡◌, ◌≢◌, ◌⊎◌, inl, inr, Bool, true, false, true≢false, not, List, Option, Some, None, IfSome, ◌∙◌, refl, sym, ap, subst}
use Rattle.std.proofs.lemmas.Bool.{false_from_ne_true, not-true, not_from_false}
use Rattle.std.specs.Prelude.{◌↔◌}
use Rattle.std.specs.List.{Contains}
use Rattle.plain_data.proofs.RowFacts.{rising_put, rising_without}
use Rattle.kube_objects.specs.declared.key.Key.{Key}
use Rattle.kube_objects.specs.declared.objects.Volume.{Volume as VolumeData}
use Rattle.kube_objects.specs.declared.objects.Object.{Object}
use Rattle.kube_objects.specs.declared.objects.Object.TheVariants.{Volume}
use Rattle.kube_objects.specs.Keys.{AreRows, key_of, put_row, row_at}
use Rattle.volume_index.specs.VolumeIndex.{AreApart, HoldsThose, Index, StandsFor, as_volume, others, same_name, volumes_in}
use Rattle.volume_index.proofs.HeldValues.{filter_held, held_filter, here, split, there}
use Rattle.kube_objects.proofs.KeyOrder.{key_cmp_total, row_at-put_row, row_at-put_row_other, row_at-without_row, row_at-without_row_other, row_at_key}
use Rattle.kube_objects.proofs.SameKeys.{key_tells, same_key-Decides, same_key_itself}
use Rattle.volume_index.specs.Keeping.{Keeps, rows_with}
use Rattle.volume_index.specs.Steps.Edits.{CanEdit, edit_of, left_of}
use Rattle.volume_index.proofs.RowVolumes.{are_apart, held_row, row_held}
use Rattle.volume_index.proofs.PlacesBehind.{as_volume_some as volume_there}

-- an index stands for whatever holds the same volumes
abbrev pub AreAlike : List VolumeData → List VolumeData → Type 0
AreAlike vs ws = (u : VolumeData) → Contains vs u ↔ Contains ws u

holds_alike : (test : VolumeData → Bool) (held vs ws : List VolumeData) → AreAlike vs ws → HoldsThose test vs held → HoldsThose test ws held
holds_alike test held vs ws alike h u = (λ c. let p = (h u).0 c in ((alike u).0 p.0, p.1), λ c. (h u).1 ((alike u).1 c.0, c.1))

pub stands_alike : (index : Index) (vs ws : List VolumeData) → AreAlike vs ws → StandsFor index vs → StandsFor index ws
stands_alike index vs ws alike stands = record {
  all = holds_alike _ index.all vs ws alike stands.all;
  free = holds_alike _ index.free vs ws alike stands.free;
  owned = holds_alike _ index.owned vs ws alike stands.owned;
}

-- what an edit holds
edit_held : (before after : Option VolumeData) (vs : List VolumeData) (u : VolumeData) → Contains (edit_of before after vs) u → (after ≡ Some u) ⊎ Contains (left_of before vs) u
edit_held before None vs u c = inr c
edit_held before (Some w) vs u c = elim (split w u (left_of before vs) c) [
  | inl is ↦ inl (ap (λ x. Some x) is)
  | inr h ↦ inr h
]

value_is : (x v : VolumeData) → Some x ≡ Some v → x ≡ v
value_is x v e = cc

held_new : (before after : Option VolumeData) (vs : List VolumeData) (u : VolumeData) → after ≡ Some u → Contains (edit_of before after vs) u
held_new before None vs u e = absurd cc
held_new before (Some w) vs u e = here w u (left_of before vs) (value_is w u e)

held_old : (before after : Option VolumeData) (vs : List VolumeData) (u : VolumeData) → Contains (left_of before vs) u → Contains (edit_of before after vs) u
held_old before None vs u c = c
held_old before (Some w) vs u c = there w u (left_of before vs) c

left_held : (before : Option VolumeData) (vs : List VolumeData) (u : VolumeData) → Contains (left_of before vs) u → Contains vs u × IfSome before (λ v. same_name u v ≡ false)
left_held None vs u c = (c, tt)
left_held (Some v) vs u c = let p = held_filter (λ w. not (same_name w v)) u vs c in (p.0, not-true (same_name u v) p.1)

held_left : (before : Option VolumeData) (vs : List VolumeData) (u : VolumeData) → Contains vs u → IfSome before (λ v. same_name u v ≡ false) → Contains (left_of before vs) u
held_left None vs u c e = c
held_left (Some v) vs u c e = filter_held (λ w. not (same_name w v)) u vs c (not_from_false (same_name u v) e)

-- a volume leaves, and none comes
pub left_alone : (before after : Option VolumeData) (v : VolumeData) (old new : Index) → before ≡ Some v → after ≡ None
    → ((vs : List VolumeData) → AreApart vs → Contains vs v → StandsFor old vs → StandsFor new (others v vs))
    → (vs : List VolumeData) → CanEdit before after vs → StandsFor old vs → StandsFor new (edit_of before after vs)
left_alone None after v old new e f taken vs can stands = absurd cc
left_alone (Some x) (Some w) v old new e f taken vs can stands = absurd cc
left_alone (Some x) None v old new e f taken vs can stands =
    let is = value_is x v e in
    subst (λ w. StandsFor new (others w vs)) (sym is) (taken vs can.0 (subst (Contains vs) is can.1) stands)

one_name : (v u : VolumeData) → key_of (Volume v) ≡ key_of (Volume u) → same_name v u ≡ true
one_name v u e = (same_key-Decides (key_of (Volume v)) (key_of (Volume u))).1 e

name_one : (v u : VolumeData) → same_name v u ≡ true → key_of (Volume v) ≡ key_of (Volume u)
name_one v u e = (same_key-Decides (key_of (Volume v)) (key_of (Volume u))).0 e

-- the rows after the change
order_with : (key : Key) (after : Option Object) (rows : List Object) → AreRows rows → AreRows (rows_with key after rows)
order_with key None rows order = rising_without key_cmp_total key_of key rows order
order_with key (Some o) rows order = rising_put key_cmp_total key_of o rows order

row_own : (key : Key) (after : Option Object) (rows : List Object) → AreRows rows → IfSome after (λ o. key_of o ≡ key) → row_at key (rows_with key after rows) ≡ after
row_own key None rows order named = row_at-without_row key rows order
row_own key (Some o) rows order named = subst (λ k. row_at k (put_row o rows) ≡ Some o) named (row_at-put_row o rows)

row_other : (key : Key) (after : Option Object) (rows : List Object) → IfSome after (λ o. key_of o ≡ key) → (k : Key) → key ≢ k → row_at k (rows_with key after rows) ≡ row_at k rows
row_other key None rows named k differs = row_at-without_row_other key k rows differs
row_other key (Some o) rows named k differs = row_at-put_row_other k o rows (λ is. differs (sym named ∙ is))

module _ (rows : List Object) (key : Key) (before after : Option Object) (order : AreRows rows) (at : row_at key rows ≡ before) (named : IfSome after (λ o. key_of o ≡ key)) where
  -- the volume that leaves is the one under the key
  leaving : (v : VolumeData) → as_volume before ≡ Some v → (row_at key rows ≡ Some (Volume v)) × (key_of (Volume v) ≡ key)
  leaving v e = let is = at ∙ volume_there before v e in (is, row_at_key key (Volume v) rows is)

  under_key : (u : VolumeData) → key_of (Volume u) ≡ key → Contains (volumes_in rows) u → as_volume before ≡ Some u
  under_key u is c = ap as_volume (sym at ∙ ap (λ k. row_at k rows) (sym is) ∙ row_held u rows order c)

  coming : (w : VolumeData) → as_volume after ≡ Some w → key_of (Volume w) ≡ key
  coming w e = subst (λ a. IfSome a (λ o. key_of o ≡ key)) (volume_there after w e) named

  own_alike : (u : VolumeData) → key_of (Volume u) ≡ key → Contains (edit_of (as_volume before) (as_volume after) (volumes_in rows)) u ↔ Contains (volumes_in (rows_with key after rows)) u
  own_alike u is = (λ c. to (edit_held (as_volume before) (as_volume after) (volumes_in rows) u c), back)
    where
      to : (as_volume after ≡ Some u) ⊎ Contains (left_of (as_volume before) (volumes_in rows)) u → Contains (volumes_in (rows_with key after rows)) u
      to (inl e) = held_row key u (rows_with key after rows) (row_own key after rows order named ∙ volume_there after u e)
      to (inr c) =
          let p = left_held (as_volume before) (volumes_in rows) u c in
          let other : same_name u u ≡ false = subst (λ b. IfSome b (λ v. same_name u v ≡ false)) (under_key u is p.0) p.1 in
          absurd (true≢false (sym (same_key_itself (key_of (Volume u))) ∙ other))

      back : Contains (volumes_in (rows_with key after rows)) u → Contains (edit_of (as_volume before) (as_volume after) (volumes_in rows)) u
      back c =
          let row = row_held u (rows_with key after rows) (order_with key after rows order) c in
          held_new (as_volume before) (as_volume after) (volumes_in rows) u (ap as_volume (sym (row_own key after rows order named) ∙ ap (λ k. row_at k (rows_with key after rows)) (sym is) ∙ row))

  other_alike : (u : VolumeData) → key_of (Volume u) ≢ key → Contains (edit_of (as_volume before) (as_volume after) (volumes_in rows)) u ↔ Contains (volumes_in (rows_with key after rows)) u
  other_alike u differs = (λ c. to (edit_held (as_volume before) (as_volume after) (volumes_in rows) u c), back)
    where
      kept : row_at (key_of (Volume u)) (rows_with key after rows) ≡ row_at (key_of (Volume u)) rows
      kept = row_other key after rows named (key_of (Volume u)) (λ is. differs (sym is))

      to : (as_volume after ≡ Some u) ⊎ Contains (left_of (as_volume before) (volumes_in rows)) u → Contains (volumes_in (rows_with key after rows)) u
      to (inl e) = absurd (differs (coming u e))
      to (inr c) =
          let p = left_held (as_volume before) (volumes_in rows) u c in
          held_row (key_of (Volume u)) u (rows_with key after rows) (kept ∙ row_held u rows order p.0)

      names : (b : Option VolumeData) → as_volume before ≡ b → IfSome b (λ v. same_name u v ≡ false)
      names None e = tt
      names (Some v) e = false_from_ne_true (same_name u v) (λ t. differs (name_one u v t ∙ (leaving v e).1))

      back : Contains (volumes_in (rows_with key after rows)) u → Contains (edit_of (as_volume before) (as_volume after) (volumes_in rows)) u
      back c =
          let row = row_held u (rows_with key after rows) (order_with key after rows order) c in
          held_old (as_volume before) (as_volume after) (volumes_in rows) u
          (held_left (as_volume before) (volumes_in rows) u (held_row (key_of (Volume u)) u rows (sym kept ∙ row)) (names (as_volume before) refl))

  -- the volumes of the rows after the change are those after the edit
  edit_alike : AreAlike (edit_of (as_volume before) (as_volume after) (volumes_in rows)) (volumes_in (rows_with key after rows))
  edit_alike u = elim (key_tells (key_of (Volume u)) key) [
    | inl is ↦ own_alike u is
    | inr differs ↦ other_alike u differs
  ]

  -- and the edit may be made
  can_edit : CanEdit (as_volume before) (as_volume after) (volumes_in rows)
  can_edit = by (as_volume before) refl (as_volume after) refl
    where
      by : (b : Option VolumeData) → as_volume before ≡ b → (a : Option VolumeData) → as_volume after ≡ a → CanEdit b a (volumes_in rows)
      by None e None f = tt
      by None e (Some w) f = λ u c. false_from_ne_true (same_name u w) (λ t. absurd (let there : None ≡ Some u = sym e ∙ under_key u (name_one u w t ∙ coming w f) c in cc))
      by (Some v) e None f = (are_apart rows order, held_row key v rows (leaving v e).0)
      by (Some v) e (Some w) f = (are_apart rows order, held_row key v rows (leaving v e).0, one_name v w ((leaving v e).1 ∙ sym (coming w f)))

  -- so an index that is edited as the rows change stands for their volumes
  followed : (old new : Index) → ((vs : List VolumeData) → CanEdit (as_volume before) (as_volume after) vs → StandsFor old vs → StandsFor new (edit_of (as_volume before) (as_volume after) vs))
      → StandsFor old (volumes_in rows) → StandsFor new (volumes_in (rows_with key after rows))
  followed old new edit stands = stands_alike new _ _ edit_alike (edit (volumes_in rows) can_edit stands)

pub keeps_on : (before after : Option Object) (held : Option Index) (old new : Index) (b a : Option VolumeData) → b ≡ as_volume before → a ≡ as_volume after → held ≡ Some old
    → ((vs : List VolumeData) → CanEdit b a vs → StandsFor old vs → StandsFor new (edit_of b a vs))
    → (rows : List Object) (key : Key) → AreRows rows → row_at key rows ≡ before → IfSome after (λ o. key_of o ≡ key) → Keeps held rows → StandsFor new (volumes_in (rows_with key after rows))
keeps_on before after held old new b a be ae he edit rows key order at named kept =
    followed rows key before after order at named old new
    (subst (λ x. (vs : List VolumeData) → CanEdit x (as_volume after) vs → StandsFor old vs → StandsFor new (edit_of x (as_volume after) vs)) be
    (subst (λ y. (vs : List VolumeData) → CanEdit b y vs → StandsFor old vs → StandsFor new (edit_of b y vs)) ae edit))
    (subst (λ h. Keeps h rows) he kept)
