-- What an index stands for after an edit.
use Rattle.std.proofs.Common.{◌≡◌, ◌⊎◌, inl, inr, Bool, true, false, true≢false, not, ◌&&◌, List, ◌∷◌, ◌∙◌, refl, sym, ap, subst, if◌then◌else◌}
use Rattle.std.specs.List.{Contains}
use Rattle.std.specs.Cmp.{IsTotalOrder}
use Rattle.std.specs.declared.cmp.Ordering.{Ordering}
use Rattle.std.specs.declared.cmp.Ordering.TheVariants.{Less, Equal, Greater}
use Rattle.std.specs.Ordering.{is_eq, ordering_reverse}
use Rattle.std.proofs.lemmas.Cmp.{tied_itself}
use Rattle.plain_data.specs.Rows.{put, without}
use Rattle.kube_objects.specs.declared.objects.Volume.{Volume as VolumeData}
use Rattle.kube_objects.specs.declared.objects.Object.TheVariants.{Volume}
use Rattle.kube_objects.specs.Keys.{key_of}
use Rattle.kube_objects.proofs.SameKeys.{same_key-Decides}
use Rattle.volume_index.specs.VolumeIndex.{AreApart, HoldsThose, Index, IsNew, StandsFor, is_any, is_free, is_owned, others, same_name}
use Rattle.volume_index.specs.VolumeOrders.{AreInOrder, by_owner, by_size}
use Rattle.volume_index.specs.Steps.IndexEdits.{IsOrdered, put_if, without_if, without_unless}
use Rattle.volume_index.proofs.VolumeOrders.{by_owner_total, by_size_total, owners_alike, sizes_alike}
use Rattle.volume_index.proofs.HeldValues.{filter_held, held_filter, held_put, held_without, here, put_held, put_there, split, there, without_held}

negated : (b : Bool) → b ≡ false → not b ≡ true
negated true e = absurd (true≢false e)
negated false e = refl

affirmed : (b : Bool) → not b ≡ true → b ≡ false
affirmed true e = absurd (true≢false (sym e))
affirmed false e = refl

fails : (b : Bool) → (b ≡ true → ⊥) → b ≡ false
fails true h = absurd (h refl)
fails false h = refl

module _ {cmp : VolumeData → VolumeData → Ordering} (o : IsTotalOrder cmp) (alike : (v u : VolumeData) → is_eq (cmp v u) ≡ true → same_name v u ≡ true) (test : VolumeData → Bool) where
  -- volumes of other names stand elsewhere in the order
  apart : (v u : VolumeData) → same_name v u ≡ false → is_eq (cmp v u) ≡ false
  apart v u e = fails (is_eq (cmp v u)) (λ t. true≢false (sym (alike v u t) ∙ e))

  pub put_stands : (v : VolumeData) (vs xs : List VolumeData) → AreInOrder cmp xs → IsNew v vs → HoldsThose test vs xs → HoldsThose test (v ∷ vs) (put_if cmp test v xs)
  put_stands v vs xs order new h = by (test v) refl
    where
      to : (u : VolumeData) → (u ≡ v) ⊎ (Contains xs u × (is_eq (cmp u v) ≡ false)) → test v ≡ true → Contains (v ∷ vs) u × (test u ≡ true)
      to u (inl is) t = (here v u vs (sym is), ap test is ∙ t)
      to u (inr c) t = let old = (h u).0 c.0 in (there v u vs old.0, old.1)

      back : (u : VolumeData) → (v ≡ u) ⊎ Contains vs u → test u ≡ true → Contains (put cmp (λ w. w) v xs) u
      back u (inl is) t = subst (λ w. Contains (put cmp (λ x. x) v xs) w) is (put_there o v xs)
      back u (inr c) t = held_put o v u xs ((h u).1 (c, t)) (apart u v (new u c))

      kept : (u : VolumeData) → (v ≡ u) ⊎ Contains vs u → test v ≡ false → test u ≡ true → Contains xs u
      kept u (inl is) f t = absurd (true≢false (sym t ∙ ap test (sym is) ∙ f))
      kept u (inr c) f t = (h u).1 (c, t)

      by : (b : Bool) → test v ≡ b → HoldsThose test (v ∷ vs) (if b then put cmp (λ w. w) v xs else xs)
      by true e = λ u. (λ c. to u (put_held o v u xs order c) e, λ c. back u (split v u vs c.0) c.1)
      by false e = λ u. (λ c. (there v u vs ((h u).0 c).0, ((h u).0 c).1), λ c. kept u (split v u vs c.0) e c.1)

  pub take_stands : (v : VolumeData) (vs xs : List VolumeData) → AreInOrder cmp xs → AreApart vs → Contains vs v → HoldsThose test vs xs → HoldsThose test (others v vs) (without_if cmp test v xs)
  take_stands v vs xs order one held h = by (test v) refl
    where
      -- what is held and is not the volume has another name
      named_apart : (u : VolumeData) → Contains vs u → (u ≡ v → ⊥) → same_name u v ≡ false
      named_apart u c differs = fails (same_name u v) (λ t. differs (one u v c held t))

      left : (u : VolumeData) → Contains vs u → same_name u v ≡ false → Contains (others v vs) u
      left u c e = filter_held (λ w. not (same_name w v)) u vs c (negated (same_name u v) e)

      was : (u : VolumeData) → Contains (others v vs) u → Contains vs u × (same_name u v ≡ false)
      was u c = let p = held_filter (λ w. not (same_name w v)) u vs c in (p.0, affirmed (same_name u v) p.1)

      to : (u : VolumeData) → Contains xs u × (is_eq (cmp u v) ≡ false) → Contains (others v vs) u × (test u ≡ true)
      to u c = let old = (h u).0 c.0 in
          (left u old.0 (named_apart u old.0 (λ is. true≢false (sym (ap is_eq (tied_itself o v)) ∙ ap (λ w. is_eq (cmp w v)) (sym is) ∙ c.1))), old.1)

      by : (b : Bool) → test v ≡ b → HoldsThose test (others v vs) (if b then without cmp (λ w. w) v xs else xs)
      by true e = λ u. (λ c. to u (without_held o v u xs order c), λ c. held_without o v u xs ((h u).1 ((was u c.0).0, c.1)) (apart u v (was u c.0).1))
      by false e = λ u. (λ c. let old = (h u).0 c in (left u old.0 (named_apart u old.0 (λ is. true≢false (sym old.1 ∙ ap test is ∙ e))), old.1), λ c. (h u).1 ((was u c.0).0, c.1))

  -- a volume in place of an earlier one of its name
  pub replace_stands : (v w : VolumeData) (vs xs : List VolumeData) → AreInOrder cmp xs → AreInOrder cmp (put_if cmp test w xs) → AreApart vs
      → Contains vs v → same_name v w ≡ true → HoldsThose test vs xs
      → HoldsThose test (w ∷ others v vs) (without_unless cmp test v w (put_if cmp test w xs))
  replace_stands v w vs xs order order_put one held name h = by (test w) refl order_put
    where
      -- what has another name than the earlier one has another than the later one
      other_too : (u : VolumeData) → same_name u v ≡ false → same_name u w ≡ false
      other_too u e = fails (same_name u w) (λ t.
          let same_vw = (same_key-Decides (key_of (Volume v)) (key_of (Volume w))).0 name in
          let same_uw = (same_key-Decides (key_of (Volume u)) (key_of (Volume w))).0 t in
          true≢false (sym ((same_key-Decides (key_of (Volume u)) (key_of (Volume v))).1 (same_uw ∙ sym same_vw)) ∙ e))

      named_apart : (u : VolumeData) → Contains vs u → (u ≡ v → ⊥) → same_name u v ≡ false
      named_apart u c differs = fails (same_name u v) (λ t. differs (one u v c held t))

      kept : (u : VolumeData) → Contains vs u → same_name u v ≡ false → Contains (w ∷ others v vs) u
      kept u c e = there w u (others v vs) (filter_held (λ x. not (same_name x v)) u vs c (negated (same_name u v) e))

      was : (u : VolumeData) → Contains (others v vs) u → Contains vs u × (same_name u v ≡ false)
      was u c = let p = held_filter (λ x. not (same_name x v)) u vs c in (p.0, affirmed (same_name u v) p.1)

      tied : (u : VolumeData) (x : VolumeData) → is_eq (cmp u x) ≡ false → u ≡ x → ⊥
      tied u x e is = true≢false (sym (ap is_eq (tied_itself o x)) ∙ ap (λ y. is_eq (cmp y x)) (sym is) ∙ e)

      turned : is_eq (cmp v w) ≡ false → is_eq (cmp w v) ≡ false
      turned e = flip (cmp v w) (o.antisymm w v) e
        where
          flip : (r : Ordering) → cmp w v ≡ ordering_reverse r → is_eq r ≡ false → is_eq (cmp w v) ≡ false
          flip Less is e = ap is_eq is
          flip Equal is e = absurd (true≢false e)
          flip Greater is e = ap is_eq is

      -- what stands with the later one, and has another place than the earlier one
      to : (u : VolumeData) → test w ≡ true → (u ≡ w) ⊎ (Contains xs u × (is_eq (cmp u w) ≡ false)) → (u ≡ v → (u ≡ w → ⊥) → ⊥) → Contains (w ∷ others v vs) u × (test u ≡ true)
      to u t (inl is) differs = (here w u (others v vs) (sym is), ap test is ∙ t)
      to u t (inr c) differs = let old = (h u).0 c.0 in (kept u old.0 (named_apart u old.0 (λ is. differs is (tied u w c.1))), old.1)

      back : (u : VolumeData) → (w ≡ u) ⊎ Contains (others v vs) u → test u ≡ true → Contains (put cmp (λ x. x) w xs) u
      back u (inl is) t = subst (λ x. Contains (put cmp (λ y. y) w xs) x) is (put_there o w xs)
      back u (inr c) t = let p = was u c in held_put o w u xs ((h u).1 (p.0, t)) (apart u w (other_too u p.1))

      back_apart : (u : VolumeData) → is_eq (cmp v w) ≡ false → (w ≡ u) ⊎ Contains (others v vs) u → is_eq (cmp u v) ≡ false
      back_apart u e (inl is) = ap (λ x. is_eq (cmp x v)) (sym is) ∙ turned e
      back_apart u e (inr c) = apart u v (was u c).1

      swapped : (b : Bool) → test v ≡ b → test w ≡ true → is_eq (cmp v w) ≡ false → AreInOrder cmp (put cmp (λ x. x) w xs)
          → HoldsThose test (w ∷ others v vs) (if b then without cmp (λ x. x) v (put cmp (λ x. x) w xs) else put cmp (λ x. x) w xs)
      swapped true e t differ ordered = λ u. (
        λ c. let p = without_held o v u (put cmp (λ x. x) w xs) ordered c in to u t (put_held o w u xs order p.0) (λ is other. tied u v p.1 is),
        λ c. let s = split w u (others v vs) c.0 in held_without o v u (put cmp (λ x. x) w xs) (back u s c.1) (back_apart u differ s),
      )
      swapped false e t differ ordered = λ u. (
        λ c. by_test u (put_held o w u xs order c),
        λ c. back u (split w u (others v vs) c.0) c.1,
      )
        where
          by_test : (u : VolumeData) → (u ≡ w) ⊎ (Contains xs u × (is_eq (cmp u w) ≡ false)) → Contains (w ∷ others v vs) u × (test u ≡ true)
          by_test u (inl is) = (here w u (others v vs) (sym is), ap test is ∙ t)
          by_test u (inr c) = let old = (h u).0 c.0 in (kept u old.0 (named_apart u old.0 (λ is. true≢false (sym old.1 ∙ ap test is ∙ e))), old.1)

      placed : (b : Bool) → is_eq (cmp v w) ≡ b → test w ≡ true → AreInOrder cmp (put cmp (λ x. x) w xs)
          → HoldsThose test (w ∷ others v vs) (if b then put cmp (λ x. x) w xs else without_if cmp test v (put cmp (λ x. x) w xs))
      placed true e t ordered = λ u. (
        λ c. to u t (put_held o w u xs order c) (λ is other. true≢false (sym e ∙ ap (λ x. is_eq (cmp x w)) (sym is) ∙ by_other u other (put_held o w u xs order c))),
        λ c. back u (split w u (others v vs) c.0) c.1,
      )
        where
          by_other : (u : VolumeData) → (u ≡ w → ⊥) → (u ≡ w) ⊎ (Contains xs u × (is_eq (cmp u w) ≡ false)) → is_eq (cmp u w) ≡ false
          by_other u other (inl is) = absurd (other is)
          by_other u other (inr c) = c.1
      placed false e t ordered = swapped (test v) refl t e ordered

      by : (b : Bool) → test w ≡ b → AreInOrder cmp (if b then put cmp (λ x. x) w xs else xs)
          → HoldsThose test (w ∷ others v vs) (if (b && is_eq (cmp v w)) then (if b then put cmp (λ x. x) w xs else xs) else without_if cmp test v (if b then put cmp (λ x. x) w xs else xs))
      by true e ordered = placed (is_eq (cmp v w)) refl e ordered
      by false e ordered = λ u. (
        λ c. let p = ((take_stands v vs xs order one held h) u).0 c in (there w u (others v vs) p.0, p.1),
        λ c. left u (split w u (others v vs) c.0) c.1,
      )
        where
          left : (u : VolumeData) → (w ≡ u) ⊎ Contains (others v vs) u → test u ≡ true → Contains (without_if cmp test v xs) u
          left u (inl is) t = absurd (true≢false (sym t ∙ ap test (sym is) ∙ e))
          left u (inr c) t = ((take_stands v vs xs order one held h) u).1 (c, t)

-- all lists together
put_lists : (v : VolumeData) (old : Index) (all free owned : List VolumeData) → IsOrdered old → all ≡ put_if by_size is_any v old.all
    → free ≡ put_if by_size is_free v old.free → owned ≡ put_if by_owner is_owned v old.owned
    → (vs : List VolumeData) → IsNew v vs → StandsFor old vs → StandsFor (record { all = all; free = free; owned = owned }) (v ∷ vs)
put_lists v old all free owned order a e f vs new stands = record {
  all = subst (HoldsThose is_any (v ∷ vs)) (sym a) (put_stands by_size_total sizes_alike is_any v vs old.all order.0 new stands.all);
  free = subst (HoldsThose is_free (v ∷ vs)) (sym e) (put_stands by_size_total sizes_alike is_free v vs old.free order.1.0 new stands.free);
  owned = subst (HoldsThose is_owned (v ∷ vs)) (sym f) (put_stands by_owner_total owners_alike is_owned v vs old.owned order.1.1 new stands.owned);
}

pub inserted : (v : VolumeData) (old self : Index) (all free owned : List VolumeData) → old ≡ self → IsOrdered old
    → all ≡ put_if by_size is_any v old.all → free ≡ put_if by_size is_free v old.free → owned ≡ put_if by_owner is_owned v old.owned
    → (vs : List VolumeData) → IsNew v vs → StandsFor self vs → StandsFor (record { all = all; free = free; owned = owned }) (v ∷ vs)
inserted v old self all free owned is order a e f = λ vs new stands. put_lists v old all free owned order a e f vs new (subst (λ i. StandsFor i vs) (sym is) stands)

pub removed : (v : VolumeData) (old self : Index) (all free owned : List VolumeData) → old ≡ self → IsOrdered old
    → all ≡ without by_size (λ u. u) v old.all → free ≡ without_if by_size is_free v old.free → owned ≡ without_if by_owner is_owned v old.owned
    → (vs : List VolumeData) → AreApart vs → Contains vs v → StandsFor self vs → StandsFor (record { all = all; free = free; owned = owned }) (others v vs)
removed v old self all free owned is order a e f vs apart held stands =
    let was = subst (λ i. StandsFor i vs) (sym is) stands in
    record {
      all = subst (HoldsThose is_any (others v vs)) (sym a) (take_stands by_size_total sizes_alike is_any v vs old.all order.0 apart held was.all);
      free = subst (HoldsThose is_free (others v vs)) (sym e) (take_stands by_size_total sizes_alike is_free v vs old.free order.1.0 apart held was.free);
      owned = subst (HoldsThose is_owned (others v vs)) (sym f) (take_stands by_owner_total owners_alike is_owned v vs old.owned order.1.1 apart held was.owned);
    }

pub replaced : (v w : VolumeData) (old self : Index) (put_any put_in put_own all free owned : List VolumeData) → old ≡ self → IsOrdered old
    → AreInOrder by_size put_any → AreInOrder by_size put_in → AreInOrder by_owner put_own
    → put_any ≡ put_if by_size is_any w old.all → put_in ≡ put_if by_size is_free w old.free → put_own ≡ put_if by_owner is_owned w old.owned
    → all ≡ without_unless by_size is_any v w put_any → free ≡ without_unless by_size is_free v w put_in → owned ≡ without_unless by_owner is_owned v w put_own
    → (vs : List VolumeData) → AreApart vs → Contains vs v → same_name v w ≡ true → StandsFor self vs → StandsFor (record { all = all; free = free; owned = owned }) (w ∷ others v vs)
replaced v w old self put_any put_in put_own all free owned is order any ordered ordered_too d e f x a b vs apart held name stands =
    let was = subst (λ i. StandsFor i vs) (sym is) stands in
    record {
      all = subst (HoldsThose is_any (w ∷ others v vs)) (sym (x ∙ ap (without_unless by_size is_any v w) d))
          (replace_stands by_size_total sizes_alike is_any v w vs old.all order.0 (subst (AreInOrder by_size) d any) apart held name was.all);
      free = subst (HoldsThose is_free (w ∷ others v vs)) (sym (a ∙ ap (without_unless by_size is_free v w) e))
          (replace_stands by_size_total sizes_alike is_free v w vs old.free order.1.0 (subst (AreInOrder by_size) e ordered) apart held name was.free);
      owned = subst (HoldsThose is_owned (w ∷ others v vs)) (sym (b ∙ ap (without_unless by_owner is_owned v w) f))
          (replace_stands by_owner_total owners_alike is_owned v w vs old.owned order.1.1 (subst (AreInOrder by_owner) f ordered_too) apart held name was.owned);
    }
