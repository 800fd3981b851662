-- What an index of the volumes among rows stands for, a row more at a time.
use Rattle.std.proofs.Common.{
  ℕ,
  zero,
  suc,
  ◌≡◌,
  ◌≤◌,
  ◌<◌,
  ◌+◌,
  ◌-◌,
  ◌⊎◌,
  inl,
  inr,
  Bool,
  true,
  false,
  true≢false,
  List,
  [],
  ◌∷◌,
  length,
  get_or,
  drop,
  if◌then◌else◌,
  Some,
  None,
  arith,
  ◌∙◌,
  refl,
  sym,
  ap,
  subst,
}
use Rattle.std.specs.List.{Contains, sum_by}
use Rattle.std.specs.List.Sorted.{IsPermutation}
use Rattle.std.specs.declared.cmp.Ordering.TheVariants.{Less}
use Rattle.std.specs.Ordering.{is_eq, ordering_reverse}
use Rattle.std.proofs.lemmas.List.{drop_more}
use Rattle.std.proofs.lemmas.List.Sorted.{Contains-permutation, IsPermutation-sym, sum_by-IsPermutation}
use Rattle.std.proofs.lemmas.List.Sums.{sum_by-cons}
use Rattle.kube_objects.specs.declared.objects.Volume.{Volume as VolumeData}
use Rattle.kube_objects.specs.declared.objects.Object.{Object}
use Rattle.kube_objects.specs.declared.objects.Object.TheVariants.{Class, Node, Volume, Claim, Pod}
use Rattle.kube_objects.specs.Keys.{AreRows, key_cmp, key_of}
use Rattle.kube_objects.proofs.KeyOrder.{key_cmp_total}
use Rattle.kube_objects.proofs.SameKeys.{same_key-Decides, same_key_ordered}
use Rattle.volume_index.specs.VolumeIndex.{as_volume, HoldsThose, Index, IsNew, StandsFor, is_any, is_free, is_owned, same_name, volumes_in}
use Rattle.volume_index.specs.Steps.IndexEdits.{HaveOwnNames, namesakes}
use Rattle.volume_index.proofs.HeldValues.{after_has, here, nothing, split, there}

-- volumes among rows
pub volume_held : (v : VolumeData) (rows : List Object) → Contains (volumes_in rows) v → Contains rows (Volume v)
volume_held v [] c = absurd (nothing v c)
volume_held v (Volume x ∷ os) c = elim (split x v (volumes_in os) c) [
  | inl is ↦ here (Volume x) (Volume v) os (ap (λ w. Volume w) is)
  | inr h ↦ there (Volume x) (Volume v) os (volume_held v os h)
]
volume_held v (Class x ∷ os) c = there (Class x) (Volume v) os (volume_held v os c)
volume_held v (Node x ∷ os) c = there (Node x) (Volume v) os (volume_held v os c)
volume_held v (Claim x ∷ os) c = there (Claim x) (Volume v) os (volume_held v os c)
volume_held v (Pod x ∷ os) c = there (Pod x) (Volume v) os (volume_held v os c)

volume_same : (x v : VolumeData) → Volume x ≡ Volume v → x ≡ v
volume_same x v e = cc

pub held_volume : (v : VolumeData) (rows : List Object) → Contains rows (Volume v) → Contains (volumes_in rows) v
held_volume v [] c = absurd (nothing (Volume v) c)
held_volume v (Volume x ∷ os) c = elim (split (Volume x) (Volume v) os c) [
  | inl is ↦ here x v (volumes_in os) (volume_same x v is)
  | inr h ↦ there x v (volumes_in os) (held_volume v os h)
]
held_volume v (Class x ∷ os) c = elim (split (Class x) (Volume v) os c) [
  | inl is ↦ absurd cc
  | inr h ↦ held_volume v os h
]
held_volume v (Node x ∷ os) c = elim (split (Node x) (Volume v) os c) [
  | inl is ↦ absurd cc
  | inr h ↦ held_volume v os h
]
held_volume v (Claim x ∷ os) c = elim (split (Claim x) (Volume v) os c) [
  | inl is ↦ absurd cc
  | inr h ↦ held_volume v os h
]
held_volume v (Pod x ∷ os) c = elim (split (Pod x) (Volume v) os c) [
  | inl is ↦ absurd cc
  | inr h ↦ held_volume v os h
]

-- an object that is no volume changes nothing
pub no_volume : (o : Object) (rows : List Object) → as_volume (Some o) ≡ None → volumes_in (o ∷ rows) ≡ volumes_in rows
no_volume (Volume v) rows e = absurd cc
no_volume (Class x) rows e = refl
no_volume (Node x) rows e = refl
no_volume (Claim x) rows e = refl
no_volume (Pod x) rows e = refl

volume_is : (x v : VolumeData) → Some x ≡ Some v → x ≡ v
volume_is x v e = cc

pub one_volume : (o : Object) (v : VolumeData) → as_volume (Some o) ≡ Some v → o ≡ Volume v
one_volume (Volume x) v e = ap (λ w. Volume w) (volume_is x v e)
one_volume (Class x) v e = absurd cc
one_volume (Node x) v e = absurd cc
one_volume (Claim x) v e = absurd cc
one_volume (Pod x) v e = absurd cc

-- a volume that stands before rows has a name that none of them has
new_name : (v : VolumeData) (rows : List Object) → AreRows (Volume v ∷ rows) → IsNew v (volumes_in rows)
new_name v rows order u c =
    let less : key_cmp (key_of (Volume v)) (key_of (Volume u)) ≡ Less = after_has key_cmp_total key_of (Volume v) (Volume u) rows order.0 (volume_held u rows c) in
    sym (same_key_ordered (key_of (Volume u)) (key_of (Volume v))) ∙ ap is_eq (key_cmp_total.antisymm (key_of (Volume u)) (key_of (Volume v)) ∙ ap ordering_reverse less)

-- ---- names that are counted

same_name-itself : (v : VolumeData) → same_name v v ≡ true
same_name-itself v = (same_key-Decides (key_of (Volume v)) (key_of (Volume v))).1 refl

-- where no volume has the name, none is counted
none_named : (v : VolumeData) (us : List VolumeData) → ((u : VolumeData) → Contains us u → same_name u v ≡ false) → sum_by (namesakes v) us ≡ 0
none_named v [] h = refl
none_named v (u ∷ us) h =
    let cons = sum_by-cons (namesakes v) u us in
    let rest = none_named v us (λ w c. h w (there u w us c)) in
    let first : namesakes v u ≡ 0 = ap (λ b. if b then 1 else 0) (h u (here u u us refl)) in
    omega (arith, cons, rest, first)

-- one that has it is
some_named : (v w : VolumeData) (us : List VolumeData) → Contains us w → same_name w v ≡ true → 1 ≤ sum_by (namesakes v) us
some_named v w [] c e = absurd (nothing w c)
some_named v w (u ∷ us) c e = by (split u w us c) (λ h. some_named v w us h e)
  where
    by : (u ≡ w) ⊎ Contains us w → (Contains us w → 1 ≤ sum_by (namesakes v) us) → 1 ≤ sum_by (namesakes v) (u ∷ us)
    by (inl is) more =
        let cons = sum_by-cons (namesakes v) u us in
        let first : namesakes v u ≡ 1 = ap (λ x. namesakes v x) is ∙ ap (λ b. if b then 1 else 0) e in
        omega (arith, cons, first)
    by (inr h) more =
        let cons = sum_by-cons (namesakes v) u us in
        let rest = more h in
        omega (arith, cons, rest)

-- the volumes among rows in order have names of their own
pub own_names : (rows : List Object) → AreRows rows → HaveOwnNames (volumes_in rows)
own_names [] order v = omega arith
own_names (Volume x ∷ os) order v = by (same_name x v) refl (own_names os order.1 v)
  where
    by : (b : Bool) → same_name x v ≡ b → sum_by (namesakes v) (volumes_in os) ≤ 1 → sum_by (namesakes v) (x ∷ volumes_in os) ≤ 1
    by false e rest =
        let cons = sum_by-cons (namesakes v) x (volumes_in os) in
        let first : namesakes v x ≡ 0 = ap (λ b. if b then 1 else 0) e in
        omega (arith, cons, first, rest)
    by true e own =
        let cons = sum_by-cons (namesakes v) x (volumes_in os) in
        let first : namesakes v x ≡ 1 = ap (λ b. if b then 1 else 0) e in
        let rest = none_named v (volumes_in os) (λ u c. other u c (same_name u v) refl) in
        omega (arith, cons, first, rest)
      where
        other : (u : VolumeData) → Contains (volumes_in os) u → (b : Bool) → same_name u v ≡ b → same_name u v ≡ false
        other u c false f = f
        other u c true f =
            let same_uv = (same_key-Decides (key_of (Volume u)) (key_of (Volume v))).0 f in
            let same_xv = (same_key-Decides (key_of (Volume x)) (key_of (Volume v))).0 e in
            absurd (true≢false (sym ((same_key-Decides (key_of (Volume u)) (key_of (Volume x))).1 (same_uv ∙ sym same_xv)) ∙ new_name x os order u c))
own_names (Class x ∷ os) order v = own_names os order.1 v
own_names (Node x ∷ os) order v = own_names os order.1 v
own_names (Claim x ∷ os) order v = own_names os order.1 v
own_names (Pod x ∷ os) order v = own_names os order.1 v

-- in another order too
pub own_names-permuted : (us vs : List VolumeData) → IsPermutation us vs → HaveOwnNames us → HaveOwnNames vs
own_names-permuted us vs same own v = let a = sum_by-IsPermutation (namesakes v) us vs same in let b = own v in omega (arith, a, b)

-- so the first has another name than the rest, and the rest have names of their own
first_new : (v : VolumeData) (vs : List VolumeData) → HaveOwnNames (v ∷ vs) → IsNew v vs
first_new v vs own u c = by (same_name u v) refl
  where
    by : (b : Bool) → same_name u v ≡ b → same_name u v ≡ false
    by false e = e
    by true e =
        let cons = sum_by-cons (namesakes v) v vs in
        let first : namesakes v v ≡ 1 = ap (λ b. if b then 1 else 0) (same_name-itself v) in
        let rest = some_named v u vs c e in
        let all = own v in
        absurd (omega (arith, cons, first, rest, all))

rest_own : (v : VolumeData) (vs : List VolumeData) → HaveOwnNames (v ∷ vs) → HaveOwnNames vs
rest_own v vs own u = let cons = sum_by-cons (namesakes u) v vs in let all = own u in omega (arith, cons, all)

own_drop : (vs : List VolumeData) (n : ℕ) → HaveOwnNames vs → HaveOwnNames (drop n vs)
own_drop vs zero own = own
own_drop [] (suc n) own = own
own_drop (v ∷ vs) (suc n) own = own_drop vs n (rest_own v vs own)

drop_all : (vs : List VolumeData) → drop (length vs) vs ≡ []
drop_all [] = refl
drop_all (v ∷ vs) = drop_all vs

-- ---- a volume more at a time

pub begun : (new : Index) (vs : List VolumeData) → StandsFor new [] → StandsFor new (drop (length vs) vs)
begun new vs stands = subst (StandsFor new) (sym (drop_all vs)) stands

pub one_more : (old new : Index) (vs : List VolumeData) (left : ℕ) (v : VolumeData) → 0 < left → left ≤ length vs → v ≡ get_or vs (left - 1) v → HaveOwnNames vs
    → ((rest : List VolumeData) → IsNew v rest → StandsFor old rest → StandsFor new (v ∷ rest))
    → StandsFor old (drop left vs) → StandsFor new (drop (left - 1) vs)
one_more old new vs left v some within is own step stands =
    let next : (left - 1) + 1 ≡ left = omega (arith, some) in
    let at : drop (left - 1) vs ≡ get_or vs (left - 1) v ∷ drop ((left - 1) + 1) vs = drop_more vs (left - 1) v (omega (arith, some, within)) in
    let e : drop (left - 1) vs ≡ v ∷ drop left vs = at ∙ (λ i. sym is i ∷ drop (next i) vs) in
    subst (StandsFor new) (sym e) (step (drop left vs) (first_new v (drop left vs) (subst HaveOwnNames e (own_drop vs (left - 1) own))) stands)

-- an index of the same volumes in another order is one of these
held_alike : (test : VolumeData → Bool) (us vs held : List VolumeData) → IsPermutation us vs → HoldsThose test vs held → HoldsThose test us held
held_alike test us vs held same h = λ v. (
  λ c. let p = (h v).0 c in (Contains-permutation vs us v (IsPermutation-sym us vs same) p.0, p.1),
  λ p. (h v).1 (Contains-permutation us vs v same p.0, p.1),
)

pub stands_alike : (index : Index) (us vs : List VolumeData) → IsPermutation us vs → StandsFor index vs → StandsFor index us
stands_alike index us vs same stands = record {
  all = held_alike is_any us vs index.all same stands.all;
  free = held_alike is_free us vs index.free same stands.free;
  owned = held_alike is_owned us vs index.owned same stands.owned;
}
