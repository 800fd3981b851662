-- Rows whose keys stood before, or are those of volumes that may be made, are few.
use Rattle.std.proofs.Common.{◌≡◌, ◌≢◌, ◌∙◌, ℕ, ◌+◌, ◌*◌, ◌≤◌, List, [], ◌∷◌, length, Option, Some, None, inl, inr, refl, sym, ap, subst, arith}
use Rattle.std.proofs.Math.Nat.{add-mul}
use Rattle.std.proofs.lemmas.Nat.{mul-le}
use Rattle.plain_data.proofs.RowFacts.{rising_without}
use Rattle.kube_objects.specs.declared.key.Key.{Key}
use Rattle.kube_parts.specs.declared.parts.Kind.TheVariants as kinds
use Rattle.kube_objects.specs.declared.objects.Claim.{Claim as ClaimData}
use Rattle.kube_objects.specs.declared.objects.Pod.{Pod as PodData}
use Rattle.kube_objects.specs.declared.objects.Object.{Object}
use Rattle.kube_objects.specs.declared.objects.Object.TheVariants.{Class, Node, Volume, Claim, Pod}
use Rattle.kube_parts.specs.declared.uid.Uid.{Uid}
use Rattle.kube_objects.specs.Keys.{AreRows, key_of, kind_index, kind_of, meta_of, put_row, row_at, without_row}
use Rattle.kube_objects.proofs.KeyOrder.{key_cmp_total, row_at-put_row, row_at-put_row_other, row_at-without_row, row_at-without_row_other, row_at_key}
use Rattle.kube_objects.proofs.SameKeys.{key_tells}
use Rattle.binder_model.specs.ObjectKeys.{claim_key, volume_key}
use Rattle.binder_model.specs.Provisioning.{data_name}
use Rattle.model_laws.proofs.Lists.{IsIn, none_some, one}
use Rattle.settle_measure.specs.Left.Measure.{claims_in, total}
use Rattle.settle_measure.proofs.Left.Sums.{found_in, gone_falls, none_paid, none_pays, others_behind, stands}
use Rattle.settle_calls.specs.Slots.Rounds.{names_in}
use Rattle.settle_write_counts.proofs.Rounds.Nodes.{IsMoved}
use Rattle.settle_write_counts.specs.Rounds.Rounds.{pod_size}

-- ---- the volumes that may be made

abbrev keys_for : Option Uid → List Key → List Key
keys_for None keys = keys
keys_for (Some uid) keys = volume_key (data_name uid) ∷ keys

-- of each claim with a UID one
abbrev pub made_keys : List Object → List Key
made_keys [] = []
made_keys (Claim c ∷ os) = keys_for c.meta.uid (made_keys os)
made_keys (o ∷ os) = made_keys os

pub made_few : (rows : List Object) → length (made_keys rows) ≤ claims_in rows
made_few [] = omega arith
made_few (Claim c ∷ os) = by c.meta.uid (made_few os)
  where
    by : (uid : Option Uid) → length (made_keys os) ≤ claims_in os → length (keys_for uid (made_keys os)) ≤ 1 + claims_in os
    by None rest = omega (arith, rest)
    by (Some uid) rest = omega (arith, rest)
made_few (Class x ∷ os) = made_few os
made_few (Node x ∷ os) = made_few os
made_few (Volume x ∷ os) = made_few os
made_few (Pod x ∷ os) = made_few os

in_for : (key : Key) (uid : Option Uid) (keys : List Key) → IsIn key keys → IsIn key (keys_for uid keys)
in_for key None keys i = i
in_for key (Some uid) keys i = inr i

is_made : (uid : Uid) (c : ClaimData) (rows : List Object) → c.meta.uid ≡ Some uid → IsIn (Claim c) rows → IsIn (volume_key (data_name uid)) (made_keys rows)
is_made uid c [] has i = absurd i
is_made uid c (o ∷ os) has (inl is) = subst (λ x. IsIn (volume_key (data_name uid)) (made_keys (x ∷ os))) (sym is) (subst
    (λ u. IsIn (volume_key (data_name uid)) (keys_for u (made_keys os))) (sym has) (inl refl))
is_made uid c (o ∷ os) has (inr more) = by o (is_made uid c os has more)
  where
    by : (x : Object) → IsIn (volume_key (data_name uid)) (made_keys os) → IsIn (volume_key (data_name uid)) (made_keys (x ∷ os))
    by (Claim d) i = in_for (volume_key (data_name uid)) d.meta.uid (made_keys os) i
    by (Class x) i = i
    by (Node x) i = i
    by (Volume x) i = i
    by (Pod x) i = i

-- each is the key of a volume
pub made_kind : (key : Key) (rows : List Object) → IsIn key (made_keys rows) → kind_index key.kind ≡ 2
made_kind key [] i = absurd i
made_kind key (Claim c ∷ os) i = by c.meta.uid i (made_kind key os)
  where
    by : (uid : Option Uid) → IsIn key (keys_for uid (made_keys os)) → (IsIn key (made_keys os) → kind_index key.kind ≡ 2) → kind_index key.kind ≡ 2
    by None j rest = rest j
    by (Some uid) (inl is) rest = ap (λ (k : Key). kind_index k.kind) (sym is)
    by (Some uid) (inr more) rest = rest more
made_kind key (Class x ∷ os) i = made_kind key os i
made_kind key (Node x ∷ os) i = made_kind key os i
made_kind key (Volume x ∷ os) i = made_kind key os i
made_kind key (Pod x ∷ os) i = made_kind key os i

-- ---- what stands stood there, or is such a volume

pub data IsGiven (rows : List Object) (key : Key) (o : Object) : Type 0 where
  IsOld : (old : Object) → row_at key rows ≡ Some old → names_in o ≤ names_in old → (meta_of o).uid ≡ (meta_of old).uid → IsGiven rows key o
  IsMade : IsIn key (made_keys rows) → names_in o ≡ 0 → IsGiven rows key o

abbrev pub AreGiven : List Object → List Object → Type 0
AreGiven first rows = (key : Key) (o : Object) → row_at key rows ≡ Some o → IsGiven first key o

pub given_first : (rows : List Object) → AreGiven rows rows
given_first rows key o there = IsOld o there (omega arith) refl

-- an object is written over another, or is made for a claim that stands
pub data Comes (rows : List Object) (o : Object) : Type 0 where
  IsOver : (old : Object) → row_at (key_of o) rows ≡ Some old → names_in o ≤ names_in old → (meta_of o).uid ≡ (meta_of old).uid → Comes rows o
  IsFor : (c : ClaimData) (uid : Uid) → row_at (claim_key c.meta.namespace c.meta.name) rows ≡ Some (Claim c) → c.meta.uid ≡ Some uid
      → key_of o ≡ volume_key (data_name uid) → names_in o ≡ 0 → Comes rows o

-- what stands at the key of a claim is one
claim_at : (key : Key) (o : Object) (rows : List Object) → row_at key rows ≡ Some o → kind_index key.kind ≡ 3 → (c : ClaimData) × (o ≡ Claim c)
claim_at key o rows there kind = by o (ap (λ (k : Key). kind_index k.kind) (row_at_key key o rows there) ∙ kind)
  where
    by : (x : Object) → kind_index (kind_of x) ≡ 3 → (c : ClaimData) × (x ≡ Claim c)
    by (Claim c) e = (c, refl)
    by (Class x) e = absurd (omega (arith, e))
    by (Node x) e = absurd (omega (arith, e))
    by (Volume x) e = absurd (omega (arith, e))
    by (Pod x) e = absurd (omega (arith, e))

module _ (first rows : List Object) (given : AreGiven first rows) where
  new_given : (o : Object) → Comes rows o → IsGiven first (key_of o) o
  new_given o (IsOver old there names uid) = by (given (key_of o) old there)
    where
      by : IsGiven first (key_of o) old → IsGiven first (key_of o) o
      by (IsOld was before few same) = IsOld was before (omega (arith, names, few)) (uid ∙ same)
      by (IsMade i none) = IsMade i (omega (arith, names, none))
  new_given o (IsFor c uid there has keyed none) = by (given (claim_key c.meta.namespace c.meta.name) (Claim c) there)
    where
      by : IsGiven first (claim_key c.meta.namespace c.meta.name) (Claim c) → IsGiven first (key_of o) o
      by (IsOld was before few same) =
          let d = claim_at (claim_key c.meta.namespace c.meta.name) was first before refl in
          let uid_is : d.0.meta.uid ≡ Some uid = sym (ap (λ x. (meta_of x).uid) d.1) ∙ (sym same ∙ has) in
          let i = is_made uid d.0 first uid_is (subst (λ x. IsIn x first) d.1 (found_in (claim_key c.meta.namespace c.meta.name) first was before)) in
          IsMade (subst (λ k. IsIn k (made_keys first)) (sym keyed) i) none
      by (IsMade i none_) = let k = made_kind (claim_key c.meta.namespace c.meta.name) first i in absurd (omega (arith, k))

  pub moved_given : (order : AreRows rows) (after : List Object) (o : Object) → Comes rows o → IsMoved rows after o → AreGiven first after
  moved_given order after o comes (inl put) key x there = elim (key_tells (key_of o) key) [
    | inl same ↦
        let is : o ≡ x = one o x (sym (row_at-put_row o rows) ∙ (ap (λ k. row_at k (put_row o rows)) same ∙ (ap (row_at key) (sym put) ∙ there))) in
        subst (λ y. IsGiven first key y) is (subst (λ k. IsGiven first k o) same (new_given o comes))
    | inr other ↦ given key x (sym (row_at-put_row_other key o rows other) ∙ (ap (row_at key) (sym put) ∙ there))
  ]
  moved_given order after o comes (inr gone) key x there = elim (key_tells (key_of o) key) [
    | inl same ↦ none_some (sym (row_at-without_row (key_of o) rows order) ∙ (ap (λ k. row_at k (without_row (key_of o) rows)) same ∙ (ap (row_at key) (sym gone) ∙ there)))
    | inr other ↦ given key x (sym (row_at-without_row_other (key_of o) key rows other) ∙ (ap (row_at key) (sym gone) ∙ there))
  ]

-- ---- they are counted by their keys

-- the keys without one of them
record IsWithout (keys : List Key) (key : Key) : Type 0 where
  rest : List Key
  fewer : length rest + 1 ≤ length keys
  keeps : (other : Key) → IsIn other keys → other ≢ key → IsIn other rest

without : (keys : List Key) (key : Key) → IsIn key keys → IsWithout keys key
without [] key i = absurd i
without (k ∷ ks) key (inl is) = record { rest = ks; fewer = omega arith; keeps = keep }
  where
    keep : (other : Key) → IsIn other (k ∷ ks) → other ≢ key → IsIn other ks
    keep other (inl here) differs = absurd (differs (sym here ∙ is))
    keep other (inr more) differs = more
without (k ∷ ks) key (inr i) = let w = without ks key i in let few = w.fewer in record { rest = k ∷ w.rest; fewer = omega (arith, few); keeps = keep w }
  where
    keep : (w : IsWithout ks key) (other : Key) → IsIn other (k ∷ ks) → other ≢ key → IsIn other (k ∷ w.rest)
    keep w other (inl here) differs = inl here
    keep w other (inr more) differs = inr (w.keeps other more differs)

-- rows whose objects stood before, or stand at spare keys, where each counts no more than this
module _ (f : Object → ℕ) (n : ℕ) where
  pub data IsCovered (old : List Object) (spare : List Key) (o : Object) : Type 0 where
    ByOld : (was : Object) → row_at (key_of o) old ≡ Some was → f o ≤ f was → IsCovered old spare o
    BySpare : IsIn (key_of o) spare → f o ≤ n → IsCovered old spare o
    ByNothing : f o ≡ 0 → IsCovered old spare o

  pub covered : (rows old : List Object) (spare : List Key) → AreRows rows → AreRows old → ((o : Object) → IsIn o rows → IsCovered old spare o) → total f rows ≤ total f old + length spare * n
  covered [] old spare order before each = omega arith
  covered (x ∷ xs) old spare order before each = by (each x (inl refl)) (λ o s b c. covered xs o s order.1 b c)
    where
      differs : (o : Object) → IsIn o xs → key_of o ≢ key_of x
      differs o i = others_behind x xs order.0 o i

      by : IsCovered old spare x → ((o : List Object) (s : List Key) → AreRows o → ((y : Object) → IsIn y xs → IsCovered o s y) → total f xs ≤ total
          f o + length s * n) → f x + total f xs ≤ total f old + length spare * n
      by (ByOld was there few) rest =
          let gone = gone_falls f f none_paid (key_of x) was old before there (λ o i other. omega arith) in
          let none = none_pays old in
          let more = rest (without_row (key_of x) old) spare (rising_without key_cmp_total key_of (key_of x) old before) (λ o i. still o (differs o i) (each o (inr i))) in
          omega (arith, gone, none, more, few)
        where
          still : (o : Object) → key_of o ≢ key_of x → IsCovered old spare o → IsCovered (without_row (key_of x) old) spare o
          still o other (ByOld y at less) = ByOld y (row_at-without_row_other (key_of x) (key_of o) old (λ s. other (sym s)) ∙ at) less
          still o other (BySpare i few_) = BySpare i few_
          still o other (ByNothing none) = ByNothing none
      by (BySpare i few) rest =
          let w = without spare (key_of x) i in
          let fewer = w.fewer in
          let more = rest old w.rest before (λ o j. still w o (differs o j) (each o (inr j))) in
          let times = mul-le (length w.rest + 1) n (length spare) n fewer (omega arith) in
          let one_time = add-mul (length w.rest) 1 n in
          omega (arith, few, more, times, one_time)
        where
          still : (w : IsWithout spare (key_of x)) (o : Object) → key_of o ≢ key_of x → IsCovered old spare o → IsCovered old w.rest o
          still w o other (ByOld y at less) = ByOld y at less
          still w o other (BySpare j few_) = BySpare (w.keeps (key_of o) j other) few_
          still w o other (ByNothing none) = ByNothing none
      by (ByNothing none) rest = let more = rest old spare before (λ o i. each o (inr i)) in omega (arith, none, more)

-- a pod in place of another names no more claims
pub of_pod : (p : PodData) (was : Object) → kind_index (kind_of was) ≡ kind_index kinds.Pod → length p.claims ≤ names_in was → 1 + length p.claims ≤ pod_size was
of_pod p (Pod q) kind few = omega (arith, few)
of_pod p (Class x) kind few = absurd (omega (arith, kind))
of_pod p (Node x) kind few = absurd (omega (arith, kind))
of_pod p (Volume x) kind few = absurd (omega (arith, kind))
of_pod p (Claim x) kind few = absurd (omega (arith, kind))

module _ (first rows : List Object) (before : AreRows first) (order : AreRows rows) (given : AreGiven first rows) where
  pub given_few : total (λ o. 1 + names_in o) rows ≤ total (λ o. 1 + names_in o) first + claims_in first
  given_few =
      let few = covered (λ o. 1 + names_in o) 1 rows first (made_keys first) order before (λ o i. by o (given (key_of o) o (stands rows order o i))) in
      let made = made_few first in
      omega (arith, few, made)
    where
      by : (o : Object) → IsGiven first (key_of o) o → IsCovered (λ x. 1 + names_in x) 1 first (made_keys first) o
      by o (IsOld was there few uid) = ByOld was there (omega (arith, few))
      by o (IsMade i none) = BySpare i (omega (arith, none))

  -- and no pod is new
  pub pods_few : total pod_size rows ≤ total pod_size first
  pods_few = let few = covered pod_size 0 rows first [] order before (λ o i. by o (given (key_of o) o (stands rows order o i))) in omega (arith, few)
    where
      by : (o : Object) → IsGiven first (key_of o) o → IsCovered pod_size 0 first [] o
      by (Pod p) (IsOld was there few uid) = ByOld was there (of_pod p was (ap (λ (k : Key). kind_index k.kind) (row_at_key (key_of (Pod p)) was first there)) few)
      by (Pod p) (IsMade i none) = let k = made_kind (key_of (Pod p)) first i in absurd (omega (arith, k))
      by (Class x) g = ByNothing refl
      by (Node x) g = ByNothing refl
      by (Volume x) g = ByNothing refl
      by (Claim x) g = ByNothing refl
