-- What stands selected was selected by the seat, and what counts as refused was then told without the node.
use Rattle.std.proofs.Common.{ℕ, ◌≡◌, ◌∙◌, ◌⊎◌, Bool, true, false, not, List, [], ◌∷◌, Option, Some, None, inl, inr, refl, sym, ap, subst, if◌then◌else◌}
use Rattle.std.proofs.lemmas.Bool.Decides.{Decides-eqb}
use Rattle.kube_parts.specs.declared.uid.Uid.{Uid}
use Rattle.kube_objects.specs.declared.objects.Claim.{Claim as ClaimData}
use Rattle.kube_objects.specs.declared.objects.Object.{Object}
use Rattle.kube_objects.specs.declared.objects.Object.TheVariants.{Class, Node, Volume, Claim, Pod}
use Rattle.call_types.specs.declared.request.Request.{Request}
use Rattle.call_types.specs.declared.request.Request.TheVariants.{Update}
use Rattle.call_types.specs.declared.reply.Reply.{Reply}
use Rattle.call_types.specs.declared.reply.Reply.TheVariants.{Done}
use Rattle.binder_model.specs.Same.{same_uid}
use Rattle.binder_model.specs.Told.{After, IsClaimWith, SomeOf, objects_in}
use Rattle.model_laws.proofs.Lists.{IsIn, none_some, one, some_filter}
use Rattle.pod_scheduler.specs.declared.tries.Tried.{Tried}
use Rattle.pod_scheduler.specs.declared.tries.Tries.{Tries}
use Rattle.pod_scheduler.specs.Tries.{is_try_of, is_refusal, node_selected_for, refuse_if, refused_in, see, see_all, see_claim, select, select_if, tried_of, tries_after, tries_of}
use Rattle.pod_scheduler.specs.TryLaw.{HasNode, IsWithout, RefusedWereRefused, SelectedWereSelected, Selecting, Selects, TellsRefused}

-- what is found

record IsFound (uid : Uid) (ts : List Tried) (t : Tried) : Type 0 where
  among : IsIn t ts
  claim : t.claim ≡ uid

same_is : (a b : Uid) → same_uid a b ≡ true → a ≡ b
same_is a b e = ap (λ n. record { 0 = n }) ((Decides-eqb a.0 b.0).0 e)

found : (uid : Uid) (ts : List Tried) (t : Tried) → tried_of uid ts ≡ Some t → IsFound uid ts t
found uid [] t e = none_some e
found uid (x ∷ ts) t e = by (is_try_of uid x) refl e (found uid ts t)
  where
    by : (b : Bool) → is_try_of uid x ≡ b → (if b then Some x else tried_of uid ts) ≡ Some t → (tried_of uid ts ≡ Some t → IsFound uid ts t) → IsFound uid (x ∷ ts) t
    by true is e more = let same = one x t e in record { among = inl same; claim = subst (λ (y : Tried). y.claim ≡ uid) same (same_is x.claim uid is) }
    by false is e more = let f = more e in record { among = inr f.among; claim = f.claim }

record IsRefusedIn (c : ClaimData) (o : Option Tried) (t : Tried) : Type 0 where
  is : o ≡ Some t
  refusal : is_refusal t c ≡ true

refused_is : (c : ClaimData) (o : Option Tried) (t : Tried) → refused_in c o ≡ Some t → IsRefusedIn c o t
refused_is c None t e = none_some e
refused_is c (Some x) t e = by (is_refusal x c) refl e
  where
    by : (b : Bool) → is_refusal x c ≡ b → (if b then Some x else None) ≡ Some t → IsRefusedIn c (Some x) t
    by true is e = record { is = e; refusal = subst (λ y. is_refusal y c ≡ true) (one x t e) is }
    by false is e = none_some e

-- an object is seen

stays_selected : (o : Option Tried) (m : Tries) (t : Tried) → IsIn t (refuse_if o m).selected → IsIn t m.selected
stays_selected None m t h = h
stays_selected (Some x) m t h = some_filter (λ y. y ≡ t) (λ y. not (is_try_of x.claim y)) m.selected h

see_selected : (o : Object) (m : Tries) (t : Tried) → IsIn t (see o m).selected → IsIn t m.selected
see_selected (Claim c) m t h = by c.meta.uid h
  where
    by : (u : Option Uid) → IsIn t (see_claim u c m).selected → IsIn t m.selected
    by None h = h
    by (Some uid) h = stays_selected (refused_in c (tried_of uid m.selected)) m t h
see_selected (Class x) m t h = h
see_selected (Node x) m t h = h
see_selected (Volume x) m t h = h
see_selected (Pod x) m t h = h

-- what counts as refused then did before, or stood selected and is told refused
abbrev IsNewlyRefused : Object → Tries → Tried → Type 0
IsNewlyRefused o m t = IsIn t m.selected × IsClaimWith (IsWithout t) o

see_refused : (o : Object) (m : Tries) (t : Tried) → IsIn t (see o m).refused → IsIn t m.refused ⊎ IsNewlyRefused o m t
see_refused (Claim c) m t h = by c.meta.uid refl h
  where
    newly : (uid : Uid) → c.meta.uid ≡ Some uid → (o : Option Tried) → refused_in c (tried_of uid m.selected) ≡ o → IsIn t (refuse_if o m).refused → IsIn t m.refused ⊎ IsNewlyRefused (Claim c) m t
    newly uid known None is h = inl h
    newly uid known (Some x) is h = elim h [
      | inl same ↦
          let r = refused_is c (tried_of uid m.selected) x is in
          let f = found uid m.selected x r.is in
          inr (subst (λ y. IsNewlyRefused (Claim c) m y) same (f.among, record { claim = known ∙ ap Some (sym f.claim); refused = r.refusal }))
      | inr more ↦ inl (some_filter (λ y. y ≡ t) (λ y. not (is_try_of x.claim y)) m.refused more)
    ]

    by : (u : Option Uid) → c.meta.uid ≡ u → IsIn t (see_claim u c m).refused → IsIn t m.refused ⊎ IsNewlyRefused (Claim c) m t
    by None known h = inl h
    by (Some uid) known h = newly uid known (refused_in c (tried_of uid m.selected)) refl h
see_refused (Class x) m t h = inl h
see_refused (Node x) m t h = inl h
see_refused (Volume x) m t h = inl h
see_refused (Pod x) m t h = inl h

-- the objects of an answer are seen

all_selected : (os : List Object) (m : Tries) (t : Tried) → IsIn t (see_all os m).selected → IsIn t m.selected
all_selected [] m t h = h
all_selected (o ∷ os) m t h = see_selected o m t (all_selected os (see o m) t h)

abbrev AreNewlyRefused : List Object → Tries → Tried → Type 0
AreNewlyRefused os m t = IsIn t m.selected × SomeOf (IsClaimWith (IsWithout t)) os

all_refused : (os : List Object) (m : Tries) (t : Tried) → IsIn t (see_all os m).refused → IsIn t m.refused ⊎ AreNewlyRefused os m t
all_refused [] m t h = inl h
all_refused (o ∷ os) m t h = elim (all_refused os (see o m) t h) [
  | inl before ↦ elim (see_refused o m t before) [ inl old ↦ inl old | inr here ↦ inr (here.0, inl here.1) ]
  | inr more ↦ inr (see_selected o m t more.0, inr more.1)
]

-- a write selects

pub select_refused : (request : Request) (reply : Reply) (m : Tries) → (select_if request reply m).refused ≡ m.refused
select_refused (Update (Claim asked) given) (Done (Claim c)) m = by c.meta.uid (node_selected_for c)
  where
    by : (u : Option Uid) (n : Option (List ℕ)) → (select u n c m).refused ≡ m.refused
    by (Some uid) (Some node) = refl
    by (Some uid) None = refl
    by None n = refl
select_refused _ _ m = refl

selected_by_claim : (c : ClaimData) (m : Tries) (t : Tried) (u : Option Uid) (n : Option (List ℕ)) → c.meta.uid ≡ u → node_selected_for c ≡ n
    → IsIn t (select u n c m).selected → IsIn t m.selected ⊎ HasNode t c
selected_by_claim c m t (Some uid) (Some node) known on h = elim h [
  | inl same ↦ inr (subst (λ y. HasNode y c) same (record { claim = known; node = on; version = refl }))
  | inr more ↦ inl (some_filter (λ y. y ≡ t) (λ y. not (is_try_of uid y)) m.selected more)
]
selected_by_claim c m t (Some uid) None known on h = inl h
selected_by_claim c m t None n known on h = inl h

select_selected : (request : Request) (reply : Reply) (m : Tries) (t : Tried) → IsIn t (select_if request reply m).selected → IsIn t m.selected ⊎ Selecting t request reply
select_selected (Update (Claim asked) given) (Done (Claim c)) m t h = selected_by_claim c m t c.meta.uid (node_selected_for c) refl refl h
select_selected _ _ m t h = inl h

-- the entries

pub selected_were_selected : SelectedWereSelected
selected_were_selected [] t h = absurd h
selected_were_selected (e ∷ mine) t h = by e.told refl h (selected_were_selected mine t)
  where
    by : (b : Bool) → e.told ≡ b → IsIn t (if b then tries_after e.request e.reply (tries_of mine) else tries_of mine).selected
        → (IsIn t (tries_of mine).selected → SomeOf (Selects t) mine) → SomeOf (Selects t) (e ∷ mine)
    by false told h before = inr (before h)
    by true told h before = elim (select_selected e.request e.reply (see_all (objects_in e.reply) (tries_of mine)) t h) [
      | inl old ↦ inr (before (all_selected (objects_in e.reply) (tries_of mine) t old))
      | inr here ↦ inl (told, here)
    ]

pub refused_were_refused : RefusedWereRefused
refused_were_refused [] t h = absurd h
refused_were_refused (e ∷ mine) t h = by e.told refl h (refused_were_refused mine t)
  where
    by : (b : Bool) → e.told ≡ b → IsIn t (if b then tries_after e.request e.reply (tries_of mine) else tries_of mine).refused
        → (IsIn t (tries_of mine).refused → After (SomeOf (Selects t)) (TellsRefused t) mine) → After (SomeOf (Selects t)) (TellsRefused t) (e ∷ mine)
    by false told h before = inr (before h)
    by true told h before =
        let seen : IsIn t (see_all (objects_in e.reply) (tries_of mine)).refused = subst (IsIn t) (select_refused e.request e.reply (see_all (objects_in e.reply) (tries_of mine))) h in
        elim (all_refused (objects_in e.reply) (tries_of mine) t seen) [
          | inl old ↦ inr (before old)
          | inr here ↦ inl ((told, here.1), selected_were_selected mine t here.0)
        ]
