-- What a scheduler remembers of nodes, object by object: what stands selected, and which node was refused last for a pod.
use Rattle.std.proofs.Common.{ℕ, ◌≡◌, ◌∙◌, ◌⊎◌, Bool, true, false, true≢false, not, List, [], ◌∷◌, Option, Some, None, inl, inr, refl, sym, ap, subst, if◌then◌else◌}
use Rattle.std.proofs.lemmas.Bool.Decides.{Decides-eqb}
use Rattle.kube_parts.specs.declared.uid.Uid.{Uid}
use Rattle.kube_objects.specs.declared.objects.Claim.{Claim as ClaimData}
use Rattle.kube_objects.specs.declared.objects.Object.{Object}
use Rattle.kube_objects.specs.declared.objects.Object.TheVariants.{Class, Node, Volume, Claim, Pod}
use Rattle.kube_objects.specs.declared.objects.Pod.{Pod as PodData}
use Rattle.call_types.specs.declared.request.Request.{Request}
use Rattle.call_types.specs.declared.request.Request.TheVariants.{Update}
use Rattle.call_types.specs.declared.reply.Reply.{Reply}
use Rattle.call_types.specs.declared.reply.Reply.TheVariants.{Done}
use Rattle.binder_model.specs.Same.{same_uid}
use Rattle.model_laws.proofs.Lists.{IsIn, none_some, one}
use Rattle.pod_scheduler.specs.declared.tries.Tried.{Tried}
use Rattle.pod_scheduler.specs.declared.tries.Tries.{Tries}
use Rattle.pod_scheduler.specs.Decisions.{is_tried_for, last_refused}
use Rattle.pod_scheduler.specs.Tries.{is_try_of, is_refusal, node_selected_for, refuse_if, refused_in, see, see_all, see_claim, select, select_if, tried_of, without_tried}
use Rattle.pod_scheduler.specs.TryLaw.{Selecting}
use Rattle.pod_scheduler.proofs.Tried.{select_refused}

-- ---- what is found

pub uid_is : (a b : Uid) → same_uid a b ≡ true → a ≡ b
uid_is a b e = ap (λ n. record { 0 = n }) ((Decides-eqb a.0 b.0).0 e)

pub uid_same : (a : Uid) → same_uid a a ≡ true
uid_same a = (Decides-eqb a.0 a.0).1 refl

pub found_for : (uid : Uid) (ts : List Tried) (t : Tried) → tried_of uid ts ≡ Some t → t.claim ≡ uid
found_for uid [] t e = none_some e
found_for uid (x ∷ ts) t e = by (is_try_of uid x) refl e (found_for uid ts t)
  where
    by : (b : Bool) → is_try_of uid x ≡ b → (if b then Some x else tried_of uid ts) ≡ Some t → (tried_of uid ts ≡ Some t → t.claim ≡ uid) → t.claim ≡ uid
    by true is e more = subst (λ (y : Tried). y.claim ≡ uid) (one x t e) (uid_is x.claim uid is)
    by false is e more = more e

none_without : (u : Uid) (ts : List Tried) → tried_of u (without_tried u ts) ≡ None
none_without u [] = refl
none_without u (x ∷ ts) = by (is_try_of u x) refl (none_without u ts)
  where
    by : (b : Bool) → is_try_of u x ≡ b → tried_of u (without_tried u ts) ≡ None → tried_of u (if not b then x ∷ without_tried u ts else without_tried u ts) ≡ None
    by true is more = more
    by false is more = rw is more

-- of another claim it stays
other_without : (u uid : Uid) (ts : List Tried) → same_uid u uid ≡ false → tried_of uid (without_tried u ts) ≡ tried_of uid ts
other_without u uid [] other = refl
other_without u uid (x ∷ ts) other = by (is_try_of u x) refl (other_without u uid ts other)
  where
    not_it : is_try_of u x ≡ true → is_try_of uid x ≡ false
    not_it is = ap (λ c. same_uid c uid) (uid_is x.claim u is) ∙ other

    by : (b : Bool) → is_try_of u x ≡ b → tried_of uid (without_tried u ts) ≡ tried_of uid ts → tried_of uid (if not b then x ∷ without_tried u ts else without_tried u ts) ≡ tried_of uid (x ∷ ts)
    by true is more = let n = not_it is in rw n more
    by false is more = kept (is_try_of uid x)
      where
        kept : (b : Bool) → (if b then Some x else tried_of uid (without_tried u ts)) ≡ (if b then Some x else tried_of uid ts)
        kept true = refl
        kept false = more

pub tried_without : (u uid : Uid) (ts : List Tried) (t : Tried) → tried_of uid (without_tried u ts) ≡ Some t → tried_of uid ts ≡ Some t
tried_without u uid ts t e = by (same_uid u uid) refl
  where
    by : (b : Bool) → same_uid u uid ≡ b → tried_of uid ts ≡ Some t
    by true is = none_some (sym (none_without u ts) ∙ subst (λ v. tried_of v (without_tried u ts) ≡ Some t) (sym (uid_is u uid is)) e)
    by false other = sym (other_without u uid ts other) ∙ e

-- ---- an object is seen

see_keeps : (o : Object) (m : Tries) (uid : Uid) (t : Tried) → tried_of uid (see o m).selected ≡ Some t → tried_of uid m.selected ≡ Some t
see_keeps (Claim c) m uid t e = by c.meta.uid e
  where
    refused : (x : Option Tried) → tried_of uid (refuse_if x m).selected ≡ Some t → tried_of uid m.selected ≡ Some t
    refused None e = e
    refused (Some x) e = tried_without x.claim uid m.selected t e

    by : (u : Option Uid) → tried_of uid (see_claim u c m).selected ≡ Some t → tried_of uid m.selected ≡ Some t
    by None e = e
    by (Some u) e = refused (refused_in c (tried_of u m.selected)) e
see_keeps (Class x) m uid t e = e
see_keeps (Node x) m uid t e = e
see_keeps (Volume x) m uid t e = e
see_keeps (Pod x) m uid t e = e

-- what stands selected then was not refused by it
see_spares : (c : ClaimData) (m : Tries) (uid : Uid) (t : Tried) → c.meta.uid ≡ Some uid → tried_of uid (see (Claim c) m).selected ≡ Some t → is_refusal t c ≡ false
see_spares c m uid t known e = by (is_refusal t c) refl
  where
    before : tried_of uid m.selected ≡ Some t
    before = see_keeps (Claim c) m uid t e

    seen : tried_of uid (see_claim (Some uid) c m).selected ≡ Some t
    seen = subst (λ u. tried_of uid (see_claim u c m).selected ≡ Some t) known e

    by : (b : Bool) → is_refusal t c ≡ b → is_refusal t c ≡ false
    by true is =
        let r : refused_in c (tried_of uid m.selected) ≡ Some t = ap (refused_in c) before ∙ ap (λ b. if b then Some t else None) is in
        let gone : tried_of uid (without_tried t.claim m.selected) ≡ Some t = subst (λ x. tried_of uid (refuse_if x m).selected ≡ Some t) r seen in
        none_some (sym (none_without uid m.selected) ∙ subst (λ u. tried_of uid (without_tried u m.selected) ≡ Some t) (found_for uid m.selected t before) gone)
    by false is = is

-- it stays selected where it is not refused
see_stays : (o : Object) (m : Tries) (uid : Uid) (t : Tried) → tried_of uid m.selected ≡ Some t
    → ((c : ClaimData) → o ≡ Claim c → c.meta.uid ≡ Some uid → is_refusal t c ≡ false) → tried_of uid (see o m).selected ≡ Some t
see_stays (Claim c) m uid t at spares = by c.meta.uid refl
  where
    refused : (u : Uid) → same_uid u uid ≡ false → (x : Option Tried) → ((y : Tried) → x ≡ Some y → y.claim ≡ u) → tried_of uid (refuse_if x m).selected ≡ Some t
    refused u other None claims = at
    refused u other (Some y) claims = other_without y.claim uid m.selected (ap (λ v. same_uid v uid) (claims y refl) ∙ other) ∙ at

    claims_of_it : (u : Uid) (x : Option Tried) → tried_of u m.selected ≡ x → (y : Tried) → refused_in c x ≡ Some y → y.claim ≡ u
    claims_of_it u None is y e = none_some e
    claims_of_it u (Some x) is y e = by_test (is_refusal x c) e
      where
        by_test : (b : Bool) → (if b then Some x else None) ≡ Some y → y.claim ≡ u
        by_test true e = found_for u m.selected y (is ∙ e)
        by_test false e = none_some e

    test : (u : Uid) → c.meta.uid ≡ Some u → (b : Bool) → same_uid u uid ≡ b → tried_of uid (see_claim (Some u) c m).selected ≡ Some t
    test u known true same =
        let is = uid_is u uid same in
        let none : refused_in c (tried_of u m.selected) ≡ None = ap (λ v. refused_in c (tried_of v m.selected)) is
        ∙ (ap (refused_in c) at ∙ ap (λ b. if b then Some t else None) (spares c refl (known ∙ ap Some is))) in
        ap (λ x. tried_of uid (refuse_if x m).selected) none ∙ at
    test u known false other = refused u other (refused_in c (tried_of u m.selected)) (claims_of_it u (tried_of u m.selected) refl)

    by : (u : Option Uid) → c.meta.uid ≡ u → tried_of uid (see_claim u c m).selected ≡ Some t
    by None known = at
    by (Some u) known = test u known (same_uid u uid) refl
see_stays (Class x) m uid t at spares = at
see_stays (Node x) m uid t at spares = at
see_stays (Volume x) m uid t at spares = at
see_stays (Pod x) m uid t at spares = at

pub all_stay : (os : List Object) (m : Tries) (uid : Uid) (t : Tried) → tried_of uid m.selected ≡ Some t
    → ((c : ClaimData) → IsIn (Claim c) os → c.meta.uid ≡ Some uid → is_refusal t c ≡ false) → tried_of uid (see_all os m).selected ≡ Some t
all_stay [] m uid t at spares = at
all_stay (o ∷ os) m uid t at spares = all_stay os (see o m) uid t (see_stays o m uid t at (λ c is. spares c (inl is))) (λ c there. spares c (inr there))

pub all_keeps : (os : List Object) (m : Tries) (uid : Uid) (t : Tried) → tried_of uid (see_all os m).selected ≡ Some t → tried_of uid m.selected ≡ Some t
all_keeps [] m uid t e = e
all_keeps (o ∷ os) m uid t e = see_keeps o m uid t (all_keeps os (see o m) uid t e)

pub all_spare : (os : List Object) (m : Tries) (uid : Uid) (t : Tried) (c : ClaimData) → tried_of uid (see_all os m).selected ≡ Some t
    → IsIn (Claim c) os → c.meta.uid ≡ Some uid → is_refusal t c ≡ false
all_spare [] m uid t c e there known = absurd there
all_spare (o ∷ os) m uid t c e (inl is) known = see_spares c m uid t known (subst (λ x. tried_of uid (see x m).selected ≡ Some t) is (all_keeps os (see o m) uid t e))
all_spare (o ∷ os) m uid t c e (inr more) known = all_spare os (see o m) uid t c e more known

-- ---- a write selects

pub select_finds : (request : Request) (reply : Reply) (m : Tries) (uid : Uid) (t : Tried)
    → tried_of uid (select_if request reply m).selected ≡ Some t → (tried_of uid m.selected ≡ Some t) ⊎ (Selecting t request reply × (t.claim ≡ uid))
select_finds (Update (Claim asked) given) (Done (Claim c)) m uid t e = by c.meta.uid (node_selected_for c) refl refl e
  where
    by : (u : Option Uid) (n : Option (List ℕ)) → c.meta.uid ≡ u → node_selected_for c ≡ n → tried_of uid (select u n c m).selected ≡ Some t
        → (tried_of uid m.selected ≡ Some t) ⊎ (Selecting t (Update (Claim asked) given) (Done (Claim c)) × (t.claim ≡ uid))
    by (Some u) (Some node) known on e = test (same_uid u uid) refl e
      where
        new : Tried
        new = record { claim = u; node = node; version = c.meta.version }

        test : (b : Bool) → same_uid u uid ≡ b → (if b then Some new else tried_of uid (without_tried u m.selected)) ≡ Some t
            → (tried_of uid m.selected ≡ Some t) ⊎ (Selecting t (Update (Claim asked) given) (Done (Claim c)) × (t.claim ≡ uid))
        test true is e =
            let same = one new t e in
            inr (
              subst (λ (y : Tried). Selecting y (Update (Claim asked) given) (Done (Claim c))) same
                  (record { claim = known; node = on; version = refl }),
              sym (ap (λ (y : Tried). y.claim) same) ∙ uid_is u uid is,
            )
        test false other e = inl (tried_without u uid m.selected t e)
    by (Some u) None known on e = inl e
    by None n known on e = inl e
select_finds _ _ m uid t e = inl e

-- of each claim something stands selected still
abbrev pub Stands : Uid → Tries → Type 0
Stands uid m = (t : Tried) × (tried_of uid m.selected ≡ Some t)

pub select_stands : (request : Request) (reply : Reply) (m : Tries) (uid : Uid) → Stands uid m → Stands uid (select_if request reply m)
select_stands (Update (Claim asked) given) (Done (Claim c)) m uid s = by c.meta.uid (node_selected_for c)
  where
    by : (u : Option Uid) (n : Option (List ℕ)) → Stands uid (select u n c m)
    by (Some u) (Some node) = test (same_uid u uid) refl
      where
        new : Tried
        new = record { claim = u; node = node; version = c.meta.version }

        test : (b : Bool) → same_uid u uid ≡ b → (t : Tried) × ((if same_uid u uid then Some new else tried_of uid (without_tried u m.selected)) ≡ Some t)
        test true is = (new, ap (λ b. if b then Some new else tried_of uid (without_tried u m.selected)) is)
        test false other = (s.0, ap (λ b. if b then Some new else tried_of uid (without_tried u m.selected)) other ∙ (other_without u uid m.selected other ∙ s.1))
    by (Some u) None = s
    by None n = s
select_stands _ _ m uid s = s

-- ---- the node that was refused last for a pod

module _ (rows : List Object) (p : PodData) where
  last_without : (u : Uid) (ts : List Tried) → is_tried_for rows p u ≡ false → last_refused rows p (without_tried u ts) ≡ last_refused rows p ts
  last_without u [] other = refl
  last_without u (x ∷ ts) other = by (is_try_of u x) refl (last_without u ts other)
    where
      by : (b : Bool) → is_try_of u x ≡ b → last_refused rows p (without_tried u ts) ≡ last_refused rows p ts
          → last_refused rows p (if not b then x ∷ without_tried u ts else without_tried u ts) ≡ last_refused rows p (x ∷ ts)
      by true is more = let n : is_tried_for rows p x.claim ≡ false = ap (is_tried_for rows p) (uid_is x.claim u is) ∙ other in more
          ∙ sym (ap (λ b. if b then Some x.node else last_refused rows p ts) n)
      by false is more = kept (is_tried_for rows p x.claim)
        where
          kept : (b : Bool) → (if b then Some x.node else last_refused rows p (without_tried u ts)) ≡ (if b then Some x.node else last_refused rows p ts)
          kept true = refl
          kept false = more

  -- what stands selected for the claims of the pod is this node, but for those that are set aside; and it was refused last, unless it stands selected for the first claim
  module _ (node : List ℕ) (aside : Uid → Type 0) (first : Uid) (first_ours : is_tried_for rows p first ≡ true) where
    pub record Holds (m : Tries) : Type 0 where
      pub marks : (uid : Uid) (t : Tried) → is_tried_for rows p uid ≡ true → tried_of uid m.selected ≡ Some t → (t.node ≡ node) ⊎ aside uid
      pub waits : Stands first m ⊎ (last_refused rows p m.refused ≡ Some node)

    -- the object refuses no node of those that are set aside
    abbrev pub Spares : Object → Tries → Type 0
    Spares o m = (c : ClaimData) → o ≡ Claim c → (uid : Uid) → c.meta.uid ≡ Some uid → aside uid → (t : Tried) → tried_of uid m.selected ≡ Some t → is_refusal t c ≡ false

    refused_holds : (c : ClaimData) (m : Tries) (u : Uid) (t : Tried) → c.meta.uid ≡ Some u → Holds m → Spares (Claim c) m
        → tried_of u m.selected ≡ Some t → is_refusal t c ≡ true → Holds (refuse_if (Some t) m)
    refused_holds c m u t known h spares at refusal = record { marks = λ uid x ours e. h.marks uid x ours (tried_without t.claim uid m.selected x e); waits = by (is_tried_for rows p t.claim) refl }
      where
        is : t.claim ≡ u
        is = found_for u m.selected t at

        on : is_tried_for rows p t.claim ≡ true → t.node ≡ node
        on ours = elim (h.marks u t (subst (λ v. is_tried_for rows p v ≡ true) is ours) at) [
          | inl same ↦ same
          | inr set ↦ absurd (true≢false (sym refusal ∙ spares c refl u known set t at))
        ]

        by : (b : Bool) → is_tried_for rows p t.claim ≡ b → Stands first (refuse_if (Some t) m) ⊎ (last_refused rows p (refuse_if (Some t) m).refused ≡ Some node)
        by true ours = inr (ap (λ b. if b then Some t.node else last_refused rows p (without_tried t.claim m.refused)) ours ∙ ap Some (on ours))
        by false other = elim h.waits [
          | inl s ↦ inl (s.0, other_without t.claim first m.selected (not_first (same_uid t.claim first) refl) ∙ s.1)
          | inr last ↦ inr (ap (λ b. if b then Some t.node else last_refused rows p (without_tried t.claim m.refused)) other ∙ (last_without t.claim m.refused other ∙ last))
        ]
          where
            not_first : (b : Bool) → same_uid t.claim first ≡ b → same_uid t.claim first ≡ false
            not_first true same = absurd (true≢false (sym first_ours ∙ (ap (is_tried_for rows p) (sym (uid_is t.claim first same)) ∙ other)))
            not_first false differs = differs

    see_holds : (o : Object) (m : Tries) → Holds m → Spares o m → Holds (see o m)
    see_holds (Claim c) m h spares = by c.meta.uid refl
      where
        at_tried : (u : Uid) → c.meta.uid ≡ Some u → (x : Option Tried) → tried_of u m.selected ≡ x → Holds (refuse_if (refused_in c x) m)
        at_tried u known None at = h
        at_tried u known (Some t) at = test (is_refusal t c) refl
          where
            test : (b : Bool) → is_refusal t c ≡ b → Holds (refuse_if (if is_refusal t c then Some t else None) m)
            test true is = subst (λ b. Holds (refuse_if (if b then Some t else None) m)) (sym is) (refused_holds c m u t known h spares at is)
            test false is = subst (λ b. Holds (refuse_if (if b then Some t else None) m)) (sym is) h

        by : (u : Option Uid) → c.meta.uid ≡ u → Holds (see_claim u c m)
        by None known = h
        by (Some u) known = at_tried u known (tried_of u m.selected) refl
    see_holds (Class x) m h spares = h
    see_holds (Node x) m h spares = h
    see_holds (Volume x) m h spares = h
    see_holds (Pod x) m h spares = h

    all_hold : (os : List Object) (m : Tries) → Holds m → ((o : Object) → IsIn o os → Spares o m) → Holds (see_all os m)
    all_hold [] m h spares = h
    all_hold (o ∷ os) m h spares =
        all_hold os (see o m) (see_holds o m h (spares o (inl refl)))
        (λ x i c is uid known set t at. spares x (inr i) c is uid known set t (see_keeps o m uid t at))

    pub tells_hold : (request : Request) (reply : Reply) (os : List Object) (m : Tries) → Holds m → ((o : Object) → IsIn o os → Spares o m)
        → ((t : Tried) → Selecting t request reply → is_tried_for rows p t.claim ≡ true → ⊥) → Holds (select_if request reply (see_all os m))
    tells_hold request reply os m h spares none =
        let seen = all_hold os m h spares in
        record {
          marks = λ uid t ours e.
              elim (select_finds request reply (see_all os m) uid t e) [
                | inl before ↦ seen.marks uid t ours before
                | inr new ↦ absurd (none t new.0 (ap (is_tried_for rows p) new.1 ∙ ours))
              ];
          waits = elim seen.waits [
            | inl s ↦ inl (select_stands request reply (see_all os m) first s)
            | inr last ↦ inr (ap (last_refused rows p) (select_refused request reply (see_all os m)) ∙ last)
          ];
        }
