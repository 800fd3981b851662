-- Attaching in one pass over pods and claims: each call that is made is the next one, and what was passed asks for nothing more.
use Rattle.std.proofs.Common.{sym, refl, inl, inr, ap, subst, take_all, ◌∙◌, arith, zero, suc, ◌+◌}
use Rattle.std.specs.Prelude.{if◌then◌else◌, not, ◌&&◌, ℕ, ◌≡◌, ◌++◌, Bool, true, false, List, [], ◌∷◌, Option, Some, None, bytes_eq, is_none, length, slice_get, take, ◌≤◌}
use Rattle.kube_parts.specs.declared.parts.Kind.TheVariants as kinds
use Rattle.kube_objects.specs.declared.objects.Pod.{Pod as PodData}
use Rattle.kube_objects.specs.declared.objects.Object.{Object}
use Rattle.kube_objects.specs.declared.objects.Object.TheVariants.{Class, Node, Volume, Claim, Pod}
use Rattle.kube_objects.specs.Keys.{AreRows, rows_of}
use Rattle.kube_objects.specs.Bindings.{has_name, is_completed, is_deleting, is_scheduled}
use Rattle.binder_model.specs.Choice.{claim_named}
use Rattle.binder_model.specs.Told.{SomeOf, first_some}
use Rattle.binder_model.specs.World.{World}
use Rattle.model_laws.proofs.Lists.{IsIn, none_some, one, some_filter}
use Rattle.safety_law.proofs.Invariant.Tests.{text_same}
use Rattle.attach_law.specs.declared.attachment.Attachment.{Attachment}
use Rattle.attach_law.specs.declared.attachment.AttachAsk.{AttachAsk}
use Rattle.attach_law.specs.declared.attachment.AttachAsk.TheVariants.{Attach}
use Rattle.attach_law.specs.Asks.{Makes, after_ask}
use Rattle.attach_law.specs.Attached.{own_volume}
use Rattle.attach_law.specs.Calls.{after_attach, attach_fault}
use Rattle.attach_law.specs.Next.{ask_for, ask_for_claim, ask_for_names, ask_for_uid, ask_for_volume, first_asked, first_idle, is_idle, next}
use Rattle.attach_law.proofs.Asks.{made_more}
use Rattle.attach_law.proofs.ByUid.{UidsOnce}
use Rattle.attach_law.proofs.Listed.{any_here, both_none}
use Rattle.attach_control.specs.Steps.Trying.{Continues, IsTried, pod_that_asks}
use Rattle.attach_control.proofs.Attaching.{IsAskedFor, IsPut, asked_for, attach_puts, grows, is_there, new_or, used_by}
use Rattle.attach_control.proofs.Detaching.{busy_in, none_idle}
use Rattle.attach_control.proofs.OfKind.{asked_of_kind}
use Rattle.attach_control.proofs.Staying.{asked_stays, first_none, names_stay}

-- ---- lists

some_at : {X : Type 0} (P : X → Type 0) (xs : List X) (i : ℕ) (x : X) → slice_get xs i ≡ Some x → P x → SomeOf P xs
some_at P [] i x e h = none_some e
some_at P (y ∷ ys) zero x e h = inl (subst P (sym (one y x e)) h)
some_at P (y ∷ ys) (suc i) x e h = inr (some_at P ys i x e h)

next_place : (n : ℕ) → suc n ≡ n + 1
next_place n = omega arith

-- ---- the first that asks

module _ (rows : List Object) (att : List Attachment) where
  asked_at : (os : List Object) (i : ℕ) (o : Object) (ask : AttachAsk) → slice_get os i ≡ Some o → first_asked rows att (take i os) ≡ None → ask_for rows att o ≡ Some ask
      → first_asked rows att os ≡ Some ask
  asked_at [] i o ask at none is = none_some at
  asked_at (x ∷ xs) zero o ask at none is = ap (λ y. first_some y (first_asked rows att xs)) (ap (ask_for rows att) (one x o at) ∙ is)
  asked_at (x ∷ xs) (suc i) o ask at none is =
      let t = both_none (ask_for rows att x) (first_asked rows att (take i xs)) none in
      ap (λ y. first_some y (first_asked rows att xs)) t.0 ∙ asked_at xs i o ask at t.1 is

  pub asked_more : (os : List Object) (i : ℕ) (o : Object) → slice_get os i ≡ Some o → first_asked rows att (take i os) ≡ None → ask_for rows att o ≡ None
      → first_asked rows att (take (suc i) os) ≡ None
  asked_more [] i o at none is = none_some at
  asked_more (x ∷ xs) zero o at none is = first_none (ask_for rows att x) None (ap (ask_for rows att) (one x o at) ∙ is) refl
  asked_more (x ∷ xs) (suc i) o at none is =
      let t = both_none (ask_for rows att x) (first_asked rows att (take i xs)) none in
      first_none (ask_for rows att x) (first_asked rows att (take (suc i) xs)) t.0 (asked_more xs i o at t.1 is)

  module _ (p : PodData) where
    -- what is asked for the claim of this name
    abbrev ask_of : List ℕ → Option AttachAsk
    ask_of name = ask_for_claim rows att p.node (claim_named rows p.meta.namespace name)

    names_at : (ns : List (List ℕ)) (i : ℕ) (n : List ℕ) (ask : AttachAsk) → slice_get ns i ≡ Some n → ask_for_names rows att p (take i ns) ≡ None → ask_of n ≡ Some ask
        → ask_for_names rows att p ns ≡ Some ask
    names_at [] i n ask at none is = none_some at
    names_at (x ∷ xs) zero n ask at none is = ap (λ y. first_some y (ask_for_names rows att p xs)) (ap ask_of (one x n at) ∙ is)
    names_at (x ∷ xs) (suc i) n ask at none is =
        let t = both_none (ask_of x) (ask_for_names rows att p (take i xs)) none in
        ap (λ y. first_some y (ask_for_names rows att p xs)) t.0 ∙ names_at xs i n ask at t.1 is

    names_more : (ns : List (List ℕ)) (i : ℕ) (n : List ℕ) → slice_get ns i ≡ Some n → ask_for_names rows att p (take i ns) ≡ None → ask_of n ≡ None
        → ask_for_names rows att p (take (suc i) ns) ≡ None
    names_more [] i n at none is = none_some at
    names_more (x ∷ xs) zero n at none is = first_none (ask_of x) None (ap ask_of (one x n at) ∙ is) refl
    names_more (x ∷ xs) (suc i) n at none is =
        let t = both_none (ask_of x) (ask_for_names rows att p (take i xs)) none in
        first_none (ask_of x) (ask_for_names rows att p (take (suc i) xs)) t.0 (names_more xs i n at t.1 is)

    -- of a pod that is scheduled and stays
    pod_asks : is_scheduled p ≡ true → is_deleting p.meta ≡ false → ask_for rows att (Pod p) ≡ ask_for_names rows att p p.claims
    pod_asks scheduled stays =
        ap (λ b. if b && not (is_deleting p.meta) then ask_for_names rows att p p.claims else None) scheduled
        ∙ ap (λ b. if not b then ask_for_names rows att p p.claims else None) stays

-- ---- how far a turn has come

-- nothing is idle, the pods before this place ask for nothing, and neither do these claims of the pod
pub record IsPassed (w : World) (att : List Attachment) (place : ℕ) (p : PodData) (number : ℕ) : Type 0 where
  pub idle : first_idle w att ≡ None
  pub asked : first_asked w.store.rows att (take place (rows_of kinds.Pod w.store.rows)) ≡ None
  pub names : ask_for_names w.store.rows att p (take number p.claims) ≡ None

-- a claim more
pub record IsStep (w : World) (asks : List AttachAsk) (att : List Attachment) (more : List AttachAsk) (new : List Attachment) (place : ℕ) (p : PodData) (number : ℕ) : Type 0 where
  pub made : Continues w asks att more new
  pub passed : IsPassed w new place p (number + 1)

-- an object that is such a pod
record IsAsking (o : Object) (p : PodData) : Type 0 where
  is : o ≡ Pod p
  scheduled : is_scheduled p ≡ true
  stays : is_deleting p.meta ≡ false

asking : (o : Object) (p : PodData) → pod_that_asks o ≡ Some p → IsAsking o p
asking (Pod q) p e = by (is_scheduled q) (is_deleting q.meta) refl refl e
  where
    by : (s d : Bool) → is_scheduled q ≡ s → is_deleting q.meta ≡ d → (if s && not d then Some q else None) ≡ Some p → IsAsking (Pod q) p
    by true false s d e =
        let same = one q p e in
        record { is = ap (λ x. Pod x) same; scheduled = ap is_scheduled (sym same) ∙ s; stays = ap (λ (x : PodData). is_deleting x.meta) (sym same) ∙ d }
    by true true s d e = none_some e
    by false d s m e = none_some e
asking (Class o) p e = none_some e
asking (Node o) p e = none_some e
asking (Volume o) p e = none_some e
asking (Claim o) p e = none_some e

silent_object : (rows : List Object) (att : List Attachment) (o : Object) → pod_that_asks o ≡ None → ask_for rows att o ≡ None
silent_object rows att (Pod q) e = by (is_scheduled q && not (is_deleting q.meta)) e
  where
    by : (b : Bool) → (if b then Some q else None) ≡ None → (if b then ask_for_names rows att q q.claims else None) ≡ None
    by true e = none_some (sym e)
    by false e = refl
silent_object rows att (Class o) e = refl
silent_object rows att (Node o) e = refl
silent_object rows att (Volume o) e = refl
silent_object rows att (Claim o) e = refl

-- ---- pods

-- the object asks for nothing
pub object_passed : (w : World) (att : List Attachment) (place : ℕ) (o : Object) → slice_get (rows_of kinds.Pod w.store.rows) place ≡ Some o → pod_that_asks o ≡ None
    → first_asked w.store.rows att (take place (rows_of kinds.Pod w.store.rows)) ≡ None → first_asked w.store.rows att (take (place + 1) (rows_of kinds.Pod w.store.rows)) ≡ None
object_passed w att place o at none asked =
    subst (λ n. first_asked w.store.rows att (take n (rows_of kinds.Pod w.store.rows)) ≡ None) (next_place place)
    (asked_more w.store.rows att (rows_of kinds.Pod w.store.rows) place o at asked (silent_object w.store.rows att o none))

-- all claims of the pod were tried
pub pod_passed : (w : World) (att : List Attachment) (place : ℕ) (o : Object) (p : PodData) (number : ℕ) → slice_get (rows_of kinds.Pod w.store.rows) place ≡ Some o → pod_that_asks o ≡ Some p
    → IsPassed w att place p number → length p.claims ≤ number → first_asked w.store.rows att (take (place + 1) (rows_of kinds.Pod w.store.rows)) ≡ None
pod_passed w att place o p number at asks passed all =
    let a = asking o p asks in
    let names = ap (ask_for_names w.store.rows att p) (sym (take_all number p.claims all)) ∙ passed.names in
    let none = ap (ask_for w.store.rows att) a.is ∙ pod_asks w.store.rows att p a.scheduled a.stays ∙ names in
    subst (λ n. first_asked w.store.rows att (take n (rows_of kinds.Pod w.store.rows)) ≡ None) (next_place place)
    (asked_more w.store.rows att (rows_of kinds.Pod w.store.rows) place o at passed.asked none)

-- all pods were passed
pub nothing_next : (w : World) (att : List Attachment) (place : ℕ) → first_idle w att ≡ None → first_asked w.store.rows att (take place (rows_of kinds.Pod w.store.rows)) ≡ None
    → length (rows_of kinds.Pod w.store.rows) ≤ place → next w att ≡ None
nothing_next w att place idle asked all =
    let pods = rows_of kinds.Pod w.store.rows in
    first_none (first_idle w att) (first_asked w.store.rows att w.store.rows) idle
    (sym (asked_of_kind w.store.rows att w.store.rows) ∙ ap (first_asked w.store.rows att) (sym (take_all place pods all)) ∙ asked)

-- ---- one claim

module _ (w : World) (order : AreRows w.store.rows) (once : UidsOnce w.store.rows) (o : Object) (p : PodData) (place : ℕ)
    (at_o : slice_get (rows_of kinds.Pod w.store.rows) place ≡ Some o) (asks_p : pod_that_asks o ≡ Some p) where
  at : slice_get (rows_of kinds.Pod w.store.rows) place ≡ Some (Pod p)
  at = at_o ∙ ap (λ x. Some x) (asking o p asks_p).is

  scheduled : is_scheduled p ≡ true
  scheduled = (asking o p asks_p).scheduled

  stays : is_deleting p.meta ≡ false
  stays = (asking o p asks_p).stays

  in_rows : IsIn (Pod p) w.store.rows
  in_rows = some_filter (λ y. y ≡ Pod p) _ w.store.rows (some_at (λ y. y ≡ Pod p) (rows_of kinds.Pod w.store.rows) place (Pod p) at refl)

  module _ (number : ℕ) (name : List ℕ) (named : slice_get p.claims number ≡ Some name) (asks : List AttachAsk) (att : List Attachment) (passed : IsPassed w att place p number) where
    is_named : has_name name p.claims ≡ true
    is_named = any_here (λ n. bytes_eq n name) p.claims name (some_at (λ y. y ≡ name) p.claims number name named refl) (text_same name name refl)

    one_name : (l : List Attachment) → ask_for_names w.store.rows l p (take (suc number) p.claims) ≡ None → ask_for_names w.store.rows l p (take (number + 1) p.claims) ≡ None
    one_name l e = subst (λ n. ask_for_names w.store.rows l p (take n p.claims) ≡ None) (next_place number) e

    call : (ask : AttachAsk) → ask_of w.store.rows att p name ≡ Some ask → next w att ≡ Some ask
    call ask is =
        let pod = pod_asks w.store.rows att p scheduled stays ∙ names_at w.store.rows att p p.claims number name ask named passed.names is in
        ap (λ y. first_some y (first_asked w.store.rows att w.store.rows)) passed.idle
        ∙ sym (asked_of_kind w.store.rows att w.store.rows)
        ∙ asked_at w.store.rows att (rows_of kinds.Pod w.store.rows) place (Pod p) ask at passed.asked pod

    module _ (ask : AttachAsk) (is : ask_of w.store.rows att p name ≡ Some ask) where
      asked : IsAskedFor w.store.rows att p.node (claim_named w.store.rows p.meta.namespace name) ask
      asked = asked_for w.store.rows att p.node (claim_named w.store.rows p.meta.namespace name) ask is

      new : List Attachment
      new = after_attach w.store.rows asked.uid p.node att

      put : IsPut w.store.rows asked.uid p.node att
      put = attach_puts w.store.rows asked.uid p.node att asked.free asked.apart

      busy : (a : Attachment) → IsIn a (after_attach w.store.rows asked.uid p.node att) → is_idle w a ≡ false
      busy a h = elim (new_or w.store.rows asked.uid p.node att put a h) [
        | inl is_new ↦
            let volume : a.volume ≡ asked.uid = ap (λ (x : Attachment). x.volume) (sym is_new) in
            let node : a.node ≡ p.node = ap (λ (x : Attachment). x.node) (sym is_new) in
            used_by w order once p name asked.claim asked.own asked.uid a in_rows scheduled is_named asked.there asked.its asked.has volume node
        | inr before ↦ busy_in w att a passed.idle before
      ]

      -- the claim asks for nothing more
      silent : ask_of w.store.rows (after_attach w.store.rows asked.uid p.node att) p name ≡ None
      silent =
          ap (ask_for_claim w.store.rows (after_attach w.store.rows asked.uid p.node att) p.node) asked.there
          ∙ by (is_completed asked.claim)
        where
          volume : ask_for_volume w.store.rows (after_attach w.store.rows asked.uid p.node att) p.node (own_volume w.store.rows asked.claim) ≡ None
          volume =
              ap (ask_for_volume w.store.rows (after_attach w.store.rows asked.uid p.node att) p.node) asked.its
              ∙ ap (ask_for_uid w.store.rows (after_attach w.store.rows asked.uid p.node att) p.node) asked.has
              ∙ ap (λ b. if not b && is_none (attach_fault w.store.rows asked.uid p.node (after_attach w.store.rows asked.uid p.node att)) then Some (Attach asked.uid p.node) else None)
              (is_there w.store.rows asked.uid p.node att put)

          by : (b : Bool) → (if b then ask_for_volume w.store.rows (after_attach w.store.rows asked.uid p.node att) p.node (own_volume w.store.rows asked.claim) else None) ≡ None
          by true = volume
          by false = refl

      done : IsStep w asks att (asks ++ ask ∷ []) (after_attach w.store.rows asked.uid p.node att) place p number
      done =
          let among = grows w.store.rows asked.uid p.node att put in
          let rest = names_stay att (after_attach w.store.rows asked.uid p.node att) among w.store.rows p (take number p.claims) passed.names in
          record {
            made = λ start m. subst (Makes w start (asks ++ ask ∷ [])) (ap (λ a. after_ask w a att) asked.call) (made_more w start asks att ask m (call ask is));
            passed = record {
              idle = none_idle w (after_attach w.store.rows asked.uid p.node att) busy;
              asked = asked_stays att (after_attach w.store.rows asked.uid p.node att) among w.store.rows (take place (rows_of kinds.Pod w.store.rows)) passed.asked;
              names = one_name (after_attach w.store.rows asked.uid p.node att) (names_more w.store.rows (after_attach w.store.rows asked.uid p.node att) p p.claims number name named rest silent);
            };
          }

    pub step : (more : List AttachAsk) (new : List Attachment) → IsTried w (ask_for_claim w.store.rows att p.node (claim_named w.store.rows p.meta.namespace name)) att asks new more
        → IsStep w asks att more new place p number
    step more new tried = by (ask_of w.store.rows att p name) refl tried
      where
        by : (x : Option AttachAsk) → ask_of w.store.rows att p name ≡ x → IsTried w x att asks new more → IsStep w asks att more new place p number
        by None is t = same new more t.0 t.1
          where
            same : (new : List Attachment) (more : List AttachAsk) → new ≡ att → more ≡ asks → IsStep w asks att more new place p number
            same new more e f = subst (λ l. IsStep w asks att l new place p number) (sym f) (subst (λ l. IsStep w asks att asks l place p number) (sym e) (record {
              made = λ start m. m;
              passed = record { idle = passed.idle; asked = passed.asked; names = one_name att (names_more w.store.rows att p p.claims number name named passed.names is) };
            }))
        by (Some ask) is t =
            let call_is = (asked ask is).call in
            subst (λ l. IsStep w asks att l new place p number) (sym t.1)
            (subst (λ l. IsStep w asks att (asks ++ ask ∷ []) l place p number) (sym (t.0 ∙ ap (λ a. after_ask w a att) call_is)) (done ask is))
