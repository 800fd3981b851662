-- What is next is not refused: an idle volume is attached and has no mount, and what is asked for was tested. Calls of a turn.
use Rattle.std.proofs.Common.{sym, refl, subst, inl, inr, ap, ◌∙◌, true≢false}
use Rattle.std.proofs.lemmas.Bool.{and_parts}
use Rattle.std.specs.Prelude.{if◌then◌else◌, not, ◌&&◌, ℕ, ◌≡◌, Bool, true, false, List, [], ◌∷◌, ◌++◌, Option, Some, None, is_none}
use Rattle.kube_parts.specs.declared.uid.Uid.{Uid}
use Rattle.kube_objects.specs.declared.objects.Claim.{Claim as ClaimData}
use Rattle.kube_objects.specs.declared.objects.Pod.{Pod as PodData}
use Rattle.kube_objects.specs.declared.objects.Volume.{Volume as VolumeData}
use Rattle.kube_objects.specs.declared.objects.Object.{Object}
use Rattle.kube_objects.specs.declared.objects.Object.TheVariants.{Class, Node, Volume, Claim, Pod}
use Rattle.kube_objects.specs.Bindings.{is_completed, is_deleting, is_scheduled}
use Rattle.binder_model.specs.Choice.{claim_named}
use Rattle.binder_model.specs.Devices.{rows_on}
use Rattle.binder_model.specs.Told.{first_some}
use Rattle.binder_model.specs.World.{World}
use Rattle.model_laws.proofs.Lists.{none_some, one}
use Rattle.safety_law.proofs.Invariant.Tests.{text_same, uid_same}
use Rattle.attach_law.specs.declared.attachment.Attachment.{Attachment}
use Rattle.attach_law.specs.declared.attachment.AttachAsk.{AttachAsk}
use Rattle.attach_law.specs.declared.attachment.AttachAsk.TheVariants.{Attach, Detach}
use Rattle.attach_law.specs.Asks.{AsksAreDone, IsAskDone, Makes, Turned, TurnsLeaveNothing, after_ask}
use Rattle.attach_law.specs.Attached.{IsAmong, is_attached, is_of, own_volume, volume_with}
use Rattle.attach_law.specs.Calls.{AttachRefusal, NotAttached, attach_fault, in_use, user_of}
use Rattle.attach_law.specs.Next.{ask_for, ask_for_claim, ask_for_names, ask_for_uid, ask_for_volume, first_asked, first_idle, is_idle, is_used, next}
use Rattle.attach_law.proofs.Listed.{any_here, both_true}

-- the first of two, or the second
either : {X : Type 0} (P : X → Type 0) (a b : Option X) (x : X) → first_some a b ≡ Some x → (a ≡ Some x → P x) → (b ≡ Some x → P x) → P x
either P (Some y) b x e f g = f e
either P None b x e f g = g e

none_is : {X : Type 0} (x : Option X) → is_none x ≡ true → x ≡ None
none_is None e = refl
none_is (Some y) e = absurd (true≢false (sym e))

module _ (w : World) (att : List Attachment) where
  -- ---- detach

  idle_done : (rest : List Attachment) (ask : AttachAsk) → ((a : Attachment) → IsAmong a rest → IsAmong a att) → first_idle w rest ≡ Some ask → IsAskDone w att ask
  idle_done [] ask among e = none_some e
  idle_done (a ∷ rest) ask among e = by (is_idle w a) refl e (idle_done rest ask (λ x h. among x (inr h)))
    where
      detached : is_idle w a ≡ true → IsAskDone w att (Detach a.volume a.node)
      detached idle =
          let t = and_parts (not (is_used w.store.rows (volume_with a.volume w.store.rows) a.node)) (is_none (user_of w.store.rows a.volume (rows_on a.node w.devices.mounts))) idle in
          let its = both_true (uid_same a.volume a.volume refl) (text_same a.node a.node refl) in
          let there : is_attached a.volume a.node att ≡ true = any_here (is_of a.volume a.node) att a (among a (inl refl)) its in
          (fault (is_attached a.volume a.node att) (user_of w.store.rows a.volume (rows_on a.node w.devices.mounts)) there (none_is _ t.1), there)
        where
          fault : (b : Bool) (x : Option Uid) → b ≡ true → x ≡ None → (if b then in_use x else Some NotAttached) ≡ None
          fault true None s n = refl
          fault true (Some y) s n = none_some (sym n)
          fault false x s n = absurd (true≢false (sym s))

      by : (b : Bool) → is_idle w a ≡ b → (if b then Some (Detach a.volume a.node) else first_idle w rest) ≡ Some ask
          → (first_idle w rest ≡ Some ask → IsAskDone w att ask) → IsAskDone w att ask
      by true idle e f = is_done (one (Detach a.volume a.node) ask e) (detached idle)
        where
          is_done : {x y : AttachAsk} → x ≡ y → IsAskDone w att x → IsAskDone w att y
          is_done e d = subst (IsAskDone w att) e d
      by false idle e f = f e

  -- ---- attach

  uid_done : (node : List ℕ) (x : Option Uid) (ask : AttachAsk) → ask_for_uid w.store.rows att node x ≡ Some ask → IsAskDone w att ask
  uid_done node None ask e = none_some e
  uid_done node (Some u) ask e = by (is_attached u node att) (attach_fault w.store.rows u node att) refl refl e
    where
      by : (b : Bool) (f : Option AttachRefusal) → is_attached u node att ≡ b → attach_fault w.store.rows u node att ≡ f
          → (if not b && is_none f then Some (Attach u node) else None) ≡ Some ask → IsAskDone w att ask
      by false None s t e = subst (IsAskDone w att) (one (Attach u node) ask e) (t, s)
      by false (Some why) s t e = none_some e
      by true f s t e = none_some e

  pub claim_done : (node : List ℕ) (x : Option ClaimData) (ask : AttachAsk) → ask_for_claim w.store.rows att node x ≡ Some ask → IsAskDone w att ask
  claim_done node None ask e = none_some e
  claim_done node (Some c) ask e = by (is_completed c) e
    where
      volume : (x : Option VolumeData) → ask_for_volume w.store.rows att node x ≡ Some ask → IsAskDone w att ask
      volume None e = none_some e
      volume (Some v) e = uid_done node v.meta.uid ask e

      by : (b : Bool) → (if b then ask_for_volume w.store.rows att node (own_volume w.store.rows c) else None) ≡ Some ask → IsAskDone w att ask
      by true e = volume (own_volume w.store.rows c) e
      by false e = none_some e

  names_done : (p : PodData) (names : List (List ℕ)) (ask : AttachAsk) → ask_for_names w.store.rows att p names ≡ Some ask → IsAskDone w att ask
  names_done p [] ask e = none_some e
  names_done p (n ∷ ns) ask e =
      either (IsAskDone w att) (ask_for_claim w.store.rows att p.node (claim_named w.store.rows p.meta.namespace n)) (ask_for_names w.store.rows att p ns) ask e
      (claim_done p.node (claim_named w.store.rows p.meta.namespace n) ask) (names_done p ns ask)

  object_done : (o : Object) (ask : AttachAsk) → ask_for w.store.rows att o ≡ Some ask → IsAskDone w att ask
  object_done (Pod p) ask e = by (is_scheduled p && not (is_deleting p.meta)) e
    where
      by : (b : Bool) → (if b then ask_for_names w.store.rows att p p.claims else None) ≡ Some ask → IsAskDone w att ask
      by true e = names_done p p.claims ask e
      by false e = none_some e
  object_done (Class o) ask e = none_some e
  object_done (Node o) ask e = none_some e
  object_done (Volume o) ask e = none_some e
  object_done (Claim o) ask e = none_some e

  asked_done : (os : List Object) (ask : AttachAsk) → first_asked w.store.rows att os ≡ Some ask → IsAskDone w att ask
  asked_done [] ask e = none_some e
  asked_done (o ∷ os) ask e = either (IsAskDone w att) (ask_for w.store.rows att o) (first_asked w.store.rows att os) ask e (object_done o ask) (asked_done os ask)

pub asks_are_done : AsksAreDone
asks_are_done w att ask e = either (IsAskDone w att) (first_idle w att) (first_asked w.store.rows att w.store.rows) ask e (idle_done w att att ask (λ a h. h)) (asked_done w att w.store.rows ask)

-- ---- turns

pub turns_leave_nothing : TurnsLeaveNothing
turns_leave_nothing w att [] last t = ap (next w) t.1 ∙ t.0
turns_leave_nothing w att (ask ∷ asks) last t = turns_leave_nothing w (after_ask w ask att) asks last t.1

-- calls that are made until nothing is next are a turn
pub made_turn : (w : World) (att : List Attachment) (asks : List AttachAsk) (last : List Attachment) → Makes w att asks last → next w last ≡ None → Turned w att asks last
made_turn w att [] last m none = (ap (next w) (sym m) ∙ none, m)
made_turn w att (ask ∷ asks) last m none = (m.0, made_turn w (after_ask w ask att) asks last m.1 none)

-- one call more
pub made_more : (w : World) (att : List Attachment) (asks : List AttachAsk) (last : List Attachment) (ask : AttachAsk) → Makes w att asks last → next w last ≡ Some ask
    → Makes w att (asks ++ ask ∷ []) (after_ask w ask last)
made_more w att [] last ask m is = (ap (next w) (sym m) ∙ is, ap (after_ask w ask) m)
made_more w att (a ∷ asks) last ask m is = (m.0, made_more w (after_ask w a att) asks last ask m.1 is)
