-- What is not asked for is not asked for once more is attached: an attachment that is there stays, and so does one that forbids.
use Rattle.std.proofs.Common.{sym, refl, inl, inr, ap, ◌∙◌, true≢false}
use Rattle.std.specs.Prelude.{if◌then◌else◌, not, ◌&&◌, ℕ, ◌≡◌, Bool, true, false, List, [], ◌∷◌, Option, Some, None, filter, is_none}
use Rattle.kube_parts.specs.declared.uid.Uid.{Uid}
use Rattle.kube_objects.specs.declared.objects.Claim.{Claim as ClaimData}
use Rattle.kube_objects.specs.declared.objects.Pod.{Pod as PodData}
use Rattle.kube_objects.specs.declared.objects.Volume.{Volume as VolumeData}
use Rattle.kube_objects.specs.declared.objects.Object.{Object}
use Rattle.kube_objects.specs.declared.objects.Object.TheVariants.{Class, Node, Volume, Claim, Pod}
use Rattle.kube_objects.specs.Bindings.{is_completed, is_deleting, is_scheduled}
use Rattle.binder_model.specs.Choice.{claim_named}
use Rattle.binder_model.specs.Told.{first_some}
use Rattle.model_laws.proofs.Lists.{IsIn, none_some}
use Rattle.attach_law.specs.declared.attachment.Attachment.{Attachment}
use Rattle.attach_law.specs.declared.attachment.AttachAsk.TheVariants.{Attach}
use Rattle.attach_law.specs.Attached.{is_attached, own_volume, volume_with}
use Rattle.attach_law.specs.Calls.{AttachRefusal, attach_fault, attach_fault_of, forbids, has_many, least_node, multi_fault}
use Rattle.attach_law.specs.Next.{ask_for, ask_for_claim, ask_for_names, ask_for_uid, ask_for_volume, first_asked}
use Rattle.attach_law.proofs.Listed.{both_none, none_passes}
use Rattle.attach_law.proofs.Lists.{more_attached, none_least}

-- each of the first stands among the second
abbrev pub AreAmong : List Attachment → List Attachment → Type 0
AreAmong att new = (a : Attachment) → IsIn a att → IsIn a new

pub first_none : {X : Type 0} (a b : Option X) → a ≡ None → b ≡ None → first_some a b ≡ None
first_none a b e f = ap (λ x. first_some x b) e ∙ f

none_left : (f : Attachment → Bool) (xs : List Attachment) → ((a : Attachment) → IsIn a xs → f a ≡ true → ⊥) → filter f xs ≡ []
none_left f [] fails = refl
none_left f (x ∷ xs) fails = by (f x) refl (none_left f xs (λ a h e. fails a (inr h) e))
  where
    by : (b : Bool) → f x ≡ b → filter f xs ≡ [] → (if b then x ∷ filter f xs else filter f xs) ≡ []
    by true t rest = absurd (fails x (inl refl) t)
    by false t rest = rest

module _ (att new : List Attachment) (among : AreAmong att new) where
  -- what is free with more attached was free before
  free_before : (x : Option VolumeData) (u : Uid) (node : List ℕ) → attach_fault_of x u node new ≡ None → attach_fault_of x u node att ≡ None
  free_before None u node e = none_some (sym e)
  free_before (Some v) u node e =
      let none = none_least (filter (forbids u node (has_many v.modes)) new) e in
      let left = none_left (forbids u node (has_many v.modes)) att (λ a h t. none_passes (forbids u node (has_many v.modes)) new a none (among a h) t) in
      ap (λ l. multi_fault (least_node l)) left

  uid_stays : (rows : List Object) (node : List ℕ) (x : Option Uid) → ask_for_uid rows att node x ≡ None → ask_for_uid rows new node x ≡ None
  uid_stays rows node None e = refl
  uid_stays rows node (Some u) e = by (is_attached u node new) (attach_fault rows u node new) refl refl
    where
      was : (b : Bool) → is_attached u node att ≡ b → attach_fault rows u node att ≡ None → is_attached u node new ≡ false → ⊥
      was true t f s = true≢false (sym (more_attached att new (Some u) node among t) ∙ s)
      was false t f s =
          none_some (sym e ∙ ap (λ b. if not b && is_none (attach_fault rows u node att) then Some (Attach u node) else None) t
          ∙ ap (λ y. if is_none y then Some (Attach u node) else None) f)

      by : (b : Bool) (f : Option AttachRefusal) → is_attached u node new ≡ b → attach_fault rows u node new ≡ f → (if not b && is_none f then Some (Attach u node) else None) ≡ None
      by true f s t = refl
      by false (Some why) s t = refl
      by false None s t = absurd (was (is_attached u node att) refl (free_before (volume_with u rows) u node t) s)

  pub claim_stays : (rows : List Object) (node : List ℕ) (x : Option ClaimData) → ask_for_claim rows att node x ≡ None → ask_for_claim rows new node x ≡ None
  claim_stays rows node None e = refl
  claim_stays rows node (Some c) e = by (is_completed c) e
    where
      volume : (x : Option VolumeData) → ask_for_volume rows att node x ≡ None → ask_for_volume rows new node x ≡ None
      volume None e = refl
      volume (Some v) e = uid_stays rows node v.meta.uid e

      by : (b : Bool) → (if b then ask_for_volume rows att node (own_volume rows c) else None) ≡ None → (if b then ask_for_volume rows new node (own_volume rows c) else None) ≡ None
      by true e = volume (own_volume rows c) e
      by false e = refl

  pub names_stay : (rows : List Object) (p : PodData) (names : List (List ℕ)) → ask_for_names rows att p names ≡ None → ask_for_names rows new p names ≡ None
  names_stay rows p [] e = refl
  names_stay rows p (n ∷ ns) e =
      let t = both_none (ask_for_claim rows att p.node (claim_named rows p.meta.namespace n)) (ask_for_names rows att p ns) e in
      first_none (ask_for_claim rows new p.node (claim_named rows p.meta.namespace n)) (ask_for_names rows new p ns)
      (claim_stays rows p.node (claim_named rows p.meta.namespace n) t.0) (names_stay rows p ns t.1)

  object_stays : (rows : List Object) (o : Object) → ask_for rows att o ≡ None → ask_for rows new o ≡ None
  object_stays rows (Pod p) e = by (is_scheduled p && not (is_deleting p.meta)) e
    where
      by : (b : Bool) → (if b then ask_for_names rows att p p.claims else None) ≡ None → (if b then ask_for_names rows new p p.claims else None) ≡ None
      by true e = names_stay rows p p.claims e
      by false e = refl
  object_stays rows (Class o) e = refl
  object_stays rows (Node o) e = refl
  object_stays rows (Volume o) e = refl
  object_stays rows (Claim o) e = refl

  pub asked_stays : (rows os : List Object) → first_asked rows att os ≡ None → first_asked rows new os ≡ None
  asked_stays rows [] e = refl
  asked_stays rows (o ∷ os) e =
      let t = both_none (ask_for rows att o) (first_asked rows att os) e in
      first_none (ask_for rows new o) (first_asked rows new os) (object_stays rows o t.0) (asked_stays rows os t.1)
