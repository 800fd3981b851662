-- Detaching down the list: what is idle does not depend on what is attached, so those before a place stay as they are.
use Rattle.std.proofs.Common.{sym, refl, inl, inr, ap, subst, take_all, ◌∙◌, true≢false, arith, zero, suc, ◌+◌}
use Rattle.std.proofs.lemmas.Bool.{and_parts}
use Rattle.std.specs.Prelude.{if◌then◌else◌, not, ◌&&◌, ℕ, ◌≡◌, ◌<◌, ◌≤◌, ◌++◌, Bool, true, false, List, [], ◌∷◌, Some, None, bytes_eq, filter, is_none, length, slice_get, take}
use Rattle.binder_model.specs.Devices.{rows_on}
use Rattle.binder_model.specs.Same.{same_uid}
use Rattle.binder_model.specs.Told.{first_some}
use Rattle.binder_model.specs.World.{World}
use Rattle.model_laws.proofs.Lists.{IsIn, none_some, one}
use Rattle.safety_law.proofs.Invariant.Tests.{same_text, text_same, uid_same}
use Rattle.attach_law.specs.declared.attachment.Attachment.{Attachment}
use Rattle.attach_law.specs.declared.attachment.AttachAsk.{AttachAsk}
use Rattle.attach_law.specs.declared.attachment.AttachAsk.TheVariants.{Detach}
use Rattle.attach_law.specs.Attached.{is_of, volume_with}
use Rattle.attach_law.specs.Asks.{Makes}
use Rattle.attach_law.specs.Calls.{unless_refused, user_of, without_attachment}
use Rattle.attach_law.specs.Next.{first_asked, first_idle, is_idle, is_used, next}
use Rattle.attach_law.proofs.Asks.{asks_are_done, made_more}
use Rattle.attach_law.proofs.ByUid.{uid_of}
use Rattle.attach_law.proofs.Listed.{both_true}
use Rattle.attach_control.specs.Steps.Trying.{Continues}

module _ (w : World) where
  pub idle_parts : (x : Attachment) (xs : List Attachment) → first_idle w (x ∷ xs) ≡ None → (is_idle w x ≡ false) × (first_idle w xs ≡ None)
  idle_parts x xs none = by (is_idle w x) none
    where
      by : (b : Bool) → (if b then Some (Detach x.volume x.node) else first_idle w xs) ≡ None → (b ≡ false) × (first_idle w xs ≡ None)
      by true e = none_some (sym e)
      by false e = (refl, e)

  idle_ahead : (x : Attachment) (xs : List Attachment) → is_idle w x ≡ false → first_idle w xs ≡ None → first_idle w (x ∷ xs) ≡ None
  idle_ahead x xs busy none = ap (λ b. if b then Some (Detach x.volume x.node) else first_idle w xs) busy ∙ none

  pub busy_in : (xs : List Attachment) (a : Attachment) → first_idle w xs ≡ None → IsIn a xs → is_idle w a ≡ false
  busy_in [] a none h = absurd h
  busy_in (x ∷ xs) a none h =
      let p = idle_parts x xs none in
      elim h [ inl is ↦ ap (is_idle w) (sym is) ∙ p.0 | inr more ↦ busy_in xs a p.1 more ]

  pub none_idle : (xs : List Attachment) → ((a : Attachment) → IsIn a xs → is_idle w a ≡ false) → first_idle w xs ≡ None
  none_idle [] busy = refl
  none_idle (x ∷ xs) busy = idle_ahead x xs (busy x (inl refl)) (none_idle xs (λ a h. busy a (inr h)))

  idle_same : (a b : Attachment) → a.volume ≡ b.volume → a.node ≡ b.node → is_idle w a ≡ is_idle w b
  idle_same a b volume node =
      ap (λ u. not (is_used w.store.rows (volume_with u w.store.rows) a.node) && is_none (user_of w.store.rows u (rows_on a.node w.devices.mounts))) volume
      ∙ ap (λ n. not (is_used w.store.rows (volume_with b.volume w.store.rows) n) && is_none (user_of w.store.rows b.volume (rows_on n w.devices.mounts))) node

  -- an attachment that is not idle is not that of one that is
  other_of : (x a : Attachment) → is_idle w x ≡ false → is_idle w a ≡ true → is_of a.volume a.node x ≡ false
  other_of x a busy idle = by (is_of a.volume a.node x) refl
    where
      by : (b : Bool) → is_of a.volume a.node x ≡ b → b ≡ false
      by false e = refl
      by true e =
          let t = and_parts (same_uid x.volume a.volume) (bytes_eq x.node a.node) e in
          absurd (true≢false (sym idle ∙ sym (idle_same x a (uid_of x.volume a.volume t.0) (same_text x.node a.node t.1)) ∙ busy))

  -- the attachment at a place is idle and those before it are not: it is the first, and behind its detach they still stand before the place
  pub record IsFirstAt (list : List Attachment) (at : ℕ) (a : Attachment) : Type 0 where
    pub first : first_idle w list ≡ Some (Detach a.volume a.node)
    pub before : first_idle w (take at (without_attachment a.volume a.node list)) ≡ None
    pub shorter : length (without_attachment a.volume a.node list) < length list

  no_longer : {X : Type 0} (f : X → Bool) (xs : List X) → length (filter f xs) ≤ length xs
  no_longer f [] = omega arith
  no_longer f (x ∷ xs) = by (f x) (no_longer f xs)
    where
      by : (b : Bool) → length (filter f xs) ≤ length xs → length (if b then x ∷ filter f xs else filter f xs) ≤ suc (length xs)
      by true le = omega (arith, le)
      by false le = omega (arith, le)

  here : (x : Attachment) (xs : List Attachment) → is_idle w x ≡ true → IsFirstAt (x ∷ xs) zero x
  here x xs idle =
      let gone : without_attachment x.volume x.node (x ∷ xs) ≡ without_attachment x.volume x.node xs =
      ap (λ b. if not b then x ∷ without_attachment x.volume x.node xs else without_attachment x.volume x.node xs) its in
      record {
        first = ap (λ b. if b then Some (Detach x.volume x.node) else first_idle w xs) idle;
        before = refl;
        shorter = rw gone (let le = no_longer (λ a. not (is_of x.volume x.node a)) xs in omega (arith, le));
      }
    where
      its : is_of x.volume x.node x ≡ true
      its = both_true (uid_same x.volume x.volume refl) (text_same x.node x.node refl)

  further : (x : Attachment) (xs : List Attachment) (at : ℕ) (a : Attachment) → is_idle w x ≡ false → is_idle w a ≡ true → IsFirstAt xs at a → IsFirstAt (x ∷ xs) (suc at) a
  further x xs at a busy idle r =
      let rest = without_attachment a.volume a.node xs in
      let kept : without_attachment a.volume a.node (x ∷ xs) ≡ x ∷ rest = ap (λ b. if not b then x ∷ rest else rest) (other_of x a busy idle) in
      let less = r.shorter in
      record {
        first = ap (λ b. if b then Some (Detach x.volume x.node) else first_idle w xs) busy ∙ r.first;
        before = ap (λ l. first_idle w (take (suc at) l)) kept ∙ idle_ahead x (take at rest) busy r.before;
        shorter = rw kept (omega (arith, less));
      }

  pub first_at : (list : List Attachment) (at : ℕ) (a : Attachment) → slice_get list at ≡ Some a → first_idle w (take at list) ≡ None → is_idle w a ≡ true → IsFirstAt list at a
  first_at [] at a there none idle = none_some there
  first_at (x ∷ xs) zero a there none idle =
      let same = one x a there in
      subst (IsFirstAt (x ∷ xs) zero) same (here x xs (ap (is_idle w) same ∙ idle))
  first_at (x ∷ xs) (suc at) a there none idle =
      let p = idle_parts x (take at xs) none in
      further x xs at a p.0 idle (first_at xs at a there p.1 idle)

  one_after : (list : List Attachment) (at : ℕ) (a : Attachment) → slice_get list at ≡ Some a → first_idle w (take at list) ≡ None → is_idle w a ≡ false
      → first_idle w (take (suc at) list) ≡ None
  one_after [] at a there none busy = none_some there
  one_after (x ∷ xs) zero a there none busy = idle_ahead x [] (ap (is_idle w) (one x a there) ∙ busy) refl
  one_after (x ∷ xs) (suc at) a there none busy =
      let p = idle_parts x (take at xs) none in
      idle_ahead x (take (suc at) xs) p.0 (one_after xs at a there p.1 busy)

  pub one_more : (list : List Attachment) (at : ℕ) (a : Attachment) → slice_get list at ≡ Some a → first_idle w (take at list) ≡ None → is_idle w a ≡ false
      → first_idle w (take (at + 1) list) ≡ None
  one_more list at a there none busy =
      let more : suc at ≡ at + 1 = omega arith in
      subst (λ n. first_idle w (take n list) ≡ None) more (one_after list at a there none busy)

  -- the call is next, and is done
  pub detach_made : (list : List Attachment) (at : ℕ) (a : Attachment) → IsFirstAt list at a → (asks : List AttachAsk)
      → Continues w asks list (asks ++ Detach a.volume a.node ∷ []) (without_attachment a.volume a.node list)
  detach_made list at a r asks start m =
      let rest = without_attachment a.volume a.node list in
      let is : next w list ≡ Some (Detach a.volume a.node) = ap (λ x. first_some x (first_asked w.store.rows list w.store.rows)) r.first in
      let free = (asks_are_done w list (Detach a.volume a.node) is).0 in
      subst (Makes w start (asks ++ Detach a.volume a.node ∷ [])) (ap (λ f. unless_refused f rest list) free) (made_more w start asks list (Detach a.volume a.node) m is)

  -- past the end of the list
  pub none_left_idle : (list : List Attachment) (at : ℕ) → first_idle w (take at list) ≡ None → length list ≤ at → first_idle w list ≡ None
  none_left_idle list at none all = ap (first_idle w) (sym (take_all at list all)) ∙ none
