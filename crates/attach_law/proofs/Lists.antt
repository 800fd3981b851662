-- Lists of attachments: what attach and detach leave is apart, attach loses none, and detach loses none that a mount is on.
use Rattle.std.proofs.Common.{sym, refl, inl, inr, ap, ◌∙◌, true≢false}
use Rattle.std.proofs.lemmas.Bool.{and_parts}
use Rattle.std.proofs.lemmas.Option.{none-some}
use Rattle.std.specs.Prelude.{if◌then◌else◌, not, ◌&&◌, ℕ, ◌≡◌, ◌⊎◌, Bool, true, false, List, [], ◌∷◌, Option, Some, None, bytes_eq, filter}
use Rattle.std.specs.Ordering.{is_gt}
use Rattle.plain_data.specs.Pairs.{text_cmp}
use Rattle.kube_parts.specs.declared.uid.Uid.{Uid}
use Rattle.kube_objects.specs.declared.objects.Volume.{Volume as VolumeData}
use Rattle.kube_objects.specs.declared.objects.Object.{Object}
use Rattle.call_types.specs.declared.reply.MountRow.{MountRow}
use Rattle.binder_model.specs.Devices.{MountAt, rows_on}
use Rattle.binder_model.specs.Same.{same_uid}
use Rattle.binder_model.specs.World.{World}
use Rattle.model_laws.proofs.Lists.{IsIn, none_some, some_filter}
use Rattle.safety_law.proofs.Invariant.Tests.{same_text, text_same, uid_same}
use Rattle.attach_law.specs.declared.attachment.Attachment.{Attachment}
use Rattle.attach_law.specs.Attached.{AreApart, is_attached, is_of, is_uid_attached}
use Rattle.attach_law.specs.Calls.{AttachRefusal, after_detach, attach_fault_of, attach_new, detach_fault, forbids, has_many, least_node, lesser, mounts_volume, multi_fault, new_attachment}
use Rattle.attach_law.specs.Calls.{put_attachment, stands_before, unless_refused, user_of, without_attachment}
use Rattle.attach_law.proofs.Listed.{any_gives, any_here, none_passes}

-- ---- mounts of a node

pub row_of_mount : (node : List ℕ) (m : MountAt) (ms : List MountAt) → IsIn m ms → m.node ≡ node → IsIn m.row (rows_on node ms)
row_of_mount node m [] h at = absurd h
row_of_mount node m (x ∷ xs) h at = by (bytes_eq x.node node) refl h (λ k. row_of_mount node m xs k at)
  where
    by : (b : Bool) → bytes_eq x.node node ≡ b → IsIn m (x ∷ xs) → (IsIn m xs → IsIn m.row (rows_on node xs))
        → IsIn m.row (if b then x.row ∷ rows_on node xs else rows_on node xs)
    by true t h f = elim h [ inl is ↦ inl (ap (λ (y : MountAt). y.row) is) | inr more ↦ inr (f more) ]
    by false t h f = elim h [
      | inl is ↦ absurd (true≢false (sym (text_same x.node node (ap (λ (y : MountAt). y.node) is ∙ at)) ∙ t))
      | inr more ↦ f more
    ]

pub no_user : (rows : List Object) (u : Uid) (rs : List MountRow) (r : MountRow) → user_of rows u rs ≡ None → IsIn r rs → mounts_volume rows u r ≡ true → ⊥
no_user rows u [] r none h e = absurd h
no_user rows u (x ∷ xs) r none h e = by (mounts_volume rows u x) refl none h (λ n k. no_user rows u xs r n k e)
  where
    by : (b : Bool) → mounts_volume rows u x ≡ b → (if b then Some x.pod else user_of rows u xs) ≡ None → IsIn r (x ∷ xs)
        → (user_of rows u xs ≡ None → IsIn r xs → ⊥) → ⊥
    by true t none h f = none_some (sym none)
    by false t none h f = elim h [ inl is ↦ true≢false (sym (ap (mounts_volume rows u) is ∙ e) ∙ t) | inr more ↦ f none more ]

-- ---- a new attachment

-- more attachments, more that is attached
pub more_attached : (att new : List Attachment) (u : Option Uid) (node : List ℕ) → ((a : Attachment) → IsIn a att → IsIn a new)
    → is_uid_attached u node att ≡ true → is_uid_attached u node new ≡ true
more_attached att new None node grow e = e
more_attached att new (Some u) node grow e = let p = any_gives (is_of u node) att e in any_here (is_of u node) new p.it (grow p.it p.among) p.test

pub put_among : (new : Attachment) (att : List Attachment) (a : Attachment) → IsIn a att → IsIn a (put_attachment new att)
put_among new [] a h = absurd h
put_among new (x ∷ xs) a h = by (stands_before x new) (put_among new xs a)
  where
    by : (b : Bool) → (IsIn a xs → IsIn a (put_attachment new xs)) → IsIn a (if b then x ∷ put_attachment new xs else new ∷ x ∷ xs)
    by true f = elim h [ inl is ↦ inl is | inr more ↦ inr (f more) ]
    by false f = inr h

pub put_there : (new : Attachment) (att : List Attachment) → IsIn new (put_attachment new att)
put_there new [] = inl refl
put_there new (x ∷ xs) = by (stands_before x new) (put_there new xs)
  where
    by : (b : Bool) → IsIn new (put_attachment new xs) → IsIn new (if b then x ∷ put_attachment new xs else new ∷ x ∷ xs)
    by true h = inr h
    by false h = inl refl

pub put_from : (new : Attachment) (att : List Attachment) (a : Attachment) → IsIn a (put_attachment new att) → (new ≡ a) ⊎ IsIn a att
put_from new [] a h = elim h [ inl is ↦ inl is | inr none ↦ absurd none ]
put_from new (x ∷ xs) a h = by (stands_before x new) h (put_from new xs a)
  where
    by : (b : Bool) → IsIn a (if b then x ∷ put_attachment new xs else new ∷ x ∷ xs)
        → (IsIn a (put_attachment new xs) → (new ≡ a) ⊎ IsIn a xs) → (new ≡ a) ⊎ IsIn a (x ∷ xs)
    by true h f = elim h [ inl is ↦ inr (inl is) | inr more ↦ elim (f more) [ inl is ↦ inl is | inr k ↦ inr (inr k) ] ]
    by false h f = elim h [ inl is ↦ inl is | inr more ↦ inr more ]

-- one that does not forbid, to another node: both are for several
allowed : (same here many : Bool) → (same && not here && not many) ≡ false → same ≡ true → here ≡ false → many ≡ true
allowed true false true e s n = refl
allowed true false false e s n = absurd (true≢false e)
allowed true true many e s n = absurd (true≢false n)
allowed false here many e s n = absurd (true≢false (sym s))

module _ (v : VolumeData) (u : Uid) (node : List ℕ) (att : List Attachment) (ok : AreApart att) (free : filter (forbids u node (has_many v.modes)) att ≡ []) where
  beside : (b : Attachment) → IsIn b att → u ≡ b.volume → (node ≡ b.node → ⊥) → (has_many v.modes ≡ true) × (b.many ≡ true)
  beside b h same other =
      let lets : forbids u node (has_many v.modes) b ≡ false = no_test (forbids u node (has_many v.modes) b) (λ t. none_passes (forbids u node (has_many v.modes)) att b free h t) in
      let apart : bytes_eq b.node node ≡ false = no_test (bytes_eq b.node node) (λ t. other (sym (same_text b.node node t))) in
      let both = and_parts b.many (has_many v.modes) (allowed (same_uid b.volume u) (bytes_eq b.node node) (b.many && has_many v.modes) lets (uid_same b.volume u (sym same)) apart) in
      (both.1, both.0)
    where
      no_test : (t : Bool) → (t ≡ true → ⊥) → t ≡ false
      no_test true f = absurd (f refl)
      no_test false f = refl

  apart_put : AreApart (put_attachment (new_attachment v u node) att)
  apart_put a b in_a in_b same other = elim (put_from (new_attachment v u node) att a in_a) [
    | inl a_new ↦ elim (put_from (new_attachment v u node) att b in_b) [
      | inl b_new ↦ absurd (other (ap (λ (x : Attachment). x.node) (sym a_new ∙ b_new)))
      | inr b_old ↦
          let r = beside b b_old (ap (λ (x : Attachment). x.volume) a_new ∙ same) (λ e. other (ap (λ (x : Attachment). x.node) (sym a_new) ∙ e)) in
          (ap (λ (x : Attachment). x.many) (sym a_new) ∙ r.0, r.1)
    ]
    | inr a_old ↦ elim (put_from (new_attachment v u node) att b in_b) [
      | inl b_new ↦
          let r = beside a a_old (ap (λ (x : Attachment). x.volume) b_new ∙ sym same) (λ e. other (sym (ap (λ (x : Attachment). x.node) (sym b_new) ∙ e))) in
          (r.1, ap (λ (x : Attachment). x.many) (sym b_new) ∙ r.0)
      | inr b_old ↦ ok a b a_old b_old same other
    ]
  ]

pub none_least : (some : List Attachment) → multi_fault (least_node some) ≡ None → some ≡ []
none_least [] e = refl
none_least (a ∷ rest) e = absurd (some_least (least_node rest) e)
  where
    some_least : (x : Option (List ℕ)) → multi_fault (lesser a.node x) ≡ None → ⊥
    some_least None e = none-some _ (sym e)
    some_least (Some n) e = by (is_gt (text_cmp a.node n)) e
      where
        by : (b : Bool) → multi_fault (if b then Some n else Some a.node) ≡ None → ⊥
        by true e = none-some _ (sym e)
        by false e = none-some _ (sym e)

-- ---- attach

pub attach_apart : (x : Option VolumeData) (u : Uid) (node : List ℕ) (att : List Attachment) → AreApart att
    → AreApart (unless_refused (attach_fault_of x u node att) (attach_new x u node att) att)
attach_apart None u node att ok = ok
attach_apart (Some v) u node att ok = by (multi_fault (least_node (filter (forbids u node (has_many v.modes)) att))) refl
  where
    by : (f : Option AttachRefusal) → multi_fault (least_node (filter (forbids u node (has_many v.modes)) att)) ≡ f
        → AreApart (unless_refused f (attach_new (Some v) u node att) att)
    by (Some why) e = ok
    by None e = on (is_attached u node att)
      where
        on : (b : Bool) → AreApart (if b then att else put_attachment (new_attachment v u node) att)
        on true = ok
        on false = apart_put v u node att ok (none_least (filter (forbids u node (has_many v.modes)) att) e)

pub attach_grows : (x : Option VolumeData) (u : Uid) (node : List ℕ) (att : List Attachment) (a : Attachment) → IsIn a att
    → IsIn a (unless_refused (attach_fault_of x u node att) (attach_new x u node att) att)
attach_grows None u node att a h = h
attach_grows (Some v) u node att a h = by (multi_fault (least_node (filter (forbids u node (has_many v.modes)) att)))
  where
    by : (f : Option AttachRefusal) → IsIn a (unless_refused f (attach_new (Some v) u node att) att)
    by (Some why) = h
    by None = on (is_attached u node att)
      where
        on : (b : Bool) → IsIn a (if b then att else put_attachment (new_attachment v u node) att)
        on true = h
        on false = put_among (new_attachment v u node) att a h

-- ---- detach

pub detach_apart : (w : World) (u : Uid) (node : List ℕ) (att : List Attachment) → AreApart att → AreApart (after_detach w u node att)
detach_apart w u node att ok = by (detach_fault w u node att)
  where
    from : (a : Attachment) → IsIn a (without_attachment u node att) → IsIn a att
    from a h = some_filter (λ y. y ≡ a) (λ x. not (is_of u node x)) att h

    by : (f : Option AttachRefusal) → AreApart (unless_refused f (without_attachment u node att) att)
    by (Some why) = ok
    by None = λ a b in_a in_b. ok a b (from a in_a) (from b in_b)
