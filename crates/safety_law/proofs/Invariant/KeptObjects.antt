-- UIDs and keys: each part is kept where the store moves.
use Rattle.std.proofs.Common.{sym, subst, inl, inr, ap, ◌∙◌}
use Rattle.std.specs.Prelude.{◌≡◌, true, List, ◌∷◌, Some, is_some}
use Rattle.kube_objects.specs.declared.key.Key.{Key}
use Rattle.kube_objects.specs.declared.objects.Volume.{Volume as VolumeData}
use Rattle.kube_objects.specs.declared.objects.Object.{Object}
use Rattle.kube_objects.specs.declared.objects.Object.TheVariants.{Volume}
use Rattle.kube_objects.specs.Keys.{meta_of, key_of, row_at}
use Rattle.kube_objects.proofs.KeyOrder.{row_at_key}
use Rattle.call_types.specs.declared.entry.Entry.{Entry}
use Rattle.call_types.specs.declared.setup.Setup.{Setup}
use Rattle.binder_model.specs.World.{world}
use Rattle.safety_law.specs.Invariant.Was.{IsPlaced}
use Rattle.safety_law.specs.Invariant.Invariant.{Invariant, IsLater}
use Rattle.safety_law.specs.Invariant.Good.{MovesAt}
use Rattle.safety_law.proofs.Invariant.Came.{row_was, IsNew, new_or, one_written, fresh, itself, then, volume_came}
use Rattle.std.proofs.lemmas.Option.{same_Some}
use Rattle.model_laws.specs.Stood.{Stood}
use Rattle.safety_law.proofs.Invariant.Came.{old_stood}

module _ (setup : Setup) (e : Entry) (past : List Entry) (inv : Invariant setup past) (m : MovesAt setup e past) where
  pub kept_has : (o : Object) → Stood setup (e ∷ past) o → is_some (meta_of o).uid ≡ true
  kept_has o was = elim (new_or setup e past m o was) [
    | inl before ↦ inv.has o before
    | inr new ↦ elim new.written.write [
      | inl starts ↦ ap is_some starts.first.uid
      | inr from ↦ ap is_some from.next.keeps.uid ∙ inv.has from.old (row_was setup past _ from.old from.next.there)
    ]
  ]

-- one UID, one key
kept_keyed_new : (setup : Setup) (e : Entry) (past : List Entry) → Invariant setup past → (a b : Object) → IsNew setup e past a → Stood setup past b
    → (meta_of a).uid ≡ (meta_of b).uid → key_of a ≡ key_of b
kept_keyed_new setup e past inv a b new was same = elim new.written.write [
  | inl starts ↦ fresh starts.room (meta_of b).uid (old_stood setup past b was) (sym same ∙ starts.first.uid)
  | inr from ↦ from.next.key ∙ inv.keyed from.old b (row_was setup past (key_of a) from.old from.next.there) was (sym from.next.keeps.uid ∙ same)
]

module _ (setup : Setup) (e : Entry) (past : List Entry) (inv : Invariant setup past) (m : MovesAt setup e past) where
  pub kept_keyed : (a b : Object) → Stood setup (e ∷ past) a → Stood setup (e ∷ past) b → (meta_of a).uid ≡ (meta_of b).uid → key_of a ≡ key_of b
  kept_keyed a b wa wb same = elim (new_or setup e past m a wa) [
    | inl a_before ↦ elim (new_or setup e past m b wb) [
      | inl b_before ↦ inv.keyed a b a_before b_before same
      | inr b_new ↦ sym (kept_keyed_new setup e past inv b a b_new a_before (sym same))
    ]
    | inr a_new ↦ elim (new_or setup e past m b wb) [
      | inl b_before ↦ kept_keyed_new setup e past inv a b a_new b_before same
      | inr b_new ↦ ap key_of (one_written setup e past a b a_new.written b_new.written)
    ]
  ]

  -- one that was before, and one that stands now
  later_now : (a : Object) (k : Key) (b : Object) → Stood setup past a → row_at k (world setup (e ∷ past)).store.rows ≡ Some b
      → (meta_of b).uid ≡ (meta_of a).uid → IsLater a b
  later_now a k b was is same = elim (m.row k b is) [
    | inl there ↦ inv.later a k b was there same
    | inr new ↦ elim new.write [
      | inl starts ↦ fresh starts.room (meta_of a).uid (old_stood setup past a was) (sym same ∙ starts.first.uid)
      | inr from ↦ then (inv.later a (key_of b) from.old was from.next.there (sym from.next.keeps.uid ∙ same)) (record { key = from.next.key; keeps = from.next.keeps })
    ]
  ]

-- one that is new, and one that stood before and stands now
later_new : (setup : Setup) (e : Entry) (past : List Entry) → Invariant setup past → (a : Object) (k : Key) (b : Object) → IsNew setup e past a
    → row_at k (world setup past).store.rows ≡ Some b → row_at k (world setup (e ∷ past)).store.rows ≡ Some b → (meta_of b).uid ≡ (meta_of a).uid
    → IsLater a b
later_new setup e past inv a k b new there is same = elim new.written.write [
  | inl starts ↦ fresh starts.room (meta_of b).uid (old_stood setup past b (row_was setup past k b there)) (same ∙ starts.first.uid)
  | inr from ↦
      let l = inv.later b (key_of a) from.old (row_was setup past k b there) from.next.there (sym (same ∙ from.next.keeps.uid)) in
      let at : key_of a ≡ k = from.next.key ∙ l.key ∙ row_at_key k b (world setup past).store.rows there in
      let e : a ≡ b = same_Some a b (sym new.stands ∙ ap (λ j. row_at j (world setup (e ∷ past)).store.rows) at ∙ is) in
      subst (IsLater a) e (itself a)
]

module _ (setup : Setup) (e : Entry) (past : List Entry) (inv : Invariant setup past) (m : MovesAt setup e past) where
  pub kept_later : (a : Object) (k : Key) (b : Object) → Stood setup (e ∷ past) a → row_at k (world setup (e ∷ past)).store.rows ≡ Some b
      → (meta_of b).uid ≡ (meta_of a).uid → IsLater a b
  kept_later a k b was is same = elim (new_or setup e past m a was) [
    | inl before ↦ later_now setup e past inv m a k b before is same
    | inr new ↦ elim (m.row k b is) [
      | inl there ↦ later_new setup e past inv a k b new there is same
      | inr b_new ↦ subst (IsLater a) (one_written setup e past a b new.written b_new) (itself a)
    ]
  ]

  pub kept_placed : (v : VolumeData) → Stood setup (e ∷ past) (Volume v) → IsPlaced (key_of (Volume v))
  kept_placed v was = elim (new_or setup e past m (Volume v) was) [
    | inl before ↦ inv.placed v before
    | inr new ↦ elim (volume_came setup past v new.written.write) [
      | inl began ↦ began.start.placed
      | inr came ↦ subst IsPlaced (sym came.next.key) (inv.placed came.old (row_was setup past (key_of (Volume v)) (Volume came.old) came.next.there))
    ]
  ]
