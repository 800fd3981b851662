-- One version, one object; one UID, one key; told is true.
use Rattle.std.proofs.Common.{sym, refl, subst, inl, inr, ap, ◌∙◌, arith}
use Rattle.std.specs.Prelude.{ℕ, ◌≡◌, ◌≢◌, ◌⊎◌, ◌≤◌, ◌<◌, ◌+◌, List, [], ◌∷◌, Option, Some, None, length}
use Rattle.kube_parts.specs.declared.uid.Uid.{Uid}
use Rattle.kube_objects.specs.declared.key.Key.{Key}
use Rattle.kube_objects.specs.declared.objects.Object.{Object}
use Rattle.kube_objects.specs.Keys.{AreRows, meta_of, key_of, row_at, put_row, without_row}
use Rattle.kube_parts.specs.Uids.{uid_of_serial}
use Rattle.kube_parts.proofs.UidTexts.{serials_apart}
use Rattle.kube_objects.proofs.KeyOrder.{row_at_key, row_at-put_row, row_at-put_row_other, row_at-without_row, row_at-without_row_other}
use Rattle.call_types.specs.declared.entry.Entry.{Entry}
use Rattle.call_types.specs.declared.setup.Setup.{Setup}
use Rattle.call_types.specs.declared.reply.Change.{Change}
use Rattle.call_types.specs.declared.reply.Change.TheVariants.{Added, Modified, Deleted}
use Rattle.binder_model.specs.Answers.{Says, Stores, Removes, after}
use Rattle.binder_model.specs.Imports.{most_serials}
use Rattle.binder_model.specs.Promises.{most_entries}
use Rattle.binder_model.specs.World.{World, Effect, OnStore, OnDevices, SetsMoment, base, world, effect, reply_to, world_after}
use Rattle.model_laws.specs.Steps.{KeepsStore, WritesOnce}
use Rattle.model_laws.specs.Stood.{Stands, Stood, OneVersionOneObject, OneUidOneKey}
use Rattle.model_laws.proofs.Lists.{one, none_some}
use Rattle.kube_objects.proofs.SameKeys.{key_tells}
use Rattle.model_laws.proofs.Changes.{IsOver, IsInPlace, ChangeOf, outcome_changes}
use Rattle.model_laws.proofs.Givings.{Gives, outcome_gives}
use Rattle.model_laws.proofs.Versions.{NextOf, outcome_next, versions_count_writes}
use Rattle.model_laws.proofs.Effects.{OfStore, on_effects}
use Rattle.model_laws.proofs.Histories.{rows_stand_in_order}
use Rattle.model_laws.proofs.Imported.{import_row, from_uid, from_key, from_version, version_below, old_uid, pass_base, one_import}

-- the object that an effect stores
abbrev stored_by : Effect → Option Object
stored_by (OnStore (Stores change o)) = Some o
stored_by x = None

-- a new object has the UID of its write, another that of the one it takes the place of
abbrev Whence : World → Object → Type 0
Whence w o = ((meta_of o).uid ≡ Some (uid_of_serial (w.store.version + 1))) ⊎ IsOver w.store.rows o

-- the object under the key was stored by this effect
record IsStored (w : World) (x : Effect) (o : Object) : Type 0 where
  by_it : stored_by x ≡ Some o
  next : (meta_of o).version ≡ w.store.version + 1
  counted : (world_after w x).store.version ≡ w.store.version + 1
  whence : Whence w o

whence_of : (w : World) (change : Change) (o : Object) → OfStore (Gives (w.store.version + 1)) (OnStore (Stores change o)) → IsInPlace w.store.rows change o → Whence w o
whence_of w Added o g place = inl g
whence_of w Modified o g place = inr place
whence_of w Deleted o g place = inr place

row_or : (w : World) (x : Effect) → AreRows w.store.rows → OfStore (NextOf (w.store.version + 1)) x → OfStore (Gives (w.store.version + 1)) x → OfStore (ChangeOf w.store.rows) x
    → (k : Key) (o : Object) → row_at k (world_after w x).store.rows ≡ Some o → (row_at k w.store.rows ≡ Some o) ⊎ IsStored w x o
unfolding world_after after
row_or w (OnStore (Says reply)) rows n g c k o is = inl is
row_or w (OnStore (Stores change new)) rows n g c k o is = elim (key_tells (key_of new) k) [
  | inl same ↦
      let e : new ≡ o = one new o (sym (row_at-put_row new w.store.rows) ∙ ap (λ j. row_at j (put_row new w.store.rows)) same ∙ is) in
      inr (subst (IsStored w (OnStore (Stores change new))) e (record { by_it = refl; next = n; counted = refl; whence = whence_of w change new g c }))
  | inr other ↦ inl (sym (row_at-put_row_other k new w.store.rows other) ∙ is)
]
row_or w (OnStore (Removes last)) rows n g c k o is = elim (key_tells (key_of last) k) [
  | inl same ↦ none_some (sym (row_at-without_row (key_of last) w.store.rows rows) ∙ ap (λ j. row_at j (without_row (key_of last) w.store.rows)) same ∙ is)
  | inr other ↦ inl (sym (row_at-without_row_other (key_of last) k w.store.rows other) ∙ is)
]
row_or w (OnDevices a) rows n g c k o is = inl is
row_or w (SetsMoment at) rows n g c k o is = inl is

abbrev EffectAt : Setup → Entry → List Entry → Effect
EffectAt setup e past = effect setup (world setup past) e.kind e.request

pub stood : (setup : Setup) (past : List Entry) (o : Object) → Stands (world setup past) o → Stood setup past o
stood setup [] o is = is
stood setup (e ∷ past) o is = inr is

-- what stood after one entry more stood before, or was stored by it
stood_or : (setup : Setup) (e : Entry) (past : List Entry) (o : Object) → Stood setup (e ∷ past) o → Stood setup past o ⊎ IsStored (world setup past) (EffectAt setup e past) o
stood_or setup e past o (inl before) = inl before
stood_or setup e past o (inr now) =
    let w = world setup past in
    elim (row_or w (EffectAt setup e past) (rows_stand_in_order setup past)
    (on_effects (λ r. tt) setup w e.kind e.request (outcome_next w.store e.kind e.request w.moment)).on
    (on_effects (λ r. tt) setup w e.kind e.request (outcome_gives w.store e.kind e.request w.moment)).on
    (on_effects (λ r. tt) setup w e.kind e.request (outcome_changes w.store e.kind e.request w.moment)).on
    (key_of o) o now) [
      | inl same ↦ inl (stood setup past o same)
      | inr new ↦ inr new
    ]

-- the version after one call more
version_step : (setup : Setup) (e : Entry) (past : List Entry) → ((world setup (e ∷ past)).store.version ≡ (world setup past).store.version)
    ⊎ ((world setup (e ∷ past)).store.version ≡ (world setup past).store.version + 1)
version_step setup e past = by (versions_count_writes setup (world setup past) e.kind e.request)
  where
    by : KeepsStore (world setup past) (world setup (e ∷ past)) ⊎ WritesOnce (world setup past) (world setup (e ∷ past)) (reply_to (EffectAt setup e past))
        → ((world setup (e ∷ past)).store.version ≡ (world setup past).store.version) ⊎ ((world setup (e ∷ past)).store.version ≡ (world setup past).store.version + 1)
    by (inl k) = inl (ap (λ s. s.version) k.store)
    by (inr k) = inr k.version

rises : (setup : Setup) (e : Entry) (past : List Entry) → (world setup past).store.version ≤ (world setup (e ∷ past)).store.version
rises setup e past = elim (version_step setup e past) [ inl same ↦ omega (arith, same) | inr more ↦ omega (arith, more) ]

pub version_stood : (setup : Setup) (past : List Entry) (o : Object) → Stood setup past o → (meta_of o).version ≤ (world setup past).store.version
version_stood setup [] o s =
    let c = import_row setup.imports setup.imports (key_of o) o s in
    let same = from_version setup.imports setup.imports o c in
    let low = version_below setup.imports c.import c.given in
    omega (arith, same, low)
version_stood setup (e ∷ past) o s = elim (stood_or setup e past o s) [
  | inl before ↦ let low = version_stood setup past o before in let up = rises setup e past in omega (arith, low, up)
  | inr new ↦ let next = new.next in let counted = new.counted in omega (arith, next, counted)
]

one_stored : (setup : Setup) (e : Entry) (past : List Entry) (o p : Object) → IsStored (world setup past) (EffectAt setup e past) o → IsStored (world setup past) (EffectAt setup e past) p → o ≡ p
one_stored setup e past o p a b = one o p (sym a.by_it ∙ b.by_it)

pub one_version_one_object : OneVersionOneObject
one_version_one_object setup [] o p so sp version which = elim which [
  | inl same ↦ one o p (sym so ∙ ap (λ k. row_at k (world setup []).store.rows) same ∙ sp)
  | inr above ↦ let low = version_stood setup [] o so in absurd (omega (arith, low, above))
]
one_version_one_object setup (e ∷ past) o p so sp version which = elim (stood_or setup e past o so) [
  | inl old ↦ elim (stood_or setup e past p sp) [
    | inl other ↦ one_version_one_object setup past o p old other version which
    | inr new ↦ let low = version_stood setup past o old in let next = new.next in absurd (omega (arith, low, next, version))
  ]
  | inr new ↦ elim (stood_or setup e past p sp) [
    | inl other ↦ let low = version_stood setup past p other in let next = new.next in absurd (omega (arith, low, next, version))
    | inr also ↦ one_stored setup e past o p new also
  ]
]

-- how high the version is

pub few_writes : (setup : Setup) (past : List Entry) → (world setup past).store.version ≤ base setup + length past
few_writes setup [] = omega arith
few_writes setup (e ∷ past) =
    let rest = few_writes setup past in
    elim (version_step setup e past) [ inl same ↦ omega (arith, rest, same) | inr more ↦ omega (arith, rest, more) ]

-- no serial above the version is that of a UID that stood
pub stood_uid : (setup : Setup) (past : List Entry) (o : Object) (uid : Uid) → Stood setup past o → (meta_of o).uid ≡ Some uid
    → (n : ℕ) → (world setup past).store.version < n → n < most_serials → uid ≢ uid_of_serial n
stood_uid setup [] o uid s its n above small =
    let c = import_row setup.imports setup.imports (key_of o) o s in
    old_uid setup.imports c.import uid c.given (sym (from_uid setup.imports setup.imports o c) ∙ its) n above small
stood_uid setup (e ∷ past) o uid s its n above small = elim (stood_or setup e past o s) [
  | inl before ↦ let up = rises setup e past in stood_uid setup past o uid before its n (omega (arith, up, above)) small
  | inr new ↦ by (λ a sa ea. let counted = new.counted in stood_uid setup past a uid sa ea n (omega (arith, counted, above)) small) new.whence new.counted
]
  where
    by : ((a : Object) → Stood setup past a → (meta_of a).uid ≡ Some uid → uid ≢ uid_of_serial n) → Whence (world setup past) o
        → (world setup (e ∷ past)).store.version ≡ (world setup past).store.version + 1 → uid ≢ uid_of_serial n
    by old (inl fresh) counted is =
        let same = serials_apart n ((world setup past).store.version + 1) (sym is ∙ one uid _ (sym its ∙ fresh)) in
        absurd (omega (arith, same, counted, above))
    by old (inr over) counted is =
        old over.0 (stood setup past over.0 (ap (λ k. row_at k (world setup past).store.rows)
        (row_at_key (key_of o) over.0 (world setup past).store.rows over.1.0) ∙ over.1.0)) (sym over.1.1.uid ∙ its) is

same_key_of : (setup : Setup) (past : List Entry) (o p : Object) (uid : Uid) → (world setup past).store.version + 1 < most_serials
    → ((a : Object) → Stood setup past a → (meta_of a).uid ≡ Some uid → key_of a ≡ key_of p) → Stood setup past p → (meta_of o).uid ≡ Some uid
    → (meta_of p).uid ≡ Some uid → Whence (world setup past) o → key_of o ≡ key_of p
same_key_of setup past o p uid small known sp eo ep (inl fresh) =
    absurd (stood_uid setup past p uid sp ep ((world setup past).store.version + 1) (omega arith) small (one uid _ (sym eo ∙ fresh)))
same_key_of setup past o p uid small known sp eo ep (inr over) =
    let key = row_at_key (key_of o) over.0 (world setup past).store.rows over.1.0 in
    sym key ∙ known over.0 (stood setup past over.0 (ap (λ k. row_at k (world setup past).store.rows) key ∙ over.1.0)) (sym over.1.1.uid ∙ eo)

pub one_uid_one_key : OneUidOneKey
one_uid_one_key setup [] pass short o p uid so sp eo ep =
    let c = import_row setup.imports setup.imports (key_of o) o so in
    let d = import_row setup.imports setup.imports (key_of p) p sp in
    let same = one_import [] setup.imports pass c.import d.import uid c.given d.given (sym (from_uid setup.imports setup.imports o c) ∙ eo) (sym (from_uid setup.imports setup.imports p d) ∙ ep) in
    from_key setup.imports setup.imports o c ∙ ap key_of same ∙ sym (from_key setup.imports setup.imports p d)
one_uid_one_key setup (e ∷ past) pass short o p uid so sp eo ep =
    let shorter : length past < most_entries = omega (arith, short) in
    let low = few_writes setup past in
    let most = pass_base [] setup.imports pass in
    let small : (world setup past).store.version + 1 < most_serials = omega (arith, low, most, short) in
    let more : (a b : Object) → Stood setup past a → Stood setup past b → (meta_of a).uid ≡ Some uid → (meta_of b).uid ≡ Some uid → key_of a ≡ key_of b =
    λ a b sa sb ea eb. one_uid_one_key setup past pass shorter a b uid sa sb ea eb in
    elim (stood_or setup e past o so) [
      | inl old ↦ elim (stood_or setup e past p sp) [
        | inl other ↦ more o p old other eo ep
        | inr new ↦ sym (same_key_of setup past p o uid small (λ a sa ea. more a o sa old ea eo) old ep eo new.whence)
      ]
      | inr new ↦ elim (stood_or setup e past p sp) [
        | inl other ↦ same_key_of setup past o p uid small (λ a sa ea. more a p sa other ea ep) other eo ep new.whence
        | inr also ↦ ap key_of (one_stored setup e past o p new also)
      ]
    ]
