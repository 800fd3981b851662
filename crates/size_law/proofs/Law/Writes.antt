-- What each write of a run makes of bytes, modes, marks and references.
use Rattle.std.proofs.Common.{sym, refl, subst, inl, inr, ap, ◌∙◌, true≢false}
use Rattle.std.proofs.lemmas.Option.{same_Some}
use Rattle.std.specs.Prelude.{ℕ, ◌≡◌, ◌==◌, ◌⊎◌, Bool, true, false, List, [], ◌∷◌, Option, Some, None, is_some, ⊤}
use Rattle.std.proofs.Common.{arith}
use Rattle.plain_data.specs.Pairs.{value_at}
use Rattle.plain_data.proofs.PairValues.{value_put}
use Rattle.kube_parts.specs.declared.uid.Uid.{Uid}
use Rattle.kube_objects.specs.declared.key.Key.{Key}
use Rattle.kube_parts.specs.declared.parts.Kind.TheVariants as kinds
use Rattle.kube_objects.specs.declared.objects.Meta.{Meta}
use Rattle.kube_objects.specs.declared.objects.Ref.{Ref}
use Rattle.kube_objects.specs.declared.objects.Volume.{Volume as VolumeData}
use Rattle.kube_objects.specs.declared.objects.Claim.{Claim as ClaimData}
use Rattle.kube_objects.specs.declared.objects.Object.{Object}
use Rattle.kube_objects.specs.declared.objects.Object.TheVariants.{Volume, Claim, Pod}
use Rattle.kube_objects.specs.Keys.{meta_of, key_of, row_at}
use Rattle.kube_objects.specs.Bindings.{bind_completed, bound_by_controller, is_completed, is_empty, yes, is_protected_volume, is_protected_claim, ref_uid}
use Rattle.call_types.specs.declared.entry.Entry.{Entry}
use Rattle.call_types.specs.declared.setup.Setup.{Setup}
use Rattle.call_types.specs.declared.edit.Edit.{Edit}
use Rattle.call_types.specs.declared.request.NewStatus.{NewStatus}
use Rattle.call_types.specs.declared.request.NewStatus.TheVariants as statuses
use Rattle.call_types.specs.declared.request.SeatKind.{SeatKind}
use Rattle.call_types.specs.declared.request.SeatKind.TheVariants as seats
use Rattle.call_types.specs.declared.request.Request.{Request}
use Rattle.call_types.specs.declared.request.Request.TheVariants as requests
use Rattle.binder_model.specs.Store.{with_meta, at_version, marked_object, created_object, updated_object, admitted_object, without_status, with_status_of}
use Rattle.binder_model.specs.Fields.{update_fault}
use Rattle.binder_model.specs.Answers.{is_other_version, guard_on, with_status}
use Rattle.binder_model.specs.At.{IsWrittenAt}
use Rattle.binder_model.specs.BindWrites.{annotated_meta_if, completed_with, ref_to, taken_for}
use Rattle.binder_model.specs.BinderLicence.{IsBoundFor, MayAssignClass, MayComplete}
use Rattle.binder_model.specs.Licence.{ClaimMay, Licensed, VolumeMay, binder_claim, claim_guard, volume_guard}
use Rattle.binder_model.specs.OpsLicence.{MayCreate, MayClearNode}
use Rattle.binder_model.specs.Provisioning.{provisioned_volume}
use Rattle.binder_model.specs.SchedulerLicence.{MaySelectNode}
use Rattle.binder_model.specs.Told.{ToldVolume, ToldClaim}
use Rattle.binder_model.specs.World.{world}
use Rattle.model_laws.specs.Stood.{Stood}
use Rattle.model_laws.proofs.Lists.{none_some}
use Rattle.model_laws.proofs.Newest.{newest_told}
use Rattle.safety_law.specs.Invariant.Writes.{IsUpdate, IsEdit, Writes}
use Rattle.safety_law.proofs.Invariant.Objects.{same_volume}
use Rattle.safety_law.proofs.Invariant.Whence.{created_first, updated_next, status_next, marked_next, bound_next, finished_next}
use Rattle.safety_law.specs.Invariant.Was.{Refers}
use Rattle.safety_law.specs.Invariant.Invariant.{Invariant}
use Rattle.safety_law.specs.Invariant.Good.{IsTrue}
use Rattle.safety_law.proofs.Invariant.Known.{told_volume, told_claim}
use Rattle.safety_law.proofs.Law.Rows.{stored_volume, no_ref_uid}
use Rattle.safety_law.proofs.Law.Claims.{stored_claim, select_keeps, clear_keeps}
use Rattle.safety_law.proofs.Law.Users.{passes, completion_same, no_uid_given}
use Rattle.safety_law.proofs.Law.Allowed.{Known, at_claim, same_version}
use Rattle.kube_objects.proofs.KeyOrder.{row_at_key}
use Rattle.model_laws.proofs.Stood.{one_version_one_object}
use Rattle.safety_law.proofs.Invariant.Came.{row_was}
use Rattle.size_law.specs.Law.Fitting.{Fits, Suits, IsGiven, GivesTo, GivesFitting, is_marked}
use Rattle.size_law.proofs.Law.Fields.{volume_fixed, claim_fixed, completion_leaves_mark, select_leaves_mark, clear_leaves_mark, taken_marks, mark_same, user_keeps}

-- the volume was given to the claim of this UID, which it suits. The mark is put on it only where it had no reference
pub record WasGiven (setup : Setup) (past : List Entry) (old new : VolumeData) (uid : Uid) : Type 0 where
  pub claim : ClaimData
  pub was : Stood setup past (Claim claim)
  pub its : claim.meta.uid ≡ Some uid
  pub suits : Suits old claim
  pub marks : is_some old.claim_ref ≡ true → is_marked new.meta ≡ true → is_marked old.meta ≡ true

-- a reference with a UID is the old one, and then no mark is new, or it was given now
abbrev pub ReferencesMove : Setup → List Entry → VolumeData → VolumeData → Type 0
ReferencesMove setup past old new =
    (r : Ref) (uid : Uid) → Refers new r uid
    → (Refers old r uid × (is_marked new.meta ≡ true → is_marked old.meta ≡ true)) ⊎ WasGiven setup past old new uid

pub record VolumeMoves (setup : Setup) (past : List Entry) (old new : VolumeData) : Type 0 where
  pub bytes : new.amount.bytes ≡ old.amount.bytes
  pub mode : new.block ≡ old.block
  pub refers : ReferencesMove setup past old new

-- what a write makes of the marks of a claim: it is marked anew only where it named no volume and is completed now, and
-- stays completed
pub record MarksMove (old new : ClaimData) : Type 0 where
  pub marks : is_marked new.meta ≡ true → (is_marked old.meta ≡ true) ⊎ ((old.volume_name ≡ []) × (is_completed new ≡ true))
  pub completed : is_completed old ≡ true → is_completed new ≡ true

pub record ClaimMoves (old new : ClaimData) : Type 0 where
  pub bytes : new.amount.bytes ≡ old.amount.bytes
  pub mode : new.block ≡ old.block
  pub marks : MarksMove old new

abbrev pub KindMoves : Setup → List Entry → Object → Object → Type 0
KindMoves setup past (Volume a) (Volume b) = VolumeMoves setup past a b
KindMoves setup past (Claim a) (Claim b) = ClaimMoves a b
KindMoves setup past a b = ⊤

-- a new volume fits the claim that its reference names, and a new claim is not marked
abbrev pub KindBegins : Setup → List Entry → Object → Type 0
KindBegins setup past (Volume v) = (r : Ref) (uid : Uid) → Refers v r uid → (c : ClaimData) × (Stood setup past (Claim c) × ((c.meta.uid ≡ Some uid) × Fits v c))
KindBegins setup past (Claim c) = is_marked c.meta ≡ false
KindBegins setup past o = ⊤

-- what a write of a run makes of what stands there, or of no object
pub record Fitted (setup : Setup) (past : List Entry) (o : Object) : Type 0 where
  pub moves : (old : Object) → row_at (key_of o) (world setup past).store.rows ≡ Some old → KindMoves setup past old o
  pub begins : row_at (key_of o) (world setup past).store.rows ≡ None → KindBegins setup past o

-- volumes

-- what keeps reference and annotations
kept_reference : (setup : Setup) (past : List Entry) (o new : VolumeData) → new.claim_ref ≡ o.claim_ref → new.meta.annotations ≡ o.meta.annotations → ReferencesMove setup past o new
kept_reference setup past o new refs annotations r uid h =
    inl (record { is = sym refs ∙ h.is; known = h.known }, λ marked. ap (λ a. is_some (value_at bound_by_controller a)) (sym annotations) ∙ marked)

given_reference : (setup : Setup) (past mine : List Entry) → IsTrue setup past mine → (o new : VolumeData) (n : ℕ) → ToldClaim (IsGiven o new) mine
    → ReferencesMove setup past o (stored_volume o new n)
unfolding taken_for
given_reference setup past mine true_of o new n row =
    let t = told_claim setup past mine true_of (IsGiven o new) row in
    let given : IsGiven o new t.0 = t.2 in
    subst (λ (x : VolumeData). ReferencesMove setup past o (stored_volume o x n)) (sym given.change) (λ r uid h.
    let e : ref_to t.0 ≡ r = same_Some (ref_to t.0) r h.is in
    inr (record {
      claim = t.0;
      was = t.1;
      its = ap (λ (z : Ref). z.uid) e ∙ h.known;
      suits = given.suits;
      marks = λ had marked. sym (taken_marks o.claim_ref o.meta had) ∙ marked;
    }))

-- the told volume at the current version is the one that stands

one_at : (setup : Setup) (past : List Entry) (o a : VolumeData) (key : Key) (given : Option ℕ) → Stood setup past (Volume o)
    → key.kind ≡ kinds.PersistentVolume → IsWrittenAt given key.namespace key.name o.meta → row_at key (world setup past).store.rows ≡ Some (Volume a)
    → is_other_version given a.meta.version ≡ false → o ≡ a
one_at setup past o a key given was k at is v =
    let keyed : key_of (Volume o) ≡ key = λ i. record { kind = sym k i; namespace = at.placed i; name = at.named i } in
    same_volume o a
    (one_version_one_object setup past (Volume o) (Volume a) was (row_was setup past key (Volume a) is)
    (same_version given o.meta.version a.meta.version at.version v) (inl (keyed ∙ sym (row_at_key key (Volume a) _ is))))

module _ (setup : Setup) (past mine : List Entry) (inv : Invariant setup past) (known : Known setup past mine) where
  -- a row at the told volume is one at the volume that stands
  at_volume : (a : VolumeData) (key : Key) (given : Option ℕ) (Row : VolumeData → Type 0) → key.kind ≡ kinds.PersistentVolume
      → ToldVolume (λ o. IsWrittenAt given key.namespace key.name o.meta × Row o) mine → row_at key (world setup past).store.rows ≡ Some (Volume a)
      → is_other_version given a.meta.version ≡ false → Row a
  at_volume a key given Row k told is v =
      let t = told_volume setup past mine known.told (λ o. IsWrittenAt given key.namespace key.name o.meta × Row o) told in
      subst Row (one_at setup past t.0 a key given t.1 k t.2.0 is v) t.2.1

  -- what a binder or a scheduler writes on a volume
  given_volume : (a b : VolumeData) (given : Option ℕ) (n : ℕ) → GivesTo (ref_uid b.claim_ref) mine b given
      → is_other_version given a.meta.version ≡ false → row_at (key_of (Volume b)) (world setup past).store.rows ≡ Some (Volume a)
      → ReferencesMove setup past a (stored_volume a b n)
  given_volume a b given n gives v is = by (ref_uid b.claim_ref) refl gives
    where
      by : (u : Option Uid) → ref_uid b.claim_ref ≡ u → GivesTo u mine b given → ReferencesMove setup past a (stored_volume a b n)
      by None e g = λ r uid h. no_ref_uid b r uid e (record { is = h.is; known = h.known })
      by (Some u) e g =
          given_reference setup past mine known.told a b n (at_volume a (key_of (Volume b)) given (λ o. ToldClaim (IsGiven o b) mine) refl g is v)

guarded_volume : (setup : Setup) (past mine : List Entry) (a b : VolumeData) (n : ℕ) (guards : Bool) → VolumeMay (volume_guard guards) mine b a → ReferencesMove setup past a (stored_volume a b n)
guarded_volume setup past mine a b n true row = kept_reference setup past a (stored_volume a b n) (ap (λ (x : VolumeData). x.claim_ref) row.rest) (ap (λ (m : Meta). m.annotations) row.guard.change)
guarded_volume setup past mine a b n false row =
    kept_reference setup past a (stored_volume a b n) (ap (λ (x : VolumeData). x.claim_ref) row.change) (ap (λ (x : VolumeData). x.meta.annotations) row.change)

user_volume : (setup : Setup) (past : List Entry) (a b : VolumeData) (n : ℕ) → guard_on seats.User (Some (Volume a)) (Volume b) ≡ None → ReferencesMove setup past a (stored_volume a b n)
user_volume setup past a b n g r uid h =
    let p = passes (Some (Volume a)) (Volume b) g in
    let k = user_keeps a b r uid p (record { is = h.is; known = h.known }) in
    inl (record { is = k.reference ∙ h.is; known = h.known }, λ marked. ap is_some (mark_same (Some (Volume a)) (Volume b) k.clears p) ∙ marked)

module _ (setup : Setup) (past mine : List Entry) (inv : Invariant setup past) (known : Known setup past mine) where
  update_volume : (kind : SeatKind) (a b : VolumeData) (given : Option ℕ) (n : ℕ) → Licensed kind mine (requests.Update (Volume b) given)
      → GivesFitting kind mine (requests.Update (Volume b) given)
      → guard_on kind (Some (Volume a)) (Volume b) ≡ None → is_other_version given a.meta.version ≡ false
      → row_at (key_of (Volume b)) (world setup past).store.rows ≡ Some (Volume a) → ReferencesMove setup past a (stored_volume a b n)
  update_volume seats.User a b given n l f g v is = user_volume setup past a b n g
  update_volume seats.Binder a b given n l f g v is = given_volume setup past mine inv known a b given n f v is
  update_volume seats.Ops a b given n l f g v is = absurd l.1
  update_volume seats.Scheduler a b given n l f g v is = given_volume setup past mine inv known a b given n f v is
  update_volume seats.ClaimProtect a b given n l f g v is = absurd l.1
  update_volume seats.VolumeProtect a b given n l f g v is =
      guarded_volume setup past mine a b n (is_protected_volume b)
      (at_volume setup past mine inv known a (key_of (Volume b)) given (VolumeMay (volume_guard (is_protected_volume b)) mine b) refl l.1 is v)
  update_volume seats.Agent a b given n l f g v is = absurd l.1

-- claims

-- what keeps both annotations
kept_marks : (o new : ClaimData) → value_at bound_by_controller new.meta.annotations ≡ value_at bound_by_controller o.meta.annotations
    → value_at bind_completed new.meta.annotations ≡ value_at bind_completed o.meta.annotations → MarksMove o new
kept_marks o new mark done = record { marks = λ marked. inl (ap is_some (sym mark) ∙ marked); completed = λ completed. ap is_some done ∙ completed }

same_annotations : (o new : ClaimData) → new.meta.annotations ≡ o.meta.annotations → MarksMove o new
same_annotations o new e = kept_marks o new (ap (value_at bound_by_controller) e) (ap (value_at bind_completed) e)

completed_marks : (o : ClaimData) (v : VolumeData) (n : ℕ) → MarksMove o (stored_claim o (completed_with o v) n)
unfolding completed_with
completed_marks o v n =
    let done = ap is_some (value_put bind_completed yes (annotated_meta_if (is_empty o.volume_name) bound_by_controller o.meta).annotations) in
    record {
      marks = λ marked. by o.volume_name refl done (sym (ap is_some (completion_leaves_mark (annotated_meta_if (is_empty o.volume_name) bound_by_controller o.meta).annotations)) ∙ marked);
      completed = λ was. done;
    }
  where
    by : {done : Type 0} (name : List ℕ) → o.volume_name ≡ name → done
        → is_marked (annotated_meta_if (is_empty name) bound_by_controller o.meta) ≡ true → (is_marked o.meta ≡ true) ⊎ ((o.volume_name ≡ []) × done)
    by [] e done marked = inr (e, done)
    by (c ∷ cs) e done marked = inl marked

complete_marks : (setup : Setup) (past mine : List Entry) → IsTrue setup past mine → (o new : ClaimData) (n : ℕ) → MayComplete mine o new → MarksMove o (stored_claim o new n)
complete_marks setup past mine true_of o new n row =
    let t = told_volume setup past mine true_of (IsBoundFor o new) row in
    let b : IsBoundFor o new t.0 = t.2 in
    subst (λ (x : ClaimData). MarksMove o (stored_claim o x n)) (sym b.change) (completed_marks o t.0 n)

assign_marks : (mine : List Entry) (o new : ClaimData) (n : ℕ) → MayAssignClass mine o new → MarksMove o (stored_claim o new n)
assign_marks mine o new n row = same_annotations o (stored_claim o new n) (ap (λ (x : ClaimData). x.meta.annotations) row.change)

binder_marks : (setup : Setup) (past mine : List Entry) → IsTrue setup past mine → (o new : ClaimData) (n : ℕ) (done : Bool)
    → ClaimMay (binder_claim done) mine new o → MarksMove o (stored_claim o new n)
binder_marks setup past mine true_of o new n true row = complete_marks setup past mine true_of o new n row
binder_marks setup past mine true_of o new n false row = assign_marks mine o new n row

select_marks : (mine : List Entry) (o new : ClaimData) (n : ℕ) → MaySelectNode mine o new → MarksMove o (stored_claim o new n)
select_marks mine o new n row = kept_marks o (stored_claim o new n)
    (ap (λ (x : ClaimData). value_at bound_by_controller x.meta.annotations) row.change ∙ select_leaves_mark row.node.meta.name o.meta.annotations)
    (ap (λ (x : ClaimData). value_at bind_completed x.meta.annotations) row.change ∙ select_keeps row.node.meta.name o.meta.annotations)

clear_marks : (mine : List Entry) (o new : ClaimData) (n : ℕ) → MayClearNode mine o new → MarksMove o (stored_claim o new n)
clear_marks mine o new n row = kept_marks o (stored_claim o new n)
    (ap (λ (x : ClaimData). value_at bound_by_controller x.meta.annotations) row.change ∙ clear_leaves_mark o.meta.annotations)
    (ap (λ (x : ClaimData). value_at bind_completed x.meta.annotations) row.change ∙ clear_keeps o.meta.annotations)

guard_marks : (mine : List Entry) (o new : ClaimData) (n : ℕ) (guards : Bool) → ClaimMay (claim_guard guards) mine new o → MarksMove o (stored_claim o new n)
guard_marks mine o new n true row = same_annotations o (stored_claim o new n) (ap (λ (m : Meta). m.annotations) row.guard.change)
guard_marks mine o new n false row = same_annotations o (stored_claim o new n) (ap (λ (x : ClaimData). x.meta.annotations) row.change)

user_marks : (a b : ClaimData) (n : ℕ) → guard_on seats.User (Some (Claim a)) (Claim b) ≡ None → MarksMove a (stored_claim a b n)
user_marks a b n g =
    let p = passes (Some (Claim a)) (Claim b) g in
    kept_marks a (stored_claim a b n) (sym (mark_same (Some (Claim a)) (Claim b) refl p)) (sym (completion_same (Some (Claim a)) (Claim b) p))

module _ (setup : Setup) (past mine : List Entry) (inv : Invariant setup past) (known : Known setup past mine) where
  update_claim : (kind : SeatKind) (a b : ClaimData) (given : Option ℕ) (n : ℕ) → Licensed kind mine (requests.Update (Claim b) given)
      → guard_on kind (Some (Claim a)) (Claim b) ≡ None → is_other_version given a.meta.version ≡ false
      → row_at (key_of (Claim b)) (world setup past).store.rows ≡ Some (Claim a) → MarksMove a (stored_claim a b n)
  update_claim seats.User a b given n l g v is = user_marks a b n g
  update_claim seats.Binder a b given n l g v is =
      binder_marks setup past mine known.told a b n (is_completed b) (at_claim setup past mine inv known a (key_of (Claim b)) given (ClaimMay (binder_claim (is_completed b)) mine b) refl l.1 is v)
  update_claim seats.Ops a b given n l g v is =
      clear_marks mine a b n (at_claim setup past mine inv known a (key_of (Claim b)) given (λ o. MayClearNode mine o b) refl l.1 is v)
  update_claim seats.Scheduler a b given n l g v is =
      select_marks mine a b n (at_claim setup past mine inv known a (key_of (Claim b)) given (λ o. MaySelectNode mine o b) refl l.1 is v)
  update_claim seats.ClaimProtect a b given n l g v is =
      guard_marks mine a b n (is_protected_claim b) (at_claim setup past mine inv known a (key_of (Claim b)) given (ClaimMay (claim_guard (is_protected_claim b)) mine b) refl l.1 is v)
  update_claim seats.VolumeProtect a b given n l g v is = absurd l.1
  update_claim seats.Agent a b given n l g v is = absurd l.1

-- each verb

-- what follows the object that stands
follows : (setup : Setup) (past : List Entry) (o old : Object) → row_at (key_of o) (world setup past).store.rows ≡ Some old → KindMoves setup past old o → Fitted setup past o
follows setup past o old there step = record {
  moves = λ x is. subst (λ (y : Object). KindMoves setup past y o) (same_Some old x (sym there ∙ is)) step;
  begins = λ none. none_some (sym none ∙ there);
}

module _ (setup : Setup) (past mine : List Entry) (inv : Invariant setup past) (known : Known setup past mine) where
  update_moves : (kind : SeatKind) (old new : Object) (given : Option ℕ) (n : ℕ) → Licensed kind mine (requests.Update new given)
      → GivesFitting kind mine (requests.Update new given)
      → guard_on kind (Some old) new ≡ None → is_other_version given (meta_of old).version ≡ false
      → row_at (key_of new) (world setup past).store.rows ≡ Some old → update_fault old new ≡ None
      → KindMoves setup past old (updated_object old new n)
  unfolding updated_object with_status_of with_meta
  update_moves kind (Volume a) (Volume b) given n l f g v is e = let s = volume_fixed a b e in
      record { bytes = s.0; mode = s.1; refers = update_volume setup past mine inv known kind a b given n l f g v is }
  update_moves kind (Claim a) (Claim b) given n l f g v is e = let s = claim_fixed a b e in record { bytes = s.0; mode = s.1; marks = update_claim setup past mine inv known kind a b given n l g v is }
  update_moves kind old new given n l f g v is e = tt

edit_moves : (setup : Setup) (past : List Entry) (old new : Object) (n : ℕ) → guard_on seats.User (Some old) new ≡ None → update_fault old new ≡ None
    → KindMoves setup past old (updated_object old new n)
unfolding updated_object with_status_of with_meta
edit_moves setup past (Volume a) (Volume b) n g e = let s = volume_fixed a b e in record { bytes = s.0; mode = s.1; refers = user_volume setup past a b n g }
edit_moves setup past (Claim a) (Claim b) n g e = let s = claim_fixed a b e in record { bytes = s.0; mode = s.1; marks = user_marks a b n g }
edit_moves setup past old new n g e = tt

edited : (setup : Setup) (past : List Entry) (new o : Object) → IsUpdate (world setup past).store seats.User new None o → Fitted setup past o
edited setup past new o u =
    follows setup past o u.old (updated_next (world setup past).store seats.User new None o u).there
    (subst (KindMoves setup past u.old) (sym u.is) (edit_moves setup past u.old new _ u.guard u.fault))

-- no controller edits
edit_fitted : (setup : Setup) (past mine : List Entry) (kind : SeatKind) (key : Key) (change : Edit) (o : Object)
    → Licensed kind mine (requests.Edit key change) → IsEdit (world setup past).store kind o → Fitted setup past o
edit_fitted setup past mine seats.User key change o l f = edited setup past f.new o f.update
edit_fitted setup past mine kind key change o l f = absurd l.1

status_moves : (setup : Setup) (past : List Entry) (status : NewStatus) (old new : Object) (n : ℕ) → with_status status old ≡ Some new → KindMoves setup past old (at_version new n)
unfolding with_status at_version with_meta
status_moves setup past (statuses.Volume phase) (Volume a) new n fits =
    subst (λ (x : Object). KindMoves setup past (Volume a) (at_version x n)) (same_Some _ _ fits) (record { bytes = refl; mode = refl; refers = kept_reference setup past a _ refl refl })
status_moves setup past (statuses.Claim phase modes amount) (Claim a) new n fits =
    subst (λ (x : Object). KindMoves setup past (Claim a) (at_version x n)) (same_Some _ _ fits) (record { bytes = refl; mode = refl; marks = same_annotations a _ refl })
status_moves setup past status old new n fits = absurd (true≢false (sym (ap is_some fits)))

mark_moves : (setup : Setup) (past : List Entry) (old : Object) (n : ℕ) (moment : List ℕ) → KindMoves setup past old (marked_object old n moment)
unfolding marked_object with_meta
mark_moves setup past (Volume a) n moment = record { bytes = refl; mode = refl; refers = kept_reference setup past a _ refl refl }
mark_moves setup past (Claim a) n moment = record { bytes = refl; mode = refl; marks = same_annotations a _ refl }
mark_moves setup past old n moment = tt

-- creates

abbrev NamesFitting : Setup → List Entry → VolumeData → Type 0
NamesFitting setup past v = (r : Ref) (uid : Uid) → Refers v r uid → (c : ClaimData) × (Stood setup past (Claim c) × ((c.meta.uid ≡ Some uid) × Fits v c))

created_volume : (setup : Setup) (past : List Entry) (default : Option (List ℕ)) (v : VolumeData) (n : ℕ) (moment : List ℕ) → NamesFitting setup past v
    → KindBegins setup past (created_object default (Volume v) n moment)
unfolding created_object admitted_object without_status with_meta
created_volume setup past default v n moment names r uid h =
    let c = names r uid (record { is = h.is; known = h.known }) in
    (c.0, (c.1.0, (c.1.1.0, record { bytes = c.1.1.1.bytes; mode = c.1.1.1.mode })))

created_begins : (setup : Setup) (past : List Entry) (default : Option (List ℕ)) (new : Object) (n : ℕ) (moment : List ℕ)
    → ((v : VolumeData) → new ≡ Volume v → NamesFitting setup past v) → ((c : ClaimData) → new ≡ Claim c → is_marked c.meta ≡ false)
    → KindBegins setup past (created_object default new n moment)
unfolding created_object admitted_object without_status with_meta
created_begins setup past default (Volume v) n moment names unmarked = created_volume setup past default v n moment (names v refl)
created_begins setup past default (Claim c) n moment names unmarked = unmarked c refl
created_begins setup past default new n moment names unmarked = tt

-- the reference of a provisioned volume names a claim of its bytes and mode
provisioned : (setup : Setup) (past mine : List Entry) → IsTrue setup past mine → (v : VolumeData) → MayCreate mine v → NamesFitting setup past v
unfolding provisioned_volume
provisioned setup past mine true_of v row r uid h =
    let t = true_of (λ x. x ≡ Claim row.claim) (newest_told mine _ (Claim row.claim) row.newest) in
    let was : Stood setup past (Claim row.claim) = subst (Stood setup past) t.2 t.1 in
    let e : ref_to row.claim ≡ r = same_Some _ _ (sym (ap (λ (x : VolumeData). x.claim_ref) row.object) ∙ h.is) in
    let bytes : v.amount.bytes ≡ row.claim.amount.bytes = ap (λ (x : VolumeData). x.amount.bytes) row.object in
    (row.claim, (was, (ap (λ (z : Ref). z.uid) e ∙ h.known, record { bytes = omega (arith, bytes); mode = ap (λ (x : VolumeData). x.block) row.object })))

create_names : (setup : Setup) (past mine : List Entry) → IsTrue setup past mine → (kind : SeatKind) (new : Object) → Licensed kind mine (requests.Create new)
    → guard_on kind None new ≡ None → (v : VolumeData) → new ≡ Volume v → NamesFitting setup past v
create_names setup past mine true_of seats.User new l g v is r uid h = no_uid_given v r uid (passes None (Volume v) (subst (λ (x : Object). guard_on seats.User None x ≡ None) is g)) h
create_names setup past mine true_of seats.Ops new l g v is r uid h =
    let row : Licensed seats.Ops mine (requests.Create (Volume v)) = subst (λ (x : Object). Licensed seats.Ops mine (requests.Create x)) is l in
    provisioned setup past mine true_of v row.1 r uid h
create_names setup past mine true_of kind new l g v is r uid h = absurd l.1

-- users create no claim with the mark, and no controller creates one
create_unmarked : (mine : List Entry) (kind : SeatKind) (new : Object) → Licensed kind mine (requests.Create new)
    → guard_on kind None new ≡ None → (c : ClaimData) → new ≡ Claim c → is_marked c.meta ≡ false
create_unmarked mine seats.User new l g c is =
    let p = passes None (Claim c) (subst (λ (x : Object). guard_on seats.User None x ≡ None) is g) in
    ap is_some (sym (mark_same None (Claim c) refl p))
create_unmarked mine seats.Ops new l g c is = absurd (subst (λ (x : Object). Licensed seats.Ops mine (requests.Create x)) is l).1
create_unmarked mine kind new l g c is = absurd l.1

-- each write of an allowed request that gives fittingly
pub fitted : (setup : Setup) (past mine : List Entry) → Invariant setup past → Known setup past mine → (kind : SeatKind) (request : Request)
    → Licensed kind mine request → GivesFitting kind mine request → (o : Object) → Writes (world setup past) kind request o → Fitted setup past o
fitted setup past mine inv known kind (requests.Create new) l f o w =
    let first = created_first (world setup past).store kind (world setup past).moment new o w in
    record {
      moves = λ old there. none_some (sym first.free ∙ there);
      begins = λ none. subst (KindBegins setup past) (sym w.is)
          (created_begins setup past _ new _ _ (create_names setup past mine known.told kind new l w.guard) (create_unmarked mine kind new l w.guard));
    }
fitted setup past mine inv known kind (requests.Update new given) l f o w =
    follows setup past o w.old (updated_next (world setup past).store kind new given o w).there
    (subst (KindMoves setup past w.old) (sym w.is) (update_moves setup past mine inv known kind w.old new given _ l f w.guard w.version w.there w.fault))
fitted setup past mine inv known kind (requests.UpdateStatus key status given) l f o w =
    follows setup past o w.old (status_next (world setup past).store kind key status given o w).there
    (subst (KindMoves setup past w.old) (sym w.is) (status_moves setup past status w.old w.new _ w.fits))
fitted setup past mine inv known kind (requests.Edit key change) l f o w = edit_fitted setup past mine kind key change o l w
fitted setup past mine inv known kind (requests.Delete key given) l f o w =
    follows setup past o w.old (marked_next (world setup past).store (world setup past).moment key given o w).there
    (subst (KindMoves setup past w.old) (sym w.is) (mark_moves setup past w.old _ _))
fitted setup past mine inv known kind (requests.BindPod key uid node) l f o w =
    follows setup past o (Pod w.pod) (bound_next (world setup past).store kind key uid node o w).there tt
fitted setup past mine inv known kind (requests.FinishPod key uid node epoch) l f o w =
    follows setup past o (Pod w.pod) (finished_next (world setup past).store kind key uid node _ o w).there tt
fitted setup past mine inv known kind request l f o w = absurd w
