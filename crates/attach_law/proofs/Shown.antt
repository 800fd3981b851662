-- A write keeps the phase of a claim, or is a status that its binder showed with evidence; and what is imported in phase Bound is bound.
use Rattle.std.proofs.Common.{sym, refl, subst, inl, inr, ap, ◌∙◌, true≢false}
use Rattle.std.proofs.lemmas.Bool.{and_parts}
use Rattle.std.proofs.lemmas.Option.{none-some, same_Some}
use Rattle.std.specs.Prelude.{if◌then◌else◌, not, ◌&&◌, ℕ, ◌≡◌, ◌+◌, Bool, true, false, List, [], ◌∷◌, Option, Some, None}
use Rattle.std.specs.List.{list_any}
use Rattle.kube_parts.specs.declared.uid.Uid.{Uid}
use Rattle.kube_objects.specs.declared.key.Key.{Key}
use Rattle.kube_parts.specs.declared.parts.ClaimPhase.{ClaimPhase}
use Rattle.kube_parts.specs.declared.parts.ClaimPhase.TheVariants as claims
use Rattle.kube_parts.specs.declared.parts.Modes.{Modes}
use Rattle.kube_objects.specs.declared.objects.Amount.{Amount}
use Rattle.kube_objects.specs.declared.objects.Claim.{Claim as ClaimData}
use Rattle.kube_objects.specs.declared.objects.Object.{Object}
use Rattle.kube_objects.specs.declared.objects.Object.TheVariants.{Class, Node, Volume, Claim, Pod}
use Rattle.kube_objects.specs.Keys.{key_of, meta_of, row_at}
use Rattle.kube_objects.specs.Bindings.{is_completed}
use Rattle.call_types.specs.declared.entry.Entry.{Entry}
use Rattle.call_types.specs.declared.setup.Setup.{Setup}
use Rattle.call_types.specs.declared.request.NewStatus.{NewStatus}
use Rattle.call_types.specs.declared.request.NewStatus.TheVariants as statuses
use Rattle.call_types.specs.declared.request.SeatKind.{SeatKind}
use Rattle.call_types.specs.declared.request.SeatKind.TheVariants as seats
use Rattle.call_types.specs.declared.request.Request.{Request}
use Rattle.call_types.specs.declared.request.Request.TheVariants as requests
use Rattle.binder_model.specs.Answers.{is_other_version, is_user, with_status}
use Rattle.binder_model.specs.BinderLicence.{IsShown, MayShow}
use Rattle.binder_model.specs.BindWrites.{is_claim_bound}
use Rattle.binder_model.specs.Imports.{ImportsPass, binds_claim, imported_object, imported_phase, is_imported_as_lost, shares_uid}
use Rattle.binder_model.specs.Licence.{ClaimPhaseMay, Licensed, Shows}
use Rattle.binder_model.specs.Run.{Run}
use Rattle.binder_model.specs.Safe.{is_lost_import, was_imported_as_lost}
use Rattle.binder_model.specs.Store.{State, at_version, marked_object, updated_object, with_meta, with_status_of}
use Rattle.binder_model.specs.Told.{own}
use Rattle.binder_model.specs.World.{world}
use Rattle.model_laws.specs.Stood.{Stands, Stood}
use Rattle.model_laws.proofs.Imported.{ComesFrom, from_uid, import_row, one_import}
use Rattle.model_laws.proofs.Stood.{stood}
use Rattle.safety_law.specs.Invariant.Good.{Good}
use Rattle.safety_law.specs.Invariant.Invariant.{Invariant, IsLater}
use Rattle.safety_law.specs.Invariant.Was.{WasBound}
use Rattle.safety_law.specs.Invariant.Writes.{IsIn, IsUpdate, WriteOf}
use Rattle.safety_law.proofs.Invariant.Came.{ClaimCame, claim_came, row_was}
use Rattle.safety_law.proofs.Invariant.KeptBindings.{carries_on, later_bound}
use Rattle.safety_law.proofs.Invariant.Known.{invariant_of, told_volume, told_was}
use Rattle.safety_law.proofs.Invariant.Moves.{moves}
use Rattle.safety_law.proofs.Invariant.Tests.{uid_is}
use Rattle.safety_law.proofs.Invariant.Whence.{created_first, marked_next, status_next, updated_next}
use Rattle.safety_law.proofs.Law.Allowed.{at_claim}
use Rattle.safety_law.proofs.Law.FirstWorld.{first_world_is_good}
use Rattle.safety_law.proofs.Law.Law.{room_for}
use Rattle.safety_law.proofs.Law.Runs.{known, run_good}
use Rattle.attach_law.specs.Shown.{ShownClaimsWereBound}
use Rattle.attach_law.proofs.Listed.{any_gives}

abbrev is_claim : Object → Bool
is_claim (Claim c) = true
is_claim o = false

abbrev phase_in : ClaimPhase → Object → ClaimPhase
phase_in other (Claim c) = c.phase
phase_in other o = other

-- ---- what a write makes of the phase

updated_phase : (old c : ClaimData) (new : Object) (n : ℕ) → Claim c ≡ updated_object (Claim old) new n → c.phase ≡ old.phase
unfolding updated_object with_status_of with_meta
updated_phase old c (Claim x) n e = ap (phase_in old.phase) e
updated_phase old c (Class x) n e = absurd (true≢false (ap is_claim e))
updated_phase old c (Node x) n e = absurd (true≢false (ap is_claim e))
updated_phase old c (Volume x) n e = absurd (true≢false (ap is_claim e))
updated_phase old c (Pod x) n e = absurd (true≢false (ap is_claim e))

marked_phase : (old c : ClaimData) (n : ℕ) (moment : List ℕ) → Claim c ≡ marked_object (Claim old) n moment → c.phase ≡ old.phase
unfolding marked_object with_meta
marked_phase old c n moment e = ap (phase_in old.phase) e

version_phase : (a c : ClaimData) (n : ℕ) → Claim c ≡ at_version (Claim a) n → c.phase ≡ a.phase
unfolding at_version with_meta
version_phase a c n e = ap (phase_in a.phase) e

-- the request writes phase Bound on this claim, as a controller may
record IsShowing (s : State) (kind : SeatKind) (request : Request) (old : ClaimData) : Type 0 where
  key : Key
  modes : Modes
  amount : Option Amount
  given : Option ℕ
  asked : request ≡ requests.UpdateStatus key (statuses.Claim claims.Bound modes amount) given
  there : row_at key s.rows ≡ Some (Claim old)
  version : is_other_version given old.meta.version ≡ false
  controller : is_user kind ≡ false

data PhaseCame (s : State) (kind : SeatKind) (request : Request) (old c : ClaimData) : Type 0 where
  Kept : c.phase ≡ old.phase → PhaseCame s kind request old c
  Shown : IsShowing s kind request old → PhaseCame s kind request old c

object_of : Object → Option Object → Object
object_of other (Some o) = o
object_of other None = other

-- a status that leaves a claim in phase Bound
showing : (s : State) (kind : SeatKind) (key : Key) (status : NewStatus) (given : Option ℕ) (old c new : ClaimData) (fresh : Object)
    → with_status status (Claim old) ≡ Some fresh → Claim c ≡ at_version fresh (s.version + 1) → is_claim_bound c.phase ≡ true
    → row_at key s.rows ≡ Some (Claim old) → is_other_version given old.meta.version ≡ false → is_user kind ≡ false
    → IsShowing s kind (requests.UpdateStatus key status given) old
unfolding with_status
showing s kind key (statuses.Volume phase) given old c new fresh fits is shown there version controller = absurd (none-some _ fits)
showing s kind key (statuses.Claim phase modes amount) given old c new fresh fits is shown there version controller =
    let made : Claim (record old { phase = phase; got_modes = modes; got = amount }) ≡ fresh = same_Some _ _ fits in
    let same : c.phase ≡ phase = version_phase (record old { phase = phase; got_modes = modes; got = amount }) c (s.version + 1) (is ∙ ap (λ o. at_version o (s.version + 1)) (sym made)) in
    by phase (ap is_claim_bound (sym same) ∙ shown)
  where
    by : (p : ClaimPhase) → is_claim_bound p ≡ true → IsShowing s kind (requests.UpdateStatus key (statuses.Claim p modes amount) given) old
    by claims.Bound b = record { key = key; modes = modes; amount = amount; given = given; asked = refl; there = there; version = version; controller = controller }
    by claims.Pending b = absurd (true≢false (sym b))
    by claims.Lost b = absurd (true≢false (sym b))

-- how the claim came to be in phase Bound
came_by : (s : State) (kind : SeatKind) (moment : List ℕ) (stale : Option ℕ) (request : Request) (old c : ClaimData) → row_at (key_of (Claim c)) s.rows ≡ Some (Claim old)
    → is_claim_bound c.phase ≡ true → WriteOf s kind moment stale request (Claim c) → PhaseCame s kind request old c
unfolding at_version with_meta
came_by s kind moment stale (requests.Create new) old c there shown w = absurd (none-some _ (sym (created_first s kind moment new (Claim c) w).free ∙ there))
came_by s kind moment stale (requests.Update new given) old c there shown w = Kept (updated s kind new given old c there w)
  where
    updated : (s : State) (kind : SeatKind) (new : Object) (given : Option ℕ) (old c : ClaimData) → row_at (key_of (Claim c)) s.rows ≡ Some (Claim old)
        → IsUpdate s kind new given (Claim c) → c.phase ≡ old.phase
    updated s kind new given old c there u =
        let same : u.old ≡ Claim old = same_Some _ _ (sym (updated_next s kind new given (Claim c) u).there ∙ there) in
        updated_phase old c new (s.version + 1) (u.is ∙ ap (λ o. updated_object o new (s.version + 1)) same)
came_by s kind moment stale (requests.Edit key change) old c there shown w = Kept (updated s kind w.new None old c there w.update)
  where
    updated : (s : State) (kind : SeatKind) (new : Object) (given : Option ℕ) (old c : ClaimData) → row_at (key_of (Claim c)) s.rows ≡ Some (Claim old)
        → IsUpdate s kind new given (Claim c) → c.phase ≡ old.phase
    updated s kind new given old c there u =
        let same : u.old ≡ Claim old = same_Some _ _ (sym (updated_next s kind new given (Claim c) u).there ∙ there) in
        updated_phase old c new (s.version + 1) (u.is ∙ ap (λ o. updated_object o new (s.version + 1)) same)
came_by s kind moment stale (requests.UpdateStatus key status given) old c there shown w =
    let same : w.old ≡ Claim old = same_Some _ _ (sym (status_next s kind key status given (Claim c) w).there ∙ there) in
    let version = ap (λ o. is_other_version given (meta_of o).version) (sym same) ∙ w.version in
    Shown (showing s kind key status given old c c w.new (ap (with_status status) (sym same) ∙ w.fits) w.is shown (w.there ∙ ap (λ o. Some o) same) version w.controller)
came_by s kind moment stale (requests.Delete key given) old c there shown w =
    let same : w.old ≡ Claim old = same_Some _ _ (sym (marked_next s moment key given (Claim c) w).there ∙ there) in
    Kept (marked_phase old c (s.version + 1) moment (w.is ∙ ap (λ o. marked_object o (s.version + 1) moment) same))
came_by s kind moment stale (requests.BindPod key uid node) old c there shown w = absurd (true≢false (ap is_claim w.is))
came_by s kind moment stale (requests.FinishPod key uid node epoch) old c there shown w = absurd (true≢false (ap is_claim w.is))
came_by s kind moment stale request old c there shown w = absurd w

-- ---- who shows it has evidence

-- a later version of a claim that was bound was bound to the same volume
pub from_later : (setup : Setup) (past : List Entry) → Invariant setup past → (a b : ClaimData) → IsLater (Claim a) (Claim b) → WasBound setup past a → WasBound setup past b
from_later setup past inv a b later w = record {
  volume = w.volume;
  was = w.was;
  bound = w.bound;
  carries = carries_on w.volume a b later.key later.keeps.uid ∙ w.carries;
  names = elim later.keeps.named [
    | inl none ↦ absurd ((inv.placed w.volume w.was).titled (sym w.names ∙ none))
    | inr same ↦ same ∙ w.names
  ];
}

came_later : (setup : Setup) (past : List Entry) (c : ClaimData) (came : ClaimCame setup past c) → IsLater (Claim came.old) (Claim c)
came_later setup past c came = record { key = came.next.key; keeps = came.next.keeps }

shown_by : (setup : Setup) (past : List Entry) → Good setup past → (seat : ℕ) (kind : SeatKind) (key : Key) (modes : Modes) (amount : Option Amount) (given : Option ℕ)
    → Licensed kind (own seat past) (requests.UpdateStatus key (statuses.Claim claims.Bound modes amount) given) → is_user kind ≡ false
    → (a : ClaimData) → row_at key (world setup past).store.rows ≡ Some (Claim a) → is_other_version given a.meta.version ≡ false → WasBound setup past a
shown_by setup past g seat seats.User key modes amount given l c a there v = absurd (true≢false c)
shown_by setup past g seat seats.Binder key modes amount given l c a there v =
    let inv = invariant_of setup past g in
    let may = ClaimPhaseMay Shows (own seat past) modes amount in
    let row : MayShow (own seat past) a modes amount = at_claim setup past (own seat past) inv (known setup past g seat) a key given may l.1.0 l.1.1 there v in
    let t = told_volume setup past (own seat past) (told_was setup past g seat) (IsShown a modes amount) row.told in
    record { volume = t.0; was = t.1; bound = t.2.bound; carries = t.2.carries; names = sym t.2.named }
shown_by setup past g seat kind key modes amount given l c a there v = absurd l.1

-- ---- the first world

-- two UIDs that are shared are one
shared : (u w : Option Uid) → shares_uid u w ≡ true → (x : Uid) × ((u ≡ Some x) × (w ≡ Some x))
shared None w e = absurd (true≢false (sym e))
shared (Some x) w e = (x, (refl, uid_is w x e))

lost_phase : (imports : List Object) (c y : ClaimData) → Claim c ≡ imported_object imports (Claim y) → is_imported_as_lost imports y ≡ true → is_claim_bound c.phase ≡ true → ⊥
unfolding imported_object
lost_phase imports c y e lost shown =
    let t = and_parts (is_completed y) (not (list_any (binds_claim y) imports)) lost in
    let same : c.phase ≡ imported_phase imports y = ap (phase_in (imported_phase imports y)) e in
    true≢false (sym shown ∙ ap is_claim_bound (same ∙ lost_is (is_completed y) (list_any (binds_claim y) imports) t.0 t.1))
  where
    lost_is : (done bound : Bool) → done ≡ true → not bound ≡ true → (if not done then claims.Pending else if done && not bound then claims.Lost else y.phase) ≡ claims.Lost
    lost_is true false d b = refl
    lost_is true true d b = absurd (true≢false (sym b))
    lost_is false bound d b = absurd (true≢false (sym d))

first_shown : (setup : Setup) → ImportsPass setup.imports → Invariant setup [] → (c : ClaimData) → Stands (world setup []) (Claim c) → is_completed c ≡ true
    → is_claim_bound c.phase ≡ true → WasBound setup [] c
first_shown setup pass inv c was done shown = by (was_imported_as_lost setup c.meta.uid) refl
  where
    row : ComesFrom setup.imports setup.imports (Claim c)
    row = import_row setup.imports setup.imports (key_of (Claim c)) (Claim c) was

    lost_is : (x : Object) → IsIn x setup.imports → is_lost_import setup.imports c.meta.uid x ≡ true → ⊥
    lost_is (Claim y) h e =
        let t = and_parts (shares_uid y.meta.uid c.meta.uid) (is_imported_as_lost setup.imports y) e in
        let u = shared y.meta.uid c.meta.uid t.0 in
        let same : row.import ≡ Claim y = one_import [] setup.imports pass row.import (Claim y) u.0 row.given h (sym (from_uid setup.imports setup.imports (Claim c) row) ∙ u.1.1) u.1.0 in
        lost_phase setup.imports c y (row.is ∙ ap (imported_object setup.imports) same) t.1 shown
    lost_is (Class y) h e = true≢false (sym e)
    lost_is (Node y) h e = true≢false (sym e)
    lost_is (Volume y) h e = true≢false (sym e)
    lost_is (Pod y) h e = true≢false (sym e)

    by : (b : Bool) → was_imported_as_lost setup c.meta.uid ≡ b → WasBound setup [] c
    by false lost = inv.completed (key_of (Claim c)) c was done lost
    by true lost = let s = any_gives (is_lost_import setup.imports c.meta.uid) setup.imports lost in absurd (lost_is s.it s.among s.test)

-- ---- entry by entry

-- so it was of each such claim, by now
abbrev AreBound : Setup → List Entry → Type 0
AreBound setup past = (c : ClaimData) → Stood setup past (Claim c) → is_completed c ≡ true → is_claim_bound c.phase ≡ true → WasBound setup past c

pub shown_was_bound : (setup : Setup) → ImportsPass setup.imports → (past : List Entry) → Good setup past → Run setup past → AreBound setup past
shown_was_bound setup pass [] g run c was done shown = first_shown setup pass g c was done shown
shown_was_bound setup pass (e ∷ past) g run c was done shown = by (shown_was_bound setup pass past g.0 run.0) was
  where
    inv : Invariant setup past
    inv = invariant_of setup past g.0

    now : AreBound setup past → (came : ClaimCame setup past c) → is_completed came.old ≡ true
        → PhaseCame (world setup past).store e.kind e.request came.old c → WasBound setup past c
    now ih came before (Kept same) =
        let stood_before = row_was setup past (key_of (Claim c)) (Claim came.old) came.next.there in
        from_later setup past inv came.old c (came_later setup past c came) (ih came.old stood_before before (ap is_claim_bound (sym same) ∙ shown))
    now ih came before (Shown s) =
        let licence = subst (Licensed e.kind (own e.seat past)) s.asked run.2 in
        from_later setup past inv came.old c (came_later setup past c came) (shown_by setup past g.0 e.seat e.kind s.key s.modes s.amount s.given licence s.controller came.old s.there s.version)

    by : AreBound setup past → Stood setup (e ∷ past) (Claim c) → WasBound setup (e ∷ past) c
    by ih (inl before) = later_bound setup e past c (ih c before done shown)
    by ih (inr stands) = later_bound setup e past c (elim (g.1.row (key_of (Claim c)) (Claim c) stands) [
      | inl same ↦ ih c (stood setup past (Claim c) same) done shown
      | inr new ↦ elim ((moves setup (world setup past) e.kind e.request inv.order).row (key_of (Claim c)) (Claim c) stands) [
        | inl same ↦ ih c (stood setup past (Claim c) same) done shown
        | inr written ↦ elim (claim_came setup past c new.write) [
          | inl began ↦ absurd (true≢false (sym done ∙ began.start.fresh))
          | inr came ↦ elim (came.step.completed done) [
            | inr bound ↦ bound
            | inl before ↦ now ih came before (came_by (world setup past).store e.kind (world setup past).moment _ e.request came.old c came.next.there shown written.write)
          ]
        ]
      ]
    ])

pub shown_claims_were_bound : ShownClaimsWereBound
shown_claims_were_bound setup past run c was done shown =
    let start = first_world_is_good setup run.imports in
    shown_was_bound setup run.imports past (run_good setup start.invariant past (room_for setup start past run.short) run.run) run.run c was done shown
