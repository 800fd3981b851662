-- Quotas are kept in each run that holds back what it should.
use Rattle.std.proofs.Common.{◌≡◌, ℕ, List, [], ◌∷◌, ◌++◌, false, Option, Some, None, inl, inr, refl, sym, subst, ap, ◌∙◌, true≢false}
use Rattle.std.specs.Prelude.{is_none}
use Rattle.kube_objects.specs.declared.key.Key.{Key}
use Rattle.kube_parts.specs.declared.uid.Uid.{Uid}
use Rattle.kube_objects.specs.declared.objects.Object.{Object}
use Rattle.kube_objects.specs.declared.objects.Object.TheVariants.{Class, Node, Volume, Claim, Pod}
use Rattle.kube_objects.specs.Keys.{AreRows, key_of, meta_of, put_row, row_at, without_row}
use Rattle.kube_parts.specs.Uids.{uid_of_serial}
use Rattle.kube_objects.proofs.KeyOrder.{row_at-put_row, row_at-put_row_other, row_at-without_row, row_at-without_row_other}
use Rattle.kube_objects.proofs.SameKeys.{key_tells}
use Rattle.call_types.specs.declared.entry.Entry.{Entry}
use Rattle.call_types.specs.declared.setup.Setup.{Setup}
use Rattle.call_types.specs.declared.reply.Change.{Change}
use Rattle.call_types.specs.declared.reply.Change.TheVariants.{Added, Modified, Deleted}
use Rattle.binder_model.specs.Imports.{ImportsPass, PassAfter}
use Rattle.binder_model.specs.Run.{Run}
use Rattle.binder_model.specs.Store.{admitted_object, created_object, with_meta, without_status}
use Rattle.binder_model.specs.Told.{own}
use Rattle.binder_model.specs.Answers.{Says, Stores, Removes, after}
use Rattle.binder_model.specs.World.{IsHistory, World, Effect, OnStore, OnDevices, SetsMoment, effect, world, world_after}
use Rattle.model_laws.proofs.Changes.{ChangeOf, IsInPlace, outcome_changes}
use Rattle.model_laws.proofs.Effects.{OnEffect, on_effects}
use Rattle.model_laws.proofs.Histories.{rows_stand_in_order}
use Rattle.model_laws.proofs.Imported.{from_uid, import_row, passed}
use Rattle.model_laws.proofs.Lists.{IsIn}
use Rattle.side_laws.specs.Laws.{QuotasAreKept}
use Rattle.side_model.specs.Sides.{SideSetup}
use Rattle.side_model.specs.Merged.{Step, OfWorld, OfSide, entries}
use Rattle.side_model.specs.Within.{HoldsBack}
use Rattle.side_laws.specs.Mirrors.{HaveUids}
use Rattle.side_laws.specs.Fair.{IsFair, IsMirrored}
use Rattle.side_laws.proofs.Creates.{AddedOf, IsAdded, creates_pass, outcome_added}
use Rattle.side_laws.proofs.Kept.{fair_runs_keep_quotas}
use Rattle.side_laws.proofs.Mirrors.{none_some, some_is}
use Rattle.side_laws.proofs.Standing.{sizes_always_stand}

abbrev HasUid : Object → Type 0
HasUid o = (uid : Uid) × ((meta_of o).uid ≡ Some uid)

uid_there : (x : Option Uid) → is_none x ≡ false → (uid : Uid) × (x ≡ Some uid)
uid_there None e = absurd (true≢false e)
uid_there (Some u) e = (u, refl)

-- ---- imports

import_has : (before os : List Object) → PassAfter before os → (o : Object) → IsIn o os → HasUid o
import_has before [] p o h = absurd h
import_has before (x ∷ os) p o (inl is) = subst HasUid is (uid_there (meta_of x).uid (passed before x p.0).known)
import_has before (x ∷ os) p o (inr more) = import_has (before ++ x ∷ []) os p.1 o more

-- ---- calls

created_has : (default : Option (List ℕ)) (given : Object) (version : ℕ) (moment : List ℕ) → HasUid (created_object default given version moment)
unfolding created_object admitted_object without_status with_meta
created_has default (Class x) version moment = (uid_of_serial version, refl)
created_has default (Node x) version moment = (uid_of_serial version, refl)
created_has default (Volume x) version moment = (uid_of_serial version, refl)
created_has default (Claim x) version moment = (uid_of_serial version, refl)
created_has default (Pod x) version moment = (uid_of_serial version, refl)

module _ (w : World) (uids : HaveUids w.store.rows) where
  put_has : (o : Object) → HasUid o → HaveUids (put_row o w.store.rows)
  put_has o has key p is = elim (key_tells (key_of o) key) [
    | inl same ↦ subst HasUid (some_is o p (sym (row_at-put_row o w.store.rows) ∙ ap (λ (k : Key). row_at k (put_row o w.store.rows)) same ∙ is)) has
    | inr other ↦ uids key p (sym (row_at-put_row_other key o w.store.rows other) ∙ is)
  ]

  without_has : (o : Object) → AreRows w.store.rows → HaveUids (without_row (key_of o) w.store.rows)
  without_has o order key p is = elim (key_tells (key_of o) key) [
    | inl same ↦ none_some p (sym (row_at-without_row (key_of o) w.store.rows order) ∙ ap (λ (k : Key). row_at k (without_row (key_of o) w.store.rows)) same ∙ is)
    | inr other ↦ uids key p (sym (row_at-without_row_other (key_of o) key w.store.rows other) ∙ is)
  ]

  stored_has : (e : Entry) (change : Change) (o : Object) → IsInPlace w.store.rows change o → IsAdded e.request change o → HasUid o
  stored_has e Added o place added =
      let has = created_has added.default added.given added.version added.moment in
      (has.0, ap (λ (z : Object). (meta_of z).uid) added.is ∙ has.1)
  stored_has e Modified o place added = let t = uids (key_of o) place.0 place.1.0 in (t.0, place.1.1.uid ∙ t.1)
  stored_has e Deleted o place added = let t = uids (key_of o) place.0 place.1.0 in (t.0, place.1.1.uid ∙ t.1)

  by_effect : (e : Entry) (x : Effect) → AreRows w.store.rows → OnEffect (ChangeOf w.store.rows) x → OnEffect (AddedOf e.request) x → HaveUids (world_after w x).store.rows
  unfolding world_after after
  by_effect e (OnStore (Says reply)) order place added = uids
  by_effect e (OnStore (Stores change o)) order place added = put_has o (stored_has e change o place.on added.on)
  by_effect e (OnStore (Removes o)) order place added = without_has o order
  by_effect e (OnDevices a) order place added = uids
  by_effect e (SetsMoment at) order place added = uids

pub uids_at : (setup : Setup) → ImportsPass setup.imports → (past : List Entry) → HaveUids (world setup past).store.rows
uids_at setup pass [] key o is =
    let c = import_row setup.imports setup.imports key o is in
    let t = import_has [] setup.imports pass c.import c.given in
    (t.0, from_uid setup.imports setup.imports o c ∙ t.1)
uids_at setup pass (e ∷ past) key o is =
    let w = world setup past in
    by_effect w (uids_at setup pass past) e (effect setup w e.kind e.request) (rows_stand_in_order setup past)
    (on_effects (λ r. tt) setup w e.kind e.request (λ stale. outcome_changes w.store e.kind e.request w.moment stale))
    (on_effects (λ r. tt) setup w e.kind e.request (λ stale. outcome_added w.store e.kind e.request w.moment stale)) key o is

-- ---- the whole

pub history_of : (setup : Setup) (past : List Entry) → Run setup past → IsHistory setup past
history_of setup [] run = tt
history_of setup (e ∷ past) run = (history_of setup past run.0, run.1)

module _ (setup : Setup) (given : SideSetup) (pass : ImportsPass setup.imports) where
  mirrored : (m : List Step) → Run setup (entries m) → IsMirrored setup given m
  mirrored m run = record { order = rows_stand_in_order setup (entries m); uids = uids_at setup pass (entries m); stand = sizes_always_stand setup given m (history_of setup (entries m) run) }

  fair : (m : List Step) → Run setup (entries m) → HoldsBack setup given m → IsFair setup given m
  fair [] run holds = tt
  fair (OfWorld e ∷ m) run holds =
      let before = mirrored m run.0 in
      (fair m run.0 holds.0, record { mirrored = before; told = run.1; passes = creates_pass setup given m e (own e.seat (entries m)) before run.1 run.2 holds.1 })
  fair (OfSide s ∷ m) run holds = (fair m run holds, mirrored m run)

pub quotas_are_kept : QuotasAreKept
quotas_are_kept setup given m h = fair_runs_keep_quotas setup given m (fair setup given h.imports m h.run h.holds)
