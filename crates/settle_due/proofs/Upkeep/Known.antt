-- Each object of a store has its UID. It belongs beside `model_laws::uids_are_given_once`.
use Rattle.std.proofs.Common.{◌≡◌, ◌∙◌, ◌+◌, List, [], ◌∷◌, ◌++◌, true, false, true≢false, Option, Some, None, inl, inr, refl, sym, ap, subst}
use Rattle.std.specs.Prelude.{is_none, is_some}
use Rattle.kube_parts.specs.declared.uid.Uid.{Uid}
use Rattle.kube_objects.specs.declared.key.Key.{Key}
use Rattle.kube_objects.specs.declared.objects.Object.{Object}
use Rattle.kube_objects.specs.Keys.{AreRows, key_of, meta_of, put_row, row_at, without_row}
use Rattle.kube_objects.proofs.KeyOrder.{row_at-put_row, row_at-put_row_other, row_at-without_row, row_at-without_row_other}
use Rattle.kube_objects.proofs.SameKeys.{key_tells}
use Rattle.call_types.specs.declared.entry.Entry.{Entry}
use Rattle.call_types.specs.declared.reply.Change.{Change}
use Rattle.call_types.specs.declared.reply.Change.TheVariants.{Added, Modified, Deleted}
use Rattle.call_types.specs.declared.setup.Setup.{Setup}
use Rattle.binder_model.specs.Answers.{Removes, Says, Stores, after}
use Rattle.binder_model.specs.Imports.{ImportsPass, PassAfter}
use Rattle.binder_model.specs.World.{Effect, OnDevices, OnStore, SetsMoment, World, effect, world, world_after}
use Rattle.model_laws.proofs.Changes.{ChangeOf, IsInPlace, outcome_changes}
use Rattle.model_laws.proofs.Effects.{OfStore, on_effects}
use Rattle.model_laws.proofs.Givings.{Gives, outcome_gives}
use Rattle.model_laws.proofs.Histories.{rows_stand_in_order}
use Rattle.model_laws.proofs.Imported.{from_uid, import_row, passed}
use Rattle.model_laws.proofs.Lists.{IsIn, none_some, one}

abbrev pub AreKnown : List Object → Type 0
AreKnown rows = (key : Key) (o : Object) → row_at key rows ≡ Some o → is_some (meta_of o).uid ≡ true

new_known : (w : World) (change : Change) (o : Object) → OfStore (Gives (w.store.version + 1)) (OnStore (Stores change o))
    → IsInPlace w.store.rows change o → AreKnown w.store.rows → is_some (meta_of o).uid ≡ true
new_known w Added o gives place known = ap is_some gives
new_known w Modified o gives place known = ap is_some place.1.1.uid ∙ known (key_of o) place.0 place.1.0
new_known w Deleted o gives place known = ap is_some place.1.1.uid ∙ known (key_of o) place.0 place.1.0

step_known : (w : World) (x : Effect) → AreRows w.store.rows → OfStore (Gives (w.store.version + 1)) x → OfStore (ChangeOf w.store.rows) x
    → AreKnown w.store.rows → AreKnown (world_after w x).store.rows
unfolding world_after after
step_known w (OnStore (Says reply)) rows g c known key o is = known key o is
step_known w (OnStore (Stores change new)) rows g c known key o is = elim (key_tells (key_of new) key) [
  | inl same ↦
      let e : new ≡ o = one new o (sym (row_at-put_row new w.store.rows) ∙ ap (λ j. row_at j (put_row new w.store.rows)) same ∙ is) in
      subst (λ p. is_some (meta_of p).uid ≡ true) e (new_known w change new g c known)
  | inr other ↦ known key o (sym (row_at-put_row_other key new w.store.rows other) ∙ is)
]
step_known w (OnStore (Removes last)) rows g c known key o is = elim (key_tells (key_of last) key) [
  | inl same ↦ none_some (sym (row_at-without_row (key_of last) w.store.rows rows) ∙ ap (λ j. row_at j (without_row (key_of last) w.store.rows)) same ∙ is)
  | inr other ↦ known key o (sym (row_at-without_row_other (key_of last) key w.store.rows other) ∙ is)
]
step_known w (OnDevices a) rows g c known key o is = known key o is
step_known w (SetsMoment at) rows g c known key o is = known key o is

not_none : (x : Option Uid) → is_none x ≡ false → is_some x ≡ true
not_none None e = absurd (true≢false e)
not_none (Some u) e = refl

import_known : (before os : List Object) → PassAfter before os → (o : Object) → IsIn o os → is_some (meta_of o).uid ≡ true
import_known before [] p o h = absurd h
import_known before (x ∷ os) p o (inl is) = subst (λ y. is_some (meta_of y).uid ≡ true) is (not_none _ (passed before x p.0).known)
import_known before (x ∷ os) p o (inr more) = import_known (before ++ x ∷ []) os p.1 o more

pub rows_known : (setup : Setup) (past : List Entry) → ImportsPass setup.imports → AreKnown (world setup past).store.rows
rows_known setup [] pass = λ key o is.
    let c = import_row setup.imports setup.imports key o is in
    ap is_some (from_uid setup.imports setup.imports o c) ∙ import_known [] setup.imports pass c.import c.given
rows_known setup (e ∷ past) pass =
    let w = world setup past in
    step_known w (effect setup w e.kind e.request) (rows_stand_in_order setup past)
    (on_effects (λ r. tt) setup w e.kind e.request (outcome_gives w.store e.kind e.request w.moment)).on
    (on_effects (λ r. tt) setup w e.kind e.request (outcome_changes w.store e.kind e.request w.moment)).on (rows_known setup past pass)
