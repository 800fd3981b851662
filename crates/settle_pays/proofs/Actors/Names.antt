-- The UIDs of a run have 128 bits, so the names of claims' data tell their UIDs apart.
use Rattle.std.proofs.Common.{◌≡◌, ◌∙◌, ℕ, ◌+◌, ◌<◌, ◌^◌, List, [], ◌∷◌, Some, inl, inr, sym, ap, subst, arith, length}
use Rattle.std.specs.Prelude.{codes}
use Rattle.std.proofs.lemmas.List.{append_cancel_left}
use Rattle.kube_parts.specs.declared.uid.Uid.{Uid}
use Rattle.kube_objects.specs.declared.key.Key.{Key}
use Rattle.kube_objects.specs.declared.objects.Object.{Object}
use Rattle.kube_objects.specs.Keys.{AreRows, key_of, meta_of, put_row, row_at, without_row}
use Rattle.kube_parts.specs.Uids.{uid_of_serial, uid_of_text, uid_text}
use Rattle.kube_objects.proofs.KeyOrder.{row_at-put_row, row_at-put_row_other, row_at-without_row, row_at-without_row_other}
use Rattle.kube_objects.proofs.SameKeys.{key_tells}
use Rattle.kube_parts.proofs.UidTexts.{reads_back}
use Rattle.call_types.specs.declared.entry.Entry.{Entry}
use Rattle.call_types.specs.declared.reply.Change.{Change}
use Rattle.call_types.specs.declared.reply.Change.TheVariants.{Added, Modified, Deleted}
use Rattle.call_types.specs.declared.setup.Setup.{Setup}
use Rattle.binder_model.specs.Answers.{Removes, Says, Stores, after}
use Rattle.binder_model.specs.Imports.{ImportsPass, most_serials}
use Rattle.binder_model.specs.Promises.{most_entries}
use Rattle.binder_model.specs.Provisioning.{data_name}
use Rattle.binder_model.specs.World.{Effect, OnDevices, OnStore, SetsMoment, World, effect, world, world_after}
use Rattle.model_laws.proofs.Changes.{ChangeOf, IsInPlace, outcome_changes}
use Rattle.model_laws.proofs.Effects.{OfStore, on_effects}
use Rattle.model_laws.proofs.Givings.{Gives, outcome_gives}
use Rattle.model_laws.proofs.Histories.{rows_stand_in_order}
use Rattle.model_laws.proofs.Imported.{from_uid, import_row, pass_base}
use Rattle.model_laws.proofs.Lists.{none_some, one}
use Rattle.model_laws.proofs.Stood.{few_writes}
use Rattle.settle_pays.specs.Actors.Reclaiming.{UidsFit}

abbrev pub Fits : Uid → Type 0
Fits uid = uid.0 < 2 ^ 128

abbrev pub AreFitting : List Object → Type 0
AreFitting rows = (key : Key) (o : Object) (uid : Uid) → row_at key rows ≡ Some o → (meta_of o).uid ≡ Some uid → Fits uid

serial_fits : (n : ℕ) → n < most_serials → Fits (uid_of_serial n)
serial_fits n small = omega (arith, small)

new_fits : (w : World) (change : Change) (o : Object) → w.store.version + 1 < most_serials
    → OfStore (Gives (w.store.version + 1)) (OnStore (Stores change o)) → IsInPlace w.store.rows change o → AreFitting w.store.rows
    → (uid : Uid) → (meta_of o).uid ≡ Some uid → Fits uid
new_fits w Added o small gives place fit uid its = subst Fits (one _ uid (sym gives ∙ its)) (serial_fits (w.store.version + 1) small)
new_fits w Modified o small gives place fit uid its = fit (key_of o) place.0 uid place.1.0 (sym place.1.1.uid ∙ its)
new_fits w Deleted o small gives place fit uid its = fit (key_of o) place.0 uid place.1.0 (sym place.1.1.uid ∙ its)

step_fits : (w : World) (x : Effect) → AreRows w.store.rows → w.store.version + 1 < most_serials → OfStore (Gives (w.store.version + 1)) x
    → OfStore (ChangeOf w.store.rows) x → AreFitting w.store.rows → AreFitting (world_after w x).store.rows
unfolding world_after after
step_fits w (OnStore (Says reply)) rows small g c fit key o uid is its = fit key o uid is its
step_fits w (OnStore (Stores change new)) rows small g c fit key o uid is its = elim (key_tells (key_of new) key) [
  | inl same ↦
      let e : new ≡ o = one new o (sym (row_at-put_row new w.store.rows) ∙ ap (λ j. row_at j (put_row new w.store.rows)) same ∙ is) in
      new_fits w change new small g c fit uid (ap (λ p. (meta_of p).uid) e ∙ its)
  | inr other ↦ fit key o uid (sym (row_at-put_row_other key new w.store.rows other) ∙ is) its
]
step_fits w (OnStore (Removes last)) rows small g c fit key o uid is its = elim (key_tells (key_of last) key) [
  | inl same ↦ none_some (sym (row_at-without_row (key_of last) w.store.rows rows) ∙ ap (λ j. row_at j (without_row (key_of last) w.store.rows)) same ∙ is)
  | inr other ↦ fit key o uid (sym (row_at-without_row_other (key_of last) key w.store.rows other) ∙ is) its
]
step_fits w (OnDevices a) rows small g c fit key o uid is its = fit key o uid is its
step_fits w (SetsMoment at) rows small g c fit key o uid is its = fit key o uid is its

pub rows_fit : (setup : Setup) (past : List Entry) → ImportsPass setup.imports → length past < most_entries → UidsFit setup → AreFitting (world setup past).store.rows
rows_fit setup [] pass short fit = λ key o uid is its. let c = import_row setup.imports setup.imports key o is in fit c.import uid c.given (sym (from_uid setup.imports setup.imports o c) ∙ its)
rows_fit setup (e ∷ past) pass short fit =
    let w = world setup past in
    let shorter : length past < most_entries = omega (arith, short) in
    let low = few_writes setup past in
    let most = pass_base [] setup.imports pass in
    let small : (world setup past).store.version + 1 < most_serials = omega (arith, low, most, short) in
    step_fits w (effect setup w e.kind e.request) (rows_stand_in_order setup past) small
    (on_effects (λ r. tt) setup w e.kind e.request (outcome_gives w.store e.kind e.request w.moment)).on
    (on_effects (λ r. tt) setup w e.kind e.request (outcome_changes w.store e.kind e.request w.moment)).on (rows_fit setup past pass shorter fit)

-- such UIDs have names of their own
pub names_apart : (u v : Uid) → Fits u → Fits v → data_name u ≡ data_name v → u ≡ v
names_apart u v first second same =
    let texts : uid_text u ≡ uid_text v = append_cancel_left (codes "pvc-") (uid_text u) (uid_text v) same in
    one u v (sym (reads_back u first) ∙ (ap uid_of_text texts ∙ reads_back v second))
