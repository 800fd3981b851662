-- How the store moves at one entry, whatever the entry: what it does at each key.
use Rattle.std.proofs.Common.{sym, refl, subst, inl, inr, ap, ◌∙◌, arith}
use Rattle.std.specs.Prelude.{◌≡◌}
use Rattle.kube_objects.specs.declared.objects.Object.{Object}
use Rattle.kube_objects.specs.Keys.{AreRows, key_of, row_at, put_row, without_row}
use Rattle.kube_objects.proofs.KeyOrder.{row_at-put_row, row_at-put_row_other, row_at-without_row, row_at-without_row_other}
use Rattle.call_types.specs.declared.setup.Setup.{Setup}
use Rattle.call_types.specs.declared.request.SeatKind.{SeatKind}
use Rattle.call_types.specs.declared.request.Request.{Request}
use Rattle.binder_model.specs.Answers.{Outcome, Says, Stores, Removes, after}
use Rattle.binder_model.specs.World.{World, Effect, OnStore, OnDevices, SetsMoment, world_after, log_after}
use Rattle.kube_objects.proofs.SameKeys.{key_tells}
use Rattle.model_laws.proofs.Histories.{rows_after}
use Rattle.safety_law.specs.Invariant.Writes.{Writes, FormOf, EffectOf}
use Rattle.safety_law.proofs.Invariant.Effects.{effect_form}
use Rattle.safety_law.specs.Invariant.Moves.{IsWritten, Moves, CallsMoveTheStore}
use Rattle.std.proofs.lemmas.Option.{same_Some, none-some}

still : (w : World) (request : Request) (x : Effect) (W : Object → Type 0) → AreRows w.store.rows → (world_after w x).store ≡ w.store
    → (world_after w x).log ≡ w.log → Moves w request x W
still w request x W rows e l = record {
  row = λ k o is. inl (ap (λ s. row_at k s.rows) (sym e) ∙ is);
  left = λ k o is none. absurd (none-some _ (sym none ∙ ap (λ s. row_at k s.rows) e ∙ is));
  rises = let v = ap (λ s. s.version) e in omega (arith, v);
  order = subst (λ s. AreRows s.rows) (sym e) rows;
}

store_moves : (w : World) (request : Request) (W : Object → Type 0) (x : Outcome) → AreRows w.store.rows → FormOf w.store W request x → Moves w request (OnStore x) W
unfolding world_after after log_after
store_moves w request W (Says reply) rows f = still w request (OnStore (Says reply)) W rows refl refl
store_moves w request W (Stores change o) rows f = record {
  row = λ k new is. elim (key_tells (key_of o) k) [
    | inl same ↦
        let e : o ≡ new = same_Some o new (sym (row_at-put_row o w.store.rows) ∙ ap (λ j. row_at j (put_row o w.store.rows)) same ∙ is) in
        inr (subst (IsWritten w (OnStore (Stores change o)) W) e (record { is = refl; write = f; counted = refl }))
    | inr other ↦ inl (sym (row_at-put_row_other k o w.store.rows other) ∙ is)
  ];
  left = λ k old is none. elim (key_tells (key_of o) k) [
    | inl same ↦ absurd (none-some _ (sym none ∙ ap (λ j. row_at j (put_row o w.store.rows)) (sym same) ∙ row_at-put_row o w.store.rows))
    | inr other ↦ absurd (none-some _ (sym none ∙ row_at-put_row_other k o w.store.rows other ∙ is))
  ];
  rises = omega arith;
  order = rows_after w.store (Stores change o) rows;
}
store_moves w request W (Removes o) rows f = record {
  row = λ k new is. elim (key_tells (key_of o) k) [
    | inl same ↦ absurd (none-some _ (sym (row_at-without_row (key_of o) w.store.rows rows) ∙ ap (λ j. row_at j (without_row (key_of o) w.store.rows)) same ∙ is))
    | inr other ↦ inl (sym (row_at-without_row_other (key_of o) k w.store.rows other) ∙ is)
  ];
  left = λ k old is none. elim (key_tells (key_of o) k) [
    | inl same ↦ record { last = o; written = record { is = refl; write = f.0; counted = refl }; key = same; leaving = f.1; removes = refl }
    | inr other ↦ absurd (none-some _ (sym none ∙ row_at-without_row_other (key_of o) k w.store.rows other ∙ is))
  ];
  rises = omega arith;
  order = rows_after w.store (Removes o) rows;
}

effect_moves : (setup : Setup) (w : World) (kind : SeatKind) (request : Request) (x : Effect) → AreRows w.store.rows → EffectOf setup w kind request x
    → Moves w request x (Writes w kind request)
unfolding world_after
effect_moves setup w kind request (OnStore o) rows f = store_moves w request _ o rows f
effect_moves setup w kind request (OnDevices a) rows f = still w request (OnDevices a) _ rows refl refl
effect_moves setup w kind request (SetsMoment at) rows f = still w request (SetsMoment at) _ rows refl refl

pub moves : CallsMoveTheStore
moves setup w kind request rows = effect_moves setup w kind request _ rows (effect_form setup w kind request rows)

-- what is known of the writes may be weakened
pub as_made : {W V : Object → Type 0} (w : World) (request : Request) (x : Effect) → ((o : Object) → W o → V o) → Moves w request x W → Moves w request x V
as_made {W = W} {V = V} w request x f m = record {
  row = λ k o is. elim (m.row k o is) [ inl same ↦ inl same | inr new ↦ inr (to o new) ];
  left = λ k o is none. let h = m.left k o is none in record { last = h.last; written = to h.last h.written; key = h.key; leaving = h.leaving; removes = h.removes };
  rises = m.rises;
  order = m.order;
}
  where
    to : (o : Object) → IsWritten w x W o → IsWritten w x V o
    to o i = record { is = i.is; write = f o i.write; counted = i.counted }
