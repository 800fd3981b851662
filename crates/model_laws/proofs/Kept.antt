-- What stands under a key before a call and after it keeps its identity.
use Rattle.std.proofs.Common.{sym, refl, subst, inl, inr, ap, ◌∙◌, true≢false}
use Rattle.std.specs.Prelude.{◌≡◌, ◌≢◌, ◌⊎◌, List, Option, Some, None, is_some, unwrap_or}
use Rattle.kube_objects.specs.declared.key.Key.{Key}
use Rattle.kube_objects.specs.declared.objects.Object.{Object}
use Rattle.call_types.specs.declared.reply.Change.{Change}
use Rattle.call_types.specs.declared.reply.Change.TheVariants.{Added, Modified, Deleted}
use Rattle.kube_objects.specs.Keys.{AreRows, key_of, row_at, put_row, without_row}
use Rattle.kube_objects.proofs.SameKeys.{key_tells}
use Rattle.kube_objects.proofs.KeyOrder.{row_at-put_row, row_at-put_row_other, row_at-without_row, row_at-without_row_other}
use Rattle.binder_model.specs.Store.{State}
use Rattle.binder_model.specs.Answers.{Outcome, Says, Stores, Removes, after}
use Rattle.binder_model.specs.World.{World, Effect, OnStore, OnDevices, SetsMoment, world_after}
use Rattle.model_laws.specs.Histories.{KeepsIdentity, CallsKeepIdentity}
use Rattle.model_laws.proofs.Changes.{ChangeOf, IsOver, IsInPlace, outcome_changes}
use Rattle.model_laws.proofs.Effects.{OfStore, on_effects}
use Rattle.model_laws.proofs.Identity.{names-own}

keeps-own : (o : Object) → KeepsIdentity o o
keeps-own o = record { uid = refl; created = refl; deleted = inr refl; named = names-own o }

one : (a b : Object) → Some a ≡ Some b → a ≡ b
one a b e = ap (λ x. unwrap_or x a) e

keeps : (a b : Object) → a ≡ b → KeepsIdentity a b
keeps a b e = subst (KeepsIdentity a) e (keeps-own a)

none_is_none : {o : Object} → ◌≡◌ {A = Option Object} None (Some o) → ⊥
none_is_none e = true≢false (sym (ap is_some e))

over_it : (rows : List Object) (o old : Object) → IsOver rows o → row_at (key_of o) rows ≡ Some old → KeepsIdentity old o
over_it rows o old found is = subst (λ x. KeepsIdentity x o) (one found.0 old (sym found.1.0 ∙ is)) found.1.1

in_place : (rows : List Object) (change : Change) (o old : Object) → IsInPlace rows change o → row_at (key_of o) rows ≡ Some old → KeepsIdentity old o
in_place rows Added o old gone is = absurd (none_is_none (sym gone ∙ is))
in_place rows Modified o old found is = over_it rows o old found is
in_place rows Deleted o old found is = over_it rows o old found is

stored : (s : State) (change : Change) (key : Key) (o old new : Object) → IsInPlace s.rows change o → row_at key s.rows ≡ Some old → row_at key (put_row o s.rows) ≡ Some new
    → (key_of o ≡ key) ⊎ (key_of o ≢ key) → KeepsIdentity old new
stored s change key o old new place was is (inl same) =
    let kept = in_place s.rows change o old place (ap (λ k. row_at k s.rows) same ∙ was) in
    subst (KeepsIdentity old) (one o new (sym (row_at-put_row o s.rows) ∙ ap (λ k. row_at k (put_row o s.rows)) same ∙ is)) kept
stored s change key o old new place was is (inr other) = keeps old new (one old new (sym was ∙ sym (row_at-put_row_other key o s.rows other) ∙ is))

removed : (s : State) (key : Key) (o old new : Object) → AreRows s.rows → row_at key s.rows ≡ Some old → row_at key (without_row (key_of o) s.rows) ≡ Some new
    → (key_of o ≡ key) ⊎ (key_of o ≢ key) → KeepsIdentity old new
removed s key o old new rows was is (inl same) =
    absurd (none_is_none (sym (row_at-without_row (key_of o) s.rows rows) ∙ ap (λ k. row_at k (without_row (key_of o) s.rows)) same ∙ is))
removed s key o old new rows was is (inr other) = keeps old new (one old new (sym was ∙ sym (row_at-without_row_other (key_of o) key s.rows other) ∙ is))

outcome_keeps : (s : State) (x : Outcome) → ChangeOf s.rows x → AreRows s.rows → (key : Key) (old new : Object)
    → row_at key s.rows ≡ Some old → row_at key (after s x).rows ≡ Some new → KeepsIdentity old new
unfolding after
outcome_keeps s (Says reply) c rows key old new was is = keeps old new (one old new (sym was ∙ is))
outcome_keeps s (Stores change o) c rows key old new was is = stored s change key o old new c was is (key_tells (key_of o) key)
outcome_keeps s (Removes o) c rows key old new was is = removed s key o old new rows was is (key_tells (key_of o) key)

effect_keeps : (w : World) (x : Effect) → OfStore (ChangeOf w.store.rows) x → AreRows w.store.rows → (key : Key) (old new : Object)
    → row_at key w.store.rows ≡ Some old → row_at key (world_after w x).store.rows ≡ Some new → KeepsIdentity old new
unfolding world_after
effect_keeps w (OnStore o) k rows key old new was is = outcome_keeps w.store o k rows key old new was is
effect_keeps w (OnDevices a) k rows key old new was is = keeps old new (one old new (sym was ∙ is))
effect_keeps w (SetsMoment at) k rows key old new was is = keeps old new (one old new (sym was ∙ is))

pub calls_keep_identity : CallsKeepIdentity
calls_keep_identity setup w kind request key old new rows was is =
    effect_keeps w _ (on_effects (λ r. tt) setup w kind request (outcome_changes w.store kind request w.moment)).on rows key old new was is
