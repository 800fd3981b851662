-- What an event tells is among what its answer tells.
use Rattle.std.proofs.Common.{◌≡◌, ℕ, zero, suc, ◌<◌, List, [], ◌∷◌, length, get_or, refl, sym, subst, inl, arith}
use Rattle.kube_objects.specs.declared.objects.Object.{Object}
use Rattle.call_types.specs.declared.reply.Change.{Change}
use Rattle.call_types.specs.declared.reply.Change.TheVariants as changes
use Rattle.call_types.specs.declared.reply.Event.{Event}
use Rattle.call_types.specs.declared.reply.Reply.{Reply}
use Rattle.call_types.specs.declared.reply.Reply.TheVariants as replies
use Rattle.binder_model.specs.Told.{SomeOf, objects_in, objects_of_event, objects_of_events}
use Rattle.model_laws.proofs.Lists.{some_left, some_right}

pub added_tells : (change : Change) (o : Object) → change ≡ changes.Added → SomeOf (λ x. x ≡ o) (objects_of_event change o)
added_tells change o is = subst (λ (c : Change). SomeOf (λ x. x ≡ o) (objects_of_event c o)) (sym is) (inl refl)

pub modified_tells : (change : Change) (o : Object) → change ≡ changes.Modified → SomeOf (λ x. x ≡ o) (objects_of_event change o)
modified_tells change o is = subst (λ (c : Change). SomeOf (λ x. x ≡ o) (objects_of_event c o)) (sym is) (inl refl)

pub event_at : (o : Object) (es : List Event) (i : ℕ) (e : Event) → i < length es → e ≡ get_or es i e
    → SomeOf (λ x. x ≡ o) (objects_of_event e.change e.object) → SomeOf (λ x. x ≡ o) (objects_of_events es)
event_at o [] i e h is p = absurd (omega (arith, h))
event_at o (x ∷ es) zero e h is p = some_left (λ y. y ≡ o) _ _ (subst (λ (z : Event). SomeOf (λ y. y ≡ o) (objects_of_event z.change z.object)) is p)
event_at o (x ∷ es) (suc i) e h is p = some_right (λ y. y ≡ o) _ _ (event_at o es i e (omega (arith, h)) is p)

pub done_tells : (reply : Reply) (o : Object) → reply ≡ replies.Done o → SomeOf (λ x. x ≡ o) (objects_in reply)
done_tells reply o is = subst (λ (r : Reply). SomeOf (λ x. x ≡ o) (objects_in r)) (sym is) (inl refl)

pub found_tells : (reply : Reply) (o : Object) → reply ≡ replies.Found o → SomeOf (λ x. x ≡ o) (objects_in reply)
found_tells reply o is = subst (λ (r : Reply). SomeOf (λ x. x ≡ o) (objects_in r)) (sym is) (inl refl)
