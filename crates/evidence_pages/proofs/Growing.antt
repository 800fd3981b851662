-- What a part of the entries tells, they tell.
use Rattle.std.proofs.Common.{◌≡◌, List, inl, inr, sym, subst}
use Rattle.kube_objects.specs.declared.objects.Object.{Object}
use Rattle.call_types.specs.declared.entry.Entry.{Entry}
use Rattle.call_types.specs.declared.reply.Reply.{Reply}
use Rattle.call_types.specs.declared.reply.Reply.TheVariants.{Done}
use Rattle.binder_model.specs.Told.{After, SomeOf, ToldObject, objects_in}
use Rattle.model_laws.proofs.Evidence.{told_map}
use Rattle.evidence_pages.specs.Parts.{IsPart, Begins, Skips, Keeps, Tells}

only : (P : Object → Type 0) (reply : Reply) (o : Object) → reply ≡ Done o → SomeOf P (objects_in reply) → P o
only P reply o is h = elim (subst (λ r. SomeOf P (objects_in r)) is h) [ inl p ↦ p | inr q ↦ absurd q ]

pub told_grows : (P : Object → Type 0) (small mine : List Entry) → IsPart small mine → ToldObject P small → ToldObject P mine
told_grows P small mine Begins h = absurd h
told_grows P small mine (Skips e part) h = inr (told_grows P _ _ part h)
told_grows P small mine (Keeps e part) (inl t) = inl t
told_grows P small mine (Keeps e part) (inr h) = inr (told_grows P _ _ part h)
told_grows P small mine (Tells t o is told part) (inl h) = told_map {P = λ x. x ≡ o} {Q = P} (λ x e. subst P (sym e) (only P t.reply o is h.1)) mine told
told_grows P small mine (Tells t o is told part) (inr h) = told_grows P _ _ part h

-- a condition that no answer of a write meets
abbrev pub IsOfReads : (Entry → Type 0) → Type 0
IsOfReads Q = (t : Entry) (o : Object) → t.reply ≡ Done o → Q t → ⊥

pub after_grows : (P : Object → Type 0) (Q : Entry → Type 0) → IsOfReads Q → (small mine : List Entry) → IsPart small mine → After (ToldObject P) Q small → After (ToldObject P) Q mine
after_grows P Q reads small mine Begins h = absurd h
after_grows P Q reads small mine (Skips e part) h = inr (after_grows P Q reads _ _ part h)
after_grows P Q reads small mine (Keeps e part) (inl t) = inl (t.0, told_grows P _ _ part t.1)
after_grows P Q reads small mine (Keeps e part) (inr h) = inr (after_grows P Q reads _ _ part h)
after_grows P Q reads small mine (Tells t o is told part) (inl h) = absurd (reads t o is h.0)
after_grows P Q reads small mine (Tells t o is told part) (inr h) = after_grows P Q reads _ _ part h
