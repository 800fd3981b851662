-- What was told before the last entry of a kind.
use Rattle.std.proofs.Common.{◌≡◌, ℕ, ◌+◌, List, [], ◌∷◌, ◌++◌, ◌↔◌, IsTrue, Bool, take, drop, reverse, sym, ◌∙◌, ap, subst, inl, inr}
use Rattle.kube_objects.specs.declared.objects.Object.{Object}
use Rattle.call_types.specs.declared.entry.Entry.{Entry}
use Rattle.binder_model.specs.Told.{After, SomeOf, TellsObject, ToldObject, objects_in}
use Rattle.licence_scans.specs.Last.{IsLast}
use Rattle.licence_scans.proofs.Fronts.{cut_at, some_reverse}

pub after_told : (R : Object → Type 0) (Q : Entry → Type 0) (xs : List Entry) → After (ToldObject R) Q xs → ToldObject R xs
after_told R Q [] h = elim h [ ]
after_told R Q (x ∷ xs) (inl p) = inr p.1
after_told R Q (x ∷ xs) (inr h) = inr (after_told R Q xs h)

after_cut : (R : Object → Type 0) (Q : Entry → Type 0) (recent : List Entry) (e : Entry) (older : List Entry) → (SomeOf Q recent → ⊥)
    → After (ToldObject R) Q (recent ++ e ∷ older) → ToldObject R older
after_cut R Q [] e older none (inl p) = p.1
after_cut R Q [] e older none (inr h) = after_told R Q older h
after_cut R Q (x ∷ recent) e older none (inl p) = absurd (none (inl p.0))
after_cut R Q (x ∷ recent) e older none (inr h) = after_cut R Q recent e older (λ s. none (inr s)) h

after_back : (R : Object → Type 0) (Q : Entry → Type 0) (recent : List Entry) (e : Entry) (older : List Entry) → Q e → ToldObject R older → After (ToldObject R) Q (recent ++ e ∷ older)
after_back R Q [] e older q told = inl (q, told)
after_back R Q (x ∷ recent) e older q told = inr (after_back R Q recent e older q told)

pub last_cut : (Q : Entry → Type 0) (mine : List Entry) (place : ℕ) (last : IsLast Q mine place) → reverse mine ≡ reverse (drop (place + 1) mine) ++ last.entry ∷ reverse (take place mine)
last_cut Q mine place last = cut_at mine place last.entry last.within ∙ ap (λ e. reverse (drop (place + 1) mine) ++ e ∷ reverse (take place mine)) (sym last.there)

pub last_some : (Q : Entry → Type 0) (mine : List Entry) (place : ℕ) → IsLast Q mine place → SomeOf Q (reverse mine)
last_some Q mine place last = some_reverse Q mine place last.entry last.within (subst Q last.there last.is)

pub after_last : (R : Object → Type 0) (Q : Entry → Type 0) (mine : List Entry) (place : ℕ) (told : Bool) → IsLast Q mine place
    → (IsTrue told ↔ ToldObject R (reverse (take place mine))) → (IsTrue told ↔ After (ToldObject R) Q (reverse mine))
after_last R Q mine place told last is =
    let cut = last_cut Q mine place last in (
      (λ t. subst (After (ToldObject R) Q) (sym cut) (after_back R Q (reverse (drop (place + 1) mine)) last.entry (reverse (take place mine)) last.is (is.0 t))),
      (λ h. is.1 (after_cut R Q (reverse (drop (place + 1) mine)) last.entry (reverse (take place mine)) last.since (subst (After (ToldObject R) Q) cut h))),
    )

-- what is told to be this object is told to be one of which the condition holds

pub some_found : (P : Object → Type 0) (objects : List Object) (o : Object) → P o → SomeOf (λ x. x ≡ o) objects → SomeOf P objects
some_found P [] o p h = elim h [ ]
some_found P (x ∷ xs) o p (inl e) = inl (subst P (sym e) p)
some_found P (x ∷ xs) o p (inr h) = inr (some_found P xs o p h)

pub tells_found : (P : Object → Type 0) (e : Entry) (o : Object) → P o → TellsObject (λ x. x ≡ o) e → TellsObject P e
tells_found P e o p t = (t.0, some_found P (objects_in e.reply) o p t.1)

pub told_found : (P : Object → Type 0) (mine : List Entry) (o : Object) → P o → ToldObject (λ x. x ≡ o) mine → ToldObject P mine
told_found P [] o p h = elim h [ ]
told_found P (e ∷ mine) o p (inl t) = inl (tells_found P e o p t)
told_found P (e ∷ mine) o p (inr h) = inr (told_found P mine o p h)
