-- Answers that say yes for sure, and no only where all is known.
use Rattle.std.proofs.Common.{◌≡◌, ◌↔◌, IsTrue, Bool, true, false, List, refl, sym, ◌∙◌, subst, true≢false}
use Rattle.kube_objects.specs.declared.key.Key.{Key}
use Rattle.kube_objects.specs.declared.objects.Object.{Object}
use Rattle.call_types.specs.declared.entry.Entry.{Entry}
use Rattle.binder_model.specs.Told.{IsNewest}
use Rattle.licence_rows.specs.Asking.{IsNewestWith}
use Rattle.model_laws.proofs.Lists.{one}
use Rattle.licence_record.specs.Judged.{Judges}

pub no : (w P : Type 0) → (w → P → ⊥) → Judges w false P
no w P none = ((λ t. absurd (true≢false (sym t))), (λ x p. absurd (none x p)))

pub exact : (w P : Type 0) (b : Bool) → (IsTrue b ↔ P) → Judges w b P
exact w P b is = (is.0, (λ x. is.1))

pub lift : (w P Q : Type 0) (b : Bool) → ((c : Bool) → (IsTrue c ↔ Q) → (IsTrue c ↔ P)) → Judges w b Q → Judges w b P
lift w P Q true f j = ((λ t. (f true ((λ u. j.0 u), (λ q. refl))).0 t), (λ x p. refl))
lift w P Q false f j = ((λ t. absurd (true≢false (sym t))), (λ x p. (f false ((λ u. absurd (true≢false (sym u))), (λ q. j.1 x q))).1 p))

pub weaker : (v w P : Type 0) (b : Bool) → (v → w) → Judges w b P → Judges v b P
weaker v w P b f j = (j.0, (λ x p. j.1 (f x) p))

-- what is judged by a part that is all where all is known
pub paged : (w : Type 0) (P : List Entry → Type 0) (small mine : List Entry) (b : Bool) → (P small → P mine) → (w → small ≡ mine) → Judges w b (P small) → Judges w b (P mine)
paged w P small mine b grows all j = ((λ t. grows (j.0 t)), (λ x p. j.1 x (subst P (sym (all x)) p)))

-- the newest is one object
pub newest_with : (P Q : Object → Type 0) (mine : List Entry) (key : Key) (o : Object) → IsNewest mine key o → (c : Bool) → (IsTrue c ↔ (P o × Q o))
    → (IsTrue c ↔ IsNewestWith (λ x. P x × Q x) mine key)
newest_with P Q mine key o new c is = (
  (λ t. (o, (new, is.0 t))),
  (λ s. is.1 (subst (λ x. P x × Q x) (one s.0 o (sym s.1.0 ∙ new)) s.1.1)),
)
