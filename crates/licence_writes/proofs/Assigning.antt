-- The row DefaultClass, as the code tests it.
use Rattle.std.proofs.Common.{◌≡◌, ◌↔◌, IsTrue, ℕ, Bool, List, [], Option, Some, None, true, false, sym, ◌∙◌, ap, true≢false}
use Rattle.std.specs.Prelude.{is_some}
use Rattle.kube_objects.specs.declared.objects.Claim.{Claim as ClaimData}
use Rattle.kube_objects.specs.Bindings.{is_completed, is_deleting, lacks_class}
use Rattle.call_types.specs.declared.entry.Entry.{Entry}
use Rattle.binder_model.specs.BinderLicence.{MayAssignClass}
use Rattle.model_laws.proofs.Lists.{one}
use Rattle.licence_record.specs.Defaulted.{IsDefaultNamed}

with_class : ClaimData → Option (List ℕ) → ClaimData
with_class o class = record o { class = class }

-- the class that the row gives is the new claim's
given : (mine : List Entry) (o new : ClaimData) (row : MayAssignClass mine o new) → new.class ≡ Some row.class.meta.name
given mine o new row = ap (λ (c : ClaimData). c.class) row.change

pub assign_none : (mine : List Entry) (o new : ClaimData) → new.class ≡ None → MayAssignClass mine o new → ⊥
assign_none mine o new none row = true≢false (ap is_some (sym (given mine o new row) ∙ none))

pub assign_row : (mine : List Entry) (o new : ClaimData) (name : List ℕ) (b : Bool) → is_completed o ≡ false → is_deleting o.meta ≡ false
    → o.volume_name ≡ [] → lacks_class o ≡ true → new ≡ record o { class = new.class } → new.class ≡ Some name
    → (IsTrue b ↔ IsDefaultNamed mine name) → (IsTrue b ↔ MayAssignClass mine o new)
unfolding with_class
assign_row mine o new name b undone staying unnamed classless change found is = (
  (λ t. let d = is.0 t in record {
    undone = undone;
    staying = staying;
    unnamed = unnamed;
    classless = classless;
    class = d.class;
    default = d.default;
    change = change ∙ ap (with_class o) (found ∙ ap (λ n. Some n) (sym d.named));
  }),
  (λ row. is.1 (record { class = row.class; default = row.default; named = one row.class.meta.name name (sym (given mine o new row) ∙ found) })),
)
