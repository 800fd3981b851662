-- The first told of those that are alike stands for all.
use Rattle.std.proofs.Common.{List}
use Rattle.kube_objects.specs.declared.objects.Object.{Object}
use Rattle.call_types.specs.declared.entry.Entry.{Entry}
use Rattle.binder_model.specs.Told.{TellsObject, ToldObject, objects_in}
use Rattle.licence_scans.specs.Found.{IsFirstAlike}
use Rattle.model_laws.proofs.Evidence.{told_map}
use Rattle.model_laws.proofs.Lists.{some_map}

module _ (May Row : Object → Type 0) (Alike : Object → Object → Type 0) (newer : List Entry) (e : Entry) where
  pub first_is : TellsObject (IsFirstAlike May Alike Row newer) e → TellsObject (λ o. May o × Row o) e
  first_is t = (t.0, some_map {P = IsFirstAlike May Alike Row newer} {Q = λ o. May o × Row o} (λ o f. (f.may, f.row)) (objects_in e.reply) t.1)

  pub is_first : ((o x : Object) → Alike o x → Row o → Row x) → (ToldObject (λ o. May o × Row o) newer → ⊥) → TellsObject (λ o. May o × Row o) e → TellsObject (IsFirstAlike May Alike Row newer) e
  is_first shares none t = (
    t.0,
    some_map {P = λ o. May o × Row o} {Q = IsFirstAlike May Alike Row newer}
        (λ o p. record {
          may = p.0;
          first = λ s. none (told_map {P = λ x. May x × Alike o x} {Q = λ x. May x × Row x}
              (λ x q. (q.0, shares o x q.1 p.1)) newer s);
          row = p.1;
        }) (objects_in e.reply) t.1,
  )
