use Rattle.std.proofs.Common.{Option, None, subst}
use Rattle.std.proofs.lemmas.Result.{IfOk-weaker}
use Rattle.kube_parts.specs.declared.names.Due.{Due}
use Rattle.kube_objects.specs.declared.objects.Object.TheVariants.{Pod}
use Rattle.binder_model.specs.Due.{IsDue}
use Rattle.binder_model.specs.Store.{State}
use Rattle.model_laws.proofs.Histories.{rows_stand_in_order}
use Rattle.delayed_binding.specs.ChoiceLaw.{IsDueBy}
use Rattle.delayed_binding.specs.Choices.{IsChoice}
use Rattle.delayed_binding.proofs.Dues.{choices_are_due}
use Rattle.settle_check.specs.WorldOf.{world_of}
use Rattle.settle_check.proofs.Placed.{none_in_a_namespace}
use Rattle.settle_check.proofs.scheduling.scheduling_due.Goals as goal

pub due_by-requires : goal.due_by-requires
due_by-requires c = none_in_a_namespace c.args.world.now.setup c.history-history.ensures.imports c.args.world.now.past

pub returns : goal.returns
returns c =
    let w = c.args.world.now in
    let p = c.args.pod.now in
    let choice = c.in_ok-choice.choice in
    let plain = none_in_a_namespace w.setup c.history-history.ensures.imports w.past in
    let chosen = subst (λ (s : State). IsChoice s.rows p None choice) c.store.ensures c.in_ok-choice.ensures in
    IfOk-weaker c.due_by.result (IsDueBy w.setup (world_of w) p choice) (IsDue w.setup (world_of w) (Pod p))
    (λ (action : Option Due) due. (choices_are_due w.setup (world_of w) p None choice action (rows_stand_in_order w.setup w.past) plain c.requires chosen).1 due) c.due_by.ensures
