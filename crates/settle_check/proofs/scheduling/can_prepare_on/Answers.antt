use Rattle.std.proofs.Common.{◌≡◌, Bool, subst, sym}
use Rattle.std.specs.Bool.{Decides}
use Rattle.std.proofs.lemmas.Result.{IfOk-weaker}
use Rattle.binder_model.specs.Choice.{claims_of}
use Rattle.binder_model.specs.Store.{State}
use Rattle.model_laws.proofs.Histories.{rows_stand_in_order}
use Rattle.delayed_binding.specs.Choices.{IsPreparedOn}
use Rattle.settle_check.specs.Steps.Searching.{CanPrepareOn, is_given}
use Rattle.settle_check.specs.WorldOf.{world_of}
use Rattle.settle_check.proofs.Preparing.{decided_on}
use Rattle.settle_check.proofs.scheduling.can_prepare_on.Goals as goal

pub returns : goal.returns
returns c =
    let w = c.args.world.now in
    let p = c.args.pod.now in
    let n = c.args.node.now in
    let found = c.in_ok-found.found in
    let prepared = subst (λ (s : State). IsPreparedOn s.rows (claims_of s.rows p) n found) c.store.ensures c.in_ok-found.ensures in
    let decided = decided_on w.setup (world_of w) (rows_stand_in_order w.setup w.past) c.requires p n found prepared in
    IfOk-weaker c.is_given.result (λ (b : Bool). b ≡ is_given w.setup (world_of w) n found) (λ (b : Bool). Decides b (CanPrepareOn w.setup (world_of w) p n))
    (λ b is. subst (λ (x : Bool). Decides x (CanPrepareOn w.setup (world_of w) p n)) (sym is) decided) c.is_given.ensures
