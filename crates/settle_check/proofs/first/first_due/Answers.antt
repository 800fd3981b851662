use Rattle.std.proofs.Common.{Option}
use Rattle.std.proofs.lemmas.Result.{IfOk-weaker}
use Rattle.model_laws.proofs.Histories.{rows_stand_in_order}
use Rattle.settle_check.specs.declared.first.FirstDue.{FirstDue}
use Rattle.binder_model.specs.Due.{IsDue, IsFirstDue}
use Rattle.settle_check.specs.WorldOf.{world_of}
use Rattle.settle_check.specs.First.{first_key}
use Rattle.settle_check.specs.Steps.Scan.{IsFirstIn, first_pair}
use Rattle.settle_check.proofs.Scanned.{first_in_rows}
use Rattle.settle_check.proofs.first.first_due.Goals as goal

pub returns : goal.returns
returns c =
    let w = c.args.world.now in
    IfOk-weaker c.scan.result (λ (found : Option FirstDue). IsFirstIn (IsDue w.setup (world_of w)) (world_of w).store.rows (first_pair found))
    (λ found. IsFirstDue w.setup (world_of w) (first_key found))
    (λ found first. first_in_rows w.setup (world_of w) (rows_stand_in_order w.setup w.past) found first) c.scan.ensures
