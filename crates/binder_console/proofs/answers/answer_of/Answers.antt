use Rattle.std.proofs.Common.{◌≡◌, IfOk, subst}
use Rattle.binder_console.specs.declared.commands.Task.{Task}
use Rattle.binder_console.specs.declared.commands.Task.TheVariants.{Gen}
use Rattle.binder_console.specs.Outcomes.{IsAnswer}
use Rattle.binder_console.proofs.answers.answer_of.Goals as goal

pub returns-in-Gen : goal.returns-in-Gen
returns-in-Gen g c =
    let is = c.in-Gen.is in
    let same : Gen c.in-Gen.seed c.in-Gen.budget ≡ c.args.task = cc in
    subst (λ (task : Task). IfOk c.generated.result (IsAnswer task c.args.input.now)) same (c.generated.ensures c.args.input.now)
