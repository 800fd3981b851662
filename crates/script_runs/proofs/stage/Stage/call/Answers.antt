use Rattle.std.proofs.Common.{refl, subst, sym}
use Rattle.size_law.specs.Calls.Calls.{AreByActors}
use Rattle.script_runs.proofs.Staging.{user_moved}
use Rattle.script_runs.proofs.stage.Stage.call.Goals as goal

pub returns-clause-moved : goal.returns-clause-moved
returns-clause-moved c =
    user_moved c.args.script.now c.args.option c.args.user c.args.request.now c.in_ok-_reply._reply c.args.self.now _ c.requires.user
    c.in_ok-_reply.ensures.entry c.call.ensures.setup refl refl refl refl refl

pub returns-clause-actors : goal.returns-clause-actors
returns-clause-actors c = λ before. subst AreByActors (sym c.in_ok-_reply.ensures.entry) (before, tt)
