use Rattle.std.proofs.lemmas.Result.{IfOk-weaker}
use Rattle.std.proofs.Common.{◌≡◌}
use Rattle.world_core.specs.declared.drained.Drained.{Drained}
use Rattle.script_runs.specs.Replays.{Progress}
use Rattle.script_runs.specs.Steps.Standing.{Ended, StageStands, with_made}
use Rattle.script_runs.proofs.Beginning.{has_ended}
use Rattle.script_runs.proofs.stage.Stage.end.Goals as goal

pub returns-clause-ended : goal.returns-clause-ended
returns-clause-ended c =
    let old = c.args.self.now in
    let new = c.drain.new.self in
    let d = c.in_ok-last.last in
    let is_ended = λ (ending : Drained) (is : ending ≡ with_made new.drained d). has_ended c.args.script.now c.args.option old new d ending
    c.in_ok-last.ensures.moved c.in_ok-last.ensures.made c.in_ok-last.ensures.ends is in
    IfOk-weaker c.ended.result (λ ending. ending ≡ with_made new.drained d)
    (λ ending. (p : Progress) → StageStands c.args.script.now c.args.option p old → Ended c.args.script.now c.args.option p new ending) is_ended c.ended.ensures
