use Rattle.std.proofs.Common.{refl}
use Rattle.std.proofs.lemmas.Result.{on_ok_weaker}
use Rattle.script_text.specs.declared.script.Line.TheVariants.{Drain}
use Rattle.script_runs.proofs.Moving.{line_is}
use Rattle.extended_play.proofs.Walking.{draining, neither, walked_there}
use Rattle.extended_play.proofs.walk.Walk.line.Goals as goal

pub returns-in_ok-enter-in-Drain-clause-walked : goal.returns-in_ok-enter-in-Drain-clause-walked
returns-in_ok-enter-in-Drain-clause-walked c =
    let s = c.args.self.now in
    let at = line_is c.args.script.now.lines c.as_slice.result.now s.place c.index-as_slice-self.result Drain c.as_slice.ensures c.requires.place c.index-as_slice-self.is c.in-Drain.is in
    on_ok_weaker c.rest.result (λ rests. walked_there c.args.script.now c.args.option Drain s _ at
    (draining c.args.script.now c.args.option s c.enter.new.self _ (c.in_ok-enter-in-Drain.ensures.entered Drain at) rests refl refl)) c.rest.ensures

pub returns-in-Lose-clause-walked : goal.returns-in-Lose-clause-walked
returns-in-Lose-clause-walked c =
    let s = c.args.self.now in
    let x = c.index-as_slice-self.result in
    let at = line_is c.args.script.now.lines c.as_slice.result.now s.place x x c.as_slice.ensures c.requires.place c.index-as_slice-self.is refl in
    on_ok_weaker c.enter-in-Lose.result (λ entered. walked_there c.args.script.now c.args.option x s c.enter-in-Lose.new.self at
    (neither c.args.script.now c.args.option x s c.enter-in-Lose.new.self c.in-Lose.is (entered x at))) c.enter-in-Lose.ensures.entered
