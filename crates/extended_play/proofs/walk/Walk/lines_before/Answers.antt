use Rattle.std.proofs.Common.{[], ◌∷◌, ap, arith, length}
use Rattle.script_runs.proofs.Moving.{line_there}
use Rattle.extended_runs.specs.Works.{OfScript}
use Rattle.extended_play.proofs.Going.{lines_one, lines_over, lines_reached, some_walked}
use Rattle.extended_play.proofs.walk.Walk.lines_before.Goals as goal

pub lines-preserved : goal.lines-preserved
lines-preserved c =
    let script = c.args.script.now in
    let now = c.lines.self in
    let new = c.line.new.self in
    let all = ap length c.as_slice.ensures in
    let line = line_there script.lines now.place (omega (arith, all, c.if-self-as_slice.true)) in
    let walked = c.in_ok-line.ensures.walked line.0 line.1 in
    record {
      some = some_walked script c.args.option (OfScript line.0 ∷ []) now new walked c.lines.invariant.some;
      goes = λ end done. c.lines.invariant.goes end
          (lines_one script c.args.option c.args.before line.0 now new c.lines-test.true line.1 c.in_ok-line.ensures.place walked end done);
    }

pub returns-else-self-as_slice : goal.returns-else-self-as_slice
returns-else-self-as_slice c =
    let all = ap length c.as_slice.ensures in
    c.lines.invariant.goes c.lines.self (lines_over c.args.script.now c.args.option c.args.before c.lines.self (omega (arith, all, c.if-self-as_slice.false)))

pub returns-after-lines : goal.returns-after-lines
returns-after-lines c = c.lines.invariant.goes c.lines.self (lines_reached c.args.script.now c.args.option c.args.before c.lines.self c.lines-test.false)
