use Rattle.std.proofs.Common.{◌≡◌, ◌+◌, ◌*◌, ◌∙◌, ap, sym, subst, arith, length, ℕ}
use Rattle.size_law.specs.Calls.Calls.{AreByActors}
use Rattle.world_core.specs.Kept.{History}
use Rattle.script_runs.specs.Steps.Standing.{MadeAtMost}
use Rattle.script_runs.proofs.Beginning.{replays, so_far_first, so_far_on}
use Rattle.script_runs.proofs.Ending.{played_replay}
use Rattle.script_runs.proofs.Moving.{line_there, some_of}
use Rattle.script_runs.proofs.replay.replay.Goals as goal

pub loop-place-init : goal.loop-place-init
loop-place-init c =
    let so = so_far_first c.args.script.now c.args.budget c.in_ok-stage.stage c.in_ok-stage.ensures.new c.in_ok-stage.ensures.stands in
    record {
      some = some_of c.args.script.now c.args.budget 0 c.in_ok-stage.stage so;
      actors = c.in_ok-stage.ensures.actors;
      so_far = so;
      made = c.in_ok-stage.ensures.made;
    }

pub play-requires-clause-place : goal.play-requires-clause-place
play-requires-clause-place c = let all = ap length c.as_slice-place-end.ensures in omega (arith, all, c.loop-place-test.true)

pub loop-place-preserved : goal.loop-place-preserved
loop-place-preserved c =
    let script = c.args.script.now in
    let place = c.loop-place.place in
    let new = c.play.new.self in
    let all = ap length c.as_slice-place-end.ensures in
    let line = line_there script.lines place (omega (arith, all, c.loop-place-test.true)) in
    let so = so_far_on script c.args.budget place line.0 c.loop-place.stage new line.1 c.loop-place.invariant.so_far (c.in_ok-play.ensures.moved line.0 line.1) in
    let count : 1000 * place + 1000 ≡ 1000 * (place + 1) = omega arith in
    record {
      some = some_of script c.args.budget (place + 1) new so;
      actors = c.in_ok-play.ensures.actors c.loop-place.invariant.actors;
      so_far = so;
      made = subst (λ (n : ℕ). MadeAtMost n new) count c.in_ok-play.ensures.made;
    }

pub returns-clause-replay : goal.returns-clause-replay
returns-clause-replay c =
    let all = ap length c.as_slice-place-end.ensures in
    replays c.args.script.now c.args.budget c.loop-place.place c.loop-place.stage c.end.new.self c.into_world.result.past c.in_ok-ending.ending
    (omega (arith, all, c.loop-place-test.false)) c.loop-place.invariant.so_far c.in_ok-ending.ensures.ended
    (ap (λ (h : History). h.past) c.into_world.ensures)

pub returns-clause-setup : goal.returns-clause-setup
returns-clause-setup c =
    let so = c.loop-place.invariant.so_far in
    ap (λ (h : History). h.setup) c.into_world.ensures ∙ (c.in_ok-ending.ensures.ended so.progress so.stands).stands.setup

pub returns-clause-actors : goal.returns-clause-actors
returns-clause-actors c = subst (λ (h : History). AreByActors h.past) (sym c.into_world.ensures) (c.in_ok-ending.ensures.actors c.loop-place.invariant.actors)

pub returns-clause-played : goal.returns-clause-played
returns-clause-played c =
    let all = ap length c.as_slice-place-end.ensures in
    played_replay c.args.script.now c.args.budget c.loop-place.place c.loop-place.stage c.end.new.self c.into_world.result.past
    c.in_ok-ending.ending c.requires.readable (omega (arith, all, c.loop-place-test.false)) c.loop-place.invariant.so_far
    c.in_ok-ending.ensures.ended (ap (λ (h : History). h.past) c.into_world.ensures)
