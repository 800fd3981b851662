use Rattle.std.proofs.Common.{List, arith, get_or, map, subst}
use Rattle.std.proofs.lemmas.Option.{slice_get-get_or}
use Rattle.script_lines.specs.declared.actors.Actor.{Actor}
use Rattle.script_lines.specs.declared.actors.Actor.TheVariants.{Worker}
use Rattle.script_lines.specs.declared.actors.WorkerKind.{WorkerKind}
use Rattle.script_lines.specs.declared.actors.WorkerNumber.{WorkerNumber}
use Rattle.script_lines.specs.declared.actors.WorkerNumber.TheVariants.{One}
use Rattle.script_runs.specs.Steps.Standing.{HasAdded}
use Rattle.script_runs.proofs.Beginning.{added_next, all_added}
use Rattle.script_runs.proofs.stage.add_workers.Goals as goal

abbrev worker : WorkerKind → WorkerNumber → Actor
worker kind number = Worker (record { kind = kind; number = number })

pub loop-number-preserved : goal.loop-number-preserved
loop-number-preserved c =
    let i = c.loop-number.invariant in
    let numbers = c.numbers-number-items.result.now in
    let index = c.loop-number.number-index in
    let here = slice_get-get_or numbers index One c.loop-number-test.true in
    record {
      small = omega (arith, i.small, c.in_ok-seat.ensures.most);
      added = λ end after rest. i.added end after
          (added_next c.args.lines.now (worker c.args.kind) numbers index
          (get_or numbers index One) c.loop-number.seat c.in_ok-seat.seat end c.loop-number.players.items c.add_player.new.players.items after here c.in_ok-seat.ensures.added rest);
    }

pub returns-clause-added : goal.returns-clause-added
returns-clause-added c =
    let lines = c.args.lines.now in
    let numbers = c.numbers-number-items.result.now in
    let seat = c.loop-number.seat in
    let first = c.args.first in
    let initial = c.args.players.now.items in
    let now = c.loop-number.players.items in
    subst (λ (ns : List WorkerNumber). HasAdded lines (map (worker c.args.kind) ns) first seat initial now) c.numbers-number-items.ensures
    (all_added lines (worker c.args.kind) numbers c.loop-number.number-index seat first initial now (omega (arith, c.loop-number-test.false)) c.loop-number.invariant.added)
