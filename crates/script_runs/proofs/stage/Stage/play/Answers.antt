use Rattle.std.proofs.Common.{refl}
use Rattle.std.proofs.lemmas.Result.{on_ok_weaker}
use Rattle.script_text.specs.declared.script.Line.TheVariants.{Call, Turn, Drain}
use Rattle.script_runs.proofs.Casting.{known_at, named_at, within_at}
use Rattle.script_runs.proofs.Moving.{line_is, moves_there, stays}
use Rattle.script_runs.proofs.stage.Stage.play.Goals as goal

pub call-requires-clause-user : goal.call-requires-clause-user
call-requires-clause-user c =
    let line = Call c.in-Call.user c.in-Call.request in
    let at = line_is c.args.script.now.lines c.as_slice.result.now c.args.place c.index-as_slice-place.result line c.as_slice.ensures c.requires.place c.index-as_slice-place.is c.in-Call.is in
    (within_at c.args.script.now.lines c.args.place line c.requires.readable.lines at).1

pub returns-in-Call-clause-moved : goal.returns-in-Call-clause-moved
returns-in-Call-clause-moved c =
    let line = Call c.in-Call.user c.in-Call.request in
    let at = line_is c.args.script.now.lines c.as_slice.result.now c.args.place c.index-as_slice-place.result line c.as_slice.ensures c.requires.place c.index-as_slice-place.is c.in-Call.is in
    on_ok_weaker c.call.result (moves_there c.args.script.now c.args.option c.args.place line c.args.self.now c.call.new.self at) c.call.ensures.moved

pub turn-requires-clause-known : goal.turn-requires-clause-known
turn-requires-clause-known c =
    let line = Turn c.in-Turn.actor c.in-Turn.calls in
    let at = line_is c.args.script.now.lines c.as_slice.result.now c.args.place c.index-as_slice-place.result line c.as_slice.ensures c.requires.place c.index-as_slice-place.is c.in-Turn.is in
    known_at c.args.script.now.node_names c.args.script.now.lines c.args.place line c.requires.readable.known at

pub turn-requires-clause-named : goal.turn-requires-clause-named
turn-requires-clause-named c =
    let line = Turn c.in-Turn.actor c.in-Turn.calls in
    let at = line_is c.args.script.now.lines c.as_slice.result.now c.args.place c.index-as_slice-place.result line c.as_slice.ensures c.requires.place c.index-as_slice-place.is c.in-Turn.is in
    named_at c.args.script.now.lines c.args.place c.in-Turn.actor c.in-Turn.calls at

pub turn-requires-clause-few : goal.turn-requires-clause-few
turn-requires-clause-few c =
    let line = Turn c.in-Turn.actor c.in-Turn.calls in
    let at = line_is c.args.script.now.lines c.as_slice.result.now c.args.place c.index-as_slice-place.result line c.as_slice.ensures c.requires.place c.index-as_slice-place.is c.in-Turn.is in
    within_at c.args.script.now.lines c.args.place line c.requires.readable.lines at

pub returns-in-Turn-clause-moved : goal.returns-in-Turn-clause-moved
returns-in-Turn-clause-moved c =
    let line = Turn c.in-Turn.actor c.in-Turn.calls in
    let at = line_is c.args.script.now.lines c.as_slice.result.now c.args.place c.index-as_slice-place.result line c.as_slice.ensures c.requires.place c.index-as_slice-place.is c.in-Turn.is in
    on_ok_weaker c.turn.result (moves_there c.args.script.now c.args.option c.args.place line c.args.self.now c.turn.new.self at) c.turn.ensures.moved

pub returns-in_ok-drained-in-Drain-clause-moved : goal.returns-in_ok-drained-in-Drain-clause-moved
returns-in_ok-drained-in-Drain-clause-moved c =
    let at = line_is c.args.script.now.lines c.as_slice.result.now c.args.place c.index-as_slice-place.result Drain c.as_slice.ensures c.requires.place c.index-as_slice-place.is c.in-Drain.is in
    moves_there c.args.script.now c.args.option c.args.place Drain c.args.self.now c.drain.new.self at c.in_ok-drained-in-Drain.ensures.moved

pub returns-in-Lose-clause-moved : goal.returns-in-Lose-clause-moved
returns-in-Lose-clause-moved c =
    let x = c.index-as_slice-place.result in
    let at = line_is c.args.script.now.lines c.as_slice.result.now c.args.place x x c.as_slice.ensures c.requires.place c.index-as_slice-place.is refl in
    stays c.args.script.now c.args.option c.args.place x c.args.self.now at c.in-Lose.is

pub returns-in-Lose-2-clause-moved : goal.returns-in-Lose-2-clause-moved
returns-in-Lose-2-clause-moved c =
    let x = c.index-as_slice-place.result in
    let at = line_is c.args.script.now.lines c.as_slice.result.now c.args.place x x c.as_slice.ensures c.requires.place c.index-as_slice-place.is refl in
    stays c.args.script.now c.args.option c.args.place x c.args.self.now at c.in-Lose.is
