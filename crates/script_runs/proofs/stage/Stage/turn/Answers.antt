use Rattle.std.proofs.Common.{refl, arith}
use Rattle.script_runs.proofs.Needs.{it_plays, its_name, its_seats, made_after, place_within, player_there, turn_made}
use Rattle.script_runs.proofs.stage.Stage.turn.Goals as goal

pub index_mut-requires : goal.index_mut-requires
index_mut-requires c =
    let within = place_within c.args.script.now c.args.option c.args.actor.now c.args.self.now c.requires.readable c.requires.known c.requires.stands in
    omega (arith, within, c.place_of-place.ensures)

pub turn-requires-clause-named : goal.turn-requires-clause-named
turn-requires-clause-named c =
    let s = c.args.self.now in
    let x = c.index_mut.result.now in
    let at = player_there c.args.script.now c.args.option c.args.actor.now s c.requires.readable c.requires.known c.requires.stands
    c.place_of-place.result x c.place_of-place.ensures c.index_mut.ensures.value in
    its_name c.args.script.now c.args.option c.args.actor.now s c.requires.readable c.requires.known c.requires.stands x at c.requires.named

pub turn-requires-clause-seats : goal.turn-requires-clause-seats
turn-requires-clause-seats c =
    let s = c.args.self.now in
    let x = c.index_mut.result.now in
    let at = player_there c.args.script.now c.args.option c.args.actor.now s c.requires.readable c.requires.known c.requires.stands
    c.place_of-place.result x c.place_of-place.ensures c.index_mut.ensures.value in
    its_seats c.args.script.now c.args.option c.args.actor.now s c.requires.readable c.requires.known c.requires.stands x at c.requires.named

pub turn-requires-clause-made : goal.turn-requires-clause-made
turn-requires-clause-made c =
    let x = c.index_mut.result.now in
    let at = player_there c.args.script.now c.args.option c.args.actor.now c.args.self.now c.requires.readable c.requires.known c.requires.stands
    c.place_of-place.result x c.place_of-place.ensures c.index_mut.ensures.value in
    let made = c.requires.made _ x at in
    omega (arith, made, c.requires.most, c.requires.few)

pub turn-requires-clause-plays : goal.turn-requires-clause-plays
turn-requires-clause-plays c =
    let s = c.args.self.now in
    let x = c.index_mut.result.now in
    let at = player_there c.args.script.now c.args.option c.args.actor.now s c.requires.readable c.requires.known c.requires.stands
    c.place_of-place.result x c.place_of-place.ensures c.index_mut.ensures.value in
    it_plays c.args.script.now c.args.option c.args.actor.now s c.requires.readable c.requires.known c.requires.stands x at c.requires.named

pub returns-clause-moved : goal.returns-clause-moved
returns-clause-moved c =
    turn_made c.args.script.now c.args.option c.args.actor.now c.args.calls c.args.self.now _ c.place_of-place.result c.index_mut.result.now
    c.turn.new.player c.requires.readable c.requires.known c.requires.named c.requires.stands
    c.place_of-place.ensures c.index_mut.ensures.value refl c.turn.ensures.part
    (c.in_ok-turn.ensures.passes refl) c.turn.ensures.setup refl refl refl refl c.in_ok-turn.ensures.turned c.in_ok-turn.ensures.lives

pub returns-clause-made : goal.returns-clause-made
returns-clause-made c =
    made_after c.args.script.now c.args.option c.args.actor.now c.args.calls c.args.most c.args.self.now c.turn.new.desk.past c.place_of-place.result
    c.index_mut.result.now c.turn.new.player c.requires.readable c.requires.known c.requires.named c.requires.stands
    c.place_of-place.ensures c.index_mut.ensures.value c.in_ok-turn.ensures.turned c.requires.few c.requires.made
