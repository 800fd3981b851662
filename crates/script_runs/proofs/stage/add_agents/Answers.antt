use Rattle.std.proofs.Common.{List, ℕ, ◌∷◌, [], arith, length, map, refl, subst}
use Rattle.std.proofs.lemmas.Option.{slice_get_read}
use Rattle.script_lines.specs.declared.actors.Actor.{Actor}
use Rattle.script_lines.specs.declared.actors.Actor.TheVariants.{Agent}
use Rattle.script_runs.specs.Steps.Standing.{HasAdded}
use Rattle.script_runs.proofs.Beginning.{added_next, all_added}
use Rattle.script_runs.proofs.stage.add_agents.Goals as goal

abbrev agent : List ℕ → Actor
agent node = Agent node

pub loop-node-preserved : goal.loop-node-preserved
loop-node-preserved c =
    let i = c.loop-node.invariant in
    let lines = c.args.lines.now in
    let items = c.as_slice-node-items.result.now in
    let index = c.loop-node.node-index in
    let node = c.node-item.result in
    let here = slice_get_read items (length items) index node refl c.loop-node-test.true c.node-item.is in
    let one = subst (λ (n : List ℕ). HasAdded lines
    (agent n ∷ []) c.loop-node.seat c.in_ok-seat.seat c.loop-node.players.items c.add_player.new.players.items) c.in_ok-copy.ensures c.in_ok-seat.ensures.added in
    record {
      small = omega (arith, i.small, c.in_ok-seat.ensures.most);
      added = λ end after rest. i.added end after
          (added_next lines agent items index node c.loop-node.seat c.in_ok-seat.seat end c.loop-node.players.items c.add_player.new.players.items after here one rest);
    }

pub returns-clause-added : goal.returns-clause-added
returns-clause-added c =
    let lines = c.args.lines.now in
    let items = c.as_slice-node-items.result.now in
    let seat = c.loop-node.seat in
    let first = c.args.first in
    let initial = c.args.players.now.items in
    let now = c.loop-node.players.items in
    subst (λ (nodes : List (List ℕ)). HasAdded lines (map agent nodes) first seat initial now) c.as_slice-node-items.ensures
    (all_added lines agent items c.loop-node.node-index seat first initial now (omega (arith, c.loop-node-test.false)) c.loop-node.invariant.added)
