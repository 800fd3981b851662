use Rattle.std.proofs.Common.{List, [], subst}
use Rattle.script_text.specs.declared.script.Line.{Line}
use Rattle.script_runs.specs.Steps.Standing.{HasAdded, actors_for}
use Rattle.script_runs.proofs.Beginning.{actors_added}
use Rattle.script_runs.proofs.stage.players.Goals as goal

pub returns-clause-added : goal.returns-clause-added
returns-clause-added c =
    let nodes = c.args.script.now.node_names in
    let lines = c.as_slice-lines.result.now in
    subst (λ (ls : List Line). HasAdded ls (actors_for nodes) 5 c.in_ok-end.end [] c.add_agents.new.players.items) c.as_slice-lines.ensures
    (actors_added lines nodes c.in_ok-second.second c.in_ok-third.third c.in_ok-fourth.fourth c.in_ok-fifth.fifth c.in_ok-sixth.sixth c.in_ok-end.end
    c.new-players.result.items c.add_workers.new.players.items
    c.add_workers-2.new.players.items c.add_workers-3.new.players.items c.add_workers-4.new.players.items c.add_workers-5.new.players.items c.add_agents.new.players.items c.new-players.ensures.items
    c.in_ok-second.ensures.added c.in_ok-third.ensures.added c.in_ok-fourth.ensures.added c.in_ok-fifth.ensures.added c.in_ok-sixth.ensures.added c.in_ok-end.ensures.added)
