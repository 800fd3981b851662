use Rattle.std.proofs.Common.{◌∙◌, refl, sym}
use Rattle.script_runs.proofs.Beginning.{begins, new_made, new_ones}
use Rattle.script_runs.proofs.Casting.{drains_after}
use Rattle.script_runs.proofs.stage.begin.Goals as goal

pub returns-clause-stands : goal.returns-clause-stands
returns-clause-stands c =
    begins c.args.script.now c.args.option _ c.in_ok-players.first c.in_ok-world.ensures.past c.in_ok-world.ensures.setup c.in_ok-players.ensures.added
    c.in_ok-drainers.ensures.are (c.in_ok-players.ensures.added.seat ∙ sym (drains_after c.args.script.now)) c.in_ok-drainers.ensures.stand refl c.first_budget.ensures refl

pub returns-clause-new : goal.returns-clause-new
returns-clause-new c =
    new_ones c.args.script.now c.in_ok-players.first _ c.in_ok-drainers.ensures.are (c.in_ok-players.ensures.added.seat ∙ sym (drains_after c.args.script.now))

pub returns-clause-made : goal.returns-clause-made
returns-clause-made c = new_made c.args.script.now.lines _ _ c.in_ok-players.first c.in_ok-players.players.items c.in_ok-players.ensures.added
