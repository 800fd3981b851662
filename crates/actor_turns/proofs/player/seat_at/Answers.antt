use Rattle.std.proofs.Common.{ap, arith, ◌∙◌}
use Rattle.actor_turns.specs.Calls.{restarts_before}
use Rattle.actor_turns.proofs.Lives.{restarts_few}
use Rattle.actor_turns.proofs.player.seat_at.Goals as goal

pub overflow_add-result : goal.overflow_add-result
overflow_add-result c =
    let same = c.restarts_before.ensures ∙ ap (restarts_before c.args.number) c.as_slice.ensures in
    let few = restarts_few c.args.number c.args.part.now.restarts in
    omega (arith, same, few)
