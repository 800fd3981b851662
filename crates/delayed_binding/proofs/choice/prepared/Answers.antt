use Rattle.std.proofs.Common.{true, subst}
use Rattle.std.specs.Option.{option_copied}
use Rattle.delayed_binding.specs.Steps.Scans.{IsFirstInTurn}
use Rattle.delayed_binding.proofs.Rounds.{first_turn}
use Rattle.delayed_binding.proofs.choice.prepared.Goals as goal

pub returns-in-Some : goal.returns-in-Some
returns-in-Some g c =
    let rows = g.L.Lookup.rows c.args.lookup.now in
    let found = subst (IsFirstInTurn rows c.args.claims.now (option_copied c.args.last) true) c.in-Some.is c.in_ok-found.ensures.found in
    first_turn rows c.args.claims.now (option_copied c.args.last) c.first_in_turn.ensures.order c.in-Some.choice found
