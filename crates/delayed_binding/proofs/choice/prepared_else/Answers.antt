use Rattle.std.proofs.Common.{false, subst}
use Rattle.std.specs.Option.{option_copied}
use Rattle.delayed_binding.specs.Steps.Scans.{IsFirstInTurn}
use Rattle.delayed_binding.proofs.Rounds.{no_turn, second_turn}
use Rattle.delayed_binding.proofs.choice.prepared_else.Goals as goal

pub returns-in-Some : goal.returns-in-Some
returns-in-Some g c =
    let rows = g.L.Lookup.rows c.args.lookup.now in
    let found = subst (IsFirstInTurn rows c.args.claims.now (option_copied c.args.last) false) c.in-Some.is c.in_ok-found.ensures.found in
    second_turn rows c.args.claims.now (option_copied c.args.last) c.first_in_turn.ensures.order c.in-Some.choice c.requires.none found

pub returns-in-None : goal.returns-in-None
returns-in-None g c =
    let rows = g.L.Lookup.rows c.args.lookup.now in
    let found = subst (IsFirstInTurn rows c.args.claims.now (option_copied c.args.last) false) c.in-None.is c.in_ok-found.ensures.found in
    no_turn rows c.args.claims.now (option_copied c.args.last) c.first_in_turn.ensures.order c.requires.none found
