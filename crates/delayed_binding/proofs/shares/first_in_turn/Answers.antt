use Rattle.std.proofs.Common.{◌≡◌, ◌∙◌, arith}
use Rattle.std.specs.Option.{option_copied}
use Rattle.delayed_binding.specs.Steps.Scans.{ServesInTurn}
use Rattle.delayed_binding.proofs.Rounds.{none_found}
use Rattle.delayed_binding.proofs.shares.first_in_turn.Goals as goal

pub returns-clause-found : goal.returns-clause-found
returns-clause-found g c =
    let same : c.loop-place.place ≡ c.count-place-end.result = omega arith in
    none_found (g.L.Lookup.rows c.args.lookup.now) c.count-place-end.ensures.order
    (ServesInTurn (g.L.Lookup.rows c.args.lookup.now) c.args.claims.now (option_copied c.args.last) c.args.past) c.loop-place.place
    (same ∙ c.count-place-end.ensures.count) c.loop-place.invariant.0
