use Rattle.std.proofs.Common.{◌∙◌}
use Rattle.claim_sync.proofs.Matches.{best_matches, match_alone}
use Rattle.claim_sync.proofs.place.has_best.Goals as goal

pub returns : goal.returns
returns g c =
    c.is_some.ensures
    ∙ (best_matches (g.L.Lookup.rows c.args.lookup.now) c.args.claim.now c.match_place.result c.match_place.ensures
    ∙ match_alone c.is_empty.result _ _ c.is_empty.ensures c.if-not-is_empty.false)
