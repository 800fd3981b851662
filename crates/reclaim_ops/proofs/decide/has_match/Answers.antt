use Rattle.std.proofs.Common.{◌≡◌, ◌∙◌, None, [], sym, ap, subst}
use Rattle.binder_model.specs.Matching.{IsBest, is_delayed, waits_for_pod}
use Rattle.claim_sync.proofs.Matches.{best_matches}
use Rattle.reclaim_ops.proofs.decide.has_match.Goals as goal

pub returns : goal.returns
returns g c =
    let late : c.args.class.now.delayed ≡ waits_for_pod (g.L.Lookup.rows c.args.lookup.now) c.args.claim.now = sym (ap is_delayed c.requires) in
    c.is_some.ensures ∙ best_matches (g.L.Lookup.rows c.args.lookup.now) c.args.claim.now c.best.result
    (subst (λ b. IsBest (g.L.Lookup.rows c.args.lookup.now) c.args.claim.now None b [] c.best.result) late c.best.ensures)
