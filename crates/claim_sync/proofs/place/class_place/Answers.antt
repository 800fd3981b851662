use Rattle.std.proofs.Common.{◌∙◌, sym}
use Rattle.claim_sync.proofs.Matches.{default_matches, none_of_none, none_wanted}
use Rattle.claim_sync.proofs.place.class_place.Goals as goal

pub returns-then-not-lacks_class-clause-some : goal.returns-then-not-lacks_class-clause-some
returns-then-not-lacks_class-clause-some g c = sym (none_wanted (g.L.Lookup.rows c.args.lookup.now) c.args.claim.now (sym c.lacks_class.ensures ∙ c.if-not-lacks_class.true))

pub returns-then-count-eq0-clause-some : goal.returns-then-count-eq0-clause-some
returns-then-count-eq0-clause-some g c =
    sym (none_of_none (g.L.Lookup.rows c.args.lookup.now) c.args.claim.now (sym c.lacks_class.ensures ∙ c.if-not-lacks_class.false) (sym c.count.ensures.count ∙ c.if-count-eq0.true))

pub returns-clause-some : goal.returns-clause-some
returns-clause-some g c =
    default_matches (g.L.Lookup.rows c.args.lookup.now) c.args.claim.now c.default_class.result c.count.ensures.order (sym c.lacks_class.ensures ∙ c.if-not-lacks_class.false) c.default_class.ensures
