use Rattle.std.proofs.Common.{◌∙◌, ap, sym}
use Rattle.std.specs.Option.{option_copied}
use Rattle.model_laws.proofs.Lists.{one}
use Rattle.delayed_binding.proofs.Alike.{like_closed, none_closed}
use Rattle.delayed_binding.proofs.shares.open_node.Goals as goal

pub returns-then-is_like_refused : goal.returns-then-is_like_refused
returns-then-is_like_refused g c = λ m e.
    like_closed (g.L.Lookup.rows c.args.lookup.now) c.args.claims.now c.args.others.now
    (option_copied c.args.refused) c.in-Some.node.now c.is_like_refused.result c.requires.others c.requires.refused c.is_like_refused.ensures
    c.if-is_like_refused.true m (one c.in-Some.node.now m (sym (ap option_copied c.in-Some.is) ∙ e))

pub returns-then-has_too_few : goal.returns-then-has_too_few
returns-then-has_too_few g c = λ m e.
    none_closed (g.L.Lookup.rows c.args.lookup.now) c.args.claims.now c.args.others.now c.in-Some.node.now c.has_too_few.result c.requires.others
    c.has_too_few.ensures c.if-has_too_few.true m (one c.in-Some.node.now m (sym (ap option_copied c.in-Some.is) ∙ e))
