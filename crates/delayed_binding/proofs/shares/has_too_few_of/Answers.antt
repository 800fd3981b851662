use Rattle.std.proofs.Common.{◌∙◌, length, refl, sym}
use Rattle.delayed_binding.proofs.Enough.{too_few}
use Rattle.delayed_binding.proofs.shares.has_too_few_of.Goals as goal

pub returns : goal.returns
returns g c =
    let rows = g.L.Lookup.rows c.args.lookup.now in
    let cannot = sym c.class_provisions.ensures ∙ c.if-class_provisions.false in
    too_few rows c.args.one.now c.args.node.now cannot c.args.claims.now (length c.args.claims.now) c.are_fewer.result
    (sym c.all_ask_like.ensures ∙ c.if-not-all_ask_like.false) refl c.are_fewer.ensures
