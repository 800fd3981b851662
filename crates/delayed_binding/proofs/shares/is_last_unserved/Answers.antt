use Rattle.std.proofs.Common.{◌-◌, length, refl, subst, arith}
use Rattle.std.specs.Bool.{OnTrue}
use Rattle.std.proofs.lemmas.Option.{slice_get_read}
use Rattle.delayed_binding.specs.Steps.Sharing.{IsUnserved, nothing_held}
use Rattle.delayed_binding.proofs.Sharing.{unserved_none}
use Rattle.delayed_binding.proofs.shares.is_last_unserved.Goals as goal

pub returns : goal.returns
returns g c =
    let cs = c.args.claims.now in
    let x = c.index-claims-count.result in
    let at = slice_get_read cs (length cs) (length cs - 1) x refl (omega (arith, c.if-count-eq0.false)) c.index-claims-count.is in
    unserved_none (g.L.Lookup.rows c.args.lookup.now) c.args.node.now cs (length cs - 1) x at c.is_unserved.result
    (subst (λ d. OnTrue c.is_unserved.result (IsUnserved (g.L.Lookup.rows c.args.lookup.now) c.args.node.now d nothing_held)) c.get.ensures c.is_unserved.ensures)
