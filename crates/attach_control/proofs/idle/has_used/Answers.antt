use Rattle.std.proofs.Common.{◌∙◌, ap}
use Rattle.std.specs.List.{list_any}
use Rattle.attach_law.specs.Next.{is_used_claim}
use Rattle.attach_control.proofs.OfKind.{used_of_kind}
use Rattle.attach_control.proofs.idle.has_used.Goals as goal

pub returns : goal.returns
returns g c =
    c.has_used_claim.ensures ∙ ap (list_any (is_used_claim (g.L.Lookup.rows c.args.lookup.now) c.args.volume.now c.args.node.now)) c.of_kind-claims.ensures.objects
    ∙ used_of_kind (g.L.Lookup.rows c.args.lookup.now) c.args.volume.now c.args.node.now (g.L.Lookup.rows c.args.lookup.now)
