use Rattle.std.proofs.Common.{◌∙◌, ap}
use Rattle.std.specs.List.{list_any}
use Rattle.attach_law.specs.Next.{is_user_on}
use Rattle.attach_control.proofs.OfKind.{users_of_kind}
use Rattle.attach_control.proofs.idle.has_user.Goals as goal

pub returns : goal.returns
returns g c =
    c.has_user_on.ensures ∙ ap (list_any (is_user_on c.args.node.now c.args.claim.now)) c.of_kind.ensures.objects
    ∙ users_of_kind c.args.node.now c.args.claim.now (g.L.Lookup.rows c.args.lookup.now)
