use Rattle.std.proofs.Common.{◌≡◌, None}
use Rattle.expand_ops.specs.Growing.{grow_fault}
use Rattle.expand_ops.specs.Sizes.{Growth}
use Rattle.expand_ops.proofs.Grown.{unfaulted_growth}
use Rattle.expand_ops.proofs.sizes.Sizes.grow.Goals as goal

pub invariant_of-self-in-None : goal.invariant_of-self-in-None
invariant_of-self-in-None c =
    let g : Growth = record { reserve = c.self.inside.reserve; rows = c.self.inside.rows.items } in
    let seen = c.deref.ensures.value in
    let fault = c.in_ok-error.ensures in
    let is = c.in-None.is in
    let e : grow_fault c.args.quotas.now g.rows c.args.objects.now c.args.key.now c.args.bytes ≡ None = cc in
    rw c.in_ok-grow_row-in-None.ensures.ok (unfaulted_growth g c.args.quotas.now c.args.objects.now c.args.key.now c.args.bytes c.self.invariant e)
