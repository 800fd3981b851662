use Rattle.std.proofs.Common.{◌∙◌}
use Rattle.volume_index.specs.VolumeIndex.{volumes_in}
use Rattle.delayed_binding.proofs.Carrying.{admitted_in_part}
use Rattle.delayed_binding.proofs.volumes.carriers_admit.Goals as goal

pub returns-in-Some : goal.returns-in-Some
returns-in-Some g c =
    let rows = g.L.Lookup.rows c.args.lookup.now in
    c.those_admit.ensures ∙ admitted_in_part c.args.claim.now rows c.referring_to.result.now (c.referring_to.ensures (volumes_in rows) c.in-Some.ensures) c.args.node.now
