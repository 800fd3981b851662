use Rattle.std.proofs.Common.{◌∙◌}
use Rattle.volume_index.specs.VolumeIndex.{volumes_in}
use Rattle.delayed_binding.proofs.Carrying.{carried_in_part}
use Rattle.delayed_binding.proofs.volumes.has_carrier.Goals as goal

pub returns-in-Some : goal.returns-in-Some
returns-in-Some g c =
    let rows = g.L.Lookup.rows c.args.lookup.now in
    c.is_carried.ensures ∙ carried_in_part c.args.claim.now rows c.referring_to.result.now (c.referring_to.ensures (volumes_in rows) c.in-Some.ensures)
