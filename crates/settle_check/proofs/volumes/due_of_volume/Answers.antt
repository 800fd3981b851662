use Rattle.settle_check.proofs.VolumeSays.{read_off}
use Rattle.settle_check.proofs.volumes.due_of_volume.Goals as goal

pub returns : goal.returns
returns c = read_off c.args.store.now.rows c.args.volume.now _ _ _ _ _ c.claim_of-claim.ensures c.requires c.volume_conditions-conditions.ensures c.pick.ensures c.due_numbered.ensures
