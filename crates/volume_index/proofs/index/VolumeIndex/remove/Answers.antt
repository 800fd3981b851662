use Rattle.volume_index.proofs.IndexStands.{removed}
use Rattle.volume_index.proofs.index.VolumeIndex.remove.Goals as goal

pub returns : goal.returns
returns c =
    removed c.args.volume.now (record { all = c.self.inside.all.items; free = c.self.inside.free.items; owned = c.self.inside.owned.items }) c.args.self.now
    c.take_by_size.new.volumes.items c.take_free.new.volumes.items c.take_owned.new.volumes.items
    c.self.view_is c.self.invariant c.take_by_size.ensures.without c.take_free.ensures.without c.take_owned.ensures.without
