use Rattle.std.proofs.Common.{◌≡◌, ◌∙◌, ap}
use Rattle.volume_index.specs.Steps.IndexEdits.{put_if}
use Rattle.volume_index.specs.VolumeIndex.{is_any}
use Rattle.volume_index.specs.VolumeOrders.{by_size}
use Rattle.volume_index.proofs.IndexStands.{inserted}
use Rattle.volume_index.proofs.index.VolumeIndex.insert.Goals as goal

pub returns-clause-ok : goal.returns-clause-ok
returns-clause-ok c =
    let all : c.put_all.new.volumes.items ≡ put_if by_size is_any c.args.volume.now c.self.inside.all.items =
    c.put_all.ensures.put ∙ (ap (λ v. put_if by_size is_any v c.reserve.new.self.items) c.in_ok-own.ensures ∙ ap (put_if by_size is_any c.args.volume.now) c.reserve.ensures.items) in
    inserted c.args.volume.now (record { all = c.self.inside.all.items; free = c.self.inside.free.items; owned = c.self.inside.owned.items }) c.args.self.now
    c.put_all.new.volumes.items c.put_free.new.volumes.items c.put_owned.new.volumes.items
    c.self.view_is c.self.invariant all c.in_ok-put_free.ensures.ok c.in_ok-put_owned.ensures.ok
