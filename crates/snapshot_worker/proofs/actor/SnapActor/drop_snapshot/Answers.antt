use Rattle.std.proofs.Common.{refl}
use Rattle.snapshot_bind.specs.SideStore.{snap_cmp}
use Rattle.snapshot_worker.specs.Workers.{dropped_snapshot, seen_key}
use Rattle.snapshot_worker.proofs.Changes.{rising_change}
use Rattle.snapshot_worker.proofs.actor.SnapActor.drop_snapshot.Goals as goal

pub invariant_of-self : goal.invariant_of-self
invariant_of-self c = (rw c.drop_snapshot.ensures (rising_change snap_cmp seen_key _ dropped_snapshot (λ x. refl) c.self.inside.snapshots.items c.self.invariant.0), c.self.invariant.1)
