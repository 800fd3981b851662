use Rattle.std.proofs.Common.{subst}
use Rattle.plain_data.specs.Pairs.{text_cmp}
use Rattle.snapshot_bind.specs.SideStore.{snap_cmp}
use Rattle.snapshot_worker.specs.Workers.{ListsInOrder, fresh_content, fresh_snapshot, seen_key, seen_name}
use Rattle.snapshot_worker.proofs.Changes.{rising_map}
use Rattle.snapshot_worker.proofs.actor.SnapActor.begin.Goals as goal

pub invariant_of-self : goal.invariant_of-self
invariant_of-self c =
    let rise = subst ListsInOrder c.in-Listed.is c.requires in (
      rw (c.in_ok-kept_snapshots-in-Listed.ensures, c.as_slice.ensures) (rising_map snap_cmp seen_key fresh_snapshot c.in-Listed.snapshots rise.0),
      rw (c.in_ok-kept_contents-in-Listed.ensures, c.as_slice-in-Listed.ensures) (rising_map text_cmp seen_name fresh_content c.in-Listed.contents rise.1),
    )
