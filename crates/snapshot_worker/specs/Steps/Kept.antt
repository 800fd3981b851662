-- The rows that a worker keeps, in the order of their keys.
-- A choice of this project.
use Rattle.std.specs.Prelude.{ℕ, List}
use Rattle.plain_data.specs.Pairs.{text_cmp}
use Rattle.plain_data.specs.Rows.{IsRising}
use Rattle.snapshot_bind.specs.declared.rows.Snapshot.{Snapshot as SnapshotData}
use Rattle.snapshot_bind.specs.SideStore.{snap_cmp}
use Rattle.snapshot_worker.specs.declared.seen.SeenSnapshot.{SeenSnapshot}
use Rattle.snapshot_worker.specs.declared.seen.SeenContent.{SeenContent}
use Rattle.snapshot_worker.specs.Workers.{seen_key, seen_name}

-- snapshots in the order of their keys, no key twice
abbrev pub AreSeenSnapshots : List SeenSnapshot → Type 0
AreSeenSnapshots xs = IsRising snap_cmp seen_key xs

-- contents in the order of their names, no name twice
abbrev pub AreSeenContents : List SeenContent → Type 0
AreSeenContents xs = IsRising text_cmp seen_name xs

-- the UID of a snapshot
abbrev pub uid_of : SnapshotData → ℕ
uid_of s = s.uid
