use Rattle.std.proofs.Common.{◌≡◌, OnOk, subst}
use Rattle.snapshot_bind.proofs.Orders.{snap_cmp_total}
use Rattle.plain_data.specs.Rows.{placed_row}
use Rattle.snapshot_bind.specs.declared.rows.Snapshot.{Snapshot as SnapshotData}
use Rattle.snapshot_worker.specs.Workers.{fresh_snapshot, seen_key}
use Rattle.snapshot_worker.proofs.Changes.{kept_put, kept_rising}
use Rattle.snapshot_worker.proofs.table.keep_snapshot.Goals as goal

pub returns : goal.returns
returns c =
    let at = rw (c.deref.ensures.value, c.as_str.ensures, c.as_str-2.ensures) at c.snapshot_place-place.ensures.at in
    let gap = rw (c.deref.ensures.value, c.as_str.ensures, c.as_str-2.ensures) at c.snapshot_place-place.ensures.gap in
    let placed = subst
    (λ (x : SnapshotData). OnOk c.place_at.result (c.place_at.new.rows.items ≡ placed_row c.args.rows.now.items c.snapshot_place-place.result (fresh_snapshot x)))
    c.in_ok-copy.ensures c.place_at.ensures.ok in
    let ok = kept_put snap_cmp_total seen_key c.place_at.result c.args.rows.now.items c.place_at.new.rows.items c.snapshot_place-place.result (fresh_snapshot c.args.row.now) at gap placed in
    let rising = kept_rising snap_cmp_total seen_key c.place_at.result c.args.rows.now.items c.place_at.new.rows.items (fresh_snapshot c.args.row.now) c.requires ok c.place_at.ensures.err in
    record { ok = ok; err = c.place_at.ensures.err; rising = rising }
