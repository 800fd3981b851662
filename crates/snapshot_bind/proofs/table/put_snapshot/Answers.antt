use Rattle.std.proofs.Common.{◌≡◌, ℕ, List, Result, Ok, Err, IfOk, IfErr, OnOk, OnErr, refl, sym, subst, ◌∙◌}
use Rattle.plain_data.proofs.RowFacts.{put_at, put_gap, rising_put}
use Rattle.plain_data.specs.declared.copies.OutOfMemory.{OutOfMemory}
use Rattle.plain_data.specs.Rows.{placed_row}
use Rattle.snapshot_bind.specs.declared.rows.Snapshot.{Snapshot}
use Rattle.snapshot_bind.specs.SideStore.{snapshot_key, AreSnapshots, IsSnapshotAt, IsSnapshotGap, put_snapshot}
use Rattle.snapshot_bind.proofs.Orders.{snap_cmp_total}
use Rattle.snapshot_bind.proofs.table.put_snapshot.Goals as goal

placed_is : (rows : List Snapshot) (place : Result ℕ ℕ) (o : Snapshot) → IfOk place (IsSnapshotAt rows (snapshot_key o))
    → IfErr place (IsSnapshotGap rows (snapshot_key o)) → put_snapshot o rows ≡ placed_row rows place o
placed_is rows (Ok i) o at gap = put_at snap_cmp_total snapshot_key (snapshot_key o) o refl rows i at
placed_is rows (Err i) o at gap = put_gap snap_cmp_total snapshot_key (snapshot_key o) o refl rows i gap

ok_part : (r : Result Snapshot OutOfMemory) (old new : List Snapshot) (place : Result ℕ ℕ) (o : Snapshot)
    → put_snapshot o old ≡ placed_row old place o → OnOk r (new ≡ placed_row old place o) → OnOk r (new ≡ put_snapshot o old)
ok_part (Ok x) old new place o is h = h ∙ sym is
ok_part (Err e) old new place o is h = tt

rising_part : (r : Result Snapshot OutOfMemory) (old new : List Snapshot) (o : Snapshot) → AreSnapshots old → OnOk r (new ≡ put_snapshot o old) → OnErr r (new ≡ old) → AreSnapshots new
rising_part (Ok x) old new o rows ok err = subst AreSnapshots (sym ok) (rising_put snap_cmp_total snapshot_key o old rows)
rising_part (Err e) old new o rows ok err = subst AreSnapshots (sym err) rows

pub returns : goal.returns
returns c =
    let at = rw (c.deref.ensures.value, c.as_str.ensures, c.as_str-2.ensures) at c.snapshot_place-place.ensures.at in
    let gap = rw (c.deref.ensures.value, c.as_str.ensures, c.as_str-2.ensures) at c.snapshot_place-place.ensures.gap in
    let is = placed_is _ c.snapshot_place-place.result c.args.snapshot at gap in
    let ok = ok_part _ _ _ _ c.args.snapshot is c.put_at.ensures.ok in
    record { told = c.put_at.ensures.told; ok = ok; err = c.put_at.ensures.err; rising = rising_part _ _ _ c.args.snapshot c.requires ok c.put_at.ensures.err }
