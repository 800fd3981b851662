use Rattle.std.proofs.Common.{◌≡◌, ℕ, List, Result, Ok, Err, IfOk, IfErr, OnOk, OnErr, sym, subst, ◌∙◌}
use Rattle.plain_data.proofs.RowFacts.{put_at, put_gap, rising_put}
use Rattle.plain_data.specs.declared.copies.OutOfMemory.{OutOfMemory}
use Rattle.kube_objects.specs.declared.objects.Object.{Object}
use Rattle.kube_objects.specs.declared.key.Key.{Key}
use Rattle.kube_objects.specs.Keys.{key_of, AreRows, IsRowAt, IsRowGap, put_row}
use Rattle.plain_data.specs.Rows.{placed_row}
use Rattle.kube_objects.proofs.KeyOrder.{key_cmp_total}
use Rattle.kube_types.proofs.table.put_in.Goals as goal

-- what is put at its place is put in order
placed_is : (rows : List Object) (k : Key) (place : Result ℕ ℕ) (o : Object) → key_of o ≡ k → IfOk place (IsRowAt rows k) → IfErr place (IsRowGap rows k) → put_row o rows ≡ placed_row rows place o
placed_is rows k (Ok i) o e at gap = put_at key_cmp_total key_of k o e rows i at
placed_is rows k (Err i) o e at gap = put_gap key_cmp_total key_of k o e rows i gap

ok_part : (r : Result Object OutOfMemory) (old new : List Object) (k : Key) (place : Result ℕ ℕ) (o : Object)
    → put_row o old ≡ placed_row old place o → OnOk r (new ≡ placed_row old place o) → OnOk r (new ≡ put_row o old)
ok_part (Ok x) old new k place o is h = h ∙ sym is
ok_part (Err e) old new k place o is h = tt

rising_part : (r : Result Object OutOfMemory) (old new : List Object) (o : Object) → AreRows old → OnOk r (new ≡ put_row o old) → OnErr r (new ≡ old) → AreRows new
rising_part (Ok x) old new o rows ok err = subst AreRows (sym ok) (rising_put key_cmp_total key_of o old rows)
rising_part (Err e) old new o rows ok err = subst AreRows (sym err) rows

pub returns : goal.returns
returns c =
    let at = rw c.deref.ensures.value at c.row_place-place.ensures.at in
    let gap = rw c.deref.ensures.value at c.row_place-place.ensures.gap in
    let is = placed_is _ c.args.key.now c.row_place-place.result c.args.object (sym c.requires.key) at gap in
    let ok = ok_part _ _ _ c.args.key.now _ c.args.object is c.put_at.ensures.ok in
    record { told = c.put_at.ensures.told; ok = ok; err = c.put_at.ensures.err; rising = rising_part _ _ _ c.args.object c.requires.rows ok c.put_at.ensures.err }
