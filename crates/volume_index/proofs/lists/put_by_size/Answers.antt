use Rattle.std.proofs.Common.{◌≡◌, ℕ, List, Result, Ok, Err, IfOk, IfErr, OnOk, OnErr, refl, sym, subst, ◌∙◌}
use Rattle.plain_data.proofs.RowFacts.{put_at, put_gap, rising_put}
use Rattle.plain_data.specs.declared.copies.OutOfMemory.{OutOfMemory}
use Rattle.plain_data.specs.Rows.{IsAt, IsGap, placed_row, put}
use Rattle.kube_objects.specs.declared.objects.Volume.{Volume}
use Rattle.volume_index.specs.VolumeOrders.{AreInOrder, by_size}
use Rattle.volume_index.proofs.VolumeOrders.{by_size_total}
use Rattle.volume_index.proofs.lists.put_by_size.Goals as goal

-- what is put at its place is put in order
placed_is : (rows : List Volume) (place : Result ℕ ℕ) (v : Volume) → IfOk place (IsAt by_size (λ u. u) v rows)
    → IfErr place (IsGap by_size (λ u. u) v rows) → put by_size (λ u. u) v rows ≡ placed_row rows place v
placed_is rows (Ok i) v at gap = put_at by_size_total (λ u. u) v v refl rows i at
placed_is rows (Err i) v at gap = put_gap by_size_total (λ u. u) v v refl rows i gap

ok_part : (r : Result Volume OutOfMemory) (old new : List Volume) (place : Result ℕ ℕ) (v : Volume)
    → put by_size (λ u. u) v old ≡ placed_row old place v → OnOk r (new ≡ placed_row old place v) → OnOk r (new ≡ put by_size (λ u. u) v old)
ok_part (Ok x) old new place v is h = h ∙ sym is
ok_part (Err e) old new place v is h = tt

order_part : (r : Result Volume OutOfMemory) (old new : List Volume) (v : Volume) → AreInOrder by_size old → OnOk r (new ≡ put by_size (λ u. u) v old) → OnErr r (new ≡ old) → AreInOrder by_size new
order_part (Ok x) old new v rows ok err = subst (AreInOrder by_size) (sym ok) (rising_put by_size_total (λ u. u) v old rows)
order_part (Err e) old new v rows ok err = subst (AreInOrder by_size) (sym err) rows

pub returns : goal.returns
returns c =
    let at = rw c.deref.ensures.value at c.size_place-place.ensures.at in
    let gap = rw c.deref.ensures.value at c.size_place-place.ensures.gap in
    let is = placed_is _ c.size_place-place.result c.args.volume at gap in
    let ok = ok_part _ _ _ _ c.args.volume is c.put_at.ensures.ok in
    record { ok = ok; err = c.put_at.ensures.err; order = order_part _ _ _ c.args.volume c.requires ok c.put_at.ensures.err }
