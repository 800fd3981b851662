use Rattle.std.proofs.Common.{arith, ap, ◌≡◌, ◌+◌, ◌≤◌, List, length, Result, Ok, Err, OnOk, OnErr}
use Rattle.binder_model.specs.Devices.{MountAt, put_mount}
use Rattle.device_model.specs.Kept.{mounts_of}
use Rattle.device_model.proofs.NodeLists.{length-put_mount}
use Rattle.device_model.proofs.mounts.Mounts.put.Goals as goal

one_more : {X E : Type 0} (r : Result X E) (old next : List MountAt) (row : MountAt) → OnOk r (next ≡ put_mount row old) → OnErr r (next ≡ old) → length next ≤ length old + 1
one_more (Ok x) old next row ok err = let more = length-put_mount row old in rw ok (omega (arith, more))
one_more (Err e) old next row ok err = rw err (omega arith)

pub invariant_of-self : goal.invariant_of-self
invariant_of-self c =
    let more = one_more c.put_in.result _ _ _ c.put_in.ensures.ok c.put_in.ensures.err in
    let count = c.count_rows.ensures in
    let room = c.if-count_rows.false in
    let same = ap (λ ns. length (mounts_of ns)) c.deref.ensures.value in
    record { rising = c.put_in.ensures.rising; count = omega (arith, more, count, room, same) }
