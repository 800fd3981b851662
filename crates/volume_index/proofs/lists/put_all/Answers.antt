use Rattle.std.proofs.Common.{◌≡◌, List, Result, is_ok, IsOk, if◌then◌else◌, refl, sym, ap, subst, ◌∙◌}
use Rattle.plain_data.proofs.RowFacts.{put_at, put_gap, rising_put}
use Rattle.kube_objects.specs.declared.objects.Volume.{Volume}
use Rattle.volume_index.specs.VolumeOrders.{AreInOrder, by_size}
use Rattle.volume_index.proofs.VolumeOrders.{by_size_total}
use Rattle.volume_index.proofs.lists.put_all.Goals as goal

-- what was done was done
done : {E : Type 0} (r : Result (Unit {0}) E) (xs ys : List Volume) → IsOk r → (if is_ok r then xs else ys) ≡ xs
done r xs ys e = ap (λ b. if b then xs else ys) e

pub returns-in-Ok-clause-put : goal.returns-in-Ok-clause-put
returns-in-Ok-clause-put c =
    let at = rw c.deref.ensures.value at c.in-Ok.ensures.at in
    sym (put_at by_size_total (λ u. u) c.args.volume c.args.volume refl _ c.in-Ok.at at)

pub returns-in-Ok-clause-order : goal.returns-in-Ok-clause-order
returns-in-Ok-clause-order c =
    let at = rw c.deref.ensures.value at c.in-Ok.ensures.at in
    subst (AreInOrder by_size) (put_at by_size_total (λ u. u) c.args.volume c.args.volume refl _ c.in-Ok.at at)
    (rising_put by_size_total (λ u. u) c.args.volume c.args.volumes.now.items c.requires.order)

pub returns-in-Err-clause-put : goal.returns-in-Err-clause-put
returns-in-Err-clause-put c =
    let gap = rw c.deref.ensures.value at c.in-Err.ensures.gap in
    c.insert.ensures.items ∙ done c.insert.result _ _ (c.insert.ensures.succeeds c.requires.room)
    ∙ sym (put_gap by_size_total (λ u. u) c.args.volume c.args.volume refl _ c.in-Err.at gap)

pub returns-in-Err-clause-order : goal.returns-in-Err-clause-order
returns-in-Err-clause-order c =
    let gap = rw c.deref.ensures.value at c.in-Err.ensures.gap in
    let is = c.insert.ensures.items ∙ done c.insert.result _ _ (c.insert.ensures.succeeds c.requires.room) ∙ sym (put_gap by_size_total (λ u. u) c.args.volume c.args.volume refl _ c.in-Err.at gap) in
    subst (AreInOrder by_size) (sym is) (rising_put by_size_total (λ u. u) c.args.volume c.args.volumes.now.items c.requires.order)
