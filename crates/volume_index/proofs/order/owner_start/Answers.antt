use Rattle.std.proofs.Common.{◌≡◌, ◌≤◌}
use Rattle.std.specs.declared.cmp.Ordering.TheVariants.{Less}
use Rattle.std.specs.Ordering.{is_lt, ordering_index}
use Rattle.kube_objects.specs.declared.objects.Volume.{Volume}
use Rattle.kube_objects.proofs.KindRows.{levels_rise}
use Rattle.volume_index.specs.VolumeOrders.{Owner, by_owner, need_cmp, owner_cmp, owner_of}
use Rattle.volume_index.proofs.VolumeOrders.{before_last, first_no_greater, owner_total}
use Rattle.volume_index.proofs.IndexStarts.{greater_fails, less_passes, never_equal, rank, rank_rises}
use Rattle.volume_index.proofs.order.owner_start.Goals as goal

pub returns-in-Ok-clause-start : goal.returns-in-Ok-clause-start
returns-in-Ok-clause-start c =
    (λ k d ge lt. absurd (never_equal _ (c.in-Ok.ensures.position d)), λ k d ge lt. absurd (never_equal _ (c.in-Ok.ensures.position d)))

pub returns-in-Err-clause-start : goal.returns-in-Err-clause-start
returns-in-Err-clause-start c =
    let owner : Owner = record { namespace = c.args.owner.now.namespace.now; name = c.args.owner.now.name.now } in
    let up : (x y : Volume) → by_owner x y ≡ Less → ordering_index (rank (is_lt (owner_cmp (owner_of x) owner))) ≤ ordering_index (rank (is_lt (owner_cmp (owner_of y) owner))) =
    λ x y e. rank_rises (is_lt (owner_cmp (owner_of x) owner)) (is_lt (owner_cmp (owner_of y) owner))
    (λ t. before_last owner_total (owner_of x) (owner_of y) owner (first_no_greater (owner_cmp (owner_of x) (owner_of y)) (need_cmp x y) e) t) in
    let parts = c.in-Err.ensures.position (levels_rise by_owner (λ v. v) (λ v. ordering_index (rank (is_lt (owner_cmp (owner_of v) owner)))) up _ c.requires) in
    (λ k d ge lt. less_passes _ (parts.0 k d ge lt), λ k d ge lt. greater_fails _ (parts.1 k d ge lt))
