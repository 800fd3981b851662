use Rattle.std.proofs.Common.{◌≡◌, ◌≤◌}
use Rattle.std.specs.declared.cmp.Ordering.TheVariants.{Less}
use Rattle.std.specs.Ordering.{is_lt, ordering_index}
use Rattle.kube_objects.specs.declared.objects.Volume.{Volume}
use Rattle.kube_objects.proofs.KindRows.{levels_rise}
use Rattle.volume_index.specs.VolumeOrders.{Size, by_size, name_cmp, size_cmp, size_of}
use Rattle.volume_index.proofs.VolumeOrders.{before_last, first_no_greater, size_total}
use Rattle.volume_index.proofs.IndexStarts.{greater_fails, less_passes, never_equal, rank, rank_rises}
use Rattle.volume_index.proofs.order.size_start.Goals as goal

pub returns-in-Ok-clause-start : goal.returns-in-Ok-clause-start
returns-in-Ok-clause-start c =
    (λ k d ge lt. absurd (never_equal _ (c.in-Ok.ensures.position d)), λ k d ge lt. absurd (never_equal _ (c.in-Ok.ensures.position d)))

pub returns-in-Err-clause-start : goal.returns-in-Err-clause-start
returns-in-Err-clause-start c =
    let size : Size = record { class = c.args.size.now.class.now; block = c.args.size.now.block; modes = c.args.size.now.modes; bytes = c.args.size.now.bytes } in
    let up : (x y : Volume) → by_size x y ≡ Less → ordering_index (rank (is_lt (size_cmp (size_of x) size))) ≤ ordering_index (rank (is_lt (size_cmp (size_of y) size))) =
    λ x y e. rank_rises (is_lt (size_cmp (size_of x) size)) (is_lt (size_cmp (size_of y) size))
    (λ t. before_last size_total (size_of x) (size_of y) size (first_no_greater (size_cmp (size_of x) (size_of y)) (name_cmp x y) e) t) in
    let parts = c.in-Err.ensures.position (levels_rise by_size (λ v. v) (λ v. ordering_index (rank (is_lt (size_cmp (size_of v) size)))) up _ c.requires) in
    (λ k d ge lt. less_passes _ (parts.0 k d ge lt), λ k d ge lt. greater_fails _ (parts.1 k d ge lt))
