use Rattle.std.proofs.Common.{◌≡◌, ◌≤◌}
use Rattle.std.specs.declared.cmp.Ordering.TheVariants.{Less}
use Rattle.kube_objects.specs.declared.objects.Object.{Object}
use Rattle.kube_objects.specs.Keys.{key_cmp, key_of, kind_index, kind_of}
use Rattle.kube_objects.proofs.KeyOrder.{kinds_up}
use Rattle.kube_objects.proofs.KindRows.{never_equal, less_below, greater_above, levels_rise, rank_rises, rank_from}
use Rattle.std.specs.Ordering.{ordering_index}
use Rattle.kube_types.proofs.table.kind_start.Goals as goal

pub returns-in-Ok-clause-start : goal.returns-in-Ok-clause-start
returns-in-Ok-clause-start c =
    (λ k d ge lt. absurd (never_equal _ _ (c.in-Ok.ensures.position d)), λ k d ge lt. absurd (never_equal _ _ (c.in-Ok.ensures.position d)))

pub returns-in-Err-clause-start : goal.returns-in-Err-clause-start
returns-in-Err-clause-start c =
    let up : (x y : Object) → key_cmp (key_of x) (key_of y) ≡ Less
    → ordering_index (rank_from c.args.index (kind_index (kind_of x))) ≤ ordering_index (rank_from c.args.index (kind_index (kind_of y))) =
    λ x y e. rank_rises c.args.index _ _ (kinds_up (key_of x) (key_of y) e) in
    let parts = c.in-Err.ensures.position (levels_rise key_cmp key_of (λ o. ordering_index (rank_from c.args.index (kind_index (kind_of o)))) up _ c.requires) in
    (λ k d ge lt. less_below _ _ (parts.0 k d ge lt), λ k d ge lt. greater_above _ _ (parts.1 k d ge lt))
