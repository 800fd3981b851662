-- The keys of snapshots have a total order.
use Rattle.std.specs.Cmp.{IsTotalOrder}
use Rattle.std.proofs.lemmas.Cmp.{nat_list_cmp_total, on_total, then_total}
use Rattle.snapshot_bind.specs.SideStore.{SnapKey, snap_cmp}

-- first by the namespace, then by the name
pub snap_cmp_total : IsTotalOrder snap_cmp
snap_cmp_total = then_total (on_total (λ (k : SnapKey). k.0) nat_list_cmp_total) (on_total (λ (k : SnapKey). k.1) nat_list_cmp_total)
