-- How large the number of the writes of ops is, by the objects.
use Rattle.std.proofs.Common.{◌+◌, ◌≤◌, List, [], ◌∷◌, Bool, true, false, Option, Some, None, arith}
use Rattle.std.specs.Prelude.{not, ◌||◌}
use Rattle.kube_parts.specs.declared.uid.Uid.{Uid}
use Rattle.kube_objects.specs.declared.objects.Object.{Object}
use Rattle.kube_objects.specs.declared.objects.Object.TheVariants.{Class, Node, Volume, Claim, Pod}
use Rattle.kube_objects.specs.Bindings.{is_deleting, is_ended}
use Rattle.kube_objects.specs.Keys.{row_at}
use Rattle.binder_model.specs.ObjectKeys.{volume_key}
use Rattle.binder_model.specs.Provisioning.{data_name}
use Rattle.settle_measure.specs.Left.Measure.{claims_in, total, unless, volumes_in}
use Rattle.settle_write_counts.specs.Ops.Ops.{OpsWritesAreBounded, is_open, ops_left, to_make}

one_most : (b : Bool) → unless b 1 ≤ 1
one_most true = omega arith
one_most false = omega arith

make_most : (rows : List Object) (u : Option Uid) → to_make rows u ≤ 1
make_most rows None = omega arith
make_most rows (Some uid) = one_most (is_open (row_at (volume_key (data_name uid)) rows))

all_most : (rows os : List Object) → total (ops_left rows) os ≤ claims_in os + volumes_in os
all_most rows [] = omega arith
all_most rows (Claim c ∷ os) = let own = make_most rows c.meta.uid in let rest = all_most rows os in omega (arith, own, rest)
all_most rows (Volume v ∷ os) = let own = one_most (not (is_ended v.phase) || is_deleting v.meta) in let rest = all_most rows os in omega (arith, own, rest)
all_most rows (Class x ∷ os) = let rest = all_most rows os in omega (arith, rest)
all_most rows (Node x ∷ os) = let rest = all_most rows os in omega (arith, rest)
all_most rows (Pod x ∷ os) = let rest = all_most rows os in omega (arith, rest)

pub ops_writes_are_bounded : OpsWritesAreBounded
ops_writes_are_bounded setup w = let few = all_most w.store.rows w.store.rows in omega (arith, few)
