use Rattle.std.proofs.Common.{sym}
use Rattle.kube_parts.specs.declared.parts.Kind.TheVariants as kinds
use Rattle.version_store.proofs.Rows.{count_within, none_past}
use Rattle.version_store.proofs.classes.default_class.Goals as goal

pub loop-left-init : goal.loop-left-init
loop-left-init c = record {
  within = rw c.count_of_kind-left.ensures (count_within kinds.StorageClass c.args.rows.now);
  best = rw c.count_of_kind-left.ensures (sym (none_past c.args.rows.now c.requires));
}
