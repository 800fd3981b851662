use Rattle.std.proofs.Common.{◌≡◌, ◌+◌, ◌-◌, arith, sym}
use Rattle.kube_objects.specs.Keys.{kind_index, kind_of}
use Rattle.kube_objects.proofs.KindRows.{ordered, between}
use Rattle.kube_types.proofs.table.between_starts.Goals as goal

pub overflow_sub-count : goal.overflow_sub-count
overflow_sub-count c = ordered (λ o. kind_index (kind_of o)) (kind_index c.args.kind) c.args.rows.now c.args.start c.args.end c.requires.start_within c.requires.start c.requires.end

pub returns : goal.returns
returns c =
    let whole : c.args.start + (c.args.end - c.args.start) - c.args.start ≡ c.args.end - c.args.start = omega arith in
    rw whole (sym (between (λ o. kind_index (kind_of o)) (kind_index c.args.kind) c.args.rows.now c.args.start c.args.end c.requires.start_within c.requires.start c.requires.end))
