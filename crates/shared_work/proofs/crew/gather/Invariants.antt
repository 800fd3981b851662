use Rattle.std.proofs.Common.{◌≡◌, ◌++◌, length}
use Rattle.std.specs.Vec.Iter.{into_iter_items, into_iter_len}
use Rattle.shared_work.specs.Steps.Jobs.{AreAllOk, all_items}
use Rattle.shared_work.proofs.crew.gather.Given as goal

abbrev pub invariant-loop-passes : goal.invariant-loop-passes
invariant-loop-passes l = record {
  none_failed : AreAllOk (into_iter_items l.passes-iterator) → AreAllOk (into_iter_items l.initial.passes-iterator);
  all : l.all.items ++ all_items (λ passes. passes.items) (into_iter_items l.passes-iterator) ≡ all_items (λ passes. passes.items) (into_iter_items l.initial.passes-iterator);
  left : into_iter_len l.passes-iterator ≡ length (into_iter_items l.passes-iterator);
}
