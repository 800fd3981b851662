use Rattle.std.proofs.Common.{◌≡◌, ◌++◌, length, map, flat_map, vec_len}
use Rattle.std.specs.Vec.Iter.{into_iter_items, into_iter_len}
use Rattle.shared_work.specs.Crew.{all_seats}
use Rattle.shared_work.proofs.crew.deal.Given as goal

abbrev pub invariant-loop-hired : goal.invariant-loop-hired
invariant-loop-hired g l = record {
  enough : vec_len l.left ≡ all_seats (into_iter_items l.hired-iterator);
  passes : flat_map (λ job. job.passes.items) l.jobs.items ++ l.left.items ≡ l.initial.left.items;
  workers : map (λ job. record { worker = job.worker; seats = length job.passes.items }) l.jobs.items ++ into_iter_items l.hired-iterator ≡ into_iter_items l.initial.hired-iterator;
  left : into_iter_len l.hired-iterator ≡ length (into_iter_items l.hired-iterator);
}
