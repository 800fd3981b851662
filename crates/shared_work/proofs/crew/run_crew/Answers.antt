use Rattle.std.proofs.Common.{arith, subst₂, ap, ◌∙◌, ◌≡◌, length}
use Rattle.shared_world.specs.Passes.{AddsNoSeats}
use Rattle.shared_work.specs.Crew.{all_seats}
use Rattle.shared_work.proofs.Dealing.{as_many, counted, done_by_each, left_by_each, may_work, none_missing, of_shared}
use Rattle.shared_work.proofs.crew.run_crew.Goals as goal

pub work_all-requires-after_bounds : goal.work_all-requires-after_bounds
work_all-requires-after_bounds g c κs within =
    may_work (λ job. job.worker) (λ job. job.passes.items) c.in-Ok.shared c.in-Ok.passes.items c.in_ok-jobs.jobs.items c.args.crew.items
    c.in-Ok.ensures.passes c.in_ok-jobs.ensures.passes c.in_ok-jobs.ensures.workers
    c.args.world.past (ap (λ v. v.past) c.in-Ok.ensures.given) g.W.Worker.needs c.all_seats-seats.result (omega (arith, c.in-Ok.ensures.many, c.in-Ok.passes.ok)) c.requires.needs

pub close-requires-clause-some : goal.close-requires-clause-some
close-requires-clause-some g c =
    let long = as_many (λ job. job.worker) (λ job. job.passes.items) c.in-Ok.shared c.in-Ok.passes.items c.in_ok-jobs.jobs.items c.args.crew.items
    c.in-Ok.ensures.passes c.in_ok-jobs.ensures.passes c.in_ok-jobs.ensures.workers
    c.args.world.past (ap (λ v. v.past) c.in-Ok.ensures.given)
    (λ passes. passes.items) g.W.Worker.does g.W.Worker.leaves c.in_ok-done.done.items c.in_ok-passes.passes.items
    (omega (arith, c.in_ok-done.ensures.many, c.in_ok-done.done.ok, c.in_ok-jobs.jobs.ok))
    (λ i d e lt. c.in_ok-done.ensures.each i d e (omega (arith, lt, c.in_ok-jobs.jobs.ok))) c.in_ok-passes.ensures.none_failed c.in_ok-passes.ensures.all in
    let some = c.requires.seats.0 in
    let seats = c.all_seats-seats.ensures ∙ ap (λ crew. all_seats crew) c.as_slice.ensures.value in
    omega (arith, long, some, seats, c.in-Ok.ensures.many, c.in-Ok.passes.ok, c.in_ok-passes.passes.ok)

pub close-requires-clause-passes : goal.close-requires-clause-passes
close-requires-clause-passes g c =
    of_shared (λ job. job.worker) (λ job. job.passes.items) c.in-Ok.shared c.in-Ok.passes.items c.in_ok-jobs.jobs.items c.args.crew.items
    c.in-Ok.ensures.passes c.in_ok-jobs.ensures.passes c.in_ok-jobs.ensures.workers
    c.args.world.past (ap (λ v. v.past) c.in-Ok.ensures.given)
    (λ passes. passes.items) g.W.Worker.does g.W.Worker.leaves c.in_ok-done.done.items c.in_ok-passes.passes.items
    (omega (arith, c.in_ok-done.ensures.many, c.in_ok-done.done.ok, c.in_ok-jobs.jobs.ok))
    (λ i d e lt. c.in_ok-done.ensures.each i d e (omega (arith, lt, c.in_ok-jobs.jobs.ok))) c.in_ok-passes.ensures.none_failed c.in_ok-passes.ensures.all

pub unreachable-requires : goal.unreachable-requires
unreachable-requires g c =
    none_missing (λ job. job.worker) (λ job. job.passes.items) c.in-Ok.shared c.in-Ok.passes.items c.in_ok-jobs.jobs.items c.args.crew.items
    c.in-Ok.ensures.passes c.in_ok-jobs.ensures.passes c.in_ok-jobs.ensures.workers
    c.args.world.past (ap (λ v. v.past) c.in-Ok.ensures.given)
    (λ passes. passes.items) g.W.Worker.does g.W.Worker.leaves c.in_ok-done.done.items c.in_ok-passes.passes.items
    (omega (arith, c.in_ok-done.ensures.many, c.in_ok-done.done.ok, c.in_ok-jobs.jobs.ok))
    (λ i d e lt. c.in_ok-done.ensures.each i d e (omega (arith, lt, c.in_ok-jobs.jobs.ok))) c.in_ok-passes.ensures.none_failed c.in_ok-passes.ensures.all
    c.in-Err.ensures.made.more

pub returns-clause-does : goal.returns-clause-does
returns-clause-does g c =
    done_by_each (λ job. job.worker) (λ job. job.passes.items) c.in-Ok.shared c.in-Ok.passes.items c.in_ok-jobs.jobs.items c.args.crew.items
    c.in-Ok.ensures.passes c.in_ok-jobs.ensures.passes c.in_ok-jobs.ensures.workers
    c.args.world.past (ap (λ v. v.past) c.in-Ok.ensures.given)
    (λ passes. passes.items) g.W.Worker.does g.W.Worker.leaves c.in_ok-done.done.items c.in_ok-passes.passes.items
    (omega (arith, c.in_ok-done.ensures.many, c.in_ok-done.done.ok, c.in_ok-jobs.jobs.ok))
    (λ i d e lt. c.in_ok-done.ensures.each i d e (omega (arith, lt, c.in_ok-jobs.jobs.ok))) c.in_ok-passes.ensures.none_failed c.in_ok-passes.ensures.all
    c.in-Ok-close.world.past c.in-Ok-close.ensures.passes

pub returns-clause-leaves : goal.returns-clause-leaves
returns-clause-leaves g c =
    left_by_each (λ job. job.worker) (λ job. job.passes.items) c.in-Ok.shared c.in-Ok.passes.items c.in_ok-jobs.jobs.items c.args.crew.items
    c.in-Ok.ensures.passes c.in_ok-jobs.ensures.passes c.in_ok-jobs.ensures.workers
    c.args.world.past (ap (λ v. v.past) c.in-Ok.ensures.given)
    (λ passes. passes.items) g.W.Worker.does g.W.Worker.leaves c.in_ok-done.done.items c.in_ok-passes.passes.items
    (omega (arith, c.in_ok-done.ensures.many, c.in_ok-done.done.ok, c.in_ok-jobs.jobs.ok))
    (λ i d e lt. c.in_ok-done.ensures.each i d e (omega (arith, lt, c.in_ok-jobs.jobs.ok))) c.in_ok-passes.ensures.none_failed c.in_ok-passes.ensures.all
    c.in-Ok-close.world.past c.in-Ok-close.ensures.passes

pub returns-clause-others : goal.returns-clause-others
returns-clause-others g c =
    let count = counted (λ job. job.worker)
    (λ job. job.passes.items) c.in-Ok.shared c.in-Ok.passes.items c.in_ok-jobs.jobs.items c.args.crew.items c.in-Ok.ensures.passes c.in_ok-jobs.ensures.passes c.in_ok-jobs.ensures.workers
    c.args.world.past (ap (λ v. v.past) c.in-Ok.ensures.given)
    (λ passes. passes.items) g.W.Worker.does g.W.Worker.leaves c.in_ok-done.done.items c.in_ok-passes.passes.items
    (omega (arith, c.in_ok-done.ensures.many, c.in_ok-done.done.ok, c.in_ok-jobs.jobs.ok))
    (λ i d e lt. c.in_ok-done.ensures.each i d e (omega (arith, lt, c.in_ok-jobs.jobs.ok))) c.in_ok-passes.ensures.none_failed c.in_ok-passes.ensures.all in
    let seats = c.all_seats-seats.ensures ∙ ap (λ crew. all_seats crew) c.as_slice.ensures.value in
    let made : length c.in-Ok.passes.items ≡ all_seats c.args.crew.items = omega (arith, seats, c.in-Ok.ensures.many, c.in-Ok.passes.ok) in
    subst₂ (λ n given. AddsNoSeats n given c.in-Ok-close.world.past) (count ∙ made) (ap (λ v. v.past) c.in-Ok.ensures.given) c.in-Ok-close.ensures.others
