use Rattle.std.proofs.Common.{◌≡◌, ◌∙◌, ap, arith, subst}
use Rattle.world_core.specs.Kept.{History}
use Rattle.script_runs.specs.Budget.{raised}
use Rattle.script_threads.proofs.Counting.{few_seats}
use Rattle.script_threads.proofs.Doing.{is_run, none_yet}
use Rattle.script_threads.proofs.run.run.Goals as goal

pub new-requires-2 : goal.new-requires-2
new-requires-2 g c =
    let few = few_seats c.args.script.now c.args.workers c.requires.readable in
    omega (arith, few, c.requires.readable.nodes, c.in_ok-world-2.ensures.seat)

pub drain-requires : goal.drain-requires
drain-requires g c = record {
  stands = c.in_ok-drainers.ensures.stand c.in_ok-world-2.world.past
      (none_yet c.args.script.now c.args.workers c.args.calls c.in_ok-world-2.first c.in_ok-world-2.world.past c.in_ok-drainers.drainers
      c.in_ok-world-2.ensures.work c.in_ok-world-2.ensures.seat c.in_ok-drainers.ensures.are);
}

pub returns-clause-run : goal.returns-clause-run
returns-clause-run g c =
    let before = c.in_ok-world-2.world in
    let drainers = c.in_ok-drainers.drainers in
    let none = none_yet c.args.script.now c.args.workers c.args.calls c.in_ok-world-2.first before.past drainers c.in_ok-world-2.ensures.work
    c.in_ok-world-2.ensures.seat c.in_ok-drainers.ensures.are in
    is_run c.args.script.now c.args.workers c.args.calls c.in_ok-world-2.first c.args.option before c.drain.new.world drainers c.drain.new.drainers
    c.raised-budget.result c.in_ok-ending.ending (record {
      setup = c.in_ok-world-2.ensures.setup;
      kept = c.drain.ensures.setup;
      new = c.in_ok-drainers.ensures.are;
      stand = c.in_ok-drainers.ensures.stand before.past none;
      raises = subst (λ (h : History). c.raised-budget.result ≡ raised c.args.option h.setup h.past c.first_budget.result) c.world.ensures.value
          c.raised-budget.ensures.value ∙ ap (raised c.args.option before.setup before.past) c.first_budget.ensures;
      rounds = c.in_ok-ending.ensures.rounds;
      others = c.drain.ensures.others;
      few = c.in_ok-ending.ensures.few;
      ends = c.in_ok-ending.ensures.ends;
    }) c.in_ok-world-2.ensures.seat c.in_ok-world-2.ensures.work
