use Rattle.std.proofs.Common.{◌≡◌, ◌+◌, ◌<◌, ◌≤◌, ◌^◌, length, refl, subst, sym, arith}
use Rattle.actor_turns.specs.declared.part.Part.{Part}
use Rattle.actor_turns.specs.Parts.{lives_of}
use Rattle.script_lines.specs.Actors.{actor_word}
use Rattle.script_runs.proofs.Casting.{few_restarts}
use Rattle.script_threads.specs.Steps.Hired.{IsHiredFor}
use Rattle.script_threads.proofs.crew.hire_actor.Goals as goal

pub hire_as-requires-clause-small : goal.hire_as-requires-clause-small
hire_as-requires-clause-small g c κs within =
    let restarts = few_restarts (actor_word c.args.actor.now) c.args.lines.now in
    subst (λ (p : Part). p.first + length p.restarts < 2 ^ 32) (sym c.in_ok-part.ensures) (omega (arith, restarts, c.requires.few, c.requires.small))

pub returns-clause-hired : goal.returns-clause-hired
returns-clause-hired g c = record {
  worker = c.in_ok-worker.field-0.worker;
  is = refl;
  hired = subst (λ (p : Part). IsHiredFor c.args.actor.now p c.args.calls c.in_ok-worker.field-0) c.in_ok-part.ensures c.in_ok-worker.ensures;
}

pub returns-clause-few : goal.returns-clause-few
returns-clause-few g c =
    let restarts = few_restarts (actor_word c.args.actor.now) c.args.lines.now in
    let seats = c.in_ok-worker.ensures.seats in
    subst (λ (p : Part). c.in_ok-worker.field-0.seats ≡ lives_of p → c.in_ok-worker.field-0.seats ≤ 4097) (sym c.in_ok-part.ensures) (λ is. omega (arith, restarts, c.requires.few, is)) seats
