use Rattle.std.proofs.Common.{◌++◌, ◌∙◌, ap, subst}
use Rattle.script_runs.specs.Parts.{first_actor_seat}
use Rattle.script_threads.specs.Started.{started}
use Rattle.script_threads.specs.Steps.Hired.{AreHired}
use Rattle.script_threads.proofs.crew.crew.Goals as goal

pub returns-clause-crew : goal.returns-clause-crew
returns-clause-crew g c =
    let joined = c.in_ok-seat.ensures in
    let script = c.args.script.now in
    record {
      one = c.user-one.result;
      two = c.user-two.result;
      three = c.user-three.result;
      four = c.user-four.result;
      actors = joined.joined;
      are = joined.are ∙ ap (λ members. members ++ joined.joined) c.in_ok-crew.ensures.items;
      one_is = c.user-one.ensures;
      two_is = c.user-two.ensures;
      three_is = c.user-three.ensures;
      four_is = c.user-four.ensures;
      hired = subst (λ lines. AreHired lines c.args.calls first_actor_seat (started c.args.workers script) joined.joined) c.as_slice-lines.ensures
          (subst (λ actors. AreHired c.as_slice-lines.result.now c.args.calls first_actor_seat actors joined.joined) (c.as_slice.ensures.value ∙ c.in_ok-actors.ensures) joined.hired);
    }
