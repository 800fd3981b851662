use Rattle.std.proofs.Common.{◌+◌, ◌++◌, [], ◌∷◌, take, ap, subst, sym, ◌∙◌, arith}
use Rattle.std.proofs.lemmas.List.{take_more}
use Rattle.script_runs.specs.Parts.{first_actor_seat}
use Rattle.script_threads.specs.Steps.Hired.{HaveJoined}
use Rattle.script_threads.proofs.Hiring.{one_joins}
use Rattle.script_threads.proofs.crew.join.Goals as goal

pub loop-actor-preserved : goal.loop-actor-preserved
loop-actor-preserved g c =
    let i = c.loop-actor.invariant in
    let lines = c.args.lines.now in
    let actors = c.args.actors.now in
    let index = c.loop-actor.actor-index in
    let seat = c.loop-actor.seat in
    let member = c.in_ok-member.member in
    let more = take_more actors index c.actor-item.result c.loop-actor-test.true ∙ ap (λ actor. take index actors ++ actor ∷ []) (sym c.actor-item.is) in
    record {
      small = omega (arith, i.small, c.in_ok-member.ensures.few);
      joined = subst (λ all. HaveJoined lines c.args.calls first_actor_seat (seat + member.seats) all c.args.crew.now.items c.push.new.self.items) (sym more)
          (one_joins lines c.args.calls first_actor_seat seat
          (take index actors) c.actor-item.result member c.args.crew.now.items c.loop-actor.crew.items c.push.new.self.items i.joined c.in_ok-member.ensures.hired c.in_ok-push.ensures.items);
    }
