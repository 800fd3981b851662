use Rattle.std.proofs.Common.{[], refl}
use Rattle.worker_core.specs.declared.role.Role.{Role}
use Rattle.actor_turns.specs.Steps.Playing.{IsNewPlayer}
use Rattle.actor_turns.proofs.Lived.{new_lives}
use Rattle.actor_turns.proofs.Turning.{new_plays}
use Rattle.actor_work.proofs.working.begin.begin.Goals as goal

pub returns-clause-plays : goal.returns-clause-plays
returns-clause-plays c =
    let role : Role = record { kind = c.args.part.kind; node = c.args.node.now } in
    let new : IsNewPlayer role _ = record {
      seat = refl;
      made = refl;
      held = c.new-held.ensures;
      kind = refl;
      built = c.requires.built;
      new =
          c.in_ok-actor.ensures.is;
      stands = c.in_ok-actor.ensures.stands;
    } in
    record { idle = λ seat. []; plays = new_plays role _ new }

pub returns-clause-lives : goal.returns-clause-lives
returns-clause-lives c =
    let role : Role = record { kind = c.args.part.kind; node = c.args.node.now } in
    let new : IsNewPlayer role _ = record {
      seat = refl;
      made = refl;
      held = c.new-held.ensures;
      kind = refl;
      built = c.requires.built;
      new =
          c.in_ok-actor.ensures.is;
      stands = c.in_ok-actor.ensures.stands;
    } in
    record { idle = λ seat. []; lives = new_lives role _ new }
