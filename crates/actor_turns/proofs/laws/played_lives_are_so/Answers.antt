use Rattle.actor_turns.proofs.Diligent.{idle_lives_are_done, idle_lives_may_end, played_lives_are_diligent, played_lives_are_needed, played_lives_stand}
use Rattle.actor_turns.proofs.laws.played_lives_are_so.Goals as goal

pub returns-clause-diligent : goal.returns-clause-diligent
returns-clause-diligent c = played_lives_are_diligent

pub returns-clause-needed : goal.returns-clause-needed
returns-clause-needed c = played_lives_are_needed

pub returns-clause-stand : goal.returns-clause-stand
returns-clause-stand c = played_lives_stand

pub returns-clause-done : goal.returns-clause-done
returns-clause-done c = idle_lives_are_done

pub returns-clause-ends : goal.returns-clause-ends
returns-clause-ends c = idle_lives_may_end
