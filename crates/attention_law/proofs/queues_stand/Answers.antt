use Rattle.attention_law.proofs.Kept.{answers_queues, new_queues, turns_queues, wakes_queues}
use Rattle.attention_law.proofs.queues_stand.Goals as goal

pub returns-clause-new : goal.returns-clause-new
returns-clause-new c = new_queues

pub returns-clause-turns : goal.returns-clause-turns
returns-clause-turns c = turns_queues

pub returns-clause-answers : goal.returns-clause-answers
returns-clause-answers c = answers_queues

pub returns-clause-wakes : goal.returns-clause-wakes
returns-clause-wakes c = wakes_queues
