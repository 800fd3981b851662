use Rattle.std.specs.Prelude.{Option}
use Rattle.informer_cache.specs.All.{all_objects}
use Rattle.sync_queue.specs.Work.{Work}
use Rattle.worker_core.specs.declared.task.Under.{Under}
use Rattle.worker_core.specs.Steps.Weights.{weight}
use Rattle.worker_core.specs.Turns.{Decides}
use Rattle.worker_core.proofs.keys.decide_keys.Given as goal

-- what is decided from here on is decided from the start on
abbrev pub invariant-loop-key : goal.invariant-loop-key
invariant-loop-key l = (after : Work) (under : Option Under) → Decides l.role l.memory (all_objects l.caches) after under l.queue
    → Decides l.role l.memory (all_objects l.caches) after under l.initial.queue

abbrev pub decreases-loop-key : goal.decreases-loop-key
decreases-loop-key l = weight l.queue.waiting
