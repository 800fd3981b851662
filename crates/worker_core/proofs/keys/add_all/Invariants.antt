use Rattle.std.proofs.Common.{◌≡◌, drop}
use Rattle.worker_core.specs.Absorbs.{all_added}
use Rattle.worker_core.proofs.keys.add_all.Given as goal

abbrev pub invariant-loop-key : goal.invariant-loop-key
invariant-loop-key l = all_added (drop l.key-index l.keys) l.queue ≡ all_added l.keys l.initial.queue
