use Rattle.std.proofs.Common.{◌≡◌, drop}
use Rattle.worker_core.specs.Absorbs.{kinds_added}
use Rattle.worker_core.proofs.keys.add_cached.Given as goal

abbrev pub invariant-loop-kind : goal.invariant-loop-kind
invariant-loop-kind l = kinds_added l.caches (drop l.kind-index l.kinds) l.queue ≡ kinds_added l.caches l.kinds l.initial.queue
