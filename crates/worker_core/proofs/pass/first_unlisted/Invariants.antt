use Rattle.std.proofs.Common.{◌≡◌, drop}
use Rattle.worker_core.specs.Turns.{first_unlisted}
use Rattle.worker_core.proofs.pass.first_unlisted.Given as goal

abbrev pub invariant-loop-kind : goal.invariant-loop-kind
invariant-loop-kind l = first_unlisted l.caches (drop l.kind-index l.kinds) ≡ first_unlisted l.caches l.kinds
