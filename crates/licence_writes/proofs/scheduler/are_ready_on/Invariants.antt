use Rattle.std.proofs.Common.{◌↔◌, drop}
use Rattle.binder_model.specs.SchedulerLicence.{AreReadyOn}
use Rattle.licence_writes.proofs.scheduler.are_ready_on.Given as goal

-- the claims so far are ready
abbrev pub invariant-loop-name : goal.invariant-loop-name
invariant-loop-name g l = AreReadyOn (g.R.Record.told l.seat) l.node l.namespace l.names ↔ AreReadyOn (g.R.Record.told l.seat) l.node l.namespace (drop l.name-index l.names)
