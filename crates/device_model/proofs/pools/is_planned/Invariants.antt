use Rattle.std.proofs.Common.{◌≡◌, drop}
use Rattle.binder_model.specs.Devices.{is_planned}
use Rattle.device_model.proofs.pools.is_planned.Given as goal

abbrev pub invariant-loop-fault : goal.invariant-loop-fault
invariant-loop-fault l = is_planned l.call (drop l.fault-index l.faults) ≡ is_planned l.call l.faults
