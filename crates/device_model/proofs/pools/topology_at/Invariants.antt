use Rattle.std.proofs.Common.{◌≡◌, drop}
use Rattle.binder_model.specs.Devices.{topology_at}
use Rattle.device_model.proofs.pools.topology_at.Given as goal

abbrev pub invariant-loop-pool : goal.invariant-loop-pool
invariant-loop-pool l = topology_at l.left (drop l.pool-index l.pools) ≡ topology_at l.fn.place l.fn.pools
