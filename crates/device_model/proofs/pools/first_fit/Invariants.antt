use Rattle.std.proofs.Common.{◌≡◌, map, drop}
use Rattle.std.specs.Option.{option_copied}
use Rattle.binder_model.specs.Devices.{first_fit}
use Rattle.device_model.specs.Kept.{stored_data}
use Rattle.device_model.proofs.pools.first_fit.Given as goal

abbrev pub invariant-loop-pool : goal.invariant-loop-pool
invariant-loop-pool l = record {
  place : l.place ≡ l.pool-index;
  fit : first_fit l.provisioner l.bytes (option_copied l.labels) (map stored_data l.stored) l.place
      (drop l.pool-index l.pools) ≡ first_fit l.provisioner l.bytes (option_copied l.labels) (map stored_data l.stored) 0 l.pools;
}
