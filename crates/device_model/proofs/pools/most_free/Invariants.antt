use Rattle.std.proofs.Common.{◌≡◌, max, map, drop}
use Rattle.std.specs.Option.{option_copied}
use Rattle.binder_model.specs.Devices.{most_free}
use Rattle.device_model.specs.Kept.{stored_data}
use Rattle.device_model.proofs.pools.most_free.Given as goal

abbrev pub invariant-loop-pool : goal.invariant-loop-pool
invariant-loop-pool l = record {
  place : l.place ≡ l.pool-index;
  most : max l.most (most_free l.provisioner (option_copied l.labels) (map stored_data l.stored) l.place (drop l.pool-index l.pools))
      ≡ most_free l.provisioner (option_copied l.labels) (map stored_data l.stored) 0 l.pools;
}
