use Rattle.std.proofs.Common.{◌≡◌, map, drop}
use Rattle.binder_model.specs.Devices.{data_named}
use Rattle.device_model.specs.Kept.{stored_data}
use Rattle.device_model.proofs.pools.data_named.Given as goal

abbrev pub invariant-loop-item : goal.invariant-loop-item
invariant-loop-item l = data_named l.name (map stored_data (drop l.item-index l.stored)) ≡ data_named l.name (map stored_data l.stored)
