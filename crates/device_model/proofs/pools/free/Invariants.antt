use Rattle.std.proofs.Common.{◌≡◌, ◌-◌, map, drop}
use Rattle.binder_model.specs.Devices.{used_bytes}
use Rattle.device_model.specs.Kept.{stored_data}
use Rattle.device_model.proofs.pools.free.Given as goal

abbrev pub invariant-loop-item : goal.invariant-loop-item
invariant-loop-item l = l.left - used_bytes l.place (map stored_data (drop l.item-index l.stored)) ≡ l.fn.pool.bytes - used_bytes l.place (map stored_data l.stored)
