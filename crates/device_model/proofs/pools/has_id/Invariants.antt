use Rattle.std.proofs.Common.{◌≡◌, map, drop}
use Rattle.binder_model.specs.Devices.{has_id}
use Rattle.device_model.specs.Kept.{stored_data}
use Rattle.device_model.proofs.pools.has_id.Given as goal

abbrev pub invariant-loop-item : goal.invariant-loop-item
invariant-loop-item l = has_id l.id (map stored_data (drop l.item-index l.stored)) ≡ has_id l.id (map stored_data l.stored)
