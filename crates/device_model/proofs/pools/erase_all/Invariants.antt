use Rattle.std.proofs.Common.{◌≡◌, ◌-◌, ◌++◌, ◌≤◌, take, drop, map, length}
use Rattle.binder_model.specs.Devices.{data_after_erase}
use Rattle.device_model.specs.Kept.{stored_data}
use Rattle.device_model.proofs.pools.erase_all.Given as goal

abbrev pub invariant-loop-at : goal.invariant-loop-at
invariant-loop-at l = record {
  within : l.at ≤ length l.stored;
  erased : map stored_data (take l.at l.stored) ++ data_after_erase l.id (map stored_data (drop l.at l.stored)) ≡ data_after_erase l.id (map stored_data l.fn.stored);
}

abbrev pub decreases-loop-at : goal.decreases-loop-at
decreases-loop-at l = length l.stored - l.at
