use Rattle.std.proofs.Common.{◌≡◌, ◌+◌, ◌≤◌, map, drop}
use Rattle.device_model.specs.Kept.{count_there, stored_data}
use Rattle.device_model.proofs.pools.count_there.Given as goal

abbrev pub invariant-loop-item : goal.invariant-loop-item
invariant-loop-item l = record { count : l.count + count_there (map stored_data (drop l.item-index l.stored)) ≡ count_there (map stored_data l.stored); bound : l.count ≤ l.item-index }
