use Rattle.std.proofs.Common.{◌≡◌, ◌&&◌, bytes_eq, drop, map}
use Rattle.std.specs.List.{list_any}
use Rattle.device_model.specs.Kept.{stored_data}
use Rattle.device_model.proofs.pools.has_name.Given as goal

abbrev pub invariant-loop-item : goal.invariant-loop-item
invariant-loop-item l = list_any (λ x. x.there && bytes_eq x.name l.name) (map stored_data (drop l.item-index l.stored)) ≡ list_any (λ x. x.there && bytes_eq x.name l.name) (map stored_data l.stored)
