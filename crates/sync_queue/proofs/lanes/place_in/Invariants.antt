use Rattle.std.proofs.Common.{◌≡◌, false, take}
use Rattle.std.specs.List.{list_any}
use Rattle.indexmap.specs.IndexMap.{keys}
use Rattle.kube_objects.specs.Keys.{same_key}
use Rattle.sync_queue.specs.Steps.Places.{keys_at}
use Rattle.sync_queue.proofs.lanes.place_in.Given as goal

abbrev pub invariant-loop-at : goal.invariant-loop-at
invariant-loop-at l = list_any (same_key l.key) (keys_at (keys l.stages) (take l.at l.list.items)) ≡ false
