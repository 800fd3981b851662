use Rattle.std.proofs.Common.{◌≡◌, take}
use Rattle.kube_objects.specs.declared.key.Key.{Key}
use Rattle.kube_objects.specs.Keys.{AreRows, row_at}
use Rattle.informer_cache.proofs.merge.sorted.Given as goal

-- the first object of each key so far
abbrev pub invariant-loop-item : goal.invariant-loop-item
invariant-loop-item l = record {
  rows : AreRows l.sorted.items;
  found : (key : Key) → row_at key l.sorted.items ≡ row_at key (take l.item-index l.items);
}
