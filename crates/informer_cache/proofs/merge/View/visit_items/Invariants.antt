use Rattle.std.proofs.Common.{◌≡◌, true, is_some, take}
use Rattle.kube_objects.specs.declared.key.Key.{Key}
use Rattle.kube_objects.specs.Keys.{row_at}
use Rattle.informer_cache.specs.Steps.Views.{sight_of}
use Rattle.informer_cache.specs.Steps.Sights.{Fits, GoesOn}
use Rattle.informer_cache.proofs.merge.View.visit_items.Given as goal

-- the new rows tell of each key so far what is known of it
abbrev pub invariant-loop-item : goal.invariant-loop-item
invariant-loop-item l = record {
  on : GoesOn (sight_of l.self) l.initial.next l.next;
  fits : (key : Key) → key.kind ≡ (sight_of l.self).rows.kind → is_some (row_at key (take l.item-index l.item-items)) ≡ true → Fits (sight_of l.self) l.next key;
}
