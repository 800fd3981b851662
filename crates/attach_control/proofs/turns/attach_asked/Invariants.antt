use Rattle.std.proofs.Common.{◌≡◌, None, take}
use Rattle.kube_parts.specs.declared.parts.Kind.TheVariants as kinds
use Rattle.kube_objects.specs.Keys.{rows_of}
use Rattle.binder_model.specs.World.{world}
use Rattle.attach_law.specs.Next.{first_asked, first_idle}
use Rattle.attach_control.specs.Steps.Trying.{Continues}
use Rattle.attach_control.proofs.InTurn.{IsPassed}
use Rattle.attach_control.proofs.turns.attach_asked.Given as goal

-- nothing is idle, and the pods before this one ask for nothing
abbrev pub invariant-loop-object : goal.invariant-loop-object
invariant-loop-object l = record {
  made : Continues (world l.world.setup l.world.past) l.initial.asks.items l.initial.list.items l.asks.items l.list.items;
  idle : first_idle (world l.world.setup l.world.past) l.list.items ≡ None;
  asked : first_asked (world l.world.setup l.world.past).store.rows l.list.items (take l.object-index (rows_of kinds.Pod (world l.world.setup l.world.past).store.rows)) ≡ None;
}

-- and neither do the claims of this pod before this one
abbrev pub invariant-loop-name : goal.invariant-loop-name
invariant-loop-name l = record {
  made : Continues (world l.world.setup l.world.past) l.initial.asks.items l.initial.list.items l.asks.items l.list.items;
  passed : IsPassed (world l.world.setup l.world.past) l.list.items l.object-index l.pod l.name-index;
}
