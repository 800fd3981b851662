use Rattle.std.proofs.Common.{drop, Option}
use Rattle.kube_parts.specs.declared.names.Due.{Due}
use Rattle.kube_objects.specs.declared.objects.Object.{Object}
use Rattle.binder_model.specs.Due.{IsDue}
use Rattle.settle_check.specs.WorldOf.{world_of}
use Rattle.settle_check.specs.Steps.Scan.{IsFirstIn}
use Rattle.settle_check.proofs.first.scan.Given as goal

-- what is the first from here on is the first of all
abbrev pub invariant-loop-object : goal.invariant-loop-object
invariant-loop-object l =
    (answer : Option (Object × Due)) → IsFirstIn (IsDue l.world.setup (world_of l.world)) (drop l.object-index l.objects) answer
    → IsFirstIn (IsDue l.world.setup (world_of l.world)) (world_of l.world).store.rows answer
