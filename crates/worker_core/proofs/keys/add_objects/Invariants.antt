use Rattle.std.proofs.Common.{◌≡◌, drop, map}
use Rattle.kube_objects.specs.Keys.{key_of}
use Rattle.worker_core.specs.Absorbs.{all_added}
use Rattle.worker_core.proofs.keys.add_objects.Given as goal

abbrev pub invariant-loop-object : goal.invariant-loop-object
invariant-loop-object l = all_added (map key_of (drop l.object-index l.objects)) l.queue ≡ all_added (map key_of l.objects) l.initial.queue
