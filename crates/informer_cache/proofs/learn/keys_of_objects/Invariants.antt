use Rattle.std.proofs.Common.{◌≡◌, take, map}
use Rattle.kube_objects.specs.Keys.{key_of}
use Rattle.informer_cache.proofs.learn.keys_of_objects.Given as goal

-- the keys so far
abbrev pub invariant-loop-object : goal.invariant-loop-object
invariant-loop-object l = l.keys ≡ map key_of (take l.object-index l.objects)
