use Rattle.std.proofs.Common.{◌≡◌, take, map}
use Rattle.kube_objects.specs.Keys.{key_of}
use Rattle.call_types.specs.declared.reply.Event.{Event}
use Rattle.informer_cache.proofs.learn.keys_of_events.Given as goal

-- the keys so far
abbrev pub invariant-loop-event : goal.invariant-loop-event
invariant-loop-event l = l.keys ≡ map (λ (e : Event). key_of e.object) (take l.event-index l.events)
