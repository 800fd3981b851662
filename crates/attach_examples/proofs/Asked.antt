-- Attach and detach, computed.
use Rattle.std.proofs.Common.{refl}
use Rattle.attach_examples.specs.Asked.{AgainExamples, AttachExamples, DetachExamples, OrderExamples}

pub attach_examples : AttachExamples
attach_examples = record {
  done = refl;
  attached = refl;
  for_several = refl;
  second_node = refl;
  no_volume = refl;
  stays = refl;
  multi = refl;
  of_then = refl;
  of_now = refl;
  least = refl;
}

pub again_examples : AgainExamples
again_examples = record { done = refl; as_then = refl; left = refl; narrowed = refl }

pub detach_examples : DetachExamples
detach_examples = record { done = refl; detached = refl; in_use = refl; stays = refl; other_node = refl; not_attached = refl }

pub order_examples : OrderExamples
order_examples = record { by_name = refl; at_first = refl; at_last = refl; read_only = refl; single = refl }
