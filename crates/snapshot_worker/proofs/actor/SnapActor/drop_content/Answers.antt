use Rattle.std.proofs.Common.{refl}
use Rattle.plain_data.specs.Pairs.{text_cmp}
use Rattle.snapshot_worker.specs.Workers.{dropped_content, seen_name}
use Rattle.snapshot_worker.proofs.Changes.{rising_change}
use Rattle.snapshot_worker.proofs.actor.SnapActor.drop_content.Goals as goal

pub invariant_of-self : goal.invariant_of-self
invariant_of-self c = (c.self.invariant.0, rw c.drop_content.ensures (rising_change text_cmp seen_name _ dropped_content (λ x. refl) c.self.inside.contents.items c.self.invariant.1))
