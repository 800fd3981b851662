use Rattle.plain_data.specs.Pairs.{text_cmp}
use Rattle.snapshot_worker.specs.Workers.{looked_for, seen_name}
use Rattle.snapshot_worker.proofs.Changes.{looked_name, rising_change}
use Rattle.snapshot_worker.proofs.actor.SnapActor.after_get.Goals as goal

pub invariant_of-self : goal.invariant_of-self
invariant_of-self c =
    (c.self.invariant.0, rw c.look_for.ensures (rising_change text_cmp seen_name _ (looked_for c.args.reply.now) (looked_name c.args.reply.now) c.self.inside.contents.items c.self.invariant.1))
