use Rattle.std.specs.Prelude.{is_some}
use Rattle.std.proofs.Common.{ap, ◌∙◌}
use Rattle.snapshot_worker.specs.Workers.{Worker, first_ask, snapshot_ask}
use Rattle.snapshot_worker.proofs.Firsts.{found_some}
use Rattle.snapshot_worker.proofs.actor.SnapActor.asks_for_snapshot.Goals as goal

pub returns : goal.returns
returns c =
    let first = rw (c.deref.ensures.value, c.deref-2.ensures.value) at c.first_asking.ensures.first in
    let none = rw (c.deref.ensures.value, c.deref-2.ensures.value) at c.first_asking.ensures.none in
    c.is_some.ensures ∙ found_some (snapshot_ask c.self.inside.contents.items) c.self.inside.snapshots.items c.first_asking.result first none
    ∙ ap (λ (w : Worker). is_some (first_ask (snapshot_ask w.contents) w.snapshots)) c.self.view_is
