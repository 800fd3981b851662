use Rattle.std.proofs.Common.{sym, ap, set, ◌∙◌}
use Rattle.snapshot_worker.specs.declared.seen.SeenSnapshot.{SeenSnapshot}
use Rattle.snapshot_worker.specs.Steps.Firsts.{IsFirstAsking, NoneAsks}
use Rattle.snapshot_worker.specs.Workers.{snapshot_ask, dropped_snapshot}
use Rattle.snapshot_worker.proofs.Firsts.{change_at, change_none}
use Rattle.snapshot_worker.proofs.table.drop_snapshot.Goals as goal

pub returns-in-Some : goal.returns-in-Some
returns-in-Some c =
    let first : IsFirstAsking (snapshot_ask c.args.contents.now) c.args.rows.now.items c.in-Some.at = rw c.deref.ensures.value at c.in-Some.ensures.first in
    let changed = change_at (snapshot_ask c.args.contents.now) dropped_snapshot c.args.rows.now.items c.in-Some.at c.index_mut.result.now first in
    sym (changed ∙ ap (λ (x : SeenSnapshot). set c.args.rows.now.items c.in-Some.at (dropped_snapshot x)) (sym c.index_mut.ensures.value))

pub returns-in_default : goal.returns-in_default
returns-in_default c =
    let none : NoneAsks (snapshot_ask c.args.contents.now) c.args.rows.now.items = rw c.deref.ensures.value at c.in_default.ensures.none in
    sym (change_none (snapshot_ask c.args.contents.now) dropped_snapshot c.args.rows.now.items none)
