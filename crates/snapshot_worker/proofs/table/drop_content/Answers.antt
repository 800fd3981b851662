use Rattle.std.proofs.Common.{sym, ap, set, ◌∙◌}
use Rattle.snapshot_worker.specs.declared.seen.SeenContent.{SeenContent}
use Rattle.snapshot_worker.specs.Steps.Firsts.{IsFirstAsking, NoneAsks}
use Rattle.snapshot_worker.specs.Workers.{content_ask, dropped_content}
use Rattle.snapshot_worker.proofs.Firsts.{change_at, change_none}
use Rattle.snapshot_worker.proofs.table.drop_content.Goals as goal

pub returns-in-Some : goal.returns-in-Some
returns-in-Some c =
    let first : IsFirstAsking (content_ask c.args.uids.now) c.args.rows.now.items c.in-Some.at = rw c.deref.ensures.value at c.in-Some.ensures.first in
    let changed = change_at (content_ask c.args.uids.now) dropped_content c.args.rows.now.items c.in-Some.at c.index_mut.result.now first in
    sym (changed ∙ ap (λ (x : SeenContent). set c.args.rows.now.items c.in-Some.at (dropped_content x)) (sym c.index_mut.ensures.value))

pub returns-in_default : goal.returns-in_default
returns-in_default c =
    let none : NoneAsks (content_ask c.args.uids.now) c.args.rows.now.items = rw c.deref.ensures.value at c.in_default.ensures.none in
    sym (change_none (content_ask c.args.uids.now) dropped_content c.args.rows.now.items none)
