use Rattle.std.proofs.Common.{◌≡◌, true, false, sym, ap, set, ◌∙◌}
use Rattle.std.proofs.lemmas.List.{get_or_default}
use Rattle.snapshot_worker.specs.declared.seen.SeenContent.{SeenContent}
use Rattle.snapshot_worker.specs.Steps.Firsts.{IsFirstAsking, NoneAsks}
use Rattle.snapshot_worker.specs.Workers.{content_ask, lacks_uid, looked_for}
use Rattle.snapshot_worker.proofs.Changes.{looked_dropped, looked_gone}
use Rattle.snapshot_worker.proofs.Firsts.{change_at, change_none}
use Rattle.snapshot_worker.proofs.table.look_for.Goals as goal

pub returns-then-lacks_uid : goal.returns-then-lacks_uid
returns-then-lacks_uid c =
    let first : IsFirstAsking (content_ask c.args.uids.now) c.args.rows.now.items c.in-Some.at = rw c.deref.ensures.value at c.in-Some.ensures.first in
    let bound = rw c.deref.ensures.value at c.in-Some.ensures.bound in
    let same = c.index_mut.ensures.value ∙ get_or_default c.args.rows.now.items c.in-Some.at c.index_mut.result.now c.index.result.now bound ∙ sym c.index.ensures in
    let lacks : lacks_uid c.index_mut.result.now.row.uid c.args.reply.now ≡ true = ap (λ (x : SeenContent). lacks_uid x.row.uid c.args.reply.now) same ∙ sym c.if-lacks_uid.ensures in
    let changed = change_at (content_ask c.args.uids.now) (looked_for c.args.reply.now) c.args.rows.now.items c.in-Some.at c.index_mut.result.now first in
    sym (changed ∙ ap (λ (x : SeenContent). set c.args.rows.now.items c.in-Some.at (looked_for c.args.reply.now x)) (sym c.index_mut.ensures.value)
    ∙ ap (λ (x : SeenContent). set c.args.rows.now.items c.in-Some.at x) (looked_gone c.args.reply.now c.index_mut.result.now lacks))

pub returns-else-lacks_uid : goal.returns-else-lacks_uid
returns-else-lacks_uid c =
    let first : IsFirstAsking (content_ask c.args.uids.now) c.args.rows.now.items c.in-Some.at = rw c.deref.ensures.value at c.in-Some.ensures.first in
    let bound = rw c.deref.ensures.value at c.in-Some.ensures.bound in
    let same = c.index_mut-else-lacks_uid.ensures.value ∙ get_or_default c.args.rows.now.items c.in-Some.at c.index_mut-else-lacks_uid.result.now c.index.result.now bound ∙ sym c.index.ensures in
    let lacks : lacks_uid c.index_mut-else-lacks_uid.result.now.row.uid c.args.reply.now ≡ false = ap (λ (x : SeenContent). lacks_uid x.row.uid c.args.reply.now) same ∙ sym c.if-lacks_uid.ensures in
    let changed = change_at (content_ask c.args.uids.now) (looked_for c.args.reply.now) c.args.rows.now.items c.in-Some.at c.index_mut-else-lacks_uid.result.now first in
    sym (changed ∙ ap (λ (x : SeenContent). set c.args.rows.now.items c.in-Some.at (looked_for c.args.reply.now x)) (sym c.index_mut-else-lacks_uid.ensures.value)
    ∙ ap (λ (x : SeenContent). set c.args.rows.now.items c.in-Some.at x) (looked_dropped c.args.reply.now c.index_mut-else-lacks_uid.result.now lacks))

pub returns-in_default : goal.returns-in_default
returns-in_default c =
    let none : NoneAsks (content_ask c.args.uids.now) c.args.rows.now.items = rw c.deref.ensures.value at c.in_default.ensures.none in
    sym (change_none (content_ask c.args.uids.now) (looked_for c.args.reply.now) c.args.rows.now.items none)
