use Rattle.std.proofs.Common.{◌≡◌, OnOk, subst}
use Rattle.std.proofs.lemmas.Cmp.{nat_list_cmp_total}
use Rattle.plain_data.specs.Rows.{placed_row}
use Rattle.snapshot_bind.specs.declared.rows.Content.{Content as ContentData}
use Rattle.snapshot_worker.specs.Workers.{fresh_content, seen_name}
use Rattle.snapshot_worker.proofs.Changes.{kept_put, kept_rising}
use Rattle.snapshot_worker.proofs.table.keep_content.Goals as goal

pub returns : goal.returns
returns c =
    let at = rw (c.deref.ensures.value, c.as_str.ensures) at c.content_place-place.ensures.at in
    let gap = rw (c.deref.ensures.value, c.as_str.ensures) at c.content_place-place.ensures.gap in
    let placed = subst
    (λ (x : ContentData). OnOk c.place_at.result (c.place_at.new.rows.items ≡ placed_row c.args.rows.now.items c.content_place-place.result (fresh_content x)))
    c.in_ok-copy.ensures c.place_at.ensures.ok in
    let ok = kept_put nat_list_cmp_total seen_name c.place_at.result c.args.rows.now.items c.place_at.new.rows.items c.content_place-place.result (fresh_content c.args.row.now) at gap placed in
    let rising = kept_rising nat_list_cmp_total seen_name c.place_at.result c.args.rows.now.items c.place_at.new.rows.items (fresh_content c.args.row.now) c.requires ok c.place_at.ensures.err in
    record { ok = ok; err = c.place_at.ensures.err; rising = rising }
