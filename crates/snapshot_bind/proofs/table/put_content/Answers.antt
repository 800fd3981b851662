use Rattle.std.proofs.Common.{◌≡◌, ℕ, List, Result, Ok, Err, IfOk, IfErr, OnOk, OnErr, refl, sym, subst, ◌∙◌}
use Rattle.plain_data.proofs.RowFacts.{put_at, put_gap, rising_put}
use Rattle.plain_data.specs.declared.copies.OutOfMemory.{OutOfMemory}
use Rattle.plain_data.specs.Rows.{placed_row}
use Rattle.snapshot_bind.specs.declared.rows.Content.{Content}
use Rattle.snapshot_bind.specs.SideStore.{content_key, AreContents, IsContentAt, IsContentGap, put_content}
use Rattle.std.proofs.lemmas.Cmp.{nat_list_cmp_total}
use Rattle.snapshot_bind.proofs.table.put_content.Goals as goal

placed_is : (rows : List Content) (place : Result ℕ ℕ) (o : Content) → IfOk place (IsContentAt rows (content_key o))
    → IfErr place (IsContentGap rows (content_key o)) → put_content o rows ≡ placed_row rows place o
placed_is rows (Ok i) o at gap = put_at nat_list_cmp_total content_key (content_key o) o refl rows i at
placed_is rows (Err i) o at gap = put_gap nat_list_cmp_total content_key (content_key o) o refl rows i gap

ok_part : (r : Result Content OutOfMemory) (old new : List Content) (place : Result ℕ ℕ) (o : Content) → put_content o old ≡ placed_row old place o
    → OnOk r (new ≡ placed_row old place o) → OnOk r (new ≡ put_content o old)
ok_part (Ok x) old new place o is h = h ∙ sym is
ok_part (Err e) old new place o is h = tt

rising_part : (r : Result Content OutOfMemory) (old new : List Content) (o : Content) → AreContents old → OnOk r (new ≡ put_content o old) → OnErr r (new ≡ old) → AreContents new
rising_part (Ok x) old new o rows ok err = subst AreContents (sym ok) (rising_put nat_list_cmp_total content_key o old rows)
rising_part (Err e) old new o rows ok err = subst AreContents (sym err) rows

pub returns : goal.returns
returns c =
    let at = rw (c.deref.ensures.value, c.as_str.ensures) at c.content_place-place.ensures.at in
    let gap = rw (c.deref.ensures.value, c.as_str.ensures) at c.content_place-place.ensures.gap in
    let is = placed_is _ c.content_place-place.result c.args.content at gap in
    let ok = ok_part _ _ _ _ c.args.content is c.put_at.ensures.ok in
    record { told = c.put_at.ensures.told; ok = ok; err = c.put_at.ensures.err; rising = rising_part _ _ _ c.args.content c.requires ok c.put_at.ensures.err }
