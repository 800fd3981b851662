use Rattle.std.proofs.Common.{None, ap, subst, sym, ◌∙◌}
use Rattle.plain_data.proofs.RowFacts.{find_gap}
use Rattle.kube_objects.specs.Keys.{AreRows, IsRowGap, key_of, put_row}
use Rattle.kube_objects.proofs.KeyOrder.{key_cmp_total}
use Rattle.version_store.specs.Steps.Starts.{AreStarts}
use Rattle.version_store.proofs.RowChanges.{index_put, rows_inserted, rows_rise}
use Rattle.version_store.proofs.object_map.ObjectMap.insert_at.Goals as goal

pub starts_of-self-inside-requires : goal.starts_of-self-inside-requires
starts_of-self-inside-requires c =
    let rows = c.self.inside.rows.items in
    let gap : IsRowGap rows (key_of c.args.object) c.args.at = rw c.self.view_is c.requires.gap in
    let put = rows_inserted rows c.insert.new.self.items c.args.object c.args.at gap c.in-Ok.ensures.items in
    subst AreRows (sym c.deref.ensures.value) (rows_rise rows _ c.args.object c.self.invariant.order put)

pub invariant_of-self-in-Ok : goal.invariant_of-self-in-Ok
invariant_of-self-in-Ok c =
    let rows = c.self.inside.rows.items in
    let o = c.args.object in
    let gap : IsRowGap rows (key_of o) c.args.at = rw c.self.view_is c.requires.gap in
    let put = rows_inserted rows c.insert.new.self.items o c.args.at gap c.in-Ok.ensures.items in
    let stood = find_gap key_cmp_total key_of _ rows c.args.at c.self.invariant.order gap in
    record {
      order = rows_rise rows _ o c.self.invariant.order put;
      starts = subst (λ os. AreStarts os c.starts_of-self-inside.result) c.deref.ensures.value c.starts_of-self-inside.ensures;
      index = index_put c.self.inside.index c.follow.new.self rows _ None o c.in_ok-told.told c.follow.ensures.keeps c.self.invariant.order stood c.in_ok-told.ensures c.self.invariant.index put;
    }

pub returns-in-Ok-clause-ok : goal.returns-in-Ok-clause-ok
returns-in-Ok-clause-ok c =
    let gap : IsRowGap c.self.inside.rows.items (key_of c.args.object) c.args.at = rw c.self.view_is c.requires.gap in
    rows_inserted _ c.insert.new.self.items c.args.object c.args.at gap c.in-Ok.ensures.items ∙ ap (λ os. put_row c.args.object os) c.self.view_is
