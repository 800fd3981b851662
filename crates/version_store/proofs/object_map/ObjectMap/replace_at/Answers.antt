use Rattle.std.proofs.Common.{Some, sym, ap, ◌∙◌}
use Rattle.plain_data.proofs.RowFacts.{find_at}
use Rattle.kube_objects.specs.Keys.{IsRowAt, key_of}
use Rattle.kube_objects.proofs.KeyOrder.{key_cmp_total}
use Rattle.version_store.proofs.KindStarts.{starts_replaced}
use Rattle.version_store.proofs.RowChanges.{index_put, rows_replaced, rows_rise}
use Rattle.version_store.proofs.object_map.ObjectMap.replace_at.Goals as goal

pub invariant_of-self-2 : goal.invariant_of-self-2
invariant_of-self-2 c =
    let rows = c.self.inside.rows.items in
    let o = c.args.object in
    let at : IsRowAt rows (key_of o) c.args.at = rw c.self.view_is c.requires.at in
    let put = rows_replaced rows o c.args.at at in
    let stood = find_at key_cmp_total key_of _ rows c.args.at c.index.result.now at ∙ ap Some (sym c.index.ensures) in
    record {
      order = rows_rise rows _ o c.self.invariant.order put;
      starts = starts_replaced rows c.self.inside.starts o c.args.at at c.self.invariant.starts;
      index = index_put c.self.inside.index c.follow.new.self rows _
          (Some c.index.result.now) o c.in_ok-told.told c.follow.ensures.keeps c.self.invariant.order stood c.in_ok-told.ensures c.self.invariant.index put;
    }

pub returns-clause-ok : goal.returns-clause-ok
returns-clause-ok c = rw c.self.view_is (rows_replaced _ c.args.object c.args.at c.requires.at)
