use Rattle.std.proofs.Common.{ap, sym, ◌∙◌}
use Rattle.kube_objects.specs.Keys.{key_of, row_at}
use Rattle.kube_objects.proofs.RowPlaces.{row_at_place}
use Rattle.kube_objects.proofs.SameKeys.{same_key-Decides}
use Rattle.informer_cache.specs.All.{all_objects}
use Rattle.worker_core.proofs.near.NearLookup.row.Goals as goal

pub returns-then-is_of-clause-object : goal.returns-then-is_of-clause-object
returns-then-is_of-clause-object c =
    let rows = all_objects c.args.self.now.caches.now in
    let k = c.args.key.now in
    let o = c.in-Some.object.now in
    let same = (same_key-Decides k (key_of o)).0 (sym c.is_of.ensures ∙ c.if-is_of.true) in
    sym (row_at_place k.kind c.args.self.now.place o rows c.at.ensures.order (sym c.in-Some.ensures.object)) ∙ ap (λ j. row_at j rows) (sym same)
