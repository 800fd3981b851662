use Rattle.std.proofs.Common.{sym, ap}
use Rattle.std.specs.Prelude.{option_map}
use Rattle.plain_data.proofs.RowFacts.{find_at, find_gap}
use Rattle.kube_objects.proofs.KeyOrder.{key_cmp_total}
use Rattle.informer_cache.specs.Marks.{mark_key}
use Rattle.informer_cache.proofs.marks.version_in.Goals as goal

pub returns-in-Ok : goal.returns-in-Ok
returns-in-Ok c = sym (ap (option_map (λ m. m.version)) (find_at key_cmp_total mark_key _ _ _ _ c.in-Ok.ensures.at))

pub returns-in-Err : goal.returns-in-Err
returns-in-Err c = sym (ap (option_map (λ m. m.version)) (find_gap key_cmp_total mark_key _ _ _ c.requires c.in-Err.ensures.gap))
