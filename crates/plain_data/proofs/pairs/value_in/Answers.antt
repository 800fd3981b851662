use Rattle.std.proofs.Common.{sym, ap}
use Rattle.std.specs.Prelude.{option_map}
use Rattle.std.proofs.lemmas.Cmp.{nat_list_cmp_total}
use Rattle.plain_data.specs.Pairs.{pair_key}
use Rattle.plain_data.proofs.RowFacts.{find_at, find_gap}
use Rattle.plain_data.proofs.pairs.value_in.Goals as goal

pub returns-in-Ok : goal.returns-in-Ok
returns-in-Ok c = sym (ap (option_map (λ p. p.1)) (find_at nat_list_cmp_total pair_key _ _ _ _ c.in-Ok.ensures.at))

pub returns-in-Err : goal.returns-in-Err
returns-in-Err c = sym (ap (option_map (λ p. p.1)) (find_gap nat_list_cmp_total pair_key _ _ _ c.requires c.in-Err.ensures.gap))
