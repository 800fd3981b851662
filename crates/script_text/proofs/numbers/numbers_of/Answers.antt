use Rattle.std.proofs.Common.{sym, ap}
use Rattle.std.proofs.lemmas.Cmp.{nat_list_cmp_total}
use Rattle.plain_data.proofs.RowFacts.{find_at, find_gap}
use Rattle.script_text.specs.Steps.Numbers.{row_name, numbers_in}
use Rattle.script_text.proofs.numbers.numbers_of.Goals as goal

pub returns-in-Ok : goal.returns-in-Ok
returns-in-Ok c = sym (ap numbers_in (find_at nat_list_cmp_total row_name _ _ _ c.index-rows-at.result c.in-Ok.ensures.at))

pub returns-in-Err : goal.returns-in-Err
returns-in-Err c = sym (ap numbers_in (find_gap nat_list_cmp_total row_name _ _ _ c.requires c.in-Err.ensures.gap))
