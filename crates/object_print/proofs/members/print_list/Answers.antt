use Rattle.std.proofs.Common.{◌∙◌}
use Rattle.json_text.specs.Members.{array_data}
use Rattle.json_text.specs.Writing.{written}
use Rattle.json_text.proofs.Closing.{alone}
use Rattle.object_print.proofs.members.print_list.Goals as goal

pub returns : goal.returns
returns g c = c.into_bytes.ensures ∙ alone (written c.write_list.new.out) (array_data g.T.AsJson.json c.args.items.now) (rw c.in_ok-out.ensures at c.in_ok-write_list.ensures.ok)
