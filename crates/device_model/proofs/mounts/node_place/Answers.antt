use Rattle.plain_data.proofs.RowFacts.{searched}
use Rattle.std.proofs.lemmas.Cmp.{nat_list_cmp_total}
use Rattle.device_model.specs.Kept.{node_name}
use Rattle.device_model.proofs.mounts.node_place.Goals as goal

pub returns-clause-at : goal.returns-clause-at
returns-clause-at c = (searched nat_list_cmp_total node_name c.args.node.now _ _ c.requires c.place_of.ensures.bound c.place_of.ensures.position).at

pub returns-clause-gap : goal.returns-clause-gap
returns-clause-gap c = (searched nat_list_cmp_total node_name c.args.node.now _ _ c.requires c.place_of.ensures.bound c.place_of.ensures.position).gap
