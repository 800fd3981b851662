use Rattle.model_laws.proofs.Stored.{data_ids_are_given_once}
use Rattle.model_laws.proofs.data_ids_are_given_once.Goals as goal

pub returns : goal.returns
returns c = data_ids_are_given_once
