use Rattle.machine_examples.proofs.Actor.Protected.{built_kinds}
use Rattle.machine_examples.proofs.actors.built_kind_examples.Goals as goal

pub returns : goal.returns
returns c = built_kinds
