use Rattle.model_laws.proofs.Computed.{guard_on_annotations}
use Rattle.model_laws.proofs.guard_on_annotations.Goals as goal

pub returns : goal.returns
returns c = guard_on_annotations
