use Rattle.delayed_binding.proofs.Allowed.{assigned_pods_are_allowed}
use Rattle.delayed_binding.proofs.laws.assigned_pods_are_allowed.Goals as goal

pub returns : goal.returns
returns c = assigned_pods_are_allowed
