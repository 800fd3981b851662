use Rattle.safety_law.proofs.Invariant.DeviceMoves.{device_moves}
use Rattle.safety_law.proofs.invariant_laws.calls_move_the_devices.Goals as goal

-- src/lib.rt:35:1
pub returns : goal.returns
returns c = device_moves
