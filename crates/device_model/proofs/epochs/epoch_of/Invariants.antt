use Rattle.std.proofs.Common.{◌≡◌, drop}
use Rattle.binder_model.specs.Devices.{epoch_of}
use Rattle.device_model.proofs.epochs.epoch_of.Given as goal

abbrev pub invariant-loop-epoch : goal.invariant-loop-epoch
invariant-loop-epoch l = epoch_of l.node (drop l.epoch-index l.epochs) ≡ epoch_of l.node l.epochs
