use Rattle.std.proofs.Common.{◌≡◌, drop}
use Rattle.std.specs.List.{list_any}
use Rattle.script_runs.specs.Steps.Settled.{calls_device}
use Rattle.script_runs.proofs.settled.call_devices.Given as goal

-- what is to be found is still ahead
abbrev pub invariant-loop-entry : goal.invariant-loop-entry
invariant-loop-entry l = list_any calls_device (drop l.entry-index l.entries) ≡ list_any calls_device l.entries
