-- A node agent pays, whatever its epoch and whatever it remembers of its mounts: a call at an epoch that is not the node's changes nothing,
-- nor does a Mount of what is mounted or an Unmount of what is not.
-- A choice of this project.
use Rattle.std.specs.Prelude.{ℕ, ◌≡◌}
use Rattle.call_types.specs.declared.request.SeatKind.TheVariants as seats
use Rattle.call_types.specs.declared.setup.Setup.{Setup}
use Rattle.worker_core.specs.declared.role.Role.{Role}
use Rattle.settle_pays.specs.Pays.Pays.{DecisionsPay}

-- whatever a node agent begins in a run, where it sees the store as it is, will pay
abbrev pub AgentsPay : Type 0
AgentsPay = (setup : Setup) (seat : ℕ) (role : Role) → role.kind ≡ seats.Agent → DecisionsPay setup seat role
