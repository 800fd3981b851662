-- Who holds a node: the seat that was told the node's current epoch.
-- A choice of this project, as the definitions are; their sources stand in `binder_model`.
use Rattle.std.specs.Prelude.{ℕ, ◌≡◌, List, Some}
use Rattle.call_types.specs.declared.entry.Entry.{Entry}
use Rattle.call_types.specs.declared.setup.Setup.{Setup}
use Rattle.binder_model.specs.Devices.{epoch_of}
use Rattle.binder_model.specs.AgentLicence.{last_epoch}
use Rattle.binder_model.specs.World.{world}
use Rattle.binder_model.specs.Told.{own}
use Rattle.safety_law.specs.Invariant.Good.{Good}

-- the node's epoch now
abbrev pub epoch_now : Setup → List Entry → List ℕ → ℕ
epoch_now setup past node = epoch_of node (world setup past).devices.epochs

-- the seat was told the epoch that is current
abbrev pub Holds : Setup → List Entry → List ℕ → ℕ → Type 0
Holds setup past node seat = last_epoch node (own seat past) ≡ Some (epoch_now setup past node)

-- at most one seat holds a node
abbrev pub NodesHaveOneHolder : Type 0
NodesHaveOneHolder = (setup : Setup) (past : List Entry) → Good setup past → (node : List ℕ) (s t : ℕ) → Holds setup past node s → Holds setup past node t → s ≡ t
