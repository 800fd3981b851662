-- Where a setup has no imports, the definitions say what they would say without them.
-- A choice of this project, as the definitions are; their sources stand in `binder_model`.
use Rattle.std.specs.Prelude.{ℕ, ◌≡◌, ◌-◌, true, false, List, [], Option}
use Rattle.kube_parts.specs.declared.uid.Uid.{Uid}
use Rattle.kube_objects.specs.declared.objects.Claim.{Claim as ClaimData}
use Rattle.kube_objects.specs.Bindings.{is_completed}
use Rattle.call_types.specs.declared.entry.Entry.{Entry}
use Rattle.call_types.specs.declared.setup.Setup.{Setup}
use Rattle.binder_model.specs.Store.{first_moment}
use Rattle.binder_model.specs.Devices.{no_devices}
use Rattle.binder_model.specs.Imports.{ImportsPass}
use Rattle.binder_model.specs.Watching.{window, oldest}
use Rattle.binder_model.specs.World.{World, base, world}
use Rattle.binder_model.specs.Safe.{Counts, was_imported_as_lost}

-- the world before the first call where nothing was imported
abbrev pub empty_world : World
empty_world = record { store = record { rows = []; version = 0 }; moment = first_moment; log = []; devices = no_devices }

-- with no imports the first world is empty, watches reach as far back as the window, and no claim was imported as Lost
pub record SaysAsBefore (setup : Setup) : Type 0 where
  pub passes : ImportsPass setup.imports
  pub begins : world setup [] ≡ empty_world
  pub base_is : base setup ≡ 0
  pub served : (version : ℕ) → oldest (base setup) version ≡ version - window
  pub none_lost : (uid : Option Uid) → was_imported_as_lost setup uid ≡ false
  pub counts : (past : List Entry) (claim : ClaimData) → is_completed claim ≡ true → Counts setup past claim

-- so it is of each setup without imports
abbrev pub NoImportsSayAsBefore : Type 0
NoImportsSayAsBefore = (setup : Setup) → setup.imports ≡ [] → SaysAsBefore setup
