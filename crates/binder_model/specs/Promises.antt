-- What is promised of every run: it is safe, it loses no claim, and a pod is bound with the evidence of its row.
-- A choice of this project; the proofs stand in the crate of the safety law.
use Rattle.std.specs.Prelude.{ℕ, ◌≡◌, ◌≢◌, ◌<◌, ◌^◌, false, List, ◌∷◌, Option, length}
use Rattle.kube_parts.specs.declared.uid.Uid.{Uid}
use Rattle.kube_objects.specs.declared.key.Key.{Key}
use Rattle.kube_parts.specs.declared.parts.ClaimPhase.TheVariants as claims
use Rattle.kube_parts.specs.declared.parts.Modes.{Modes}
use Rattle.kube_objects.specs.declared.objects.Amount.{Amount}
use Rattle.kube_objects.specs.declared.objects.Object.{Object}
use Rattle.kube_objects.specs.Keys.{meta_of}
use Rattle.call_types.specs.declared.entry.Entry.{Entry}
use Rattle.call_types.specs.declared.setup.Setup.{Setup}
use Rattle.call_types.specs.declared.request.NewStatus.TheVariants as statuses
use Rattle.call_types.specs.declared.request.Request.TheVariants as requests
use Rattle.call_types.specs.declared.reply.Reply.TheVariants.{Done}
use Rattle.binder_model.specs.Imports.{ImportsPass}
use Rattle.binder_model.specs.Told.{own}
use Rattle.binder_model.specs.SchedulerLicence.{MayAssign}
use Rattle.binder_model.specs.Run.{Run}
use Rattle.binder_model.specs.Safe.{Safe, was_imported_as_lost}

-- how many entries a history may have: more than any machine can hold
abbrev pub most_entries : ℕ
most_entries = 2 ^ 60

-- a run of fewer entries than that, from imports that pass
pub record IsRunOf (setup : Setup) (past : List Entry) : Type 0 where
  pub imports : ImportsPass setup.imports
  pub short : length past < most_entries
  pub run : Run setup past

-- the safety law: each run is safe
abbrev pub RunImpliesSafe : Type 0
RunImpliesSafe = (setup : Setup) (past : List Entry) → IsRunOf setup past → Safe setup past

-- no entry that writes phase Lost on a claim which was not imported as Lost is answered Done
abbrev pub LostIsNeverDone : Type 0
LostIsNeverDone =
    (setup : Setup) (e : Entry) (past : List Entry) → IsRunOf setup (e ∷ past)
    → (key : Key) (modes : Modes) (amount : Option Amount) (given : Option ℕ) (o : Object)
    → e.request ≡ requests.UpdateStatus key (statuses.Claim claims.Lost modes amount) given
    → was_imported_as_lost setup (meta_of o).uid ≡ false → e.reply ≢ Done o

-- a BindPod that was answered Done has the evidence of its row: every claim of the pod had been told completed, with a
-- volume that admits a told version of the node
abbrev pub BindsHaveEvidence : Type 0
BindsHaveEvidence =
    (setup : Setup) (e : Entry) (past : List Entry) → IsRunOf setup (e ∷ past)
    → (key : Key) (uid : Uid) (node : List ℕ) (o : Object)
    → e.request ≡ requests.BindPod key uid node → e.reply ≡ Done o → MayAssign (own e.seat past) key uid node
