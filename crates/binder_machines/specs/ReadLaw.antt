-- After a read the machines decide anew by the tables of the decisions, with what was read; and a machine whose key is parked has ended.
-- A choice of this project.
use Rattle.std.specs.Prelude.{◌≡◌, true, List, None, ⊤}
use Rattle.kube_types.specs.declared.lookup.Live.{Live}
use Rattle.kube_types.specs.declared.lookup.Live.TheVariants.{NotAsked, Absent, Present}
use Rattle.kube_objects.specs.declared.objects.Volume.{Volume as VolumeData}
use Rattle.kube_objects.specs.declared.objects.Claim.{Claim as ClaimData}
use Rattle.kube_objects.specs.declared.objects.Object.{Object}
use Rattle.call_types.specs.declared.reply.Refusal.TheVariants.{NotFound}
use Rattle.call_types.specs.declared.reply.Reply.{Reply}
use Rattle.call_types.specs.declared.reply.Reply.TheVariants.{Found, Refused}
use Rattle.claim_sync.specs.ClaimDecision.{claim_decision}
use Rattle.volume_sync.specs.VolumeDecision.{volume_decision}
use Rattle.binder_machines.specs.declared.decide.FirstMachine.TheVariants.{Begins}
use Rattle.binder_machines.specs.declared.machine.Machine.{Machine}
use Rattle.binder_machines.specs.declared.machine.Machine.TheVariants.{ReadsClaim, ReadsVolume}
use Rattle.binder_machines.specs.FirstSteps.{claim_first, volume_first}
use Rattle.binder_machines.specs.Machines.{confirmed_for, machine_for, moved, parks_at}

-- the answer of a read, as what is known of the object
abbrev pub IsAnswer : Reply → Live → Type 0
IsAnswer (Found o) (Present p) = p.now ≡ o
IsAnswer (Refused NotFound) Absent = ⊤
IsAnswer reply live = ⊥

-- where the claim of a volume is to be read, the answer begins what the decision with it says
abbrev pub ClaimReadDecides : Type 0
ClaimReadDecides = (rows : List Object) (v : VolumeData) (reply : Reply) (live : Live)
    → volume_first v (volume_decision rows v NotAsked) ≡ Begins (ReadsClaim v) → IsAnswer reply live
    → moved (ReadsClaim v) reply ≡ machine_for v (volume_decision rows v live)

-- where the volume of a claim is to be read, likewise
abbrev pub VolumeReadDecides : Type 0
VolumeReadDecides = (rows : List Object) (c : ClaimData) (reply : Reply) (live : Live)
    → claim_first c (claim_decision rows c NotAsked) ≡ Begins (ReadsVolume c) → IsAnswer reply live
    → moved (ReadsVolume c) reply ≡ confirmed_for c (claim_decision rows c live)

-- a parked machine has ended
abbrev pub ParkedHaveEnded : Type 0
ParkedHaveEnded = (machine : Machine) (reply : Reply) → parks_at machine reply ≡ true → moved machine reply ≡ None
