-- Which writes of the binder and of the scheduler lower what is left to do, and by how much.
-- A choice of this project.
use Rattle.std.specs.Prelude.{ℕ, ◌≡◌, ◌⊎◌, true, false, List, Option, Some, None}
use Rattle.kube_parts.specs.declared.names.Due.TheVariants as dues
use Rattle.kube_parts.specs.declared.parts.VolumePhase.{VolumePhase}
use Rattle.kube_parts.specs.declared.parts.VolumePhase.TheVariants as volumes
use Rattle.kube_objects.specs.declared.objects.Claim.{Claim as ClaimData}
use Rattle.kube_objects.specs.declared.objects.Volume.{Volume as VolumeData}
use Rattle.kube_objects.specs.declared.objects.Object.TheVariants.{Volume, Claim}
use Rattle.kube_parts.specs.declared.parts.ClaimPhase.{ClaimPhase}
use Rattle.kube_parts.specs.declared.parts.ClaimPhase.TheVariants as claims
use Rattle.kube_parts.specs.declared.parts.Modes.{Modes}
use Rattle.kube_objects.specs.declared.objects.Amount.{Amount}
use Rattle.kube_objects.specs.declared.objects.Node.{Node as NodeData}
use Rattle.plain_data.specs.Pairs.{put_pair, without_key}
use Rattle.kube_objects.specs.Bindings.{beta_class, has_key, selected_node, carries, is_bound, is_completed, is_deleting, is_empty, is_ended, is_for}
use Rattle.kube_objects.specs.Keys.{key_of, row_at}
use Rattle.call_types.specs.declared.request.NewStatus.TheVariants as statuses
use Rattle.call_types.specs.declared.request.Request.{Request}
use Rattle.call_types.specs.declared.request.Request.TheVariants.{Update, UpdateStatus}
use Rattle.call_types.specs.declared.request.SeatKind.{SeatKind}
use Rattle.call_types.specs.declared.setup.Setup.{Setup}
use Rattle.binder_model.specs.BinderDue.{named_due, volume_due}
use Rattle.binder_model.specs.BindWrites.{next_write, shows_bound, write_claim_status, write_completion, write_reference, write_available, write_bound, write_unbound}
use Rattle.binder_model.specs.ObjectKeys.{claim_key, volume_key}
use Rattle.binder_model.specs.Choice.{has_carrier}
use Rattle.binder_model.specs.Matching.{eligible, has_match}
use Rattle.binder_model.specs.World.{World}
use Rattle.settle_measure.specs.Left.Measure.{is_lost, is_seeking}
use Rattle.settle_measure.specs.Left.Lowers.{Lowers, StandsVolume, StandsClaim}

-- phase Available, where it is due
abbrev pub AvailablePays : Type 0
AvailablePays = (setup : Setup) (w : World) (kind : SeatKind) (v : VolumeData) → StandsVolume w v → volume_due w.store.rows v ≡ Some dues.Available → Lowers setup w kind (write_available v) 1

-- the write of a volume's phase, at the version of the volume
abbrev pub set_phase : VolumeData → VolumePhase → Request
set_phase v phase = UpdateStatus (volume_key v.meta.name) (statuses.Volume phase) (Some v.meta.version)

-- phase Released, where it is due
abbrev pub ReleasePays : Type 0
ReleasePays = (setup : Setup) (w : World) (kind : SeatKind) (v : VolumeData) → StandsVolume w v → volume_due w.store.rows v ≡ Some dues.Release → Lowers setup w kind (set_phase v volumes.Released) 1

-- unbinding, where it is due
abbrev pub UnbindPays : Type 0
UnbindPays = (setup : Setup) (w : World) (kind : SeatKind) (v : VolumeData) → StandsVolume w v → volume_due w.store.rows v ≡ Some dues.Unbind → Lowers setup w kind (write_unbound v) 1

-- phase Bound, where it is due
abbrev pub BoundPays : Type 0
BoundPays = (setup : Setup) (w : World) (kind : SeatKind) (v : VolumeData) → StandsVolume w v → volume_due w.store.rows v ≡ Some dues.Bound → Lowers setup w kind (write_bound v) 1

-- the volume may be given to the claim: it has not ended, and its reference is absent or is the claim's without its UID
pub record MayTake (v : VolumeData) (c : ClaimData) : Type 0 where
  pub free : carries v c ≡ false
  pub going : is_ended v.phase ≡ false
  pub open_to : (v.claim_ref ≡ None) ⊎ (is_for v c ≡ true)

-- the binder takes the best volume for a claim that seeks one: one that is for the claim goes before one that is not
abbrev pub MatchPays : Type 0
MatchPays =
    (setup : Setup) (w : World) (kind : SeatKind) (v : VolumeData) (c : ClaimData) → StandsVolume w v → StandsClaim w c → is_seeking c ≡ true → eligible v c None ≡ true → carries v c ≡ false
    → ((u : VolumeData) → row_at (key_of (Volume u)) w.store.rows ≡ Some (Volume u) → eligible u c None ≡ true → is_for u c ≡ true → is_for v c ≡ true)
    → Lowers setup w kind (write_reference v c) 1

-- the scheduler takes a volume for a claim that no volume carries
abbrev pub PreparePays : Type 0
PreparePays =
    (setup : Setup) (w : World) (kind : SeatKind) (v : VolumeData) (c : ClaimData) (n : NodeData) → StandsVolume w v → StandsClaim w c
    → is_seeking c ≡ true → eligible v c (Some n) ≡ true → has_carrier w.store.rows c ≡ false
    → Lowers setup w kind (write_reference v c) 1

-- the claim names the volume, and is not completed
abbrev pub NamedPays : Type 0
NamedPays =
    (setup : Setup) (w : World) (kind : SeatKind) (v : VolumeData) (c : ClaimData) → StandsVolume w v → StandsClaim w c → is_completed c ≡ false
    → is_deleting c.meta ≡ false → is_empty c.volume_name ≡ false → c.volume_name ≡ v.meta.name
    → named_due c (Some (Volume v)) ≡ Some dues.Bind → carries v c ≡ false → Lowers setup w kind (write_reference v c) 1

-- the claim is completed, and its volume has no reference
abbrev pub CompletedPays : Type 0
CompletedPays =
    (setup : Setup) (w : World) (kind : SeatKind) (v : VolumeData) (c : ClaimData) → StandsVolume w v → StandsClaim w c → is_completed c ≡ true
    → c.volume_name ≡ v.meta.name → v.claim_ref ≡ None → next_write v c ≡ Some (write_reference v c)
    → Lowers setup w kind (write_reference v c) 1

-- the third write of a binding, after the second
abbrev pub CompletionPays : Type 0
CompletionPays =
    (setup : Setup) (w : World) (kind : SeatKind) (v : VolumeData) (c : ClaimData) → StandsVolume w v → StandsClaim w c → carries v c ≡ true
    → is_bound v.phase ≡ true → is_completed c ≡ false → is_deleting c.meta ≡ false
    → Lowers setup w kind (write_completion v c) 1

-- the fourth write of a binding
abbrev pub StatusPays : Type 0
StatusPays =
    (setup : Setup) (w : World) (kind : SeatKind) (v : VolumeData) (c : ClaimData) → StandsClaim w c → is_completed c ≡ true
    → row_at (volume_key c.volume_name) w.store.rows ≡ Some (Volume v) → carries v c ≡ true
    → is_bound v.phase ≡ true → shows_bound c v ≡ false → Lowers setup w kind (write_claim_status v c) 1

-- the write of a claim's phase, with the modes and the amount that its status shows
abbrev pub write_claim_phase : ClaimData → ClaimPhase → Modes → Option Amount → Request
write_claim_phase c phase modes amount = UpdateStatus (claim_key c.meta.namespace c.meta.name) (statuses.Claim phase modes amount) (Some c.meta.version)

-- a completed claim that its volume does not carry is written Lost once
abbrev pub LostPays : Type 0
LostPays =
    (setup : Setup) (w : World) (kind : SeatKind) (c : ClaimData) (modes : Modes) (amount : Option Amount) → StandsClaim w c → is_completed c ≡ true
    → ((v : VolumeData) → row_at (volume_key c.volume_name) w.store.rows ≡ Some (Volume v) → carries v c ≡ false) → is_lost c.phase ≡ false
    → Lowers setup w kind (write_claim_phase c claims.Lost modes amount) 1

-- the node of a claim, written or taken back: what is left to do stays
abbrev pub NodeStays : Type 0
NodeStays = (setup : Setup) (w : World) (kind : SeatKind) (c : ClaimData) (node : List ℕ) → StandsClaim w c
    → Lowers setup w kind (Update (Claim (record c { meta = record c.meta { annotations = put_pair selected_node node c.meta.annotations } })) (Some c.meta.version)) 0

-- the node of a claim, cleared
abbrev pub NodeGoes : Type 0
NodeGoes = (setup : Setup) (w : World) (kind : SeatKind) (c : ClaimData) → StandsClaim w c
    → Lowers setup w kind (Update (Claim (record c { meta = record c.meta { annotations = without_key selected_node c.meta.annotations } })) (Some c.meta.version)) 0

-- a claim for which the binder has no volume gets its class
abbrev pub ClassPays : Type 0
ClassPays =
    (setup : Setup) (w : World) (kind : SeatKind) (c : ClaimData) (class : List ℕ) → StandsClaim w c → is_seeking c ≡ true → c.class ≡ None
    → has_key beta_class c.meta.annotations ≡ false → has_match w.store.rows c ≡ false
    → Lowers setup w kind (Update (Claim (record c { class = Some class })) (Some c.meta.version)) 1
