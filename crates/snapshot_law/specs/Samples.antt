-- Rows of the side and a world, for the computed examples. Lists of calls stand newest first.
-- A choice of this project.
use Rattle.std.specs.Prelude.{ℕ, true, false, List, [], ◌∷◌, Some, None, codes}
use Rattle.plain_data.specs.Pairs.{Pair}
use Rattle.kube_parts.specs.declared.parts.Modes.{Modes}
use Rattle.kube_parts.specs.declared.parts.Policy.TheVariants as policies
use Rattle.kube_parts.specs.declared.parts.SourceKind.TheVariants as sources
use Rattle.kube_parts.specs.declared.parts.VolumePhase.TheVariants as volumes
use Rattle.kube_parts.specs.declared.parts.ClaimPhase.TheVariants as claims
use Rattle.kube_objects.specs.Bindings.{bind_completed, yes}
use Rattle.kube_objects.specs.Sources.{data_id_of}
use Rattle.kube_objects.specs.declared.objects.Amount.{Amount}
use Rattle.kube_objects.specs.declared.objects.Claim.{Claim as ClaimData}
use Rattle.kube_objects.specs.declared.objects.DataId.{DataId}
use Rattle.kube_objects.specs.declared.objects.Meta.{Meta}
use Rattle.kube_objects.specs.declared.objects.Object.{Object}
use Rattle.kube_objects.specs.declared.objects.Object.TheVariants.{Volume, Claim}
use Rattle.kube_objects.specs.declared.objects.Volume.{Volume as VolumeData}
use Rattle.snapshot_bind.specs.declared.rows.Snapshot.{Snapshot as SnapshotData}
use Rattle.snapshot_bind.specs.declared.rows.Content.{Content as ContentData}
use Rattle.snapshot_bind.specs.declared.calls.SnapAsk.{SnapAsk}
use Rattle.snapshot_bind.specs.declared.calls.SnapAsk.TheVariants as asks
use Rattle.snapshot_bind.specs.declared.calls.SnapEntry.{SnapEntry}
use Rattle.snapshot_bind.specs.declared.calls.SnapReply.{SnapReply}
use Rattle.snapshot_bind.specs.declared.calls.SnapReply.TheVariants.{Listed}
use Rattle.snapshot_bind.specs.SideStore.{Side, cut_content, new_content, new_snapshot, side_of}

-- metadata with these annotations
abbrev pub meta_with : List ℕ → List ℕ → List Pair → Meta
meta_with namespace name annotations = record {
  namespace = namespace;
  name = name;
  uid = None;
  version = 1;
  created = [];
  deleted = None;
  labels = [];
  annotations = annotations;
  finalizers = [];
}

-- no access modes
abbrev pub modeless : Modes
modeless = record { rwo = false; rox = false; rwx = false; rwop = false }

-- an amount of one byte
abbrev pub one_byte : Amount
one_byte = record { text = codes "1"; bytes = 1 }

-- a claim named "c", with these annotations, that names the volume "v"
abbrev pub claim_with : List Pair → ClaimData
claim_with annotations = record {
  meta = meta_with (codes "ns") (codes "c") annotations;
  modes = modeless;
  amount = one_byte;
  block = false;
  class = None;
  selector = None;
  volume_name = codes "v";
  extra = [];
  phase = claims.Bound;
  got_modes = modeless;
  got = None;
}

-- that claim, completed
abbrev pub completed_claim : ClaimData
completed_claim = claim_with ((bind_completed, yes) ∷ [])

-- the volume "v"
abbrev pub volume : VolumeData
volume = record {
  meta = meta_with [] (codes "v") [];
  amount = one_byte;
  modes = modeless;
  block = false;
  class = [];
  policy = policies.Delete;
  claim_ref = None;
  source = record { kind = sources.Nfs; first = codes "server"; second = codes "/path" };
  terms = None;
  extra = [];
  phase = volumes.Bound;
}

-- a world of that volume and that claim
abbrev pub world : List Object
world = Volume volume ∷ Claim completed_claim ∷ []

-- the data of the volume
abbrev pub data_of_volume : DataId
data_of_volume = data_id_of volume.source

-- the snapshot "s" of the claim, as a user made it by the first write
abbrev pub waiting : SnapshotData
waiting = new_snapshot 1 (codes "ns") (codes "s") (codes "c") policies.Delete

-- the snapshot, bound to the content "k" by the third
abbrev pub bound : SnapshotData
bound = record waiting { version = 3; content = codes "k" }

-- and deleting by the fourth
abbrev pub leaving : SnapshotData
leaving = record bound { version = 4; deleting = true }

-- a content for the snapshot that a user handed in by the second write
abbrev pub by_hand : ContentData
by_hand = new_content 2 (codes "h") (codes "ns") (codes "s") policies.Delete data_of_volume

-- the content "k", which has the UID of the snapshot
abbrev pub kept : ContentData
kept = record by_hand { name = codes "k"; uid = Some 1 }

-- the content that the second write cuts for the snapshot
abbrev pub cut_for_it : ContentData
cut_for_it = cut_content 2 waiting data_of_volume

-- a side of these rows
abbrev pub side_with : List SnapshotData → List ContentData → Side
side_with snapshots contents = side_of 4 snapshots contents

-- a call, and what it was told
abbrev pub told : SnapAsk → SnapReply → SnapEntry
told ask reply = record { ask = ask; reply = reply }

-- a list that told these rows
abbrev pub lists : List SnapshotData → List ContentData → SnapEntry
lists snapshots contents = told asks.SnapList (Listed snapshots contents 4)
