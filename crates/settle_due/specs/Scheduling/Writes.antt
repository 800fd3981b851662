-- What the scheduler writes for a pod whose claims are to be prepared on a node.
-- A choice of this project, after the scheduler's volume binding plugin.
use Rattle.std.specs.Prelude.{ℕ, ◌≡◌, true, false, List, ◌∷◌, map, Some, is_some}
use Rattle.kube_objects.specs.declared.objects.Claim.{Claim as ClaimData}
use Rattle.kube_objects.specs.declared.objects.Pod.{Pod as PodData}
use Rattle.kube_objects.specs.declared.objects.Volume.{Volume as VolumeData}
use Rattle.kube_objects.specs.declared.objects.Object.{Object}
use Rattle.kube_objects.specs.declared.objects.Object.TheVariants.{Claim, Volume}
use Rattle.kube_objects.specs.Bindings.{carries}
use Rattle.kube_objects.specs.Keys.{key_of, row_at}
use Rattle.call_types.specs.declared.request.Request.{Request}
use Rattle.call_types.specs.declared.request.Request.TheVariants.{Update}
use Rattle.binder_model.specs.BindWrites.{write_reference}
use Rattle.binder_model.specs.Choice.{others_of}
use Rattle.delayed_binding.specs.Writes.{placed_on}

-- the write of the node on a claim
abbrev pub placing : List ℕ → ClaimData → Request
placing name c = Update (Claim (placed_on name c)) (Some c.meta.version)

-- a volume and a claim of the rows, which it does not carry
pub record IsApart (rows : List Object) (v : VolumeData) (c : ClaimData) : Type 0 where
  pub volume : row_at (key_of (Volume v)) rows ≡ Some (Volume v)
  pub claim : row_at (key_of (Claim c)) rows ≡ Some (Claim c)
  pub known : is_some c.meta.uid ≡ true
  pub uncarried : carries v c ≡ false

-- each claim of the pod that still needs a volume gets the node; or the first write takes a volume
pub data AreWritesOn (rows : List Object) (p : PodData) (name : List ℕ) (writes : List Request) : Type 0 where
  Places : writes ≡ map (placing name) (others_of rows p) → AreWritesOn rows p name writes
  Takes : (v : VolumeData) (c : ClaimData) (rest : List Request) → writes ≡ write_reference v c ∷ rest → IsApart rows v c → AreWritesOn rows p name writes
