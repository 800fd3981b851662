-- What is written to prepare a node: for each match the claim's reference into its volume, and then the node on each claim that is to
-- be provisioned, each write at the version of the object that the look-up shows.
-- Source: `AssumePodVolumes` and `BindPodVolumes` of the scheduler's volume binding plugin.
use Rattle.std.specs.Prelude.{ℕ, List, [], ◌++◌, Option, Some, None, map, slice_get}
use Rattle.plain_data.specs.Pairs.{put_pair}
use Rattle.kube_objects.specs.declared.key.Key.{Key}
use Rattle.kube_objects.specs.declared.objects.Claim.{Claim as ClaimData}
use Rattle.kube_objects.specs.declared.objects.Volume.{Volume as VolumeData}
use Rattle.kube_objects.specs.declared.objects.Object.{Object}
use Rattle.kube_objects.specs.declared.objects.Object.TheVariants.{Claim}
use Rattle.kube_objects.specs.Bindings.{selected_node}
use Rattle.kube_objects.specs.Keys.{row_at}
use Rattle.call_types.specs.declared.request.Request.{Request}
use Rattle.call_types.specs.declared.request.Request.TheVariants.{Update}
use Rattle.binder_model.specs.BindWrites.{write_reference}
use Rattle.binder_model.specs.Choice.{claim_in}
use Rattle.volume_index.specs.VolumeIndex.{as_volume}
use Rattle.delayed_binding.specs.declared.choice.Choice.{Choice}
use Rattle.delayed_binding.specs.declared.choice.Choice.TheVariants.{Prepare}

-- the first write of a binding
abbrev pub reference_write : Option ClaimData → Option VolumeData → Option Request
reference_write (Some c) (Some v) = Some (write_reference v c)
reference_write claim volume = None

-- the objects under the keys of a claim and of a volume
abbrev pub bind_write : List Object → Key × Key → Option Request
bind_write rows pair = reference_write (claim_in (row_at pair.0 rows)) (as_volume (row_at pair.1 rows))

-- the claim with the node that was selected for it
abbrev pub placed_on : List ℕ → ClaimData → ClaimData
placed_on node c = record c { meta = record c.meta { annotations = put_pair selected_node node c.meta.annotations } }

-- the write that selects the node for a claim, if the claim is there
abbrev pub selecting_write : List ℕ → Option ClaimData → Option Request
selecting_write node None = None
selecting_write node (Some c) = Some (Update (Claim (placed_on node c)) (Some c.meta.version))

-- the write that selects the node for the claim of a key
abbrev pub node_write : List Object → List ℕ → Key → Option Request
node_write rows node key = selecting_write node (claim_in (row_at key rows))

-- the writes of a choice in order; each is none where the look-up lacks an object that it names
abbrev pub writes_of : List Object → Choice → List (Option Request)
writes_of rows (Prepare node binds provisions) = map (bind_write rows) binds ++ map (node_write rows node) provisions
writes_of rows choice = []

-- an option of an option as one option
abbrev pub joined : {X : Type 0} → Option (Option X) → Option X
joined None = None
joined (Some x) = x

-- the nth write, from 0
unfoldable pub prepare_write : List Object → Choice → ℕ → Option Request
prepare_write rows choice nth = joined (slice_get (writes_of rows choice) nth)
