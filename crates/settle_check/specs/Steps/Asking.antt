-- What is due for a claim, by the call with which its provisioning begins. For the proofs alone.
use Rattle.std.specs.Prelude.{ℕ, Bool, ◌||◌, List, Option, Some, None, is_none, if◌then◌else◌}
use Rattle.plain_data.specs.Pairs.{Pair}
use Rattle.kube_parts.specs.declared.names.Due.{Due}
use Rattle.kube_parts.specs.declared.names.Due.TheVariants as dues
use Rattle.kube_objects.specs.Keys.{row_at}
use Rattle.call_types.specs.declared.request.Request.{Request}
use Rattle.call_types.specs.declared.request.Request.TheVariants as requests
use Rattle.call_types.specs.declared.setup.Setup.{Setup}
use Rattle.binder_model.specs.ObjectKeys.{volume_key}
use Rattle.binder_model.specs.Devices.{has_data, pool_fits}
use Rattle.binder_model.specs.World.{World}

-- data of this name are asked for: they are there, or a pool fits, and the store would take the volume. Under a delayed class the
-- node is taken back where the devices cannot give them
abbrev pub asking_due : Setup → World → Bool → List ℕ → List ℕ → ℕ → Option (List Pair) → Option Due
asking_due setup w delayed name provisioner bytes labels =
    if has_data w.devices name || pool_fits setup w.devices provisioner bytes labels then (if is_none (row_at (volume_key name) w.store.rows) then Some dues.Provision else None)
    else if delayed then Some dues.ClearNode
    else None

-- the first call asks for data, or takes the node back
abbrev pub call_due : Setup → World → Bool → Option Request → Option Due
call_due setup w delayed (Some (requests.Provision name provisioner bytes labels)) = asking_due setup w delayed name provisioner bytes labels
call_due setup w delayed (Some (requests.Update object version)) = Some dues.ClearNode
call_due setup w delayed call = None
