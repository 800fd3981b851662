-- What an agent's calls at the epoch of its node come to.
use Rattle.std.proofs.Common.{◌≡◌, ℕ, List, true, false, None, refl}
use Rattle.std.specs.Prelude.{◌==◌}
use Rattle.std.proofs.lemmas.Bool.Decides.{Decides-eqb}
use Rattle.kube_parts.specs.declared.uid.Uid.{Uid}
use Rattle.call_types.specs.declared.request.Request.TheVariants as requests
use Rattle.call_types.specs.declared.request.SeatKind.{SeatKind}
use Rattle.call_types.specs.declared.setup.Setup.{Setup}
use Rattle.binder_model.specs.Answers.{is_user}
use Rattle.binder_model.specs.Devices.{Devices, device_answer, epoch_if_stale, epoch_of, unless_stale, with_mount, with_mounts, without_mount}
use Rattle.binder_model.specs.World.{OnDevices, World, effect, on_devices}

-- an epoch that is the node's is not stale
pub fresh : (d : Devices) (node : List ℕ) (epoch : ℕ) → epoch ≡ epoch_of node d.epochs → epoch_if_stale d node epoch ≡ None
fresh d node epoch current = let level : (epoch == epoch_of node d.epochs) ≡ true = (Decides-eqb epoch (epoch_of node d.epochs)).1 current in rw level refl

module _ (setup : Setup) (w : World) (kind : SeatKind) (node : List ℕ) (epoch : ℕ) (pod : Uid) (controller : is_user kind ≡ false) (current : epoch ≡ epoch_of node w.devices.epochs) where
  pub mount_is : (claims : List Uid) → effect setup w kind (requests.Mount node epoch pod claims) ≡ OnDevices (with_mounts w.devices node (with_mount node pod claims w.devices.mounts))
  unfolding effect on_devices device_answer unless_stale
  mount_is claims = rw (fresh w.devices node epoch current, controller) refl

  pub unmount_is : effect setup w kind (requests.Unmount node epoch pod) ≡ OnDevices (with_mounts w.devices node (without_mount node pod w.devices.mounts))
  unfolding effect on_devices device_answer unless_stale
  unmount_is = rw (fresh w.devices node epoch current, controller) refl

  pub mounts_is : effect setup w kind (requests.Mounts node epoch) ≡ OnDevices (with_mounts w.devices node w.devices.mounts)
  unfolding effect on_devices device_answer unless_stale
  mounts_is = rw (fresh w.devices node epoch current, controller) refl
