-- A Mount of a pod that is not mounted lasts, and so does the end of a pod that is to go.
use Rattle.std.proofs.Common.{◌≡◌, ◌∙◌, ℕ, List, true, false, true≢false, Some, inl, inr, refl, sym, ap, subst}
use Rattle.std.specs.Prelude.{◌==◌, bytes_eq}
use Rattle.std.proofs.lemmas.Bool.Decides.{Decides-eqb}
use Rattle.std.proofs.lemmas.Slice.Eq.{bytes_eq-Decides}
use Rattle.kube_parts.specs.declared.uid.Uid.{Uid}
use Rattle.kube_objects.specs.declared.objects.Pod.{Pod as PodData}
use Rattle.kube_objects.specs.declared.objects.Object.TheVariants.{Pod}
use Rattle.kube_objects.specs.Bindings.{is_deleting}
use Rattle.kube_objects.specs.Keys.{key_of, row_at}
use Rattle.call_types.specs.declared.request.Request.TheVariants as requests
use Rattle.call_types.specs.declared.request.SeatKind.{SeatKind}
use Rattle.call_types.specs.declared.setup.Setup.{Setup}
use Rattle.binder_model.specs.Answers.{finish, is_user, outcome, pod_with, refuse, refuse_stale, reply_of}
use Rattle.binder_model.specs.Devices.{device_answer, epoch_of, is_mounted_on, with_mounts}
use Rattle.binder_model.specs.World.{World, effect, on_devices, reply_to, world_after}
use Rattle.settle_writes.specs.Writes.Lasting.{Lasts, LastsBetween}
use Rattle.settle_progress.proofs.Epochs.Calls.{fresh, mount_is}
use Rattle.settle_progress.proofs.Epochs.Mounts.{mounted_after}

-- a pod that is not mounted is mounted
pub mount_lasts : (setup : Setup) (w : World) (kind : SeatKind) (node : List ℕ) (epoch : ℕ) (pod : Uid) (claims : List Uid) → is_user kind ≡ false
    → epoch ≡ epoch_of node w.devices.epochs → is_mounted_on node pod w.devices.mounts ≡ false
    → Lasts setup w kind (requests.Mount node epoch pod claims)
unfolding world_after with_mounts reply_to
mount_lasts setup w kind node epoch pod claims controller current none =
    subst (λ x. LastsBetween w (world_after w x) (reply_to x)) (sym (mount_is setup w kind node epoch pod controller current claims))
    (inr (inl (inr (λ same. true≢false (sym (mounted_after node pod claims w.devices.mounts none) ∙ (ap (is_mounted_on node pod) same ∙ none))))))

-- a pod that is to go leaves
module _ (setup : Setup) (w : World) (kind : SeatKind) (p : PodData) (uid : Uid) (epoch : ℕ) (controller : is_user kind ≡ false)
    (there : row_at (key_of (Pod p)) w.store.rows ≡ Some (Pod p)) (known : p.meta.uid ≡ Some uid) (going : is_deleting p.meta ≡ true) where
  found : pod_with uid (row_at (key_of (Pod p)) w.store.rows) ≡ Some p
  unfolding pod_with
  found = let itself : (uid.0 == uid.0) ≡ true = (Decides-eqb uid.0 uid.0).1 refl in rw there (rw known (rw itself refl))

  pub finish_lasts : epoch ≡ epoch_of p.node w.devices.epochs → Lasts setup w kind (requests.FinishPod (key_of (Pod p)) uid p.node epoch)
  unfolding effect on_devices device_answer outcome finish refuse refuse_stale reply_to reply_of
  finish_lasts current =
      let named : bytes_eq p.node p.node ≡ true = (bytes_eq-Decides p.node p.node).1 refl in
      rw (controller, fresh w.devices p.node epoch current, found, going, named) (inl tt)
