-- Each call of an agent that changes the world pays: a mount, an unmount, and the end of a pod.
use Rattle.std.proofs.Common.{◌≡◌, ◌∙◌, ℕ, ◌+◌, ◌≤◌, List, [], ◌∷◌, Bool, true, false, true≢false, Option, Some, None, inl, inr, refl, sym, ap, subst, arith, if◌then◌else◌}
use Rattle.std.specs.Prelude.{◌&&◌, ◌||◌, bytes_eq, cond, not}
use Rattle.std.specs.List.{list_any}
use Rattle.std.proofs.lemmas.Bool.{or_left}
use Rattle.kube_parts.specs.declared.uid.Uid.{Uid}
use Rattle.kube_objects.specs.declared.objects.Pod.{Pod as PodData}
use Rattle.kube_objects.specs.declared.objects.Object.{Object}
use Rattle.kube_objects.specs.declared.objects.Object.TheVariants.{Pod}
use Rattle.kube_objects.specs.Bindings.{is_deleting, is_scheduled, is_uid}
use Rattle.kube_objects.specs.Keys.{AreRows, key_of, row_at}
use Rattle.kube_parts.specs.declared.names.Field.TheVariants as fields
use Rattle.call_types.specs.declared.reply.Refusal.TheVariants as refusals
use Rattle.call_types.specs.declared.request.Request.TheVariants as requests
use Rattle.call_types.specs.declared.request.SeatKind.TheVariants as seats
use Rattle.call_types.specs.declared.setup.Setup.{Setup}
use Rattle.binder_model.specs.Answers.{Outcome, Removes, finish, outcome, pod_if, pod_with, refuse, refuse_stale}
use Rattle.binder_model.specs.Devices.{DeviceAnswer, MountAt, device_answer, epoch_if_stale, is_mounted_on, rows_on, unless_stale, with_mount, with_mounts, without_mount}
use Rattle.binder_model.specs.Due.{is_pod_mounted, is_pod_uid_mounted}
use Rattle.binder_model.specs.Same.{same_uid}
use Rattle.binder_model.specs.Store.{at_version}
use Rattle.binder_model.specs.World.{OnDevices, OnStore, World, effect, on_devices, reply_to, world_after}
use Rattle.model_laws.proofs.Lists.{none_some}
use Rattle.safety_law.specs.Invariant.Moves.{written_by}
use Rattle.settle_measure.specs.Left.Lowers.{Lowers}
use Rattle.settle_measure.specs.Left.Measure.{left_of, work_left}
use Rattle.settle_measure.specs.Upkeep.Pays.{IsOnePod}
use Rattle.settle_measure.proofs.Upkeep.Pods.{finish_pays, mount_pays, unmount_pays}
use Rattle.settle_writes.specs.Writes.Lasting.{LastsBetween}
use Rattle.settle_pays.specs.Pays.Pays.{Pays}
use Rattle.settle_pays.proofs.Pays.Calls.{lowering_pays, no_devices_moved}

-- a pod of a node as it stands, whose UID no other has
pub record IsPodThere (w : World) (p : PodData) (uid : Uid) : Type 0 where
  pub order : AreRows w.store.rows
  pub there : row_at (key_of (Pod p)) w.store.rows ≡ Some (Pod p)
  pub known : p.meta.uid ≡ Some uid
  pub scheduled : is_scheduled p ≡ true
  pub only : IsOnePod w p uid

-- the mounts without one that is not there are the same
without_none : (node : List ℕ) (pod : Uid) (ms : List MountAt) → is_mounted_on node pod ms ≡ false → without_mount node pod ms ≡ ms
without_none node pod [] none = refl
without_none node pod (m ∷ ms) none = by (bytes_eq m.node node) (same_uid m.row.pod pod) refl none (without_none node pod ms)
  where
    by : (here same : Bool) → same_uid m.row.pod pod ≡ same
        → list_any (λ r. same_uid r.pod pod) (if here then m.row ∷ rows_on node ms else rows_on node ms) ≡ false → (is_mounted_on node pod ms ≡ false → without_mount node pod ms ≡ ms)
        → cond (not (here && same)) (m ∷ without_mount node pod ms) (without_mount node pod ms) ≡ m ∷ ms
    by true true is bare rest = absurd (true≢false (sym (or_left (same_uid m.row.pod pod) (is_mounted_on node pod ms) is) ∙ bare))
    by true false is bare rest = ap (λ xs. m ∷ xs) (rest (sym (ap (λ b. b || is_mounted_on node pod ms) is) ∙ bare))
    by false same is bare rest = ap (λ xs. m ∷ xs) (rest bare)

module _ (setup : Setup) (w : World) (p : PodData) (uid : Uid) (s : IsPodThere w p uid) (epoch : ℕ) where
  mounted_is : (b : Bool) → is_mounted_on p.node uid w.devices.mounts ≡ b → is_pod_mounted w.devices p ≡ b
  mounted_is b e = ap (is_pod_uid_mounted w.devices p.node) s.known ∙ e

  abbrev listed : List MountAt → DeviceAnswer
  listed ms = with_mounts w.devices p.node ms

  abbrev PaysBy : DeviceAnswer → Type 0
  PaysBy a = LastsBetween w (world_after w (OnDevices a)) (reply_to (OnDevices a)) → work_left setup (world_after w (OnDevices a)) + 1 ≤ work_left setup w

  -- an answer that leaves the devices alone
  stale_pays : (current : ℕ) (next : DeviceAnswer) → PaysBy (unless_stale w.devices (Some current) next)
  unfolding world_after reply_to unless_stale
  stale_pays current next (inl written) = absurd written
  stale_pays current next (inr (inl moved)) = no_devices_moved w moved
  stale_pays current next (inr (inr fault)) = absurd fault

  same_pays : (ms : List MountAt) → ms ≡ w.devices.mounts → PaysBy (with_mounts w.devices p.node ms)
  unfolding world_after reply_to with_mounts
  same_pays ms same (inl written) = absurd written
  same_pays ms same (inr (inl (inl moved))) = absurd (moved refl)
  same_pays ms same (inr (inl (inr moved))) = absurd (moved same)
  same_pays ms same (inr (inr fault)) = absurd fault

  -- what is left to do falls with the mounts, and no fault comes
  falls : (ms : List MountAt) → left_of (world_after w (OnDevices (with_mounts w.devices p.node ms))) + 1 ≤ left_of w → PaysBy (with_mounts w.devices p.node ms)
  unfolding world_after with_mounts
  falls ms less lasts = omega (arith, less)

  module _ (staying : is_deleting p.meta ≡ false) (claims : List Uid) where
    new_pays : epoch_if_stale w.devices p.node epoch ≡ None → is_mounted_on p.node uid w.devices.mounts ≡ false → PaysBy (with_mounts w.devices p.node (with_mount p.node uid claims w.devices.mounts))
    unfolding world_after with_mounts device_answer unless_stale
    new_pays fresh bare =
        let ms : List MountAt = with_mount p.node uid claims w.devices.mounts in
        falls ms (mount_pays setup w p uid epoch claims (with_mounts w.devices p.node ms)
        (rows_on p.node ms) s.order s.there s.known s.scheduled staying (mounted_is false bare) s.only (rw fresh refl) refl)

    by_mounted : epoch_if_stale w.devices p.node epoch ≡ None → (b : Bool) → is_mounted_on p.node uid w.devices.mounts ≡ b
        → PaysBy (with_mounts w.devices p.node (with_mount p.node uid claims w.devices.mounts))
    by_mounted fresh true there = same_pays (with_mount p.node uid claims w.devices.mounts) (rw there refl)
    by_mounted fresh false bare = new_pays fresh bare

    by_stale : (stale : Option ℕ) → epoch_if_stale w.devices p.node epoch ≡ stale → PaysBy (unless_stale w.devices stale (with_mounts w.devices p.node (with_mount p.node uid claims w.devices.mounts)))
    unfolding unless_stale
    by_stale None e = by_mounted e (is_mounted_on p.node uid w.devices.mounts) refl
    by_stale (Some current) e = stale_pays current (with_mounts w.devices p.node (with_mount p.node uid claims w.devices.mounts))

    pub mounting_pays : Pays setup w seats.Agent (requests.Mount p.node epoch uid claims)
    unfolding effect on_devices device_answer
    mounting_pays lasts = by_stale (epoch_if_stale w.devices p.node epoch) refl lasts

  module _ (going : is_deleting p.meta ≡ true) where
    gone_pays : epoch_if_stale w.devices p.node epoch ≡ None → is_mounted_on p.node uid w.devices.mounts ≡ true → PaysBy (with_mounts w.devices p.node (without_mount p.node uid w.devices.mounts))
    unfolding world_after with_mounts device_answer unless_stale
    gone_pays fresh there =
        let ms : List MountAt = without_mount p.node uid w.devices.mounts in
        falls ms (unmount_pays setup w p uid epoch (with_mounts w.devices p.node ms) (rows_on p.node ms) s.order s.there s.known s.scheduled going (mounted_is true there) s.only (rw fresh refl) refl)

    by_there : epoch_if_stale w.devices p.node epoch ≡ None → (b : Bool) → is_mounted_on p.node uid w.devices.mounts ≡ b
        → PaysBy (with_mounts w.devices p.node (without_mount p.node uid w.devices.mounts))
    by_there fresh true there = gone_pays fresh there
    by_there fresh false bare = same_pays (without_mount p.node uid w.devices.mounts) (without_none p.node uid w.devices.mounts bare)

    by_epoch : (stale : Option ℕ) → epoch_if_stale w.devices p.node epoch ≡ stale → PaysBy (unless_stale w.devices stale (with_mounts w.devices p.node (without_mount p.node uid w.devices.mounts)))
    unfolding unless_stale
    by_epoch None e = by_there e (is_mounted_on p.node uid w.devices.mounts) refl
    by_epoch (Some current) e = stale_pays current (with_mounts w.devices p.node (without_mount p.node uid w.devices.mounts))

    pub unmounting_pays : Pays setup w seats.Agent (requests.Unmount p.node epoch uid)
    unfolding effect on_devices device_answer
    unmounting_pays lasts = by_epoch (epoch_if_stale w.devices p.node epoch) refl lasts

-- ---- the end of a pod

module _ (setup : Setup) (w : World) (p : PodData) (order : AreRows w.store.rows) (there : row_at (key_of (Pod p)) w.store.rows ≡ Some (Pod p)) (uid : Uid) (node : List ℕ) (epoch : ℕ) where
  -- what the store says removes the pod, if it writes
  abbrev EndsIt : Outcome → Type 0
  EndsIt x = (o : Object) → written_by (OnStore x) ≡ Some o → x ≡ Removes (at_version (Pod p) (w.store.version + 1))

  placed : (b : Bool) (q : PodData) → q ≡ p → EndsIt (refuse b (refusals.Invalid fields.NodeName) (Removes (at_version (Pod q) (w.store.version + 1))))
  unfolding refuse
  placed true q same o e = none_some e
  placed false q same o e = ap (λ (x : PodData). Removes (at_version (Pod x) (w.store.version + 1))) same

  going : (b : Bool) (q : PodData) → q ≡ p
      → EndsIt (refuse b (refusals.Invalid fields.Deletion) (refuse (not (bytes_eq q.node node)) (refusals.Invalid fields.NodeName) (Removes (at_version (Pod q) (w.store.version + 1)))))
  unfolding refuse
  going true q same o e = none_some e
  going false q same o e = placed (not (bytes_eq q.node node)) q same o e

  current : (stale : Option ℕ) (q : PodData) → q ≡ p → EndsIt (finish w.store stale node (Some q))
  unfolding finish refuse_stale
  current (Some other) q same o e = none_some e
  current None q same o e = going (not (is_deleting q.meta)) q same o e

  nothing : (stale : Option ℕ) → EndsIt (finish w.store stale node None)
  unfolding finish
  nothing stale o e = none_some e

  by_uid : (stale : Option ℕ) (b : Bool) (q : PodData) → q ≡ p → EndsIt (finish w.store stale node (pod_if b q))
  by_uid stale true q same o e = current stale q same o e
  by_uid stale false q same o e = nothing stale o e

  here : (stale : Option ℕ) → EndsIt (finish w.store stale node (pod_with uid (Some (Pod p))))
  unfolding pod_with
  here stale = by_uid stale (is_uid p.meta.uid uid) p refl

  ends : (stale : Option ℕ) → EndsIt (finish w.store stale node (pod_with uid (row_at (key_of (Pod p)) w.store.rows)))
  ends stale = subst (λ row. EndsIt (finish w.store stale node (pod_with uid row))) (sym there) (here stale)

  lowers : Lowers setup w seats.Agent (requests.FinishPod (key_of (Pod p)) uid node epoch) 1
  unfolding effect on_devices device_answer outcome refuse
  lowers o e = finish_pays setup w seats.Agent p uid node epoch order there (ap OnStore (ends (epoch_if_stale w.devices node epoch) o e))

  pub finishing_pays : Pays setup w seats.Agent (requests.FinishPod (key_of (Pod p)) uid node epoch)
  finishing_pays = lowering_pays setup w seats.Agent (requests.FinishPod (key_of (Pod p)) uid node epoch) refl lowers
