-- A history in which a mounted claim leaves: an agent takes the node with the empty name, on which each pod that is not
-- scheduled would stand, reads and mounts. It is no run, since that pod is on no node: neither the read of its claim nor
-- the mount is allowed. A choice of this project.
use Rattle.std.specs.Prelude.{ℕ, true, List, [], ◌∷◌, Some, None, codes}
use Rattle.kube_parts.specs.declared.parts.Kind.TheVariants as kinds
use Rattle.kube_parts.specs.declared.parts.VolumePhase.TheVariants as volumes
use Rattle.kube_parts.specs.declared.parts.VolumePhase.{VolumePhase}
use Rattle.kube_parts.specs.declared.parts.ClaimPhase.TheVariants as claims
use Rattle.kube_objects.specs.declared.objects.Volume.{Volume as VolumeData}
use Rattle.kube_objects.specs.declared.objects.Claim.{Claim as ClaimData}
use Rattle.kube_objects.specs.declared.objects.Pod.{Pod as PodData}
use Rattle.kube_objects.specs.declared.objects.Object.TheVariants.{Volume, Claim, Pod}
use Rattle.kube_parts.specs.Uids.{uid_of_serial}
use Rattle.call_types.specs.declared.entry.Entry.{Entry}
use Rattle.call_types.specs.declared.request.NewStatus.TheVariants as statuses
use Rattle.call_types.specs.declared.request.SeatKind.{SeatKind}
use Rattle.call_types.specs.declared.request.SeatKind.TheVariants as seats
use Rattle.call_types.specs.declared.request.Request.{Request}
use Rattle.call_types.specs.declared.request.Request.TheVariants as requests
use Rattle.call_types.specs.declared.reply.Reply.{Reply}
use Rattle.call_types.specs.declared.reply.Reply.TheVariants as replies
use Rattle.binder_model.specs.Store.{first_moment}
use Rattle.binder_model.specs.World.{IsHistory}
use Rattle.binder_model.specs.ObjectKeys.{claim_key, volume_key}
use Rattle.binder_model.specs.Licence.{Licensed}
use Rattle.binder_model.specs.Run.{Run}
use Rattle.binder_model.specs.Safe.{Safe}
use Rattle.model_laws.specs.Worked.{no_setup, named, once, amount, volume, claim, a, c, volume_for, completed_c}

abbrev pub entry : ℕ → SeatKind → Request → Reply → Entry
entry seat kind request reply = record { seat = seat; kind = kind; request = request; reply = reply; told = true }

abbrev pub a_at : ℕ → VolumePhase → VolumeData
a_at version phase = volume_for (a 1 volumes.Pending) (c 2) version phase

abbrev pub c_bound : ClaimData
c_bound = let done = completed_c 6 in record done { phase = claims.Bound; got_modes = once; got = Some (amount 5) }

abbrev pub c_deleted : ClaimData
c_deleted = record c_bound { meta = record c_bound.meta { version = 8; deleted = Some first_moment } }

abbrev pub c_loose : ℕ → ClaimData
c_loose version = record c_deleted { meta = record c_deleted.meta { version = version; finalizers = [] } }

abbrev pub pod : PodData
pod = record { meta = named (codes "default") (codes "p"); claims = codes "c" ∷ []; node = []; extra = [] }

abbrev pub pod_stands : PodData
pod_stands = record pod { meta = record pod.meta { uid = Some (uid_of_serial 7); version = 7; created = first_moment } }

abbrev pub e1 : Entry
e1 = entry 1 seats.User (requests.Create (Volume (volume (codes "a") 5))) (replies.Done (Volume (a 1 volumes.Pending)))

abbrev pub e2 : Entry
e2 = entry 1 seats.User (requests.Create (Claim (claim (codes "c") 3))) (replies.Done (Claim (c 2)))

abbrev pub e3 : Entry
e3 = entry 5 seats.Binder (requests.List kinds.PersistentVolume None) (replies.Listed (Volume (a 1 volumes.Pending) ∷ []) 2)

abbrev pub e4 : Entry
e4 = entry 5 seats.Binder (requests.List kinds.PersistentVolumeClaim None) (replies.Listed (Claim (c 2) ∷ []) 2)

abbrev pub e5 : Entry
e5 = entry 5 seats.Binder (requests.Update (Volume (a_at 1 volumes.Pending)) (Some 1)) (replies.Done (Volume (a_at 3 volumes.Pending)))

abbrev pub e6 : Entry
e6 = entry 5 seats.Binder (requests.UpdateStatus (volume_key (codes "a")) (statuses.Volume volumes.Bound) (Some 3)) (replies.Done (Volume (a_at 4 volumes.Bound)))

abbrev pub e7 : Entry
e7 = entry 5 seats.Binder (requests.Update (Claim (completed_c 2)) (Some 2)) (replies.Done (Claim (completed_c 5)))

abbrev pub e8 : Entry
e8 = entry 5 seats.Binder (requests.UpdateStatus (claim_key (codes "default") (codes "c")) (statuses.Claim claims.Bound once (Some (amount 5))) (Some 5)) (replies.Done (Claim c_bound))

abbrev pub e9 : Entry
e9 = entry 1 seats.User (requests.Create (Pod pod)) (replies.Done (Pod pod_stands))

abbrev pub e10 : Entry
e10 = entry 9 seats.Agent (requests.TakeNode []) (replies.Epoch 1)

abbrev pub e11 : Entry
e11 = entry 9 seats.Agent (requests.List kinds.Pod None) (replies.Listed (Pod pod_stands ∷ []) 7)

abbrev pub e12 : Entry
e12 = entry 9 seats.Agent (requests.Get (claim_key (codes "default") (codes "c"))) (replies.Found (Claim c_bound))

abbrev pub e13 : Entry
e13 = entry 9 seats.Agent (requests.Get (volume_key (codes "a"))) (replies.Found (Volume (a_at 4 volumes.Bound)))

abbrev pub e14 : Entry
e14 = entry 9 seats.Agent (requests.Mount [] 1 (uid_of_serial 7) (uid_of_serial 2 ∷ [])) (replies.Mounted (record { pod = uid_of_serial 7; claims = uid_of_serial 2 ∷ [] } ∷ []))

abbrev pub e15 : Entry
e15 = entry 1 seats.User (requests.Delete (claim_key (codes "default") (codes "c")) None) (replies.Done (Claim c_deleted))

abbrev pub e16 : Entry
e16 = entry 8 seats.ClaimProtect (requests.List kinds.PersistentVolumeClaim None) (replies.Listed (Claim c_deleted ∷ []) 8)

abbrev pub e17 : Entry
e17 = entry 8 seats.ClaimProtect (requests.List kinds.Pod (Some (codes "default"))) (replies.Listed (Pod pod_stands ∷ []) 8)

abbrev pub e18 : Entry
e18 = entry 8 seats.ClaimProtect (requests.Update (Claim (c_loose 8)) (Some 8)) (replies.Left (Claim (c_loose 9)))

-- up to the list of the pods
abbrev pub until_list : List Entry
until_list = e11 ∷ e10 ∷ e9 ∷ e8 ∷ e7 ∷ e6 ∷ e5 ∷ e4 ∷ e3 ∷ e2 ∷ e1 ∷ []

abbrev pub history : List Entry
history = e18 ∷ e17 ∷ e16 ∷ e15 ∷ e14 ∷ e13 ∷ e12 ∷ until_list

pub record MountsOnNoNode : Type 0 where
  pub runs_until_then : Run no_setup until_list
  pub read_is_refused : Licensed seats.Agent (e11 ∷ e10 ∷ []) e12.request → ⊥
  pub mount_is_refused : Licensed seats.Agent (e13 ∷ e12 ∷ e11 ∷ e10 ∷ []) e14.request → ⊥
  pub is_no_run : Run no_setup history → ⊥
  pub is_a_history : IsHistory no_setup history
  pub is_not_safe : Safe no_setup history → ⊥
