-- Which keys are due for claim protection and for volume protection, and when a life of theirs is diligent: cases that hold,
-- and cases beside them that must not. A choice of this project, as the actors are. The newest call stands first.
use Rattle.std.specs.Prelude.{List, [], ◌∷◌, Some}
use Rattle.kube_objects.specs.declared.key.Key.{Key}
use Rattle.kube_objects.specs.declared.objects.Volume.{Volume as VolumeData}
use Rattle.call_types.specs.declared.entry.Entry.{Entry}
use Rattle.call_types.specs.declared.request.SeatKind.TheVariants as seats
use Rattle.model_examples.specs.ProtectionRows.{bare_a, bare_c, leaving_a, leaving_c, other_p}
use Rattle.model_examples.specs.Samples.{Exchange, c, entry_of, key_a, key_c, leaving_bound_a, p, seat_of, tells_claim, tells_pod, tells_volume}
use Rattle.worker_core.specs.declared.role.Role.{Role}
use Rattle.worker_core.specs.States.{ActorState}
use Rattle.attention_law.specs.Diligence.{Call, IsDiligent, IsKeyDue}
use Rattle.attention_law.specs.Played.{IsPlayed}
use Rattle.machine_examples.specs.Life.Lives.{watch}

abbrev pub claim_guard : Role
claim_guard = record { kind = seats.ClaimProtect; node = [] }

abbrev pub volume_guard : Role
volume_guard = record { kind = seats.VolumeProtect; node = [] }

abbrev pub ClaimDue : Key → List Exchange → Type 0
ClaimDue key xs = IsKeyDue claim_guard key (seat_of seats.ClaimProtect xs)

abbrev pub VolumeDue : Key → List Exchange → Type 0
VolumeDue key xs = IsKeyDue volume_guard key (seat_of seats.VolumeProtect xs)

pub record ProtectionDueExamples : Type 0 where
  pub bare_claim : ClaimDue key_c (tells_claim bare_c ∷ [])
  pub leaving_claim : ClaimDue key_c (tells_claim leaving_c ∷ [])
  pub leaving_claim_beside_a_pod_of_another : ClaimDue key_c (tells_pod other_p ∷ tells_claim leaving_c ∷ [])
  pub not_a_leaving_claim_in_use : ClaimDue key_c (tells_pod p ∷ tells_claim leaving_c ∷ []) → ⊥
  pub not_a_guarded_claim : ClaimDue key_c (tells_claim c ∷ []) → ⊥
  pub bare_volume : VolumeDue key_a (tells_volume bare_a ∷ [])
  pub leaving_volume : VolumeDue key_a (tells_volume leaving_a ∷ [])
  pub not_a_leaving_bound_volume : VolumeDue key_a (tells_volume leaving_bound_a ∷ []) → ⊥

-- a life of volume protection

abbrev pub guard_entry : Exchange → Entry
guard_entry x = entry_of seats.VolumeProtect x

abbrev pub guard_call : Exchange → Call
guard_call x = Some (guard_entry x)

-- this volume was told, and four watches followed
abbrev pub guard_watched : VolumeData → List Call
guard_watched v = guard_call watch ∷ guard_call watch ∷ guard_call watch ∷ guard_call watch ∷ guard_call (tells_volume v) ∷ []

pub record ProtectionLifeExamples : Type 0 where
  pub not_where_a_bare_volume_is_left : IsDiligent volume_guard (guard_watched bare_a) → ⊥
  pub no_actor_leaves_it : (s : ActorState) → IsPlayed volume_guard s (guard_watched bare_a) → ⊥
