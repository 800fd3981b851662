-- What a seat was told that lets a machine of protection stand on it, and what does not: the newest exchange stands first.
-- A choice of this project, as the machines are.
use Rattle.std.specs.Prelude.{List, [], ◌∷◌}
use Rattle.call_types.specs.declared.request.SeatKind.TheVariants as seats
use Rattle.protect_sync.specs.declared.claims.ClaimGuardOp.{ClaimGuardOp}
use Rattle.protect_sync.specs.declared.claims.ClaimGuardStep.TheVariants as claims
use Rattle.protect_sync.specs.declared.volumes.VolumeGuardOp.{VolumeGuardOp}
use Rattle.protect_sync.specs.declared.volumes.VolumeGuardStep.TheVariants as volumes
use Rattle.protect_sync.specs.Evidence.{ClaimKeeps, VolumeKeeps}
use Rattle.model_examples.specs.Samples.{Exchange, a, c, leaving_bound_a, p, seat_of, tells_claim, tells_volume}
use Rattle.model_examples.specs.ProtectionRows.{bare_a, bare_c, leaving_a, leaving_c, pods}
use Rattle.machine_examples.specs.Guard.Moves.{at_claim, at_volume}

abbrev pub AfterClaims : List Exchange → ClaimGuardOp → Type 0
AfterClaims xs op = ClaimKeeps op (seat_of seats.ClaimProtect xs)

abbrev pub AfterVolumes : List Exchange → VolumeGuardOp → Type 0
AfterVolumes xs op = VolumeKeeps op (seat_of seats.VolumeProtect xs)

pub record EvidenceExamples : Type 0 where
  pub adds_to_what_was_told : AfterClaims (tells_claim bare_c ∷ []) (at_claim claims.Adds bare_c)
  pub guarded_claim_gets_none : AfterClaims (tells_claim c ∷ []) (at_claim claims.Adds c) → ⊥
  pub lists_for_a_leaving_claim : AfterClaims (tells_claim leaving_c ∷ []) (at_claim claims.ListsPods leaving_c)
  pub not_for_a_staying_claim : AfterClaims (tells_claim c ∷ []) (at_claim claims.ListsPods c) → ⊥
  pub drops_after_the_list : AfterClaims (pods [] ∷ tells_claim leaving_c ∷ []) (at_claim claims.Drops leaving_c)
  pub not_by_the_cache_alone : AfterClaims (tells_claim leaving_c ∷ []) (at_claim claims.Drops leaving_c) → ⊥
  pub not_where_the_list_told_a_pod : AfterClaims (pods (p ∷ []) ∷ tells_claim leaving_c ∷ []) (at_claim claims.Drops leaving_c) → ⊥
  pub adds_to_a_volume_that_was_told : AfterVolumes (tells_volume bare_a ∷ []) (at_volume volumes.Adds bare_a)
  pub drops_from_a_leaving_volume : AfterVolumes (tells_volume leaving_a ∷ []) (at_volume volumes.Drops leaving_a)
  pub not_from_a_bound_volume : AfterVolumes (tells_volume leaving_bound_a ∷ []) (at_volume volumes.Drops leaving_bound_a) → ⊥
  pub not_from_a_staying_volume : AfterVolumes (tells_volume a ∷ []) (at_volume volumes.Drops a) → ⊥
  pub volume_that_was_not_told_loses_none : AfterVolumes [] (at_volume volumes.Drops leaving_a) → ⊥
