-- What a seat was told that lets a machine stand on it, and what does not: the newest exchange stands first.
-- A choice of this project, as the machines are.
use Rattle.std.specs.Prelude.{List, [], ◌∷◌}
use Rattle.call_types.specs.declared.request.SeatKind.TheVariants as seats
use Rattle.binder_machines.specs.declared.machine.Machine.{Machine}
use Rattle.binder_machines.specs.declared.machine.Machine.TheVariants.{Binds, Releases}
use Rattle.binder_machines.specs.Evidence.{MachineKeeps}
use Rattle.model_examples.specs.Samples.{Exchange, a, c, finds_none, key_c, seat_of, taken_a, tells_both, tells_volume}

abbrev pub After : List Exchange → Machine → Type 0
After xs machine = MachineKeeps machine (seat_of seats.Binder xs)

pub record EvidenceExamples : Type 0 where
  pub binds_what_was_told : After (tells_both c a) (Binds a c)
  pub claim_that_was_not_told_is_not_bound : After (tells_volume a ∷ []) (Binds a c) → ⊥
  pub releases_after_the_read : After (finds_none key_c ∷ tells_volume taken_a ∷ []) (Releases taken_a)
  pub not_before_the_volume_was_told : After (tells_volume taken_a ∷ finds_none key_c ∷ []) (Releases taken_a) → ⊥
