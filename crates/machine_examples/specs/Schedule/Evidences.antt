-- What a seat must have been told so that its machine may write, and what is due where a call is the first: cases that hold, and cases that
-- must not. A choice of this project.
use Rattle.std.specs.Prelude.{◌≡◌, List, [], ◌∷◌, Option, Some, None, codes}
use Rattle.kube_parts.specs.declared.names.Due.{Due}
use Rattle.kube_parts.specs.declared.names.Due.TheVariants as dues
use Rattle.kube_objects.specs.declared.objects.Object.TheVariants.{Claim}
use Rattle.call_types.specs.declared.request.Request.{Request}
use Rattle.call_types.specs.declared.request.SeatKind.TheVariants.{Scheduler}
use Rattle.model_examples.specs.DueActions.{pool_setup, with_rows}
use Rattle.model_examples.specs.Samples.{Exchange, seat_of, tells_claim, tells_class, tells_node, tells_pod, tells_volume}
use Rattle.pod_scheduler.specs.declared.schedule.ScheduleOp.{ScheduleOp}
use Rattle.pod_scheduler.specs.declared.schedule.ScheduleStep.TheVariants as steps
use Rattle.pod_scheduler.specs.DueLaw.{AreUidsKnown, IsDueAt, first_call}
use Rattle.pod_scheduler.specs.Evidence.{ScheduleKeeps}
use Rattle.machine_examples.specs.Delayed.Scenes.{b, c, carrying, completed, e, late, n1, pod}
use Rattle.machine_examples.specs.Schedule.Beginnings.{nameless, open_rows}
use Rattle.machine_examples.specs.Schedule.Moves.{at, binds, pod_bind, reference, selection}

abbrev pub Keeps : ScheduleOp → List Exchange → Type 0
Keeps op xs = ScheduleKeeps op (seat_of Scheduler xs)

-- the first write alone
abbrev pub refers : ScheduleOp
refers = record { writes = reference ∷ []; step = steps.Writes 0 }

-- what was told for both writes, and for the binding of the pod
abbrev pub for_both : List Exchange
for_both = tells_class late ∷ tells_node n1 ∷ tells_claim b ∷ tells_claim c ∷ tells_volume e ∷ []

abbrev pub for_binding : List Exchange
for_binding = tells_pod pod ∷ tells_node n1 ∷ tells_claim (completed (codes "e") c) ∷ tells_volume (carrying c e) ∷ []

pub record EvidenceExamples : Type 0 where
  pub told_volume_may_be_taken : Keeps refers (tells_claim c ∷ tells_volume e ∷ [])
  pub untold_volume_may_not : Keeps refers (tells_claim c ∷ []) → ⊥
  pub untold_claim_takes_none : Keeps refers (tells_volume e ∷ []) → ⊥
  pub both_may_be_written : Keeps (at (steps.Writes 0)) for_both
  pub second_may_be_written_then : Keeps (at (steps.Writes 1)) for_both
  pub untold_class_selects_none : Keeps (at (steps.Writes 1)) (tells_node n1 ∷ tells_claim b ∷ []) → ⊥
  pub pod_may_be_bound : Keeps (binds (steps.Writes 0)) for_binding
  pub untold_pod_may_not : Keeps (binds (steps.Writes 0)) [] → ⊥
  pub nothing_must_be_told_at_the_end : Keeps (at steps.Done) []
  pub nothing_must_be_told_when_parked : Keeps (at steps.Parked) []

-- in a world without objects
abbrev pub DueBy : Option Request → Option Due → Type 0
DueBy call action = IsDueAt pool_setup (with_rows []) pod call action

pub record DueExamples : Type 0 where
  pub binding_is_due : DueBy (Some pod_bind) (Some dues.Assign)
  pub binding_is_not_due_as_preparing : DueBy (Some pod_bind) (Some dues.Prepare) → ⊥
  pub nothing_is_due : DueBy None None
  pub where_nothing_is_called_no_binding_is_due : DueBy None (Some dues.Assign) → ⊥
  pub preparing_is_not_due_as_binding : DueBy (Some selection) (Some dues.Assign) → ⊥
  pub nothing_begins : first_call None ≡ None
  pub first_write_is_called : first_call (Some (at (steps.Writes 0))) ≡ Some reference
  pub uids_are_known : AreUidsKnown open_rows pod
  pub claim_without_a_uid_is_not : AreUidsKnown (Claim (nameless c) ∷ []) pod → ⊥
