-- The evidence that a machine keeps, in the entries of its seat, the newest first: each write that is still to be made is one that its row
-- allows, and those after the next one are writes of volumes and claims, whose rows the writes before them leave as they are.
-- A choice of this project.
use Rattle.std.specs.Prelude.{List, [], ◌∷◌, drop, ⊤}
use Rattle.std.specs.List.{AllByRecursion}
use Rattle.call_types.specs.declared.entry.Entry.{Entry}
use Rattle.call_types.specs.declared.request.Request.{Request}
use Rattle.call_types.specs.declared.request.Request.TheVariants.{Update}
use Rattle.call_types.specs.declared.request.SeatKind.TheVariants as seats
use Rattle.binder_model.specs.Licence.{RowAllows}
use Rattle.pod_scheduler.specs.declared.schedule.ScheduleOp.{ScheduleOp}
use Rattle.pod_scheduler.specs.declared.schedule.ScheduleStep.{ScheduleStep}
use Rattle.pod_scheduler.specs.declared.schedule.ScheduleStep.TheVariants as steps

-- the write of a volume or of a claim, at a told object
abbrev pub MayUpdate : List Entry → Request → Type 0
MayUpdate mine (Update new given) = RowAllows seats.Scheduler mine (Update new given)
MayUpdate mine request = ⊥

-- the first of these writes is allowed, and each behind it is one of an object that was told
abbrev pub MayWrite : List Entry → List Request → Type 0
MayWrite mine [] = ⊤
MayWrite mine (w ∷ writes) = RowAllows seats.Scheduler mine w × AllByRecursion (MayUpdate mine) writes

-- the entries allow the next write
abbrev pub StepKeeps : ScheduleStep → List Request → List Entry → Type 0
StepKeeps (steps.Writes place) writes mine = MayWrite mine (drop place writes)
StepKeeps step writes mine = ⊤

-- the entries allow the next call for the pod
abbrev pub ScheduleKeeps : ScheduleOp → List Entry → Type 0
ScheduleKeeps op mine = StepKeeps op.step op.writes mine
