-- What a scheduler begins with writes has these writes.
use Rattle.std.specs.Prelude.{◌≡◌, List, [], ◌∷◌, Some}
use Rattle.std.proofs.Common.{ap, sym}
use Rattle.call_types.specs.declared.request.Request.{Request}
use Rattle.model_laws.proofs.Lists.{none_some, one}
use Rattle.pod_scheduler.specs.declared.schedule.ScheduleOp.{ScheduleOp}
use Rattle.pod_scheduler.specs.Decisions.{begun_with}

-- what begins with writes has these writes
pub begun_writes : (writes : List Request) (op : ScheduleOp) → Some op ≡ begun_with writes → op.writes ≡ writes
begun_writes [] op e = none_some (sym e)
begun_writes (w ∷ writes) op e = ap (λ (x : ScheduleOp). x.writes) (one op _ e)
