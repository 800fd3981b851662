-- What is licensed is what the row of the kind allows.
use Rattle.std.proofs.Common.{List}
use Rattle.call_types.specs.declared.entry.Entry.{Entry}
use Rattle.call_types.specs.declared.request.Request.{Request}
use Rattle.call_types.specs.declared.request.SeatKind.{SeatKind}
use Rattle.call_types.specs.declared.request.SeatKind.TheVariants as seats
use Rattle.binder_model.specs.Licence.{AreOfKind, Licensed, RowAllows}

pub licensed_by : (kind : SeatKind) (mine : List Entry) (r : Request) → AreOfKind kind mine → RowAllows kind mine r → Licensed kind mine r
licensed_by seats.User mine r own row = tt
licensed_by seats.Binder mine r own row = (own, row)
licensed_by seats.Ops mine r own row = (own, row)
licensed_by seats.Scheduler mine r own row = (own, row)
licensed_by seats.ClaimProtect mine r own row = (own, row)
licensed_by seats.VolumeProtect mine r own row = (own, row)
licensed_by seats.Agent mine r own row = (own, row)
