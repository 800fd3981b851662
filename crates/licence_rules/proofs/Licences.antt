-- The licence of a seat, by its kind and its row.
use Rattle.std.proofs.Common.{◌≡◌, ◌↔◌, IsTrue, Bool, List, refl}
use Rattle.call_types.specs.declared.entry.Entry.{Entry}
use Rattle.call_types.specs.declared.request.Request.{Request}
use Rattle.call_types.specs.declared.request.SeatKind.{SeatKind}
use Rattle.call_types.specs.declared.request.SeatKind.TheVariants as seats
use Rattle.binder_model.specs.Licence.{AreOfKind, Licensed, RowAllows}

pub licensed_row : (kind : SeatKind) (mine : List Entry) (request : Request) (b : Bool) → (kind ≡ seats.User → ⊥)
    → (IsTrue b ↔ (AreOfKind kind mine × RowAllows kind mine request)) → (IsTrue b ↔ Licensed kind mine request)
licensed_row seats.User mine request b controller is = absurd (controller refl)
licensed_row seats.Binder mine request b controller is = is
licensed_row seats.Ops mine request b controller is = is
licensed_row seats.Scheduler mine request b controller is = is
licensed_row seats.ClaimProtect mine request b controller is = is
licensed_row seats.VolumeProtect mine request b controller is = is
licensed_row seats.Agent mine request b controller is = is
