-- What an answer tells of the moment: each object in it stands in the store before the call or after it.
-- A choice of this project, as the definitions are; their sources stand in `binder_model`.
use Rattle.std.specs.Prelude.{◌≡◌, ◌⊎◌, false, Some}
use Rattle.kube_objects.specs.declared.objects.Object.{Object}
use Rattle.kube_objects.specs.Keys.{key_of, row_at}
use Rattle.call_types.specs.declared.request.Request.{Request}
use Rattle.binder_model.specs.Told.{objects_in}
use Rattle.binder_model.specs.World.{World, Effect, reply_to, world_after}
use Rattle.safety_law.specs.Invariant.Writes.{IsIn, is_watch}
use Rattle.call_types.specs.declared.setup.Setup.{Setup}
use Rattle.call_types.specs.declared.request.SeatKind.{SeatKind}
use Rattle.kube_objects.specs.Keys.{AreRows}
use Rattle.binder_model.specs.World.{effect}

-- what is told at an entry that is no watch stands before or after
pub record TellsNow (w : World) (x : Effect) : Type 0 where
  pub now : (o : Object) → IsIn o (objects_in (reply_to x)) → (row_at (key_of o) w.store.rows ≡ Some o) ⊎ (row_at (key_of o) (world_after w x).store.rows ≡ Some o)

-- only a watch tells of the past
abbrev pub AnswersTellTheMoment : Type 0
AnswersTellTheMoment =
    (setup : Setup) (w : World) (kind : SeatKind) (request : Request)
    → AreRows w.store.rows → is_watch request ≡ false → TellsNow w (effect setup w kind request)
