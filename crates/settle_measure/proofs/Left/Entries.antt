-- What a write that was made does to the world.
use Rattle.std.proofs.Common.{◌≡◌, ◌⊎◌, Some, inl, inr, refl, ap, subst}
use Rattle.kube_objects.specs.declared.objects.Object.{Object}
use Rattle.kube_objects.specs.Keys.{AreRows, key_of, put_row, without_row}
use Rattle.call_types.specs.declared.request.SeatKind.{SeatKind}
use Rattle.call_types.specs.declared.request.Request.{Request}
use Rattle.call_types.specs.declared.setup.Setup.{Setup}
use Rattle.binder_model.specs.Answers.{Removes, Says, Stores, after}
use Rattle.binder_model.specs.World.{Effect, OnDevices, OnStore, SetsMoment, World, effect, world_after}
use Rattle.model_laws.proofs.Lists.{none_some, one}
use Rattle.safety_law.specs.Invariant.Moves.{written_by}
use Rattle.safety_law.specs.Invariant.Writes.{EffectOf, IsLeaving, Writes}
use Rattle.safety_law.proofs.Invariant.Effects.{effect_form}

-- the object stands in its place, and nothing else has changed
pub record Put (w : World) (x : Effect) (o : Object) : Type 0 where
  pub rows : (world_after w x).store.rows ≡ put_row o w.store.rows
  pub devices : (world_after w x).devices ≡ w.devices

-- the object has left, and nothing else has changed
pub record Took (w : World) (x : Effect) (request : Request) (o : Object) : Type 0 where
  pub rows : (world_after w x).store.rows ≡ without_row (key_of o) w.store.rows
  pub devices : (world_after w x).devices ≡ w.devices
  pub leaves : IsLeaving request o

pub record Came (w : World) (kind : SeatKind) (request : Request) (x : Effect) (o : Object) : Type 0 where
  pub write : Writes w kind request o
  pub store : Put w x o ⊎ Took w x request o

came_so : (setup : Setup) (w : World) (kind : SeatKind) (request : Request) (x : Effect) (o : Object) → EffectOf setup w kind request x → written_by x ≡ Some o → Came w kind request x o
unfolding world_after after
came_so setup w kind request (OnStore (Says reply)) o f e = none_some e
came_so setup w kind request (OnStore (Stores change p)) o f e =
    let is : p ≡ o = one p o e in
    record { write = subst (Writes w kind request) is f; store = inl (record { rows = ap (λ q. put_row q w.store.rows) is; devices = refl }) }
came_so setup w kind request (OnStore (Removes p)) o f e =
    let is : p ≡ o = one p o e in
    record { write = subst (Writes w kind request) is f.0; store = inr (record { rows = ap (λ q. without_row (key_of q) w.store.rows) is; devices = refl; leaves = subst (IsLeaving request) is f.1 }) }
came_so setup w kind request (OnDevices a) o f e = none_some e
came_so setup w kind request (SetsMoment at) o f e = none_some e

pub came : (setup : Setup) (w : World) (kind : SeatKind) (request : Request) (o : Object) → AreRows w.store.rows
    → written_by (effect setup w kind request) ≡ Some o → Came w kind request (effect setup w kind request) o
came setup w kind request o order e = came_so setup w kind request (effect setup w kind request) o (effect_form setup w kind request order) e
