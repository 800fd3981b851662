-- What an answer tells that is no watch's stands in the store at that moment.
use Rattle.std.proofs.Common.{subst, inl, inr}
use Rattle.std.specs.Prelude.{◌≡◌, false, [], Some}
use Rattle.kube_objects.specs.declared.objects.Object.{Object}
use Rattle.kube_objects.specs.Keys.{key_of, row_at, put_row}
use Rattle.kube_objects.proofs.KeyOrder.{row_at-put_row}
use Rattle.call_types.specs.declared.setup.Setup.{Setup}
use Rattle.call_types.specs.declared.request.SeatKind.{SeatKind}
use Rattle.call_types.specs.declared.request.Request.{Request}
use Rattle.binder_model.specs.Answers.{Says, Stores, Removes, reply_of, after}
use Rattle.binder_model.specs.Told.{objects_in}
use Rattle.binder_model.specs.World.{World, Effect, OnStore, OnDevices, SetsMoment, reply_to, world_after}
use Rattle.safety_law.specs.Invariant.Writes.{IsIn}
use Rattle.safety_law.specs.Invariant.Tellings.{TellsNow, AnswersTellTheMoment}
use Rattle.safety_law.specs.Invariant.Writes.{is_watch, EffectOf}
use Rattle.safety_law.proofs.Invariant.Effects.{effect_form}
use Rattle.safety_law.proofs.Invariant.DeviceMoves.{devices_mute}

-- what an effect tells that is no watch's stands before it or after it
tells_of_effect : (setup : Setup) (w : World) (kind : SeatKind) (request : Request) (x : Effect) → EffectOf setup w kind request x
    → is_watch request ≡ false → TellsNow w x
unfolding reply_to reply_of world_after after
tells_of_effect setup w kind request (OnStore (Says reply)) f other = record { now = λ o h. inl (f other o h) }
tells_of_effect setup w kind request (OnStore (Stores change new)) f other = record {
  now = λ o h. elim h [
    | inl e ↦ inr (subst (λ (z : Object). row_at (key_of z) (put_row new w.store.rows) ≡ Some z) e (row_at-put_row new w.store.rows))
    | inr none ↦ absurd none
  ];
}
tells_of_effect setup w kind request (OnStore (Removes old)) f other = record { now = λ o h. absurd h }
tells_of_effect setup w kind request (OnDevices a) f other =
    let none : objects_in a.reply ≡ [] = devices_mute setup w.devices request a f.1 in
    record { now = λ o h. absurd (subst (IsIn o) none h) }
tells_of_effect setup w kind request (SetsMoment at) f other = record { now = λ o h. absurd h }

pub tells_now : AnswersTellTheMoment
tells_now setup w kind request rows other = tells_of_effect setup w kind request _ (effect_form setup w kind request rows) other
