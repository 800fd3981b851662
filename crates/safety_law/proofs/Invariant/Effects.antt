-- Each effect is what was asked: an outcome of the store, an answer of the devices to a controller, or a new moment.
use Rattle.std.proofs.Common.{refl, true≢false}
use Rattle.std.specs.Prelude.{if◌then◌else◌, ◌≡◌, Bool, true, false, Option, Some, None, nat_lt}
use Rattle.kube_objects.specs.Keys.{AreRows}
use Rattle.call_types.specs.declared.setup.Setup.{Setup}
use Rattle.call_types.specs.declared.request.SeatKind.{SeatKind}
use Rattle.call_types.specs.declared.request.Request.{Request}
use Rattle.call_types.specs.declared.request.Request.TheVariants as requests
use Rattle.call_types.specs.declared.reply.Refusal.{Refusal}
use Rattle.call_types.specs.declared.reply.Reply.TheVariants.{Refused}
use Rattle.binder_model.specs.Answers.{Says, is_user}
use Rattle.binder_model.specs.Devices.{DeviceAnswer, device_answer}
use Rattle.binder_model.specs.Watching.{oldest}
use Rattle.binder_model.specs.World.{base, World, Effect, OnStore, SetsMoment, effect, watch, on_devices, set_time, is_time}
use Rattle.safety_law.specs.Invariant.Writes.{EffectOf, CallsComeToWhatWasAsked}
use Rattle.safety_law.proofs.Invariant.Forms.{outcome_form}

record IsEffect (setup : Setup) (w : World) (kind : SeatKind) (request : Request) (x : Effect) : Type 0 where
  is : EffectOf setup w kind request x

module _ {setup : Setup} {w : World} {kind : SeatKind} {request : Request} where
  test : (b : Bool) (x y : Effect) → (b ≡ true → IsEffect setup w kind request x) → (b ≡ false → IsEffect setup w kind request y)
      → IsEffect setup w kind request (if b then x else y)
  test true x y kx ky = kx refl
  test false x y kx ky = ky refl

  refused : (r : Refusal) → IsEffect setup w kind request (OnStore (Says (Refused r)))
  refused r = record { is = λ other o h. absurd h }

asked : (setup : Setup) (w : World) (kind : SeatKind) (request : Request) (a : Option DeviceAnswer) → device_answer setup w.devices request ≡ a
    → AreRows w.store.rows → IsEffect setup w kind request (on_devices w kind request a)
unfolding on_devices
asked setup w kind request (Some a) e rows = test (is_user kind) (OnStore _) _ (λ u. refused _) (λ u. record { is = (u, e) })
asked setup w kind request None e rows = record { is = outcome_form w.store kind request w.moment _ rows }

effect_is : (setup : Setup) (w : World) (kind : SeatKind) (request : Request) → AreRows w.store.rows → IsEffect setup w kind request (effect setup w kind request)
unfolding effect set_time watch
effect_is setup w kind (requests.SetTime at) rows = test (is_time at) (SetsMoment _) (OnStore _) (λ e. record { is = refl }) (λ e. refused _)
effect_is setup w kind (requests.Watch k from) rows =
    test (nat_lt w.store.version from) (OnStore _) _ (λ e. refused _)
    (λ f. test (nat_lt from (oldest (base setup) w.store.version)) (OnStore _) (OnStore _) (λ e. refused _) (λ e. record { is = λ other. absurd (true≢false other) }))
effect_is setup w kind request rows = asked setup w kind request _ refl rows

pub effect_form : CallsComeToWhatWasAsked
effect_form setup w kind request rows = (effect_is setup w kind request rows).is
