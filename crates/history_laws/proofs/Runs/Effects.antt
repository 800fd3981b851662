-- Each call keeps a world whose values a text can give.
use Rattle.std.proofs.Common.{refl, sym, arith}
use Rattle.std.specs.Prelude.{◌≡◌, ℕ, ◌+◌, ◌^◌, ◌<◌, nat_lt, Bool, true, false, List, ◌∷◌, Option, Some, None, IfSome, All, codes, if◌then◌else◌}
use lib.Pointwise.{pointwise_long}
use Rattle.std.proofs.lemmas.List.Elements.{All-cons}
use Rattle.kube_parts.specs.declared.names.Field.TheVariants as fields
use Rattle.kube_parts.specs.declared.parts.Kind.{Kind}
use Rattle.kube_objects.specs.declared.objects.Object.{Object}
use Rattle.kube_objects.specs.Keys.{meta_of, key_of, key_cmp}
use Rattle.call_types.specs.declared.setup.Setup.{Setup}
use Rattle.call_types.specs.declared.request.SeatKind.{SeatKind}
use Rattle.call_types.specs.declared.request.Request.{Request}
use Rattle.call_types.specs.declared.request.Request.TheVariants as requests
use Rattle.call_types.specs.declared.reply.Change.{Change}
use Rattle.call_types.specs.declared.reply.Event.{Event}
use Rattle.call_types.specs.declared.reply.Refusal.{Refusal}
use Rattle.call_types.specs.declared.reply.Refusal.TheVariants.{Invalid, Gone}
use Rattle.call_types.specs.declared.reply.Reply.TheVariants.{Refused, Events}
use Rattle.binder_model.specs.Store.{State}
use Rattle.binder_model.specs.Answers.{Outcome, Says, Stores, Removes, is_user, reply_of, after, outcome}
use Rattle.binder_model.specs.Devices.{DeviceAnswer, device_answer}
use Rattle.binder_model.specs.Watching.{oldest, told_events}
use Rattle.binder_model.specs.World.{World, OnStore, OnDevices, SetsMoment, base, is_time, fits_shape, set_time, watch, stale_epoch, on_devices, effect, refused_rule, reply_to, log_after, world_after}
use Rattle.model_laws.proofs.Imported.{pass_base}
use Rattle.object_laws.specs.Given.{IsStamp, IsGivenObject}
use Rattle.history_laws.specs.Read.Given.{IsNumber, IsEvent, IsRequest, IsRefusal, IsSetup}
use Rattle.history_laws.specs.Runs.Keeping.{IsGivenStore, IsGivenWorld, IsGivenEffect, CallsKeepGiven}
use Rattle.history_laws.proofs.Runs.Lists.{put_all, without_all}
use Rattle.history_laws.proofs.Runs.Objects.{version_given}
use Rattle.history_laws.proofs.Runs.Outcomes.{IsGivenOutcome, outcome_given}
use Rattle.history_laws.proofs.Runs.Devices.{IsGivenAnswer, devices_more, stale_number, device_answer_given}
use Rattle.history_laws.proofs.Runs.Watched.{told_given, oldest_number}

-- ---- the world after it

store_more : (most : ℕ) (s : State) → IsGivenStore most s → IsGivenStore (most + 1) s
store_more most s h = let few = h.version in record { rows = h.rows; version = omega (arith, few) }

world_more : (most : ℕ) (w : World) → IsGivenWorld most w → IsGivenWorld (most + 1) w
world_more most w h = record { store = store_more most w.store h.store; moment = h.moment; log = h.log; devices = devices_more most w.devices h.devices }

logged : (change : Change) (o : Object) (log : List Event) → IsGivenObject o → All IsEvent log → All IsEvent ((record { change = change; object = o; version = (meta_of o).version }) ∷ log)
logged change o log is h = let few = version_given o is in All-cons IsEvent _ log (record { object = is; version = omega (arith, few) }) h

on_store : (most : ℕ) (w : World) (x : Outcome) → IsGivenWorld most w → IsGivenOutcome x → IsGivenEffect most w (OnStore x)
unfolding reply_to reply_of world_after after log_after
on_store most w (Says reply) h k = record { reply = k.given; world = world_more most w h }
on_store most w (Stores change o) h k = let few = h.store.version in record {
  reply = k.given;
  world = record {
    store = record { rows = put_all key_cmp key_of IsGivenObject o w.store.rows k.given h.store.rows; version = omega (arith, few) };
    moment = h.moment;
    log = logged change o w.log k.given h.log;
    devices = devices_more most w.devices h.devices;
  };
}
on_store most w (Removes o) h k = let few = h.store.version in record {
  reply = k.given;
  world = record {
    store = record { rows = without_all key_cmp key_of IsGivenObject (key_of o) w.store.rows h.store.rows; version = omega (arith, few) };
    moment = h.moment;
    log = logged _ o w.log k.given h.log;
    devices = devices_more most w.devices h.devices;
  };
}

refused : (most : ℕ) (w : World) (r : Refusal) → IsGivenWorld most w → IsRefusal r → IsGivenEffect most w (OnStore (Says (Refused r)))
refused most w r h k = on_store most w (Says (Refused r)) h (record { given = k })

on_device : (most : ℕ) (w : World) (a : DeviceAnswer) → IsGivenWorld most w → IsGivenAnswer most a → IsGivenEffect most w (OnDevices a)
unfolding reply_to world_after
on_device most w a h k = record { reply = k.reply; world = record { store = store_more most w.store h.store; moment = h.moment; log = h.log; devices = k.devices } }

sets : (most : ℕ) (w : World) (at : List ℕ) → IsGivenWorld most w → IsStamp at → IsGivenEffect most w (SetsMoment at)
unfolding reply_to world_after
sets most w at h k = record { reply = tt; world = record { store = store_more most w.store h.store; moment = k; log = h.log; devices = devices_more most w.devices h.devices } }

-- ---- what a request comes to

time_is_stamp : (at : List ℕ) → is_time at ≡ true → IsStamp at
time_is_stamp at e = sym (pointwise_long fits_shape (codes "dddd-dd-ddTdd:dd:ddZ") at e)

timed : (most : ℕ) (w : World) (at : List ℕ) → IsGivenWorld most w → IsGivenEffect most w (set_time at)
unfolding set_time
timed most w at h = by (is_time at) refl
  where
    by : (b : Bool) → is_time at ≡ b → IsGivenEffect most w (if b then SetsMoment at else OnStore (Says (Refused (Invalid fields.Time))))
    by true e = sets most w at h (time_is_stamp at e)
    by false e = refused most w _ h tt

module _ (setup : Setup) (is : IsSetup setup) (most : ℕ) (few : most < 2 ^ 62) (w : World) (h : IsGivenWorld most w) where
  oldest_is : IsNumber (oldest (base setup) w.store.version)
  oldest_is =
      let low = pass_base _ setup.imports is.passing in
      let version = h.store.version in
      oldest_number (base setup) w.store.version (omega (arith, low)) (omega (arith, version, few))

  version_is : IsNumber w.store.version
  version_is = let version = h.store.version in omega (arith, version, few)

  watched : (kind : Kind) (from : ℕ) → IsGivenEffect most w (watch setup w kind from)
  unfolding watch
  watched kind from = by (nat_lt w.store.version from) (nat_lt from (oldest (base setup) w.store.version))
    where
      by : (a b : Bool) → IsGivenEffect most w
          (if a then OnStore (Says (Refused (Invalid fields.From))) else if b then OnStore
          (Says (Refused (Gone (oldest (base setup) w.store.version)))) else OnStore (Says (Events (told_events kind from w.store.version w.log))))
      by true b = refused most w _ h tt
      by false true = refused most w _ h oldest_is
      by false false = on_store most w (Says (Events (told_events kind from w.store.version w.log))) h (record { given = told_given kind from w.store.version w.log version_is h.log })

  stale_is : (request : Request) → IfSome (stale_epoch w.devices request) IsNumber
  stale_is (requests.FinishPod key uid node epoch) = stale_number most w.devices node epoch few h.devices
  stale_is _ = tt

  asked : (kind : SeatKind) (request : Request) (a : Option DeviceAnswer) → IfSome a (IsGivenAnswer most) → IsRequest request → IsGivenEffect most w (on_devices w kind request a)
  unfolding on_devices
  asked kind request (Some a) k r = by (is_user kind)
    where
      by : (b : Bool) → IsGivenEffect most w (if b then refused_rule else OnDevices a)
      by true = refused most w _ h tt
      by false = on_device most w a h k
  asked kind request None k r =
      let version = h.store.version in
      on_store most w (outcome w.store kind request w.moment (stale_epoch w.devices request)) h
      (outcome_given w.store kind request w.moment (stale_epoch w.devices request) (omega (arith, version, few)) h.store.rows h.moment (stale_is request) r)

pub calls_keep_given : CallsKeepGiven
unfolding effect
calls_keep_given setup most w kind (requests.SetTime at) is few h k = timed most w at h
calls_keep_given setup most w kind (requests.Watch of_kind from) is few h k = watched setup is most few w h of_kind from
calls_keep_given setup most w kind request is few h k =
    asked setup is most few w h kind request (device_answer setup w.devices request) (device_answer_given setup most w.devices request is.pools few h.devices k) k
