-- A fact of outcomes that holds of every answer and of what the store says holds of every effect on the store.
use Rattle.std.specs.Prelude.{ℕ, Bool, true, false, Option, Some, None, nat_lt, if◌then◌else◌, ⊤}
use Rattle.call_types.specs.declared.setup.Setup.{Setup}
use Rattle.call_types.specs.declared.request.SeatKind.{SeatKind}
use Rattle.call_types.specs.declared.request.Request.{Request}
use Rattle.call_types.specs.declared.request.Request.TheVariants as requests
use Rattle.call_types.specs.declared.reply.Reply.{Reply}
use Rattle.binder_model.specs.Answers.{Outcome, Says, is_user, outcome}
use Rattle.binder_model.specs.Devices.{DeviceAnswer}
use Rattle.binder_model.specs.Watching.{oldest}
use Rattle.binder_model.specs.World.{base, World, Effect, OnStore, SetsMoment, effect, watch, on_devices, set_time, is_time}
use Rattle.model_laws.proofs.OnOutcome.{OnOutcome, OfAnswers}

abbrev pub OfStore : (Outcome → Type 0) → Effect → Type 0
OfStore P (OnStore o) = P o
OfStore P x = ⊤

pub record OnEffect (P : Outcome → Type 0) (x : Effect) : Type 0 where
  pub on : OfStore P x

-- P holds of what the store says to the request
abbrev pub OfStoreAnswer : (Outcome → Type 0) → World → SeatKind → Request → Type 0
OfStoreAnswer P w kind request = (stale : Option ℕ) → OnOutcome P (outcome w.store kind request w.moment stale)

test : {P : Outcome → Type 0} (b : Bool) (x y : Effect) → OnEffect P x → OnEffect P y → OnEffect P (if b then x else y)
test true x y kx ky = kx
test false x y kx ky = ky

said : {P : Outcome → Type 0} → OfAnswers P → (reply : Reply) → OnEffect P (OnStore (Says reply))
said s reply = record { on = s reply }

asked : {P : Outcome → Type 0} → OfAnswers P → (w : World) (kind : SeatKind) (request : Request) (a : Option DeviceAnswer)
    → OfStoreAnswer P w kind request → OnEffect P (on_devices w kind request a)
unfolding on_devices
asked s w kind request (Some a) k = test (is_user kind) (OnStore _) _ (said s _) (record { on = tt })
asked s w kind request None k = record { on = (k _).holds }

pub on_effects : {P : Outcome → Type 0} → OfAnswers P → (setup : Setup) (w : World) (kind : SeatKind) (request : Request)
    → OfStoreAnswer P w kind request → OnEffect P (effect setup w kind request)
unfolding effect set_time watch
on_effects s setup w kind (requests.SetTime at) k = test (is_time at) (SetsMoment _) (OnStore _) (record { on = tt }) (said s _)
on_effects s setup w kind (requests.Watch kind' from) k =
    test (nat_lt w.store.version from) (OnStore _) _ (said s _)
    (test (nat_lt from (oldest (base setup) w.store.version)) (OnStore _) (OnStore _) (said s _) (said s _))
on_effects s setup w kind request k = asked s w kind request _ k
