-- How a call moves the world that the parts are of.
use Rattle.std.proofs.Common.{refl, sym, ap, subst, ◌∙◌, inl, inr, arith, true≢false}
use Rattle.std.proofs.lemmas.Bool.Decides.{nat_tests}
use Rattle.std.proofs.lemmas.Option.{same_Some}
use Rattle.std.specs.Prelude.{ℕ, ◌≡◌, ◌⊎◌, ◌+◌, ◌<◌, ◌≤◌, nat_lt, Bool, true, false, List, [], Some, IfOk, OnOk, IfSome, IfErr, option_map, ⊤}
use Rattle.std.specs.declared.result.Result.{Result}
use Rattle.std.specs.declared.result.Result.TheVariants.{Ok, Err}
use Rattle.kube_parts.specs.declared.names.Field.TheVariants as fields
use Rattle.kube_parts.specs.declared.parts.Kind.{Kind}
use Rattle.call_types.specs.declared.setup.Setup.{Setup}
use Rattle.call_types.specs.declared.request.SeatKind.{SeatKind}
use Rattle.call_types.specs.declared.request.Request.{Request}
use Rattle.call_types.specs.declared.request.Request.TheVariants as requests
use Rattle.call_types.specs.declared.reply.Event.{Event}
use Rattle.call_types.specs.declared.reply.Events.{Events as EventsData}
use Rattle.call_types.specs.declared.reply.Refusal.TheVariants as refusals
use Rattle.call_types.specs.declared.reply.Reply.{Reply}
use Rattle.call_types.specs.declared.reply.Reply.TheVariants.{Events, Timed, Refused}
use Rattle.binder_model.specs.Answers.{Outcome, Says, Stores, Removes, is_user, is_for_store, outcome, reply_of, after}
use Rattle.binder_model.specs.Devices.{Devices, DeviceAnswer, device_answer, unless_planned}
use Rattle.binder_model.specs.World.{World, Effect, OnStore, OnDevices, SetsMoment, base, effect, reply_to, world_after, log_after, is_time, set_time, watch, on_devices, refused_rule, stale_epoch}
use Rattle.binder_model.specs.Store.{State}
use Rattle.binder_model.specs.Watching.{oldest, told_events}
use Rattle.model_laws.proofs.OnOutcome.{OnOutcome}
use Rattle.model_laws.proofs.Versions.{NextOf, outcome_next}
use Rattle.device_model.specs.Kept.{State as DeviceState, is_for_devices}
use Rattle.watch_log.specs.declared.log.LogError.{LogError}
use Rattle.watch_log.specs.declared.log.LogError.TheVariants.{Gone, Ahead, OutOfMemory as NoMemory}
use Rattle.watch_log.specs.Kept.{Log, LogStandsFor}
use Rattle.world_core.specs.declared.parts.Parts.{Parts}
use Rattle.world_core.specs.Moves.{AreOf, MayMove, made_of, event_of, with_event, version_after, Logs, IsAnswered}

-- a request of the store comes to its outcome there
pub store_effect : (setup : Setup) (w : World) (kind : SeatKind) (request : Request) → is_for_store request ≡ true
    → effect setup w kind request ≡ OnStore (outcome w.store kind request w.moment (stale_epoch w.devices request))
unfolding effect on_devices device_answer
store_effect setup w kind (requests.Create o) is = refl
store_effect setup w kind (requests.Update o given) is = refl
store_effect setup w kind (requests.UpdateStatus key status given) is = refl
store_effect setup w kind (requests.Edit key change) is = refl
store_effect setup w kind (requests.Delete key given) is = refl
store_effect setup w kind (requests.Get key) is = refl
store_effect setup w kind (requests.List k namespace) is = refl
store_effect setup w kind (requests.BindPod key uid node) is = refl
store_effect setup w kind (requests.FinishPod key uid node epoch) is = refl
store_effect setup w kind (requests.Watch k from) is = absurd (true≢false (sym is))
store_effect setup w kind (requests.Provision name provisioner bytes labels) is = absurd (true≢false (sym is))
store_effect setup w kind (requests.Erase id) is = absurd (true≢false (sym is))
store_effect setup w kind (requests.TakeNode node) is = absurd (true≢false (sym is))
store_effect setup w kind (requests.Mounts node epoch) is = absurd (true≢false (sym is))
store_effect setup w kind (requests.Mount node epoch pod claims) is = absurd (true≢false (sym is))
store_effect setup w kind (requests.Unmount node epoch pod) is = absurd (true≢false (sym is))
store_effect setup w kind (requests.SetTime at) is = absurd (true≢false (sym is))

-- a request of the devices comes to their answer, or is refused
pub device_effect : (setup : Setup) (w : World) (kind : SeatKind) (request : Request) → is_for_devices request ≡ true
    → effect setup w kind request ≡ on_devices w kind request (device_answer setup w.devices request)
unfolding effect
device_effect setup w kind (requests.Provision name provisioner bytes labels) is = refl
device_effect setup w kind (requests.Erase id) is = refl
device_effect setup w kind (requests.TakeNode node) is = refl
device_effect setup w kind (requests.Mounts node epoch) is = refl
device_effect setup w kind (requests.Mount node epoch pod claims) is = refl
device_effect setup w kind (requests.Unmount node epoch pod) is = refl
device_effect setup w kind (requests.Create o) is = absurd (true≢false (sym is))
device_effect setup w kind (requests.Update o given) is = absurd (true≢false (sym is))
device_effect setup w kind (requests.UpdateStatus key status given) is = absurd (true≢false (sym is))
device_effect setup w kind (requests.Edit key change) is = absurd (true≢false (sym is))
device_effect setup w kind (requests.Delete key given) is = absurd (true≢false (sym is))
device_effect setup w kind (requests.Get key) is = absurd (true≢false (sym is))
device_effect setup w kind (requests.List k namespace) is = absurd (true≢false (sym is))
device_effect setup w kind (requests.BindPod key uid node) is = absurd (true≢false (sym is))
device_effect setup w kind (requests.FinishPod key uid node epoch) is = absurd (true≢false (sym is))
device_effect setup w kind (requests.Watch k from) is = absurd (true≢false (sym is))
device_effect setup w kind (requests.SetTime at) is = absurd (true≢false (sym is))

-- the devices do not look at imports
pub no_imports_there : (setup : Setup) (d : Devices) (request : Request)
    → device_answer (record { pools = setup.pools; faults = setup.faults; imports = [] }) d request ≡ device_answer setup d request
unfolding device_answer unless_planned
no_imports_there setup d (requests.Provision name provisioner bytes labels) = refl
no_imports_there setup d (requests.Erase id) = refl
no_imports_there setup d (requests.TakeNode node) = refl
no_imports_there setup d (requests.Mounts node epoch) = refl
no_imports_there setup d (requests.Mount node epoch pod claims) = refl
no_imports_there setup d (requests.Unmount node epoch pod) = refl
no_imports_there setup d (requests.Create o) = refl
no_imports_there setup d (requests.Update o given) = refl
no_imports_there setup d (requests.UpdateStatus key status given) = refl
no_imports_there setup d (requests.Edit key change) = refl
no_imports_there setup d (requests.Delete key given) = refl
no_imports_there setup d (requests.Get key) = refl
no_imports_there setup d (requests.List k namespace) = refl
no_imports_there setup d (requests.BindPod key uid node) = refl
no_imports_there setup d (requests.FinishPod key uid node epoch) = refl
no_imports_there setup d (requests.Watch k from) = refl
no_imports_there setup d (requests.SetTime at) = refl

-- the log of an outcome is longer by its event
pub logged : (o : Outcome) (log : List Event) → log_after o log ≡ with_event (event_of o) log
unfolding log_after
logged (Says reply) log = refl
logged (Stores change o) log = refl
logged (Removes o) log = refl

-- answers that change nothing

still : (setup : Setup) (old : Parts) (w : World) (reply : Reply) → AreOf setup old w → AreOf setup old (world_after w (OnStore (Says reply)))
unfolding world_after after log_after
still setup old w reply a = a

says_reply : (reply : Reply) → reply_to (OnStore (Says reply)) ≡ reply
unfolding reply_to reply_of
says_reply reply = refl

-- in each world of these parts the request comes to this
abbrev pub ComesTo : Parts → SeatKind → Request → Effect → Type 0
ComesTo old kind request x = (setup : Setup) (w : World) → AreOf setup old w → effect setup w kind request ≡ x

pub says : (old : Parts) (kind : SeatKind) (request : Request) (reply : Reply) (replies : Reply × Reply) → ComesTo old kind request (OnStore (Says reply))
    → replies.0 ≡ reply → replies.1 ≡ reply → IsAnswered old old kind request replies
says old kind request reply replies is told kept = record {
  moved = λ setup w a. subst (λ x. AreOf setup old (world_after w x)) (sym (is setup w a)) (still setup old w reply a);
  told = λ setup w a. told ∙ sym (says_reply reply) ∙ ap reply_to (sym (is setup w a));
  kept = λ setup w a. kept ∙ sym (says_reply reply) ∙ ap reply_to (sym (is setup w a));
}

pub refuses : {E : Type 0} (old : Parts) (kind : SeatKind) (request : Request) (reply : Reply) (r : Result (Reply × Reply) E) → ComesTo old kind request (OnStore (Says reply))
    → IfOk r (λ x. x.0 ≡ reply) → IfOk r (λ x. x.1 ≡ reply) → IfOk r (IsAnswered old old kind request)
refuses old kind request reply (Ok x) is told kept = says old kind request reply x is told kept
refuses old kind request reply (Err e) is told kept = tt

-- on the devices

pub user_refused : (setup : Setup) (w : World) (kind : SeatKind) (request : Request) → is_for_devices request ≡ true → is_user kind ≡ true
    → effect setup w kind request ≡ refused_rule
unfolding effect on_devices device_answer
user_refused setup w kind (requests.Provision name provisioner bytes labels) is user = rw user refl
user_refused setup w kind (requests.Erase id) is user = rw user refl
user_refused setup w kind (requests.TakeNode node) is user = rw user refl
user_refused setup w kind (requests.Mounts node epoch) is user = rw user refl
user_refused setup w kind (requests.Mount node epoch pod claims) is user = rw user refl
user_refused setup w kind (requests.Unmount node epoch pod) is user = rw user refl
user_refused setup w kind (requests.Create o) is user = absurd (true≢false (sym is))
user_refused setup w kind (requests.Update o given) is user = absurd (true≢false (sym is))
user_refused setup w kind (requests.UpdateStatus key status given) is user = absurd (true≢false (sym is))
user_refused setup w kind (requests.Edit key change) is user = absurd (true≢false (sym is))
user_refused setup w kind (requests.Delete key given) is user = absurd (true≢false (sym is))
user_refused setup w kind (requests.Get key) is user = absurd (true≢false (sym is))
user_refused setup w kind (requests.List k namespace) is user = absurd (true≢false (sym is))
user_refused setup w kind (requests.BindPod key uid node) is user = absurd (true≢false (sym is))
user_refused setup w kind (requests.FinishPod key uid node epoch) is user = absurd (true≢false (sym is))
user_refused setup w kind (requests.Watch k from) is user = absurd (true≢false (sym is))
user_refused setup w kind (requests.SetTime at) is user = absurd (true≢false (sym is))

asked : (w : World) (kind : SeatKind) (request : Request) (a : DeviceAnswer) → is_user kind ≡ false → on_devices w kind request (Some a) ≡ OnDevices a
unfolding on_devices
asked w kind request a user = rw user refl

moved_devices : (setup : Setup) (old : Parts) (w : World) (d : DeviceState) (reply : Reply) → d.setup ≡ old.devices.setup → AreOf setup old w
    → AreOf setup (record old { devices = d }) (world_after w (OnDevices (record { devices = d.devices; reply = reply })))
unfolding world_after
moved_devices setup old w d reply same a =
    let began : d.setup ≡ record { pools = setup.pools; faults = setup.faults; imports = [] } = same ∙ ap (λ x. x.setup) a.devices in
    record {
      store = a.store;
      moment = a.moment;
      devices = λ i. record { setup = began i; devices = d.devices };
      base = a.base;
      version = a.version;
      log = a.log;
    }

on_devices_reply : (a : DeviceAnswer) → reply_to (OnDevices a) ≡ a.reply
unfolding reply_to
on_devices_reply a = refl

pub devices_answer : (old : Parts) (kind : SeatKind) (request : Request) (d : DeviceState) (told kept : Reply) → is_for_devices request ≡ true
    → is_user kind ≡ false → d.setup ≡ old.devices.setup
    → device_answer old.devices.setup old.devices.devices request ≡ Some (record { devices = d.devices; reply = told })
    → option_map (λ a. a.reply) (device_answer old.devices.setup old.devices.devices request) ≡ Some kept
    → IsAnswered old (record old { devices = d }) kind request (told, kept)
devices_answer old kind request d told kept is user same answered copied =
    let a : DeviceAnswer = record { devices = d.devices; reply = told } in
    let comes : ComesTo old kind request (OnDevices a) = λ setup w at.
    device_effect setup w kind request is
    ∙ ap (on_devices w kind request) (sym (no_imports_there setup w.devices request) ∙ ap (λ x. device_answer x.setup x.devices request) (sym at.devices) ∙ answered)
    ∙ asked w kind request a user in
    let one : told ≡ kept = same_Some _ _ (ap (option_map (λ x. x.reply)) (sym answered) ∙ copied) in
    record {
      moved = λ setup w at. subst (λ x. AreOf setup (record old { devices = d }) (world_after w x)) (sym (comes setup w at)) (moved_devices setup old w d told same at);
      told = λ setup w at. sym (on_devices_reply a) ∙ ap reply_to (sym (comes setup w at));
      kept = λ setup w at. sym one ∙ sym (on_devices_reply a) ∙ ap reply_to (sym (comes setup w at));
    }

-- on the moment

sets : (setup : Setup) (w : World) (kind : SeatKind) (at : List ℕ) → is_time at ≡ true → effect setup w kind (requests.SetTime at) ≡ SetsMoment at
unfolding effect set_time
sets setup w kind at is = rw is refl

pub no_time : (old : Parts) (kind : SeatKind) (at : List ℕ) → is_time at ≡ false → ComesTo old kind (requests.SetTime at) (OnStore (Says (Refused (refusals.Invalid fields.Time))))
unfolding effect set_time
no_time old kind at is setup w a = rw is refl

timed : (at : List ℕ) → reply_to (SetsMoment at) ≡ Timed
unfolding reply_to
timed at = refl

moved_moment : (setup : Setup) (old : Parts) (w : World) (at given : List ℕ) → given ≡ at → AreOf setup old w → AreOf setup (record old { moment = given }) (world_after w (SetsMoment at))
unfolding world_after
moved_moment setup old w at given is a = record { store = a.store; moment = is; devices = a.devices; base = a.base; version = a.version; log = a.log }

pub time_answer : (old : Parts) (kind : SeatKind) (at given : List ℕ) → is_time at ≡ true → given ≡ at
    → IsAnswered old (record old { moment = given }) kind (requests.SetTime at) (Timed, Timed)
time_answer old kind at given is same = record {
  moved = λ setup w a. subst (λ x. AreOf setup (record old { moment = given }) (world_after w x)) (sym (sets setup w kind at is)) (moved_moment setup old w at given same a);
  told = λ setup w a. sym (timed at) ∙ ap reply_to (sym (sets setup w kind at is));
  kept = λ setup w a. sym (timed at) ∙ ap reply_to (sym (sets setup w kind at is));
}

-- on the store

outcome_now : (setup : Setup) (old : Parts) (w : World) (kind : SeatKind) (request : Request) → AreOf setup old w
    → made_of old kind request ≡ outcome w.store kind request w.moment (stale_epoch w.devices request)
outcome_now setup old w kind request a = λ i. outcome (a.store i) kind request (a.moment i) (stale_epoch ((a.devices i).devices) request)

-- the log and the store reach one version
next_version : (s : State) (o : Outcome) (version : ℕ) → version ≡ s.version → OnOutcome (NextOf (s.version + 1)) o → version_after (event_of o) version ≡ (after s o).version
unfolding after
next_version s (Says reply) version is n = is
next_version s (Stores change o) version is n = n.holds
next_version s (Removes o) version is n = n.holds

pub next_event : (old : Parts) (kind : SeatKind) (request : Request) (o : Outcome) → MayMove old → o ≡ made_of old kind request
    → IfSome (event_of o) (λ e. e.version ≡ old.log.version + 1)
next_event old kind request o may is = by o (subst (OnOutcome (NextOf (old.store.version + 1))) (sym is) (outcome_next old.store kind request old.moment _))
  where
    by : (o : Outcome) → OnOutcome (NextOf (old.store.version + 1)) o → IfSome (event_of o) (λ e. e.version ≡ old.log.version + 1)
    by (Says reply) n = tt
    by (Stores change o) n = n.holds ∙ ap (λ v. v + 1) (sym may.logged)
    by (Removes o) n = n.holds ∙ ap (λ v. v + 1) (sym may.logged)

-- what a write makes of the parts
pub record IsWritten (old new : Parts) (o : Outcome) : Type 0 where
  pub store : new.store ≡ after old.store o
  pub log : Logs old.log new.log (event_of o)
  pub base : new.log.base ≡ old.log.base
  pub version : new.log.version ≡ version_after (event_of o) old.log.version
  pub devices : new.devices ≡ old.devices
  pub moment : new.moment ≡ old.moment

moved_store : (setup : Setup) (old new : Parts) (w : World) (kind : SeatKind) (request : Request) (o : Outcome) → MayMove old → o ≡ made_of old kind request
    → IsWritten old new o → AreOf setup old w → AreOf setup new (world_after w (OnStore o))
unfolding world_after
moved_store setup old new w kind request o may is m a =
    let next = next_version old.store o old.log.version may.logged (subst (OnOutcome (NextOf (old.store.version + 1))) (sym is) (outcome_next old.store kind request old.moment _)) in
    record {
      store = m.store ∙ ap (λ s. after s o) a.store;
      moment = m.moment ∙ a.moment;
      devices = m.devices ∙ a.devices;
      base = m.base ∙ a.base;
      version = m.version ∙ next ∙ ap (λ s. (after s o).version) a.store;
      log = subst (LogStandsFor new.log) (sym (logged o w.log)) (m.log w.log a.log);
    }

store_reply : (o : Outcome) → reply_to (OnStore o) ≡ reply_of o
unfolding reply_to
store_reply o = refl

store_answer : (old new : Parts) (kind : SeatKind) (request : Request) (o : Outcome) (replies : Reply × Reply) → is_for_store request ≡ true → MayMove old
    → o ≡ made_of old kind request → IsWritten old new o → replies.0 ≡ reply_of o → replies.1 ≡ reply_of o → IsAnswered old new kind request replies
store_answer old new kind request o replies is may made m told kept =
    let comes : ComesTo old kind request (OnStore o) = λ setup w a.
    store_effect setup w kind request is ∙ ap OnStore (sym (outcome_now setup old w kind request a) ∙ sym made) in
    record {
      moved = λ setup w a. subst (λ x. AreOf setup new (world_after w x)) (sym (comes setup w a)) (moved_store setup old new w kind request o may made m a);
      told = λ setup w a. told ∙ sym (store_reply o) ∙ ap reply_to (sym (comes setup w a));
      kept = λ setup w a. kept ∙ sym (store_reply o) ∙ ap reply_to (sym (comes setup w a));
    }

pub writes : {E : Type 0} (old new : Parts) (kind : SeatKind) (request : Request) (o : Outcome) (r : Result (Reply × Reply) E) → is_for_store request ≡ true → MayMove old
    → o ≡ made_of old kind request → OnOk r (new.store ≡ after old.store o) → OnOk r (Logs old.log new.log (event_of o)) → new.log.base ≡ old.log.base
    → OnOk r (new.log.version ≡ version_after (event_of o) old.log.version) → new.devices ≡ old.devices → new.moment ≡ old.moment
    → IfOk r (λ x. x.0 ≡ reply_of o) → IfOk r (λ x. x.1 ≡ reply_of o) → IfOk r (IsAnswered old new kind request)
writes old new kind request o (Ok x) is may made store log base version devices moment told kept =
    store_answer old new kind request o x is may made (record { store = store; log = log; base = base; version = version; devices = devices; moment = moment }) told kept
writes old new kind request o (Err e) is may made store log base version devices moment told kept = tt

-- on the log

lt_true : (a b : ℕ) → a < b → nat_lt a b ≡ true
lt_true a b h = grind (arith, nat_tests)

lt_false : (a b : ℕ) → b ≤ a → nat_lt a b ≡ false
lt_false a b h = grind (arith, nat_tests)

lt_or : (a b : ℕ) → (a < b) ⊎ (b ≤ a)
lt_or a b = by (nat_lt a b) refl
  where
    by : (t : Bool) → nat_lt a b ≡ t → (a < b) ⊎ (b ≤ a)
    by true is = inl (grind (arith, nat_tests))
    by false is = inr (grind (arith, nat_tests))

ahead : (setup : Setup) (w : World) (kind : SeatKind) (of : Kind) (from : ℕ) → w.store.version < from
    → effect setup w kind (requests.Watch of from) ≡ OnStore (Says (Refused (refusals.Invalid fields.From)))
unfolding effect watch
ahead setup w kind of from lt = rw (lt_true w.store.version from lt) refl

gone : (setup : Setup) (w : World) (kind : SeatKind) (of : Kind) (from : ℕ) → from ≤ w.store.version → from < oldest (base setup) w.store.version
    → effect setup w kind (requests.Watch of from) ≡ OnStore (Says (Refused (refusals.Gone (oldest (base setup) w.store.version))))
unfolding effect watch
gone setup w kind of from le lt = rw (lt_false w.store.version from le, lt_true from (oldest (base setup) w.store.version) lt) refl

served : (setup : Setup) (w : World) (kind : SeatKind) (of : Kind) (from : ℕ) → from ≤ w.store.version → oldest (base setup) w.store.version ≤ from
    → effect setup w kind (requests.Watch of from) ≡ OnStore (Says (Events (told_events of from w.store.version w.log)))
unfolding effect watch
served setup w kind of from le ge = rw (lt_false w.store.version from le, lt_false from (oldest (base setup) w.store.version) ge) refl

-- what the log answers
pub record LogAnswers (log : Log) (of : Kind) (from : ℕ) (r : Result EventsData LogError) : Type 0 where
  pub gone : from < oldest log.base log.version → r ≡ Err (Gone (oldest log.base log.version))
  pub ahead : log.version < from → r ≡ Err (Ahead log.version)
  pub all : (all : List Event) → LogStandsFor log all → IfOk r (λ told. told ≡ told_events of from log.version all)
  pub memory : oldest log.base log.version ≤ from → from ≤ log.version → IfErr r (λ e. e ≡ NoMemory)

oldest_now : (setup : Setup) (old : Parts) (w : World) → AreOf setup old w → oldest old.log.base old.log.version ≡ oldest (base setup) w.store.version
oldest_now setup old w a = λ i. oldest (a.base i) (a.version i)

abbrev is_ok : Result EventsData LogError → Type 0
is_ok (Ok x) = ⊤
is_ok r = ⊥

abbrev is_ahead : Result EventsData LogError → Type 0
is_ahead (Err (Ahead version)) = ⊤
is_ahead r = ⊥

abbrev is_gone : Result EventsData LogError → Type 0
is_gone (Err (Gone version)) = ⊤
is_gone r = ⊥

abbrev gone_from : Result EventsData LogError → ℕ
gone_from (Err (Gone version)) = version
gone_from r = 0

pub watch_served : (old : Parts) (kind : SeatKind) (of : Kind) (from : ℕ) (events kept : EventsData) → LogAnswers old.log of from (Ok events) → kept ≡ events
    → IsAnswered old old kind (requests.Watch of from) (Events events, Events kept)
watch_served old kind of from events kept l same =
    let le : from ≤ old.log.version = elim (lt_or old.log.version from) [ inl lt ↦ absurd (subst is_ok (l.ahead lt) tt) | inr le ↦ le ] in
    let ge : oldest old.log.base old.log.version ≤ from = elim (lt_or from (oldest old.log.base old.log.version)) [ inl lt ↦ absurd (subst is_ok (l.gone lt) tt) | inr ge ↦ ge ] in
    says old kind (requests.Watch of from) (Events events) (Events events, Events kept)
    (λ setup w a. served setup w kind of from (subst (λ v. from ≤ v) a.version le) (subst (λ v. v ≤ from) (oldest_now setup old w a) ge)
    ∙ ap (λ x. OnStore (Says (Events x))) (sym (l.all w.log a.log ∙ ap (λ v. told_events of from v w.log) a.version)))
    refl (ap Events same)

pub watch_ahead : (old : Parts) (kind : SeatKind) (of : Kind) (from last : ℕ) (e : LogError) → e ≡ Ahead last → LogAnswers old.log of from (Err e)
    → ComesTo old kind (requests.Watch of from) (OnStore (Says (Refused (refusals.Invalid fields.From))))
watch_ahead old kind of from last e is given setup w a =
    let l = subst (λ e. LogAnswers old.log of from (Err e)) is given in
    let lt : old.log.version < from = elim (lt_or old.log.version from) [
      | inl lt ↦ lt
      | inr le ↦ elim (lt_or from (oldest old.log.base old.log.version)) [
        | inl lt ↦ absurd (subst is_ahead (l.gone lt) tt)
        | inr ge ↦ absurd (subst (λ e. is_ahead (Err e)) (l.memory ge le) tt)
      ]
    ] in
    ahead setup w kind of from (subst (λ v. v < from) a.version lt)

pub watch_gone : (old : Parts) (kind : SeatKind) (of : Kind) (from least : ℕ) (e : LogError) → e ≡ Gone least → LogAnswers old.log of from (Err e)
    → ComesTo old kind (requests.Watch of from) (OnStore (Says (Refused (refusals.Gone least))))
watch_gone old kind of from least e is given setup w a =
    let l = subst (λ e. LogAnswers old.log of from (Err e)) is given in
    let le : from ≤ old.log.version = elim (lt_or old.log.version from) [ inl lt ↦ absurd (subst is_gone (l.ahead lt) tt) | inr le ↦ le ] in
    let lt : from < oldest old.log.base old.log.version = elim (lt_or from (oldest old.log.base old.log.version)) [
      | inl lt ↦ lt
      | inr ge ↦ absurd (subst (λ e. is_gone (Err e)) (l.memory ge le) tt)
    ] in
    gone setup w kind of from (subst (λ v. from ≤ v) a.version le) (subst (λ v. from < v) (oldest_now setup old w a) lt)
    ∙ ap (λ v. OnStore (Says (Refused (refusals.Gone v)))) (sym (ap gone_from (l.gone lt) ∙ oldest_now setup old w a))
