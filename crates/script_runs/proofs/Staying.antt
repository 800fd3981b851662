-- What keeps a settled world settled.
use Rattle.std.proofs.Common.{
  ◌≡◌,
  ◌⊎◌,
  ◌∙◌,
  ◌+◌,
  ◌-◌,
  ℕ,
  List,
  [],
  ◌∷◌,
  ◌++◌,
  length,
  drop,
  take,
  Bool,
  true,
  false,
  Option,
  Some,
  None,
  inl,
  inr,
  refl,
  sym,
  ap,
  subst,
  arith,
  append_assoc,
  true≢false,
  if◌then◌else◌,
}
use Rattle.std.specs.Prelude.{nat_lt, reverse}
use Rattle.std.specs.List.{list_any}
use Rattle.std.proofs.lemmas.List.{length-drop, length-reverse, reverse-append, reverse-reverse, take_all}
use Rattle.std.proofs.lemmas.List.Sorted.{IsPermutation-reverse, list_any-IsPermutation}
use Rattle.std.proofs.lemmas.Bool.{or_parts}
use Rattle.call_types.specs.declared.entry.Entry.{Entry}
use Rattle.call_types.specs.declared.request.Request.{Request}
use Rattle.call_types.specs.declared.request.Request.TheVariants as requests
use Rattle.call_types.specs.declared.request.SeatKind.{SeatKind}
use Rattle.call_types.specs.declared.request.SeatKind.TheVariants as seats
use Rattle.call_types.specs.declared.setup.Setup.{Setup}
use Rattle.binder_model.specs.Answers.{Outcome}
use Rattle.binder_model.specs.Devices.{DeviceAnswer, device_answer}
use Rattle.binder_model.specs.Due.{IsSettled}
use Rattle.binder_model.specs.Watching.{oldest}
use Rattle.binder_model.specs.World.{Effect, OnStore, SetsMoment, World, base, effect, is_time, on_devices, reply_to, set_time, watch, world, world_after}
use Rattle.device_model.specs.Kept.{is_for_devices}
use Rattle.model_laws.specs.Steps.{KeepsStore, WritesOnce}
use Rattle.model_laws.proofs.Uids.{rises}
use Rattle.model_laws.proofs.Versions.{versions_count_writes}
use Rattle.settle_alike.specs.Alike.Alike.{AreAlike, contents_of}
use Rattle.settle_alike.proofs.Alike.Dues.{alike_is_settled}
use Rattle.actor_rounds.specs.Answers.Answered.{Lets}
use Rattle.actor_turns.specs.declared.loss.Fate.{Fate}
use Rattle.actor_turns.specs.declared.loss.Fate.TheVariants.{Told, LostBefore, LostAfter}
use Rattle.actor_turns.specs.declared.part.Part.{Part}
use Rattle.actor_turns.specs.Calls.{AreCalls, IsCallBy, MoreCalls, NoCalls, is_held, seat_at}
use Rattle.actor_turns.specs.Fates.{fate_of}
use Rattle.script_runs.specs.declared.settled.SettledAt.{SettledAt}
use Rattle.script_runs.specs.declared.stage.Stage.{Stage}
use Rattle.script_runs.specs.Steps.Settled.{IsNoted, WasSettled, calls_device, is_answered_there}

-- ---- one call that devices do not answer leaves them

pub record KeepsDevices (w : World) (x : Effect) : Type 0 where
  pub keeps : (world_after w x).devices ≡ w.devices

test : {w : World} (b : Bool) (x y : Effect) → KeepsDevices w x → KeepsDevices w y → KeepsDevices w (if b then x else y)
test true x y kx ky = kx
test false x y kx ky = ky

on_store : (w : World) (o : Outcome) → KeepsDevices w (OnStore o)
unfolding world_after
on_store w o = record { keeps = refl }

on_moment : (w : World) (at : List ℕ) → KeepsDevices w (SetsMoment at)
unfolding world_after
on_moment w at = record { keeps = refl }

unasked : (w : World) (kind : SeatKind) (request : Request) → KeepsDevices w (on_devices w kind request None)
unfolding on_devices
unasked w kind request = on_store w _

of_user : (w : World) (request : Request) (a : Option DeviceAnswer) → KeepsDevices w (on_devices w seats.User request a)
unfolding on_devices
of_user w request None = on_store w _
of_user w request (Some a) = on_store w _

is_user : (kind : SeatKind) (request : Request) → is_for_devices request ≡ true → is_answered_there kind request ≡ false → kind ≡ seats.User
is_user seats.User request is not_there = refl
is_user _ request is not_there = absurd (true≢false (sym is ∙ not_there))

asked : (w : World) (kind : SeatKind) (request : Request) (a : Option DeviceAnswer) → is_for_devices request ≡ true
    → is_answered_there kind request ≡ false → KeepsDevices w (on_devices w kind request a)
asked w kind request a is not_there = subst (λ k. KeepsDevices w (on_devices w k request a)) (sym (is_user kind request is not_there)) (of_user w request a)

pub keeps_devices : (setup : Setup) (w : World) (kind : SeatKind) (request : Request) → is_answered_there kind request ≡ false → KeepsDevices w (effect setup w kind request)
unfolding effect set_time watch device_answer
keeps_devices setup w kind (requests.SetTime at) there = test (is_time at) (SetsMoment _) (OnStore _) (on_moment w _) (on_store w _)
keeps_devices setup w kind (requests.Watch k from) there =
    test (nat_lt w.store.version from) (OnStore _) _ (on_store w _)
    (test (nat_lt from (oldest (base setup) w.store.version)) (OnStore _) (OnStore _) (on_store w _) (on_store w _))
keeps_devices setup w kind (requests.Provision name provisioner bytes labels) there = asked w kind (requests.Provision name provisioner bytes labels) _ refl there
keeps_devices setup w kind (requests.Erase id) there = asked w kind (requests.Erase id) _ refl there
keeps_devices setup w kind (requests.TakeNode node) there = asked w kind (requests.TakeNode node) _ refl there
keeps_devices setup w kind (requests.Mounts node epoch) there = asked w kind (requests.Mounts node epoch) _ refl there
keeps_devices setup w kind (requests.Mount node epoch pod claims) there = asked w kind (requests.Mount node epoch pod claims) _ refl there
keeps_devices setup w kind (requests.Unmount node epoch pod) there = asked w kind (requests.Unmount node epoch pod) _ refl there
keeps_devices setup w kind request there = unasked w kind request

-- ---- some calls that devices do not answer, at one version of the store, leave store and devices

record IsSame (old new : World) : Type 0 where
  store : new.store ≡ old.store
  devices : new.devices ≡ old.devices

one_same : (setup : Setup) (w : World) (kind : SeatKind) (request : Request) → is_answered_there kind request ≡ false
    → (world_after w (effect setup w kind request)).store.version ≡ w.store.version → IsSame w (world_after w (effect setup w kind request))
one_same setup w kind request there version = record { store = by (versions_count_writes setup w kind request); devices = (keeps_devices setup w kind request there).keeps }
  where
    by : KeepsStore w (world_after w (effect setup w kind request))
        ⊎ WritesOnce w (world_after w (effect setup w kind request)) (reply_to (effect setup w kind request)) → (world_after w (effect setup w kind request)).store ≡ w.store
    by (inl k) = k.store
    by (inr k) = let more = k.version in absurd (omega (arith, more, version))

all_same : (setup : Setup) (newer past : List Entry) → list_any calls_device newer ≡ false
    → (world setup (newer ++ past)).store.version ≡ (world setup past).store.version → IsSame (world setup past) (world setup (newer ++ past))
all_same setup [] past none version = record { store = refl; devices = refl }
all_same setup (e ∷ newer) past none version =
    let each = or_parts (calls_device e) (list_any calls_device newer) none in
    let low = rises setup newer past in
    let up = rises setup (e ∷ []) (newer ++ past) in
    let before : (world setup (newer ++ past)).store.version ≡ (world setup past).store.version = omega (arith, low, up, version) in
    let after : (world setup (e ∷ (newer ++ past))).store.version ≡ (world setup (newer ++ past)).store.version = omega (arith, before, version) in
    let rest = all_same setup newer past each.1 before in
    let last = one_same setup (world setup (newer ++ past)) e.kind e.request each.0 after in
    record { store = last.store ∙ rest.store; devices = last.devices ∙ rest.devices }

same_settled : (setup : Setup) (old new : World) → IsSame old new → IsSettled setup old → IsSettled setup new
same_settled setup old new same settled =
    let alike : AreAlike old new = record {
      rows = ap (λ s. contents_of s.rows) (sym same.store);
      stored = ap (λ d. d.stored) (sym same.devices);
      mounts = ap (λ d. d.mounts) (sym same.devices);
    } in
    alike_is_settled setup old new alike settled

-- ---- the entries since, in the order in which they were made

drop_past : {X : Type 0} (xs ys : List X) → drop (length xs) (xs ++ ys) ≡ ys
drop_past [] ys = refl
drop_past (x ∷ xs) ys = drop_past xs ys

since_is : (entries newer older : List Entry) → reverse entries ≡ newer ++ older → drop (length older) entries ≡ reverse newer
since_is entries newer older are =
    let turned : entries ≡ reverse older ++ reverse newer = sym (reverse-reverse entries) ∙ ap reverse are ∙ reverse-append newer older in
    ap (drop (length older)) turned ∙ ap (λ n. drop n (reverse older ++ reverse newer)) (sym (length-reverse older)) ∙ drop_past (reverse older) (reverse newer)

none_since : (entries newer older : List Entry) → reverse entries ≡ newer ++ older → list_any calls_device (drop (length older) entries) ≡ false → list_any calls_device newer ≡ false
none_since entries newer older are none = list_any-IsPermutation calls_device newer (reverse newer) (IsPermutation-reverse newer)
    ∙ (ap (list_any calls_device) (sym (since_is entries newer older are)) ∙ none)

-- what is read from a place to the end
pub to_the_end : {X : Type 0} (place : ℕ) (xs : List X) → take (length xs - place) (drop place xs) ≡ drop place xs
to_the_end place xs = let rest = length-drop place xs in take_all (length xs - place) (drop place xs) (omega (arith, rest))

pub stays : (setup : Setup) (past entries : List Entry) (at : SettledAt) → WasSettled setup past at → reverse entries ≡ past
    → (world setup past).store.version ≡ at.version → list_any calls_device (drop at.entries entries) ≡ false → IsSettled setup (world setup past)
stays setup past entries at was is version none =
    let here : reverse entries ≡ was.newer ++ was.older = is ∙ was.are in
    let quiet = none_since entries was.newer was.older here (ap (λ n. list_any calls_device (drop n entries)) was.entries ∙ none) in
    let still : (world setup (was.newer ++ was.older)).store.version ≡ (world setup was.older).store.version = ap (λ h. (world setup h).store.version) (sym was.are) ∙ version ∙ sym was.version in
    subst (λ h. IsSettled setup (world setup h)) (sym was.are)
    (same_settled setup (world setup was.older) (world setup (was.newer ++ was.older)) (all_same setup was.newer was.older quiet still) was.settled)

-- a drain has just ended settled
pub noted_now : (setup : Setup) (past entries : List Entry) (version : ℕ) → reverse entries ≡ past → (world setup past).store.version ≡ version
    → IsSettled setup (world setup past) → WasSettled setup past (record { entries = length entries; version = version })
noted_now setup past entries version is at settled = record {
  newer = [];
  older = past;
  are = refl;
  entries = ap length (sym is) ∙ length-reverse entries;
  version = at;
  settled = settled;
}

-- ---- what was noted stays so as entries come

pub record IsGrown (past new : List Entry) : Type 0 where
  pub newer : List Entry
  pub are : new ≡ newer ++ past

call_grows : (lets : Lets) (held : Bool) (fate : Fate) (seat : ℕ) (kind : SeatKind) (past new : List Entry) → IsCallBy lets held fate seat kind past new → IsGrown past new
call_grows lets true fate seat kind past new call = record { newer = []; are = call.is }
call_grows lets false Told seat kind past new call = record { newer = record { seat = seat; kind = kind; request = call.request; reply = call.reply; told = true } ∷ []; are = call.is }
call_grows lets false LostAfter seat kind past new call = record { newer = record { seat = seat; kind = kind; request = call.request; reply = call.reply; told = false } ∷ []; are = call.is }
call_grows lets false LostBefore seat kind past new call = record { newer = []; are = call }

grown_on : (past middle new : List Entry) → IsGrown past middle → IsGrown middle new → IsGrown past new
grown_on past middle new a b = record { newer = b.newer ++ a.newer; are = b.are ∙ ap (λ h. b.newer ++ h) a.are ∙ sym (append_assoc b.newer a.newer past) }

pub calls_grow : (lets : Lets) (held : List ℕ) (part : Part) (new : List Entry) (n count : ℕ) (past : List Entry) → AreCalls lets held part new n count past → IsGrown past new
calls_grow lets held part new n count past (NoCalls none is) = record { newer = []; are = is }
calls_grow lets held part new n count past (MoreCalls rest middle more call calls) =
    grown_on past middle new (call_grows lets (is_held held n) (fate_of part.losses n) (seat_at part n) part.kind past middle call) (calls_grow lets held part new (n + 1) rest middle calls)

noted_on : (setup : Setup) (past new : List Entry) (noted : Option SettledAt) → IsGrown past new → IsNoted setup past noted → IsNoted setup new noted
noted_on setup past new None grown was = tt
noted_on setup past new (Some at) grown was = record {
  newer = grown.newer ++ was.newer;
  older = was.older;
  are = grown.are ∙ ap (λ h. grown.newer ++ h) was.are ∙ sym (append_assoc grown.newer was.newer was.older);
  entries = was.entries;
  version = was.version;
  settled = was.settled;
}

pub stays_noted : (old new : Stage) → new.world.setup ≡ old.world.setup → new.settled ≡ old.settled → IsGrown old.world.past new.world.past
    → IsNoted old.world.setup old.world.past old.settled → IsNoted new.world.setup new.world.past new.settled
stays_noted old new setup settled grown was =
    subst (IsNoted new.world.setup new.world.past) (sym settled)
    (subst (λ u. IsNoted u new.world.past old.settled) (sym setup) (noted_on old.world.setup old.world.past new.world.past old.settled grown was))
