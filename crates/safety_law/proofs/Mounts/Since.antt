-- What a node's holder was told of pods after its list stood in the store since it took the node.
use Rattle.std.proofs.Common.{sym, refl, subst, inl, inr, ap, ◌∙◌, true≢false, arith}
use Rattle.std.proofs.lemmas.Bool.Decides.{nat_tests}
use Rattle.std.specs.Prelude.{if◌then◌else◌, ℕ, ◌≡◌, ◌⊎◌, ◌<◌, ◌≤◌, ◌==◌, nat_lt, Bool, true, false, ◌&&◌, List, [], ◌∷◌, ◌++◌, Option, Some, None, is_some, filter, take, length, cond, ⊤}
use Rattle.kube_parts.specs.declared.parts.Kind.{Kind}
use Rattle.kube_parts.specs.declared.parts.Kind.TheVariants as kinds
use Rattle.kube_objects.specs.declared.objects.Pod.{Pod as PodData}
use Rattle.kube_objects.specs.declared.objects.Object.{Object}
use Rattle.kube_objects.specs.declared.objects.Object.TheVariants.{Class, Node, Volume, Claim, Pod}
use Rattle.kube_objects.specs.Keys.{AreRows, meta_of, is_of_kind}
use Rattle.call_types.specs.declared.entry.Entry.{Entry}
use Rattle.call_types.specs.declared.setup.Setup.{Setup}
use Rattle.call_types.specs.declared.request.SeatKind.{SeatKind}
use Rattle.call_types.specs.declared.request.SeatKind.TheVariants as seats
use Rattle.call_types.specs.declared.request.Request.{Request}
use Rattle.call_types.specs.declared.request.Request.TheVariants as requests
use Rattle.call_types.specs.declared.reply.Change.{Change}
use Rattle.call_types.specs.declared.reply.Change.TheVariants as changes
use Rattle.call_types.specs.declared.reply.Event.{Event}
use Rattle.call_types.specs.declared.reply.Events.{Events as EventsData}
use Rattle.call_types.specs.declared.reply.Refusal.{Refusal}
use Rattle.call_types.specs.declared.reply.Refusal.TheVariants.{Gone}
use Rattle.call_types.specs.declared.reply.Reply.{Reply}
use Rattle.call_types.specs.declared.reply.Reply.TheVariants.{Listed, Events, Refused}
use Rattle.binder_model.specs.Answers.{Says, reply_of}
use Rattle.binder_model.specs.Told.{SomeOf, first_some, objects_in, objects_of_event, objects_of_events, IsPodWith, TellsObject, own}
use Rattle.binder_model.specs.Watching.{most_events, is_later, events_after, last_version, reached_version, told_events, oldest}
use Rattle.binder_model.specs.AgentLicence.{epoch_in, last_epoch, since_epoch, is_pod_list, ListedPods}
use Rattle.binder_model.specs.Licence.{AreOfKind, Licensed}
use Rattle.binder_model.specs.Reading.{Following, Unlisted, ListedAt, follow_on, following_of, IsFrom}
use Rattle.binder_model.specs.World.{base, World, OnStore, world, effect, reply_to, watch}
use Rattle.binder_model.specs.Run.{Run}
use Rattle.model_laws.proofs.Versions.{versions_count_writes}
use Rattle.model_laws.proofs.Readings.{lists_tell_what_stands}
use Rattle.safety_law.specs.Invariant.Writes.{IsIn}
use Rattle.safety_law.specs.Invariant.Writes.{is_watch}
use Rattle.model_laws.proofs.Lists.{some_take, some_reverse, some_filter}
use Rattle.safety_law.proofs.Invariant.Tells.{tells_now}
use Rattle.model_laws.proofs.Truths.{TellsIt, events_some}
use Rattle.model_laws.proofs.Stood.{version_stood}
use Rattle.safety_law.specs.Invariant.Good.{Good}
use Rattle.safety_law.proofs.Invariant.Known.{invariant_of, entry_tells}
use Rattle.safety_law.proofs.Invariant.Holders.{OwnStep, Own, Others, own_step}
use Rattle.safety_law.specs.Mounts.Mounts.{IsSplit}
use Rattle.std.proofs.lemmas.Bool.{and_parts}
use Rattle.std.proofs.lemmas.Option.{same_Some, none-some}
use Rattle.model_laws.specs.Stood.{Stands, Stood}

-- the entry tells the seat an epoch of the node
abbrev pub takes_node : ℕ → List ℕ → Entry → Bool
takes_node seat node e = (e.seat == seat) && is_some (epoch_in node e)

abbrev pub Unless : Bool → Type 0 → Type 0
Unless true X = ⊥
Unless false X = X

-- the object stood in the store at or after the seat's last TakeNode of the node
abbrev pub WasSince : Setup → ℕ → List ℕ → List Entry → Object → Type 0
WasSince setup seat node [] o = Stands (world setup []) o
WasSince setup seat node (e ∷ past) o = Stands (world setup (e ∷ past)) o ⊎ Unless (takes_node seat node e) (WasSince setup seat node past o)

-- the store's version then
abbrev pub taken_version : Setup → ℕ → List ℕ → List Entry → Option ℕ
taken_version setup seat node [] = None
taken_version setup seat node (e ∷ past) = if takes_node seat node e then Some (world setup (e ∷ past)).store.version else taken_version setup seat node past

pub now_since : (setup : Setup) (seat : ℕ) (node : List ℕ) (past : List Entry) (o : Object) → Stands (world setup past) o → WasSince setup seat node past o
now_since setup seat node [] o is = is
now_since setup seat node (e ∷ past) o is = inl is

-- an entry that does not take the node adds to it
pub on_since : (setup : Setup) (seat : ℕ) (node : List ℕ) (e : Entry) (past : List Entry) (o : Object) → takes_node seat node e ≡ false
    → WasSince setup seat node past o → WasSince setup seat node (e ∷ past) o
on_since setup seat node e past o f h = inr (subst (λ (b : Bool). Unless b (WasSince setup seat node past o)) (sym f) h)

same_taken : (setup : Setup) (seat : ℕ) (node : List ℕ) (e : Entry) (past : List Entry) → takes_node seat node e ≡ false
    → taken_version setup seat node (e ∷ past) ≡ taken_version setup seat node past
same_taken setup seat node e past f = rw f refl

pub taken_low : (setup : Setup) (past : List Entry) → Good setup past → (seat : ℕ) (node : List ℕ) (v : ℕ)
    → taken_version setup seat node past ≡ Some v → v ≤ (world setup past).store.version
taken_low setup [] g seat node v is = absurd (none-some _ is)
taken_low setup (e ∷ past) g seat node v is = by (taken_low setup past g.0 seat node v) (takes_node seat node e) is
  where
    by : (taken_version setup seat node past ≡ Some v → v ≤ (world setup past).store.version) → (b : Bool)
        → (if b then Some (world setup (e ∷ past)).store.version else taken_version setup seat node past) ≡ Some v
        → v ≤ (world setup (e ∷ past)).store.version
    by f true t = let s = same_Some _ v t in omega (arith, s)
    by f false t = let low = f t in let up = g.1.rises in omega (arith, low, up)

-- what was, above that version, was since
pub above_since : (setup : Setup) (past : List Entry) → Good setup past → (seat : ℕ) (node : List ℕ) (v : ℕ)
    → taken_version setup seat node past ≡ Some v → (o : Object) → v < (meta_of o).version → Stood setup past o → WasSince setup seat node past o
above_since setup [] g seat node v is o above was = was
above_since setup (e ∷ past) g seat node v is o above was = by (above_since setup past g.0 seat node v) (takes_node seat node e) is
  where
    by : (taken_version setup seat node past ≡ Some v → (o : Object) → v < (meta_of o).version → Stood setup past o → WasSince setup seat node past o)
        → (b : Bool) → (if b then Some (world setup (e ∷ past)).store.version else taken_version setup seat node past) ≡ Some v
        → Stands (world setup (e ∷ past)) o ⊎ Unless b (WasSince setup seat node past o)
    by f true t =
        let low = version_stood setup (e ∷ past) o was in
        let s = same_Some (world setup (e ∷ past)).store.version v t in
        absurd (omega (arith, low, s, above))
    by f false t = elim was [ inl before ↦ inr (f t o above before) | inr now ↦ inl now ]

-- whoever was told an epoch took the node
pub has_taken : (setup : Setup) (past : List Entry) (seat : ℕ) (node : List ℕ) (epoch : ℕ) → last_epoch node (own seat past) ≡ Some epoch
    → (v : ℕ) × (taken_version setup seat node past ≡ Some v)
has_taken setup [] seat node epoch is = absurd (none-some _ is)
has_taken setup (e ∷ past) seat node epoch is = by (has_taken setup past seat node epoch) (own_step seat e past)
  where
    first : (last_epoch node (own seat past) ≡ Some epoch → (v : ℕ) × (taken_version setup seat node past ≡ Some v)) → e.seat ≡ seat → (x : Option ℕ)
        → epoch_in node e ≡ x → first_some x (last_epoch node (own seat past)) ≡ Some epoch
        → (v : ℕ) × (taken_version setup seat node (e ∷ past) ≡ Some v)
    first f seats (Some k) told t =
        let own_seat : (e.seat == seat) ≡ true = grind (arith, nat_tests) in
        let flag : is_some (epoch_in node e) ≡ true = ap is_some told in
        ((world setup (e ∷ past)).store.version, rw (own_seat, flag) refl)
    first f seats None told t =
        let own_seat : (e.seat == seat) ≡ true = grind (arith, nat_tests) in
        let flag : is_some (epoch_in node e) ≡ false = ap is_some told in
        let r = f t in (r.0, rw (own_seat, flag) r.1)

    by : (last_epoch node (own seat past) ≡ Some epoch → (v : ℕ) × (taken_version setup seat node past ≡ Some v)) → OwnStep seat e past
        → (v : ℕ) × (taken_version setup seat node (e ∷ past) ≡ Some v)
    by f (Own seats same) = first f seats (epoch_in node e) refl (ap (last_epoch node) (sym same) ∙ is)
    by f (Others apart same) = let r = f (ap (last_epoch node) (sym same) ∙ is) in let not_taken : takes_node seat node e ≡ false = rw apart refl in
        (r.0, same_taken setup seat node e past not_taken ∙ r.1)

-- events

-- an event's version is its object's
pub logged_at : (setup : Setup) (past : List Entry) (x : Event) → SomeOf (λ y. y ≡ x) (world setup past).log → x.version ≡ (meta_of x.object).version
logged_at setup [] x h = absurd h
logged_at setup (e ∷ past) x h = elim (versions_count_writes setup (world setup past) e.kind e.request) [
  | inl kept ↦ logged_at setup past x (subst (λ (l : List Event). SomeOf (λ y. y ≡ x) l) kept.log h)
  | inr wrote ↦ elim (let g : SomeOf (λ y. y ≡ x) (wrote.event ∷ (world setup past).log) = subst (λ (l : List Event). SomeOf (λ y. y ≡ x) l) wrote.log h in g) [
    | inl is ↦ subst (λ (y : Event). y.version ≡ (meta_of y.object).version) is wrote.at
    | inr more ↦ logged_at setup past x more
  ]
]

filter_passes : (p : Event → Bool) (x : Event) (xs : List Event) → SomeOf (λ y. y ≡ x) (filter p xs) → p x ≡ true
filter_passes p x [] h = absurd h
filter_passes p x (y ∷ ys) h = by (p y) refl h (filter_passes p x ys)
  where
    by : (b : Bool) → p y ≡ b → SomeOf (λ z. z ≡ x) (cond b (y ∷ filter p ys) (filter p ys)) → (SomeOf (λ z. z ≡ x) (filter p ys) → p x ≡ true) → p x ≡ true
    by true e h f = elim h [ inl is ↦ subst (λ (z : Event). p z ≡ true) is e | inr more ↦ f more ]
    by false e h f = f h

-- an event of a watch is in the log, and later, and of the kind
pub record IsWatched (k : Kind) (from : ℕ) (log : List Event) (x : Event) : Type 0 where
  pub logged : SomeOf (λ y. y ≡ x) log
  pub later : from < x.version
  pub kind : is_of_kind k x.object ≡ true

lt_is : (a b : ℕ) → nat_lt a b ≡ true → a < b
lt_is a b h = grind (arith, nat_tests)

pub watched_event : (k : Kind) (from : ℕ) (log : List Event) (x : Event) → SomeOf (λ y. y ≡ x) (take most_events (events_after k from log)) → IsWatched k from log x
watched_event k from log x h =
    let f = some_reverse (λ y. y ≡ x) (filter (is_later k from) log) (some_take (λ y. y ≡ x) most_events (events_after k from log) h) in
    let p = and_parts (nat_lt from x.version) (is_of_kind k x.object) (filter_passes (is_later k from) x log f) in
    record { logged = some_filter (λ y. y ≡ x) (is_later k from) log f; later = lt_is from x.version p.0; kind = p.1 }

abbrev AllAbove : ℕ → List Event → Type 0
AllAbove v [] = ⊤
AllAbove v (x ∷ xs) = (v ≤ x.version) × AllAbove v xs

all_above : (v : ℕ) (xs : List Event) → ((x : Event) → SomeOf (λ y. y ≡ x) xs → v ≤ x.version) → AllAbove v xs
all_above v [] f = tt
all_above v (x ∷ xs) f = (f x (inl refl), all_above v xs (λ y h. f y (inr h)))

last_above : (v none : ℕ) (xs : List Event) → v ≤ none → AllAbove v xs → v ≤ last_version none xs
last_above v none [] low a = low
last_above v none (x ∷ xs) low a = last_above v x.version xs a.0 a.1

-- a watch from a version reaches to it at least
reached_above : (v version : ℕ) (xs : List Event) → v ≤ version → AllAbove v xs → v ≤ reached_version version xs
reached_above v version xs low a = by (length xs == most_events)
  where
    by : (b : Bool) → v ≤ (if b then last_version version xs else version)
    by true = last_above v version xs low a
    by false = low

-- what a watch answers, if it tells events

abbrev is_events : Reply → Bool
is_events (Events x) = true
is_events r = false

abbrev events_of : EventsData → Reply → EventsData
events_of none (Events x) = x
events_of none r = none

events_or : (a b : Bool) (q r : Refusal) (x es : EventsData)
    → reply_to (if a then OnStore (Says (Refused q)) else if b then OnStore (Says (Refused r)) else OnStore (Says (Events x))) ≡ Events es → es ≡ x
unfolding reply_to reply_of
events_or true b q r x es e = absurd (true≢false (sym (ap is_events e)))
events_or false true q r x es e = absurd (true≢false (sym (ap is_events e)))
events_or false false q r x es e = sym (ap (events_of es) e)

pub watch_events : (setup : Setup) (w : World) (kind : SeatKind) (k : Kind) (from : ℕ) (es : EventsData)
    → reply_to (effect setup w kind (requests.Watch k from)) ≡ Events es → es ≡ told_events k from w.store.version w.log
unfolding effect watch
watch_events setup w kind k from es e = events_or (nat_lt w.store.version from) (nat_lt from (oldest (base setup) w.store.version)) _ _ _ es e

-- where the seat stands with pods

abbrev pub ReachedAbove : ℕ → Option ℕ → Type 0
ReachedAbove v None = ⊤
ReachedAbove v (Some upto) = v ≤ upto

abbrev pub AtLeast : ℕ → Following → Type 0
AtLeast v Unlisted = ⊤
AtLeast v (ListedAt version upto) = (v ≤ version) × ReachedAbove v upto

-- a watch goes on at or above it
from_above : (v from : ℕ) (x : Following) → AtLeast v x → IsFrom from x → v ≤ from
from_above v from Unlisted a f = absurd f
from_above v from (ListedAt version upto) a f = elim f [ inl is ↦ (let low = a.0 in omega (arith, low, is)) | inr is ↦ subst (ReachedAbove v) is a.1 ]

-- what an entry does to where the seat stands with pods
record Facts (v : ℕ) (request : Request) (reply : Reply) (before : Following) : Type 0 where
  list : (k : Kind) (items : List Object) (version : ℕ) → request ≡ requests.List k None → reply ≡ Listed items version → v ≤ version
  events : (from : ℕ) (es : EventsData) → request ≡ requests.Watch kinds.Pod from → reply ≡ Events es → AtLeast v before → v ≤ es.upto

reach : (v : ℕ) (es : EventsData) (before : Following) → v ≤ es.upto → AtLeast v before → AtLeast v (follow_on (requests.Watch kinds.Pod 0) (Events es) kinds.Pod before)
reach v es Unlisted up a = tt
reach v es (ListedAt version upto) up a = (a.0, up)

step : (v : ℕ) (request : Request) (reply : Reply) (before : Following) → Facts v request reply before
    → (is_pod_list request reply ≡ true) ⊎ AtLeast v before → AtLeast v (follow_on request reply kinds.Pod before)
step v (requests.List kinds.Pod None) (Listed items version) before f h = (f.list kinds.Pod items version refl refl, tt)
step v (requests.List kinds.StorageClass None) (Listed items version) before f h = elim h [ inl e ↦ absurd (true≢false (sym e)) | inr a ↦ a ]
step v (requests.List kinds.Node None) (Listed items version) before f h = elim h [ inl e ↦ absurd (true≢false (sym e)) | inr a ↦ a ]
step v (requests.List kinds.PersistentVolume None) (Listed items version) before f h = elim h [ inl e ↦ absurd (true≢false (sym e)) | inr a ↦ a ]
step v (requests.List kinds.PersistentVolumeClaim None) (Listed items version) before f h = elim h [ inl e ↦ absurd (true≢false (sym e)) | inr a ↦ a ]
step v (requests.Watch kinds.Pod from) (Refused (Gone old)) before f h = tt
step v (requests.Watch kinds.StorageClass from) (Refused (Gone old)) before f h = elim h [ inl e ↦ absurd (true≢false (sym e)) | inr a ↦ a ]
step v (requests.Watch kinds.Node from) (Refused (Gone old)) before f h = elim h [ inl e ↦ absurd (true≢false (sym e)) | inr a ↦ a ]
step v (requests.Watch kinds.PersistentVolume from) (Refused (Gone old)) before f h = elim h [ inl e ↦ absurd (true≢false (sym e)) | inr a ↦ a ]
step v (requests.Watch kinds.PersistentVolumeClaim from) (Refused (Gone old)) before f h = elim h [ inl e ↦ absurd (true≢false (sym e)) | inr a ↦ a ]
step v (requests.Watch kinds.Pod from) (Events es) before f h = elim h [ inl e ↦ absurd (true≢false (sym e)) | inr a ↦ reach v es before (f.events from es refl refl a) a ]
step v (requests.Watch kinds.StorageClass from) (Events es) before f h = elim h [ inl e ↦ absurd (true≢false (sym e)) | inr a ↦ a ]
step v (requests.Watch kinds.Node from) (Events es) before f h = elim h [ inl e ↦ absurd (true≢false (sym e)) | inr a ↦ a ]
step v (requests.Watch kinds.PersistentVolume from) (Events es) before f h = elim h [ inl e ↦ absurd (true≢false (sym e)) | inr a ↦ a ]
step v (requests.Watch kinds.PersistentVolumeClaim from) (Events es) before f h = elim h [ inl e ↦ absurd (true≢false (sym e)) | inr a ↦ a ]
step v request reply before f h = elim h [ inl e ↦ absurd (true≢false (sym e)) | inr a ↦ a ]

abbrev version_of : ℕ → Reply → ℕ
version_of none (Listed items version) = version
version_of none r = none

-- the version that a list tells is the store's
list_version : (setup : Setup) (w : World) (kind : SeatKind) (k : Kind) (rows : AreRows w.store.rows) (items : List Object) (version : ℕ)
    → reply_to (effect setup w kind (requests.List k None)) ≡ Listed items version → version ≡ w.store.version
list_version setup w kind k rows items version e =
    let l = lists_tell_what_stands setup w kind k None rows in
    let same : l.1.0 ≡ version = ap (version_of version) (sym l.1.1.0 ∙ e) in
    sym same ∙ l.1.1.1.at

agent_watch : (mine : List Entry) (kind : SeatKind) (k : Kind) (from : ℕ) → kind ≡ seats.Agent → Licensed kind mine (requests.Watch k from)
    → IsFrom from (following_of mine k)
agent_watch mine kind k from e l = let a : Licensed seats.Agent mine (requests.Watch k from) = subst (λ (x : SeatKind). Licensed x mine (requests.Watch k from)) e l in a.1.1

-- the facts of an own entry of an agent
facts : (setup : Setup) (e : Entry) (past : List Entry) → Good setup (e ∷ past) → Run setup (e ∷ past) → (v : ℕ)
    → v ≤ (world setup past).store.version → e.kind ≡ seats.Agent → Facts v e.request e.reply (following_of (own e.seat past) kinds.Pod)
facts setup e past g run v low agent = record {
  list = λ k items version is r.
      let at = list_version setup (world setup past) e.kind k (invariant_of setup past g.0).order items version
      (ap (λ x. reply_to (effect setup (world setup past) e.kind x)) (sym is) ∙ sym g.2 ∙ r) in
      omega (arith, low, at);
  events = λ from es is r a.
      let f = from_above v from _ a (agent_watch (own e.seat past) e.kind kinds.Pod from agent (subst (Licensed e.kind (own e.seat past)) is run.2)) in
      let told = watch_events setup (world setup past) e.kind kinds.Pod from es (ap (λ x. reply_to (effect setup (world setup past) e.kind x)) (sym is) ∙ sym g.2 ∙ r) in
      let xs = take most_events (events_after kinds.Pod from (world setup past).log) in
      let above : AllAbove v xs = all_above v xs (λ x h. let w = watched_event kinds.Pod from (world setup past).log x h in let later = w.later in omega (arith, f, later)) in
      subst (λ (x : EventsData). v ≤ x.upto) (sym told) (reached_above v (world setup past).store.version xs low above);
}

-- the list is there, or was before
listed_or : (v : ℕ) (e : Entry) (mine : List Entry) (since : List Entry) → ListedPods (e ∷ since)
    → (ListedPods since → AtLeast v (following_of mine kinds.Pod)) → (b : Bool) → e.told ≡ b → Facts v e.request e.reply (following_of mine kinds.Pod)
    → AtLeast v (if b then follow_on e.request e.reply kinds.Pod (following_of mine kinds.Pod) else following_of mine kinds.Pod)
listed_or v e mine since listed f true t facts = step v e.request e.reply (following_of mine kinds.Pod) facts (elim listed [ inl now ↦ inl now.1 | inr more ↦ inr (f more) ])
listed_or v e mine since listed f false t facts = elim listed [ inl now ↦ absurd (true≢false (sym now.0 ∙ t)) | inr more ↦ f more ]

pub followed_since : (setup : Setup) (past : List Entry) → Good setup past → Run setup past → (seat : ℕ) (node : List ℕ) (v : ℕ)
    → taken_version setup seat node past ≡ Some v → AreOfKind seats.Agent (own seat past) → ListedPods (since_epoch node (own seat past))
    → AtLeast v (following_of (own seat past) kinds.Pod)
followed_since setup [] g run seat node v is agents listed = absurd listed
followed_since setup (e ∷ past) g run seat node v is agents listed = by (followed_since setup past g.0 run.0 seat node v) (own_step seat e past)
  where
    mine : (taken_version setup seat node past ≡ Some v → AreOfKind seats.Agent (own seat past) → ListedPods (since_epoch node (own seat past)) → AtLeast v (following_of (own seat past) kinds.Pod))
        → e.seat ≡ seat → (b : Bool) → is_some (epoch_in node e) ≡ b → AreOfKind seats.Agent (e ∷ own seat past)
        → ListedPods (if b then [] else e ∷ since_epoch node (own seat past)) → AtLeast v (following_of (e ∷ own seat past) kinds.Pod)
    mine f at true flag a l = absurd l
    mine f at false flag a l =
        let own_seat : (e.seat == seat) ≡ true = grind (arith, nat_tests) in
        let not_taken : takes_node seat node e ≡ false = rw (own_seat, flag) refl in
        let t = sym (same_taken setup seat node e past not_taken) ∙ is in
        let known = subst (λ (s : ℕ). Facts v e.request e.reply (following_of (own s past) kinds.Pod)) at (facts setup e past g run v (taken_low setup past g.0 seat node v t) a.0) in
        listed_or v e (own seat past) (since_epoch node (own seat past)) l (λ more. f t a.1 more) e.told refl known

    by : (taken_version setup seat node past ≡ Some v → AreOfKind seats.Agent (own seat past) → ListedPods (since_epoch node (own seat past)) → AtLeast v (following_of (own seat past) kinds.Pod))
        → OwnStep seat e past → AtLeast v (following_of (own seat (e ∷ past)) kinds.Pod)
    by f (Own at same) = subst (λ (m : List Entry). AtLeast v (following_of m kinds.Pod)) (sym same) (mine f at (is_some (epoch_in node e)) refl
        (subst (AreOfKind seats.Agent) same agents) (subst (λ (m : List Entry). ListedPods (since_epoch node m)) same listed))
    by f (Others apart same) =
        let not_taken : takes_node seat node e ≡ false = rw apart refl in
        subst (λ (m : List Entry). AtLeast v (following_of m kinds.Pod)) (sym same)
        (f (sym (same_taken setup seat node e past not_taken) ∙ is) (subst (AreOfKind seats.Agent) same agents) (subst (λ (m : List Entry). ListedPods (since_epoch node m)) same listed))

abbrev pub head_of : Entry → List Entry → Entry
head_of none [] = none
head_of none (e ∷ es) = e

abbrev pub tail_of : List Entry → List Entry
tail_of [] = []
tail_of (e ∷ es) = es

abbrev is_list : List Entry → Bool
is_list [] = false
is_list (e ∷ es) = true

pub no_split : (recent : List Entry) (teller : Entry) (earlier : List Entry) → [] ≡ recent ++ teller ∷ earlier → ⊥
no_split [] teller earlier eq = true≢false (sym (ap is_list eq))
no_split (x ∷ recent) teller earlier eq = true≢false (sym (ap is_list eq))

pod_kind : (k : Kind) (p : PodData) → is_of_kind k (Pod p) ≡ true → k ≡ kinds.Pod
pod_kind kinds.Pod p e = refl
pod_kind kinds.StorageClass p e = absurd (true≢false (sym e))
pod_kind kinds.Node p e = absurd (true≢false (sym e))
pod_kind kinds.PersistentVolume p e = absurd (true≢false (sym e))
pod_kind kinds.PersistentVolumeClaim p e = absurd (true≢false (sym e))

-- the kind and the version that the watch was asked for
abbrev IsWatchOf : Request → Kind → ℕ → Type 0
IsWatchOf request k from = request ≡ requests.Watch k from

watch_of : (request : Request) → is_watch request ≡ true → (k : Kind) × ((from : ℕ) × IsWatchOf request k from)
watch_of (requests.Watch k from) e = (k, (from, refl))
watch_of request e = absurd (true≢false (sym e))

-- an object that a watch tells is above its version, and of its kind
record IsAbove (k : Kind) (from : ℕ) (o : Object) : Type 0 where
  above : from < (meta_of o).version
  kind : is_of_kind k o ≡ true

is_told_object : (c : Change) (x o : Object) → IsIn o (objects_of_event c x) → x ≡ o
is_told_object changes.Added x o h = elim h [ inl e ↦ e | inr none ↦ absurd none ]
is_told_object changes.Modified x o h = elim h [ inl e ↦ e | inr none ↦ absurd none ]
is_told_object changes.Deleted x o h = absurd h

some_event : (o : Object) (es : List Event) → SomeOf (TellsIt o) es → (x : Event) × SomeOf (λ y. y ≡ x) es × (x.object ≡ o)
some_event o [] h = absurd h
some_event o (x ∷ es) h = elim h [
  | inl is ↦ (x, inl refl, is_told_object x.change x.object o is)
  | inr more ↦ let r = some_event o es more in (r.0, inr r.1, r.2)
]

-- what a reply to a watch tells
watch_above : (setup : Setup) (past : List Entry) (kind : SeatKind) (k : Kind) (from : ℕ) (o : Object) (reply : Reply)
    → reply ≡ reply_to (effect setup (world setup past) kind (requests.Watch k from)) → IsIn o (objects_in reply) → is_events reply ≡ true
    → IsAbove k from o
watch_above setup past kind k from o (Events es) r h e =
    let told = watch_events setup (world setup past) kind k from es (sym r) in
    let h2 = subst (λ (x : EventsData). IsIn o (objects_of_events x.events)) told h in
    let x = some_event o (take most_events (events_after k from (world setup past).log)) (events_some o _ h2) in
    let w = watched_event k from (world setup past).log x.0 x.1 in
    let at = logged_at setup past x.0 w.logged in
    record { above = subst (λ (z : Object). from < (meta_of z).version) x.2 (let l = w.later in omega (arith, l, at)); kind = subst (λ (z : Object). is_of_kind k z ≡ true) x.2 w.kind }
watch_above setup past kind k from o reply r h e = absurd (true≢false (sym e))

-- a reply to a watch that tells an object tells events
told_or : (a b : Bool) (q r : Refusal) (x : EventsData) (o : Object)
    → IsIn o (objects_in (reply_to (if a then OnStore (Says (Refused q)) else if b then OnStore (Says (Refused r)) else OnStore (Says (Events x)))))
    → is_events (reply_to (if a then OnStore (Says (Refused q)) else if b then OnStore (Says (Refused r)) else OnStore (Says (Events x)))) ≡ true
unfolding reply_to reply_of
told_or true b q r x o h = absurd h
told_or false true q r x o h = absurd h
told_or false false q r x o h = refl

watch_tells_events : (setup : Setup) (w : World) (kind : SeatKind) (k : Kind) (from : ℕ) (o : Object)
    → IsIn o (objects_in (reply_to (effect setup w kind (requests.Watch k from))))
    → is_events (reply_to (effect setup w kind (requests.Watch k from))) ≡ true
unfolding effect watch
watch_tells_events setup w kind k from o h = told_or (nat_lt w.store.version from) (nat_lt from (oldest (base setup) w.store.version)) _ _ _ o h

some_pod : (p : PodData) (os : List Object) → SomeOf (IsPodWith (λ x. x ≡ p)) os → IsIn (Pod p) os
some_pod p [] h = absurd h
some_pod p (Pod x ∷ os) h = elim h [ inl is ↦ inl (ap (λ (y : PodData). Pod y) is) | inr more ↦ inr (some_pod p os more) ]
some_pod p (Class x ∷ os) h = elim h [ inl none ↦ absurd none | inr more ↦ inr (some_pod p os more) ]
some_pod p (Node x ∷ os) h = elim h [ inl none ↦ absurd none | inr more ↦ inr (some_pod p os more) ]
some_pod p (Volume x ∷ os) h = elim h [ inl none ↦ absurd none | inr more ↦ inr (some_pod p os more) ]
some_pod p (Claim x ∷ os) h = elim h [ inl none ↦ absurd none | inr more ↦ inr (some_pod p os more) ]

-- no list of pods is a watch
list_no_watch : (request : Request) (reply : Reply) → is_watch request ≡ true → is_pod_list request reply ≡ true → ⊥
list_no_watch (requests.Watch k from) reply e l = true≢false (sym l)
list_no_watch request reply e l = absurd (true≢false (sym e))

-- what the newest own entry tells of a pod
newest_since : (setup : Setup) (e : Entry) (past : List Entry) → Good setup (e ∷ past) → Run setup (e ∷ past) → (node : List ℕ) (v : ℕ)
    → takes_node e.seat node e ≡ false → taken_version setup e.seat node past ≡ Some v → e.kind ≡ seats.Agent
    → AreOfKind seats.Agent (own e.seat past)
    → ListedPods (e ∷ since_epoch node (own e.seat past)) → (p : PodData) → TellsObject (IsPodWith (λ x. x ≡ p)) e → WasSince setup e.seat node (e ∷ past) (Pod p)
newest_since setup e past g run node v not_taken is agent agents listed p told = by (is_watch e.request) refl
  where
    here : IsIn (Pod p) (objects_in e.reply)
    here = some_pod p (objects_in e.reply) told.1

    watched : (k : Kind) (from : ℕ) → is_watch e.request ≡ true → e.request ≡ requests.Watch k from → WasSince setup e.seat node (e ∷ past) (Pod p)
    watched k from w q =
        let reply : e.reply ≡ reply_to (effect setup (world setup past) e.kind (requests.Watch k from)) = g.2 ∙ ap (λ x. reply_to (effect setup (world setup past) e.kind x)) q in
        let h : IsIn (Pod p) (objects_in (reply_to (effect setup (world setup past) e.kind (requests.Watch k from)))) = subst (λ (x : Reply). IsIn (Pod p) (objects_in x)) reply here in
        let a = watch_above setup past e.kind k from (Pod p) e.reply reply here (ap is_events reply ∙ watch_tells_events setup (world setup past) e.kind k from (Pod p) h) in
        let kind : k ≡ kinds.Pod = pod_kind k p a.kind in
        let before : ListedPods (since_epoch node (own e.seat past)) = elim listed [ inl now ↦ absurd (list_no_watch e.request e.reply w now.1) | inr more ↦ more ] in
        let least = followed_since setup past g.0 run.0 e.seat node v is agents before in
        let q2 : e.request ≡ requests.Watch kinds.Pod from = q ∙ ap (λ (x : Kind). requests.Watch x from) kind in
        let f = from_above v from _ least (agent_watch (own e.seat past) e.kind kinds.Pod from agent (subst (Licensed e.kind (own e.seat past)) q2 run.2)) in
        let above = a.above in
        above_since setup (e ∷ past) g e.seat node v (same_taken setup e.seat node e past not_taken ∙ is) (Pod p) (omega (arith, f, above)) (entry_tells setup e past g (Pod p) here)

    by : (b : Bool) → is_watch e.request ≡ b → WasSince setup e.seat node (e ∷ past) (Pod p)
    by true w = let q = watch_of e.request w in watched q.0 q.1.0 w q.1.1
    by false w = elim ((tells_now setup (world setup past) e.kind e.request (invariant_of setup past g.0).order w).now (Pod p) (subst (λ (x : Reply). IsIn (Pod p) (objects_in x)) g.2 here)) [
      | inl before ↦ on_since setup e.seat node e past (Pod p) not_taken (now_since setup e.seat node past (Pod p) before)
      | inr after ↦ inl after
    ]

-- the pod that was told by a list after the node was taken, or after it, stood since then
pub told_since : (setup : Setup) (past : List Entry) → Good setup past → Run setup past → (seat : ℕ) (node : List ℕ) (v : ℕ)
    → taken_version setup seat node past ≡ Some v → AreOfKind seats.Agent (own seat past)
    → (recent : List Entry) (teller : Entry) (earlier : List Entry) → IsSplit node (own seat past) recent teller earlier → (p : PodData)
    → TellsObject (IsPodWith (λ x. x ≡ p)) teller → WasSince setup seat node past (Pod p)
told_since setup [] g run seat node v is agents recent teller earlier split p told = absurd (none-some _ is)
told_since setup (e ∷ past) g run seat node v is agents recent teller earlier split p told = by (told_since setup past g.0 run.0 seat node v) (own_step seat e past)
  where
    mine : ((t : taken_version setup seat node past ≡ Some v) → AreOfKind seats.Agent (own seat past)
        → (recent : List Entry) (teller : Entry) (earlier : List Entry) → IsSplit node (own seat past) recent teller earlier → (p : PodData)
        → TellsObject (IsPodWith (λ x. x ≡ p)) teller → WasSince setup seat node past (Pod p))
        → e.seat ≡ seat → is_some (epoch_in node e) ≡ false → AreOfKind seats.Agent (e ∷ own seat past) → (recent : List Entry)
        → e ∷ since_epoch node (own seat past) ≡ recent ++ teller ∷ earlier → WasSince setup seat node (e ∷ past) (Pod p)
    mine f at flag a [] eq =
        let own_seat : (e.seat == seat) ≡ true = grind (arith, nat_tests) in
        let not_taken : takes_node seat node e ≡ false = rw (own_seat, flag) refl in
        let t : taken_version setup seat node past ≡ Some v = sym (same_taken setup seat node e past not_taken) ∙ is in
        let is_e : teller ≡ e = ap (head_of e) (sym eq) in
        let rest : earlier ≡ since_epoch node (own seat past) = ap tail_of (sym eq) in
        let l1 : ListedPods (e ∷ earlier) = subst (λ (x : Entry). ListedPods (x ∷ earlier)) is_e split.listed in
        let l2 : ListedPods (e ∷ since_epoch node (own seat past)) = subst (λ (x : List Entry). ListedPods (e ∷ x)) rest l1 in
        let told_e : TellsObject (IsPodWith (λ x. x ≡ p)) e = subst (λ (x : Entry). TellsObject (IsPodWith (λ y. y ≡ p)) x) is_e told in
        subst (λ (s : ℕ). takes_node s node e ≡ false → taken_version setup s node past ≡ Some v → AreOfKind seats.Agent (own s past)
        → ListedPods (e ∷ since_epoch node (own s past)) → WasSince setup s node (e ∷ past) (Pod p)) at
        (λ nt tv ag ls. newest_since setup e past g run node v nt tv a.0 ag ls p told_e) not_taken t a.1 l2
    mine f at flag a (x ∷ recent) eq =
        let own_seat : (e.seat == seat) ≡ true = grind (arith, nat_tests) in
        let not_taken : takes_node seat node e ≡ false = rw (own_seat, flag) refl in
        let t : taken_version setup seat node past ≡ Some v = sym (same_taken setup seat node e past not_taken) ∙ is in
        on_since setup seat node e past (Pod p) not_taken (f t a.1 recent teller earlier (record { since = ap tail_of eq; listed = split.listed }) p told)

    cases : ((t : taken_version setup seat node past ≡ Some v) → AreOfKind seats.Agent (own seat past)
        → (recent : List Entry) (teller : Entry) (earlier : List Entry) → IsSplit node (own seat past) recent teller earlier → (p : PodData)
        → TellsObject (IsPodWith (λ x. x ≡ p)) teller → WasSince setup seat node past (Pod p))
        → e.seat ≡ seat → (b : Bool) → is_some (epoch_in node e) ≡ b → AreOfKind seats.Agent (e ∷ own seat past)
        → (if b then [] else e ∷ since_epoch node (own seat past)) ≡ recent ++ teller ∷ earlier → WasSince setup seat node (e ∷ past) (Pod p)
    cases f at true flag a eq = absurd (no_split recent teller earlier eq)
    cases f at false flag a eq = mine f at flag a recent eq

    by : ((t : taken_version setup seat node past ≡ Some v) → AreOfKind seats.Agent (own seat past)
        → (recent : List Entry) (teller : Entry) (earlier : List Entry) → IsSplit node (own seat past) recent teller earlier → (p : PodData)
        → TellsObject (IsPodWith (λ x. x ≡ p)) teller → WasSince setup seat node past (Pod p))
        → OwnStep seat e past → WasSince setup seat node (e ∷ past) (Pod p)
    by f (Own at same) = cases f at (is_some (epoch_in node e)) refl (subst (AreOfKind seats.Agent) same agents) (ap (since_epoch node) (sym same) ∙ split.since)
    by f (Others apart same) =
        let not_taken : takes_node seat node e ≡ false = rw apart refl in
        let t : taken_version setup seat node past ≡ Some v = sym (same_taken setup seat node e past not_taken) ∙ is in
        on_since setup seat node e past (Pod p) not_taken
        (f t (subst (AreOfKind seats.Agent) same agents) recent teller earlier (record { since = ap (since_epoch node) (sym same) ∙ split.since; listed = split.listed }) p told)
