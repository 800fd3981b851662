-- What an entry of a history tells of a key is at the version of the object that is told.
use Rattle.std.proofs.Common.{◌≡◌, ◌∙◌, ℕ, ◌≤◌, List, [], ◌∷◌, Bool, true, false, Option, Some, None, inl, inr, refl, sym, subst, ap, arith, if◌then◌else◌}
use Rattle.std.specs.Prelude.{◌==◌, nat_lt, ⊤}
use Rattle.std.specs.List.{list_any}
use Rattle.std.proofs.lemmas.Bool.Decides.{nat_tests}
use Rattle.kube_objects.specs.declared.key.Key.{Key}
use Rattle.kube_parts.specs.declared.parts.Kind.{Kind}
use Rattle.kube_objects.specs.declared.objects.Pod.{Pod as PodData}
use Rattle.kube_objects.specs.declared.objects.Object.{Object}
use Rattle.kube_objects.specs.declared.objects.Object.TheVariants.{Class, Node, Volume, Claim, Pod}
use Rattle.kube_objects.specs.Keys.{key_of, meta_of, row_at, same_key}
use Rattle.kube_objects.proofs.SameKeys.{same_key_itself}
use Rattle.call_types.specs.declared.entry.Entry.{Entry}
use Rattle.call_types.specs.declared.setup.Setup.{Setup}
use Rattle.call_types.specs.declared.request.Request.{Request}
use Rattle.call_types.specs.declared.reply.Change.{Change}
use Rattle.call_types.specs.declared.reply.Change.TheVariants as changes
use Rattle.call_types.specs.declared.reply.Event.{Event}
use Rattle.call_types.specs.declared.reply.Reply.{Reply}
use Rattle.call_types.specs.declared.reply.Reply.TheVariants as replies
use Rattle.binder_model.specs.Answers.{Removes, Says, Stores, reply_of}
use Rattle.binder_model.specs.Told.{
  IsPodWith,
  SomeOf,
  Telling,
  TellsObject,
  later,
  listing,
  objects_in,
  objects_of_event,
  objects_of_events,
  of_event,
  own,
  presence,
  told_by_events,
  told_of,
  tells_of,
  newest,
}
use Rattle.binder_model.specs.Watching.{told_events}
use Rattle.binder_model.specs.World.{Effect, IsHistory, OnDevices, OnStore, SetsMoment, effect, reply_to, world}
use Rattle.model_laws.proofs.Lists.{IsIn, none_some, one, some_or}
use Rattle.model_laws.proofs.Said.{EffectSays, IsOfDevices, Sayings, effect_said}
use Rattle.safety_law.proofs.Mounts.Since.{logged_at, watched_event}
use Rattle.safety_law.specs.Pods.Tellings.{is_pod, tells_pod}

-- an entry that tells such a pod tells a pod

some_pod : (P : PodData → Type 0) (os : List Object) → SomeOf (IsPodWith P) os → list_any is_pod os ≡ true
some_pod P [] h = absurd h
some_pod P (Pod p ∷ os) h = refl
some_pod P (Class x ∷ os) (inl h) = absurd h
some_pod P (Node x ∷ os) (inl h) = absurd h
some_pod P (Volume x ∷ os) (inl h) = absurd h
some_pod P (Claim x ∷ os) (inl h) = absurd h
some_pod P (Class x ∷ os) (inr h) = some_pod P os h
some_pod P (Node x ∷ os) (inr h) = some_pod P os h
some_pod P (Volume x ∷ os) (inr h) = some_pod P os h
some_pod P (Claim x ∷ os) (inr h) = some_pod P os h

pub telling : (P : PodData → Type 0) (e : Entry) → TellsObject (IsPodWith P) e → tells_pod e ≡ true
telling P e t =
    let told : e.told ≡ true = t.0 in
    let pods : list_any is_pod (objects_in e.reply) ≡ true = some_pod P (objects_in e.reply) t.1 in
    rw (told, pods) refl

-- the events of an answer are at the versions of their objects

abbrev pub AreDated : List Event → Type 0
AreDated es = (x : Event) → IsIn x es → x.version ≡ (meta_of x.object).version

abbrev pub IsDatedReply : Reply → Type 0
IsDatedReply (replies.Events events) = AreDated events.events
IsDatedReply reply = ⊤

of_devices : (reply : Reply) → IsOfDevices reply → IsDatedReply reply
of_devices (replies.Events events) is = absurd is
of_devices reply is = tt

dated_effect : (x : Effect) → EffectSays IsDatedReply x → IsDatedReply (reply_to x)
unfolding reply_to reply_of
dated_effect (OnStore (Says reply)) s = s
dated_effect (OnStore (Stores change o)) s = tt
dated_effect (OnStore (Removes o)) s = tt
dated_effect (OnDevices a) s = s.1
dated_effect (SetsMoment at) s = tt

pub dated : (setup : Setup) (e : Entry) (past : List Entry) → e.reply ≡ reply_to (effect setup (world setup past) e.kind e.request) → IsDatedReply e.reply
dated setup e past answered = subst IsDatedReply (sym answered) (dated_effect _ (effect_said setup (world setup past) e.kind e.request says).said)
  where
    events : (k : Kind) (from : ℕ) → AreDated (told_events k from (world setup past).store.version (world setup past).log).events
    events k from x h = logged_at setup past x (watched_event k from (world setup past).log x h).logged

    says : Sayings (world setup past) e.request IsDatedReply
    says = record {
      refused = λ r. tt;
      again = λ o second. tt;
      found = λ key o is. tt;
      listed = λ k namespace. tt;
      watched = events;
      timed = tt;
      device = of_devices;
    }

-- what is told of a key is at the version of its object

abbrev pub IsDated : Option Telling → Type 0
IsDated None = ⊤
IsDated (Some t) = (o : Object) → t.object ≡ Some o → t.version ≡ (meta_of o).version

later_dated : (a b : Option Telling) → IsDated a → IsDated b → IsDated (later a b)
later_dated None b da db = db
later_dated (Some a) None da db = da
later_dated (Some a) (Some b) da db = by (nat_lt a.version b.version)
  where
    by : (t : Bool) → IsDated (if t then Some b else Some a)
    by true = db
    by false = da

dated_if : (b : Bool) (t : Telling) → IsDated (Some t) → IsDated (if b then Some t else None)
dated_if true t d = d
dated_if false t d = tt

dated_presence : (p : Object) → IsDated (Some (presence p))
dated_presence p o is = ap (λ x. (meta_of x).version) (one p o is)

dated_absence : (version : ℕ) → IsDated (Some (record { version = version; object = None }))
dated_absence version o is = none_some is

dated_event : (c : Change) (p : Object) (version : ℕ) → version ≡ (meta_of p).version → IsDated (Some (of_event c p version))
dated_event changes.Added p version at o is = at ∙ ap (λ x. (meta_of x).version) (one p o is)
dated_event changes.Modified p version at o is = at ∙ ap (λ x. (meta_of x).version) (one p o is)
dated_event changes.Deleted p version at o is = none_some is

dated_events : (es : List Event) (key : Key) → AreDated es → IsDated (told_by_events es key)
dated_events [] key d = tt
dated_events (x ∷ es) key d =
    later_dated _ (told_by_events es key) (dated_if (same_key (key_of x.object) key) (of_event x.change x.object x.version) (dated_event x.change x.object x.version (d x (inl refl))))
    (dated_events es key (λ y h. d y (inr h)))

dated_listing : (version : ℕ) (x : Option Object) → IsDated (Some (listing version x))
dated_listing version None = dated_absence version
dated_listing version (Some p) = dated_presence p

dated_tells : (request : Request) (reply : Reply) (key : Key) → IsDatedReply reply → IsDated (tells_of request reply key)
dated_tells request (replies.Done p) key d = dated_if (same_key (key_of p) key) (presence p) (dated_presence p)
dated_tells request (replies.Left p) key d = dated_if (same_key (key_of p) key) (record { version = (meta_of p).version; object = None }) (dated_absence _)
dated_tells request (replies.Listed items version) key d = dated_if _ (listing version (row_at key items)) (dated_listing version (row_at key items))
dated_tells request (replies.Events events) key d = dated_events events.events key d
dated_tells request reply key d = tt

pub newest_dated : (setup : Setup) (past : List Entry) → IsHistory setup past → (seat : ℕ) (key : Key) → IsDated (newest (own seat past) key)
newest_dated setup [] history seat key = tt
newest_dated setup (e ∷ past) history seat key = by (e.seat == seat) (newest_dated setup past history.0 seat key)
  where
    entry : (told : Bool) → IsDated (if told then tells_of e.request e.reply key else None)
    entry true = dated_tells e.request e.reply key (dated setup e past history.1)
    entry false = tt

    by : (b : Bool) → IsDated (newest (own seat past) key) → IsDated (newest (if b then e ∷ own seat past else own seat past) key)
    by true rest = later_dated (told_of e key) (newest (own seat past) key) (entry e.told) rest
    by false rest = rest

-- what was told of a key is at a version or above it

abbrev pub IsFrom : ℕ → Option Telling → Type 0
IsFrom version None = ⊥
IsFrom version (Some t) = version ≤ t.version

pub from_first : (version : ℕ) (a b : Option Telling) → IsFrom version a → IsFrom version (later a b)
from_first version None b h = absurd h
from_first version (Some a) None h = h
from_first version (Some a) (Some b) h = by (nat_lt a.version b.version) refl
  where
    by : (t : Bool) → nat_lt a.version b.version ≡ t → IsFrom version (if t then Some b else Some a)
    by true e = grind (arith, nat_tests, h, e)
    by false e = h

pub from_second : (version : ℕ) (a b : Option Telling) → IsFrom version b → IsFrom version (later a b)
from_second version None b h = h
from_second version (Some a) None h = absurd h
from_second version (Some a) (Some b) h = by (nat_lt a.version b.version) refl
  where
    by : (t : Bool) → nat_lt a.version b.version ≡ t → IsFrom version (if t then Some b else Some a)
    by true e = h
    by false e = grind (arith, nat_tests, h, e)

-- an event that tells the object
event_from : (c : Change) (p o : Object) (version : ℕ) → version ≡ (meta_of p).version → IsIn o (objects_of_event c p)
    → IsFrom (meta_of o).version (if same_key (key_of p) (key_of o) then Some (of_event c p version) else None)
event_from c p o version at h = by c h
  where
    here : (b : Change) → p ≡ o → (of_event b p version).version ≡ version → IsFrom (meta_of o).version (if same_key (key_of p) (key_of o) then Some (of_event b p version) else None)
    here b is same =
        let key : same_key (key_of p) (key_of o) ≡ true = ap (λ x. same_key (key_of x) (key_of o)) is ∙ same_key_itself (key_of o) in
        let alike : (meta_of p).version ≡ (meta_of o).version = ap (λ x. (meta_of x).version) is in
        rw key (omega (arith, same, at, alike))

    by : (b : Change) → IsIn o (objects_of_event b p) → IsFrom (meta_of o).version (if same_key (key_of p) (key_of o) then Some (of_event b p version) else None)
    by changes.Added (inl is) = here changes.Added is refl
    by changes.Modified (inl is) = here changes.Modified is refl
    by changes.Added (inr none) = absurd none
    by changes.Modified (inr none) = absurd none
    by changes.Deleted none = absurd none

pub events_from : (es : List Event) (o : Object) → AreDated es → IsIn o (objects_of_events es) → IsFrom (meta_of o).version (told_by_events es (key_of o))
events_from [] o d h = absurd h
events_from (x ∷ es) o d h = elim (some_or (λ y. y ≡ o) (objects_of_event x.change x.object) (objects_of_events es) h) [
  | inl is ↦ from_first _ _ (told_by_events es (key_of o)) (event_from x.change x.object o x.version (d x (inl refl)) is)
  | inr more ↦ from_second _ _ (told_by_events es (key_of o)) (events_from es o (λ y h. d y (inr h)) more)
]
