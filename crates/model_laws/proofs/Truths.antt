-- Told is true: what an answer tells stands in the store, or stood there and is in the log.
use Rattle.std.proofs.Common.{subst, inl, inr, ap, ◌∙◌}
use Rattle.std.specs.Prelude.{ℕ, ◌≡◌, ◌⊎◌, ◌==◌, Bool, true, false, List, [], ◌∷◌, ◌++◌, Some, take, if◌then◌else◌}
use Rattle.kube_objects.specs.declared.key.Key.{Key}
use Rattle.kube_parts.specs.declared.parts.Kind.{Kind}
use Rattle.kube_objects.specs.declared.objects.Object.{Object}
use Rattle.kube_objects.specs.Keys.{AreRows, meta_of, key_of, row_at, put_row}
use Rattle.kube_objects.proofs.KeyOrder.{row_at_key, row_at-put_row}
use Rattle.call_types.specs.declared.entry.Entry.{Entry}
use Rattle.call_types.specs.declared.setup.Setup.{Setup}
use Rattle.call_types.specs.declared.request.Request.{Request}
use Rattle.call_types.specs.declared.reply.Change.{Change}
use Rattle.call_types.specs.declared.reply.Change.TheVariants.{Added, Modified, Deleted}
use Rattle.call_types.specs.declared.reply.Event.{Event}
use Rattle.call_types.specs.declared.reply.Reply.{Reply}
use Rattle.call_types.specs.declared.reply.Reply.TheVariants as replies
use Rattle.binder_model.specs.Answers.{Says, Stores, Removes, reply_of, after}
use Rattle.binder_model.specs.Told.{SomeOf, TellsObject, own, objects_in, objects_of_event, objects_of_events}
use Rattle.binder_model.specs.Watching.{is_later, most_events, events_after}
use Rattle.binder_model.specs.World.{World, Effect, OnStore, OnDevices, SetsMoment, world, effect, reply_to, world_after, log_after}
use Rattle.model_laws.specs.Stood.{Stands, Stood, ToldIsTrue, ToldLiveIsTrueNow}
use Rattle.model_laws.proofs.Lists.{IsIn, some_left, some_right, some_or, some_take, some_reverse, some_filter}
use Rattle.model_laws.proofs.Histories.{rows_stand_in_order}
use Rattle.model_laws.proofs.Readings.{member_stands, filter_stands, listed_stands, gets_tell_what_stands}
use Rattle.model_laws.proofs.Said.{IsOfDevices, Sayings, EffectSays, effect_said}
use Rattle.model_laws.proofs.Stood.{stood}

-- events

abbrev pub TellsIt : Object → Event → Type 0
TellsIt o e = IsIn o (objects_of_event e.change e.object)

pub events_some : (o : Object) (es : List Event) → IsIn o (objects_of_events es) → SomeOf (TellsIt o) es
events_some o [] h = absurd h
events_some o (e ∷ es) h = elim (some_or (λ x. x ≡ o) (objects_of_event e.change e.object) (objects_of_events es) h) [ inl is ↦ inl is | inr more ↦ inr (events_some o es more) ]

some_events : (o : Object) (es : List Event) → SomeOf (TellsIt o) es → IsIn o (objects_of_events es)
some_events o [] h = absurd h
some_events o (e ∷ es) h = elim h [
  | inl is ↦ some_left (λ x. x ≡ o) (objects_of_event e.change e.object) (objects_of_events es) is
  | inr more ↦ some_right (λ x. x ≡ o) (objects_of_event e.change e.object) (objects_of_events es) (some_events o es more)
]

-- what a watch tells, the log has
watched : (k : Kind) (from : ℕ) (log : List Event) (o : Object) → IsIn o (objects_of_events (take most_events (events_after k from log))) → IsIn o (objects_of_events log)
watched k from log o h = some_events o log (some_filter (TellsIt o) (is_later k from) log (some_reverse (TellsIt o) _ (some_take (TellsIt o) most_events _ (events_some o _ h))))

-- an answer without a write

abbrev IsTrueOf : World → Reply → Type 0
IsTrueOf w reply = (o : Object) → IsIn o (objects_in reply) → Stands w o ⊎ IsIn o (objects_of_events w.log)

only : (w : World) (key : Key) (old : Object) → row_at key w.store.rows ≡ Some old → (o : Object) → IsIn o (old ∷ []) → Stands w o ⊎ IsIn o (objects_of_events w.log)
only w key old is o h = elim h [
  | inl e ↦ inl (subst (Stands w) e (ap (λ k. row_at k w.store.rows) (row_at_key key old w.store.rows is) ∙ is))
  | inr none ↦ absurd none
]

of_devices : (w : World) (reply : Reply) → IsOfDevices reply → IsTrueOf w reply
of_devices w (replies.Done o) is = absurd is
of_devices w (replies.Found o) is = absurd is
of_devices w (replies.Listed items version) is = absurd is
of_devices w (replies.Events events) is = absurd is
of_devices w reply is = λ o h. absurd h

sayings : (w : World) (request : Request) → AreRows w.store.rows → Sayings w request (IsTrueOf w)
sayings w request rows = record {
  refused = λ r o h. absurd h;
  again = λ o second. only w second.key o second.there;
  found = λ key o is. only w key o is;
  listed = λ k namespace o h. inl (member_stands o w.store.rows rows (filter_stands _ o w.store.rows (listed_stands namespace o _ h)));
  watched = λ k from o h. inr (watched k from w.log o h);
  timed = λ o h. absurd h;
  device = of_devices w;
}

-- at one entry

record TellsTrue (w : World) (x : Effect) : Type 0 where
  true_of : (o : Object) → IsIn o (objects_in (reply_to x)) → (Stands w o ⊎ IsIn o (objects_of_events w.log)) ⊎ Stands (world_after w x) o

tells : (w : World) (x : Effect) → EffectSays (IsTrueOf w) x → TellsTrue w x
unfolding reply_to reply_of world_after after
tells w (OnStore (Says reply)) s = record { true_of = λ o h. inl (s o h) }
tells w (OnStore (Stores change new)) s = record {
  true_of = λ o h. elim h [ inl e ↦ inr (subst (λ (z : Object). row_at (key_of z) (put_row new w.store.rows) ≡ Some z) e (row_at-put_row new w.store.rows)) | inr none ↦ absurd none ];
}
tells w (OnStore (Removes last)) s = record { true_of = λ o h. absurd h }
tells w (OnDevices a) s = record { true_of = λ o h. inl (s.1 o h) }
tells w (SetsMoment at) s = record { true_of = λ o h. absurd h }

-- the log tells of what stood

record LogGrows (w : World) (x : Effect) : Type 0 where
  logged : (o : Object) → IsIn o (objects_of_events (world_after w x).log) → IsIn o (objects_of_events w.log) ⊎ Stands (world_after w x) o

event_of : (rows : List Object) (change : Change) (new o : Object) (log : List Event)
    → IsIn o (objects_of_events ((record { change = change; object = new; version = (meta_of new).version }) ∷ log)) → IsIn o (objects_of_events log) ⊎ (row_at (key_of o) (put_row new rows) ≡ Some o)
event_of rows change new o log h = by change h
  where
    here : new ≡ o → row_at (key_of o) (put_row new rows) ≡ Some o
    here e = subst (λ (z : Object). row_at (key_of z) (put_row new rows) ≡ Some z) e (row_at-put_row new rows)

    by : (c : Change) → IsIn o (objects_of_event c new ++ objects_of_events log) → IsIn o (objects_of_events log) ⊎ (row_at (key_of o) (put_row new rows) ≡ Some o)
    by Added h = elim h [ inl e ↦ inr (here e) | inr more ↦ inl more ]
    by Modified h = elim h [ inl e ↦ inr (here e) | inr more ↦ inl more ]
    by Deleted h = inl h

log_grows : (w : World) (x : Effect) → LogGrows w x
unfolding world_after after log_after
log_grows w (OnStore (Says reply)) = record { logged = λ o h. inl h }
log_grows w (OnStore (Stores change new)) = record { logged = λ o h. event_of w.store.rows change new o w.log h }
log_grows w (OnStore (Removes last)) = record { logged = λ o h. inl h }
log_grows w (OnDevices a) = record { logged = λ o h. inl h }
log_grows w (SetsMoment at) = record { logged = λ o h. inl h }

pub logged_stood : (setup : Setup) (past : List Entry) (o : Object) → IsIn o (objects_of_events (world setup past).log) → Stood setup past o
logged_stood setup [] o h = absurd h
logged_stood setup (e ∷ past) o h = elim ((log_grows (world setup past) (effect setup (world setup past) e.kind e.request)).logged o h) [
  | inl before ↦ inl (logged_stood setup past o before)
  | inr now ↦ inr now
]

-- what an entry tells stood at or before it
pub entry_stood : (setup : Setup) (e : Entry) (past : List Entry) (o : Object) → IsIn o (objects_in (reply_to (effect setup (world setup past) e.kind e.request))) → Stood setup (e ∷ past) o
entry_stood setup e past o h =
    let w = world setup past in
    let said = (effect_said setup w e.kind e.request (sayings w e.request (rows_stand_in_order setup past))).said in
    elim ((tells w (effect setup w e.kind e.request) said).true_of o h) [
      | inl before ↦ elim before [ inl is ↦ inl (stood setup past o is) | inr in_log ↦ inl (logged_stood setup past o in_log) ]
      | inr now ↦ inr now
    ]

own_or : (P : Entry → Type 0) (seat : ℕ) (e : Entry) (past : List Entry) → SomeOf P (own seat (e ∷ past)) → P e ⊎ SomeOf P (own seat past)
own_or P seat e past h = by (e.seat == seat) h
  where
    by : (b : Bool) → SomeOf P (if b then e ∷ own seat past else own seat past) → P e ⊎ SomeOf P (own seat past)
    by true h = h
    by false h = inr h

pub told_is_true : ToldIsTrue
told_is_true setup [] seat o history told = absurd told
told_is_true setup (e ∷ past) seat o history told = elim (own_or (TellsObject (λ x. x ≡ o)) seat e past told) [
  | inl here ↦ entry_stood setup e past o (subst (λ (r : Reply). IsIn o (objects_in r)) history.1 here.1)
  | inr more ↦ inl (told_is_true setup past seat o history.0 more)
]

pub told_live_is_true_now : ToldLiveIsTrueNow
told_live_is_true_now setup e past key history asked =
    history.1 ∙ ap (λ (q : Request). reply_to (effect setup (world setup past) e.kind q)) asked ∙ gets_tell_what_stands setup (world setup past) e.kind key
