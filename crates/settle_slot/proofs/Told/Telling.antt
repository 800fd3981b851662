-- What a seat was told of a key is so now, unless the key was changed since.
use Rattle.std.proofs.Common.{◌≡◌, ◌≢◌, ◌∙◌, ◌⊎◌, ℕ, ◌+◌, List, [], ◌∷◌, Bool, true, false, Option, Some, None, inl, inr, refl, sym, ap, subst, arith, if◌then◌else◌}
use Rattle.std.specs.Prelude.{◌==◌, nat_lt, ⊤}
use Rattle.std.proofs.lemmas.Bool.Decides.{nat_tests}
use Rattle.kube_objects.specs.declared.key.Key.{Key}
use Rattle.kube_parts.specs.declared.parts.Kind.{Kind}
use Rattle.kube_objects.specs.declared.objects.Object.{Object}
use Rattle.kube_objects.specs.Keys.{AreRows, is_of_kind, key_of, kind_index, kind_of, meta_of, row_at, same_key}
use Rattle.kube_objects.proofs.KeyOrder.{row_at-put_row, row_at-put_row_other, row_at-without_row, row_at-without_row_other}
use Rattle.kube_objects.proofs.SameKeys.{key_tells, same_key-Decides}
use Rattle.call_types.specs.declared.entry.Entry.{Entry}
use Rattle.call_types.specs.declared.reply.Change.{Change}
use Rattle.call_types.specs.declared.reply.Change.TheVariants as changes
use Rattle.call_types.specs.declared.reply.Event.{Event}
use Rattle.call_types.specs.declared.request.SeatKind.{SeatKind}
use Rattle.call_types.specs.declared.request.Request.{Request}
use Rattle.call_types.specs.declared.setup.Setup.{Setup}
use Rattle.call_types.specs.declared.edit.Edit.{Edit}
use Rattle.call_types.specs.declared.reply.Reply.{Reply}
use Rattle.call_types.specs.declared.reply.Reply.TheVariants as replies
use Rattle.call_types.specs.declared.request.NewStatus.{NewStatus}
use Rattle.call_types.specs.declared.request.Request.TheVariants as requests
use Rattle.kube_parts.specs.declared.uid.Uid.{Uid}
use Rattle.kube_objects.specs.declared.objects.Pod.{Pod as PodData}
use Rattle.kube_objects.proofs.KeyOrder.{row_at_key}
use Rattle.std.proofs.lemmas.Slice.Eq.{bytes_eq-Decides}
use Rattle.std.specs.Prelude.{bytes_eq, ◌&&◌, filter}
use Rattle.std.proofs.lemmas.Bool.{and_parts}
use Rattle.binder_model.specs.Answers.{
  Outcome,
  Removes,
  Says,
  Stores,
  after,
  bind,
  create,
  delete,
  delete_of,
  edit,
  edit_to,
  finish,
  get,
  list,
  outcome,
  reply_of,
  update,
  update_status,
  write_outcome,
  written_if_fits,
}
use Rattle.binder_model.specs.Edits.{edited_object}
use Rattle.binder_model.specs.Store.{State, leaves}
use Rattle.binder_model.specs.Told.{Telling, later, listing, newest, of_event, own, presence, told_by_events, told_of, tells_of}
use Rattle.binder_model.specs.Watching.{events_after, is_later, most_events, told_events}
use Rattle.model_laws.specs.Reads.{TellsRows, fits_namespace}
use Rattle.model_laws.proofs.Goings.{lists_are_in_order}
use Rattle.model_laws.proofs.Lists.{some_filter, some_reverse, some_take}
use Rattle.model_laws.proofs.OnOutcome.{OnOutcome, field_or, refused_or, rule_or, says, stale_or}
use Rattle.model_laws.proofs.Readings.{found_stands, lists_tell_what_stands, member_stands}
use Rattle.model_laws.proofs.Replies.{done_stands, writing}
use Rattle.model_laws.proofs.Said.{EffectSays, IsOfDevices, Sayings, effect_said}
use Rattle.model_laws.proofs.Stood.{stood, version_stood}
use Rattle.binder_model.specs.World.{Effect, OnDevices, OnStore, SetsMoment, World, effect, log_after, reply_to, world, world_after}
use Rattle.model_laws.proofs.Effects.{OfStore, on_effects}
use Rattle.model_laws.proofs.Histories.{rows_stand_in_order}
use Rattle.model_laws.proofs.Lists.{IsIn, none_some}
use Rattle.model_laws.proofs.Uids.{rises}
use Rattle.model_laws.proofs.Versions.{NextOf, outcome_next}
use Rattle.settle_slot.specs.Told.Telling.{IsTrue, IsTrueIfAny, NewestIsTrue, changed_at}

pub is_same : (a b : Key) → a ≡ b → same_key a b ≡ true
is_same a b e = (same_key-Decides a b).1 e

pub are_same : (a b : Key) → same_key a b ≡ true → a ≡ b
are_same a b e = (same_key-Decides a b).0 e

pub not_same : (a b : Key) → a ≢ b → same_key a b ≡ false
not_same a b other = by (same_key a b) refl
  where
    by : (t : Bool) → same_key a b ≡ t → same_key a b ≡ false
    by true e = absurd (other (are_same a b e))
    by false e = e

-- a call leaves a key alone, or changes it at the next version
pub data KeyStep (old new : World) (key : Key) : Type 0 where
  LeftAlone : row_at key new.store.rows ≡ row_at key old.store.rows → changed_at key new.log ≡ changed_at key old.log → KeyStep old new key
  Changed : changed_at key new.log ≡ old.store.version + 1 → KeyStep old new key

key_step : (w : World) (x : Effect) → AreRows w.store.rows → OfStore (NextOf (w.store.version + 1)) x → (key : Key) → KeyStep w (world_after w x) key
unfolding world_after after log_after
key_step w (OnStore (Says reply)) rows n key = LeftAlone refl refl
key_step w (OnStore (Stores change o)) rows n key = elim (key_tells (key_of o) key) [
  | inl same ↦ Changed (rw (is_same (key_of o) key same) n)
  | inr other ↦ LeftAlone (row_at-put_row_other key o w.store.rows other) (rw (not_same (key_of o) key other) refl)
]
key_step w (OnStore (Removes o)) rows n key = elim (key_tells (key_of o) key) [
  | inl same ↦ Changed (rw (is_same (key_of o) key same) n)
  | inr other ↦ LeftAlone (row_at-without_row_other (key_of o) key w.store.rows other) (rw (not_same (key_of o) key other) refl)
]
key_step w (OnDevices a) rows n key = LeftAlone refl refl
key_step w (SetsMoment at) rows n key = LeftAlone refl refl

pub next_of : (setup : Setup) (e : Entry) (past : List Entry) → OfStore (NextOf ((world setup past).store.version + 1)) (effect setup (world setup past) e.kind e.request)
next_of setup e past = (on_effects (λ r. tt) setup (world setup past) e.kind e.request (outcome_next (world setup past).store e.kind e.request (world setup past).moment)).on

pub step_of : (setup : Setup) (e : Entry) (past : List Entry) (key : Key) → KeyStep (world setup past) (world setup (e ∷ past)) key
step_of setup e past key = key_step (world setup past) _ (rows_stand_in_order setup past) (next_of setup e past) key

-- what was true stays so
stays_true : (setup : Setup) (e : Entry) (past : List Entry) (key : Key) (t : Telling) → IsTrue (world setup past) key t → IsTrue (world setup (e ∷ past)) key t
stays_true setup e past key t it = by (step_of setup e past key)
  where
    by : KeyStep (world setup past) (world setup (e ∷ past)) key → IsTrue (world setup (e ∷ past)) key t
    by (LeftAlone row at) =
        let up = it.up in
        let more = rises setup (e ∷ []) past in
        record { up = omega (arith, up, more); now = λ h. it.now (omega (arith, h, at)) ∙ sym row }
    by (Changed at) =
        let up = it.up in
        let more = rises setup (e ∷ []) past in
        record { up = omega (arith, up, more); now = λ h. absurd (omega (arith, up, at, h)) }

stays_if_any : (setup : Setup) (e : Entry) (past : List Entry) (key : Key) (x : Option Telling) → IsTrueIfAny (world setup past) key x → IsTrueIfAny (world setup (e ∷ past)) key x
stays_if_any setup e past key None it = tt
stays_if_any setup e past key (Some t) it = stays_true setup e past key t it

later_true : (w : World) (key : Key) (a b : Option Telling) → IsTrueIfAny w key a → IsTrueIfAny w key b → IsTrueIfAny w key (later a b)
later_true w key None b ta tb = tb
later_true w key (Some a) None ta tb = ta
later_true w key (Some a) (Some b) ta tb = by (nat_lt a.version b.version)
  where
    by : (t : Bool) → IsTrueIfAny w key (if t then Some b else Some a)
    by true = tb
    by false = ta

-- no write that stores an object is a deletion

abbrev NotDeleted : Outcome → Type 0
NotDeleted (Stores changes.Deleted o) = ⊥
NotDeleted x = ⊤

wrote : (o : Object) → OnOutcome NotDeleted (write_outcome o)
wrote o = by_leaving (leaves o) refl
  where
    by_leaving : (b : Bool) → leaves o ≡ b → OnOutcome NotDeleted (write_outcome o)
    by_leaving true is = rw is (record { holds = tt })
    by_leaving false is = rw is (record { holds = tt })

create_adds : (s : State) (kind : SeatKind) (o : Object) (moment : List ℕ) (x : Option Object) → OnOutcome NotDeleted (create s kind o moment x)
unfolding create
create_adds s kind o moment (Some old) = says (λ r. tt) _
create_adds s kind o moment None = rule_or (λ r. tt) _ _ (field_or (λ r. tt) _ _ (λ e. record { holds = tt }))

update_writes : (s : State) (kind : SeatKind) (o : Object) (given : Option ℕ) (x : Option Object) → OnOutcome NotDeleted (update s kind o given x)
unfolding update
update_writes s kind o given None = says (λ r. tt) _
update_writes s kind o given (Some old) = refused_or (λ r. tt) _ _ _ (rule_or (λ r. tt) _ _ (field_or (λ r. tt) _ _ (λ e. wrote _)))

fits_writes : (s : State) (o : Option Object) → OnOutcome NotDeleted (written_if_fits s o)
unfolding written_if_fits
fits_writes s None = says (λ r. tt) _
fits_writes s (Some o) = wrote _

status_writes : (s : State) (kind : SeatKind) (status : NewStatus) (given : Option ℕ) (x : Option Object) → OnOutcome NotDeleted (update_status s kind status given x)
unfolding update_status
status_writes s kind status given None = refused_or (λ r. tt) _ _ _ (says (λ r. tt) _)
status_writes s kind status given (Some old) = refused_or (λ r. tt) _ _ _ (refused_or (λ r. tt) _ _ _ (fits_writes s _))

edit_writes : (s : State) (kind : SeatKind) (change : Edit) (x : Option Object) → OnOutcome NotDeleted (edit s kind change x)
unfolding edit edit_to
edit_writes s kind change None = says (λ r. tt) _
edit_writes s kind change (Some old) = by (edited_object change old)
  where
    by : (new : Option Object) → OnOutcome NotDeleted (edit_to s kind old new)
    by None = says (λ r. tt) _
    by (Some new) = rule_or (λ r. tt) _ _ (field_or (λ r. tt) _ _ (λ e. wrote _))

delete_of_writes : (s : State) (moment : List ℕ) (old : Object) (at_once deleting : Bool) → OnOutcome NotDeleted (delete_of s moment old at_once deleting)
unfolding delete_of
delete_of_writes s moment old true deleting = record { holds = tt }
delete_of_writes s moment old false true = says (λ r. tt) _
delete_of_writes s moment old false false = wrote _

delete_writes : (s : State) (moment : List ℕ) (given : Option Uid) (x : Option Object) → OnOutcome NotDeleted (delete s moment given x)
unfolding delete
delete_writes s moment given None = says (λ r. tt) _
delete_writes s moment given (Some old) = refused_or (λ r. tt) _ _ _ (delete_of_writes s moment old _ _)

get_writes : (x : Option Object) → OnOutcome NotDeleted (get x)
unfolding get
get_writes None = says (λ r. tt) _
get_writes (Some o) = says (λ r. tt) _

bind_writes : (s : State) (node : List ℕ) (p : Option PodData) → OnOutcome NotDeleted (bind s node p)
unfolding bind
bind_writes s node None = says (λ r. tt) _
bind_writes s node (Some p) = refused_or (λ r. tt) _ _ _ (refused_or (λ r. tt) _ _ _ (record { holds = tt }))

finish_writes : (s : State) (stale : Option ℕ) (node : List ℕ) (p : Option PodData) → OnOutcome NotDeleted (finish s stale node p)
unfolding finish
finish_writes s stale node None = says (λ r. tt) _
finish_writes s stale node (Some p) = stale_or (λ r. tt) _ _ (refused_or (λ r. tt) _ _ _ (refused_or (λ r. tt) _ _ _ (record { holds = tt })))

outcome_writes : (s : State) (kind : SeatKind) (request : Request) (moment : List ℕ) (stale : Option ℕ) → OnOutcome NotDeleted (outcome s kind request moment stale)
unfolding outcome list
outcome_writes s kind (requests.Create o) moment stale = create_adds s kind o moment _
outcome_writes s kind (requests.Update o given) moment stale = update_writes s kind o given _
outcome_writes s kind (requests.UpdateStatus key status given) moment stale = status_writes s kind status given _
outcome_writes s kind (requests.Edit key change) moment stale = edit_writes s kind change _
outcome_writes s kind (requests.Delete key given) moment stale = delete_writes s moment given _
outcome_writes s kind (requests.Get key) moment stale = get_writes _
outcome_writes s kind (requests.List k namespace) moment stale = says (λ r. tt) _
outcome_writes s kind (requests.BindPod key uid node) moment stale = refused_or (λ r. tt) _ _ _ (bind_writes s node _)
outcome_writes s kind (requests.FinishPod key uid node epoch) moment stale = refused_or (λ r. tt) _ _ _ (finish_writes s stale node _)
outcome_writes s kind _ moment stale = says (λ r. tt) _

-- each event of a log is true

stored_true : (w : World) (change : Change) (o : Object) → (meta_of o).version ≡ w.store.version + 1 → NotDeleted (Stores change o)
    → IsTrue (world_after w (OnStore (Stores change o))) (key_of o) (of_event change o (meta_of o).version)
unfolding world_after after log_after
stored_true w changes.Added o n d = record { up = omega (arith, n); now = λ h. sym (row_at-put_row o w.store.rows) }
stored_true w changes.Modified o n d = record { up = omega (arith, n); now = λ h. sym (row_at-put_row o w.store.rows) }
stored_true w changes.Deleted o n d = absurd d

removed_true : (w : World) (o : Object) → AreRows w.store.rows → (meta_of o).version ≡ w.store.version + 1
    → IsTrue (world_after w (OnStore (Removes o))) (key_of o) (of_event changes.Deleted o (meta_of o).version)
unfolding world_after after log_after
removed_true w o rows n = record { up = omega (arith, n); now = λ h. sym (row_at-without_row (key_of o) w.store.rows rows) }

abbrev Tells : World → Key → Event → Type 0
Tells w key y = IsTrue w key (of_event y.change y.object y.version)

-- an event of the log after an effect stood in it before, or is true of its key
new_event : (w : World) (x : Effect) → AreRows w.store.rows → OfStore (NextOf (w.store.version + 1)) x → OfStore NotDeleted x → (y : Event)
    → IsIn y (world_after w x).log → IsIn y w.log ⊎ Tells (world_after w x) (key_of y.object) y
unfolding world_after after log_after
new_event w (OnStore (Says reply)) rows n d y h = inl h
new_event w (OnStore (Stores change o)) rows n d y (inl is) = inr (subst (λ (z : Event). Tells (world_after w (OnStore (Stores change o))) (key_of z.object) z) is (stored_true w change o n d))
new_event w (OnStore (Stores change o)) rows n d y (inr more) = inl more
new_event w (OnStore (Removes o)) rows n d y (inl is) = inr (subst (λ (z : Event). Tells (world_after w (OnStore (Removes o))) (key_of z.object) z) is (removed_true w o rows n))
new_event w (OnStore (Removes o)) rows n d y (inr more) = inl more
new_event w (OnDevices a) rows n d y h = inl h
new_event w (SetsMoment at) rows n d y h = inl h

log_true : (setup : Setup) (past : List Entry) (y : Event) → IsIn y (world setup past).log → Tells (world setup past) (key_of y.object) y
log_true setup [] y h = absurd h
log_true setup (e ∷ past) y h =
    let w = world setup past in
    elim (new_event w (effect setup w e.kind e.request) (rows_stand_in_order setup past) (next_of setup e past)
    (on_effects (λ r. tt) setup w e.kind e.request (outcome_writes w.store e.kind e.request w.moment)).on y h) [
      | inl before ↦ stays_true setup e past (key_of y.object) _ (log_true setup past y before)
      | inr now ↦ now
    ]

-- what an answer tells is true

if_any : (b : Bool) (w : World) (key : Key) (t : Telling) → (b ≡ true → IsTrue w key t) → IsTrueIfAny w key (if b then Some t else None)
if_any true w key t it = it refl
if_any false w key t it = tt

events_true : (w : World) (key : Key) → ((y : Event) → IsIn y w.log → Tells w (key_of y.object) y) → (es : List Event)
    → ((y : Event) → IsIn y es → IsIn y w.log) → IsTrueIfAny w key (told_by_events es key)
events_true w key in_log [] are = tt
events_true w key in_log (y ∷ es) are =
    later_true w key _ (told_by_events es key)
    (if_any (same_key (key_of y.object) key) w key (of_event y.change y.object y.version) (λ same. subst (λ k. Tells w k y) (are_same (key_of y.object) key same) (in_log y (are y (inl refl)))))
    (events_true w key in_log es (λ z h. are z (inr h)))

-- the events of an answer stand in the log
abbrev AreLogged : World → Reply → Type 0
AreLogged w (replies.Events events) = (y : Event) → IsIn y events.events → IsIn y w.log
AreLogged w reply = ⊤

of_devices : (w : World) (reply : Reply) → IsOfDevices reply → AreLogged w reply
of_devices w (replies.Events events) is = absurd is
of_devices w reply is = tt

logged_effect : (w : World) (x : Effect) → EffectSays (AreLogged w) x → AreLogged w (reply_to x)
unfolding reply_to reply_of
logged_effect w (OnStore (Says reply)) s = s
logged_effect w (OnStore (Stores change o)) s = tt
logged_effect w (OnStore (Removes o)) s = tt
logged_effect w (OnDevices a) s = s.1
logged_effect w (SetsMoment at) s = tt

logged : (setup : Setup) (w : World) (kind : SeatKind) (request : Request) → AreLogged w (reply_to (effect setup w kind request))
logged setup w kind request = logged_effect w _ (effect_said setup w kind request all_sayings).said
  where
    of_watch : (k : Kind) (from : ℕ) → AreLogged w (replies.Events (told_events k from w.store.version w.log))
    of_watch k from y h = some_filter (λ z. z ≡ y) (is_later k from) w.log (some_reverse (λ z. z ≡ y) (filter (is_later k from) w.log)
        (some_take (λ z. z ≡ y) most_events (events_after k from w.log) h))

    all_sayings : Sayings w request (AreLogged w)
    all_sayings = record {
      refused = λ r. tt;
      again = λ o second. tt;
      found = λ key o is. tt;
      listed = λ k namespace. tt;
      watched = of_watch;
      timed = tt;
      device = of_devices w;
    }

-- a list

abbrev items_of : Reply → List Object
items_of (replies.Listed items version) = items
items_of reply = []

abbrev version_of : Reply → ℕ
version_of (replies.Listed items version) = version
version_of reply = 0

same_place : (ns : List ℕ) (o : Object) (key : Key) → key_of o ≡ key → bytes_eq ns key.namespace ≡ true → fits_namespace (Some ns) o ≡ true
same_place ns o key is e = (bytes_eq-Decides (meta_of o).namespace ns).1 (ap (λ (k : Key). k.namespace) is ∙ sym ((bytes_eq-Decides ns key.namespace).0 e))

-- what a list tells of a key that it covers
listing_true : (setup : Setup) (past : List Entry) (k : Kind) (ns : Option (List ℕ)) (items : List Object) (version : ℕ) → TellsRows (world setup past) k ns items version → AreRows items
    → (key : Key) → ((o : Object) → key_of o ≡ key → (is_of_kind k o ≡ true) × (fits_namespace ns o ≡ true)) → (x : Option Object)
    → row_at key items ≡ x → IsTrue (world setup past) key (listing version x)
listing_true setup past k ns items version tells order key covers (Some o) is =
    let there = tells.stands o (found_stands key o items is) in
    let own_key : key_of o ≡ key = row_at_key key o items is in
    record { up = version_stood setup past o (stood setup past o there); now = λ h. sym (ap (λ j. row_at j (world setup past).store.rows) (sym own_key) ∙ there) }
listing_true setup past k ns items version tells order key covers None is =
    let at = tells.at in
    record { up = omega (arith, at); now = λ h. by (row_at key (world setup past).store.rows) refl }
  where
    by : (y : Option Object) → row_at key (world setup past).store.rows ≡ y → ◌≡◌ {A = Option Object} None (row_at key (world setup past).store.rows)
    by None e = sym e
    by (Some o) e =
        let own_key : key_of o ≡ key = row_at_key key o (world setup past).store.rows e in
        let c = covers o own_key in
        let in_list = tells.listed o (ap (λ j. row_at j (world setup past).store.rows) own_key ∙ e) c.0 c.1 in
        none_some (sym is ∙ ap (λ j. row_at j items) (sym own_key) ∙ member_stands o items order in_list)

pub kind_covered : (k : Kind) (o : Object) (key : Key) → key_of o ≡ key → (kind_index k == kind_index key.kind) ≡ true → is_of_kind k o ≡ true
kind_covered k o key is e =
    let same : kind_index key.kind ≡ kind_index (kind_of o) = ap (λ (j : Key). kind_index j.kind) (sym is) in
    grind (arith, nat_tests, e, same)

module _ (setup : Setup) (e : Entry) (past : List Entry) (answered : e.reply ≡ reply_to (effect setup (world setup past) e.kind e.request)) (key : Key) where
  abbrev next_world : World
  next_world = world setup (e ∷ past)

  rows : AreRows (world setup past).store.rows
  rows = rows_stand_in_order setup past

  done_true : (o : Object) → e.reply ≡ replies.Done o → IsTrue next_world (key_of o) (presence o)
  done_true o ea =
      let there : row_at (key_of o) (world setup (e ∷ past)).store.rows ≡ Some o = done_stands setup (world setup past) e.kind e.request o (sym answered ∙ ea) in
      record { up = version_stood setup (e ∷ past) o (stood setup (e ∷ past) o there); now = λ h. sym there }

  left_true : (o : Object) → e.reply ≡ replies.Left o → IsTrue next_world (key_of o) (record { version = (meta_of o).version; object = None })
  left_true o ea =
      let by_it : effect setup (world setup past) e.kind e.request ≡ OnStore (Removes o) = (writing setup (world setup past) e.kind e.request).left o (sym answered ∙ ea) in
      let n : (meta_of o).version ≡ (world setup past).store.version + 1 = subst (OfStore (NextOf ((world setup past).store.version + 1))) by_it (next_of setup e past) in
      subst (λ x. IsTrue (world_after (world setup past) x) (key_of o) (record { version = (meta_of o).version; object = None })) (sym by_it) (removed_true (world setup past) o rows n)

  list_true : (k : Kind) (ns : Option (List ℕ)) (items : List Object) (version : ℕ) → e.request ≡ requests.List k ns → e.reply ≡ replies.Listed items version
      → ((o : Object) → key_of o ≡ key → (is_of_kind k o ≡ true) × (fits_namespace ns o ≡ true)) → IsTrue next_world key (listing version (row_at key items))
  list_true k ns items version er ea covers =
      let l = lists_tell_what_stands setup (world setup past) e.kind k ns rows in
      let told : reply_to (effect setup (world setup past) e.kind (requests.List k ns)) ≡ replies.Listed items version =
      sym (answered ∙ ap (λ r. reply_to (effect setup (world setup past) e.kind r)) er) ∙ ea in
      let same : l.0 ≡ items = ap items_of (sym l.1.1.0 ∙ told) in
      let at : l.1.0 ≡ version = ap version_of (sym l.1.1.0 ∙ told) in
      let tells : TellsRows (world setup past) k ns items version = subst (λ v. TellsRows (world setup past) k ns items v) at (subst (λ i. TellsRows (world setup past) k ns i l.1.0) same l.1.1.1) in
      stays_true setup e past key _ (listing_true setup past k ns items version tells
      (lists_are_in_order setup (world setup past) e.kind k ns items version rows told) key covers (row_at key items) refl)

  answer_true : (request : Request) (reply : Reply) → e.request ≡ request → e.reply ≡ reply → IsTrueIfAny next_world key (tells_of request reply key)
  answer_true request (replies.Done o) er ea =
      if_any (same_key (key_of o) key) next_world key (presence o) (λ same. subst (λ k. IsTrue next_world k (presence o)) (are_same (key_of o) key same) (done_true o ea))
  answer_true request (replies.Left o) er ea =
      if_any (same_key (key_of o) key) next_world key (record { version = (meta_of o).version; object = None })
      (λ same. subst (λ k. IsTrue next_world k (record { version = (meta_of o).version; object = None })) (are_same (key_of o) key same) (left_true o ea))
  answer_true (requests.List k None) (replies.Listed items version) er ea =
      if_any (kind_index k == kind_index key.kind) next_world key (listing version (row_at key items))
      (λ c. list_true k None items version er ea (λ o is. (kind_covered k o key is c, refl)))
  answer_true (requests.List k (Some ns)) (replies.Listed items version) er ea =
      if_any (kind_index k == kind_index key.kind && bytes_eq ns key.namespace) next_world key (listing version (row_at key items))
      (λ c. let p = and_parts (kind_index k == kind_index key.kind) (bytes_eq ns key.namespace) c in
      list_true k (Some ns) items version er ea (λ o is. (kind_covered k o key is p.0, same_place ns o key is p.1)))
  answer_true request (replies.Events events) er ea =
      stays_if_any setup e past key _
      (events_true (world setup past) key (log_true setup past) events.events (subst (AreLogged (world setup past)) (sym answered ∙ ea) (logged setup (world setup past) e.kind e.request)))
  answer_true request reply er ea = tt

  entry_true : IsTrueIfAny next_world key (told_of e key)
  entry_true = by e.told
    where
      by : (b : Bool) → IsTrueIfAny next_world key (if b then tells_of e.request e.reply key else None)
      by true = answer_true e.request e.reply refl refl
      by false = tt

pub newest_is_true : NewestIsTrue
newest_is_true setup [] seat key history = tt
newest_is_true setup (e ∷ past) seat key history = by (e.seat == seat) (stays_if_any setup e past key _ (newest_is_true setup past seat key history.0))
  where
    by : (mine : Bool) → IsTrueIfAny (world setup (e ∷ past)) key (newest (own seat past) key)
        → IsTrueIfAny (world setup (e ∷ past)) key (newest (if mine then e ∷ own seat past else own seat past) key)
    by true before = later_true (world setup (e ∷ past)) key (told_of e key) (newest (own seat past) key) (entry_true setup e past history.1 key) before
    by false before = before
