-- A seat that has reached the store's version with a kind knows each key of it as it is.
use Rattle.std.proofs.Common.{◌≡◌, ◌∙◌, ◌⊎◌, ℕ, ◌≤◌, ◌<◌, List, [], ◌∷◌, ◌++◌, Bool, true, false, true≢false, Option, Some, None, inl, inr, refl, sym, ap, subst, arith, if◌then◌else◌}
use Rattle.std.specs.Prelude.{◌==◌, ◌&&◌, nat_lt, filter, reverse, cond, ⊤}
use Rattle.std.proofs.lemmas.Bool.Decides.{nat_tests}
use Rattle.std.proofs.lemmas.Grind.{reverse_onto}
use Rattle.kube_objects.specs.declared.key.Key.{Key}
use Rattle.kube_parts.specs.declared.parts.Kind.{Kind}
use Rattle.kube_objects.specs.declared.objects.Object.{Object}
use Rattle.kube_objects.specs.Keys.{AreRows, is_of_kind, key_of, kind_index, kind_of, meta_of, put_row, row_at, same_key, same_kind, without_row}
use Rattle.kube_objects.proofs.KeyOrder.{row_at-put_row, row_at-put_row_other, row_at-without_row, row_at-without_row_other}
use Rattle.kube_objects.proofs.SameKeys.{key_tells, same_kind-Decides}
use Rattle.call_types.specs.declared.entry.Entry.{Entry}
use Rattle.call_types.specs.declared.reply.Event.{Event}
use Rattle.call_types.specs.declared.reply.Change.{Change}
use Rattle.call_types.specs.declared.reply.Change.TheVariants as changes
use Rattle.call_types.specs.declared.reply.Refusal.TheVariants as refusals
use Rattle.call_types.specs.declared.reply.Reply.{Reply}
use Rattle.call_types.specs.declared.reply.Reply.TheVariants as replies
use Rattle.call_types.specs.declared.request.Request.{Request}
use Rattle.call_types.specs.declared.request.Request.TheVariants as requests
use Rattle.call_types.specs.declared.setup.Setup.{Setup}
use Rattle.binder_model.specs.Answers.{Removes, Says, Stores, after}
use Rattle.binder_model.specs.Reading.{Following, ListedAt, Unlisted, follow_on, following_of, reached_on}
use Rattle.binder_model.specs.Told.{Telling, later, listing, newest, of_event, own, told_by_events, told_of, tells_of}
use Rattle.binder_model.specs.Watching.{events_after, is_later}
use Rattle.binder_model.specs.World.{Effect, IsHistory, OnDevices, OnStore, SetsMoment, World, effect, log_after, reply_to, world, world_after}
use Rattle.model_laws.proofs.Goings.{watches_go_on}
use Rattle.model_laws.proofs.Histories.{rows_stand_in_order}
use Rattle.model_laws.proofs.Lists.{IsIn, none_some, one, some_or, some_reverse}
use Rattle.model_laws.proofs.Uids.{rises}
use Rattle.model_laws.proofs.Watched.{AreBetween, logs}
use Rattle.kube_objects.proofs.KeyOrder.{row_at_key}
use Rattle.model_laws.specs.Reads.{TellsRows}
use Rattle.model_laws.proofs.Readings.{found_stands, lists_tell_what_stands}
use Rattle.model_laws.proofs.Said.{EffectSays, IsOfDevices, Sayings, effect_said}
use Rattle.binder_model.specs.Answers.{reply_of}
use Rattle.call_types.specs.declared.reply.Events.{Events as EventsData}
use Rattle.call_types.specs.declared.request.SeatKind.{SeatKind}
use Rattle.settle_slot.specs.Told.Knowing.{HasReached}
use Rattle.settle_slot.specs.Told.Exact.{WatchesOn, reached_by}
use Rattle.settle_slot.specs.Told.Telling.{changed_at}
use Rattle.settle_slot.proofs.Told.Telling.{Changed, KeyStep, LeftAlone, are_same, is_same, not_same, step_of}
use Rattle.model_laws.proofs.ToldEvents.{reached_below as upto_below}

-- a row is no older than the last change of its key

dated_step : (w : World) (x : Effect) → AreRows w.store.rows → (key : Key) (o : Object) → row_at key (world_after w x).store.rows ≡ Some o
    → ((p : Object) → row_at key w.store.rows ≡ Some p → changed_at key w.log ≤ (meta_of p).version) → changed_at key (world_after w x).log ≤ (meta_of o).version
unfolding world_after after log_after
dated_step w (OnStore (Says reply)) rows key o is before = before o is
dated_step w (OnStore (Stores change new)) rows key o is before = elim (key_tells (key_of new) key) [
  | inl same ↦
      let own_one : new ≡ o = one new o (sym (row_at-put_row new w.store.rows) ∙ ap (λ j. row_at j (put_row new w.store.rows)) same ∙ is) in
      let at : (meta_of new).version ≡ (meta_of o).version = ap (λ (p : Object). (meta_of p).version) own_one in
      rw (is_same (key_of new) key same) (omega (arith, at))
  | inr other ↦ rw (not_same (key_of new) key other) (before o (sym (row_at-put_row_other key new w.store.rows other) ∙ is))
]
dated_step w (OnStore (Removes last)) rows key o is before = elim (key_tells (key_of last) key) [
  | inl same ↦ none_some (sym (row_at-without_row (key_of last) w.store.rows rows) ∙ ap (λ j. row_at j (without_row (key_of last) w.store.rows)) same ∙ is)
  | inr other ↦ rw (not_same (key_of last) key other) (before o (sym (row_at-without_row_other (key_of last) key w.store.rows other) ∙ is))
]
dated_step w (OnDevices a) rows key o is before = before o is
dated_step w (SetsMoment at) rows key o is before = before o is

rows_dated : (setup : Setup) (past : List Entry) (key : Key) (o : Object) → row_at key (world setup past).store.rows ≡ Some o → changed_at key (world setup past).log ≤ (meta_of o).version
rows_dated setup [] key o is = omega arith
rows_dated setup (e ∷ past) key o is = dated_step (world setup past) (effect setup (world setup past) e.kind e.request) (rows_stand_in_order setup past) key o is (rows_dated setup past key)

-- the last change of a key stands in the log

record IsChange (key : Key) (n : ℕ) (log : List Event) : Type 0 where
  event : Event
  there : IsIn event log
  own_key : key_of event.object ≡ key
  at : event.version ≡ n

change_in : (key : Key) (log : List Event) → 0 < changed_at key log → IsChange key (changed_at key log) log
change_in key [] some = absurd (omega (arith, some))
change_in key (x ∷ xs) some = by (same_key (key_of x.object) key) refl some (change_in key xs)
  where
    by : (b : Bool) → same_key (key_of x.object) key ≡ b → 0 < (if b then x.version else changed_at key xs) → (0 < changed_at key xs → IsChange key (changed_at key xs) xs)
        → IsChange key (if b then x.version else changed_at key xs) (x ∷ xs)
    by true e s rest = record { event = x; there = inl refl; own_key = are_same (key_of x.object) key e; at = refl }
    by false e s rest = let c = rest s in record { event = c.event; there = inr c.there; own_key = c.own_key; at = c.at }

up_to : (low high : ℕ) (es : List Event) → AreBetween low high es → (y : Event) → IsIn y es → y.version ≤ high
up_to low high [] b y h = absurd h
up_to low high (e ∷ es) b y (inl is) = let h = b.1 in let v : e.version ≡ y.version = ap (λ (z : Event). z.version) is in omega (arith, h, v)
up_to low high (e ∷ es) b y (inr more) = up_to low high es b.2 y more

pub changed_below : (setup : Setup) (past : List Entry) (key : Key) → changed_at key (world setup past).log ≤ (world setup past).store.version
changed_below setup past key = by (nat_lt 0 (changed_at key (world setup past).log)) refl
  where
    by : (b : Bool) → nat_lt 0 (changed_at key (world setup past).log) ≡ b → changed_at key (world setup past).log ≤ (world setup past).store.version
    by true e =
        let c = change_in key (world setup past).log (grind (arith, nat_tests, e)) in
        let low = up_to 0 _ (world setup past).log (logs setup past 0) c.event c.there in
        let at = c.at in
        omega (arith, low, at)
    by false e = grind (arith, nat_tests, e)

-- membership

pub in_filter : (p : Event → Bool) (y : Event) (xs : List Event) → IsIn y xs → p y ≡ true → IsIn y (filter p xs)
in_filter p y [] h e = absurd h
in_filter p y (x ∷ xs) (inl is) e = let passes : p x ≡ true = ap p is ∙ e in rw passes (inl is)
in_filter p y (x ∷ xs) (inr more) e = by (p x) (in_filter p y xs more e)
  where
    by : (b : Bool) → IsIn y (filter p xs) → IsIn y (cond b (x ∷ filter p xs) (filter p xs))
    by true m = inr m
    by false m = m

in_left : (y : Event) (xs ys : List Event) → IsIn y xs → IsIn y (xs ++ ys)
in_left y [] ys h = absurd h
in_left y (x ∷ xs) ys (inl is) = inl is
in_left y (x ∷ xs) ys (inr more) = inr (in_left y xs ys more)

in_right : (y : Event) (xs ys : List Event) → IsIn y ys → IsIn y (xs ++ ys)
in_right y [] ys h = h
in_right y (x ∷ xs) ys h = inr (in_right y xs ys h)

pub in_reverse : (y : Event) (xs : List Event) → IsIn y xs → IsIn y (reverse xs)
in_reverse y [] h = absurd h
in_reverse y (x ∷ xs) (inl is) = subst (IsIn y) (sym (reverse_onto xs x [])) (in_right y (reverse xs) (x ∷ []) (inl is))
in_reverse y (x ∷ xs) (inr more) = subst (IsIn y) (sym (reverse_onto xs x [])) (in_left y (reverse xs) (x ∷ []) (in_reverse y xs more))

pub filter_passes : (p : Event → Bool) (y : Event) (xs : List Event) → IsIn y (filter p xs) → p y ≡ true
filter_passes p y [] h = absurd h
filter_passes p y (x ∷ xs) h = by (p x) refl h (filter_passes p y xs)
  where
    by : (b : Bool) → p x ≡ b → IsIn y (cond b (x ∷ filter p xs) (filter p xs)) → (IsIn y (filter p xs) → p y ≡ true) → p y ≡ true
    by true e (inl is) rest = ap p (sym is) ∙ e
    by true e (inr more) rest = rest more
    by false e more rest = rest more

-- told at a version or later

pub reached_first : (n : ℕ) (a b : Option Telling) → HasReached n a → HasReached n (later a b)
reached_first n None b h = none_some h.is
reached_first n (Some a) None h = h
reached_first n (Some a) (Some b) h = by (nat_lt a.version b.version) refl
  where
    low : n ≤ a.version
    low = let up = h.up in let at : a.version ≡ h.telling.version = ap (λ (t : Telling). t.version) (one a h.telling h.is) in omega (arith, up, at)

    by : (t : Bool) → nat_lt a.version b.version ≡ t → HasReached n (if t then Some b else Some a)
    by true e = record { telling = b; is = refl; up = grind (arith, nat_tests, low, e) }
    by false e = record { telling = a; is = refl; up = low }

pub reached_second : (n : ℕ) (a b : Option Telling) → HasReached n b → HasReached n (later a b)
reached_second n None b h = h
reached_second n (Some a) None h = none_some h.is
reached_second n (Some a) (Some b) h = by (nat_lt a.version b.version) refl
  where
    low : n ≤ b.version
    low = let up = h.up in let at : b.version ≡ h.telling.version = ap (λ (t : Telling). t.version) (one b h.telling h.is) in omega (arith, up, at)

    by : (t : Bool) → nat_lt a.version b.version ≡ t → HasReached n (if t then Some b else Some a)
    by true e = record { telling = b; is = refl; up = low }
    by false e = record { telling = a; is = refl; up = grind (arith, nat_tests, low, e) }

-- a watch reaches no further than the store

abbrev ReachesUpTo : ℕ → Reply → Type 0
ReachesUpTo n (replies.Events events) = events.upto ≤ n
ReachesUpTo n reply = ⊤

reaches_effect : (n : ℕ) (x : Effect) → EffectSays (ReachesUpTo n) x → ReachesUpTo n (reply_to x)
unfolding reply_to reply_of
reaches_effect n (OnStore (Says reply)) s = s
reaches_effect n (OnStore (Stores change o)) s = tt
reaches_effect n (OnStore (Removes o)) s = tt
reaches_effect n (OnDevices a) s = s.1
reaches_effect n (SetsMoment at) s = tt

of_devices : (n : ℕ) (reply : Reply) → IsOfDevices reply → ReachesUpTo n reply
of_devices n (replies.Events events) is = absurd is
of_devices n reply is = tt

reaches : (setup : Setup) (past : List Entry) (kind : SeatKind) (request : Request) → ReachesUpTo (world setup past).store.version (reply_to (effect setup (world setup past) kind request))
reaches setup past kind request = reaches_effect _ _ (effect_said setup (world setup past) kind request sayings_).said
  where
    sayings_ : Sayings (world setup past) request (ReachesUpTo (world setup past).store.version)
    sayings_ = record {
      refused = λ r. tt;
      again = λ o second. tt;
      found = λ key o is. tt;
      listed = λ k namespace. tt;
      watched = λ k from. upto_below k from (world setup past).store.version (world setup past).log (logs setup past 0);
      timed = tt;
      device = of_devices (world setup past).store.version;
    }

-- what the events of a key tell

events_reach : (key : Key) (es : List Event) (y : Event) → IsIn y es → key_of y.object ≡ key → HasReached y.version (told_by_events es key)
events_reach key [] y h own_key = absurd h
events_reach key (x ∷ es) y (inl is) own_key =
    let here : same_key (key_of x.object) key ≡ true = is_same (key_of x.object) key (ap (λ (z : Event). key_of z.object) is ∙ own_key) in
    let at : x.version ≡ y.version = ap (λ (z : Event). z.version) is in
    rw here (reached_first y.version (Some (of_event x.change x.object x.version)) (told_by_events es key) (of_one x at))
  where
    of_one : (z : Event) → z.version ≡ y.version → HasReached y.version (Some (of_event z.change z.object z.version))
    of_one z at = record { telling = of_event z.change z.object z.version; is = refl; up = by z.change }
      where
        by : (c : Change) → y.version ≤ (of_event c z.object z.version).version
        by changes.Added = omega (arith, at)
        by changes.Modified = omega (arith, at)
        by changes.Deleted = omega (arith, at)
events_reach key (x ∷ es) y (inr more) own_key = reached_second y.version _ (told_by_events es key) (events_reach key es y more own_key)

-- caught up: the key was changed after what was reached, or its last change was told
abbrev pub IsCaught : World → Key → ℕ → Option Telling → Type 0
IsCaught w key from x = (from < changed_at key w.log) ⊎ HasReached (changed_at key w.log) x

still : (setup : Setup) (e : Entry) (past : List Entry) (key : Key) (from : ℕ) (x y : Option Telling) → from ≤ (world setup past).store.version
    → ((n : ℕ) → HasReached n x → HasReached n y) → IsCaught (world setup past) key from x → IsCaught (world setup (e ∷ past)) key from y
still setup e past key from x y low more caught = by (step_of setup e past key) caught
  where
    by : KeyStep (world setup past) (world setup (e ∷ past)) key → IsCaught (world setup past) key from x → IsCaught (world setup (e ∷ past)) key from y
    by (Changed at) c = inl (omega (arith, low, at))
    by (LeftAlone row at) (inl is_after) = inl (omega (arith, is_after, at))
    by (LeftAlone row at) (inr reached) = inr (subst (λ n. HasReached n y) (sym at) (more _ reached))

pub kind_is : (k kind : Kind) → same_kind k kind ≡ true → k ≡ kind
kind_is k kind e = (same_kind-Decides k kind).0 e

abbrev pub AllCaught : Setup → List Entry → ℕ → Kind → ℕ → Type 0
AllCaught setup past seat kind from =
    (from ≤ (world setup past).store.version) × ((key : Key) → key.kind ≡ kind → IsCaught (world setup past) key from (newest (own seat past) key))

-- one entry of the seat, which it was told
module _ (setup : Setup) (e : Entry) (past : List Entry) (seat : ℕ) (kind : Kind) (answered : e.reply ≡ reply_to (effect setup (world setup past) e.kind e.request)) (told : e.told ≡ true)
    (before : (from : ℕ) → reached_by (following_of (own seat past) kind) ≡ Some from → AllCaught setup past seat kind from)
    (watches : (start reached : ℕ) → e.request ≡ requests.Watch kind start → reached_by (following_of (own seat past) kind) ≡ Some reached → start ≤ reached) where
  abbrev mine : List Entry
  mine = own seat past

  abbrev w : World
  w = world setup past

  -- what holds after it
  abbrev Now : ℕ → Type 0
  Now from = (from ≤ (world setup (e ∷ past)).store.version) × ((key : Key) → key.kind ≡ kind → IsCaught (world setup (e ∷ past)) key from (later (told_of e key) (newest (own seat past) key)))

  up : w.store.version ≤ (world setup (e ∷ past)).store.version
  up = rises setup (e ∷ []) past

  same : (from : ℕ) → reached_by (following_of (own seat past) kind) ≡ Some from → Now from
  same from is =
      let b = before from is in
      let low = b.0 in
      let more = up in
      (omega (arith, low, more), λ key of. still setup e past key from (newest (own seat past) key) _ low (λ n h. reached_second n (told_of e key) (newest (own seat past) key) h) (b.1 key of))

  told_is : (key : Key) (request : Request) (reply : Reply) → e.request ≡ request → e.reply ≡ reply → told_of e key ≡ tells_of request reply key
  told_is key request reply er ea = rw (told, er, ea) refl

  -- a list of the kind

  abbrev items_of : Reply → List Object
  items_of (replies.Listed items version) = items
  items_of reply = []

  abbrev version_of : Reply → ℕ
  version_of (replies.Listed items version) = version
  version_of reply = 0

  listing_reaches : (items : List Object) (version : ℕ) → TellsRows w kind None items version → (key : Key) (x : Option Object)
      → row_at key items ≡ x → HasReached (changed_at key w.log) (Some (listing version x))
  listing_reaches items version tells key None is =
      let at = tells.at in
      let low = changed_below setup past key in
      record { telling = listing version None; is = refl; up = omega (arith, at, low) }
  listing_reaches items version tells key (Some o) is =
      let there = tells.stands o (found_stands key o items is) in
      let own_key : key_of o ≡ key = row_at_key key o items is in
      record { telling = listing version (Some o); is = refl; up = rows_dated setup past key o (ap (λ j. row_at j w.store.rows) (sym own_key) ∙ there) }

  listed : (items : List Object) (version : ℕ) → e.request ≡ requests.List kind None → e.reply ≡ replies.Listed items version → Now version
  listed items version er ea =
      let at = tells.at in
      let more = up in
      (omega (arith, at, more), λ key of. by key of (step_of setup e past key))
    where
      l : (i : List Object) × ((v : ℕ) × ((reply_to (effect setup w e.kind (requests.List kind None)) ≡ replies.Listed i v) × TellsRows w kind None i v))
      l = lists_tell_what_stands setup w e.kind kind None (rows_stand_in_order setup past)

      path : replies.Listed l.0 l.1.0 ≡ replies.Listed items version
      path = sym (answered ∙ ap (λ r. reply_to (effect setup w e.kind r)) er ∙ l.1.1.0) ∙ ea

      tells : TellsRows w kind None items version
      tells = subst (λ v. TellsRows w kind None items v) (ap version_of path) (subst (λ i. TellsRows w kind None i l.1.0) (ap items_of path) l.1.1.1)

      by : (key : Key) → key.kind ≡ kind → KeyStep w (world setup (e ∷ past)) key → IsCaught (world setup (e ∷ past)) key version (later (told_of e key) (newest (own seat past) key))
      by key of (Changed c) = let at = tells.at in inl (omega (arith, at, c))
      by key of (LeftAlone row c) =
          let covered : (kind_index kind == kind_index key.kind) ≡ true = let same_one : kind_index key.kind ≡ kind_index kind = ap kind_index of in grind (arith, nat_tests, same_one) in
          let t : told_of e key ≡ Some (listing version (row_at key items)) =
          told_is key (requests.List kind None) (replies.Listed items version) er ea ∙ ap (λ b. if b then Some (listing version (row_at key items)) else None) covered in
          inr (reached_first _ (told_of e key) (newest (own seat past) key)
          (subst (λ x. HasReached (changed_at key (world setup (e ∷ past)).log) x) (sym t)
          (subst (λ n. HasReached n (Some (listing version (row_at key items)))) (sym c) (listing_reaches items version tells key (row_at key items) refl))))

  -- a watch of the kind

  watched : (start : ℕ) (events : EventsData) (reached : ℕ) → e.request ≡ requests.Watch kind start → e.reply ≡ replies.Events events
      → reached_by (following_of (own seat past) kind) ≡ Some reached → Now events.upto
  watched start events reached er ea is =
      let low = upto in
      let more = up in
      (omega (arith, low, more), λ key of. by key of (step_of setup e past key))
    where
      upto : events.upto ≤ w.store.version
      upto = subst (ReachesUpTo w.store.version) (sym answered ∙ ea) (reaches setup past e.kind e.request)

      goes : events_after kind start w.log ≡ events.events ++ events_after kind events.upto w.log
      goes = watches_go_on setup [] past e.kind kind start events (sym (answered ∙ ap (λ r. reply_to (effect setup w e.kind r)) er) ∙ ea)

      -- an event of the kind after what was reached, up to what is reached now, was told
      there : (y : Event) → IsIn y w.log → is_of_kind kind y.object ≡ true → reached < y.version → y.version ≤ events.upto → IsIn y events.events
      there y h of since within =
          let first = watches start reached er is in
          let is_after : is_later kind start y ≡ true = let n : nat_lt start y.version ≡ true = grind (arith, nat_tests, first, since) in rw (n, of) refl in
          let all : IsIn y (events.events ++ events_after kind events.upto w.log) =
          subst (IsIn y) goes (in_reverse y (filter (is_later kind start) w.log) (in_filter (is_later kind start) y w.log h is_after)) in
          elim (some_or (λ z. z ≡ y) events.events (events_after kind events.upto w.log) all) [
            | inl told_it ↦ told_it
            | inr rest ↦ absurd (not_late (filter_passes (is_later kind events.upto) y w.log (some_reverse (λ z. z ≡ y) (filter (is_later kind events.upto) w.log) rest)))
          ]
        where
          not_late : is_later kind events.upto y ≡ true → ⊥
          not_late e2 = let n : nat_lt events.upto y.version ≡ false = grind (arith, nat_tests, within) in true≢false (sym e2 ∙ ap (λ b. b && is_of_kind kind y.object) n)

      tells : (key : Key) → key.kind ≡ kind → reached < changed_at key w.log → changed_at key w.log ≤ events.upto → HasReached (changed_at key w.log) (told_of e key)
      tells key of since within =
          let c = change_in key w.log (omega (arith, since)) in
          let at = c.at in
          let of_y : is_of_kind kind c.event.object ≡ true = (same_kind-Decides (kind_of c.event.object) kind).1 (ap (λ (j : Key). j.kind) c.own_key ∙ of) in
          let inside = there c.event c.there of_y (omega (arith, since, at)) (omega (arith, within, at)) in
          subst (λ x. HasReached (changed_at key w.log) x) (sym (told_is key (requests.Watch kind start) (replies.Events events) er ea))
          (subst (λ n. HasReached n (told_by_events events.events key)) at (events_reach key events.events c.event inside c.own_key))

      old : (key : Key) → key.kind ≡ kind → IsCaught w key reached (newest (own seat past) key)
      old key of = (before reached is).1 key of

      by : (key : Key) → key.kind ≡ kind → KeyStep w (world setup (e ∷ past)) key → IsCaught (world setup (e ∷ past)) key events.upto (later (told_of e key) (newest (own seat past) key))
      by key of (Changed c) = let low = upto in inl (omega (arith, low, c))
      by key of (LeftAlone row c) = split (nat_lt events.upto (changed_at key w.log)) refl (old key of)
        where
          put : HasReached (changed_at key w.log) (later (told_of e key) (newest (own seat past) key))
              → IsCaught (world setup (e ∷ past)) key events.upto (later (told_of e key) (newest (own seat past) key))
          put h = inr (subst (λ n. HasReached n (later (told_of e key) (newest (own seat past) key))) (sym c) h)

          split : (b : Bool) → nat_lt events.upto (changed_at key w.log) ≡ b → IsCaught w key reached (newest (own seat past) key)
              → IsCaught (world setup (e ∷ past)) key events.upto (later (told_of e key) (newest (own seat past) key))
          split true e2 o = let n : events.upto < changed_at key w.log = grind (arith, nat_tests, e2) in inl (omega (arith, n, c))
          split false e2 (inr h) = put (reached_second _ (told_of e key) (newest (own seat past) key) h)
          split false e2 (inl since) =
              let within : changed_at key w.log ≤ events.upto = grind (arith, nat_tests, e2) in
              put (reached_first _ (told_of e key) (newest (own seat past) key) (tells key of since within))

  follow_to : (from : ℕ) (f : Following) → following_of (own seat past) kind ≡ f → (events : EventsData) → (start : ℕ) → e.request ≡ requests.Watch kind start → e.reply ≡ replies.Events events
      → reached_by (reached_on events.upto f) ≡ Some from → Now from
  follow_to from Unlisted is events start er ea h = none_some h
  follow_to from (ListedAt version None) is events start er ea h = subst Now (one events.upto from h) (watched start events version er ea (ap reached_by is))
  follow_to from (ListedAt version (Some upto)) is events start er ea h = subst Now (one events.upto from h) (watched start events upto er ea (ap reached_by is))

  told_on : (from : ℕ) (request : Request) (reply : Reply) → e.request ≡ request → e.reply ≡ reply
      → reached_by (follow_on request reply kind (following_of (own seat past) kind)) ≡ Some from → Now from
  told_on from (requests.List k None) (replies.Listed items version) er ea h = by (same_kind k kind) refl h
    where
      by : (b : Bool) → same_kind k kind ≡ b → reached_by (if b then ListedAt version None else following_of (own seat past) kind) ≡ Some from → Now from
      by true s g = subst Now (one version from g) (listed items version (er ∙ ap (λ j. requests.List j None) (kind_is k kind s)) ea)
      by false s g = same from g
  told_on from (requests.Watch k start) (replies.Refused (refusals.Gone version)) er ea h = by (same_kind k kind) h
    where
      by : (b : Bool) → reached_by (if b then Unlisted else following_of (own seat past) kind) ≡ Some from → Now from
      by true g = none_some g
      by false g = same from g
  told_on from (requests.Watch k start) (replies.Events events) er ea h = by (same_kind k kind) refl h
    where
      by : (b : Bool) → same_kind k kind ≡ b → reached_by (if b then reached_on events.upto (following_of (own seat past) kind) else following_of (own seat past) kind) ≡ Some from → Now from
      by true s g = follow_to from (following_of (own seat past) kind) refl events start (er ∙ ap (λ j. requests.Watch j start) (kind_is k kind s)) ea g
      by false s g = same from g
  told_on from (requests.List k None) _ er ea h = same from h
  told_on from (requests.Watch k start) _ er ea h = same from h
  told_on from _ _ er ea h = same from h

pub caught : (setup : Setup) (past : List Entry) (seat : ℕ) (kind : Kind) → IsHistory setup past → WatchesOn kind (own seat past) → (from : ℕ)
    → reached_by (following_of (own seat past) kind) ≡ Some from → AllCaught setup past seat kind from
caught setup [] seat kind history watches from is = none_some is
caught setup (e ∷ past) seat kind history watches from is = by (e.seat == seat) e.told refl watches is (λ on. caught setup past seat kind history.0 on)
  where
    by : (mine told : Bool) → e.told ≡ told → WatchesOn kind (if mine then e ∷ own seat past else own seat past)
        → reached_by (following_of (if mine then e ∷ own seat past else own seat past) kind) ≡ Some from
        → (WatchesOn kind (own seat past) → (v : ℕ) → reached_by (following_of (own seat past) kind) ≡ Some v → AllCaught setup past seat kind v)
        → (from ≤ (world setup (e ∷ past)).store.version)
        × ((key : Key) → key.kind ≡ kind → IsCaught (world setup (e ∷ past)) key from (newest (if mine then e ∷ own seat past else own seat past) key))
    by false told t on h before =
        let b = before on from h in
        let low = b.0 in
        let more = rises setup (e ∷ []) past in
        (omega (arith, low, more), λ key of. still setup e past key from (newest (own seat past) key) (newest (own seat past) key) low (λ n g. g) (b.1 key of))
    by true true t on h before =
        let g : reached_by (follow_on e.request e.reply kind (following_of (own seat past) kind)) ≡ Some from = rw t at h in
        told_on setup e past seat kind history.1 t (before on.0) on.1 from e.request e.reply refl refl g
    by true false t on h before =
        let g : reached_by (following_of (own seat past) kind) ≡ Some from = rw t at h in
        let b = before on.0 from g in
        let low = b.0 in
        let more = rises setup (e ∷ []) past in
        (omega (arith, low, more), λ key of. still setup e past key from (newest (own seat past) key) _ low (λ n k. reached_second n (told_of e key) (newest (own seat past) key) k) (b.1 key of))
