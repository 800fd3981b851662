-- A list is in order; and a watch goes on where the last one ended.
use Rattle.std.proofs.Common.{sym, refl, subst, ap, ◌∙◌, true≢false, arith}
use Rattle.std.proofs.lemmas.Bool.Decides.{nat_tests}
use Rattle.std.proofs.lemmas.List.{append_assoc, append-nil, reverse-append, take-append-drop}
use Rattle.std.proofs.lemmas.List.Elements.{filter-append}
use Rattle.std.proofs.lemmas.Grind.{reverse_onto}
use Rattle.std.specs.Prelude.{ℕ, zero, suc, ◌≡◌, ◌≤◌, ◌<◌, ◌+◌, ◌==◌, Bool, true, false, ◌&&◌, List, [], ◌∷◌, ◌++◌, Option, Some, None, nat_lt, cond, filter, reverse, take, drop, length, ⊤}
use Rattle.plain_data.specs.Rows.{IsAfter}
use Rattle.kube_parts.specs.declared.parts.Kind.{Kind}
use Rattle.kube_objects.specs.declared.objects.Object.{Object}
use Rattle.kube_objects.specs.Keys.{AreRows, key_cmp, key_of, is_of_kind, rows_of}
use Rattle.call_types.specs.declared.entry.Entry.{Entry}
use Rattle.call_types.specs.declared.setup.Setup.{Setup}
use Rattle.call_types.specs.declared.request.SeatKind.{SeatKind}
use Rattle.call_types.specs.declared.request.Request.TheVariants.{Watch}
use Rattle.call_types.specs.declared.reply.Event.{Event}
use Rattle.call_types.specs.declared.reply.Events.{Events as EventsData}
use Rattle.call_types.specs.declared.reply.Reply.{Reply}
use Rattle.call_types.specs.declared.reply.Reply.TheVariants as replies
use Rattle.binder_model.specs.Answers.{is_in_namespace, listed_rows, list, outcome, reply_of, after, Says, Stores, Removes}
use Rattle.binder_model.specs.Devices.{device_answer}
use Rattle.binder_model.specs.Watching.{oldest, is_later, events_after, last_version, told_events, reached_version, most_events}
use Rattle.binder_model.specs.World.{base, World, Effect, OnStore, OnDevices, SetsMoment, world, world_after, log_after, effect, on_devices, reply_to, watch}
use Rattle.model_laws.specs.Reads.{ListsAreInOrder, WatchesGoOn, events_by}
use Rattle.model_laws.proofs.Effects.{OfStore, on_effects}
use Rattle.model_laws.proofs.Versions.{NextOf, outcome_next}
use Rattle.model_laws.proofs.Watched.{lt_true, lt_false, since, later_pass, between_wider}

after_filter : (p : Object → Bool) (x : Object) (os : List Object) → IsAfter key_cmp key_of x os → IsAfter key_cmp key_of x (filter p os)
after_filter p x [] a = tt
after_filter p x (o ∷ os) a = by (p o) (after_filter p x os a.1)
  where
    by : (b : Bool) → IsAfter key_cmp key_of x (filter p os) → IsAfter key_cmp key_of x (cond b (o ∷ filter p os) (filter p os))
    by true rest = (a.0, rest)
    by false rest = rest

pub rows_filter : (p : Object → Bool) (os : List Object) → AreRows os → AreRows (filter p os)
rows_filter p [] r = tt
rows_filter p (o ∷ os) r = by (p o) (rows_filter p os r.1)
  where
    by : (b : Bool) → AreRows (filter p os) → AreRows (cond b (o ∷ filter p os) (filter p os))
    by true rest = (after_filter p o os r.0, rest)
    by false rest = rest

listed_rise : (namespace : Option (List ℕ)) (os : List Object) → AreRows os → AreRows (listed_rows namespace os)
listed_rise None os r = r
listed_rise (Some namespace) os r = rows_filter (is_in_namespace namespace) os r

items_are : (a b : List Object) (n m : ℕ) → replies.Listed a n ≡ replies.Listed b m → a ≡ b
items_are a b n m e = ap of e
  where
    of : Reply → List Object
    of (replies.Listed items version) = items
    of reply = a

pub lists_are_in_order : ListsAreInOrder
unfolding effect on_devices device_answer outcome list reply_to reply_of
lists_are_in_order setup w kind of_kind namespace items version rows told =
    subst AreRows (items_are (listed_rows namespace (rows_of of_kind w.store.rows)) items w.store.version version told)
    (listed_rise namespace (rows_of of_kind w.store.rows) (rows_filter (is_of_kind of_kind) w.store.rows rows))

-- events in rising order of their versions, above one version and up to another

abbrev Climbs : ℕ → ℕ → List Event → Type 0
Climbs low high [] = ⊤
Climbs low high (e ∷ es) = (low < e.version) × (e.version ≤ high) × Climbs e.version high es

above : ℕ → Event → Bool
above n e = nat_lt n e.version

-- those above the first bound are all of them, and none is above the second
all_above : (n low high : ℕ) (es : List Event) → n ≤ low → Climbs low high es → filter (above n) es ≡ es
unfolding above
all_above n low high [] le c = refl
all_above n low high (e ∷ es) le c =
    let c0 = c.0 in
    let is : nat_lt n e.version ≡ true = lt_true n e.version (omega (arith, le, c0)) in
    rw (is, all_above n e.version high es (omega (arith, le, c0)) c.2) refl

none_above : (n low high : ℕ) (es : List Event) → high ≤ n → Climbs low high es → filter (above n) es ≡ []
unfolding above
none_above n low high [] le c = refl
none_above n low high (e ∷ es) le c =
    let c1 = c.1 in
    let is : nat_lt n e.version ≡ false = lt_false n e.version (omega (arith, le, c1)) in
    rw (is, none_above n e.version high es le c.2) refl

-- a lower bound below, a higher one above
wider : (low lower high : ℕ) (es : List Event) → lower ≤ low → Climbs low high es → Climbs lower high es
wider low lower high [] l c = tt
wider low lower high (e ∷ es) l c = let c0 = c.0 in (omega (arith, l, c0), c.1, c.2)

higher : (low high top : ℕ) (es : List Event) → high ≤ top → Climbs low high es → Climbs low top es
higher low high top [] l c = tt
higher low high top (e ∷ es) l c = let c1 = c.1 in (c.0, omega (arith, l, c1), higher e.version high top es l c.2)

climbs_on : (low middle high : ℕ) (xs ys : List Event) → low ≤ middle → middle ≤ high → Climbs low middle xs → Climbs middle high ys → Climbs low high (xs ++ ys)
climbs_on low middle high [] ys l m cx cy = wider middle low high ys l cy
climbs_on low middle high (x ∷ xs) ys l m cx cy =
    let c1 = cx.1 in (cx.0, omega (arith, m, c1), climbs_on x.version middle high xs ys c1 m cx.2 cy)

climbs_filter : (p : Event → Bool) (low high : ℕ) (es : List Event) → Climbs low high es → Climbs low high (filter p es)
climbs_filter p low high [] c = tt
climbs_filter p low high (e ∷ es) c = by (p e) (climbs_filter p e.version high es c.2)
  where
    by : (b : Bool) → Climbs e.version high (filter p es) → Climbs low high (cond b (e ∷ filter p es) (filter p es))
    by true rest = (c.0, c.1, rest)
    by false rest = let c0 = c.0 in wider e.version low high (filter p es) (omega (arith, c0)) rest

-- what passes the test of a watch lies above its start
climbs_later : (k : Kind) (from low high : ℕ) (es : List Event) → Climbs low high es → Climbs from high (filter (is_later k from) es)
climbs_later k from low high [] c = tt
climbs_later k from low high (e ∷ es) c = by (nat_lt from e.version) (is_of_kind k e.object) refl (climbs_later k from e.version high es c.2)
  where
    by : (a b : Bool) → nat_lt from e.version ≡ a → Climbs from high (filter (is_later k from) es) → Climbs from high (cond (a && b) (e ∷ filter (is_later k from) es) (filter (is_later k from) es))
    by true true is rest = (grind (arith, nat_tests, is), c.1, climbs_filter (is_later k from) e.version high es c.2)
    by true false is rest = rest
    by false b is rest = rest

-- a test of a later start is one more test
narrow : (k : Kind) (from upto : ℕ) → from ≤ upto → (es : List Event) → filter (is_later k upto) es ≡ filter (above upto) (filter (is_later k from) es)
unfolding above
narrow k from upto le [] = refl
narrow k from upto le (e ∷ es) = by (nat_lt from e.version) (nat_lt upto e.version) (is_of_kind k e.object) refl refl (narrow k from upto le es)
  where
    by : (a b c : Bool) → nat_lt from e.version ≡ a → nat_lt upto e.version ≡ b → filter (is_later k upto) es ≡ filter (above upto) (filter (is_later k from) es)
        → cond (b && c) (e ∷ filter (is_later k upto) es) (filter (is_later k upto) es) ≡ filter (above upto) (cond (a && c) (e ∷ filter (is_later k from) es) (filter (is_later k from) es))
    by true true true ea eb rest = rw (eb, rest) refl
    by true false true ea eb rest = rw (eb, rest) refl
    by true true false ea eb rest = rest
    by true false false ea eb rest = rest
    by false true false ea eb rest = rest
    by false false false ea eb rest = rest
    by false false true ea eb rest = rest
    by false true true ea eb rest = absurd (grind (arith, nat_tests, ea, eb, le))

filter-reverse : (p : Event → Bool) (es : List Event) → reverse (filter p es) ≡ filter p (reverse es)
filter-reverse p [] = refl
filter-reverse p (e ∷ es) = by (p e) refl (filter-reverse p es) ∙ sym (ap (filter p) (reverse_onto es e []) ∙ filter-append p (reverse es) (e ∷ []))
  where
    by : (b : Bool) → p e ≡ b → reverse (filter p es) ≡ filter p (reverse es) → reverse (cond b (e ∷ filter p es) (filter p es)) ≡ filter p (reverse es) ++ filter p (e ∷ [])
    by true is rest = rw is (reverse_onto (filter p es) e [] ∙ ap (λ l. l ++ e ∷ []) rest)
    by false is rest = rw is (rest ∙ sym (append-nil (filter p (reverse es))))

-- the rest beyond what one answer has

cut_off : (n : ℕ) (es : List Event) → (length (take n es) == n) ≡ false → drop n es ≡ []
cut_off zero es e = absurd (true≢false e)
cut_off (suc n) [] e = refl
cut_off (suc n) (x ∷ es) e = cut_off n es (grind (arith, nat_tests, e))

last_from : ℕ → List Event → ℕ
last_from low [] = low
last_from low (e ∷ es) = last_from e.version es

last_is : (low none : ℕ) (es : List Event) (n : ℕ) → (length es == suc n) ≡ true → last_version none es ≡ last_from low es
unfolding last_from
last_is low none [] n e = absurd (grind (arith, nat_tests, e))
last_is low none (x ∷ es) n e = same x.version es none
  where
    same : (v : ℕ) (xs : List Event) (m : ℕ) → last_version v xs ≡ last_from v xs
    same v [] m = refl
    same v (y ∷ ys) m = same y.version ys m

record Parts (low high : ℕ) (xs ys : List Event) : Type 0 where
  up : low ≤ last_from low xs
  under : last_from low xs ≤ high
  first : Climbs low (last_from low xs) xs
  second : Climbs (last_from low xs) high ys

parts : (low high : ℕ) (xs ys : List Event) → low ≤ high → Climbs low high (xs ++ ys) → Parts low high xs ys
unfolding last_from
parts low high [] ys le c = record { up = omega arith; under = le; first = tt; second = c }
parts low high (x ∷ xs) ys le c =
    let p = parts x.version high xs ys c.1 c.2 in
    let p0 = p.up in
    let c0 = c.0 in
    record { up = omega (arith, p0, c0); under = p.under; first = (c.0, p0, p.first); second = p.second }

-- an answer, and what lies above its end
record IsCutAt (from version : ℕ) (es : List Event) : Type 0 where
  reaches : from ≤ reached_version version (take most_events es)
  within : reached_version version (take most_events es) ≤ version
  rest : es ≡ take most_events es ++ filter (above (reached_version version (take most_events es))) es

cut : (from version : ℕ) (es : List Event) → from ≤ version → Climbs from version es → IsCutAt from version es
cut from version es le c = by (length (take most_events es) == most_events) refl
  where
    whole : take most_events es ++ drop most_events es ≡ es
    whole = take-append-drop most_events es

    full : (length (take most_events es) == most_events) ≡ true → Parts from version (take most_events es) (drop most_events es) → IsCutAt from version es
    full e p =
        let last = last_from from (take most_events es) in
        let end : reached_version version (take most_events es) ≡ last = rw e (last_is from version (take most_events es) 63 e) in
        let none : filter (above last) (take most_events es) ≡ [] = none_above last from last (take most_events es) (omega arith) p.first in
        let all : filter (above last) (drop most_events es) ≡ drop most_events es = all_above last last version (drop most_events es) (omega arith) p.second in
        let kept : filter (above last) es ≡ drop most_events es =
        ap (filter (above last)) (sym whole) ∙ filter-append (above last) (take most_events es) (drop most_events es) ∙ ap (λ l. l ++ filter (above last) (drop most_events es)) none ∙ all in
        record {
          reaches = rw end p.up;
          within = rw end p.under;
          rest = rw end (sym (ap (λ l. take most_events es ++ l) kept ∙ whole));
        }

    by : (b : Bool) → (length (take most_events es) == most_events) ≡ b → IsCutAt from version es
    by true e = full e (parts from version (take most_events es) (drop most_events es) le (subst (Climbs from version) (sym whole) c))
    by false e =
        let end : reached_version version (take most_events es) ≡ version = rw e refl in
        let none : drop most_events es ≡ [] = cut_off most_events es e in
        let all : take most_events es ≡ es = sym (append-nil (take most_events es)) ∙ ap (λ l. take most_events es ++ l) (sym none) ∙ whole in
        record {
          reaches = rw end le;
          within = rw end (omega arith);
          rest = rw end (sym (ap (λ l. l ++ filter (above version) es) all ∙ ap (λ l. es ++ l) (none_above version from version es (omega arith) c) ∙ append-nil es));
        }

-- the log climbs

one_more : (version : ℕ) (e : Event) (log : List Event) → e.version ≡ version + 1 → Climbs 0 version (reverse log) → Climbs 0 (version + 1) (reverse (e ∷ log))
one_more version e log next c =
    subst (Climbs 0 (version + 1)) (sym (reverse_onto log e []))
    (climbs_on 0 version (version + 1) (reverse log) (e ∷ []) (omega arith) (omega arith) c (omega (arith, next), omega (arith, next), tt))

climbs_next : (w : World) (x : Effect) → OfStore (NextOf (w.store.version + 1)) x → Climbs 0 w.store.version (reverse w.log) → Climbs 0 (world_after w x).store.version (reverse (world_after w x).log)
unfolding world_after after log_after
climbs_next w (OnStore (Says reply)) k c = c
climbs_next w (OnStore (Stores change o)) k c = one_more w.store.version _ w.log k c
climbs_next w (OnStore (Removes o)) k c = one_more w.store.version _ w.log k c
climbs_next w (OnDevices a) k c = c
climbs_next w (SetsMoment at) k c = c

log_climbs : (setup : Setup) (past : List Entry) → Climbs 0 (world setup past).store.version (reverse (world setup past).log)
log_climbs setup [] = tt
log_climbs setup (e ∷ past) =
    let w = world setup past in
    climbs_next w _ (on_effects (λ r. tt) setup w e.kind e.request (outcome_next w.store e.kind e.request w.moment)).on (log_climbs setup past)

-- what a watch tells, where it is not refused

record IsWatched (setup : Setup) (w : World) (k : Kind) (from : ℕ) (told : EventsData) : Type 0 where
  below : nat_lt w.store.version from ≡ false
  told_is : told ≡ told_events k from w.store.version w.log

events_are : (a b : EventsData) → replies.Events a ≡ replies.Events b → a ≡ b
events_are a b e = ap of e
  where
    of : Reply → EventsData
    of (replies.Events x) = x
    of reply = a

is_events : Reply → Bool
is_events (replies.Events x) = true
is_events reply = false

watched : (setup : Setup) (w : World) (kind : SeatKind) (k : Kind) (from : ℕ) (told : EventsData) → reply_to (effect setup w kind (Watch k from)) ≡ replies.Events told → IsWatched setup w k from told
unfolding effect watch reply_to reply_of is_events
watched setup w kind k from told e = by (nat_lt w.store.version from) (nat_lt from (oldest (base setup) w.store.version)) refl refl
  where
    by : (a b : Bool) → nat_lt w.store.version from ≡ a → nat_lt from (oldest (base setup) w.store.version) ≡ b → IsWatched setup w k from told
    by true b ea eb = absurd (true≢false (sym (ap is_events (rw ea at e))))
    by false true ea eb = absurd (true≢false (sym (ap is_events (rw (ea, eb) at e))))
    by false false ea eb =
        let f : replies.Events (told_events k from w.store.version w.log) ≡ replies.Events told = rw (ea, eb) at e in
        record { below = ea; told_is = sym (events_are _ told f) }

-- the events after the end of an answer, in its own world
goes_on : (setup : Setup) (past : List Entry) (k : Kind) (from : ℕ) (told : EventsData) → IsWatched setup (world setup past) k from told
    → (events_after k from (world setup past).log ≡ told.events ++ events_after k told.upto (world setup past).log) × (from ≤ told.upto) × (told.upto ≤ (world setup past).store.version)
goes_on setup past k from told is =
    let w = world setup past in
    let es = events_after k from w.log in
    let sifted : es ≡ filter (is_later k from) (reverse w.log) = filter-reverse (is_later k from) w.log in
    let below = is.below in
    let c = cut from w.store.version es (grind (arith, nat_tests, below))
    (subst (Climbs from w.store.version) (sym sifted) (climbs_later k from 0 w.store.version (reverse w.log) (log_climbs setup past))) in
    let upto = reached_version w.store.version (take most_events es) in
    let rest : events_after k upto w.log ≡ filter (above upto) es =
    filter-reverse (is_later k upto) w.log ∙ narrow k from upto c.reaches (reverse w.log) ∙ ap (filter (above upto)) (sym sifted) in
    subst (λ (t : EventsData). (es ≡ t.events ++ events_after k t.upto w.log) × (from ≤ t.upto) × (t.upto ≤ w.store.version)) (sym is.told_is)
    (c.rest ∙ ap (λ l. take most_events es ++ l) (sym rest), c.reaches, c.within)

-- what later entries left comes after both starts
later_too : (setup : Setup) (newer past : List Entry) (k : Kind) (from : ℕ) → from ≤ (world setup past).store.version
    → events_after k from (world setup (newer ++ past)).log ≡ events_after k from (world setup past).log ++ reverse (filter (λ e. is_of_kind k e.object) (events_by setup newer past))
later_too setup newer past k from le =
    let s = since setup newer past in
    let high = (world setup (newer ++ past)).store.version in
    let level : high ≤ high = omega arith in
    let mine : filter (is_later k from) (events_by setup newer past) ≡ filter (λ e. is_of_kind k e.object) (events_by setup newer past) =
    later_pass k from high (events_by setup newer past) (between_wider (world setup past).store.version from high high (events_by setup newer past) le level s.between) in
    ap (λ l. reverse (filter (is_later k from) l)) s.log
    ∙ ap reverse (filter-append (is_later k from) (events_by setup newer past) (world setup past).log)
    ∙ reverse-append (filter (is_later k from) (events_by setup newer past)) (filter (is_later k from) (world setup past).log)
    ∙ ap (λ l. reverse (filter (is_later k from) (world setup past).log) ++ reverse l) mine

pub watches_go_on : WatchesGoOn
watches_go_on setup newer past kind k from told e =
    let is = watched setup (world setup past) kind k from told e in
    let g = goes_on setup past k from told is in
    let g1 = g.1 in
    let g2 = g.2 in
    let later = reverse (filter (λ e. is_of_kind k e.object) (events_by setup newer past)) in
    later_too setup newer past k from (omega (arith, g1, g2))
    ∙ ap (λ l. l ++ later) g.0
    ∙ append_assoc told.events (events_after k told.upto (world setup past).log) later
    ∙ ap (λ l. told.events ++ l) (sym (later_too setup newer past k told.upto g2))
