-- Events whose versions rise by one, and those of them that came after a version.
use Rattle.std.proofs.Common.{◌≡◌, ◌+◌, ◌-◌, ◌<◌, ◌≤◌, ℕ, zero, suc, Bool, true, false, List, [], ◌∷◌, ◌++◌, refl, sym, ◌∙◌, ap, subst, if◌then◌else◌, take, reverse, length, get_or, nat_lt, arith}
use Rattle.std.proofs.lemmas.Bool.Decides.{nat_tests}
use Rattle.std.proofs.lemmas.List.{take-take, length-take, take_all, take_at, append-nil}
use Rattle.std.specs.Prelude.{filter}
use Rattle.kube_parts.specs.declared.parts.Kind.{Kind}
use Rattle.kube_objects.specs.Keys.{is_of_kind}
use Rattle.call_types.specs.declared.reply.Event.{Event}
use Rattle.call_types.specs.declared.reply.Events.{Events}
use Rattle.binder_model.specs.Watching.{window, most_events, oldest, is_later, told_events, last_version, reached_version}
use Rattle.watch_log.specs.Kept.{Log, AreAll, LogStandsFor, AreLast, IsWindow, is_event_of, events_among}

not_later : (a b : ℕ) → b ≤ a → nat_lt a b ≡ false
not_later a b le = grind (arith, nat_tests)

later : (a b : ℕ) → a < b → nat_lt a b ≡ true
later a b lt = grind (arith, nat_tests)

-- no event is later than the last
none_later : (kind : Kind) (from version : ℕ) (es : List Event) → AreLast version es → version ≤ from → filter (is_later kind from) es ≡ []
none_later kind from version [] l le = refl
none_later kind from version (e ∷ es) l le =
    let at = l.0 in
    rw (not_later from e.version (omega (arith, at, le))) (none_later kind from (version - 1) es l.1 (omega (arith, le)))

-- the events after a version are the newest ones
after_among : (kind : Kind) (from version n : ℕ) (es : List Event) → AreLast version es → version ≡ from + n → filter (is_later kind from) es ≡ filter (is_event_of kind) (take n es)
after_among kind from version zero es l is = none_later kind from version es l (omega (arith, is))
after_among kind from version (suc n) [] l is = refl
after_among kind from version (suc n) (e ∷ es) l is =
    let at = l.0 in
    rw (later from e.version (omega (arith, at, is))) (by (is_of_kind kind e.object) (after_among kind from (version - 1) n es l.1 (omega (arith, is))))
  where
    by : (b : Bool) → filter (is_later kind from) es ≡ filter (is_event_of kind) (take n es)
        → (if b then e ∷ filter (is_later kind from) es else filter (is_later kind from) es) ≡ (if b then e ∷ filter (is_event_of kind) (take n es) else filter (is_event_of kind) (take n es))
    by true rest = ap (λ xs. e ∷ xs) rest
    by false rest = rest

last-take : (n version : ℕ) (es : List Event) → AreLast version es → AreLast version (take n es)
last-take zero version es l = tt
last-take (suc n) version [] l = tt
last-take (suc n) version (e ∷ es) l = (l.0, last-take n (version - 1) es l.1)

last_of_all : (base version : ℕ) (es : List Event) → AreAll base version es → AreLast version es
last_of_all base version [] a = tt
last_of_all base version (e ∷ es) a = (a.1, last_of_all base (version - 1) es a.2)

-- what came after a version is in the window
within : (kind : Kind) (from base version : ℕ) (es : List Event) → AreAll base version es → oldest base version ≤ from → from ≤ version
    → filter (is_later kind from) (take window es) ≡ filter (is_later kind from) es
within kind from base version es a old new =
    let l = last_of_all base version es a in
    let split : version ≡ from + (version - from) = omega (arith, new) in
    let whole = after_among kind from version (version - from) es l split in
    let part = after_among kind from version (version - from) (take window es) (last-take window version es l) split in
    part ∙ ap (filter (is_event_of kind)) (take-take (version - from) window es (omega (arith, old))) ∙ sym whole

told_of_window : (kind : Kind) (from : ℕ) (log : Log) (es : List Event) → LogStandsFor log es → oldest log.base log.version ≤ from
    → from ≤ log.version → told_events kind from log.version log.events ≡ told_events kind from log.version es
told_of_window kind from log es s old new =
    rw s.kept (ap (λ xs. record { events = take most_events (reverse xs); upto = reached_version log.version (take most_events (reverse xs)) })
    (within kind from log.base log.version es s.all old new))

pub told_of_window_answers : (kind : Kind) (from : ℕ) (log : Log) (told : Events) → told ≡ told_events kind from log.version log.events
    → oldest log.base log.version ≤ from → from ≤ log.version → (es : List Event) → LogStandsFor log es → told ≡ told_events kind from log.version es
told_of_window_answers kind from log told is old new es s = is ∙ told_of_window kind from log es s old new

-- the answer by the newest events
told_among : (kind : Kind) (from base version : ℕ) (es : List Event) → IsWindow base version es → from ≤ version
    → told_events kind from version es ≡ record {
      events = take most_events (events_among kind (version - from) es);
      upto = reached_version version
          (take most_events (events_among kind (version - from) es));
    }
told_among kind from base version es w new =
    ap (λ xs. record { events = take most_events (reverse xs); upto = reached_version version (take most_events (reverse xs)) })
    (after_among kind from version (version - from) es w.last (omega (arith, new)))

-- the answer, as the code makes it
pub told_answer : (kind : Kind) (from base version : ℕ) (es told seen : List Event) (upto : ℕ) → IsWindow base version es → from ≤ version
    → told ≡ take most_events (events_among kind (version - from) es) → seen ≡ told → upto ≡ reached_version version seen
    → (◌≡◌ {A = Events} (record { events = told; upto = upto }) (told_events kind from version es))
told_answer kind from base version es told seen upto w new is same to = rw (to, same, is) (sym (told_among kind from base version es w new))

-- one event more

pub window_of_next : (base version : ℕ) (e : Event) (es : List Event) → IsWindow base version es → e.version ≡ version + 1 → IsWindow base e.version (take window (e ∷ es))
window_of_next base version e es w is =
    let before : e.version - 1 ≡ version = omega (arith, is) in
    let count = w.count in
    let begun = w.begun in
    let more = length-take 512 (e ∷ es) in
    record {
      begun = omega (arith, begun, is);
      last = (refl, rw before (last-take 511 version es w.last));
      count = more ∙ omega (arith, count, is, begun);
    }

base_below : (base version : ℕ) (es : List Event) → AreAll base version es → base ≤ version
base_below base version [] a = omega (arith, a)
base_below base version (e ∷ es) a = let below = a.0 in omega (arith, below)

pub all_of_next : (old : Log) (e : Event) (items : List Event) (base room : ℕ) → base ≡ old.base → items ≡ take window (e ∷ old.events)
    → e.version ≡ old.version + 1 → (es : List Event) → LogStandsFor old es → LogStandsFor (record { base = base; version = e.version; events = items; room = room }) (e ∷ es)
all_of_next old e items base room same are is es s =
    let begun = base_below old.base old.version es s.all in
    let before : e.version - 1 ≡ old.version = omega (arith, is) in
    record {
      all = (omega (arith, is, begun, same), refl, subst (λ b. AreAll b (e.version - 1) es) (sym same) (rw before s.all));
      kept = are ∙ rw s.kept (ap (λ xs. e ∷ xs) (take-take 511 512 es (omega arith)));
    }

-- the loop over the newest events

all_told : (told whole : List Event) → told ++ [] ≡ whole → length told ≤ most_events → told ≡ take most_events whole
all_told told whole is le = subst (λ w. told ≡ take most_events w) is (rw (append-nil told) (sym (take_all most_events told le)))

pub none_left : (kind : Kind) (es : List Event) (left : ℕ) (told whole : List Event) → left ≤ 0 → told ++ events_among kind left es ≡ whole → length told ≤ most_events → told ≡ take most_events whole
none_left kind es zero told whole none is le = all_told told whole is le
none_left kind es (suc n) told whole none is le = absurd (omega (arith, none))

pub most_told : (told rest whole : List Event) → told ++ rest ≡ whole → length told ≡ most_events → told ≡ take most_events whole
most_told told rest whole is full = subst (λ w. told ≡ take most_events w) is (sym (take_at told rest most_events full))

-- the version of the last of several events
last_of : (version : ℕ) (es : List Event) (n : ℕ) (e : Event) → length es ≡ suc n → last_version version es ≡ (get_or es n e).version
last_of version (x ∷ []) zero e is = refl
last_of version (x ∷ y ∷ es) (suc n) e is = last_of x.version (y ∷ es) n e (omega (arith, is))
last_of version (x ∷ []) (suc n) e is = absurd (omega (arith, is))
last_of version (x ∷ y ∷ es) zero e is = absurd (omega (arith, is))
last_of version [] n e is = absurd (omega (arith, is))

-- a full answer reaches to its last event
pub reached_full : (version : ℕ) (es : List Event) (e : Event) → length es ≡ most_events → (get_or es 63 e).version ≡ reached_version version es
reached_full version es e is = let at = last_of version es 63 e is in rw is (sym at)
