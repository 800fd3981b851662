-- A watch that a seat may make starts at what the seat reached, or before it.
use Rattle.std.proofs.Common.{◌≡◌, ◌∙◌, ◌⊎◌, ℕ, ◌≤◌, ◌<◌, List, [], ◌∷◌, length, Bool, true, false, true≢false, Some, None, inl, inr, refl, sym, ap, subst, arith, if◌then◌else◌}
use Rattle.std.specs.Prelude.{◌==◌, nat_lt, filter, take}
use Rattle.std.proofs.lemmas.Bool.{and_parts}
use Rattle.std.proofs.lemmas.Bool.Decides.{nat_tests}
use Rattle.kube_parts.specs.declared.parts.Kind.{Kind}
use Rattle.kube_objects.specs.declared.objects.Object.{Object}
use Rattle.kube_objects.specs.Keys.{is_of_kind, same_kind}
use Rattle.call_types.specs.declared.entry.Entry.{Entry}
use Rattle.call_types.specs.declared.reply.Event.{Event}
use Rattle.call_types.specs.declared.reply.Events.{Events as EventsData}
use Rattle.call_types.specs.declared.reply.Refusal.TheVariants as refusals
use Rattle.call_types.specs.declared.reply.Reply.{Reply}
use Rattle.call_types.specs.declared.reply.Reply.TheVariants as replies
use Rattle.call_types.specs.declared.request.Request.{Request}
use Rattle.call_types.specs.declared.request.Request.TheVariants as requests
use Rattle.call_types.specs.declared.request.SeatKind.{SeatKind}
use Rattle.call_types.specs.declared.setup.Setup.{Setup}
use Rattle.binder_model.specs.Answers.{reply_of}
use Rattle.binder_model.specs.Reading.{Following, IsFrom, ListedAt, Unlisted, follow_on, following_of, reached_on}
use Rattle.binder_model.specs.Told.{SomeOf, own}
use Rattle.binder_model.specs.Watching.{events_after, is_later, last_version, most_events, oldest, told_events}
use Rattle.binder_model.specs.World.{IsHistory, World, base, effect, reply_to, watch, world}
use Rattle.model_laws.proofs.Histories.{rows_stand_in_order}
use Rattle.model_laws.proofs.Lists.{IsIn, none_some, one, some_is, some_reverse, some_take}
use Rattle.model_laws.proofs.Readings.{lists_tell_what_stands}
use Rattle.model_laws.proofs.Uids.{rises}
use Rattle.settle_slot.specs.Told.Exact.{WatchesFrom, WatchesOn, reached_by}
use Rattle.settle_slot.proofs.Told.Exact.{filter_passes, kind_is}
use Rattle.model_laws.proofs.ToldEvents.{last_in}

-- a watch reaches its start at least

abbrev NotBelow : ℕ → Reply → Type 0
NotBelow from (replies.Events events) = from ≤ events.upto
NotBelow from reply = Unit {0}

last_above : (from high : ℕ) (es : List Event) → ((y : Event) → IsIn y es → from < y.version) → (length es == most_events) ≡ true → from ≤ last_version high es
last_above from high es above full = by (last_in high es)
  where
    by : (last_version high es ≡ high) ⊎ SomeOf (λ e. e.version ≡ last_version high es) es → from ≤ last_version high es
    by (inr some) =
        let s = some_is (λ e. e.version ≡ last_version high es) es some in
        let up = above s.0 s.1.0 in
        let at = s.1.1 in
        omega (arith, up, at)
    by (inl is) = some_in es full above is
      where
        some_in : (xs : List Event) → (length xs == most_events) ≡ true → ((y : Event) → IsIn y xs → from < y.version) → last_version high xs ≡ high → from ≤ last_version high xs
        some_in [] e a i = absurd (true≢false (sym e))
        some_in (x ∷ xs) e a i = inner x xs (a x (inl refl)) (λ y h. a y (inr h))
          where
            inner : (z : Event) (zs : List Event) → from < z.version → ((y : Event) → IsIn y zs → from < y.version) → from ≤ last_version z.version zs
            inner z [] low rest = omega (arith, low)
            inner z (w ∷ ws) low rest = inner w ws (rest w (inl refl)) (λ y h. rest y (inr h))

told_above : (k : Kind) (from version : ℕ) (log : List Event) → from ≤ version → from ≤ (told_events k from version log).upto
told_above k from version log low = by (length (take most_events (events_after k from log)) == most_events) refl
  where
    above : (y : Event) → IsIn y (take most_events (events_after k from log)) → from < y.version
    above y h =
        let p = filter_passes (is_later k from) y log (some_reverse (λ z. z ≡ y) (filter (is_later k from) log) (some_take (λ z. z ≡ y) most_events (events_after k from log) h)) in
        let n = (and_parts (nat_lt from y.version) (is_of_kind k y.object) p).0 in
        grind (arith, nat_tests, n)

    by : (full : Bool) → (length (take most_events (events_after k from log)) == most_events) ≡ full → from ≤ (told_events k from version log).upto
    by true is = rw is (last_above from version (take most_events (events_after k from log)) above is)
    by false is = rw is low

not_below : (setup : Setup) (w : World) (kind : SeatKind) (k : Kind) (from : ℕ) → NotBelow from (reply_to (effect setup w kind (requests.Watch k from)))
unfolding effect watch reply_to reply_of
not_below setup w kind k from = by (nat_lt w.store.version from) (nat_lt from (oldest (base setup) w.store.version)) refl refl
  where
    by : (a b : Bool) → nat_lt w.store.version from ≡ a → nat_lt from (oldest (base setup) w.store.version) ≡ b → NotBelow from (reply_to (effect setup w kind (requests.Watch k from)))
    by true b ea eb = rw ea tt
    by false true ea eb = rw (ea, eb) tt
    by false false ea eb = rw (ea, eb) (told_above k from w.store.version w.log (grind (arith, nat_tests, ea)))

-- what a seat reached is no earlier than its list, and that no later than the store

abbrev IsOrdered : ℕ → Following → Type 0
IsOrdered high Unlisted = Unit {0}
IsOrdered high (ListedAt version None) = version ≤ high
IsOrdered high (ListedAt version (Some upto)) = (version ≤ high) × (version ≤ upto)

wider : (low high : ℕ) (f : Following) → low ≤ high → IsOrdered low f → IsOrdered high f
wider low high Unlisted up o = tt
wider low high (ListedAt version None) up o = omega (arith, up, o)
wider low high (ListedAt version (Some upto)) up o = let first = o.0 in (omega (arith, up, first), o.1)

gone_on : (high start upto : ℕ) (f : Following) → start ≤ upto → IsFrom start f → IsOrdered high f → IsOrdered high (reached_on upto f)
gone_on high start upto Unlisted up from o = tt
gone_on high start upto (ListedAt version None) up (inl is) o = (o, omega (arith, up, is))
gone_on high start upto (ListedAt version None) up (inr none) o = none_some none
gone_on high start upto (ListedAt version (Some u)) up (inl is) o = (o.0, omega (arith, up, is))
gone_on high start upto (ListedAt version (Some u)) up (inr is) o = let at = one u start is in let low = o.1 in (o.0, omega (arith, up, at, low))

below_reached : (high start reached : ℕ) (f : Following) → IsOrdered high f → IsFrom start f → reached_by f ≡ Some reached → start ≤ reached
below_reached high start reached Unlisted o from is = absurd from
below_reached high start reached (ListedAt version None) o (inl at) is = let r = one version reached is in omega (arith, at, r)
below_reached high start reached (ListedAt version None) o (inr none) is = none_some none
below_reached high start reached (ListedAt version (Some u)) o (inl at) is = let r = one u reached is in let low = o.1 in omega (arith, at, r, low)
below_reached high start reached (ListedAt version (Some u)) o (inr at) is = let s = one u start at in let r = one u reached is in omega (arith, s, r)

abbrev version_of : Reply → ℕ
version_of (replies.Listed items version) = version
version_of reply = 0

module _ (setup : Setup) (e : Entry) (past : List Entry) (seat : ℕ) (kind : Kind) (answered : e.reply ≡ reply_to (effect setup (world setup past) e.kind e.request))
    (before : IsOrdered (world setup past).store.version (following_of (own seat past) kind))
    (starts : (from : ℕ) → e.request ≡ requests.Watch kind from → IsFrom from (following_of (own seat past) kind)) where
  abbrev high : ℕ
  high = (world setup (e ∷ past)).store.version

  same : IsOrdered high (following_of (own seat past) kind)
  same = wider _ _ _ (rises setup (e ∷ []) past) before

  listed_at : (k : Kind) (items : List Object) (version : ℕ) → e.request ≡ requests.List k None → e.reply ≡ replies.Listed items version → version ≤ high
  listed_at k items version er ea =
      let l = lists_tell_what_stands setup (world setup past) e.kind k None (rows_stand_in_order setup past) in
      let at : l.1.0 ≡ version = ap version_of (sym (answered ∙ ap (λ r. reply_to (effect setup (world setup past) e.kind r)) er ∙ l.1.1.0) ∙ ea) in
      let is = l.1.1.1.at in
      let up = rises setup (e ∷ []) past in
      omega (arith, at, is, up)

  up_to : (k : Kind) (start : ℕ) (events : EventsData) → e.request ≡ requests.Watch k start → e.reply ≡ replies.Events events → start ≤ events.upto
  up_to k start events er ea = subst (NotBelow start) (sym (answered ∙ ap (λ r. reply_to (effect setup (world setup past) e.kind r)) er) ∙ ea) (not_below setup (world setup past) e.kind k start)

  on : (request : Request) (reply : Reply) → e.request ≡ request → e.reply ≡ reply → IsOrdered high (follow_on request reply kind (following_of (own seat past) kind))
  on (requests.List k None) (replies.Listed items version) er ea = by (same_kind k kind)
    where
      by : (b : Bool) → IsOrdered high (if b then ListedAt version None else following_of (own seat past) kind)
      by true = listed_at k items version er ea
      by false = same
  on (requests.Watch k start) (replies.Refused (refusals.Gone version)) er ea = by (same_kind k kind)
    where
      by : (b : Bool) → IsOrdered high (if b then Unlisted else following_of (own seat past) kind)
      by true = tt
      by false = same
  on (requests.Watch k start) (replies.Events events) er ea = by (same_kind k kind) refl
    where
      by : (b : Bool) → same_kind k kind ≡ b → IsOrdered high (if b then reached_on events.upto (following_of (own seat past) kind) else following_of (own seat past) kind)
      by true s = gone_on high start events.upto (following_of (own seat past) kind) (up_to k start events er ea) (starts start (er ∙ ap (λ j. requests.Watch j start) (kind_is k kind s))) same
      by false s = same
  on (requests.List k None) _ er ea = same
  on (requests.Watch k start) _ er ea = same
  on _ _ er ea = same

ordered : (setup : Setup) (past : List Entry) (seat : ℕ) (kind : Kind) → IsHistory setup past → WatchesFrom kind (own seat past)
    → IsOrdered (world setup past).store.version (following_of (own seat past) kind)
ordered setup [] seat kind history from = tt
ordered setup (e ∷ past) seat kind history from = by (e.seat == seat) e.told from (λ f. ordered setup past seat kind history.0 f)
  where
    up : (world setup past).store.version ≤ (world setup (e ∷ past)).store.version
    up = rises setup (e ∷ []) past

    by : (mine told : Bool) → WatchesFrom kind (if mine then e ∷ own seat past else own seat past)
        → (WatchesFrom kind (own seat past) → IsOrdered (world setup past).store.version (following_of (own seat past) kind))
        → IsOrdered (world setup (e ∷ past)).store.version (following_of (if mine then e ∷ own seat past else own seat past) kind)
    by false told f before = wider _ _ _ up (before f)
    by true told f before = told_on e.told refl
      where
        told_on : (t : Bool) → e.told ≡ t → IsOrdered (world setup (e ∷ past)).store.version (if t then follow_on e.request e.reply kind
            (following_of (own seat past) kind) else following_of (own seat past) kind)
        told_on true is = on setup e past seat kind history.1 (before f.0) f.1 e.request e.reply refl refl
        told_on false is = wider _ _ _ up (before f.0)

pub watches_on : (setup : Setup) (past : List Entry) (seat : ℕ) (kind : Kind) → IsHistory setup past → WatchesFrom kind (own seat past) → WatchesOn kind (own seat past)
watches_on setup [] seat kind history from = tt
watches_on setup (e ∷ past) seat kind history from = by (e.seat == seat) from (λ f. watches_on setup past seat kind history.0 f)
  where
    by : (mine : Bool) → WatchesFrom kind (if mine then e ∷ own seat past else own seat past)
        → (WatchesFrom kind (own seat past) → WatchesOn kind (own seat past)) → WatchesOn kind (if mine then e ∷ own seat past else own seat past)
    by false f before = before f
    by true f before = (before f.0, λ start reached er is. below_reached _ start reached (following_of (own seat past) kind) (ordered setup past seat kind history.0 f.0) (f.1 start er) is)
