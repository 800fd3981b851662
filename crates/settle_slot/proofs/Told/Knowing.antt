-- A watch whose answer was not full makes its kind known.
use Rattle.std.proofs.Common.{◌≡◌, ◌∙◌, ℕ, List, ◌∷◌, Bool, true, false, Some, refl, sym, ap, subst, arith, length, if◌then◌else◌}
use Rattle.std.specs.Prelude.{◌==◌, nat_lt, take, ⊤}
use Rattle.std.proofs.lemmas.Bool.Decides.{nat_tests}
use Rattle.kube_parts.specs.declared.parts.Kind.{Kind}
use Rattle.kube_objects.specs.Keys.{same_kind}
use Rattle.kube_objects.proofs.SameKeys.{same_kind-Decides}
use Rattle.call_types.specs.declared.entry.Entry.{Entry}
use Rattle.call_types.specs.declared.reply.Events.{Events as EventsData}
use Rattle.call_types.specs.declared.reply.Reply.{Reply}
use Rattle.call_types.specs.declared.reply.Reply.TheVariants.{Events}
use Rattle.call_types.specs.declared.request.Request.{Request}
use Rattle.call_types.specs.declared.request.Request.TheVariants.{Watch}
use Rattle.call_types.specs.declared.request.SeatKind.{SeatKind}
use Rattle.call_types.specs.declared.setup.Setup.{Setup}
use Rattle.binder_model.specs.Answers.{after, reply_of}
use Rattle.binder_model.specs.Reading.{Following, IsFrom, ListedAt, Unlisted, follow_on, following_of, reached_on}
use Rattle.binder_model.specs.Told.{own}
use Rattle.binder_model.specs.Watching.{events_after, most_events, oldest, told_events}
use Rattle.binder_model.specs.World.{IsHistory, World, base, effect, reply_to, watch, world, world_after}
use Rattle.settle_slot.specs.Told.Exact.{WatchesFrom, reached_by}
use Rattle.settle_slot.specs.Told.Knowing.{KnowsKind, WatchesMakeKnown}
use Rattle.settle_slot.proofs.Told.Staying.{knows_first}

-- an answer that is not full reaches the store's version
abbrev ReachesStore : ℕ → Reply → Type 0
ReachesStore n (Events events) = (length events.events == most_events) ≡ false → events.upto ≡ n
ReachesStore n reply = ⊤

reaches_store : (setup : Setup) (w : World) (kind : SeatKind) (k : Kind) (from : ℕ) → ReachesStore w.store.version (reply_to (effect setup w kind (Watch k from)))
unfolding effect watch reply_to reply_of
reaches_store setup w kind k from = by (nat_lt w.store.version from) (nat_lt from (oldest (base setup) w.store.version)) refl refl
  where
    by : (a b : Bool) → nat_lt w.store.version from ≡ a → nat_lt from (oldest (base setup) w.store.version) ≡ b → ReachesStore w.store.version (reply_to (effect setup w kind (Watch k from)))
    by true b ea eb = rw ea tt
    by false true ea eb = rw (ea, eb) tt
    by false false ea eb = rw (ea, eb) (λ full. rw full refl)

-- a watch changes nothing
stays : (setup : Setup) (w : World) (kind : SeatKind) (k : Kind) (from : ℕ) → (world_after w (effect setup w kind (Watch k from))).store.version ≡ w.store.version
unfolding effect watch world_after after
stays setup w kind k from = by (nat_lt w.store.version from) (nat_lt from (oldest (base setup) w.store.version)) refl refl
  where
    by : (a b : Bool) → nat_lt w.store.version from ≡ a → nat_lt from (oldest (base setup) w.store.version) ≡ b → (world_after w (effect setup w kind (Watch k from))).store.version ≡ w.store.version
    by true b ea eb = rw ea refl
    by false true ea eb = rw (ea, eb) refl
    by false false ea eb = rw (ea, eb) refl

reaches_on : (from upto : ℕ) (f : Following) → IsFrom from f → reached_by (reached_on upto f) ≡ Some upto
reaches_on from upto Unlisted is = absurd is
reaches_on from upto (ListedAt version reached) is = refl

pub watches_make_known : WatchesMakeKnown
watches_make_known setup e past seat kind from events history starts mine told er ea open_ = knows_first setup (e ∷ past) seat kind history starts reached
  where
    front : own seat (e ∷ past) ≡ e ∷ own seat past
    front = let is : (e.seat == seat) ≡ true = grind (arith, nat_tests, mine) in rw is refl

    first : IsFrom from (following_of (own seat past) kind)
    first = let all : WatchesFrom kind (e ∷ own seat past) = subst (WatchesFrom kind) front starts in all.1 from er

    upto : events.upto ≡ (world setup past).store.version
    upto =
        let said : reply_to (effect setup (world setup past) e.kind (Watch kind from)) ≡ Events events = sym (history.1 ∙ ap (λ r. reply_to (effect setup (world setup past) e.kind r)) er) ∙ ea in
        (subst (ReachesStore (world setup past).store.version) said (reaches_store setup (world setup past) e.kind kind from)) open_

    version : (world setup (e ∷ past)).store.version ≡ (world setup past).store.version
    version = ap (λ r. (world_after (world setup past) (effect setup (world setup past) e.kind r)).store.version) er ∙ stays setup (world setup past) e.kind kind from

    follows : following_of (e ∷ own seat past) kind ≡ reached_on events.upto (following_of (own seat past) kind)
    follows =
        let same : same_kind kind kind ≡ true = (same_kind-Decides kind kind).1 refl in
        let on : following_of (e ∷ own seat past) kind ≡ follow_on e.request e.reply kind (following_of (own seat past) kind) = rw told refl in
        on ∙ (ap (λ r. follow_on r e.reply kind (following_of (own seat past) kind)) er ∙ (ap (λ a. follow_on (Watch kind from) a kind (following_of (own seat past) kind)) ea ∙ rw same refl))

    reached : reached_by (following_of (own seat (e ∷ past)) kind) ≡ Some (world setup (e ∷ past)).store.version
    reached = ap (λ m. reached_by (following_of m kind)) front ∙ (ap reached_by follows ∙ (reaches_on from events.upto (following_of (own seat past) kind) first ∙ ap Some (upto ∙ sym version)))
