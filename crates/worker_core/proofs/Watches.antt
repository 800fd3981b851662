-- In a history a watch that the seat may make is answered by events, or is gone: it is never ahead of the store.
use Rattle.std.proofs.Common.{◌≡◌, ◌≤◌, ℕ, List, [], ◌∷◌, Bool, true, false, true≢false, Option, Some, None, inl, inr, refl, sym, ◌∙◌, ap, subst, arith, if◌then◌else◌}
use Rattle.std.specs.Prelude.{◌==◌, nat_lt}
use Rattle.std.proofs.lemmas.Bool.Decides.{nat_tests}
use Rattle.kube_parts.specs.declared.parts.Kind.{Kind}
use Rattle.kube_objects.specs.Keys.{same_kind}
use Rattle.call_types.specs.declared.entry.Entry.{Entry}
use Rattle.call_types.specs.declared.setup.Setup.{Setup}
use Rattle.call_types.specs.declared.request.Request.{Request}
use Rattle.call_types.specs.declared.request.Request.TheVariants as requests
use Rattle.call_types.specs.declared.request.SeatKind.{SeatKind}
use Rattle.kube_parts.specs.declared.names.Field.TheVariants as fields
use Rattle.call_types.specs.declared.reply.Refusal.{Refusal}
use Rattle.call_types.specs.declared.reply.Refusal.TheVariants as refusals
use Rattle.call_types.specs.declared.reply.Reply.{Reply}
use Rattle.call_types.specs.declared.reply.Reply.TheVariants as replies
use Rattle.binder_model.specs.Answers.{reply_of}
use Rattle.binder_model.specs.Reading.{Following, Unlisted, ListedAt, IsFrom, follow_on, following_of, reached_on}
use Rattle.binder_model.specs.Told.{own}
use Rattle.binder_model.specs.Watching.{oldest, told_events}
use Rattle.binder_model.specs.World.{IsHistory, World, base, effect, reply_to, watch, world}
use Rattle.model_laws.proofs.Histories.{rows_stand_in_order}
use Rattle.model_laws.proofs.Lists.{none_some, one}
use Rattle.model_laws.proofs.Readings.{lists_tell_what_stands}
use Rattle.model_laws.proofs.Uids.{rises}
use Rattle.model_laws.proofs.Watched.{logs}
use Rattle.worker_core.specs.Rules.{IsWatchAnswer, WatchesAreAnswered}
use Rattle.worker_core.specs.Roles.{IsBuiltKind}
use Rattle.worker_core.specs.Stands.{StandsFor}
use Rattle.worker_core.specs.States.{ActorState, asked}
use Rattle.worker_core.proofs.ByKind.{watch_row}
use Rattle.worker_core.proofs.Licensed.{given_allowed}
use Rattle.worker_core.proofs.Owning.{newest_own}
use Rattle.model_laws.proofs.ToldEvents.{reached_below}

-- what a watch is answered
data Watched (w : World) (k : Kind) (from : ℕ) (reply : Reply) : Type 0 where
  IsAhead : nat_lt w.store.version from ≡ true → (refusal : Refusal) → reply ≡ replies.Refused refusal → Watched w k from reply
  IsGone : (version : ℕ) → reply ≡ replies.Refused (refusals.Gone version) → Watched w k from reply
  Tells : reply ≡ replies.Events (told_events k from w.store.version w.log) → Watched w k from reply

watched : (setup : Setup) (w : World) (kind : SeatKind) (k : Kind) (from : ℕ) → Watched w k from (reply_to (effect setup w kind (requests.Watch k from)))
unfolding effect watch reply_to reply_of
watched setup w kind k from = by (nat_lt w.store.version from) (nat_lt from (oldest (base setup) w.store.version)) refl refl
  where
    by : (a b : Bool) → nat_lt w.store.version from ≡ a → nat_lt from (oldest (base setup) w.store.version) ≡ b → Watched w k from (reply_to (effect setup w kind (requests.Watch k from)))
    by true b ea eb = IsAhead ea (refusals.Invalid fields.From) (rw ea refl)
    by false true ea eb = IsGone (oldest (base setup) w.store.version) (rw (ea, eb) refl)
    by false false ea eb = Tells (rw (ea, eb) refl)

-- a watch reaches no further than the store

-- a version from which the seat may watch is at most that of the store

abbrev version_in : Reply → Option ℕ
version_in (replies.Listed items version) = Some version
version_in (replies.Events events) = Some events.upto
version_in reply = None

module _ (setup : Setup) (e : Entry) (past : List Entry) (answered : e.reply ≡ reply_to (effect setup (world setup past) e.kind e.request)) where
  listed_at : (k : Kind) (version : ℕ) → e.request ≡ requests.List k None → version_in e.reply ≡ Some version → version ≡ (world setup past).store.version
  listed_at k version asks is =
      let l = lists_tell_what_stands setup (world setup past) e.kind k None (rows_stand_in_order setup past) in
      let same : e.reply ≡ replies.Listed l.0 l.1.0 = answered ∙ ap (λ r. reply_to (effect setup (world setup past) e.kind r)) asks ∙ l.1.1.0 in
      one version l.1.0 (sym is ∙ ap version_in same) ∙ l.1.1.1.at

  reached_at : (k : Kind) (from upto : ℕ) → e.request ≡ requests.Watch k from → version_in e.reply ≡ Some upto → upto ≤ (world setup past).store.version
  reached_at k from upto asks is = by (watched setup (world setup past) e.kind k from)
    where
      same : e.reply ≡ reply_to (effect setup (world setup past) e.kind (requests.Watch k from))
      same = answered ∙ ap (λ r. reply_to (effect setup (world setup past) e.kind r)) asks

      by : Watched (world setup past) k from (reply_to (effect setup (world setup past) e.kind (requests.Watch k from))) → upto ≤ (world setup past).store.version
      by (Tells t) =
          let at : upto ≡ (told_events k from (world setup past).store.version (world setup past).log).upto = one upto _ (sym is ∙ ap version_in (same ∙ t)) in
          subst (λ n. n ≤ (world setup past).store.version) (sym at) (reached_below k from (world setup past).store.version (world setup past).log (logs setup past 0))
      by (IsGone version g) = none_some (sym (ap version_in (same ∙ g)) ∙ is)
      by (IsAhead a refusal r) = none_some (sym (ap version_in (same ∙ r)) ∙ is)

-- where the seat stands with a kind after an entry that it was told
from_on : (setup : Setup) (e : Entry) (past : List Entry) → e.reply ≡ reply_to (effect setup (world setup past) e.kind e.request)
    → (kind : Kind) (f : Following) (from : ℕ) → ((v : ℕ) → IsFrom v f → v ≤ (world setup past).store.version)
    → IsFrom from (follow_on e.request e.reply kind f) → from ≤ (world setup past).store.version
from_on setup e past answered kind f from before = by e.request e.reply refl refl
  where
    same : IsFrom from f → from ≤ (world setup past).store.version
    same h = before from h

    listed : (b : Bool) (version : ℕ) → version ≤ (world setup past).store.version → IsFrom from (if b then ListedAt version None else f) → from ≤ (world setup past).store.version
    listed true version low (inl is) = omega (arith, low, is)
    listed true version low (inr is) = none_some is
    listed false version low h = same h

    gone : (b : Bool) → IsFrom from (if b then Unlisted else f) → from ≤ (world setup past).store.version
    gone true h = absurd h
    gone false h = same h

    reached : (g : Following) (upto : ℕ) → ((v : ℕ) → IsFrom v g → v ≤ (world setup past).store.version) → upto ≤ (world setup past).store.version
        → IsFrom from (reached_on upto g) → from ≤ (world setup past).store.version
    reached Unlisted upto low up h = absurd h
    reached (ListedAt version r) upto low up (inl is) = low from (inl is)
    reached (ListedAt version r) upto low up (inr is) = let same_one = one upto from is in omega (arith, up, same_one)

    watched_on : (b : Bool) (upto : ℕ) → upto ≤ (world setup past).store.version → IsFrom from (if b then reached_on upto f else f) → from ≤ (world setup past).store.version
    watched_on true upto up h = reached f upto before up h
    watched_on false upto up h = same h

    by : (request : Request) (reply : Reply) → e.request ≡ request → e.reply ≡ reply → IsFrom from (follow_on request reply kind f) → from ≤ (world setup past).store.version
    by (requests.List k None) (replies.Listed items version) er ea h =
        listed (same_kind k kind) version (let at = listed_at setup e past answered k version er (ap version_in ea) in omega (arith, at)) h
    by (requests.Watch k start) (replies.Refused (refusals.Gone version)) er ea h = gone (same_kind k kind) h
    by (requests.Watch k start) (replies.Events events) er ea h = watched_on (same_kind k kind) events.upto (reached_at setup e past answered k start events.upto er (ap version_in ea)) h
    by (requests.List k None) _ er ea h = same h
    by (requests.Watch k start) _ er ea h = same h
    by _ _ er ea h = same h

-- after any entry
from_after : (setup : Setup) (e : Entry) (past : List Entry) (seat : ℕ) (kind : Kind) (from : ℕ) → e.reply ≡ reply_to (effect setup (world setup past) e.kind e.request)
    → ((v : ℕ) → IsFrom v (following_of (own seat past) kind) → v ≤ (world setup past).store.version)
    → IsFrom from (following_of (own seat (e ∷ past)) kind) → from ≤ (world setup past).store.version
from_after setup e past seat kind from answered before = by (e.seat == seat) e.told refl refl
  where
    by : (mine told : Bool) → (e.seat == seat) ≡ mine → e.told ≡ told → IsFrom from (following_of (own seat (e ∷ past)) kind) → from ≤ (world setup past).store.version
    by false told em et g = let g2 : IsFrom from (following_of (own seat past) kind) = rw em at g in before from g2
    by true false em et g = let g2 : IsFrom from (following_of (own seat past) kind) = rw (em, et) at g in before from g2
    by true true em et g =
        let g2 : IsFrom from (follow_on e.request e.reply kind (following_of (own seat past) kind)) = rw (em, et) at g in
        from_on setup e past answered kind (following_of (own seat past) kind) from before g2

from_below : (setup : Setup) (past : List Entry) (seat : ℕ) (kind : Kind) (from : ℕ) → IsHistory setup past → IsFrom from (following_of (own seat past) kind) → from ≤ (world setup past).store.version
from_below setup [] seat kind from history h = absurd h
from_below setup (e ∷ past) seat kind from history h =
    let up = rises setup (e ∷ []) past in
    let low = from_after setup e past seat kind from history.1 (λ v g. from_below setup past seat kind v history.0 g) h in
    omega (arith, up, low)

watch_from_is : (s : ActorState) (mine : List Entry) (kind : Kind) (from : ℕ) → IsBuiltKind s.role.kind → StandsFor s mine
    → asked s ≡ Some (requests.Watch kind from) → IsFrom from (following_of mine kind)
watch_from_is s mine kind from built stands ask = watch_row s.role.kind mine kind from built (given_allowed s mine (requests.Watch kind from) built stands ask)

pub watches_are_answered : WatchesAreAnswered
watches_are_answered s mine kind from e reply built stands ask told own_all =
    let n = newest_own own_all.setup own_all.past own_all.seat e mine own_all.history own_all.own in
    let may : IsFrom from (following_of (own n.seat n.past) kind) = subst (λ m. IsFrom from (following_of m kind)) n.own_before (watch_from_is s mine kind from built stands ask) in
    let low = from_below own_all.setup n.past n.seat kind from n.history.0 may in
    let w = world own_all.setup n.past in
    let same : reply ≡ reply_to (effect own_all.setup w e.kind (requests.Watch kind from)) = sym told.answered ∙ n.history.1 ∙ ap (λ r. reply_to (effect own_all.setup w e.kind r)) told.asked in
    subst IsWatchAnswer (sym same) (by w low (watched own_all.setup w e.kind kind from))
  where
    by : (w : World) → from ≤ w.store.version → {answer : Reply} → Watched w kind from answer → IsWatchAnswer answer
    by w low (IsAhead a refusal r) = absurd (true≢false (sym a ∙ grind (arith, nat_tests)))
    by w low (IsGone version r) = subst IsWatchAnswer (sym r) tt
    by w low (Tells r) = subst IsWatchAnswer (sym r) tt
