-- What one call does to the world and to where the seat stands with each kind.
use Rattle.std.proofs.Common.{◌≡◌, ◌∙◌, ◌⊎◌, ℕ, ◌+◌, ◌≤◌, ◌<◌, List, ◌∷◌, Bool, true, false, true≢false, Some, None, inl, inr, refl, sym, ap, subst, arith}
use Rattle.std.specs.Prelude.{nat_lt}
use Rattle.std.proofs.lemmas.Bool.Decides.{nat_tests}
use Rattle.kube_parts.specs.declared.parts.Kind.{Kind}
use Rattle.kube_objects.specs.declared.objects.Object.{Object}
use Rattle.kube_objects.specs.Keys.{key_of, put_row, same_kind, without_row}
use Rattle.kube_objects.proofs.SameKeys.{same_kind-Decides}
use Rattle.call_types.specs.declared.entry.Entry.{Entry}
use Rattle.call_types.specs.declared.reply.Event.{Event}
use Rattle.call_types.specs.declared.reply.Refusal.TheVariants as refusals
use Rattle.call_types.specs.declared.reply.Reply.{Reply}
use Rattle.call_types.specs.declared.reply.Reply.TheVariants as replies
use Rattle.call_types.specs.declared.request.Request.{Request}
use Rattle.call_types.specs.declared.request.Request.TheVariants as requests
use Rattle.call_types.specs.declared.request.SeatKind.{SeatKind}
use Rattle.call_types.specs.declared.setup.Setup.{Setup}
use Rattle.call_types.specs.Kinds.{reads_kind}
use Rattle.binder_model.specs.Answers.{Removes, Says, Stores, after, reply_of}
use Rattle.binder_model.specs.Reading.{Following, ListedAt, Unlisted, follow_on, following_of, reached_on}
use Rattle.binder_model.specs.Told.{own}
use Rattle.binder_model.specs.Watching.{oldest, told_events}
use Rattle.binder_model.specs.World.{Effect, OnDevices, OnStore, SetsMoment, World, base, effect, log_after, reply_to, watch, world, world_after}
use Rattle.informer_cache.specs.Cache.{watch_from}
use Rattle.model_laws.proofs.Evidence.{own_mine}
use Rattle.model_laws.proofs.Effects.{OfStore}
use Rattle.model_laws.proofs.Lists.{none_some}
use Rattle.model_laws.proofs.Replies.{done_writes_or_deletes_again}
use Rattle.model_laws.proofs.Versions.{NextOf}
use Rattle.settle_slot.proofs.Told.Telling.{next_of}
use Rattle.settle_calls.specs.Tasks.Ends.{done_by}
use Rattle.settle_calls.specs.Events.Ahead.{from_of}

-- the world: it stays, or one object is written

pub record Stays (old new : World) (request : Request) (reply : Reply) : Type 0 where
  pub rows : new.store.rows ≡ old.store.rows
  pub version : new.store.version ≡ old.store.version
  pub log : new.log ≡ old.log
  pub none : done_by request reply ≡ 0

-- it stands now, or has left
pub record Wrote (old new : World) (reply : Reply) : Type 0 where
  pub event : Event
  pub version : new.store.version ≡ old.store.version + 1
  pub log : new.log ≡ event ∷ old.log
  pub at : event.version ≡ old.store.version + 1
  pub rows : ((reply ≡ replies.Done event.object) × (new.store.rows ≡ put_row event.object old.store.rows))
      ⊎ ((reply ≡ replies.Left event.object) × (new.store.rows ≡ without_row (key_of event.object) old.store.rows))

abbrev is_asked_delete : Request → Bool
is_asked_delete (requests.Delete key given) = true
is_asked_delete request = false

done_is_one : (request : Request) (reply : Reply) → (done_by request reply ≡ 0) ⊎ ((is_asked_delete request ≡ false) × ((o : Object) × (reply ≡ replies.Done o)))
done_is_one (requests.Delete key given) reply = inl refl
done_is_one (requests.Create o) (replies.Done x) = inr (refl, (x, refl))
done_is_one (requests.Create o) _ = inl refl
done_is_one (requests.Update o given) (replies.Done x) = inr (refl, (x, refl))
done_is_one (requests.Update o given) _ = inl refl
done_is_one (requests.UpdateStatus key status given) (replies.Done x) = inr (refl, (x, refl))
done_is_one (requests.UpdateStatus key status given) _ = inl refl
done_is_one (requests.Edit key change) (replies.Done x) = inr (refl, (x, refl))
done_is_one (requests.Edit key change) _ = inl refl
done_is_one (requests.BindPod key uid node) (replies.Done x) = inr (refl, (x, refl))
done_is_one (requests.BindPod key uid node) _ = inl refl
done_is_one _ (replies.Done x) = inr (refl, (x, refl))
done_is_one _ _ = inl refl

wrote_by : (w : World) (x : Effect) → OfStore (NextOf (w.store.version + 1)) x
    → (((world_after w x).store.version ≡ w.store.version) × ((world_after w x).store.rows ≡ w.store.rows) × ((world_after w x).log ≡ w.log)) ⊎ Wrote w (world_after w x) (reply_to x)
unfolding world_after after log_after reply_to reply_of
wrote_by w (OnStore (Says reply)) n = inl (refl, refl, refl)
wrote_by w (OnStore (Stores change o)) n = inr (record { event = _; version = refl; log = refl; at = n; rows = inl (refl, refl) })
wrote_by w (OnStore (Removes o)) n = inr (record { event = _; version = refl; log = refl; at = n; rows = inr (refl, refl) })
wrote_by w (OnDevices a) n = inl (refl, refl, refl)
wrote_by w (SetsMoment at) n = inl (refl, refl, refl)

pub world_moves : (setup : Setup) (e : Entry) (past : List Entry) → e.reply ≡ reply_to (effect setup (world setup past) e.kind e.request)
    → Stays (world setup past) (world setup (e ∷ past)) e.request e.reply ⊎ Wrote (world setup past) (world setup (e ∷ past)) e.reply
world_moves setup e past answered = elim (wrote_by (world setup past) (effect setup (world setup past) e.kind e.request) (next_of setup e past)) [
  | inl kept ↦ inl (record { rows = kept.1; version = kept.0; log = kept.2; none = none kept.0 (done_is_one e.request e.reply) })
  | inr wrote ↦ inr (subst (Wrote (world setup past) (world setup (e ∷ past))) (sym answered) wrote)
]
  where
    none : (world setup (e ∷ past)).store.version ≡ (world setup past).store.version → (done_by e.request e.reply ≡ 0)
        ⊎ ((is_asked_delete e.request ≡ false) × ((o : Object) × (e.reply ≡ replies.Done o))) → done_by e.request e.reply ≡ 0
    none same (inl is) = is
    none same (inr d) =
        let again = done_writes_or_deletes_again setup (world setup past) e.kind e.request d.1.0 (sym answered ∙ d.1.1) same in
        absurd (true≢false (sym (ap is_asked_delete again.asked) ∙ d.0))

-- a watch that is not ahead of the store is answered

pub data WatchSays (setup : Setup) (w : World) (kind : Kind) (from : ℕ) (reply : Reply) : Type 0 where
  IsGone : from < oldest (base setup) w.store.version → (version : ℕ) → reply ≡ replies.Refused (refusals.Gone version) → WatchSays setup w kind from reply
  Tells : oldest (base setup) w.store.version ≤ from → reply ≡ replies.Events (told_events kind from w.store.version w.log) → WatchSays setup w kind from reply

pub watch_says : (setup : Setup) (w : World) (seat_kind : SeatKind) (kind : Kind) (from : ℕ) → from ≤ w.store.version
    → WatchSays setup w kind from (reply_to (effect setup w seat_kind (requests.Watch kind from)))
unfolding effect watch reply_to reply_of
watch_says setup w seat_kind kind from low = by (nat_lt w.store.version from) (nat_lt from (oldest (base setup) w.store.version)) refl refl
  where
    by : (a b : Bool) → nat_lt w.store.version from ≡ a → nat_lt from (oldest (base setup) w.store.version) ≡ b
        → WatchSays setup w kind from (reply_to (effect setup w seat_kind (requests.Watch kind from)))
    by true b ea eb = absurd (grind (arith, nat_tests, ea, low))
    by false true ea eb = rw (ea, eb) (IsGone (grind (arith, nat_tests, eb)) _ refl)
    by false false ea eb = rw (ea, eb) (Tells (grind (arith, nat_tests, eb)) refl)

-- where the seat stands with a kind

module _ (seat : ℕ) (e : Entry) (h : List Entry) (mine : e.seat ≡ seat) (told : e.told ≡ true) where
  on : (kind : Kind) → from_of seat (e ∷ h) kind ≡ watch_from (follow_on e.request e.reply kind (following_of (own seat h) kind))
  on kind = ap (λ m. watch_from (following_of m kind)) (own_mine e h seat mine)
      ∙ (let f : following_of (e ∷ own seat h) kind ≡ follow_on e.request e.reply kind (following_of (own seat h) kind) = rw told refl in ap watch_from f)

  unread_on : (kind : Kind) (request : Request) (reply : Reply) (f : Following) → reads_kind kind request ≡ false → follow_on request reply kind f ≡ f
  unread_on kind (requests.List k None) (replies.Listed items version) f unread = rw unread refl
  unread_on kind (requests.Watch k from) (replies.Refused (refusals.Gone version)) f unread = rw unread refl
  unread_on kind (requests.Watch k from) (replies.Events events) f unread = rw unread refl
  unread_on kind (requests.List k None) _ f unread = refl
  unread_on kind (requests.Watch k from) _ f unread = refl
  unread_on kind _ _ f unread = refl

  -- no read of the kind moves it
  pub unread_from : (kind : Kind) → reads_kind kind e.request ≡ false → from_of seat (e ∷ h) kind ≡ from_of seat h kind
  unread_from kind unread = on kind ∙ ap watch_from (unread_on kind e.request e.reply (following_of (own seat h) kind) unread)

  pub listed_from : (kind : Kind) (items : List Object) (version : ℕ) → e.request ≡ requests.List kind None → e.reply ≡ replies.Listed items version → from_of seat (e ∷ h) kind ≡ Some version
  listed_from kind items version er ea =
      let same : same_kind kind kind ≡ true = (same_kind-Decides kind kind).1 refl in
      on kind ∙ (ap (λ r. watch_from (follow_on r e.reply kind (following_of (own seat h) kind))) er
      ∙ (ap (λ a. watch_from (follow_on (requests.List kind None) a kind (following_of (own seat h) kind))) ea ∙ rw same refl))

  pub gone_from : (kind : Kind) (from version : ℕ) → e.request ≡ requests.Watch kind from → e.reply ≡ replies.Refused (refusals.Gone version) → from_of seat (e ∷ h) kind ≡ None
  gone_from kind from version er ea =
      let same : same_kind kind kind ≡ true = (same_kind-Decides kind kind).1 refl in
      on kind ∙ (ap (λ r. watch_from (follow_on r e.reply kind (following_of (own seat h) kind))) er
      ∙ (ap (λ a. watch_from (follow_on (requests.Watch kind from) a kind (following_of (own seat h) kind))) ea ∙ rw same refl))

  reached : (f : Following) (from upto : ℕ) → watch_from f ≡ Some from → watch_from (reached_on upto f) ≡ Some upto
  reached Unlisted from upto is = none_some is
  reached (ListedAt version None) from upto is = refl
  reached (ListedAt version (Some r)) from upto is = refl

  pub watched_from : (kind : Kind) (from low high : ℕ) (log : List Event) → e.request ≡ requests.Watch kind from
      → e.reply ≡ replies.Events (told_events kind low high log) → from_of seat h kind ≡ Some from
      → from_of seat (e ∷ h) kind ≡ Some (told_events kind low high log).upto
  watched_from kind from low high log er ea at =
      let same : same_kind kind kind ≡ true = (same_kind-Decides kind kind).1 refl in
      let is : follow_on (requests.Watch kind from) (replies.Events (told_events kind low high log)) kind
      (following_of (own seat h) kind) ≡ reached_on (told_events kind low high log).upto (following_of (own seat h) kind) = rw same refl in
      on kind ∙ (ap (λ r. watch_from (follow_on r e.reply kind (following_of (own seat h) kind))) er
      ∙ (ap (λ a. watch_from (follow_on (requests.Watch kind from) a kind (following_of (own seat h) kind))) ea
      ∙ (ap watch_from is ∙ reached (following_of (own seat h) kind) from (told_events kind low high log).upto at)))
