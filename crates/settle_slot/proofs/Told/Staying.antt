-- A seat that alone calls, and is told, goes on knowing each key as it is.
use Rattle.std.proofs.Common.{◌≡◌, ◌∙◌, ◌⊎◌, ℕ, List, ◌∷◌, true, Some, None, inl, inr, refl, sym, ap, subst, arith}
use Rattle.std.specs.Prelude.{◌==◌}
use Rattle.std.proofs.lemmas.Bool.Decides.{nat_tests}
use Rattle.kube_objects.specs.declared.key.Key.{Key}
use Rattle.kube_parts.specs.declared.parts.Kind.{Kind}
use Rattle.kube_objects.specs.Keys.{key_of, meta_of, row_at}
use Rattle.kube_objects.proofs.SameKeys.{key_tells}
use Rattle.call_types.specs.declared.entry.Entry.{Entry}
use Rattle.call_types.specs.declared.request.Request.{Request}
use Rattle.call_types.specs.declared.setup.Setup.{Setup}
use Rattle.binder_model.specs.Answers.{Removes, Says, Stores, after, reply_of}
use Rattle.binder_model.specs.Reading.{following_of}
use Rattle.binder_model.specs.Told.{Telling, later, newest, object_of, own, presence, told_of, tells_of}
use Rattle.binder_model.specs.World.{Effect, IsHistory, OnDevices, OnStore, SetsMoment, World, effect, log_after, reply_to, world, world_after}
use Rattle.settle_slot.specs.Told.Exact.{WatchesFrom, reached_by}
use Rattle.settle_slot.specs.Told.Telling.{IsTrue, IsTrueIfAny, changed_at}
use Rattle.settle_slot.proofs.Told.Allowed.{watches_on}
use Rattle.settle_slot.specs.Told.Knowing.{HasReached, KnowledgeStays, KnownIsExact, Knows}
use Rattle.settle_slot.proofs.Told.Exact.{IsCaught, caught, changed_below, reached_first, reached_second}
use Rattle.settle_slot.proofs.Told.Telling.{is_same, newest_is_true, not_same}

-- a call that changes a key tells it at that version
reach_step : (w : World) (x : Effect) (request : Request) (key : Key) → (changed_at key (world_after w x).log ≡ changed_at key w.log)
    ⊎ HasReached (changed_at key (world_after w x).log) (tells_of request (reply_to x) key)
unfolding world_after after log_after reply_to reply_of
reach_step w (OnStore (Says reply)) request key = inl refl
reach_step w (OnStore (Stores change o)) request key = elim (key_tells (key_of o) key) [
  | inl same ↦ inr (rw (is_same (key_of o) key same) (record { telling = presence o; is = refl; up = omega arith }))
  | inr other ↦ inl (rw (not_same (key_of o) key other) refl)
]
reach_step w (OnStore (Removes o)) request key = elim (key_tells (key_of o) key) [
  | inl same ↦ inr (rw (is_same (key_of o) key same) (record { telling = record { version = (meta_of o).version; object = None }; is = refl; up = omega arith }))
  | inr other ↦ inl (rw (not_same (key_of o) key other) refl)
]
reach_step w (OnDevices a) request key = inl refl
reach_step w (SetsMoment at) request key = inl refl

one_more : (setup : Setup) (e : Entry) (past : List Entry) (seat : ℕ) (key : Key) → e.reply ≡ reply_to (effect setup (world setup past) e.kind e.request) → e.told ≡ true → e.seat ≡ seat
    → Knows setup past seat key → Knows setup (e ∷ past) seat key
one_more setup e past seat key answered told of knows =
    subst (λ m. HasReached (changed_at key (world setup (e ∷ past)).log) (newest m key)) (sym front)
    (by (reach_step (world setup past) (effect setup (world setup past) e.kind e.request) e.request key))
  where
    mine : (e.seat == seat) ≡ true
    mine = grind (arith, nat_tests, of)

    front : own seat (e ∷ past) ≡ e ∷ own seat past
    front = rw mine refl

    told_is : told_of e key ≡ tells_of e.request (reply_to (effect setup (world setup past) e.kind e.request)) key
    told_is = let shown : told_of e key ≡ tells_of e.request e.reply key = rw told refl in shown ∙ ap (λ r. tells_of e.request r key) answered

    by : (changed_at key (world setup (e ∷ past)).log ≡ changed_at key (world setup past).log)
        ⊎ HasReached (changed_at key (world setup (e ∷ past)).log) (tells_of e.request (reply_to (effect setup (world setup past) e.kind e.request)) key)
        → HasReached (changed_at key (world setup (e ∷ past)).log) (later (told_of e key) (newest (own seat past) key))
    by (inl same) = subst (λ n. HasReached n (later (told_of e key) (newest (own seat past) key))) (sym same) (reached_second _ (told_of e key) (newest (own seat past) key) knows)
    by (inr new) = reached_first _ (told_of e key) (newest (own seat past) key) (subst (λ x. HasReached (changed_at key (world setup (e ∷ past)).log) x) (sym told_is) new)

-- where the seat has reached the store's version it knows each key
pub knows_first : (setup : Setup) (past : List Entry) (seat : ℕ) (kind : Kind) → IsHistory setup past → WatchesFrom kind (own seat past)
    → reached_by (following_of (own seat past) kind) ≡ Some (world setup past).store.version
    → (key : Key) → key.kind ≡ kind → Knows setup past seat key
knows_first setup past seat kind history from is key of = by ((caught setup past seat kind history (watches_on setup past seat kind history from) (world setup past).store.version is).1 key of)
  where
    by : IsCaught (world setup past) key (world setup past).store.version (newest (own seat past) key) → Knows setup past seat key
    by (inl since) = let low = changed_below setup past key in absurd (omega (arith, low, since))
    by (inr h) = h

-- what is known so is what stands
is_so : (setup : Setup) (past : List Entry) (seat : ℕ) (key : Key) → IsHistory setup past → Knows setup past seat key
    → object_of (newest (own seat past) key) ≡ row_at key (world setup past).store.rows
is_so setup past seat key history h = ap object_of h.is ∙ (true_of h.telling h.is).now h.up
  where
    true_of : (t : Telling) → newest (own seat past) key ≡ Some t → IsTrue (world setup past) key t
    true_of t e = subst (IsTrueIfAny (world setup past) key) e (newest_is_true setup past seat key history)

pub known_is_exact : KnownIsExact
known_is_exact setup past seat key history knows = is_so setup past seat key history knows

pub knowledge_stays : KnowledgeStays
knowledge_stays setup e past seat kind history mine told knows = λ key of. one_more setup e past seat key history.1 told mine (knows key of)
