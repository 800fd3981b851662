-- Each key of an object that stands is decided in a slot: it is cached, or it is told.
use Rattle.std.proofs.Common.{◌≡◌, ℕ, List, true, false, true≢false, Option, Some, None, inl, inr, refl, subst, arith}
use Rattle.std.specs.Prelude.{⊤}
use Rattle.kube_objects.specs.declared.key.Key.{Key}
use Rattle.kube_objects.specs.declared.objects.Object.{Object}
use Rattle.kube_objects.specs.Keys.{row_at}
use Rattle.call_types.specs.declared.entry.Entry.{Entry}
use Rattle.call_types.specs.declared.setup.Setup.{Setup}
use Rattle.binder_model.specs.Reading.{follows}
use Rattle.binder_model.specs.Told.{own}
use Rattle.binder_model.specs.World.{IsHistory, world}
use Rattle.informer_cache.specs.All.{all_objects}
use Rattle.worker_core.specs.Absorbs.{woken}
use Rattle.worker_core.specs.Roles.{IsBuiltKind}
use Rattle.worker_core.specs.States.{ActorState}
use Rattle.actor_rounds.specs.Rounds.{Asks, IsHeld, IsIdle, IsReady, IsSpent, Lets, Runs}
use Rattle.actor_rounds.proofs.RunFacts.{run_grows}
use Rattle.settle_writes.specs.Writes.Lasting.{HasLasting}
use Rattle.settle_alike.specs.Alike.Alike.{AreAlike}
use Rattle.settle_slot.proofs.Slot.Slots.{last, nothing_behind, older}
use Rattle.settle_progress.specs.Wakes.Wakes.{ComesAgain, KeysAreDecided}
use Rattle.settle_progress.proofs.Wakes.Untold.{Stands, There, stands_alike, untold, untold_last}
use Rattle.settle_progress.proofs.Wakes.Wakes.{LastsWhereWaiting, StaysKept, come_by, marked_last}

pub ready_at : (lets : Lets) (seat : ℕ) (s after : ActorState) (h past : List Entry) (b left : ℕ) → Runs lets seat after past left true s h b → IsReady seat s h
ready_at lets seat s after h past b left (IsSpent none state entries rest busy) = absurd (true≢false busy)
ready_at lets seat s after h past b left (IsIdle some ready turn entries rest calm) = ready
ready_at lets seat s after h past b left (Asks given next request reply some ready turn passes absorbs more) = ready
ready_at lets seat s after h past b left (IsHeld given next request some ready turn held absorbs more) = ready

-- with what is kept at each point of the slot, which has an entry that lasts wherever the key waits
pub keys_kept : (setup : Setup) (lets : Lets) (seat : ℕ) (start : List Entry) (key : Key) (o : Object) (old after : ActorState) (h past : List Entry)
    (b left : ℕ) (Kept : List Entry → Type 0) → StaysKept seat old.role past Kept
    → LastsWhereWaiting setup lets seat old.role start key after past left Kept → IsBuiltKind old.role.kind → IsHistory setup past
    → AreAlike (world setup start) (world setup h) → Runs lets seat after past left true (woken old) h b → after.memory.stale ≡ false
    → follows old.role.kind key.kind ≡ true → row_at key (world setup start).store.rows ≡ Some o → Kept h → HasLasting setup h past
keys_kept setup lets seat start key o old after h past b left Kept stays waiting_last built history alike run fresh followed there kept =
    by (row_at key (all_objects old.caches)) refl (stands_alike (world setup start) (world setup h) key o alike there)
  where
    ready : IsReady seat (woken old) h
    ready = ready_at lets seat (woken old) after h past b left run

    before : IsHistory setup h
    before = let g = run_grows lets seat after past left true (woken old) h b run in older setup g.longer.added h (subst (IsHistory setup) g.longer.are history)

    comes : ComesAgain key (woken old).work → HasLasting setup h past
    comes (inl waiting) = waiting_last (woken old) h b run refl alike (nothing_behind setup seat old h) kept waiting
    comes (inr again) = marked_last setup lets seat old.role start key built after past left history fresh Kept stays waiting_last
        (woken old) h b run refl alike (nothing_behind setup seat old h) kept again

    by : (x : Option Object) → row_at key (all_objects old.caches) ≡ x → Stands (world setup h) key → HasLasting setup h past
    by (Some p) e stands = comes (come_by old (own seat h) key p ready.stands.told.caches followed e)
    by None e (There p at) =
        untold_last setup lets seat old.role start key o built followed there after past left history fresh Kept stays waiting_last
        (woken old) h b run refl alike (nothing_behind setup seat old h) kept (untold setup seat (woken old) h key p before built ready at e)
        (λ place lt at_place. absurd (omega (arith, lt)))

pub keys_are_decided : KeysAreDecided
keys_are_decided setup lets seat start key o old after h past b left built history alike run fresh acts followed there =
    keys_kept setup lets seat start key o old after h past b left (λ x. ⊤) (λ s given request reply x newer is ready turn are k. tt)
    (λ s x n more is same knows k waiting. last setup lets seat old.role start key acts built after past left history fresh s x n more is same knows
    waiting) built history alike run fresh followed there tt
