-- What a call of an actor writes costs ops and an agent no more than what stood in its place, and a list, a watch of a whole kind and a call of the start write nothing.
use Rattle.std.proofs.Common.{◌≡◌, ℕ, ◌≤◌, List, ◌∷◌, true, true≢false, sym, ap}
use Rattle.kube_objects.specs.declared.objects.Object.{Object}
use Rattle.kube_objects.specs.Keys.{key_of}
use Rattle.call_types.specs.declared.entry.Entry.{Entry}
use Rattle.call_types.specs.declared.reply.Reply.{Reply}
use Rattle.call_types.specs.declared.request.Request.{Request}
use Rattle.call_types.specs.declared.request.Request.TheVariants as requests
use Rattle.call_types.specs.declared.request.SeatKind.{SeatKind}
use Rattle.call_types.specs.declared.request.SeatKind.TheVariants as seats
use Rattle.call_types.specs.declared.setup.Setup.{Setup}
use Rattle.binder_model.specs.Licence.{Licensed}
use Rattle.binder_model.specs.Told.{own}
use Rattle.binder_model.specs.World.{IsHistory, World, effect, world}
use Rattle.model_laws.proofs.Growing.{runs_are_histories}
use Rattle.model_laws.proofs.Histories.{rows_stand_in_order}
use Rattle.safety_law.specs.Invariant.Writes.{Writes}
use Rattle.safety_law.proofs.Invariant.Effects.{effect_form}
use Rattle.worker_core.specs.Roles.{IsBuiltKind}
use Rattle.worker_core.specs.States.{ActorState}
use Rattle.actor_rounds.specs.Rounds.{told_entry}
use Rattle.settle_slot.specs.Slot.Slots.{KnowsBehind}
use Rattle.settle_writes.proofs.Done.Doing.{write_asked}
use Rattle.settle_write_counts.proofs.Rounds.Runs.{IsCalled}
use Rattle.settle_write_counts.proofs.Rounds.Slots.{ComesTo, Leaves, Wrote, comes_to}
use Rattle.settle_calls.specs.Slots.Slots.{is_own_read}
use Rattle.settle_write_counts.proofs.Rounds.Growth.{Comes}
use Rattle.settle_write_counts.proofs.Rounds.Made.{IsOrdered, Writing, WritesNone, WritesOne, call_writes}
use Rattle.settle_round_calls.specs.Slots.Costs.{own_calls}
use Rattle.settle_round_calls.proofs.Slots.Ending.{ops_end_none}
use Rattle.settle_round_calls.proofs.Slots.RoundCosts.{CallMoves, IsSame, Moved, agents_come, is_now, now_cost}

-- ---- what it writes costs ops and an agent no more than what stood in its place

now_light : (setup : Setup) (seat : ℕ) (h : List Entry) → IsHistory setup h → (kind : SeatKind) (r : Request) (o : Object) → is_now kind ≡ true
    → Licensed kind (own seat h) r → Writes (world setup h) kind r o → Comes (world setup h).store.rows o
    → own_calls kind o ≤ now_cost kind (world setup h).store.rows (key_of o)
now_light setup seat h history seats.Ops r o now may writes come = ops_end_none setup seat h history o r may writes
now_light setup seat h history seats.Agent r o now may writes come = agents_come (world setup h).store.rows o come
now_light setup seat h history seats.User r o now may writes come = absurd (true≢false (sym now))
now_light setup seat h history seats.Binder r o now may writes come = absurd (true≢false (sym now))
now_light setup seat h history seats.Scheduler r o now may writes come = absurd (true≢false (sym now))
now_light setup seat h history seats.ClaimProtect r o now may writes come = absurd (true≢false (sym now))
now_light setup seat h history seats.VolumeProtect r o now may writes come = absurd (true≢false (sym now))

-- what comes of a call
pub call_moves : (setup : Setup) (seat : ℕ) (x : ActorState) (request : Request) (reply : Reply) (h : List Entry)
    → IsCalled setup seat x request reply h → IsBuiltKind x.role.kind → KnowsBehind setup seat x.role x.pass h → IsOrdered x
    → CallMoves x.role.kind (world setup h).store.rows (world setup (told_entry seat x request reply ∷ h)).store.rows
call_moves setup seat x request reply h called built knows ordered = by (call_writes setup seat x request reply h called built knows ordered)
  where
    history : IsHistory setup (told_entry seat x request reply ∷ h)
    history = runs_are_histories setup (told_entry seat x request reply ∷ h) called.run.run

    by : Writing setup seat x request reply h called → CallMoves x.role.kind (world setup h).store.rows (world setup (told_entry seat x request reply ∷ h)).store.rows
    by (WritesNone same) = IsSame same
    by (WritesOne o writes come moved) = Moved o come (λ now. now_light setup seat h history.0 x.role.kind request o now called.may writes come) moved

-- ---- a list, a watch of a whole kind and a call of the start write nothing

reads_none : (w : World) (kind : SeatKind) (request : Request) (o : Object) → is_own_read request ≡ true → Writes w kind request o → ⊥
reads_none w kind (requests.Create x) o own i = absurd (true≢false (sym own))
reads_none w kind (requests.Update x given) o own i = absurd (true≢false (sym own))
reads_none w kind (requests.UpdateStatus key status given) o own i = absurd (true≢false (sym own))
reads_none w kind (requests.Edit key change) o own i = absurd (true≢false (sym own))
reads_none w kind (requests.Delete key given) o own i = absurd (true≢false (sym own))
reads_none w kind (requests.BindPod key uid node) o own i = absurd (true≢false (sym own))
reads_none w kind (requests.FinishPod key uid node epoch) o own i = absurd (true≢false (sym own))
reads_none w kind _ o own i = absurd i

-- so the store stays
pub reads_stay : (setup : Setup) (seat : ℕ) (x : ActorState) (request : Request) (reply : Reply) (h : List Entry) → is_own_read request ≡ true
    → ((world setup (told_entry seat x request reply ∷ h)).store.version ≡ (world setup h).store.version)
    × ((world setup (told_entry seat x request reply ∷ h)).store.rows ≡ (world setup h).store.rows)
reads_stay setup seat x request reply h own_read = by (comes_to (world setup h) (effect setup (world setup h) x.role.kind request))
  where
    by : ComesTo (world setup h) (effect setup (world setup h) x.role.kind request)
        → ((world setup (told_entry seat x request reply ∷ h)).store.version ≡ (world setup h).store.version)
        × ((world setup (told_entry seat x request reply ∷ h)).store.rows ≡ (world setup h).store.rows)
    by (Leaves same) = (ap (λ s. s.version) same, ap (λ s. s.rows) same)
    by (Wrote o written version moved) =
        absurd (reads_none (world setup h) x.role.kind request o own_read
        (write_asked setup (world setup h) x.role.kind request o (effect setup (world setup h) x.role.kind request)
        (effect_form setup (world setup h) x.role.kind request (rows_stand_in_order setup h)) written))
