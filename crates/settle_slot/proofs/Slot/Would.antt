-- What would make a call that lasts makes it, where its calls reach the world.
use Rattle.std.proofs.Common.{◌≡◌, ℕ, List, true}
use Rattle.call_types.specs.declared.entry.Entry.{Entry}
use Rattle.call_types.specs.declared.request.SeatKind.{SeatKind}
use Rattle.call_types.specs.declared.setup.Setup.{Setup}
use Rattle.binder_model.specs.World.{world}
use Rattle.worker_core.specs.declared.task.Under.{Under}
use Rattle.actor_rounds.specs.Rounds.{Lets}
use Rattle.settle_alike.specs.Alike.Alike.{AreAlike}
use Rattle.settle_slot.specs.Slot.Slots.{Now, Then, WillLast}
use Rattle.settle_slot.specs.Slot.Would.{AtOnce, Here, Later, Leads, On, WouldActWhereCallsPass, WouldLast}

module _ (setup : Setup) (lets : Lets) (seat : ℕ) (kind : SeatKind) (start : List Entry) where
  pub will_last : (h : List Entry) (u : Under)
      → ((g : List Entry) (v : Under) → Leads setup seat kind h u g v → AreAlike (world setup start) (world setup g) → lets g v.call ≡ true)
      → WouldLast setup seat kind start h u → WillLast setup lets seat kind h u
  will_last h u passes (AtOnce alike lasts) = Now (passes h u Here alike) lasts
  will_last h u passes (Later alike next follows more) = Then (passes h u Here alike) next follows (will_last _ next (λ g v leads same. passes g v (On next follows leads) same) more)

pub would_act_where_calls_pass : WouldActWhereCallsPass
would_act_where_calls_pass setup lets seat role start key passes would = record {
  lasts = λ s h u p own gives. will_last setup lets seat role.kind start h u (λ g v leads same. passes s h g u v p own gives leads same) (would.lasts s h u p own gives);
  acts = would.acts;
}
