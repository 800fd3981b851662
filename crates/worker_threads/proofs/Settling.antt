-- What the laws of settling say of a round and of a drain that were made.
use Rattle.std.proofs.Common.{◌≡◌, ◌-◌, ◌⊎◌, ℕ, List, true, inl, inr, subst, arith}
use Rattle.call_types.specs.declared.entry.Entry.{Entry}
use Rattle.call_types.specs.declared.setup.Setup.{Setup}
use Rattle.binder_model.specs.Due.{IsSettled}
use Rattle.binder_model.specs.Promises.{IsRunOf}
use Rattle.binder_model.specs.World.{world}
use Rattle.world_core.specs.declared.drained.Drained.{Drained}
use Rattle.world_core.specs.declared.drained.Drained.TheVariants.{Settled, Spent}
use Rattle.settle_check.proofs.Settled.{not_settled}
use Rattle.actor_rounds.specs.declared.drainers.Drainer.{Drainer}
use Rattle.actor_rounds.specs.Drainers.{AreSeats, AreStanding, seats_of}
use Rattle.actor_rounds.specs.Rounds.{Drains, EndsWith, Lets, RoundOf, all_pass}
use Rattle.actor_rounds.proofs.DrainFacts.{drains_grow}
use Rattle.actor_rounds.proofs.RoundFacts.{round_grows, whole_round}
use Rattle.settle_budget.specs.Drains.Measured.{SharesWell}
use Rattle.settle_budget.specs.Drains.Selections.{NoneProvisionsLate}
use Rattle.settle_slot.proofs.Slot.Held.{all_holds}
use Rattle.settle_progress.proofs.Epochs.Silent.{older_run}
use Rattle.settle_progress.specs.Drains.Settling.{MayDrain}
use Rattle.settle_progress.proofs.Drains.Drained.{drained_rounds_last}
use Rattle.settle_progress.proofs.Drains.Held.{held_rounds_last}
use Rattle.settle_budget.proofs.Drains.Selections.{static_drains_settle}
use Rattle.settle_tries.proofs.Few.Trying.{shared_drains_settle}
use Rattle.settle_round_calls.proofs.Rounds.Drains.{every_drained_round_is_short}
use Rattle.settle_round_calls.proofs.Rounds.Sum.{every_round_is_short}
use Rattle.worker_threads.specs.Settling.{DrainSettles, IsSettledBy, RoundIsShort, RoundLasts, RoundsOfDrainAreShort, RoundsOfDrainLast}

-- ---- a round

module _ (setup : Setup) (lets : Lets) (round : RoundOf lets) (seats : AreSeats (seats_of round.drainers)) (stand : AreStanding round.drainers round.start) where
  may_begin : IsRunOf setup round.past → MayDrain setup round.start round.drainers
  may_begin run = let g = round_grows lets round.past round.left round.drainers round.start round.budget round.after round.whole round.is_round in
      record { run = older_run setup g.longer.added round.start (subst (IsRunOf setup) g.longer.are run); seats = seats; stand = stand }

  pub round_lasts : round.whole ≡ true → RoundLasts setup lets round.drainers round.start round.past
  round_lasts whole only run alone x passes =
      held_rounds_last setup lets round.drainers round.after round.start round.past round.budget round.left (may_begin run) only run (whole_round lets round whole) alone x passes

  pub round_short : RoundIsShort setup lets round.drainers round.start round.past (round.budget - round.left)
  round_short allow run alone few order small =
      let most = every_round_is_short setup lets round allow stand.roles run alone few order small in omega (arith, most)

-- ---- a drain

module _ (setup : Setup) (ds after : List Drainer) (h past : List Entry) (b left : ℕ) (seats : AreSeats (seats_of ds)) (stand : AreStanding ds h) (run : IsRunOf setup past) where
  may_drain : Drains all_pass setup after past left ds h b → MayDrain setup h ds
  may_drain drained = let g = drains_grow all_pass setup after past left ds h b drained in
      record { run = older_run setup g.longer.added h (subst (IsRunOf setup) g.longer.are run); seats = seats; stand = stand }

  pub drain_lasts : RoundsOfDrainLast setup after past left ds h b
  drain_lasts only drained = drained_rounds_last setup ds after h past b left (may_drain drained) only run drained

  pub drain_short : RoundsOfDrainAreShort setup after past left ds h b
  drain_short allow order few drained = every_drained_round_is_short setup all_pass ds after h past b left allow (may_drain drained) run all_holds order few drained

  -- where nothing is due at the end, the drain has not ended with its budget spent
  by_settled : (budget : ℕ) (d : Drained) → EndsWith setup past budget d → IsSettled setup (world setup past) → IsSettledBy d
  by_settled budget (Settled made) ends settled = tt
  by_settled budget (Spent made key due) ends settled = absurd (not_settled setup (world setup past) (key, due) ends.1 settled)

  pub drain_settles : (d : Drained) → EndsWith setup past b d → Drains all_pass setup after past left ds h b → DrainSettles setup ds h past b d
  drain_settles d ends drained allow order may shared has = by shared
    where
      by : SharesWell (world setup h) ⊎ NoneProvisionsLate setup past → IsSettledBy d
      by (inl well) = by_settled b d ends (shared_drains_settle setup ds after h past b left allow may well has run order drained)
      by (inr none) = by_settled b d ends (static_drains_settle setup ds after h past b left allow may has run order none drained)
