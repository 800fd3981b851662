-- Each round of a drain is short, the first too, whatever is under way as the drain begins.
use Rattle.std.proofs.Common.{◌≤◌, ℕ, List, length, true, false, refl, subst, arith}
use Rattle.call_types.specs.declared.entry.Entry.{Entry}
use Rattle.call_types.specs.declared.setup.Setup.{Setup}
use Rattle.binder_model.specs.Promises.{IsRunOf}
use Rattle.actor_rounds.specs.declared.drainers.Drainer.{Drainer}
use Rattle.actor_rounds.specs.Rounds.{Drains, Goes, IsSpent, Lets, NothingDue, round_of}
use Rattle.actor_rounds.proofs.DrainFacts.{drains_grow}
use Rattle.actor_rounds.proofs.RoundFacts.{round_part, round_seats, same_length}
use Rattle.settle_slot.specs.Slot.Gates.{HoldsMountsAlone}
use Rattle.settle_progress.specs.Drains.Settling.{MayDrain}
use Rattle.settle_progress.proofs.Drains.Leaving.{rounds_leave_drainers}
use Rattle.settle_progress.proofs.Epochs.Silent.{older_run}
use Rattle.settle_pays.specs.Drains.All.{ImportsAllow}
use Rattle.settle_budget.specs.Drains.Budget.{AreAlwaysInOrder}
use Rattle.settle_round_calls.specs.Rest.ShortRounds.{EachRoundIsShort}
use Rattle.settle_round_calls.proofs.Rest.Short.{none_more}
use Rattle.settle_round_calls.specs.Rounds.EveryRound.{EveryDrainedRoundIsShort}
use Rattle.settle_round_calls.proofs.Rounds.Sum.{every_round_is_short, older_in_order}

module _ (setup : Setup) (lets : Lets) (after : List Drainer) (past : List Entry) (left : ℕ) (allow : ImportsAllow setup) (run : IsRunOf setup past)
    (holds : HoldsMountsAlone lets) (order : AreAlwaysInOrder setup past) where
  run_at : (ds : List Drainer) (h : List Entry) (b : ℕ) → Drains lets setup after past left ds h b → IsRunOf setup h
  run_at ds h b drained = let g = drains_grow lets setup after past left ds h b drained in older_run setup g.longer.added h (subst (IsRunOf setup) g.longer.are run)

  order_at : (ds : List Drainer) (h : List Entry) (b : ℕ) → Drains lets setup after past left ds h b → AreAlwaysInOrder setup h
  order_at ds h b drained =
      let g = drains_grow lets setup after past left ds h b drained in
      older_in_order setup g.longer.added h past g.longer.are order

  each_short : (ds : List Drainer) (h : List Entry) (b : ℕ) → MayDrain setup h ds → length ds ≤ 13
      → (drained : Drains lets setup after past left ds h b) → EachRoundIsShort lets setup after past left ds h b drained
  each_short ds h b may few (NothingDue settled same entries rest) = tt
  each_short ds h b may few (IsSpent first due none same entries rest) = tt
  each_short ds h b may few (Goes first due some between middle rest true round more) =
      let here = run_at between middle rest more in
      let in_order = order_at between middle rest more in
      let leaves = rounds_leave_drainers setup lets ds between h middle b rest may here round in
      let many = same_length between ds (round_seats lets middle rest ds h b between true round) in (
        λ small. every_round_is_short setup lets (round_of round) allow may.stand.roles here holds few in_order small,
        each_short between middle rest leaves.0 (omega (arith, many, few)) more,
      )
  each_short ds h b may few (Goes first due some between middle rest false round more) =
      let here = run_at between middle rest more in
      let in_order = order_at between middle rest more in (
        λ small. every_round_is_short setup lets (round_of round) allow may.stand.roles here holds few in_order small,
        none_more lets setup after past left between middle rest (round_part lets middle rest ds h b between false round refl) more,
      )

pub every_drained_round_is_short : EveryDrainedRoundIsShort
every_drained_round_is_short setup lets ds after h past b left allow may run holds order few drained = each_short setup lets after past left allow run holds order ds h b may few drained
