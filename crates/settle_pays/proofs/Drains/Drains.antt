-- Each entry of a drain pays: its rounds leave nothing under way, but for one that spends the budget, and that is the last.
use Rattle.std.proofs.Common.{◌≡◌, ℕ, List, true, false, refl, subst, arith}
use Rattle.call_types.specs.declared.entry.Entry.{Entry}
use Rattle.call_types.specs.declared.setup.Setup.{Setup}
use Rattle.binder_model.specs.Promises.{IsRunOf}
use Rattle.actor_rounds.specs.declared.drainers.Drainer.{Drainer}
use Rattle.actor_rounds.specs.Drainers.{AreAtRest}
use Rattle.actor_rounds.specs.Rounds.{Drains, Goes, IsSpent, Lets, NothingDue, round_of}
use Rattle.actor_rounds.proofs.DrainFacts.{drains_grow}
use Rattle.actor_rounds.proofs.RoundFacts.{round_part}
use Rattle.settle_pays.specs.Pays.Pays.{HavePaid}
use Rattle.settle_pays.proofs.Pays.Entries.{none_paid, then_paid}
use Rattle.settle_progress.proofs.Epochs.Silent.{older_run}
use Rattle.settle_progress.specs.Drains.Settling.{MayDrain}
use Rattle.settle_progress.proofs.Drains.Leaving.{rounds_leave_drainers}
use Rattle.settle_pays.specs.Drains.All.{DrainsPay, ImportsAllow}
use Rattle.settle_pays.proofs.Drains.Rounds.{pays_off, round_paid}

module _ (setup : Setup) (allow : ImportsAllow setup) (lets : Lets) (after : List Drainer) (past : List Entry) (left : ℕ) (run : IsRunOf setup past) where
  -- with no call left a drain ends as it begins
  pub none_left : (ds : List Drainer) (h : List Entry) (b : ℕ) → Drains lets setup after past left ds h b → b ≡ 0 → past ≡ h
  none_left ds h b (NothingDue settled same entries rest) spent = entries
  none_left ds h b (IsSpent first due none same entries rest) spent = entries
  none_left ds h b (Goes first due some between middle rest whole round more) spent = absurd (omega (arith, some, spent))

  drain_paid : (ds : List Drainer) (h : List Entry) (b : ℕ) → MayDrain setup h ds → AreAtRest ds → Drains lets setup after past left ds h b → HavePaid setup h past
  drain_paid ds h b may rests (NothingDue settled same entries rest) = none_paid setup h past entries
  drain_paid ds h b may rests (IsSpent first due none same entries rest) = none_paid setup h past entries
  drain_paid ds h b may rests (Goes first due some between middle rest true round more) =
      let g = drains_grow lets setup after past left between middle rest more in
      let here : IsRunOf setup middle = older_run setup g.longer.added middle (subst (IsRunOf setup) g.longer.are run) in
      let leaves = rounds_leave_drainers setup lets ds between h middle b rest may here round in
      then_paid setup h middle past (round_paid setup lets (round_of round) allow may.stand.roles rests here) (drain_paid between middle rest leaves.0 leaves.1 more)
  drain_paid ds h b may rests (Goes first due some between middle rest false round more) =
      let g = drains_grow lets setup after past left between middle rest more in
      let here : IsRunOf setup middle = older_run setup g.longer.added middle (subst (IsRunOf setup) g.longer.are run) in
      let spent = round_part lets middle rest ds h b between false round refl in
      then_paid setup h middle past (round_paid setup lets (round_of round) allow may.stand.roles rests here)
      (none_paid setup middle past (none_left between middle rest more spent))

pub drains_pay : DrainsPay
drains_pay setup lets ds after h past b left allow may rests run drains = pays_off setup h past run (drain_paid setup allow lets after past left run ds h b may rests drains)
