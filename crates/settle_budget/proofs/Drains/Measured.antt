-- A drain makes no more rounds than one and the measure, where tries fall in each round that leaves as much to do.
use Rattle.std.proofs.Common.{◌≡◌, ℕ, ◌+◌, ◌*◌, ◌≤◌, List, true, false, inl, inr, refl, subst, arith}
use Rattle.call_types.specs.declared.entry.Entry.{Entry}
use Rattle.call_types.specs.declared.setup.Setup.{Setup}
use Rattle.binder_model.specs.Promises.{IsRunOf}
use Rattle.binder_model.specs.World.{world}
use Rattle.settle_measure.specs.Left.Measure.{work_left}
use Rattle.actor_rounds.specs.declared.drainers.Drainer.{Drainer}
use Rattle.actor_rounds.specs.Rounds.{Drains, Goes, IsSpent, NothingDue, all_pass, round_of}
use Rattle.actor_rounds.proofs.DrainFacts.{drains_grow}
use Rattle.actor_rounds.proofs.RoundFacts.{round_part, same_or_not}
use Rattle.settle_progress.proofs.Epochs.Silent.{older_run}
use Rattle.settle_pays.specs.Drains.All.{ImportsAllow}
use Rattle.settle_pays.proofs.Drains.Rounds.{rounds_pay}
use Rattle.settle_budget.specs.Drains.Drains.{rounds_in}
use Rattle.settle_budget.proofs.Drains.Settling.{few_rounds_settle}
use Rattle.settle_budget.specs.Drains.Measured.{AreTries, MeasuredDrainsSettle, RoundsAreMeasured, SharesWell}
use Rattle.settle_budget.specs.Drains.Rounds.{MaySettle}
use Rattle.settle_budget.proofs.Drains.Counting.{settles_next}
use Rattle.settle_budget.specs.Drains.Measured.{AreFew, AreQuiet, NoRound, OneMore}
use Rattle.settle_budget.specs.Drains.Budget.{AreAlwaysInOrder}
use Rattle.actor_rounds.proofs.RoundFacts.{round_seats, same_length}
use Rattle.settle_calls.specs.Slots.Rounds.{names_in, size_of_world}
use Rattle.settle_measure.specs.Left.Measure.{total}
use Rattle.model_laws.proofs.Lists.{none_some}
use Rattle.kube_objects.specs.Keys.{row_at}
use Rattle.kube_objects.specs.declared.objects.Object.{Object}
use Rattle.kube_objects.specs.declared.key.Key.{Key}
use Rattle.std.specs.Prelude.{length}
use Rattle.std.proofs.Common.{◌∷◌, ◌++◌, append_assoc, ◌∙◌, ◌≢◌, ◌⊎◌, [], Some, ap, sym}

module _ (setup : Setup) (allow : ImportsAllow setup) (are : AreTries setup) (after : List Drainer) (past : List Entry) (left : ℕ)
    (run : IsRunOf setup past) (order : AreAlwaysInOrder setup past) where
  -- with no call left a drain makes no round
  no_round : (ds : List Drainer) (h : List Entry) (b : ℕ) → b ≡ 0 → (drained : Drains all_pass setup after past left ds h b) → rounds_in all_pass setup after past left ds h b drained ≡ 0
  no_round ds h b spent (NothingDue settled same entries rest) = refl
  no_round ds h b spent (IsSpent first due none same entries rest) = refl
  no_round ds h b spent (Goes first due some between middle rest whole round drained) = absurd (omega (arith, some, spent))

  -- some quiet rounds have come since a point from which no more than so many come
  measured : (start : List Drainer) (from : List Entry) (most done : ℕ) → AreFew setup start from most → (ds : List Drainer) (h : List Entry) (b : ℕ)
      → MaySettle setup ds h → length ds ≤ 13 → SharesWell (world setup h) → IsRunOf setup h → AreAlwaysInOrder setup h → AreQuiet setup start from done ds h
      → (drained : Drains all_pass setup after past left ds h b) → rounds_in all_pass setup after past left ds h b drained + done ≤ 1 + (10 * work_left setup (world setup h) + most)
  measured start from most done bound ds h b at small shares now ordered quiet (NothingDue settled same entries rest) = let few = bound ds h done now ordered quiet in omega (arith, few)
  measured start from most done bound ds h b at small shares now ordered quiet (IsSpent first due none same entries rest) = let few = bound ds h done now ordered quiet in omega (arith, few)
  measured start from most done bound ds h b at small shares now ordered quiet (Goes first due some between middle rest false round drained) =
      let none = no_round between middle rest (round_part all_pass middle rest ds h b between false round refl) drained in
      let few = bound ds h done now ordered quiet in
      omega (arith, none, few)
  measured start from most done bound ds h b at small shares now ordered quiet (Goes first due some between middle rest true round drained) =
      by (same_or_not (work_left setup (world setup middle)) (work_left setup (world setup h)))
      (λ s f m n few q. measured s f m n few between middle rest (settles_next setup ds between h middle b rest at here round) still
      (are.shares ds between h middle b rest at here round shares) here behind q drained)
    where
      here : IsRunOf setup middle
      here = let g = drains_grow all_pass setup after past left between middle rest drained in older_run setup g.longer.added middle (subst (IsRunOf setup) g.longer.are run)

      behind : AreAlwaysInOrder setup middle
      behind newer older same = let g = drains_grow all_pass setup after past left between middle rest drained in
          order (g.longer.added ++ newer) older (g.longer.are ∙ (ap (λ es. g.longer.added ++ es) same ∙ sym (append_assoc g.longer.added newer older)))

      still : length between ≤ 13
      still = let same = same_length between ds (round_seats all_pass middle rest ds h b between true round) in omega (arith, small, same)

      few : done ≤ most
      few = bound ds h done now ordered quiet

      by : (work_left setup (world setup middle) ≡ work_left setup (world setup h)) ⊎ (work_left setup (world setup middle) ≢ work_left setup (world setup h))
          → ((s : List Drainer) (f : List Entry) (m n : ℕ) → AreFew setup s f m → AreQuiet setup s f n between middle
          → rounds_in all_pass setup after past left between middle rest drained + n ≤ 1 + (10 * work_left setup (world setup middle) + m))
          → 1 + rounds_in all_pass setup after past left between middle rest drained + done ≤ 1 + (10 * work_left setup (world setup h) + most)
      by (inl same) rounds = let later = rounds start from most (done + 1) bound (OneMore done ds h b rest first refl quiet due round same) in omega (arith, same, later)
      by (inr other) rounds =
          let stays = (rounds_pay setup all_pass (round_of round) allow at.may.stand.roles at.rests here).fallen.stays in
          let later = rounds between middle 9 0 (are.next ds between h middle b rest allow at small here round (are.shares ds between h middle b rest at here round shares)) (NoRound refl refl refl) in
          omega (arith, stays, other, later, few)

pub rounds_are_measured : RoundsAreMeasured
rounds_are_measured setup are ds after h past b left allow at small shares run order drained =
    let g = drains_grow all_pass setup after past left ds h b drained in
    let now = older_run setup g.longer.added h (subst (IsRunOf setup) g.longer.are run) in
    let before : AreAlwaysInOrder setup h =
    λ newer older same. order (g.longer.added ++ newer) older (g.longer.are ∙ (ap (λ es. g.longer.added ++ es) same ∙ sym (append_assoc g.longer.added newer older))) in
    let few = measured setup allow are after past left run order ds h 10 0 (are.first ds h allow at small shares) ds h b at small shares now before (NoRound refl refl refl) drained in
    omega (arith, few)

-- where something is due something stands
rounds_or_none : (setup : Setup) (ds after : List Drainer) (h past : List Entry) (b left : ℕ)
    (drained : Drains all_pass setup after past left ds h b) → (rounds_in all_pass setup after past left ds h b drained ≡ 0) ⊎ (1 ≤ size_of_world (world setup h))
rounds_or_none setup ds after h past b left (NothingDue settled same entries rest) = inl refl
rounds_or_none setup ds after h past b left (IsSpent first due none same entries rest) = inl refl
rounds_or_none setup ds after h past b left (Goes first due some between middle rest whole round drained) = inr (sized (world setup h).store.rows first.0 due.object due.there)
  where
    sized : (rows : List Object) (key : Key) (o : Object) → row_at key rows ≡ Some o → 1 ≤ total (λ x. 1 + names_in x) rows
    sized [] key o there = none_some there
    sized (x ∷ rows) key o there = omega arith

pub measured_drains_settle : MeasuredDrainsSettle
measured_drains_settle setup are ds after h past b left allow at shares has run order drained =
    let few = rounds_are_measured setup are ds after h past b left allow at has.few shares run order drained in
    few_rounds_settle setup all_pass ds after h past b left allow at.may at.rests run (λ g request own_read. refl) order has.small has.few drained
    (elim (rounds_or_none setup ds after h past b left drained) [
      | inl none ↦ omega (arith, none)
      | inr some ↦ omega (arith, few, some)
    ]) has.enough
