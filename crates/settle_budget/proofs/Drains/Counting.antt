-- A drain makes few rounds: each lowers what may still be written, or selects a node.
use Rattle.std.proofs.Common.{◌≡◌, ◌∙◌, ℕ, ◌+◌, ◌*◌, ◌≤◌, List, [], ◌∷◌, ◌++◌, append_assoc, Bool, true, false, Some, refl, sym, ap, subst, arith}
use Rattle.std.proofs.lemmas.List.{append_cancel_right}
use Rattle.kube_objects.specs.declared.key.Key.{Key}
use Rattle.kube_parts.specs.declared.names.Due.{Due}
use Rattle.call_types.specs.declared.entry.Entry.{Entry}
use Rattle.call_types.specs.declared.setup.Setup.{Setup}
use Rattle.binder_model.specs.Due.{IsFirstDue}
use Rattle.binder_model.specs.Promises.{IsRunOf}
use Rattle.binder_model.specs.World.{world}
use Rattle.actor_rounds.specs.declared.drainers.Drainer.{Drainer}
use Rattle.actor_rounds.specs.Drainers.{roles_of}
use Rattle.actor_rounds.specs.Longer.{users_of}
use Rattle.actor_rounds.specs.Rounds.{Drains, Goes, IsRound, IsSpent, NothingDue, all_pass, round_of}
use Rattle.actor_rounds.proofs.DrainFacts.{drains_grow}
use Rattle.actor_rounds.proofs.RoundFacts.{roles_built, round_part, round_roles, round_users}
use Rattle.settle_writes.specs.Writes.Lasting.{HasLasting}
use Rattle.settle_progress.proofs.Epochs.Silent.{rounds_silence_the_overtaken}
use Rattle.settle_budget.proofs.Nodes.Nodes.{pods_are_on_given_nodes}
use Rattle.settle_progress.specs.Drains.Rounds.{HasDue}
use Rattle.settle_progress.proofs.Drains.Drained.{passed_rounds_last, served_have_doers}
use Rattle.settle_progress.proofs.Drains.Leaving.{rounds_leave_drainers}
use Rattle.settle_progress.proofs.Epochs.Silent.{older_run}
use Rattle.settle_pays.specs.Drains.All.{ImportsAllow}
use Rattle.settle_pays.proofs.Drains.Rounds.{round_paid}
use Rattle.settle_write_counts.specs.Rounds.Counts.{to_write}
use Rattle.settle_budget.specs.Drains.Drains.{rounds_in}
use Rattle.settle_budget.specs.Drains.Rounds.{AreNodesApart, IsLowered, MaySettle, RoundsAreCounted, selected_in}
use Rattle.settle_budget.proofs.Drains.Entries.{paid_entries_lower}
use Rattle.settle_budget.proofs.Drains.Serving.{of_actors, rounds_serve_nodes}

pub selected_both : (newer older : List Entry) → selected_in (newer ++ older) ≡ selected_in newer + selected_in older
selected_both [] older = omega arith
selected_both (e ∷ newer) older = let rest = selected_both newer older in omega (arith, rest)

-- the first that is due is due for an actor that is no stale agent
has_due : (setup : Setup) (ds : List Drainer) (h : List Entry) (first : Key × Due) → MaySettle setup ds h → IsFirstDue setup (world setup h) (Some first) → HasDue setup ds h
has_due setup ds h first at due = record {
  key = first.0;
  object = due.object;
  action = first.1;
  stands = due.there;
  due = due.due;
  doer = served_have_doers setup ds h first.0 due.object first.1 (λ key p there scheduled. at.served p.node (pods_are_on_given_nodes setup h key p there scheduled)) due.there due.due;
}

-- a whole round leaves its drainers so that the next may begin
pub settles_next : (setup : Setup) (ds between : List Drainer) (h middle : List Entry) (b rest : ℕ) → MaySettle setup ds h → IsRunOf setup middle
    → IsRound all_pass middle rest ds h b between true → MaySettle setup between middle
settles_next setup ds between h middle b rest at here round =
    let leaves = rounds_leave_drainers setup all_pass ds between h middle b rest at.may here round in
    record {
      may = leaves.0;
      rests = leaves.1;
      only = rounds_silence_the_overtaken setup all_pass ds between h middle b rest true here at.may.seats round at.only;
      apart = subst AreNodesApart (sym (round_roles all_pass middle rest ds h b between true round)) at.apart;
      served = rounds_serve_nodes setup all_pass ds between h middle b rest true here at.may.stand.roles at.apart round at.served;
    }

module _ (setup : Setup) (allow : ImportsAllow setup) (after : List Drainer) (past : List Entry) (left : ℕ) (run : IsRunOf setup past) where
  -- the entries of a round, and what they lower
  record IsPassed (h middle : List Entry) : Type 0 where
    newer : List Entry
    are : middle ≡ newer ++ h
    lowered : IsLowered setup h newer

  passed : (ds between : List Drainer) (h middle : List Entry) (b rest : ℕ) (whole : Bool) → MaySettle setup ds h → IsRunOf setup middle
      → IsRound all_pass middle rest ds h b between whole → IsPassed h middle
  passed ds between h middle b rest whole at here round =
      let p = round_paid setup all_pass (round_of round) allow at.may.stand.roles at.rests here in
      let users : users_of (p.newer ++ h) ≡ users_of h = ap users_of (sym p.are) ∙ round_users all_pass middle rest ds h b between whole round (roles_built (roles_of ds) at.may.stand.roles) in
      record { newer = p.newer; are = p.are; lowered = paid_entries_lower setup p.newer h (subst (IsRunOf setup) p.are here) (of_actors p.newer h users) p.each }

  -- what may still be written after a round
  round_stays : (h middle : List Entry) (p : IsPassed h middle) → to_write setup (world setup middle) ≤ to_write setup (world setup h) + selected_in p.newer
  round_stays h middle p = subst (λ es. to_write setup (world setup es) ≤ to_write setup (world setup h) + selected_in p.newer) (sym p.are) p.lowered.stays

  round_falls : (h middle : List Entry) (p : IsPassed h middle) → HasLasting setup h middle → to_write setup (world setup middle) + 1 ≤ to_write setup (world setup h) + 2 * selected_in p.newer
  round_falls h middle p has = subst (λ es. to_write setup (world setup es) + 1 ≤ to_write setup (world setup h) + 2 * selected_in p.newer) (sym
      p.are) (p.lowered.falls (subst (HasLasting setup h) p.are has))

  -- so many rounds come after these entries
  record AreCounted (h : List Entry) (rounds : ℕ) : Type 0 where
    newer : List Entry
    are : past ≡ newer ++ h
    few : rounds + to_write setup (world setup past) ≤ 1 + to_write setup (world setup h) + 2 * selected_in newer

  none : (h : List Entry) → past ≡ h → AreCounted h 0
  none h same = record { newer = []; are = same; few = (let e = ap (λ es. to_write setup (world setup es)) same in omega (arith, e)) }

  -- one round comes, with which the drain ends
  one_round : (h middle : List Entry) → IsPassed h middle → past ≡ middle → AreCounted h 1
  one_round h middle p same = record {
    newer = p.newer;
    are = same ∙ p.are;
    few =
        (let e = ap (λ es. to_write setup (world setup es)) same in let stays = round_stays h middle p in omega (arith, e, stays));
  }

  -- with no call left a drain makes no further round
  last_round : (h middle : List Entry) → IsPassed h middle → (ds : List Drainer) (b : ℕ) → b ≡ 0
      → (drained : Drains all_pass setup after past left ds middle b) → AreCounted h (1 + rounds_in all_pass setup after past left ds middle b drained)
  last_round h middle p ds b spent (NothingDue settled same entries rest) = one_round h middle p entries
  last_round h middle p ds b spent (IsSpent first due none_ same entries rest) = one_round h middle p entries
  last_round h middle p ds b spent (Goes first due some between next rest whole round drained) = absurd (omega (arith, some, spent))

  counted : (ds : List Drainer) (h : List Entry) (b : ℕ) → MaySettle setup ds h → (drained : Drains all_pass setup after past left ds h b)
      → AreCounted h (rounds_in all_pass setup after past left ds h b drained)
  counted ds h b at (NothingDue settled same entries rest) = none h entries
  counted ds h b at (IsSpent first due none_ same entries rest) = none h entries
  counted ds h b at (Goes first due some between middle rest true round drained) =
      let g = drains_grow all_pass setup after past left between middle rest drained in
      let here = older_run setup g.longer.added middle (subst (IsRunOf setup) g.longer.are run) in
      let p = passed ds between h middle b rest true at here round in
      let next = settles_next setup ds between h middle b rest at here round in
      let later = counted between middle rest next drained in
      let falls = round_falls h middle p (passed_rounds_last setup ds between h middle b rest at.may at.only here round (has_due setup ds h first at due)) in
      let few = later.few in
      let both = selected_both later.newer p.newer in
      record { newer = later.newer ++ p.newer; are = later.are ∙ (ap (λ es. later.newer ++ es) p.are ∙ sym (append_assoc later.newer p.newer h)); few = omega (arith, falls, few, both) }
  counted ds h b at (Goes first due some between middle rest false round drained) =
      let g = drains_grow all_pass setup after past left between middle rest drained in
      let here = older_run setup g.longer.added middle (subst (IsRunOf setup) g.longer.are run) in
      last_round h middle (passed ds between h middle b rest false at here round) between rest (round_part all_pass middle rest ds h b between false round refl) drained

pub rounds_are_counted : RoundsAreCounted
rounds_are_counted setup ds after h past newer b left allow at run are drained =
    let c = counted setup allow after past left run ds h b at drained in
    let same : newer ≡ c.newer = append_cancel_right newer c.newer h (sym are ∙ c.are) in
    let few = c.few in
    let selected = ap selected_in same in
    omega (arith, few, selected)
