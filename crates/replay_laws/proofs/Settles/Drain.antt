-- A drain of a script ends settled with the stated budget.
use Rattle.std.proofs.Common.{◌≡◌, ◌∙◌, ℕ, ◌≤◌, ◌-◌, ◌+◌, suc, ◌⊎◌, List, [], ◌∷◌, length, Bool, true, false, Option, Some, None, inl, inr, refl, sym, ap, subst, arith, if◌then◌else◌}
use Rattle.std.specs.Prelude.{nat_lt, option_map, slice_get}
use Rattle.std.proofs.lemmas.Bool.{ltb-false}
use Rattle.std.proofs.lemmas.List.{length-map}
use Rattle.call_types.specs.declared.entry.Entry.{Entry}
use Rattle.call_types.specs.declared.setup.Setup.{Setup}
use Rattle.binder_model.specs.Due.{IsSettled}
use Rattle.binder_model.specs.Promises.{IsRunOf}
use Rattle.binder_model.specs.Told.{SomeOf}
use Rattle.binder_model.specs.World.{world}
use Rattle.actor_rounds.specs.declared.drainers.Drainer.{Drainer}
use Rattle.actor_rounds.specs.Drainers.{AreAtRest, agent_of}
use Rattle.actor_rounds.specs.Rounds.{all_pass}
use Rattle.settle_alike.proofs.Alike.Rows.{get_mapped}
use Rattle.settle_budget.specs.Nodes.Nodes.{WasGiven}
use Rattle.settle_progress.specs.Drains.Rounds.{HasCurrent}
use Rattle.settle_progress.proofs.Drains.Rounds.{HasRole, role_at}
use Rattle.settle_measure.specs.Left.Measure.{faults_left}
use Rattle.settle_calls.specs.Slots.Rounds.{size_of_world}
use Rattle.settle_pays.specs.Drains.All.{ImportsAllow}
use Rattle.settle_budget.specs.Drains.Budget.{AreAlwaysInOrder, enough_calls}
use Rattle.settle_budget.specs.Drains.Rounds.{AreNodesApart, MaySettle}
use Rattle.settle_budget.specs.Drains.Measured.{SharesWell}
use Rattle.settle_budget.specs.Drains.Selections.{HasBudget, NoneProvisionsLate}
use Rattle.settle_budget.proofs.Drains.Selections.{static_drains_settle}
use Rattle.settle_tries.proofs.Few.Trying.{shared_drains_settle}
use Rattle.history_laws.specs.Runs.Laws.{IsGivenRun}
use Rattle.replay_laws.proofs.Settles.Given.{given_imports_fit, given_runs_stay_in_order}
use Rattle.script_text.specs.declared.script.Script.{Script}
use Rattle.script_runs.specs.Budget.{at_most, faults_ahead, most_budget, raise_for, raised, size_of_all}
use Rattle.script_runs.specs.Limits.{IsReadable}
use Rattle.script_runs.specs.Drains.{AreDrainers}
use Rattle.script_runs.specs.Replays.{IsDrain, Progress}
use Rattle.replay_laws.proofs.Drains.Drained.{AreSilentIfOvertaken, may_begin, silent_ones}
use Rattle.replay_laws.proofs.Drains.Silent.{role_there}
use Rattle.actor_rounds.proofs.RoundFacts.{seat_at as seat_there}
use Rattle.replay_laws.specs.Settles.Settling.{AllowsSettling, NoAgentIsStale}
use Rattle.replay_laws.proofs.Settles.Names.{nodes_apart}

-- ---- the budget that is raised is never so much

capped : (most n : ℕ) → at_most most n ≤ most
capped most n = by (nat_lt most n) refl
  where
    by : (b : Bool) → nat_lt most n ≡ b → (if b then most else n) ≤ most
    by true is = omega arith
    by false is = ltb-false most n is

never_more : (setup : Setup) (past : List Entry) (budget : ℕ) → raised None setup past budget ≤ most_budget
never_more setup past budget = capped most_budget (budget + raise_for (size_of_all (world setup past).store.rows) (faults_ahead (world setup past).devices.calls setup.faults))

many_calls : (size faults : ℕ) → 4194304 ≤ enough_calls size faults
many_calls size faults = grind arith

-- ---- a node that stands among these

-- where it stands
placed : (nodes : List (List ℕ)) (node : List ℕ) → SomeOf (λ n. n ≡ node) nodes → (place : ℕ) × (slice_get nodes place ≡ Some node)
placed [] node some = absurd some
placed (n ∷ nodes) node (inl is) = (0, ap Some is)
placed (n ∷ nodes) node (inr more) = let p = placed nodes node more in (suc p.0, p.1)

-- ---- the drain

module _ (script : Script) (first : ℕ) (option : Option ℕ) (before after : Progress) (d : IsDrain all_pass script option before after)
    (are : AreDrainers script first option before)
    (readable : IsReadable script) (given : IsGivenRun script.setup after.past) where
  past_is : after.past ≡ d.past
  past_is = ap (λ (p : Progress). p.past) d.is

  run : IsRunOf script.setup after.past
  run = record { imports = given.setup_given.passing; short = given.short; run = given.run }

  -- what was drained is less than a budget that was given
  rests : enough_calls (size_of_world (world script.setup before.past)) (faults_left script.setup (world script.setup before.past).devices) ≤ d.budget - before.drained → AreAtRest before.drainers
  rests enough = by option refl
    where
      many : 4194304 ≤ d.budget - before.drained
      many = let least = many_calls (size_of_world (world script.setup before.past)) (faults_left script.setup (world script.setup before.past).devices) in omega (arith, least, enough)

      by : (o : Option ℕ) → option ≡ o → AreAtRest before.drainers
      by (Some budget) is = let all : d.budget ≡ budget = d.raises ∙ ap (λ o. raised o script.setup before.past before.budget) is in are.rests budget is (omega (arith, all, many))
      by None is =
          let all : d.budget ≡ raised None script.setup before.past before.budget = d.raises ∙ ap (λ o. raised o script.setup before.past before.budget) is in
          let most = never_more script.setup before.past before.budget in
          absurd (omega (arith, all, most, many))

  few : length before.drainers ≤ 13
  few =
      let roles = ap length are.roles in
      let all = length-map before.drainers (λ (x : Drainer). x.actor.role) in
      let agents = length-map script.node_names agent_of in
      let most = readable.nodes in
      omega (arith, roles, all, agents, most)

  module _ (only : AreSilentIfOvertaken script first before.past) (awake : NoAgentIsStale script first before.past)
      (named : (node : List ℕ) → WasGiven script.setup before.past node → SomeOf (λ n. n ≡ node) script.node_names) where
    served : (node : List ℕ) → WasGiven script.setup before.past node → HasCurrent script.setup before.drainers before.past node
    served node was = record {
      place = at.place;
      drainer = at.drainer;
      there = at.there;
      role = at.role_is;
      current = awake at.place at.drainer.seat node (ap (λ seats. slice_get seats at.place) (sym are.seats) ∙ seat_there before.drainers at.place at.drainer at.there)
          (ap (λ roles. slice_get roles at.place) (sym are.roles) ∙ (role_there before.drainers at.place at.drainer at.there ∙ ap Some at.role_is));
    }
      where
        p : (place : ℕ) × (slice_get script.node_names place ≡ Some node)
        p = placed script.node_names node (named node was)

        at : HasRole before.drainers (agent_of node)
        at =
            role_at before.drainers (suc (suc (suc (suc (suc p.0))))) (agent_of node)
            (ap (λ roles. slice_get roles (suc (suc (suc (suc (suc p.0)))))) are.roles ∙ (get_mapped agent_of script.node_names p.0 ∙ ap (option_map agent_of) p.1))

    pub drain_settles : AllowsSettling script.setup before.past after.past (d.budget - before.drained) → IsSettled script.setup (world script.setup after.past)
    drain_settles allows = subst (λ h. IsSettled script.setup (world script.setup h)) (sym past_is) (by allows.shared)
      where
        may_settle : MaySettle script.setup before.drainers before.past
        may_settle = record {
          may = may_begin script first option before after d are run only;
          rests = rests allows.enough;
          only = silent_ones script first option before after d are run only;
          apart = subst AreNodesApart (sym are.roles) (nodes_apart script.node_names readable.order);
          served = served;
        }

        allow : ImportsAllow script.setup
        allow = record { uids = given_imports_fit script.setup given.setup_given }

        has : HasBudget script.setup before.drainers before.past (d.budget - before.drained)
        has = record { small = allows.small; few = few; enough = allows.enough }

        at_end : IsRunOf script.setup d.past
        at_end = subst (IsRunOf script.setup) past_is run

        order : AreAlwaysInOrder script.setup d.past
        order = given_runs_stay_in_order script.setup d.past (subst (IsGivenRun script.setup) past_is given)

        by : SharesWell (world script.setup before.past) ⊎ NoneProvisionsLate script.setup after.past → IsSettled script.setup (world script.setup d.past)
        by (inl shared) =
            shared_drains_settle script.setup before.drainers d.ran before.past d.past (d.budget - before.drained)
            (d.budget - (before.drained + d.made)) allow may_settle shared has at_end order d.rounds
        by (inr none_late) =
            static_drains_settle script.setup before.drainers d.ran before.past d.past (d.budget - before.drained) (d.budget - (before.drained + d.made)) allow may_settle has at_end order
            (subst (NoneProvisionsLate script.setup) past_is none_late) d.rounds
