-- In a drain each whole round that begins with something due, for an actor that is no stale agent, has an entry that lasts.
use Rattle.std.proofs.Common.{◌≡◌, ◌∙◌, ℕ, List, Bool, true, false, true≢false, refl, sym, ap, subst, arith, if◌then◌else◌}
use Rattle.kube_parts.specs.declared.names.Due.{Due}
use Rattle.kube_parts.specs.declared.names.Due.TheVariants as dues
use Rattle.kube_objects.specs.declared.objects.Object.TheVariants.{Claim, Class, Node, Pod, Volume}
use Rattle.kube_objects.specs.Bindings.{is_scheduled}
use Rattle.call_types.specs.declared.entry.Entry.{Entry}
use Rattle.call_types.specs.declared.request.SeatKind.{SeatKind}
use Rattle.call_types.specs.declared.request.SeatKind.TheVariants as seats
use Rattle.call_types.specs.declared.setup.Setup.{Setup}
use Rattle.binder_model.specs.Promises.{IsRunOf}
use Rattle.worker_core.specs.declared.role.Role.{Role}
use Rattle.actor_rounds.specs.declared.drainers.Drainer.{Drainer}
use Rattle.actor_rounds.specs.Drainers.{agent_of, of_kind}
use Rattle.actor_rounds.specs.Rounds.{Drains, Goes, IsSpent, Lets, NothingDue, all_pass}
use Rattle.actor_rounds.proofs.DrainFacts.{drains_grow}
use Rattle.actor_rounds.proofs.RoundFacts.{round_part}
use Rattle.settle_progress.specs.Epochs.Silent.{OnlyOvertakenAreSilent}
use Rattle.settle_progress.proofs.Epochs.Silent.{rounds_silence_the_overtaken}
use Rattle.settle_progress.specs.Drains.Drained.{DrainedRoundsLast, EachRoundLasts, PassedRoundsLast, ServedHaveDoers}
use Rattle.settle_progress.specs.Drains.Rounds.{HasCurrent, for_claim, for_volume}
use Rattle.settle_progress.specs.Drains.Settling.{MayDrain}
use Rattle.settle_progress.proofs.Drains.Leaving.{rounds_leave_drainers}
use Rattle.settle_progress.proofs.Drains.Paying.{run_of_older}
use Rattle.settle_progress.proofs.Drains.Rounds.{is_agent, unsettled_rounds_last}

-- nothing on a volume or a claim is an agent's

pub volumes_not : (action : Due) → is_agent (for_volume action) ≡ false
volumes_not dues.Reclaim = refl
volumes_not dues.Guard = refl
volumes_not dues.Unguard = refl
volumes_not dues.Available = refl
volumes_not dues.Bound = refl
volumes_not dues.Release = refl
volumes_not dues.Unbind = refl
volumes_not dues.Bind = refl
volumes_not dues.AssignClass = refl
volumes_not dues.Lost = refl
volumes_not dues.Provision = refl
volumes_not dues.ClearNode = refl
volumes_not dues.Assign = refl
volumes_not dues.Prepare = refl
volumes_not dues.Mount = refl
volumes_not dues.Finish = refl

pub claims_not : (action : Due) → is_agent (for_claim action) ≡ false
claims_not dues.Reclaim = refl
claims_not dues.Guard = refl
claims_not dues.Unguard = refl
claims_not dues.Available = refl
claims_not dues.Bound = refl
claims_not dues.Release = refl
claims_not dues.Unbind = refl
claims_not dues.Bind = refl
claims_not dues.AssignClass = refl
claims_not dues.Lost = refl
claims_not dues.Provision = refl
claims_not dues.ClearNode = refl
claims_not dues.Assign = refl
claims_not dues.Prepare = refl
claims_not dues.Mount = refl
claims_not dues.Finish = refl

pub no_agent : (kind : SeatKind) (node : List ℕ) → is_agent kind ≡ false → of_kind kind ≡ agent_of node → ⊥
no_agent kind node other same = true≢false (sym (ap (λ (r : Role). is_agent r.kind) same) ∙ other)

pub served_have_doers : ServedHaveDoers
served_have_doers setup ds h key (Volume v) action served there due node is = absurd (no_agent (for_volume action) node (volumes_not action) is)
served_have_doers setup ds h key (Claim c) action served there due node is = absurd (no_agent (for_claim action) node (claims_not action) is)
served_have_doers setup ds h key (Pod p) action served there due node is = by (is_scheduled p) refl is
  where
    by : (b : Bool) → is_scheduled p ≡ b → (if b then agent_of p.node else of_kind seats.Scheduler) ≡ agent_of node → HasCurrent setup ds h node
    by true scheduled same = subst (HasCurrent setup ds h) (ap (λ (r : Role). r.node) same) (served key p there scheduled)
    by false open_ same = absurd (no_agent seats.Scheduler node refl same)
served_have_doers setup ds h key (Class x) action served there due node is = absurd (no_agent seats.Scheduler node refl is)
served_have_doers setup ds h key (Node x) action served there due node is = absurd (no_agent seats.Scheduler node refl is)

pub passed_rounds_last : PassedRoundsLast
passed_rounds_last setup ds after h past b left may only run round x = unsettled_rounds_last setup all_pass ds after h past b left may only run round x (λ seat s y g u v p own gives leads alike. refl)

-- no further round comes where no call is left
spent_round : (lets : Lets) (setup : Setup) (after : List Drainer) (past : List Entry) (left : ℕ) (ds : List Drainer) (h : List Entry) (b : ℕ)
    → b ≡ 0 → (drained : Drains lets setup after past left ds h b) → EachRoundLasts lets setup after past left ds h b drained
spent_round lets setup after past left ds h b none (NothingDue settled same entries rest) = tt
spent_round lets setup after past left ds h b none (IsSpent first due empty same entries rest) = tt
spent_round lets setup after past left ds h b none (Goes first due some between middle rest whole round more) = absurd (omega (arith, none, some))

module _ (setup : Setup) (after : List Drainer) (past : List Entry) (left : ℕ) (run : IsRunOf setup past) where
  each_lasts : (ds : List Drainer) (h : List Entry) (b : ℕ) → MayDrain setup h ds → OnlyOvertakenAreSilent setup ds h
      → (drained : Drains all_pass setup after past left ds h b) → EachRoundLasts all_pass setup after past left ds h b drained
  each_lasts ds h b may only (NothingDue settled same entries rest) = tt
  each_lasts ds h b may only (IsSpent first due none same entries rest) = tt
  each_lasts ds h b may only (Goes first due some between middle rest true round more) =
      let g = drains_grow all_pass setup after past left between middle rest more in
      let here = run_of_older setup g.longer.added middle past g.longer.are run in (
        λ whole x. passed_rounds_last setup ds between h middle b rest may only here round x,
        each_lasts between middle rest (rounds_leave_drainers setup all_pass ds between h middle b rest may here round).0
            (rounds_silence_the_overtaken setup all_pass ds between h middle b rest true here may.seats round only) more,
      )
  each_lasts ds h b may only (Goes first due some between middle rest false round more) =
      (λ whole x. absurd (true≢false (sym whole)), spent_round all_pass setup after past left between middle rest (round_part all_pass middle rest ds h b between false round refl) more)

pub drained_rounds_last : DrainedRoundsLast
drained_rounds_last setup ds after h past b left may only run drained = each_lasts setup after past left run ds h b may only drained
