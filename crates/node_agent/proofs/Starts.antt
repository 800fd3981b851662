-- How the start of an agent comes to stand and goes on; and a machine whose key is parked has ended.
use Rattle.std.proofs.Common.{◌≡◌, ◌∙◌, ℕ, [], ◌∷◌, Bool, true, false, true≢false, Option, None, refl, sym, subst}
use Rattle.std.specs.Prelude.{is_some}
use Rattle.std.specs.List.{list_any}
use Rattle.std.proofs.lemmas.Bool.{or_parts}
use Rattle.binder_model.specs.AgentLicence.{epoch_in}
use Rattle.node_agent.specs.declared.step.AgentStep.{AgentStep}
use Rattle.node_agent.specs.declared.step.AgentStep.TheVariants as steps
use Rattle.node_agent.specs.Agents.{agent_call, agent_parks, agent_call_at}
use Rattle.safety_law.specs.Pods.Tellings.{tells_pod}
use Rattle.node_agent.specs.Evidence.{HasStarted, StartedBy}
use Rattle.node_agent.specs.StartLaw.{ParkedAgentsHaveEnded, StartGoesOn, UntoldHasStarted}

pub untold_has_started : UntoldHasStarted
untold_has_started node [] none = tt
untold_has_started node (e ∷ mine) none = by (is_some (epoch_in node e)) (untold_has_started node mine)
  where
    apart : (tells_pod e ≡ false) × (list_any tells_pod mine ≡ false)
    apart = or_parts (tells_pod e) (list_any tells_pod mine) none

    by : (b : Bool) → (list_any tells_pod mine ≡ false → HasStarted node mine) → StartedBy b node e mine (HasStarted node mine)
    by true rest = none
    by false rest = (λ told. absurd (true≢false (sym told ∙ apart.0)), rest apart.1)

pub start_goes_on : StartGoesOn
start_goes_on node e mine none listed started = subst (λ (x : Option ℕ). StartedBy (is_some x) node e mine (HasStarted node mine)) (sym none) (listed, started)

pub parked_have_ended : ParkedAgentsHaveEnded
unfolding agent_call
parked_have_ended op = by op.step
  where
    by : (step : AgentStep) → agent_parks step ≡ true → agent_call_at op step ≡ None
    by steps.Parked e = refl
    by (steps.ReadsClaim name) e = absurd (true≢false (sym e))
    by (steps.ReadsVolume name c) e = absurd (true≢false (sym e))
    by steps.MountsPod e = absurd (true≢false (sym e))
    by steps.Unmounts e = absurd (true≢false (sym e))
    by steps.ReadsMounts e = absurd (true≢false (sym e))
    by steps.Finishes e = absurd (true≢false (sym e))
    by steps.Done e = absurd (true≢false (sym e))
