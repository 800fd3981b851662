use Rattle.std.proofs.Common.{◌≡◌, ◌∙◌, ap, subst, sym, arith, Option}
use Rattle.std.specs.List.{list_any}
use Rattle.std.proofs.lemmas.Bool.{not-true}
use Rattle.binder_model.specs.World.{world}
use Rattle.script_runs.specs.declared.settled.SettledAt.{SettledAt}
use Rattle.script_runs.specs.Steps.Settled.{IsNoted, calls_device}
use Rattle.script_runs.proofs.Staying.{stays, to_the_end}
use Rattle.script_runs.proofs.settled.stays_settled.Goals as goal

pub returns-then-version-at : goal.returns-then-version-at
returns-then-version-at c =
    let w = c.args.world.now in
    let at = c.in-Some.at in
    let was = subst (λ (noted : Option SettledAt). IsNoted w.setup w.past noted) c.in-Some.is c.requires in
    let store = ap (λ (s : _). s.version) c.store.ensures in
    let version : (world w.setup w.past).store.version ≡ at.version = omega (arith, store, c.version.ensures, c.if-version-at.true) in
    let since = ap (list_any calls_device) (sym (to_the_end at.entries c.history.result.now)) in
    λ quiet. stays w.setup w.past c.history.result.now at was c.history.ensures.entries version (since ∙ (sym c.call_devices.ensures ∙ not-true c.call_devices.result quiet))
