use Rattle.std.proofs.Common.{◌≡◌, ◌∙◌, ap, sym, subst}
use Rattle.world_core.specs.Kept.{History}
use Rattle.binder_console.specs.declared.commands.Task.TheVariants.{Gen}
use Rattle.binder_console.specs.Outcomes.{IsAnswer}
use Rattle.binder_console.specs.Replays.{summary_text}
use Rattle.binder_console.proofs.Promised.{IsPlayed, gen_answers}
use Rattle.binder_console.proofs.generating.generated.Goals as goal

pub returns : goal.returns
returns c = λ input.
    let r = c.in_ok-replayed.replayed in
    let e = c.in_ok-replayed.ensures in
    let w = c.world.ensures in
    let played : IsPlayed c.in_ok-script.script c.args.budget r.world.setup r.world.past r.ending =
    record { calls = e.replay; played = e.played; actors = e.actors; from = e.setup; of = w.of; run = w.run; safe = w.safe } in
    let printed : c.in_ok-text.text ≡ summary_text r.world.setup r.world.past r.ending =
    c.in_ok-text.ensures ∙ ap (λ (h : History). summary_text h.setup h.past r.ending) w.value in
    subst (IsAnswer (Gen c.args.seed c.args.budget) input) (sym c.answer_ended.ensures)
    (gen_answers c.args.seed c.in_ok-script.script c.args.budget r.world.setup r.world.past r.ending input c.in_ok-text.text c.in_ok-script.ensures.script played printed)
