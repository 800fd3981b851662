use Rattle.std.proofs.Common.{refl, sym, ◌∙◌, arith}
use Rattle.std.proofs.lemmas.Result.{on_ok_weaker}
use Rattle.call_types.specs.declared.request.Request.TheVariants.{Create}
use Rattle.script_text.specs.declared.script.Line.TheVariants.{Call}
use Rattle.extended_play.proofs.Walking.{called, create_passes, holding}
use Rattle.extended_play.proofs.walk.Walk.create.Goals as goal

pub returns-in-Some-clause-walked : goal.returns-in-Some-clause-walked
returns-in-Some-clause-walked c =
    on_ok_weaker c.hold.result (λ enters. holding c.args.script.now c.args.option c.args.user c.args.object.now c.in-Some.over c.args.self.now _
    (sym c.held_by.ensures ∙ c.in-Some.is) enters refl (omega arith)) c.hold.ensures

pub returns-in-None-clause-walked : goal.returns-in-None-clause-walked
returns-in-None-clause-walked c =
    on_ok_weaker c.enter.result (λ entered. called c.args.script.now c.args.option c.args.user (Create c.args.object.now) c.args.self.now _
    (create_passes c.args.script.now c.args.object.now c.args.self.now (sym c.held_by.ensures ∙ c.in-None.is))
    (entered (Call c.args.user (Create c.args.object.now)) c.requires.there)) c.enter.ensures.entered
