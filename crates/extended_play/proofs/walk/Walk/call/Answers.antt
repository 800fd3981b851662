use Rattle.std.proofs.lemmas.Result.{on_ok_weaker}
use Rattle.script_text.specs.declared.script.Line.TheVariants.{Call}
use Rattle.extended_play.proofs.Walking.{called, other_passes}
use Rattle.extended_play.proofs.walk.Walk.call.Goals as goal

pub returns-in_default : goal.returns-in_default
returns-in_default c = record {
  walked = on_ok_weaker c.enter.result (λ entered. called c.args.script.now c.args.option c.args.user c.args.request.now c.args.self.now c.enter.new.self
      (other_passes c.args.script.now c.args.request.now c.args.self.now c.in_default.not-Create)
      (entered (Call c.args.user c.args.request.now) c.requires.there)) c.enter.ensures.entered;
  place = c.enter.ensures.place;
}
