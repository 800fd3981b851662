use Rattle.std.proofs.Common.{Option, subst}
use Rattle.kube_parts.specs.declared.names.LicenceRule.{LicenceRule}
use Rattle.store_server.specs.Serving.{Judges}
use Rattle.store_server.specs.Steps.Kept.{opened_of}
use Rattle.store_server.proofs.Answering.{refused, entered}
use Rattle.store_server.proofs.open_store.OpenStore.ask.Goals as goal

pub returns-in-Some-clause-answer : goal.returns-in-Some-clause-answer
returns-in-Some-clause-answer c =
    refused c.args.fenced (opened_of c.args.self.now) c.args.asked c.in-Some.rule c.refused_text.result
    (subst (λ (said : Option LicenceRule). Judges c.args.fenced c.args.self.now.world.past c.args.asked said) c.in-Some.is c.judge.ensures)
    c.refused_text.ensures

pub returns-in-None-clause-answer : goal.returns-in-None-clause-answer
returns-in-None-clause-answer c =
    entered c.args.fenced (opened_of c.args.self.now) (opened_of c.enter.new.self) c.args.asked c.enter.result
    (subst (λ (said : Option LicenceRule). Judges c.args.fenced c.args.self.now.world.past c.args.asked said) c.in-None.is c.judge.ensures)
    c.enter.ensures.opened c.enter.ensures.text
