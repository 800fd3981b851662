use Rattle.std.proofs.Common.{[]}
use Rattle.worker_core.specs.declared.role.Role.{Role}
use Rattle.worker_core.specs.Stands.{IsNew, StandsFor}
use Rattle.attention_law.specs.Played.{IsPlayed}
use Rattle.attention_law.proofs.Stepping.{begun, if_both}
use Rattle.attention_law.proofs.steps.begin.Goals as goal

pub returns : goal.returns
returns c =
    let role : Role = record { kind = c.args.kind; node = c.args.node.now } in
    if_both c.new.result (λ s. IsNew role s) (λ s. StandsFor s []) (λ s. IsPlayed role s []) (λ s new stands. begun role s new stands) c.new.ensures.is c.new.ensures.stands
