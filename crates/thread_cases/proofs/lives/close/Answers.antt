use Rattle.shared_world.specs.Passes.{IsOf}
use Rattle.thread_cases.proofs.Cutting.{all_three}
use Rattle.thread_cases.proofs.lives.close.Goals as goal

pub close-requires-clause-passes : goal.close-requires-clause-passes
close-requires-clause-passes c =
    all_three (IsOf c.args.shared) c.args.user c.into_parts-others.result.0.items c.into_parts-lives.result.0.items c.in_ok-passes.passes.items
    c.in_ok-passes.ensures.all c.requires.user c.have_passes.ensures c.have_passes-2.ensures
