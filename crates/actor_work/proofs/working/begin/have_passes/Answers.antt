use Rattle.actor_work.proofs.Work.Firsts.{all_of}
use Rattle.actor_work.proofs.working.begin.have_passes.Goals as goal

pub returns : goal.returns
returns c = all_of c.args.shared.now c.args.made c.args.first c.args.passes.now.items c.requires.each
