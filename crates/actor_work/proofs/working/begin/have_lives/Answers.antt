use Rattle.actor_work.proofs.Work.Firsts.{first_lives, first_past}
use Rattle.actor_work.proofs.working.begin.have_lives.Goals as goal

pub returns-clause-lives : goal.returns-clause-lives
returns-clause-lives c = first_lives c.args.shared.now c.args.made c.requires.none c.args.first c.args.passes.now.items c.requires.from

pub returns-clause-none : goal.returns-clause-none
returns-clause-none c = first_past c.args.shared.now c.args.made c.requires.none c.args.first c.args.passes.now.items c.requires.from
