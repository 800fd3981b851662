use Rattle.std.specs.Option.{option_copied}
use Rattle.delayed_binding.proofs.Passing.{passed_more}
use Rattle.delayed_binding.proofs.shares.Shares.give.Goals as goal

pub returns-in_ok-take-in-Some-clause-passed : goal.returns-in_ok-take-in-Some-clause-passed
returns-in_ok-take-in-Some-clause-passed g c =
    passed_more (g.L.Lookup.rows c.args.lookup.now) c.requires.order
    (option_copied c.args.index) c.in-Some.found c.args.self.now.passed c.args.self.now.taken c.take.new.self.passed c.take.new.self.taken c.requires.passed c.in-Some.ensures.there
    c.in_ok-take-in-Some.ensures.passed c.in_ok-take-in-Some.ensures.taken
