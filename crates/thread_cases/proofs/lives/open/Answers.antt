use Rattle.std.proofs.Common.{◌≡◌, ◌+◌, ◌-◌, arith, length}
use Rattle.shared_world.specs.Passes.{IsOf}
use Rattle.thread_cases.proofs.Cutting.{before_from, behind_from, found_of}
use Rattle.thread_cases.proofs.lives.open.Goals as goal

pub returns-clause-lives : goal.returns-clause-lives
returns-clause-lives c =
    let long : length c.in-Ok.passes.items ≡ c.args.lives + 2 = omega (arith, c.in-Ok.ensures.many, c.in-Ok.passes.ok) in
    before_from c.in-Ok.shared (c.args.lives + 2) c.in-Ok.passes.items c.pop.new.self.items
    (c.in-Ok.passes.len - 1) c.args.lives c.in-Ok.ensures.passes long c.pop.ensures.rest c.split_off.new.self.items c.in_ok-other.ensures.items

pub returns-clause-other : goal.returns-clause-other
returns-clause-other c =
    let long : length c.in-Ok.passes.items ≡ c.args.lives + 2 = omega (arith, c.in-Ok.ensures.many, c.in-Ok.passes.ok) in
    behind_from c.in-Ok.shared (c.args.lives + 2) c.in-Ok.passes.items c.pop.new.self.items
    (c.in-Ok.passes.len - 1) c.args.lives c.in-Ok.ensures.passes long c.pop.ensures.rest c.in_ok-other.other.items c.in_ok-other.ensures.tail

pub returns-clause-user : goal.returns-clause-user
returns-clause-user c =
    found_of (IsOf c.in-Ok.shared) c.in-Ok.passes.items (c.in-Ok.passes.len - 1) c.pop.result c.unwrap-user.result c.in-Ok.ensures.of
    (omega (arith, c.in-Ok.ensures.many, c.in-Ok.passes.ok)) c.unwrap-user.ensures (c.pop.ensures.value c.unwrap-user.result (omega (arith, c.in-Ok.ensures.many)))
