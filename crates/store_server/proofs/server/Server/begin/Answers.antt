use Rattle.store_server.proofs.Answering.{opens, reopened}
use Rattle.store_server.proofs.server.Server.begin.Goals as goal

pub returns-then-is_some : goal.returns-then-is_some
returns-then-is_some c =
    let inside = c.self.inside in
    reopened c.args.self.now inside.fenced inside.lines c.args.setup.now inside.store c.is_some.result c.bad_text.result
    c.self.view_is c.is_some.ensures c.if-is_some.true c.bad_text.ensures

pub returns : goal.returns
returns c =
    let inside = c.self.inside in
    opens c.args.self.now inside.fenced inside.lines c.args.setup.now inside.store c.is_some.result c.in_ok-new.field-0 c.in_ok-text.text
    c.self.view_is c.is_some.ensures c.if-is_some.false c.in_ok-new.ensures.opened c.in_ok-text.ensures
