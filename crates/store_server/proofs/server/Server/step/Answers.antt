use Rattle.store_server.proofs.Answering.{faulty}
use Rattle.store_server.proofs.server.Server.step.Goals as goal

pub returns-in-Err-Refused : goal.returns-in-Err-Refused
returns-in-Err-Refused c =
    let inside = c.self.inside in
    let refused = c.in-Err-Refused in
    faulty c.args.self.now inside.fenced inside.lines c.next_number-self-inside.result inside.store c.args.line.now refused.field-0 refused.fault c.bad_text.result
    c.self.view_is c.next_number-self-inside.ensures refused.field-0-is refused.ensures.gives c.bad_text.ensures
