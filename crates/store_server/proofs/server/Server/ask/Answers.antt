use Rattle.std.proofs.Common.{sym, ◌∙◌}
use Rattle.store_server.proofs.Answering.{unopened}
use Rattle.store_server.proofs.server.Server.ask.Goals as goal

pub returns-in-None : goal.returns-in-None
returns-in-None c =
    let inside = c.self.inside in
    unopened c.args.self.now inside.fenced inside.lines c.args.asked inside.store c.replace.new.dest c.bad_text.result
    c.self.view_is (sym c.replace.ensures.value ∙ c.in-None.is) c.replace.ensures.after c.bad_text.ensures
