use Rattle.std.proofs.Common.{sym, ◌∙◌}
use Rattle.audit_check.proofs.Judged.{breaking, standing}
use Rattle.audit_check.proofs.auditor.Auditor.judge.Goals as goal

pub returns-in-Some : goal.returns-in-Some
returns-in-Some c = λ setup past stands.
    breaking c.args.self.now c.args.entry.now c.in_ok-reply.reply c.same.result c.judge-allowed.result c.in-Some.rule
    c.same.ensures c.judge-allowed.ensures c.in_ok-reply.ensures.reply (sym c.in-Some.is ∙ c.rule_of.ensures) setup past stands

pub returns : goal.returns
returns c = λ setup past stands.
    standing c.args.self.now (record { world = c.call.new.self; seats = c.note.new.self }) c.args.entry.now c.in_ok-reply.reply c.same.result c.judge-allowed.result
    c.same.ensures c.judge-allowed.ensures c.in_ok-reply.ensures.reply (sym c.in-None.is ∙ c.rule_of.ensures)
    c.in_ok-reply.ensures.setup c.in_ok-reply.ensures.entry c.in_ok-note-in-None.ensures setup past stands
