use Rattle.std.proofs.Common.{◌<◌, ◌∷◌, Option, length, reverse, take, subst, arith}
use Rattle.call_types.specs.declared.entry.Entry.{Entry}
use Rattle.audit_check.specs.declared.verdict.AuditRule.{AuditRule}
use Rattle.audit_check.specs.Verdicts.{Breaks}
use Rattle.audit_check.specs.Steps.Judged.{Judges, AuditorStands}
use Rattle.audit_check.proofs.Breaks.{first_break}
use Rattle.audit_check.proofs.Judged.{next_stands}
use Rattle.audit_check.proofs.auditing.audit_entries.Goals as goal

pub returns-in-Some-clause-verdict : goal.returns-in-Some-clause-verdict
returns-in-Some-clause-verdict c =
    let past = reverse (take c.loop-i.i c.args.entries.now) in
    let within : c.loop-i.i < length c.args.entries.now = omega (arith, c.loop-i-test.true) in
    let judged : Breaks c.args.setup.now past c.index-entries-i.result c.in-Some.rule =
    subst (λ (rule : Option AuditRule). Judges rule c.judge.new.self c.args.setup.now past c.index-entries-i.result) c.in-Some.is
    (c.in_ok-rule.ensures c.args.setup.now past c.loop-i.invariant) in
    first_break c.args.setup.now c.args.entries.now c.loop-i.i c.index-entries-i.result c.in-Some.rule within c.loop-i.invariant.run
    (subst (λ (e : Entry). Breaks c.args.setup.now past e c.in-Some.rule) c.index-entries-i.is judged)

pub loop-i-preserved : goal.loop-i-preserved
loop-i-preserved c =
    let past = reverse (take c.loop-i.i c.args.entries.now) in
    let within : c.loop-i.i < length c.args.entries.now = omega (arith, c.loop-i-test.true) in
    let judged : Judges c.in_ok-rule.field-0 c.judge.new.self c.args.setup.now past c.index-entries-i.result =
    c.in_ok-rule.ensures c.args.setup.now past c.loop-i.invariant in
    next_stands c.judge.new.self c.args.setup.now c.args.entries.now c.loop-i.i c.index-entries-i.result within
    (subst (λ (e : Entry). AuditorStands c.judge.new.self c.args.setup.now (e ∷ past)) c.index-entries-i.is
    (subst (λ (rule : Option AuditRule). Judges rule c.judge.new.self c.args.setup.now past c.index-entries-i.result) c.in_default.is judged))
