use Rattle.std.proofs.Common.{◌<◌, ◌∷◌, length, reverse, take, subst, arith}
use Rattle.call_types.specs.declared.entry.Entry.{Entry}
use Rattle.store_judge.specs.Faults.{BreaksRules}
use Rattle.store_judge.specs.Steps.Judged.{JudgeStands, JudgesEntry, rules_in}
use Rattle.store_judge.proofs.Judges.{next_faults, next_stands}
use Rattle.store_judge.proofs.judging.judge_entries.Goals as goal

pub loop-i-preserved : goal.loop-i-preserved
loop-i-preserved c =
    let setup = c.args.setup.now in
    let entries = c.args.entries.now in
    let past = reverse (take c.loop-i.i entries) in
    let entry = c.index-entries-i.result in
    let within : c.loop-i.i < length entries = omega (arith, c.loop-i-test.true) in
    let judged : JudgesEntry c.judge.new.self setup past entry c.in_ok-judged.judged = c.in_ok-judged.ensures setup past c.loop-i.invariant.stands in
    record {
      stands =
          next_stands c.judge.new.self setup entries c.loop-i.i entry within
          (subst (λ (e : Entry). JudgeStands c.judge.new.self setup (e ∷ past)) c.index-entries-i.is judged.stands);
      found =
          next_faults setup entries c.loop-i.i entry c.loop-i.faults c.push_faults.new.faults c.in_ok-judged.judged within c.loop-i.invariant.found
          (subst (λ (e : Entry). BreaksRules setup past e (rules_in c.in_ok-judged.judged)) c.index-entries-i.is judged.breaks) c.in_ok-push_faults.ensures;
    }
