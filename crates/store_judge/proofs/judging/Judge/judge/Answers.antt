use Rattle.store_judge.proofs.Judges.{judges}
use Rattle.store_judge.proofs.judging.Judge.judge.Goals as goal

pub returns : goal.returns
returns c = λ setup past stands.
    judges c.args.self.now (record { world = c.call.new.self; seats = c.note.new.self }) c.args.entry.now c.in_ok-reply.reply c.same.result c.judge-allowed.result c.refusing.result
    c.same.ensures c.judge-allowed.ensures c.in_ok-reply.ensures.reply c.refusing.ensures c.in_ok-reply.ensures.setup c.in_ok-reply.ensures.entry c.in_ok-note.ensures setup past stands
