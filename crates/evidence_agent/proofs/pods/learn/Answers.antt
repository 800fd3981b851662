use Rattle.std.proofs.Common.{◌∷◌, inl}
use Rattle.std.proofs.lemmas.Result.{on_ok_weaker}
use Rattle.evidence_agent.proofs.Paging.{pods_later}
use Rattle.evidence_agent.proofs.pods.learn.Goals as goal

pub returns-then-not-entry : goal.returns-then-not-entry
returns-then-not-entry c = λ mine at all. pods_later c.args.entry.now mine _ all

pub returns : goal.returns
returns c = on_ok_weaker c.tell_reply.result
    (λ tells mine at all. tells (c.args.entry.now ∷ mine) (λ o some. inl (at, (c.if-not-entry.false, some))) (pods_later c.args.entry.now mine _ all)) c.tell_reply.ensures
