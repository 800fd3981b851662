use Rattle.std.proofs.Common.{◌∙◌, ap, rules, subst, sym}
use Rattle.binder_model.specs.Told.{own}
use Rattle.worker_core.specs.Roles.{IsBuiltKind}
use Rattle.worker_core.specs.States.{ActorState}
use Rattle.worker_core.proofs.ByKind.{built_fresh}
use Rattle.attention_law.specs.Queues.{QueueStands}
use Rattle.attention_law.proofs.Kept.{wakes_queues}
use Rattle.actor_rounds.proofs.RunFacts.{busy_where}
use Rattle.actor_rounds.proofs.turns.turn.Goals as goal

pub returns-clause-some : goal.returns-clause-some
returns-clause-some g c =
    let s = c.wake.new.self in
    let mine = own c.args.drainer.now.seat (g.W.Answers.past c.args.desk.now) in
    let woken_kind = ap (λ (t : ActorState). t.role.kind) c.in_ok-wake.ensures.state in
    let kind = woken_kind ∙ sym c.kind-kind.ensures.kind in
    busy_where (g.W.Answers.lets c.args.desk.now) c.args.drainer.now.seat c.run.new.actor s (g.W.Answers.past c.run.new.desk)
    (g.W.Answers.past c.args.desk.now) c.args.budget c.run.result c.run.ensures.runs c.in_ok-wake.ensures.busy
    (λ other. built_fresh s mine (subst IsBuiltKind (sym kind) c.kind-kind.ensures.built) (λ agent. other (sym woken_kind ∙ agent)) (c.in_ok-wake.ensures.stands mine c.requires.stands.told))

pub run-requires-clause-stands : goal.run-requires-clause-stands
run-requires-clause-stands g c =
    let mine = own c.args.drainer.now.seat (g.W.Answers.past c.args.desk.now) in
    record {
      told = c.in_ok-wake.ensures.stands mine c.requires.stands.told;
      queue =
          subst QueueStands (sym c.in_ok-wake.ensures.state) (wakes_queues c.args.drainer.now.actor c.requires.stands.queue);
    }

pub returns-clause-runs : goal.returns-clause-runs
returns-clause-runs g c = search rules
