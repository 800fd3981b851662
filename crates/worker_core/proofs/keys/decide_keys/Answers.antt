use Rattle.std.proofs.Common.{Some, ap, sym, ◌∙◌, subst}
use Rattle.kube_objects.specs.declared.key.Key.{Key}
use Rattle.informer_cache.specs.All.{all_objects}
use Rattle.worker_core.specs.declared.task.First.{First}
use Rattle.worker_core.specs.declared.task.First.TheVariants as firsts
use Rattle.worker_core.specs.Tasks.{IsDecision}
use Rattle.worker_core.proofs.Decided.{Dropped, drops, ends_empty, ends_call, gives_none, less_by, on_by, queues}
use Rattle.worker_core.proofs.keys.decide_keys.Goals as goal
use Rattle.worker_core.proofs.keys.decide_keys.Goals.{in-Drops, in-Queues+in_ok-add-in-Queues, in-Begins+in_ok-next-in-Begins+in-None-2}

pub returns-in-None : goal.returns-in-None
returns-in-None c = c.loop-key.invariant _ _
    (ends_empty c.args.role.now c.args.memory.now (all_objects c.args.caches.now) c.loop-key.queue _ (sym c.in-None.is ∙ c.in_ok-take_shared.ensures.oldest) c.in_ok-take_shared.ensures.after)

pub returns-in-Some-2 : goal.returns-in-Some-2
returns-in-Some-2 c =
    let own = c.in_ok-own-in-Some-2.ensures in
    let Decided = λ (k : Key) (f : First). IsDecision c.args.role.now c.args.memory.now (all_objects c.args.caches.now) k f in
    c.loop-key.invariant _ _ (ends_call c.args.role.now c.args.memory.now (all_objects c.args.caches.now) c.loop-key.queue _ _
    (ap Some (own ∙ c.get-lent.ensures) ∙ (sym c.in-Some.is ∙ c.in_ok-take_shared.ensures.oldest)) c.in_ok-take_shared.ensures.after
    (record {
      decided = subst (λ (k : Key). Decided k (firsts.Begins c.in-Begins.task)) (sym own) (subst (λ (f : First). Decided c.get-lent.result.now f) c.in-Begins.is c.in_ok-first_for.ensures);
      call = sym c.in_ok-next-in-Begins.ensures ∙ c.in-Some-2.is;
    }))

pub loop-key-preserved : goal.loop-key-preserved
loop-key-preserved c =
    let step : Dropped c.args.role.now c.args.memory.now (all_objects c.args.caches.now) c.loop-key.queue c.match-branch-4.queue = elim c.match-branch-4.branch [
      | in-Drops w ↦ drops c.args.role.now c.args.memory.now
          (all_objects c.args.caches.now) c.loop-key.queue _ _ _ _ _ _ c.in_ok-take_shared.ensures.oldest
          (c.in-Some.is ∙ ap Some (sym c.get-lent.ensures)) c.in_ok-take_shared.ensures.after c.in_ok-first_for.ensures w.queue-is w.in-Drops.is w.done.ensures
      | in-Queues+in_ok-add-in-Queues w ↦ queues c.args.role.now c.args.memory.now
          (all_objects c.args.caches.now) c.loop-key.queue _ _ _ _ _ _ c.in_ok-take_shared.ensures.oldest
          (c.in-Some.is ∙ ap Some (sym c.get-lent.ensures)) c.in_ok-take_shared.ensures.after c.in_ok-first_for.ensures w.queue-is _ _ w.in-Queues.is
          w.in_ok-add-in-Queues.ensures.ok w.done-in-Queues.ensures
      | in-Begins+in_ok-next-in-Begins+in-None-2 w ↦ gives_none c.args.role.now c.args.memory.now
          (all_objects c.args.caches.now) c.loop-key.queue _ _ _ _ _ _ c.in_ok-take_shared.ensures.oldest
          (c.in-Some.is ∙ ap Some (sym c.get-lent.ensures)) c.in_ok-take_shared.ensures.after c.in_ok-first_for.ensures w.queue-is _ _ w.in-Begins.is
          w.in_ok-next-in-Begins.ensures w.in-None-2.is w.done-in-None-2.ensures
    ] in
    λ after under rest. c.loop-key.invariant after under (on_by _ _ _ _ _ step after under rest)

pub loop-key-smaller : goal.loop-key-smaller
loop-key-smaller c =
    let step : Dropped c.args.role.now c.args.memory.now (all_objects c.args.caches.now) c.loop-key.queue c.match-branch-4.queue = elim c.match-branch-4.branch [
      | in-Drops w ↦ drops c.args.role.now c.args.memory.now
          (all_objects c.args.caches.now) c.loop-key.queue _ _ _ _ _ _ c.in_ok-take_shared.ensures.oldest
          (c.in-Some.is ∙ ap Some (sym c.get-lent.ensures)) c.in_ok-take_shared.ensures.after c.in_ok-first_for.ensures w.queue-is w.in-Drops.is w.done.ensures
      | in-Queues+in_ok-add-in-Queues w ↦ queues c.args.role.now c.args.memory.now
          (all_objects c.args.caches.now) c.loop-key.queue _ _ _ _ _ _ c.in_ok-take_shared.ensures.oldest
          (c.in-Some.is ∙ ap Some (sym c.get-lent.ensures)) c.in_ok-take_shared.ensures.after c.in_ok-first_for.ensures w.queue-is _ _ w.in-Queues.is
          w.in_ok-add-in-Queues.ensures.ok w.done-in-Queues.ensures
      | in-Begins+in_ok-next-in-Begins+in-None-2 w ↦ gives_none c.args.role.now c.args.memory.now
          (all_objects c.args.caches.now) c.loop-key.queue _ _ _ _ _ _ c.in_ok-take_shared.ensures.oldest
          (c.in-Some.is ∙ ap Some (sym c.get-lent.ensures)) c.in_ok-take_shared.ensures.after c.in_ok-first_for.ensures w.queue-is _ _ w.in-Begins.is
          w.in_ok-next-in-Begins.ensures w.in-None-2.is w.done-in-None-2.ensures
    ] in
    less_by c.args.role.now c.args.memory.now (all_objects c.args.caches.now) c.loop-key.queue c.match-branch-4.queue c.len.ensures.once step
