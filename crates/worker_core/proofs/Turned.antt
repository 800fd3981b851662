-- What comes after the waiting keys were decided.
use Rattle.std.proofs.Common.{◌≡◌, true, false, Option, Some, None, inl, inr, refl, ap, subst}
use Rattle.kube_parts.specs.declared.parts.Kind.{Kind}
use Rattle.call_types.specs.declared.request.Request.{Request}
use Rattle.informer_cache.specs.All.{all_objects}
use Rattle.sync_queue.specs.Work.{Work}
use Rattle.worker_core.specs.declared.task.Under.{Under}
use Rattle.worker_core.specs.declared.turn.Given.TheVariants as givens
use Rattle.worker_core.specs.declared.turn.Next.{Next}
use Rattle.worker_core.specs.declared.turn.Next.TheVariants as nexts
use Rattle.worker_core.specs.Roles.{kind_in_order}
use Rattle.worker_core.specs.States.{ActorState}
use Rattle.worker_core.specs.Turns.{Decides, DecidesKeys, GivesRead}

module _ (s : ActorState) (work : Work) (under : Option Under) (d : Decides s.role s.memory (all_objects s.caches) work under s.work) where
  pub idle_after : under ≡ None → s.pass.event ≡ false → DecidesKeys s (record s { work = work; given = None }) nexts.Idle
  idle_after none quiet = record {
    work = work;
    under = None;
    decides = subst (λ u. Decides s.role s.memory (all_objects s.caches) work u s.work) none d;
    then_ = inr (record { quiet = quiet; idle = refl; state = refl });
  }

  pub under_given : (u : Under) (call : Request) → under ≡ Some u → call ≡ u.call → DecidesKeys s (record s { work = work; under = Some u; given = Some givens.Task }) (nexts.Call call)
  under_given u call some is = record {
    work = work;
    under = Some u;
    decides = subst (λ v. Decides s.role s.memory (all_objects s.caches) work v s.work) some d;
    then_ = record { call = ap (λ r. nexts.Call r) is; state = refl };
  }

  pub pass_begins : (new : ActorState) (answer : Next) (kind : Kind) → under ≡ None → s.pass.event ≡ true → kind_in_order s.role 0 ≡ Some kind
      → GivesRead (record s { work = work; pass = record { behind = 0; event = false } }) new answer kind → DecidesKeys s new answer
  pass_begins new answer kind none brought first read = record {
    work = work;
    under = None;
    decides = subst (λ u. Decides s.role s.memory (all_objects s.caches) work u s.work) none d;
    then_ = inl (record { brought = brought; kind = kind; first = first; call = read.call; state = read.state });
  }
