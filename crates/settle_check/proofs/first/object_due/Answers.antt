use Rattle.std.proofs.Common.{◌∙◌, ap, subst, sym, Option}
use Rattle.std.proofs.lemmas.Result.{IfOk-weaker}
use Rattle.kube_parts.specs.declared.names.Due.{Due}
use Rattle.kube_objects.specs.declared.objects.Object.{Object}
use Rattle.kube_objects.specs.declared.objects.Object.TheVariants.{Claim, Pod, Volume}
use Rattle.binder_model.specs.BinderDue.{volume_due}
use Rattle.binder_model.specs.Due.{IsDue, or_due, reclaim_due, volume_guard_due}
use Rattle.binder_model.specs.Store.{State}
use Rattle.settle_check.specs.WorldOf.{world_of}
use Rattle.settle_check.proofs.first.object_due.Goals as goal

pub returns-in-Volume : goal.returns-in-Volume
returns-in-Volume c =
    let w = c.args.world.now in
    let v = c.deref.result.now in
    subst (λ (o : Object). IsDue w.setup (world_of w) o c.due_of_volume.result) (ap (λ x. Volume x) c.deref.ensures ∙ sym c.in-Volume.is)
    (c.due_of_volume.ensures ∙ ap (λ (s : State). or_due (volume_due s.rows v) (or_due (reclaim_due v) (volume_guard_due v))) c.store.ensures)

pub returns-in-Claim : goal.returns-in-Claim
returns-in-Claim c =
    let w = c.args.world.now in
    IfOk-weaker c.due_of_claim.result (IsDue w.setup (world_of w) (Claim c.deref-in-Claim.result.now)) (IsDue w.setup (world_of w) c.args.object.now)
    (λ (action : Option Due) is. subst (λ (o : Object). IsDue w.setup (world_of w) o action) (ap (λ x. Claim x) c.deref-in-Claim.ensures ∙ sym c.in-Claim.is) is) c.due_of_claim.ensures

pub returns-in-Pod : goal.returns-in-Pod
returns-in-Pod c =
    let w = c.args.world.now in
    IfOk-weaker c.due_of_pod.result (IsDue w.setup (world_of w) (Pod c.deref-in-Pod.result.now)) (IsDue w.setup (world_of w) c.args.object.now)
    (λ (action : Option Due) is. subst (λ (o : Object). IsDue w.setup (world_of w) o action) (ap (λ x. Pod x) c.deref-in-Pod.ensures ∙ sym c.in-Pod.is) is) c.due_of_pod.ensures
