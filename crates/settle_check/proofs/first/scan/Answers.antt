use Rattle.std.proofs.Common.{◌≡◌, ◌∙◌, List, Some, None, drop, ap, refl, subst, sym, arith}
use Rattle.std.proofs.lemmas.List.{drop_all}
use Rattle.kube_objects.specs.declared.objects.Object.{Object}
use Rattle.kube_objects.specs.Keys.{AreRows, key_of, row_at}
use Rattle.binder_model.specs.Due.{IsDue}
use Rattle.binder_model.specs.Store.{State}
use Rattle.model_laws.proofs.Histories.{rows_stand_in_order}
use Rattle.settle_check.specs.WorldOf.{world_of}
use Rattle.settle_check.specs.Steps.Scan.{IsFirstIn}
use Rattle.settle_check.proofs.Scanned.{ends_at, goes_on, stands_at}
use Rattle.settle_check.proofs.first.scan.Goals as goal

pub object_due-requires-clause-stands : goal.object_due-requires-clause-stands
object_due-requires-clause-stands c =
    let w = c.args.world.now in
    let items = c.objects-objects.result.now in
    let o = c.object-item.result in
    let same = c.objects-objects.ensures ∙ ap (λ (s : State). s.rows) c.store.ensures in
    let order = subst AreRows (sym same) (rows_stand_in_order w.setup w.past) in
    subst (λ (rows : List Object). row_at (key_of o) rows ≡ Some o) same (stands_at items order c.loop-object.object-index o c.loop-object-test.true c.object-item.is)

pub returns-in-Some : goal.returns-in-Some
returns-in-Some c =
    let w = c.args.world.now in
    let items = c.objects-objects.result.now in
    let o = c.object-item.result in
    let i = c.loop-object.object-index in
    let action = c.in-Some.action in
    let due = subst (IsDue w.setup (world_of w) o) c.in-Some.is c.in_ok-action.ensures in
    let here = ends_at (IsDue w.setup (world_of w)) items i o c.loop-object-test.true action (subst (λ (x : Object). IsDue w.setup (world_of w) x (Some action)) c.object-item.is due) in
    c.loop-object.invariant (Some (o, action)) (subst (λ (x : Object). IsFirstIn (IsDue w.setup (world_of w)) (drop i items) (Some (x, action))) (sym c.object-item.is) here)

pub loop-object-preserved : goal.loop-object-preserved
loop-object-preserved c = λ answer rest.
    let w = c.args.world.now in
    let items = c.objects-objects.result.now in
    let o = c.object-item.result in
    let none = subst (IsDue w.setup (world_of w) o) c.in_default.is c.in_ok-action.ensures in
    c.loop-object.invariant answer (goes_on (IsDue w.setup (world_of w)) items c.loop-object.object-index o c.loop-object-test.true
    (subst (λ (x : Object). IsDue w.setup (world_of w) x None) c.object-item.is none) answer rest)

pub returns : goal.returns
returns c =
    let w = c.args.world.now in
    let items = c.objects-objects.result.now in
    let i = c.loop-object.object-index in
    c.loop-object.invariant None (subst (λ (xs : List Object). IsFirstIn (IsDue w.setup (world_of w)) xs None) (sym (drop_all i items (omega (arith, c.loop-object-test.false)))) refl)
