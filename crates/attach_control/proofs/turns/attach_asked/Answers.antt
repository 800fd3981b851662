use Rattle.std.proofs.Common.{◌≡◌, ◌∙◌, ◌≤◌, ap, sym, length, Some, None, subst}
use Rattle.std.specs.Prelude.{slice_get}
use Rattle.std.specs.Option.{option_copied}
use Rattle.std.proofs.lemmas.Option.{slice_get-get_or}
use Rattle.kube_parts.specs.declared.parts.Kind.TheVariants as kinds
use Rattle.kube_objects.specs.Keys.{AreRows, rows_of}
use Rattle.binder_model.specs.Store.{State}
use Rattle.binder_model.specs.World.{world as world_of}
use Rattle.attach_law.proofs.ByUid.{uids_once}
use Rattle.attach_control.specs.Steps.Trying.{pod_that_asks}
use Rattle.attach_control.proofs.InTurn.{nothing_next, object_passed, pod_passed, step}
use Rattle.attach_control.proofs.turns.attach_asked.Goals as goal
use Rattle.attach_control.proofs.turns.attach_asked.Goals.{in-Some+else-loop-name-test, in_default}

pub loop-name-preserved : goal.loop-name-preserved
loop-name-preserved c =
    let w = world_of c.args.world.now.setup c.args.world.now.past in
    let i = c.loop-object.object-index in
    let o = c.object-item.result in
    let p = c.in-Some.pod.now in
    let once = uids_once c.args.world.now.setup c.args.world.now.past c.history.ensures.imports c.history.ensures.short in
    let here : slice_get c.of_kind-object-items.result.now i ≡ Some o = slice_get-get_or c.of_kind-object-items.result.now i o c.loop-object-test.true ∙ ap (λ x. Some x) (sym c.object-item.is) in
    let pods : c.of_kind-object-items.result.now ≡ rows_of kinds.Pod w.store.rows = c.of_kind-object-items.ensures.objects ∙ ap (λ (s : State). rows_of kinds.Pod s.rows) c.store.ensures in
    let at : slice_get (rows_of kinds.Pod w.store.rows) i ≡ Some o = ap (λ l. slice_get l i) (sym pods) ∙ here in
    let asks : pod_that_asks o ≡ Some p = sym c.pod_that_asks.ensures ∙ ap option_copied c.in-Some.is in
    let order : AreRows w.store.rows = subst (λ (s : State). AreRows s.rows) c.store.ensures c.of_kind-object-items.ensures.order in
    let j = c.loop-name.name-index in
    let names = c.as_slice-name-items.result.now in
    let there : slice_get names j ≡ Some c.name-item.result = slice_get-get_or names j c.name-item.result c.loop-name-test.true ∙ ap (λ x. Some x) (sym c.name-item.is) in
    let named : slice_get p.claims j ≡ Some c.name-item.result = ap (λ l. slice_get l j) (sym c.as_slice-name-items.ensures) ∙ there in
    let before = c.loop-name in
    let after = c.try_claim.new in
    let s = step w order once o p i at asks j c.name-item.result named before.asks.items before.list.items before.invariant.passed after.asks.items after.list.items c.in_ok-try_claim.ensures.ok in
    record { made = λ start m. s.made start (c.loop-name.invariant.made start m); passed = s.passed }

pub loop-object-preserved : goal.loop-object-preserved
loop-object-preserved c =
    let w = world_of c.args.world.now.setup c.args.world.now.past in
    let i = c.loop-object.object-index in
    let o = c.object-item.result in
    let here : slice_get c.of_kind-object-items.result.now i ≡ Some o = slice_get-get_or c.of_kind-object-items.result.now i o c.loop-object-test.true ∙ ap (λ x. Some x) (sym c.object-item.is) in
    let pods : c.of_kind-object-items.result.now ≡ rows_of kinds.Pod w.store.rows = c.of_kind-object-items.ensures.objects ∙ ap (λ (s : State). rows_of kinds.Pod s.rows) c.store.ensures in
    let at : slice_get (rows_of kinds.Pod w.store.rows) i ≡ Some o = ap (λ l. slice_get l i) (sym pods) ∙ here in
    elim c.match-pod_that_asks.branch [
      | in-Some+else-loop-name-test x ↦
          let asks : pod_that_asks o ≡ Some x.in-Some.pod.now = sym c.pod_that_asks.ensures ∙ ap option_copied x.in-Some.is in
          let all : length x.in-Some.pod.now.claims ≤ x.loop-name.name-index = subst (λ l. length l ≤ x.loop-name.name-index) x.as_slice-name-items.ensures x.loop-name-test.false in
          let asked = pod_passed w x.loop-name.list.items i o x.in-Some.pod.now x.loop-name.name-index at asks x.loop-name.invariant.passed all in
          rw (x.list-is, x.asks-is) (record {
            made = λ start m. x.loop-name.invariant.made start (c.loop-object.invariant.made start m);
            idle = x.loop-name.invariant.passed.idle;
            asked = asked;
          })
      | in_default x ↦
          let none : pod_that_asks o ≡ None = sym c.pod_that_asks.ensures ∙ ap option_copied x.in_default.is in
          rw (x.list-is, x.asks-is) (record {
            made = c.loop-object.invariant.made;
            idle = c.loop-object.invariant.idle;
            asked = object_passed w c.loop-object.list.items i o at none c.loop-object.invariant.asked;
          })
    ]

pub returns-clause-done : goal.returns-clause-done
returns-clause-done c =
    let w = world_of c.args.world.now.setup c.args.world.now.past in
    let pods : c.of_kind-object-items.result.now ≡ rows_of kinds.Pod w.store.rows = c.of_kind-object-items.ensures.objects ∙ ap (λ (s : State). rows_of kinds.Pod s.rows) c.store.ensures in
    let all : length (rows_of kinds.Pod w.store.rows) ≤ c.loop-object.object-index = subst (λ l. length l ≤ c.loop-object.object-index) pods c.loop-object-test.false in
    nothing_next w c.loop-object.list.items c.loop-object.object-index c.loop-object.invariant.idle c.loop-object.invariant.asked all
