use Rattle.std.proofs.Common.{◌<◌, ◌∙◌, ◌++◌, ◌∷◌, [], List, None, Some, ap, length, subst, sym}
use Rattle.std.proofs.lemmas.Result.{on_ok_weaker}
use Rattle.kube_objects.specs.declared.key.Key.{Key}
use Rattle.kube_objects.specs.Keys.{AreRows}
use Rattle.call_types.specs.declared.entry.Entry.{Entry}
use Rattle.binder_model.specs.Promises.{most_entries}
use Rattle.binder_model.specs.Store.{State}
use Rattle.binder_model.specs.World.{world}
use Rattle.model_laws.proofs.Histories.{rows_stand_in_order}
use Rattle.side_calls.specs.declared.asks.SideAsk.TheVariants.{Grow}
use Rattle.side_calls.specs.declared.asks.SideReply.TheVariants.{Done, NotGrown}
use Rattle.extended_runs.specs.declared.sides.KeptSide.{KeptSide}
use Rattle.extended_runs.proofs.Growing.{asked_on, asks_there, grows, stays}
use Rattle.extended_runs.proofs.Resting.{placed_entry}
use Rattle.extended_runs.proofs.sides.KeptSide.grow.Goals as goal

pub asking-before-requires : goal.asking-before-requires
asking-before-requires c =
    subst AreRows (sym (c.objects-objects.ensures ∙ ap (λ (s : State). s.rows) c.store.ensures)) (rows_stand_in_order c.args.world.now.setup c.args.world.now.past)

pub grow-requires : goal.grow-requires
grow-requires c =
    subst AreRows (sym (c.objects-objects.ensures ∙ ap (λ (s : State). s.rows) c.store.ensures)) (rows_stand_in_order c.args.world.now.setup c.args.world.now.past)

pub overflow_sub-bytes : goal.overflow_sub-bytes
overflow_sub-bytes c =
    let at = c.requires in
    let short = subst (λ (h : List Entry). length h < most_entries) (sym at.same) c.history.ensures.short in
    let are = c.objects-objects.ensures ∙ ap (λ (s : State). s.rows) c.store.ensures ∙ ap (λ h. (world c.args.world.now.setup h).store.rows) (sym at.same) in
    (grows c.args.world.now.setup at.given at.steps c.history.ensures.imports short c.args.key.now c.args.bytes c.ranges.bytes.fits c.args.self.now at.stands
    c.objects-objects.result.now are c.in-Some-before.uid c.in-Some-before.asked (sym c.in_ok-error.ensures.fault ∙ c.in-None.is)
    (sym c.asking-before.ensures ∙ c.in-Some-before.is)).less

pub grown-requires : goal.grown-requires
grown-requires c =
    let at = c.requires in
    let short = subst (λ (h : List Entry). length h < most_entries) (sym at.same) c.history.ensures.short in
    let are = c.objects-objects.ensures ∙ ap (λ (s : State). s.rows) c.store.ensures ∙ ap (λ h. (world c.args.world.now.setup h).store.rows) (sym at.same) in
    (grows c.args.world.now.setup at.given at.steps c.history.ensures.imports short c.args.key.now c.args.bytes c.ranges.bytes.fits c.args.self.now at.stands
    c.objects-objects.result.now are c.in-Some-before.uid c.in-Some-before.asked (sym c.in_ok-error.ensures.fault ∙ c.in-None.is)
    (sym c.asking-before.ensures ∙ c.in-Some-before.is)).room

pub returns-in-Some : goal.returns-in-Some
returns-in-Some c = on_ok_weaker c.enter.result (λ ok given m stands same.
    let short = subst (λ (h : List Entry). length h < most_entries) (sym same) c.history.ensures.short in
    let are = c.objects-objects.ensures ∙ ap (λ (s : State). s.rows) c.store.ensures ∙ ap (λ h. (world c.args.world.now.setup h).store.rows) (sym same) in
    let fault = sym c.in-Some.is ∙ c.in_ok-error.ensures.fault in
    let old = c.args.self.now in
    asked_on c.args.world.now.setup given m c.history.ensures.imports short c.args.key.now c.args.bytes c.ranges.bytes.fits old stands c.objects-objects.result.now are
    c.args.user c.enter.new.self (Some c.in-Some.error) fault (ap (λ (k : KeptSide). k.sizes) ok ∙ c.in_ok-error.ensures.grown)
    (ap (λ (k : KeptSide). k.quotas) ok ∙ stays c.args.world.now.setup given m c.history.ensures.imports short c.args.key.now c.args.bytes c.ranges.bytes.fits old stands
    c.objects-objects.result.now are c.in-Some.error (sym fault))
    (record {
      entered = ap (λ (k : KeptSide). k.entered) ok
          ∙ ap (λ (k : Key). old.entered ++ placed_entry old.noted (Grow c.args.user k c.args.bytes) (NotGrown c.in-Some.error) ∷ []) c.in_ok-copy.ensures;
      noted = ap (λ (k : KeptSide). k.noted) ok;
    })) c.enter.ensures.ok

pub returns-in-Some-before : goal.returns-in-Some-before
returns-in-Some-before c = on_ok_weaker c.enter-in-Some-before.result (λ ok given m stands same.
    let short = subst (λ (h : List Entry). length h < most_entries) (sym same) c.history.ensures.short in
    let are = c.objects-objects.ensures ∙ ap (λ (s : State). s.rows) c.store.ensures ∙ ap (λ h. (world c.args.world.now.setup h).store.rows) (sym same) in
    let none = sym c.in_ok-error.ensures.fault ∙ c.in-None.is in
    let old = c.args.self.now in
    let by = grows c.args.world.now.setup given m c.history.ensures.imports short c.args.key.now c.args.bytes c.ranges.bytes.fits old stands
    c.objects-objects.result.now are c.in-Some-before.uid c.in-Some-before.asked none (sym c.asking-before.ensures ∙ c.in-Some-before.is) in
    asked_on c.args.world.now.setup given m c.history.ensures.imports short c.args.key.now c.args.bytes c.ranges.bytes.fits old stands c.objects-objects.result.now are
    c.args.user c.enter-in-Some-before.new.self None (sym none) (ap (λ (k : KeptSide). k.sizes) ok ∙ c.in_ok-error.ensures.grown)
    (ap (λ (k : KeptSide). k.quotas) ok ∙ c.grown.ensures ∙ ap (λ xs. record old.quotas { counted = xs }) by.grown)
    (record {
      entered = ap (λ (k : KeptSide). k.entered) ok ∙ ap (λ (k : Key). old.entered ++ placed_entry old.noted (Grow c.args.user k c.args.bytes) Done ∷ []) c.in_ok-copy.ensures;
      noted = ap (λ (k : KeptSide). k.noted) ok;
    })) c.enter-in-Some-before.ensures.ok

pub returns-in-None-before : goal.returns-in-None-before
returns-in-None-before c = on_ok_weaker c.enter-in-None-before.result (λ ok given m stands same.
    let short = subst (λ (h : List Entry). length h < most_entries) (sym same) c.history.ensures.short in
    let are = c.objects-objects.ensures ∙ ap (λ (s : State). s.rows) c.store.ensures ∙ ap (λ h. (world c.args.world.now.setup h).store.rows) (sym same) in
    let none = sym c.in_ok-error.ensures.fault ∙ c.in-None.is in
    absurd (asks_there c.args.world.now.setup given m c.history.ensures.imports short c.args.key.now c.args.bytes c.ranges.bytes.fits c.args.self.now stands
    c.objects-objects.result.now are none (sym c.asking-before.ensures ∙ c.in-None-before.is))) c.enter-in-None-before.ensures.ok
