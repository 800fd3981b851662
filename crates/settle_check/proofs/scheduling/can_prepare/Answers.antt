use Rattle.std.proofs.Common.{◌≡◌, ◌∙◌, true≢false, sym, ap, refl, arith, length}
use Rattle.kube_parts.specs.declared.parts.Kind.TheVariants as kinds
use Rattle.kube_objects.specs.Keys.{rows_of}
use Rattle.binder_model.specs.Store.{State}
use Rattle.model_laws.proofs.Histories.{rows_stand_in_order}
use Rattle.settle_check.specs.WorldOf.{world_of}
use Rattle.settle_check.proofs.Preparing.{found_there, none_there}
use Rattle.settle_check.proofs.scheduling.can_prepare.Goals as goal

pub returns-then-branch : goal.returns-then-branch
returns-then-branch c =
    let w = c.args.world.now in (
      λ e. found_there w.setup (world_of w) (rows_stand_in_order w.setup w.past) c.requires c.args.pod.now c.loop-place.place (c.in_ok-can_prepare_at.ensures.0 c.if-branch.true),
      λ can. refl,
    )

pub returns : goal.returns
returns c =
    let w = c.args.world.now in
    let same : c.loop-place.place ≡ c.count-place-end.result = omega arith in
    let count = same ∙ (c.count-place-end.ensures ∙ ap (λ (s : State). length (rows_of kinds.Node s.rows)) c.store.ensures) in (
      λ e. absurd (true≢false (sym e)),
      λ can. absurd (none_there w.setup (world_of w) (rows_stand_in_order w.setup w.past) c.requires c.args.pod.now c.loop-place.place count c.loop-place.invariant can),
    )
