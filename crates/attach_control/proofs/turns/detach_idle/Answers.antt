use Rattle.std.proofs.Common.{◌≡◌, ◌∙◌, ◌<◌, ◌-◌, ap, arith, length, subst, sym, Some, true}
use Rattle.std.specs.Prelude.{slice_get}
use Rattle.std.proofs.lemmas.Option.{slice_get-get_or}
use Rattle.binder_model.specs.World.{world as world_of}
use Rattle.attach_law.specs.Calls.{without_attachment}
use Rattle.attach_law.specs.Next.{is_idle}
use Rattle.attach_control.proofs.Detaching.{detach_made, first_at, one_more}
use Rattle.attach_control.proofs.turns.detach_idle.Goals as goal

pub loop-at-smaller-in-Continue-branch-2 : goal.loop-at-smaller-in-Continue-branch-2
loop-at-smaller-in-Continue-branch-2 c =
    let w = world_of c.args.world.now.setup c.args.world.now.past in
    let items = c.loop-at.list.items in
    let i = c.loop-at.at in
    let a = c.index-attachment.result.now in
    let within : i < length items = subst (λ l. i < length l) c.as_slice.ensures.value c.loop-at-test.true in
    let there : slice_get items i ≡ Some a = slice_get-get_or items i a within ∙ ap (λ x. Some x) (sym c.index-attachment.ensures) in
    let idle : is_idle w a ≡ true = sym c.is_idle.ensures ∙ c.if-is_idle.true in
    let first = first_at w items i a there c.loop-at.invariant.before idle in
    let left : c.detach_noted.new.list.items ≡ without_attachment a.volume a.node items = c.in_ok-detach_noted.ensures.list ∙ ap (λ n. without_attachment a.volume n items) c.in_ok-node.ensures in
    let shorter : length c.detach_noted.new.list.items < length items = subst (λ l. length l < length items) (sym left) first.shorter in
    let less : length c.detach_noted.new.list.items - i < length items - i = omega (arith, shorter, within) in
    less

pub loop-at-preserved-in-Continue-branch-2 : goal.loop-at-preserved-in-Continue-branch-2
loop-at-preserved-in-Continue-branch-2 c =
    let w = world_of c.args.world.now.setup c.args.world.now.past in
    let items = c.loop-at.list.items in
    let i = c.loop-at.at in
    let a = c.index-attachment.result.now in
    let within : i < length items = subst (λ l. i < length l) c.as_slice.ensures.value c.loop-at-test.true in
    let there : slice_get items i ≡ Some a = slice_get-get_or items i a within ∙ ap (λ x. Some x) (sym c.index-attachment.ensures) in
    let idle : is_idle w a ≡ true = sym c.is_idle.ensures ∙ c.if-is_idle.true in
    let first = first_at w items i a there c.loop-at.invariant.before idle in
    let asks = c.in_ok-detach_noted.ensures.asks in
    let list = c.in_ok-detach_noted.ensures.list in
    rw (asks, list, c.in_ok-node.ensures) (record {
      made = λ start m. detach_made w items i a first c.loop-at.asks.items start (c.loop-at.invariant.made start m);
      before = first.before;
    })

pub loop-at-preserved : goal.loop-at-preserved
loop-at-preserved c =
    let w = world_of c.args.world.now.setup c.args.world.now.past in
    let items = c.loop-at.list.items in
    let i = c.loop-at.at in
    let a = c.index-attachment.result.now in
    let within : i < length items = subst (λ l. i < length l) c.as_slice.ensures.value c.loop-at-test.true in
    let there : slice_get items i ≡ Some a = slice_get-get_or items i a within ∙ ap (λ x. Some x) (sym c.index-attachment.ensures) in
    record {
      made = c.loop-at.invariant.made;
      before = one_more w items i a there c.loop-at.invariant.before (sym c.is_idle.ensures ∙ c.if-is_idle.false);
    }
