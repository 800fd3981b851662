use Rattle.std.proofs.Common.{◌∙◌, ◌-◌, length, refl, sym, arith}
use Rattle.std.proofs.lemmas.Option.{slice_get_read}
use Rattle.informer_cache.proofs.Rising.{rising_end, rising_step}
use Rattle.informer_cache.proofs.merge.are_in_order.Goals as goal

pub loop-place-preserved : goal.loop-place-preserved
loop-place-preserved c =
    let os = c.args.items.now in
    let place = c.loop-place.place in
    let first = c.loop-place.invariant.first in
    let x = c.index-items-place.result in
    let y = c.index-items-place-in-loop-place.result in
    let at = slice_get_read os (length os) (c.loop-place.place - 1) x refl (omega (arith, c.loop-place-test.true, first)) c.index-items-place.is in
    let next = slice_get_read os (length os) c.loop-place.place y refl c.loop-place-test.true c.index-items-place-in-loop-place.is in
    record {
      first = omega (arith, first);
      rest = rising_step os place x y first at next (sym c.stands_before.ensures ∙ c.if-not-stands_before.false) ∙ c.loop-place.invariant.rest;
    }

pub returns : goal.returns
returns c = rising_end c.args.items.now c.loop-place.place c.loop-place.invariant.first (omega arith) c.loop-place.invariant.rest
