use Rattle.std.proofs.Common.{◌≡◌, ◌∙◌, ◌+◌, ◌-◌, drop, length, refl, sym, ap, arith}
use Rattle.std.proofs.lemmas.Option.{slice_get_read}
use Rattle.binder_model.specs.Choice.{insert_claim, is_other}
use Rattle.delayed_binding.specs.Choices.{others_in}
use Rattle.delayed_binding.proofs.Placing.{other_passed, other_put}
use Rattle.delayed_binding.proofs.shares.others_in.Goals as goal

pub loop-place-preserved-in-Continue-1 : goal.loop-place-preserved-in-Continue-1
loop-place-preserved-in-Continue-1 g c =
    let rows = g.L.Lookup.rows c.args.lookup.now in
    let cs = c.args.claims.now in
    let i = c.loop-place.place - 1 in
    let x = c.index-claims-place.result in
    let at = slice_get_read cs (length cs) (c.loop-place.place - 1) x refl (omega (arith, c.loop-place-test.true, c.loop-place.auto.place)) c.index-claims-place.is in
    let same : (c.loop-place.place - 1) + 1 ≡ c.loop-place.place = omega (arith, c.loop-place-test.true) in
    c.in_ok-insert_claim.ensures ∙ (ap (insert_claim x) (c.loop-place.invariant ∙ ap (λ n. others_in rows (drop n cs)) (sym same)) ∙ sym
    (other_put rows cs i x at (sym (ap (is_other rows) c.get.ensures) ∙ (sym c.is_other.ensures ∙ c.if-is_other.true))))

pub loop-place-preserved : goal.loop-place-preserved
loop-place-preserved g c =
    let rows = g.L.Lookup.rows c.args.lookup.now in
    let cs = c.args.claims.now in
    let i = c.loop-place.place - 1 in
    let x = c.index-claims-place.result in
    let at = slice_get_read cs (length cs) (c.loop-place.place - 1) x refl (omega (arith, c.loop-place-test.true, c.loop-place.auto.place)) c.index-claims-place.is in
    let same : (c.loop-place.place - 1) + 1 ≡ c.loop-place.place = omega (arith, c.loop-place-test.true) in
    c.loop-place.invariant ∙ (ap (λ n. others_in rows (drop n cs)) (sym same) ∙ sym
    (other_passed rows cs i x at (sym (ap (is_other rows) c.get.ensures) ∙ (sym c.is_other.ensures ∙ c.if-is_other.false))))
