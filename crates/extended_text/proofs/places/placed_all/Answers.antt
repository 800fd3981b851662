use Rattle.std.proofs.Common.{◌∙◌, ◌++◌, [], ◌∷◌, ap, map, sym, take}
use Rattle.std.proofs.lemmas.List.{map-append, take_more}
use Rattle.extended_text.specs.Extended.{placed}
use Rattle.extended_text.proofs.places.placed_all.Goals as goal

pub loop-side-preserved : goal.loop-side-preserved
loop-side-preserved c =
    let sides = c.args.sides.now in
    let index = c.loop-side.side-index in
    let place = placed c.args.numbers.now in
    let more = take_more sides index c.side-item.result c.loop-side-test.true ∙ ap (λ side. take index sides ++ side ∷ []) (sym c.side-item.is) in
    c.in_ok-push.ensures.ok ∙ ap (λ all. all ++ c.in_ok-placed.field-0 ∷ []) c.loop-side.invariant ∙ ap (λ p. map place (take index sides) ++ p ∷ []) c.in_ok-placed.ensures
    ∙ sym (map-append place (take index sides) (c.side-item.result ∷ [])) ∙ ap (map place) (sym more)
