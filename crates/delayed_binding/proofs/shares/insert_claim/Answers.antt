use Rattle.std.proofs.Common.{◌∙◌, ◌∷◌, ◌++◌, drop, take, ap, arith}
use Rattle.delayed_binding.specs.Steps.Sharing.{place_in}
use Rattle.delayed_binding.proofs.Placing.{inserted_at, place_within}
use Rattle.delayed_binding.proofs.shares.insert_claim.Goals as goal

pub insert-requires : goal.insert-requires
insert-requires c =
    let within = place_within c.get.result.now c.deref.result.now in
    omega (arith, within, c.place_in-place.ensures, c.deref.ensures.len)

pub returns : goal.returns
returns c =
    let cs = c.args.claims.now.items in
    let place = c.place_in-place.ensures ∙ (ap (place_in c.get.result.now) c.deref.ensures.value ∙ ap (λ d. place_in d cs) c.get.ensures) in
    c.in_ok-insert.ensures.items ∙ (ap (λ n. take n cs ++ c.in_ok-copy.field-0 ∷ drop n cs) place
    ∙ (ap (λ x. take (place_in c.args.claim.now cs) cs ++ x ∷ drop (place_in c.args.claim.now cs) cs) c.in_ok-copy.ensures ∙ inserted_at c.args.claim.now cs))
