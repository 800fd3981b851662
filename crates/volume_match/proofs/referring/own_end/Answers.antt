use Rattle.std.proofs.Common.{◌≡◌, ◌<◌, ◌∙◌, true, false, Some, length, arith, refl, sym, subst}
use Rattle.std.proofs.lemmas.List.{get_or_default}
use Rattle.std.proofs.lemmas.List.Elements.{AllWithin-more}
use Rattle.std.proofs.lemmas.Option.{slice_get_read}
use Rattle.volume_match.specs.Passing.{refers_to_claim}
use Rattle.volume_match.proofs.Candidates.{at_place}
use Rattle.volume_match.proofs.referring.own_end.Goals as goal

pub loop-place-preserved : goal.loop-place-preserved
loop-place-preserved c =
    let lt : c.loop-place.place < length c.args.owned.now = omega arith in
    let v = c.get-volume.result.now in
    let at = at_place c.args.owned.now c.loop-place.place v c.index-owned-place.result c.get-volume.ensures c.index-owned-place.is in (
      AllWithin-more (λ w. refers_to_claim c.args.claim.now w ≡ true) c.args.owned.now c.args.start c.loop-place.place c.loop-place.invariant.0
          (λ d. subst (λ w. refers_to_claim c.args.claim.now w ≡ true) (at ∙ get_or_default c.args.owned.now c.loop-place.place v d lt) (sym c.is_named.ensures ∙ c.if-not-is_named.false)),
      omega (arith, c.loop-place.invariant.1),
    )

pub returns-then-not-is_named-clause-next : goal.returns-then-not-is_named-clause-next
returns-then-not-is_named-clause-next c = λ u e.
    let lt : c.loop-place.place < length c.args.owned.now = omega arith in
    let v = c.get-volume.result.now in
    let at = at_place c.args.owned.now c.loop-place.place v c.index-owned-place.result c.get-volume.ensures c.index-owned-place.is in
    let same : Some v ≡ Some u = sym (slice_get_read c.args.owned.now (length c.args.owned.now) c.loop-place.place v refl lt at) ∙ e in
    let one : v ≡ u = cc in
    subst (λ w. refers_to_claim c.args.claim.now w ≡ false) one (sym c.is_named.ensures ∙ c.if-not-is_named.true)
