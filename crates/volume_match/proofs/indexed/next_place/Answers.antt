use Rattle.std.proofs.Common.{◌≡◌, ◌<◌, inl, inr, ◌∙◌, true, true≢false, None, length, get_or, arith, ap, sym, subst}
use Rattle.std.specs.Ordering.{is_gt, is_lt}
use Rattle.std.proofs.lemmas.Cmp.{tied_itself}
use Rattle.std.proofs.lemmas.List.{get_or_default}
use Rattle.kube_objects.specs.Bindings.{mode_count}
use Rattle.volume_index.specs.VolumeOrders.{name_cmp, size_cmp, size_of}
use Rattle.volume_match.specs.Steps.Choices.{is_grouped, wanted}
use Rattle.volume_match.proofs.Candidates.{at_place, below_or_from, upto_at}
use Rattle.volume_match.proofs.Fitting.{before_jump, too_small}
use Rattle.volume_index.proofs.VolumeOrders.{by_size_total, first_no_greater, size_total}
use Rattle.volume_match.proofs.indexed.next_place.Goals as goal

pub returns-then-volume-claim : goal.returns-then-volume-claim
returns-then-volume-claim c =
    let claim = c.args.claim.now in
    let free = c.args.free.now in
    let place = c.args.place in
    let v = c.get-volume.result.now in
    let at = at_place free place v c.index-free-place.result c.get-volume.ensures c.index-free-place.is in
    let group : is_grouped v claim ≡ true = subst (λ w. is_grouped w claim ≡ true) (sym at) (c.requires.group v) in
    let start = rw c.mode_count.ensures at c.fitting_start.ensures.start in
    let small : is_lt (size_cmp (size_of v) (wanted claim (mode_count v.modes))) ≡ true = too_small claim None v group c.if-volume-claim.true in
    let more : place < c.fitting_start.result = elim (below_or_from place c.fitting_start.result) [
      | inl lt ↦ lt
      | inr le ↦ absurd (true≢false (sym (subst (λ w. is_lt (size_cmp (size_of w) (wanted claim (mode_count v.modes))) ≡ true) at small) ∙ start.1 place v le c.requires.within))
    ] in
    record {
      more = more;
      bound = c.fitting_start.ensures.bound;
      passed = λ k d ge lt on e.
          let within : k < length free = omega (arith, lt, c.fitting_start.ensures.bound) in
          let u = get_or free k d in
          let too : u ≡ get_or free k u = get_or_default free k d u within in
          before_jump claim on v u group
          (upto_at by_size_total (λ w. w) free place k v u c.requires.order (omega (arith, ge)) within at too (λ w x. size_cmp (size_of w) (size_of x))
          (λ w x h. first_no_greater (size_cmp (size_of w) (size_of x)) (name_cmp w x) h) (λ w. ap is_gt (tied_itself size_total (size_of w))))
          (start.0 k d (omega arith) lt) e;
    }

pub returns-else-volume-claim-clause-passed : goal.returns-else-volume-claim-clause-passed
returns-else-volume-claim-clause-passed c = λ k d ge lt on e. absurd (omega (arith, ge, lt))
