use Rattle.std.proofs.Common.{◌≡◌, ◌<◌, ◌≤◌, ◌∙◌, true, false, length, get_or, arith, ap, sym, subst}
use Rattle.std.specs.Option.{option_copied}
use Rattle.std.specs.Ordering.{is_gt, is_lt}
use Rattle.std.proofs.lemmas.Cmp.{tied_itself}
use Rattle.std.proofs.lemmas.List.{get_or_default}
use Rattle.volume_index.specs.VolumeIndex.{is_free}
use Rattle.volume_index.specs.VolumeOrders.{name_cmp, size_cmp, size_of}
use Rattle.volume_match.specs.Steps.Choices.{is_grouped, wanted}
use Rattle.volume_match.proofs.Candidates.{alike_itself, at_place, first_best, none_left, none_more, upto_at}
use Rattle.volume_match.proofs.Fitting.{after_group, before_size, prefers_free}
use Rattle.volume_match.proofs.Passed.{stands_at}
use Rattle.volume_index.proofs.VolumeOrders.{by_size_total, first_no_greater, size_total}
use Rattle.volume_match.proofs.indexed.best_free.Goals as goal

pub loop-place-init : goal.loop-place-init
loop-place-init g c = (
  λ k d low lt place q. before_size c.args.claim.now (option_copied c.args.node) (get_or c.args.free.now k d) q.eligible
      (c.fitting_start-start.ensures.start.0 k d low lt),
  omega arith,
  c.fitting_start-start.ensures.bound,
)

pub open_place-requires-clause-held : goal.open_place-requires-clause-held
open_place-requires-clause-held g c =
    let lt : c.loop-place.place < length c.args.free.now = omega arith in
    (c.requires.held c.get-volume.result.now
    (c.loop-place.place, lt, sym (at_place c.args.free.now c.loop-place.place c.get-volume.result.now c.index-free-place.result c.get-volume.ensures c.index-free-place.is))).0

pub next_place-place-requires-clause-group : goal.next_place-place-requires-clause-group
next_place-place-requires-clause-group g c =
    let lt : c.loop-place.place < length c.args.free.now = omega arith in
    let v = c.get-volume.result.now in
    let at = at_place c.args.free.now c.loop-place.place v c.index-free-place.result c.get-volume.ensures c.index-free-place.is in
    λ d. subst (λ w. is_grouped w c.args.claim.now ≡ true) (at ∙ get_or_default c.args.free.now c.loop-place.place v d lt) (sym c.is_grouped.ensures ∙ c.if-not-is_grouped.false)

pub loop-place-preserved : goal.loop-place-preserved
loop-place-preserved g c =
    let lt : c.loop-place.place < length c.args.free.now = omega arith in
    let v = c.get-volume.result.now in
    let at = at_place c.args.free.now c.loop-place.place v c.index-free-place.result c.get-volume.ensures c.index-free-place.is in
    let next = c.next_place-place.ensures in (
      none_more (g.L.Lookup.rows c.args.lookup.now) c.args.claim.now (option_copied c.args.node) false
          (g.P.Places.places c.args.excluded.now) c.args.free.now c.loop-place.place c.next_place-place.result v lt at c.loop-place.invariant.0 c.in-None.ensures.none next.passed,
      omega (arith, c.loop-place.invariant.1, next.more),
      next.bound,
    )

pub loop-place-smaller : goal.loop-place-smaller
loop-place-smaller g c =
    let next = c.next_place-place.ensures in
    omega (arith, next.more, next.bound)

pub returns-then-not-is_grouped-clause-best : goal.returns-then-not-is_grouped-clause-best
returns-then-not-is_grouped-clause-best g c =
    let lt : c.loop-place.place < length c.args.free.now = omega arith in
    let claim = c.args.claim.now in
    let v = c.get-volume.result.now in
    let at = at_place c.args.free.now c.loop-place.place v c.index-free-place.result c.get-volume.ensures c.index-free-place.is in
    let from : is_lt (size_cmp (size_of v) (wanted claim 0)) ≡ false =
    subst (λ w. is_lt (size_cmp (size_of w) (wanted claim 0)) ≡ false) (sym at) (c.fitting_start-start.ensures.start.1 c.loop-place.place v c.loop-place.invariant.1 lt) in
    none_left (g.L.Lookup.rows c.args.lookup.now) claim (option_copied c.args.node) false (g.P.Places.places c.args.excluded.now) c.args.free.now c.loop-place.place c.loop-place.invariant.0
    (λ k u le within too place q.
    after_group claim (option_copied c.args.node) v u (sym c.is_grouped.ensures ∙ c.if-not-is_grouped.true) from
    (upto_at by_size_total (λ w. w) c.args.free.now c.loop-place.place k v u c.requires.free le within at too (λ w x. size_cmp (size_of w) (size_of x))
    (λ w x e. first_no_greater (size_cmp (size_of w) (size_of x)) (name_cmp w x) e) (λ w. ap is_gt (tied_itself size_total (size_of w))))
    q.eligible)

pub returns-in-Some-clause-best : goal.returns-in-Some-clause-best
returns-in-Some-clause-best g c =
    let lt : c.loop-place.place < length c.args.free.now = omega arith in
    let claim = c.args.claim.now in
    let on = option_copied c.args.node in
    let v = c.get-volume.result.now in
    let at = at_place c.args.free.now c.loop-place.place v c.index-free-place.result c.get-volume.ensures c.index-free-place.is in
    first_best (g.L.Lookup.rows c.args.lookup.now) claim on false (g.P.Places.places c.args.excluded.now) by_size_total is_free (prefers_free claim on) (alike_itself claim)
    c.args.free.now c.loop-place.place c.in-Some.at v c.requires.free c.requires.held lt at c.loop-place.invariant.0 c.in-Some.ensures.some

pub returns-in-Some-clause-there : goal.returns-in-Some-clause-there
returns-in-Some-clause-there g c =
    let lt : c.loop-place.place < length c.args.free.now = omega arith in
    let v = c.get-volume.result.now in
    let at = at_place c.args.free.now c.loop-place.place v c.index-free-place.result c.get-volume.ensures c.index-free-place.is in
    stands_at (g.L.Lookup.rows c.args.lookup.now) c.args.free.now c.loop-place.place c.in-Some.at v lt at c.in-Some.ensures.some.there

pub returns-clause-best : goal.returns-clause-best
returns-clause-best g c =
    let end : length c.args.free.now ≤ c.loop-place.place = omega arith in
    none_left (g.L.Lookup.rows c.args.lookup.now) c.args.claim.now (option_copied c.args.node) false (g.P.Places.places c.args.excluded.now) c.args.free.now c.loop-place.place c.loop-place.invariant.0
    (λ k u le within too place q. absurd (omega (arith, end, le, within)))
