use Rattle.std.proofs.Common.{◌≡◌, ◌<◌, ◌≤◌, ◌∙◌, false, length, get_or, arith, ap, sym, subst}
use Rattle.std.specs.Option.{option_copied}
use Rattle.std.specs.Ordering.{is_gt, is_lt}
use Rattle.std.proofs.lemmas.Cmp.{tied_itself}
use Rattle.std.proofs.lemmas.List.{get_or_default}
use Rattle.std.proofs.lemmas.List.Elements.{AllWithin-more}
use Rattle.volume_index.specs.VolumeIndex.{is_owned}
use Rattle.volume_index.specs.VolumeOrders.{need_cmp, owner_cmp, owner_of}
use Rattle.volume_match.specs.Steps.Choices.{claim_owner}
use Rattle.volume_match.proofs.Candidates.{IsNone, alike_itself, at_place, first_best, none_left, upto_at}
use Rattle.volume_match.proofs.Fitting.{after_owner, before_owner, prefers_owned}
use Rattle.volume_index.proofs.VolumeOrders.{by_owner_total, first_no_greater, owner_total}
use Rattle.volume_match.proofs.indexed.best_owned.Goals as goal

pub loop-place-init : goal.loop-place-init
loop-place-init g c =
    λ k d low lt place q.
    let within : k < length c.args.owned.now = omega (arith, lt, c.own_start-start.ensures.bound) in
    before_owner c.args.claim.now (option_copied c.args.node) (get_or c.args.owned.now k d)
    (c.requires.held (get_or c.args.owned.now k d) (k, within, get_or_default c.args.owned.now k (get_or c.args.owned.now k d) d within)).1
    (c.own_start-start.ensures.start.0 k d low lt) q.eligible

pub open_place-requires-clause-held : goal.open_place-requires-clause-held
open_place-requires-clause-held g c =
    let lt : c.loop-place.place < length c.args.owned.now = omega arith in
    (c.requires.held c.get-volume.result.now
    (c.loop-place.place, lt, sym (at_place c.args.owned.now c.loop-place.place c.get-volume.result.now c.index-owned-place.result c.get-volume.ensures c.index-owned-place.is))).0

pub loop-place-preserved : goal.loop-place-preserved
loop-place-preserved g c =
    let lt : c.loop-place.place < length c.args.owned.now = omega arith in
    let v = c.get-volume.result.now in
    let at = at_place c.args.owned.now c.loop-place.place v c.index-owned-place.result c.get-volume.ensures c.index-owned-place.is in
    let P = IsNone (g.L.Lookup.rows c.args.lookup.now) c.args.claim.now (option_copied c.args.node) c.args.only_own (g.P.Places.places c.args.excluded.now) in
    AllWithin-more P c.args.owned.now 0 c.loop-place.place c.loop-place.invariant (λ d. subst P (at ∙ get_or_default c.args.owned.now c.loop-place.place v d lt) c.in-None.ensures.none)

pub returns-then-not-is_named : goal.returns-then-not-is_named
returns-then-not-is_named g c =
    let lt : c.loop-place.place < length c.args.owned.now = omega arith in
    let ge : c.own_start-start.result ≤ c.loop-place.place = c.loop-place.auto.place in
    let claim = c.args.claim.now in
    let v = c.get-volume.result.now in
    let at = at_place c.args.owned.now c.loop-place.place v c.index-owned-place.result c.get-volume.ensures c.index-owned-place.is in
    let owned = (c.requires.held v (c.loop-place.place, lt, sym at)).1 in
    let from : is_lt (owner_cmp (owner_of v) (claim_owner claim)) ≡ false =
    subst (λ w. is_lt (owner_cmp (owner_of w) (claim_owner claim)) ≡ false) (sym at) (c.own_start-start.ensures.start.1 c.loop-place.place v ge lt) in
    none_left (g.L.Lookup.rows c.args.lookup.now) claim (option_copied c.args.node) c.args.only_own (g.P.Places.places c.args.excluded.now) c.args.owned.now c.loop-place.place c.loop-place.invariant
    (λ k u le within too place q.
    after_owner claim (option_copied c.args.node) v u owned (c.requires.held u (k, within, sym too)).1 from (sym c.is_named.ensures ∙ c.if-not-is_named.true)
    (upto_at by_owner_total (λ w. w) c.args.owned.now c.loop-place.place k v u c.requires.owned le within at too (λ w x. owner_cmp (owner_of w) (owner_of x))
    (λ w x e. first_no_greater (owner_cmp (owner_of w) (owner_of x)) (need_cmp w x) e) (λ w. ap is_gt (tied_itself owner_total (owner_of w))))
    q.eligible)

pub returns-in-Some : goal.returns-in-Some
returns-in-Some g c =
    let lt : c.loop-place.place < length c.args.owned.now = omega arith in
    let claim = c.args.claim.now in
    let on = option_copied c.args.node in
    let v = c.get-volume.result.now in
    let at = at_place c.args.owned.now c.loop-place.place v c.index-owned-place.result c.get-volume.ensures c.index-owned-place.is in
    first_best (g.L.Lookup.rows c.args.lookup.now) claim on c.args.only_own (g.P.Places.places c.args.excluded.now) by_owner_total is_owned (prefers_owned claim on) (alike_itself claim)
    c.args.owned.now c.loop-place.place c.in-Some.at v c.requires.owned c.requires.held lt at c.loop-place.invariant c.in-Some.ensures.some

pub returns : goal.returns
returns g c =
    let end : length c.args.owned.now ≤ c.loop-place.place = omega arith in
    none_left (g.L.Lookup.rows c.args.lookup.now) c.args.claim.now (option_copied c.args.node) c.args.only_own
    (g.P.Places.places c.args.excluded.now) c.args.owned.now c.loop-place.place c.loop-place.invariant
    (λ k u le within too place q. absurd (omega (arith, end, le, within)))
