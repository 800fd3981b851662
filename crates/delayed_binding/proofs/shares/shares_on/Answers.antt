use Rattle.std.proofs.Common.{◌+◌, drop, length, refl, subst, sym, take}
use Rattle.std.proofs.lemmas.Option.{slice_get_read}
use Rattle.delayed_binding.specs.Steps.Sharing.{HaveNoShares, IsServedAs, IsSharedOut, held_by}
use Rattle.delayed_binding.proofs.Placing.{split_at, take_next}
use Rattle.delayed_binding.proofs.Sharing.{not_shared, shared_more}
use Rattle.delayed_binding.proofs.shares.shares_on.Goals as goal

pub returns-then-not-branch-clause-none : goal.returns-then-not-branch-clause-none
returns-then-not-branch-clause-none g c =
    let rows = g.L.Lookup.rows c.args.lookup.now in
    let n = c.args.node.now in
    let cs = c.args.claims.now in
    let i = c.loop-claim.claim-index in
    let x = c.claim-item.result in
    let at = slice_get_read cs (length cs) i x refl c.loop-claim-test.true c.claim-item.is in
    let given = subst (IsServedAs rows n x (held_by c.loop-claim.shares) (held_by c.give.new.self)) c.if-not-branch.true
    (subst (λ d. IsServedAs rows n d (held_by c.loop-claim.shares) (held_by c.give.new.self) c.in_ok-give.field-0) c.get.ensures c.in_ok-give.ensures.given) in
    subst (HaveNoShares rows n) (split_at cs i x at) (not_shared rows n c.set_aside.ensures.order (take i cs) (held_by c.loop-claim.shares) c.loop-claim.invariant.0 x (drop (i + 1) cs) given)

pub loop-claim-preserved : goal.loop-claim-preserved
loop-claim-preserved g c =
    let rows = g.L.Lookup.rows c.args.lookup.now in
    let n = c.args.node.now in
    let cs = c.args.claims.now in
    let i = c.loop-claim.claim-index in
    let x = c.claim-item.result in
    let at = slice_get_read cs (length cs) i x refl c.loop-claim-test.true c.claim-item.is in
    let given = subst (IsServedAs rows n x (held_by c.loop-claim.shares) (held_by c.give.new.self)) c.if-not-branch.false
    (subst (λ d. IsServedAs rows n d (held_by c.loop-claim.shares) (held_by c.give.new.self) c.in_ok-give.field-0) c.get.ensures c.in_ok-give.ensures.given) in (
      subst (λ xs. IsSharedOut rows n xs (held_by c.give.new.self)) (sym (take_next cs i x at))
          (shared_more rows n (take i cs) (held_by c.loop-claim.shares) (held_by c.give.new.self) c.loop-claim.invariant.0 x given),
      c.in_ok-give.ensures.passed,
    )
