use Rattle.std.proofs.Common.{◌≡◌, ◌∙◌, ◌<◌, ◌≤◌, length, arith}
use Rattle.piece_print.proofs.Joining.{joined_next, joined_end, owned_next}
use Rattle.piece_print.proofs.Passing.{on_any, on_err, if_ok, put_cut, put_next, put_last, put_last_cut}
use Rattle.piece_print.proofs.sinks.put_pieces.Goals as goal

pub returns-in_err-held-clause-front : goal.returns-in_err-held-clause-front
returns-in_err-held-clause-front g c =
    let lt : c.loop-piece.piece-index < length c.args.pieces.now = omega (arith, c.loop-piece-test.true) in
    let next = joined_next c.args.pieces.now c.loop-piece.piece-index c.piece-item.result c.args.own.now c.loop-piece.at c.as_slice.result.now lt
    c.piece-item.is (c.as_slice.ensures ∙ c.deref.ensures) in
    on_any _ (put_cut _ _ _ _ _ _ _ _ c.loop-piece.invariant.put next c.in_err-held.ensures.front)

pub loop-piece-preserved : goal.loop-piece-preserved
loop-piece-preserved g c =
    let p = c.loop-piece.invariant in
    let lt : c.loop-piece.piece-index < length c.args.pieces.now = omega (arith, c.loop-piece-test.true) in
    let next = joined_next c.args.pieces.now c.loop-piece.piece-index c.piece-item.result c.args.own.now c.loop-piece.at c.as_slice.result.now lt
    c.piece-item.is (c.as_slice.ensures ∙ c.deref.ensures) in
    record {
      within = omega (arith, p.within, owned_next c.args.pieces.now c.loop-piece.piece-index c.piece-item.result lt c.piece-item.is);
      held = c.in_ok-held.ensures.bound;
      size = c.put_both.ensures.size ∙ p.size;
      later = omega (arith, p.later, c.put_both.ensures.later);
      put = put_next _ _ _ _ _ _ _ _ _ p.put next c.in_ok-held.ensures.ok;
    }

pub returns-clause-ok : goal.returns-clause-ok
returns-clause-ok g c =
    let le : length c.args.pieces.now ≤ c.loop-piece.piece-index = omega (arith, c.loop-piece-test.false) in
    let end = joined_end c.args.pieces.now c.loop-piece.piece-index c.args.own.now c.loop-piece.at le in
    if_ok c.put.result (λ n q. put_last _ _ _ _ _ _ _ _ c.loop-piece.invariant.put end q) c.put.ensures.ok

pub returns-clause-front : goal.returns-clause-front
returns-clause-front g c =
    let le : length c.args.pieces.now ≤ c.loop-piece.piece-index = omega (arith, c.loop-piece-test.false) in
    let end = joined_end c.args.pieces.now c.loop-piece.piece-index c.args.own.now c.loop-piece.at le in
    on_err c.put.result (λ q. put_last_cut _ _ _ _ _ _ _ c.loop-piece.invariant.put end q) c.put.ensures.front
