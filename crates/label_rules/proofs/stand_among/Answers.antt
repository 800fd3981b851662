use Rattle.std.proofs.Common.{◌≡◌, true, bytes_eq, sym, ◌∙◌}
use Rattle.std.specs.declared.cmp.Ordering.TheVariants.{Less, Equal, Greater}
use Rattle.plain_data.specs.Pairs.{text_cmp}
use Rattle.label_rules.proofs.Walks.{ended, left_below, left_found, passed, rest_whole}
use Rattle.label_rules.proofs.stand_among.Goals as goal
use Rattle.label_rules.proofs.stand_among.Goals.{in-Less, in-Equal+else-not-is_same}

pub returns-in-Greater : goal.returns-in-Greater
returns-in-Greater c =
    let above : text_cmp c.label-item.result.0 c.pair-item.result.0 ≡ Greater = sym c.in-Greater.ensures in
    passed _ _ _ _ _ _ c.loop-label-test.true c.label-item.is c.in-len1-up.len_at_least c.pair-item.is c.loop-label.invariant above

pub loop-label-preserved : goal.loop-label-preserved
loop-label-preserved c = elim c.match-key_order.branch [
  | in-Less w ↦
      (let less : text_cmp c.label-item.result.0 c.pair-item.result.0 ≡ Less = sym w.in-Less.ensures in
      rw w.left-is (left_below _ _ _ _ _ _ c.loop-label-test.true c.label-item.is c.in-len1-up.len_at_least c.pair-item.is c.loop-label.invariant less))
  | in-Equal+else-not-is_same w ↦
      (let equal : text_cmp c.label-item.result.0 c.pair-item.result.0 ≡ Equal = sym w.in-Equal.ensures in
      let same : bytes_eq c.pair-item.result.1 c.label-item.result.1 ≡ true = sym w.if-not-is_same.ensures in
      rw (w.left-is, rest_whole c.loop-label.left.now) (left_found _ _ _ _ _ _ c.loop-label-test.true c.label-item.is c.in-len1-up.len_at_least c.pair-item.is c.loop-label.invariant equal same))
]

pub returns : goal.returns
returns c = c.is_empty.ensures ∙ ended _ _ _ _ c.loop-label-test.false c.loop-label.invariant
