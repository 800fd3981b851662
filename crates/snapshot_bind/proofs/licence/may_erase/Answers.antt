use Rattle.std.proofs.Common.{refl, sym, inl, inr, arith, true≢false}
use Rattle.snapshot_bind.specs.Licences.{ToldGone}
use Rattle.snapshot_bind.proofs.Somes.{front_at}
use Rattle.snapshot_bind.proofs.licence.may_erase.Goals as goal

pub returns-then-told_content : goal.returns-then-told_content
returns-then-told_content c =
    let at = front_at (ToldGone c.args.name.now c.args.version) c.args.mine.now c.loop-left.left c.index-mine-left.result c.loop-left-test.true c.loop-left.invariant.within c.index-mine-left.is in
    (λ t. c.loop-left.invariant.up (at.0 (inl (c.if-told_content.ensures.0 refl))), λ told. refl)

pub loop-left-preserved : goal.loop-left-preserved
loop-left-preserved c =
    let at = front_at (ToldGone c.args.name.now c.args.version) c.args.mine.now c.loop-left.left c.index-mine-left.result c.loop-left-test.true c.loop-left.invariant.within c.index-mine-left.is in
    record {
      within = let le = c.loop-left.invariant.within in omega (arith, le);
      down = λ told. elim (at.1 (c.loop-left.invariant.down told)) [ inl now ↦ absurd (true≢false (sym (c.if-told_content.ensures.1 now))) | inr later ↦ later ];
      up = λ told. c.loop-left.invariant.up (at.0 (inr told));
    }
