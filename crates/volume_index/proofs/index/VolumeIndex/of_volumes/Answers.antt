use Rattle.std.proofs.Common.{◌≡◌, drop, arith, subst}
use Rattle.volume_index.specs.VolumeIndex.{StandsFor}
use Rattle.volume_index.proofs.IndexRows.{begun, one_more}
use Rattle.volume_index.proofs.index.VolumeIndex.of_volumes.Goals as goal

pub loop-left-init : goal.loop-left-init
loop-left-init c = (begun c.new-index.result c.args.volumes.now c.new-index.ensures, omega arith)

pub loop-left-preserved : goal.loop-left-preserved
loop-left-preserved c = (
  one_more c.loop-left.index c.insert.new.self c.args.volumes.now c.loop-left.left c.index-volumes-left.result
      (omega arith) c.loop-left.invariant.1 c.index-volumes-left.is c.requires c.in_ok-insert.ensures.ok c.loop-left.invariant.0,
  omega (arith, c.loop-left.invariant.1),
)

pub returns : goal.returns
returns c =
    let none : c.loop-left.left ≡ 0 = omega arith in
    subst (λ n. StandsFor c.loop-left.index (drop n c.args.volumes.now)) none c.loop-left.invariant.0
