use Rattle.std.proofs.Common.{sym, subst}
use Rattle.volume_index.specs.VolumeIndex.{HoldsThose, is_owned}
use Rattle.volume_match.proofs.OwnPart.{part_holds}
use Rattle.volume_match.proofs.referring.referring_to.Goals as goal

pub returns : goal.returns
returns c = λ volumes stands.
    part_holds c.args.claim.now c.owned-owned.result.now c.own_start-start.result c.own_end-end.result c.owned-owned.ensures.order
    c.own_end-end.ensures.from c.own_end-end.ensures.bound c.own_start-start.ensures.start c.own_end-end.ensures.named
    c.own_end-end.ensures.next volumes (subst (HoldsThose is_owned volumes) (sym c.owned-owned.ensures.list) stands.owned)
