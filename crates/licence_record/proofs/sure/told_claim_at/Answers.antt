use Rattle.std.proofs.Common.{reverse}
use Rattle.licence_scans.proofs.Tried.{claim_at}
use Rattle.licence_record.proofs.Judging.{lift}
use Rattle.licence_record.proofs.sure.told_claim_at.Goals as goal

pub returns : goal.returns
returns g c = lift _ _ _ _ (λ b is. claim_at c.args.given c.args.namespace.now c.args.name.now (g.T.SureClaim.allows c.args.row.now) (reverse c.args.mine.now) b is) c.told_object_at.ensures
