use Rattle.std.proofs.Common.{reverse, subst}
use Rattle.licence_rows.specs.Asking.{IsNewestWith}
use Rattle.licence_rows.proofs.newest.NewestOfKeySharedTest.shares.Goals as goal

pub returns : goal.returns
returns g c object other same held = subst (λ k. IsNewestWith
    (λ x. g.T.ObjectTest.allows c.args.self.now.may.now x × g.U.ObjectTest.allows c.args.self.now.row.now x) (reverse c.args.self.now.mine.now) k) same held
