use Rattle.std.proofs.Common.{true≢false, sym, reverse}
use Rattle.binder_model.specs.Told.{ToldObject}
use Rattle.licence_scans.proofs.Afters.{after_last}
use Rattle.model_laws.proofs.AfterEntries.{after_some}
use Rattle.licence_scans.proofs.entries.after.Goals as goal

pub returns-in-None : goal.returns-in-None
returns-in-None g c = (
  (λ t. absurd (true≢false (sym t))),
  λ h. absurd
      (c.in-None.ensures (after_some (ToldObject (g.T.ObjectTest.allows c.args.told.now)) (g.U.EntryTest.allows c.args.entry.now) (reverse c.args.mine.now) h)),
)

pub returns-in-Some : goal.returns-in-Some
returns-in-Some g c = after_last (g.T.ObjectTest.allows c.args.told.now) (g.U.EntryTest.allows c.args.entry.now) c.args.mine.now c.in-Some.place
    c.told_early.result c.in-Some.ensures c.told_early.ensures
