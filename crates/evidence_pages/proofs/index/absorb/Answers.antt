use Rattle.std.proofs.Common.{refl}
use Rattle.evidence_pages.proofs.Absorbing.{all_untold}
use Rattle.evidence_pages.proofs.index.absorb.Goals as goal

pub returns-then-not-entry : goal.returns-then-not-entry
returns-then-not-entry c = λ mine all. all_untold _ c.args.entry.now c.if-not-entry.true mine all

pub returns : goal.returns
returns c = λ mine all. c.in_ok-absorb.ensures.stands mine c.args.entry.now (record { told = c.if-not-entry.false; asked = refl; answered = refl }) all
