use Rattle.std.proofs.Common.{ap}
use Rattle.std.specs.Option.{option_copied}
use Rattle.evidence_judge.proofs.Absence.{absent_by}
use Rattle.evidence_judge.proofs.lookups.is_absent.Goals as goal

pub returns-in-Some-watched_from : goal.returns-in-Some-watched_from
returns-in-Some-watched_from c = λ mine all told. absent_by _ mine c.args.name.now _ _ c.in-Some-watched_from._from c.newest_of.ensures (ap
    option_copied c.in-None.is) c.ask.ensures c.in-Some-watched_from.ensures all
