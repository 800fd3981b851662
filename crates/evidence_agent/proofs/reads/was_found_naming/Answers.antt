use Rattle.std.proofs.Common.{◌<◌, length, arith, subst}
use Rattle.evidence_agent.specs.Steps.Seen.{TellsNaming}
use Rattle.evidence_agent.proofs.Sight.{naming_by}
use Rattle.evidence_agent.proofs.reads.was_found_naming.Goals as goal

pub returns-else-place-entries : goal.returns-else-place-entries
returns-else-place-entries c = λ told.
    let within : c.in-Some.place < length c.args.entries.now = omega (arith, c.if-place-entries.false) in
    naming_by c.args.entries.now c.args.key.now c.in-Some.place c.index-entries-place.result within (subst (TellsNaming c.args.key.now) c.index-entries-place.is (c.tells_naming.ensures told))
