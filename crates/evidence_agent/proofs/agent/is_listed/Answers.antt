use Rattle.std.proofs.Common.{◌<◌, length, arith, subst}
use Rattle.evidence_agent.specs.Places.Steps.Since.{IsPodList}
use Rattle.evidence_agent.proofs.Places.Since.{read_stands}
use Rattle.evidence_agent.proofs.agent.is_listed.Goals as goal

pub returns-else-place-entries : goal.returns-else-place-entries
returns-else-place-entries c = λ told.
    let within : c.in-Some.place < length c.args.entries.now = omega (arith, c.if-place-entries.false) in
    record {
      place = c.in-Some.place;
      list = _;
      stands = read_stands c.args.entries.now c.in-Some.place c.index-entries-place.result within;
      after = omega (arith, c.if-taken-place.false);
      upto = omega (arith, c.if-place-shown.false);
      is = subst IsPodList c.index-entries-place.is (c.is_pod_list.ensures told);
    }
