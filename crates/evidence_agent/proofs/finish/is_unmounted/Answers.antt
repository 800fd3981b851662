use Rattle.std.proofs.Common.{◌≡◌, ◌<◌, length, true, arith, sym, ◌∙◌, subst}
use Rattle.call_types.specs.declared.entry.Entry.{Entry}
use Rattle.evidence_agent.specs.Places.Steps.Since.{tells_unmounted}
use Rattle.evidence_agent.proofs.Sight.{unmounted_by}
use Rattle.evidence_agent.proofs.finish.is_unmounted.Goals as goal

pub returns-else-not-tells_unmounted : goal.returns-else-not-tells_unmounted
returns-else-not-tells_unmounted c = λ quiet.
    let within : c.in-Some.place < length c.args.entries.now = omega (arith, c.if-place-entries.false) in
    unmounted_by c.args.entries.now c.args.taken c.args.node.now c.args.epoch c.args.uid c.in-Some.place c.index-entries-place.result within (omega (arith, c.if-taken-place.false))
    (subst (λ (e : Entry). tells_unmounted c.args.node.now c.args.epoch c.args.uid e ≡ true) c.index-entries-place.is (sym c.tells_unmounted.ensures ∙ c.if-not-tells_unmounted.false))
    (c.is_quiet_behind.ensures quiet)
