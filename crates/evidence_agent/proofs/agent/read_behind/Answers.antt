use Rattle.std.proofs.Common.{◌≡◌, ◌<◌, length, true, ◌∙◌, arith, sym, reverse, subst}
use Rattle.std.proofs.lemmas.List.{get_or_default}
use Rattle.call_types.specs.declared.entry.Entry.{Entry}
use Rattle.evidence_agent.specs.Places.Steps.Since.{gets}
use Rattle.evidence_agent.specs.Steps.Seen.{key_with_parts}
use Rattle.evidence_agent.proofs.Sight.{read_by}
use Rattle.evidence_agent.proofs.agent.read_behind.Goals as goal

pub returns-else-not-tells_get : goal.returns-else-not-tells_get
returns-else-not-tells_get c =
    let within : c.in-Some.place < length c.args.entries.now = omega (arith, c.if-place-entries.false) in
    read_by c.args.entries.now (key_with_parts c.args.kind c.args.namespace.now c.args.name.now) c.args.behind _ _ c.in-Some.place c.index-entries-place-in-Some.result
    c.object-about.ensures (c.place.ensures (reverse c.args.entries.now) c.requires.lasts) c.in-Some.is within (omega (arith, c.if-behind-place.false))
    (subst (λ (e : Entry). gets (key_with_parts c.args.kind c.args.namespace.now c.args.name.now) e ≡ true)
    (c.index-entries-place.is ∙ sym (get_or_default c.args.entries.now c.in-Some.place c.index-entries-place-in-Some.result c.index-entries-place.result within))
    (c.tells_get.ensures c.if-not-tells_get.false))
