use Rattle.std.proofs.Common.{◌≡◌, Some, ◌∙◌, ap, arith, reverse, subst}
use Rattle.call_types.specs.declared.entry.Entry.{Entry}
use Rattle.binder_model.specs.AgentLicence.{epoch_in}
use Rattle.evidence_agent.specs.declared.by_place.topics.Matter.TheVariants as matters
use Rattle.evidence_agent.specs.Places.Topics.{about_name}
use Rattle.evidence_agent.proofs.Sight.{taken_by}
use Rattle.evidence_agent.proofs.agent.last_taken.Goals as goal

pub returns-in-Some-told_epoch : goal.returns-in-Some-told_epoch
returns-in-Some-told_epoch c =
    taken_by c.args.entries.now c.args.node.now c.in-Some-told_epoch.epoch _ _ c.in-Some.place c.index-entries-place.result
    (c.object-about.ensures ∙ ap (about_name matters.Taken) c.as_str.ensures) (c.place.ensures (reverse c.args.entries.now) c.requires.lasts) c.in-Some.is (omega (arith, c.if-place-entries.false))
    (subst (λ (e : Entry). epoch_in c.args.node.now e ≡ Some c.in-Some-told_epoch.epoch) c.index-entries-place.is c.in-Some-told_epoch.ensures)
