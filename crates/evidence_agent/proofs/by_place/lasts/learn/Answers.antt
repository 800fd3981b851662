use Rattle.std.proofs.Common.{◌≡◌, ℕ, List, Option, subst}
use Rattle.std.proofs.lemmas.Result.{on_ok_weaker}
use Rattle.evidence_agent.specs.declared.by_place.topics.Topic.{Topic}
use Rattle.evidence_agent.specs.declared.by_place.lasts.Last.{Last}
use Rattle.evidence_agent.specs.Places.Steps.Putting.{Puts}
use Rattle.evidence_agent.proofs.Places.Putting.{lost_lasts, told_lasts}
use Rattle.evidence_agent.proofs.by_place.lasts.learn.Goals as goal

puts_as : (a b : Option Topic) (place : ℕ) (was is : List Last) → a ≡ b → Puts a place was is → Puts b place was is
puts_as a b place was is e = subst (λ (o : Option Topic). Puts o place was is) e

pub returns-then-not-entry-clause-ok : goal.returns-then-not-entry-clause-ok
returns-then-not-entry-clause-ok c = λ mine at all.
    lost_lasts c.args.entry.now mine c.args.place c.args.rows.now.items c.put_some.new.rows.items c.if-not-entry.true at
    (puts_as _ _ c.args.place c.args.rows.now.items c.put_some.new.rows.items c.asked_topic.ensures c.in_ok-put_some.ensures.ok) all

pub returns-clause-ok : goal.returns-clause-ok
returns-clause-ok c = on_ok_weaker c.put_found.result
    (λ third mine at all. told_lasts c.args.entry.now mine c.args.place c.args.rows.now.items c.put_some.new.rows.items c.put_some-2.new.rows.items c.put_found.new.rows.items c.if-not-entry.false at
    (puts_as _ _ c.args.place c.args.rows.now.items c.put_some.new.rows.items c.asked_topic.ensures c.in_ok-put_some.ensures.ok)
    (puts_as _ _ c.args.place c.put_some.new.rows.items c.put_some-2.new.rows.items c.read_topic.ensures c.in_ok-put_some-2.ensures.ok)
    third all)
    c.put_found.ensures.ok
