use Rattle.std.proofs.Common.{◌≡◌, ℕ, List, set, sym, ap, refl, subst, ◌∙◌}
use Rattle.std.specs.List.{insert}
use Rattle.plain_data.proofs.RowFacts.{put_at, put_gap, rising_put}
use Rattle.evidence_agent.specs.declared.by_place.topics.Topic.{Topic}
use Rattle.evidence_agent.specs.declared.by_place.lasts.Last.{Last}
use Rattle.evidence_agent.specs.Places.Rows.{AreLasts, topic_of}
use Rattle.evidence_agent.specs.Places.Steps.Putting.{IsLastAt, IsLastGap, last_row, put_last}
use Rattle.evidence_agent.specs.Places.Topics.{topic_by}
use Rattle.evidence_agent.proofs.Places.Order.{topic_cmp_total}
use Rattle.evidence_agent.proofs.by_place.lasts.put_at.Goals as goal

at_is : (rows : List Last) (t : Topic) (place i : ℕ) (row : Last) → row ≡ last_row t place → IsLastAt rows t i → set rows i row ≡ put_last t place rows
at_is rows t place i row is at = ap (set rows i) is ∙ sym (put_at topic_cmp_total topic_of t (last_row t place) refl rows i at)

gap_is : (rows : List Last) (t : Topic) (place i : ℕ) (row : Last) → row ≡ last_row t place → IsLastGap rows t i → insert rows i row ≡ put_last t place rows
gap_is rows t place i row is gap = ap (insert rows i) is ∙ sym (put_gap topic_cmp_total topic_of t (last_row t place) refl rows i gap)

rising : (rows after : List Last) (t : Topic) (place : ℕ) → AreLasts rows → after ≡ put_last t place rows → AreLasts after
rising rows after t place all is = subst AreLasts (sym is) (rising_put topic_cmp_total topic_of (last_row t place) rows all)

pub returns-in-Ok-clause-ok : goal.returns-in-Ok-clause-ok
returns-in-Ok-clause-ok c =
    let at = rw c.deref.ensures.value at c.in-Ok.ensures.at in
    at_is c.args.rows.now.items (topic_by c.args.about.now) c.args.place c.in-Ok.at _ c.in_ok-row.ensures at

pub returns-in-Ok-clause-rising : goal.returns-in-Ok-clause-rising
returns-in-Ok-clause-rising c =
    let at = rw c.deref.ensures.value at c.in-Ok.ensures.at in
    rising c.args.rows.now.items _ (topic_by c.args.about.now) c.args.place c.requires (at_is c.args.rows.now.items (topic_by c.args.about.now) c.args.place c.in-Ok.at _ c.in_ok-row.ensures at)

pub returns-in_ok-insert-in-Err-clause-ok : goal.returns-in_ok-insert-in-Err-clause-ok
returns-in_ok-insert-in-Err-clause-ok c =
    let gap = rw c.deref.ensures.value at c.in-Err.ensures.gap in
    c.in_ok-insert-in-Err.ensures.items ∙ gap_is c.args.rows.now.items (topic_by c.args.about.now) c.args.place c.in-Err.at _ c.in_ok-row.ensures gap

pub returns-in_ok-insert-in-Err-clause-rising : goal.returns-in_ok-insert-in-Err-clause-rising
returns-in_ok-insert-in-Err-clause-rising c =
    let gap = rw c.deref.ensures.value at c.in-Err.ensures.gap in
    rising c.args.rows.now.items _ (topic_by c.args.about.now) c.args.place c.requires
    (c.in_ok-insert-in-Err.ensures.items ∙ gap_is c.args.rows.now.items (topic_by c.args.about.now) c.args.place c.in-Err.at _ c.in_ok-row.ensures gap)
