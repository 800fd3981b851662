use Rattle.std.proofs.Common.{◌≡◌, ◌∙◌, true, true≢false, sym, subst}
use Rattle.std.specs.Option.{option_copied}
use Rattle.std.proofs.lemmas.Bool.{and_from, and_parts}
use Rattle.binder_model.specs.Matching.{eligible, is_excluded, only_own_passes}
use Rattle.volume_match.proofs.Candidates.{one_candidate_place}
use Rattle.volume_match.proofs.indexed.open_place.Goals as goal

pub returns-then-not-may_take-clause-none : goal.returns-then-not-may_take-clause-none
returns-then-not-may_take-clause-none g c =
    λ place q. true≢false (sym
    (and_from (only_own_passes c.args.only_own c.args.volume.now c.args.claim.now)
    (eligible c.args.volume.now c.args.claim.now (option_copied c.args.node)) q.own q.eligible) ∙ sym c.may_take.ensures ∙ c.if-not-may_take.true)

pub returns-in-None-clause-none : goal.returns-in-None-clause-none
returns-in-None-clause-none g c = λ place q. absurd c.in-None.ensures.none

pub returns-then-hold-clause-none : goal.returns-then-hold-clause-none
returns-then-hold-clause-none g c =
    λ place q.
    let same = one_candidate_place (g.L.Lookup.rows c.args.lookup.now) c.args.claim.now (option_copied c.args.node) c.args.only_own
    (g.P.Places.places c.args.excluded.now) c.in-Some.place place c.args.volume.now c.requires.order c.in-Some.ensures.some q in
    true≢false (sym (subst (λ p. is_excluded (g.P.Places.places c.args.excluded.now) p ≡ true) same (sym c.hold.ensures ∙ c.if-hold.true)) ∙ q.open_to)

pub returns-else-hold-clause-some : goal.returns-else-hold-clause-some
returns-else-hold-clause-some g c =
    let parts = and_parts (only_own_passes c.args.only_own c.args.volume.now c.args.claim.now)
    (eligible c.args.volume.now c.args.claim.now (option_copied c.args.node)) (sym c.may_take.ensures ∙ c.if-not-may_take.false) in
    record { there = c.in-Some.ensures.some; open_to = sym c.hold.ensures ∙ c.if-hold.false; own = parts.0; eligible = parts.1 }
