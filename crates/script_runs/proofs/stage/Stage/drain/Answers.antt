use Rattle.std.proofs.Common.{◌≡◌, ◌+◌, ◌-◌, ap, refl, subst, sym, arith, List, ℕ}
use Rattle.world_core.specs.Kept.{History}
use Rattle.actor_rounds.specs.declared.drainers.Drainer.{Drainer}
use Rattle.actor_rounds.specs.Drainers.{AreStanding}
use Rattle.actor_rounds.specs.Rounds.{EndsWith, made_of}
use Rattle.script_runs.specs.Budget.{raised}
use Rattle.script_runs.specs.Steps.Settled.{IsNoted}
use Rattle.script_runs.proofs.Casting.{drains_after}
use Rattle.script_runs.proofs.Moving.{budget_after, most_of, room_in}
use Rattle.script_runs.proofs.Staging.{drain_moved}
use Rattle.script_runs.proofs.stage.Stage.drain.Goals as goal

pub raised-budget-requires : goal.raised-budget-requires
raised-budget-requires c = most_of c.args.option c.args.self.now.budget c.requires.stands.stands.most

pub overflow_sub-left : goal.overflow_sub-left
overflow_sub-left c =
    let stands = c.requires.stands.stands in
    let w = c.world.result.now in
    room_in c.args.option w.setup w.past c.args.self.now.drained c.args.self.now.budget c.raised-budget.result stands.few stands.most c.raised-budget.ensures.value c.raised-budget.ensures.more

pub drain_on-requires-clause-stands : goal.drain_on-requires-clause-stands
drain_on-requires-clause-stands c =
    let stands = c.requires.stands.stands in
    let s = c.args.self.now in
    subst (λ (ds : List Drainer). AreStanding ds s.world.past) (sym stands.drainers) (subst (AreStanding c.requires.stands.progress.drainers) (sym stands.past) stands.standing)

pub drain_on-requires-clause-noted : goal.drain_on-requires-clause-noted
drain_on-requires-clause-noted c = c.requires.stands.stands.settled

pub overflow_add-self : goal.overflow_add-self
overflow_add-self c =
    let stands = c.requires.stands.stands in
    let w = c.world.result.now in
    let room = room_in c.args.option w.setup w.past c.args.self.now.drained c.args.self.now.budget c.raised-budget.result stands.few stands.most
    c.raised-budget.ensures.value c.raised-budget.ensures.more in
    omega (arith, room, c.in_ok-drained.ensures.few, c.made_in.ensures)

pub returns-clause-moved : goal.returns-clause-moved
returns-clause-moved c =
    let stands = c.requires.stands.stands in
    let s = c.args.self.now in
    let w = c.world.result.now in
    let d = c.in_ok-drained.drained in
    let raises = c.raised-budget.ensures.value in
    let left = c.raised-budget.result - s.drained in
    let ends = subst (λ (h : History). EndsWith h.setup h.past left d) (sym c.world-2.ensures.value) c.in_ok-drained.ensures.ends in
    let noted = subst (λ (h : History). IsNoted h.setup h.past c.settled_at-self.result) c.world-2.ensures.value (c.settled_at-self.ensures left ends) in
    drain_moved c.args.script.now c.args.option s _ (made_of d) (drains_after c.args.script.now) (record {
      budget = subst (λ (h : History). c.raised-budget.result ≡ raised c.args.option h.setup h.past s.budget) c.world.ensures.value raises;
      rounds = c.in_ok-drained.ensures.rounds;
      others = c.drain_on.ensures.others;
      few = c.in_ok-drained.ensures.few;
      standing = c.in_ok-drained.ensures.stands;
      setup = c.drain_on.ensures.setup;
      players = refl;
      drained = ap (λ n. s.drained + n) c.made_in.ensures;
      room = room_in c.args.option w.setup w.past s.drained s.budget c.raised-budget.result stands.few stands.most raises c.raised-budget.ensures.more;
      most = budget_after c.args.option w.setup w.past s.budget c.raised-budget.result raises c.raised-budget.ensures.most;
      settled = noted;
    })

pub returns-clause-ends : goal.returns-clause-ends
returns-clause-ends c =
    let s = c.args.self.now in
    let d = c.in_ok-drained.drained in
    let budget = c.raised-budget.result in
    let left : budget - s.drained ≡ budget - (s.drained + c.made_in.result - made_of d) = omega (arith, c.made_in.ensures) in
    subst (λ (n : ℕ). EndsWith c.drain_on.new.world.setup c.drain_on.new.world.past n d) left c.in_ok-drained.ensures.ends

pub returns-clause-made : goal.returns-clause-made
returns-clause-made c = omega (arith, c.made_in.ensures)
