use Rattle.std.proofs.Common.{◌∙◌, ◌-◌, refl, subst, arith, List, Option, Some, None, ℕ}
use Rattle.call_types.specs.declared.setup.Setup.{Setup}
use Rattle.binder_model.specs.Promises.{IsRunOf}
use Rattle.world_core.specs.Kept.{History}
use Rattle.world_core.specs.declared.drained.Drained.{Drained}
use Rattle.actor_rounds.specs.Drainers.{AreSeats, seats_of}
use Rattle.actor_rounds.specs.Longer.{HasGrown, IsLonger, IsOneOf}
use Rattle.actor_rounds.specs.Rounds.{EndsHere, Goes, made_of}
use Rattle.actor_rounds.proofs.Entries.{grown_others, grown_then, on_err}
use Rattle.actor_rounds.proofs.DrainFacts.{drained_all, drained_longer, drains_none, ends_few}
use Rattle.worker_threads.proofs.Settling.{drain_lasts, drain_settles, drain_short}
use Rattle.worker_threads.proofs.drain.drain.Goals as goal

pub returns-in_err-drained-clause-others : goal.returns-in_err-drained-clause-others
returns-in_err-drained-clause-others c = λ seat other. grown_others _ _ _ c.rounds.invariant.grown seat other

pub returns-in-Some-clause-others : goal.returns-in-Some-clause-others
returns-in-Some-clause-others c = λ seat other. grown_others _ _ _ c.rounds.invariant.grown seat other

pub returns-in-Some-clause-rounds : goal.returns-in-Some-clause-rounds
returns-in-Some-clause-rounds c =
    let i = c.rounds.invariant in
    let budget = c.args.budget in
    let left = c.rounds.left in
    let here = subst (λ (o : Option Drained). EndsHere c.world.result.now.setup c.world.result.now.past budget left o) c.in-Some.is c.in_ok-drained.ensures in
    let there = subst (λ (w : History). EndsHere w.setup w.past budget left (Some c.in-Some.drained)) c.world.ensures.value here in
    let ends = subst (λ (s : Setup). EndsHere s c.rounds.world.past budget left (Some c.in-Some.drained)) i.setup there in
    drained_all c.args.world.now.setup c.args.drainers.now c.rounds.drainers c.args.world.now.past c.rounds.world.past budget left c.in-Some.drained i.drains ends

pub returns-in-Some-clause-entries : goal.returns-in-Some-clause-entries
returns-in-Some-clause-entries c =
    let here = subst (λ (o : Option Drained). EndsHere c.world.result.now.setup c.world.result.now.past c.args.budget c.rounds.left o) c.in-Some.is c.in_ok-drained.ensures in
    let few = ends_few c.world.result.now.setup c.world.result.now.past c.args.budget c.rounds.left c.in-Some.drained here in
    drained_longer c.args.world.now.setup c.args.drainers.now c.rounds.drainers c.args.world.now.past c.rounds.world.past c.args.budget
    (made_of c.in-Some.drained) few (returns-in-Some-clause-rounds c)

pub returns-in-Some-clause-none : goal.returns-in-Some-clause-none
returns-in-Some-clause-none c = λ nothing. drains_none _ _ _ _ _ _ _ _ (returns-in-Some-clause-rounds c) nothing

pub returns-in-Some-clause-lasting : goal.returns-in-Some-clause-lasting
returns-in-Some-clause-lasting c =
    let i = c.rounds.invariant in
    let run = subst (λ (s : Setup). IsRunOf s c.rounds.world.past) i.setup c.world.ensures.of in
    drain_lasts _ _ _ _ _ _ _ (subst AreSeats i.seats c.allocator.ensures) c.requires.stands run

pub returns-in-Some-clause-short : goal.returns-in-Some-clause-short
returns-in-Some-clause-short c =
    let i = c.rounds.invariant in
    let run = subst (λ (s : Setup). IsRunOf s c.rounds.world.past) i.setup c.world.ensures.of in
    drain_short _ _ _ _ _ _ _ (subst AreSeats i.seats c.allocator.ensures) c.requires.stands run

pub returns-in-Some-clause-settles : goal.returns-in-Some-clause-settles
returns-in-Some-clause-settles c =
    let i = c.rounds.invariant in
    let run = subst (λ (s : Setup). IsRunOf s c.rounds.world.past) i.setup c.world.ensures.of in
    let here = subst (λ (o : Option Drained). EndsHere c.world.result.now.setup c.world.result.now.past c.args.budget c.rounds.left o) c.in-Some.is c.in_ok-drained.ensures in
    let there = subst (λ (w : History). EndsHere w.setup w.past c.args.budget c.rounds.left (Some c.in-Some.drained)) c.world.ensures.value here in
    let ends = subst (λ (s : Setup). EndsHere s c.rounds.world.past c.args.budget c.rounds.left (Some c.in-Some.drained)) i.setup there in
    drain_settles _ _ _ _ _ _ _ (subst AreSeats i.seats c.allocator.ensures) c.requires.stands run c.in-Some.drained ends.0 (returns-in-Some-clause-rounds c)

pub returns-in_err-rounded-in-None-clause-others : goal.returns-in_err-rounded-in-None-clause-others
returns-in_err-rounded-in-None-clause-others c = λ seat other.
    c.round.ensures.others seat (λ one. other (subst (λ (seats : List ℕ). IsOneOf seats seat) c.rounds.invariant.seats one)) ∙ grown_others _ _ _ c.rounds.invariant.grown seat other

pub returns-in_err-rounded-in-None-clause-err : goal.returns-in_err-rounded-in-None-clause-err
returns-in_err-rounded-in-None-clause-err c =
    on_err _ c.from_residual-in_err-rounded-in-None.result
    (grown_then (seats_of c.args.drainers.now) c.args.world.now.past c.rounds.world.past c.round.new.desk.past c.rounds.invariant.grown
    (subst (λ (seats : List ℕ). HasGrown seats c.rounds.world.past c.round.new.desk.past) c.rounds.invariant.seats c.in_err-rounded-in-None.ensures.err))

pub returns-in_err-rounded-in-None-clause-users : goal.returns-in_err-rounded-in-None-clause-users
returns-in_err-rounded-in-None-clause-users c = c.round.ensures.users ∙ c.rounds.invariant.users

pub rounds-preserved : goal.rounds-preserved
rounds-preserved c =
    let i = c.rounds.invariant in
    let budget = c.args.budget in
    let made = c.in_ok-rounded-in-None.rounded.made in
    let r = c.in_ok-rounded-in-None.ensures in
    let here = subst (λ (o : Option Drained). EndsHere c.world.result.now.setup c.world.result.now.past budget c.rounds.left o) c.in-None.is c.in_ok-drained.ensures in
    let there = subst (λ (w : History). EndsHere w.setup w.past budget c.rounds.left None) c.world.ensures.value here in
    let ends = subst (λ (s : Setup). EndsHere s c.rounds.world.past budget c.rounds.left None) i.setup there in
    record {
      few = omega (arith, i.few);
      drains = λ after past left more. i.drains after past left
          (Goes ends.1.0 ends.1.1 ends.0 c.round.new.drainers c.round.new.desk.past (c.rounds.left - made) c.in_ok-rounded-in-None.rounded.whole r.round more);
      stands = r.stands;
      seats = r.seats ∙ i.seats;
      roles = r.roles ∙ i.roles;
      setup = r.setup ∙ i.setup;
      grown = grown_then (seats_of c.args.drainers.now) c.args.world.now.past c.rounds.world.past c.round.new.desk.past i.grown
          (record { made = made; longer = subst (λ (seats : List ℕ). IsLonger seats made c.rounds.world.past c.round.new.desk.past) i.seats (r.entries refl) });
      users = c.round.ensures.users ∙ i.users;
      actors = λ before. c.round.ensures.actors (i.actors before);
    }
