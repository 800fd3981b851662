use Rattle.std.proofs.Common.{subst, sym, ◌∙◌, List, All}
use Rattle.std.proofs.lemmas.List.Elements.{recursion_from_All}
use Rattle.call_types.specs.declared.entry.Entry.{Entry}
use Rattle.seat_lock.specs.Passes.{number_of}
use Rattle.shared_world.specs.Passes.{IsFirst, IsIn, IsOf}
use Rattle.actor_turns.specs.Parts.{lives_of}
use Rattle.actor_turns.specs.Steps.Playing.{SomePlays}
use Rattle.actor_work.proofs.Work.Firsts.{all_of}
use Rattle.shared_work.specs.Seats.{AreKept, seats_of}
use Rattle.actor_work.specs.Crew.Acting.{HasActed}
use Rattle.actor_work.proofs.Crew.Ordering.{lives_in_order, unused_lives}
use Rattle.actor_work.proofs.Crew.Seating.{are_kept, has_acted, unused}
use Rattle.actor_work.proofs.members.actor.ActorCallsWorker.work.Goals as goal

pub work-requires-clause-lives : goal.work-requires-clause-lives
work-requires-clause-lives g c =
    let x = c.args.self.player in
    let passes = c.args.passes.items in
    let new = recursion_from_All (λ p. IsFirst c.args.shared.now c.args.made (number_of p) p) passes c.requires.new in
    unused_lives c.args.shared.now c.args.made x.part.first (lives_of x.part) passes new
    (unused c.args.shared.now c.args.made x.part.first (lives_of x.part) passes new c.requires.needs.before_is)

pub work-requires-clause-many : goal.work-requires-clause-many
work-requires-clause-many g c =
    let x = c.args.self.player in
    let passes = c.args.passes.items in
    let new = recursion_from_All (λ p. IsFirst c.args.shared.now c.args.made (number_of p) p) passes c.requires.new in
    (unused c.args.shared.now c.args.made x.part.first (lives_of x.part) passes new c.requires.needs.before_is).many_are

pub work-requires-clause-plays : goal.work-requires-clause-plays
work-requires-clause-plays g c =
    let x = c.args.self.player in
    let passes = c.args.passes.items in
    let new = recursion_from_All (λ p. IsFirst c.args.shared.now c.args.made (number_of p) p) passes c.requires.new in
    let none = (unused c.args.shared.now c.args.made x.part.first (lives_of x.part) passes new c.requires.needs.before_is).none in
    subst (λ (es : List Entry). SomePlays x es) (sym none) c.requires.needs.plays

pub returns-clause-of : goal.returns-clause-of
returns-clause-of g c =
    let w = c.in_ok-worked in
    subst (λ (v : _). All (IsOf c.args.shared.now) v.items) (sym c.into_parts-lives.ensures.0)
    (all_of c.args.shared.now c.args.made c.args.self.player.part.first w.worked.lives.items w.ensures.lives.each)

pub returns-clause-kept : goal.returns-clause-kept
returns-clause-kept g c =
    let x = c.args.self.player in
    let passes = c.args.passes.items in
    let w = c.in_ok-worked in
    let new = recursion_from_All (λ p. IsFirst c.args.shared.now c.args.made (number_of p) p) passes c.requires.new in
    let before = unused c.args.shared.now c.args.made x.part.first (lives_of x.part) passes new c.requires.needs.before_is in
    subst (λ (v : _). AreKept passes v.items) (sym c.into_parts-lives.ensures.0)
    (are_kept c.args.shared.now c.args.made x.part.first passes w.worked.lives.items before.lives w.ensures.lives.each w.ensures.many)

pub returns-clause-does : goal.returns-clause-does
returns-clause-does g c =
    let x = c.args.self.player in
    let passes = c.args.passes.items in
    let w = c.in_ok-worked in
    let new = recursion_from_All (λ p. IsFirst c.args.shared.now c.args.made (number_of p) p) passes c.requires.new in
    let before = unused c.args.shared.now c.args.made x.part.first (lives_of x.part) passes new c.requires.needs.before_is in
    subst (λ (v : _). HasActed x.actor.role x.part c.args.self.calls (seats_of v.items)) (sym c.into_parts-lives.ensures.0)
    (has_acted c.args.shared.now c.args.made x w.worked.player c.args.self.calls passes w.worked.lives.items c.requires.needs before w.ensures.lives.each
    w.ensures.many w.ensures.part w.ensures.held w.ensures.calls w.ensures.whole w.ensures.each w.ensures.actors)

pub returns-clause-leaves : goal.returns-clause-leaves
returns-clause-leaves g c =
    let x = c.args.self.player in
    let passes = c.args.passes.items in
    let w = c.in_ok-worked in
    let new = recursion_from_All (λ p. IsFirst c.args.shared.now c.args.made (number_of p) p) passes c.requires.new in
    let before = unused c.args.shared.now c.args.made x.part.first (lives_of x.part) passes new c.requires.needs.before_is in
    record {
      in_each = λ past in_past. lives_in_order c.args.shared.now c.args.made x.part w.worked.lives.items w.ensures.lives (w.ensures.many ∙ before.many_are) past
          (subst (λ (v : _). All (IsIn past) v.items) c.into_parts-lives.ensures.0 in_past);
    }
