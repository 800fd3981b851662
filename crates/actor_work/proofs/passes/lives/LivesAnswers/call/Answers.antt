use Rattle.std.proofs.Common.{◌≡◌, ◌<◌, ◌-◌, ◌+◌, ◌∙◌, refl, sym, ap, subst, subst₂, arith, ℕ, List, ◌∷◌, length, []}
use Rattle.call_types.specs.declared.entry.Entry.{Entry}
use Rattle.binder_model.specs.Licence.{Licensed}
use Rattle.binder_model.specs.Told.{own}
use Rattle.actor_work.specs.Lives.Lived.{known_by_all}
use Rattle.actor_work.specs.Lives.Order.{HasSeenEarlier}
use Rattle.actor_work.proofs.Lives.Living.{goes_on, same_lives, same_served}
use Rattle.actor_work.proofs.passes.lives.LivesAnswers.call.Goals as goal

pub take_over-requires-clause-lives : goal.take_over-requires-clause-lives
take_over-requires-clause-lives g c = c.requires.serves.0

pub take_over-requires-clause-reached : goal.take_over-requires-clause-reached
take_over-requires-clause-reached g c = c.requires.serves.1.seen

pub take_over-requires-clause-place : goal.take_over-requires-clause-place
take_over-requires-clause-place g c =
    let l = c.args.self.now in
    let low = c.requires.serves.2 in
    let high = c.requires.serves.3 in
    (goes_on l.shared.now l.made l.first l.at c.args.seat l.passes.items c.requires.serves c.requires.latest, omega (arith, low, high))

pub ask-requires-clause-lives : goal.ask-requires-clause-lives
ask-requires-clause-lives g c =
    let l = c.args.self.now in
    let m = c.take_over.new.self in
    let lent = c.take_over.ensures.lent in
    same_lives l.shared.now m.shared.now l.made m.made l.first m.first m.passes.items (ap (λ s. s.now) lent.0) lent.1 lent.2 c.take_over.ensures.lives

pub ask-requires-clause-reached : goal.ask-requires-clause-reached
ask-requires-clause-reached g c =
    let m = c.take_over.new.self in
    let lent = c.take_over.ensures.lent in
    subst₂ (λ (f : ℕ) (a : ℕ). HasSeenEarlier f a (known_by_all m.passes.items)) (sym lent.2) (sym lent.3) c.take_over.ensures.reached

pub ask-requires-clause-seat : goal.ask-requires-clause-seat
ask-requires-clause-seat g c =
    let lent = c.take_over.ensures.lent in
    let first = lent.2 in
    let at = lent.3 in
    let long = c.take_over.ensures.long in
    let low = c.requires.serves.2 in
    let high = c.requires.serves.3 in
    (omega (arith, first, at, low), omega (arith, at, long, low, high))

pub ask-requires-clause-latest : goal.ask-requires-clause-latest
ask-requires-clause-latest g c = λ other more below.
    let served = c.requires.serves in
    let low = served.2 in
    let first = c.take_over.ensures.lent.2 in
    let long = c.take_over.ensures.long in
    ap (own other) c.take_over.ensures.past ∙ c.requires.latest other (served.0, served.1, omega (arith, low, more), omega (arith, below, first, long)) more

pub ask-requires-clause-licensed : goal.ask-requires-clause-licensed
ask-requires-clause-licensed g c =
    subst (λ (past : List Entry). Licensed c.args.ask.now.kind (own c.args.seat past) c.args.ask.now.request) (sym c.take_over.ensures.past) c.requires.licensed

pub returns-clause-answered : goal.returns-clause-answered
returns-clause-answered g c =
    let answered = c.in_ok-reply.ensures.answered in
    let e : Entry = record { seat = c.args.seat; kind = c.args.ask.now.kind; request = c.args.ask.now.request; reply = c.in_ok-reply.reply; told = c.args.told } in
    (answered.0, answered.1 ∙ ap (λ (past : List Entry). e ∷ past) c.take_over.ensures.past)

pub returns-clause-serves : goal.returns-clause-serves
returns-clause-serves g c = λ other there.
    let m = c.take_over.new.self in
    let n = c.ask.new.self in
    let lent = c.take_over.ensures.lent in
    let then_lent = c.ask.ensures.lent in
    let served = same_served m.shared.now n.shared.now m.made n.made m.first n.first m.at n.at n.passes.items c.args.seat
    (ap (λ s. s.now) then_lent.0) then_lent.1 then_lent.2 then_lent.3 c.in_ok-reply.ensures.served in
    let low = there.2 in
    let high = there.3 in
    let first = lent.2 in
    let then_first = then_lent.2 in
    let long = c.take_over.ensures.long in
    let then_long = c.ask.ensures.long in
    (served.0, served.1, omega (arith, low, first, then_first), omega (arith, high, first, then_first, long, then_long))

pub returns-clause-orders : goal.returns-clause-orders
returns-clause-orders g c = λ other there.
    let lent = c.take_over.ensures.lent in
    let then_lent = c.ask.ensures.lent in
    let low = there.2 in
    let high = there.3 in
    let first = lent.2 in
    let then_first = then_lent.2 in
    let long = c.take_over.ensures.long in
    let then_long = c.ask.ensures.long in
    (c.requires.serves.0, c.requires.serves.1, omega (arith, low, first, then_first), omega (arith, high, first, then_first, long, then_long))
