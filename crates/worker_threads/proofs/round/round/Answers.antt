use Rattle.std.proofs.Common.{◌≡◌, ◌-◌, ◌≤◌, subst, arith, ℕ}
use Rattle.actor_rounds.specs.Answers.Answered.{Lets}
use Rattle.actor_rounds.specs.Drainers.{AreSeats}
use Rattle.actor_rounds.specs.Rounds.{IsRound, round_of}
use Rattle.actor_rounds.proofs.Entries.{grown_others}
use Rattle.actor_rounds.proofs.Resting.{round_rests}
use Rattle.actor_rounds.proofs.RoundFacts.{round_grows, round_left, round_longer, round_part}
use Rattle.worker_threads.proofs.Settling.{round_lasts, round_short}
use Rattle.worker_threads.proofs.round.round.Goals as goal

pub returns-in_err-ran-clause-others : goal.returns-in_err-ran-clause-others
returns-in_err-ran-clause-others g c = λ seat other.
    grown_others _ _ _ c.turns.ensures.grown seat other

pub overflow_sub-result : goal.overflow_sub-result
overflow_sub-result g c = round_left _ _ _ _ _ _ _ _ c.in_ok-ran.ensures.round

pub returns-clause-round : goal.returns-clause-round
returns-clause-round g c =
    let low : c.in_ok-ran.ran.left ≤ c.args.budget = round_left _ _ _ _ _ _ _ _ c.in_ok-ran.ensures.round in
    let rest : c.in_ok-ran.ran.left ≡ c.args.budget - (c.args.budget - c.in_ok-ran.ran.left) = omega arith in
    subst (λ (n : ℕ). IsRound (g.W.Answers.lets c.args.desk.now) (g.W.Answers.past c.turns.new.desk) n c.args.drainers.now
    (g.W.Answers.past c.args.desk.now) c.args.budget c.turns.new.drainers c.in_ok-ran.ran.idle) rest
    c.in_ok-ran.ensures.round

pub returns-clause-within : goal.returns-clause-within
returns-clause-within g c =
    round_grows _ _ _ _ _ _ _ _ c.in_ok-ran.ensures.round

pub returns-clause-entries : goal.returns-clause-entries
returns-clause-entries g c = λ passes.
    let round = subst (λ (l : Lets). IsRound l (g.W.Answers.past c.turns.new.desk) c.in_ok-ran.ran.left c.args.drainers.now
    (g.W.Answers.past c.args.desk.now) c.args.budget c.turns.new.drainers c.in_ok-ran.ran.idle) passes c.in_ok-ran.ensures.round in
    round_longer _ _ _ _ _ _ _ round

pub returns-clause-others : goal.returns-clause-others
returns-clause-others g c = λ seat other.
    grown_others _ _ _ c.turns.ensures.grown seat other

pub returns-clause-part : goal.returns-clause-part
returns-clause-part g c = λ not. let none : c.in_ok-ran.ran.left ≡ 0 = round_part _ _ _ _ _ _ _ _ c.in_ok-ran.ensures.round not in omega arith

pub returns-clause-rests : goal.returns-clause-rests
returns-clause-rests g c = λ whole. round_rests _ _ _ _ _ _ _ _ c.in_ok-ran.ensures.round whole

pub returns-clause-lasting : goal.returns-clause-lasting
returns-clause-lasting g c = λ whole.
    round_lasts (g.W.Answers.setup c.args.desk.now) _ (round_of c.in_ok-ran.ensures.round) (subst AreSeats c.turns.ensures.seats c.turns.ensures.differ) c.requires.stands whole

pub returns-clause-short : goal.returns-clause-short
returns-clause-short g c =
    round_short (g.W.Answers.setup c.args.desk.now) _ (round_of c.in_ok-ran.ensures.round) (subst AreSeats c.turns.ensures.seats c.turns.ensures.differ) c.requires.stands
