use Rattle.std.proofs.Common.{ap}
use Rattle.shared_world.specs.Passes.{AddsNoSeats}
use Rattle.shared_work.specs.Crew.{Each, all_seats}
use Rattle.shared_work.specs.Lines.{DoLines}
use Rattle.shared_work.specs.Seats.{seats_at}
use Rattle.shared_work.specs.Users.{AreOfUsers}
use Rattle.shared_work.proofs.Using.{four_needs, if_ok, of_users}
use Rattle.shared_work.proofs.users.run_users.Goals as goal

pub run_crew-requires-clause-needs : goal.run_crew-requires-clause-needs
run_crew-requires-clause-needs g c κs within =
    four_needs c.user-one.result c.user-two.result c.user-three.result c.user-four.result c.user-one.ensures.seats c.user-two.ensures.seats
    c.user-three.ensures.seats c.user-four.ensures.seats c.in_ok-users.users.items c.in_ok-users.ensures.items c.args.world.past

pub returns-clause-users : goal.returns-clause-users
returns-clause-users g c =
    let users = c.in_ok-users.users.items in
    if_ok
    (λ after. Each (λ user seats. DoLines user.script.now.lines (seats_at c.args.world.past seats) (seats_at after.past seats)) 1 users)
    (λ after. AddsNoSeats (all_seats users) c.args.world.past after.past)
    (λ after. AreOfUsers c.args.script.now.lines after.past)
    c.run_crew.result c.run_crew.ensures.does c.run_crew.ensures.others
    (λ after. of_users c.user-one.result c.user-two.result c.user-three.result c.user-four.result c.user-one.ensures.seats c.user-two.ensures.seats
    c.user-three.ensures.seats c.user-four.ensures.seats users c.in_ok-users.ensures.items
    (λ user. user.script.now.lines) c.args.script.now.lines (ap (λ s. s.lines) c.user-one.ensures.script)
    (ap (λ s. s.lines) c.user-two.ensures.script) (ap (λ s. s.lines) c.user-three.ensures.script) (ap (λ s. s.lines) c.user-four.ensures.script) c.args.world.past after.past c.requires)
