use Rattle.script_threads.proofs.Hiring.{crew_asked, crew_done, crew_needs, few_crew}
use Rattle.script_threads.proofs.threads.work_all.Goals as goal

pub run_crew-requires-clause-seats : goal.run_crew-requires-clause-seats
run_crew-requires-clause-seats g c κs within = few_crew c.args.script.now c.args.workers c.args.calls c.in_ok-crew.crew.items c.requires.readable c.in_ok-crew.ensures.crew

pub run_crew-requires-clause-needs : goal.run_crew-requires-clause-needs
run_crew-requires-clause-needs g c κs within = crew_needs c.args.script.now c.args.workers c.args.calls c.in_ok-crew.crew.items c.args.world.past c.in_ok-crew.ensures.crew c.requires.none

pub returns-clause-work : goal.returns-clause-work
returns-clause-work g c =
    crew_done c.args.world.past c.in_ok-world.world.past c.requires.none c.args.script.now c.args.workers c.args.calls c.in_ok-crew.crew.items
    c.in_ok-crew.ensures.crew c.in_ok-world.ensures.does c.in_ok-world.ensures.leaves c.in_ok-world.ensures.others

pub returns-clause-actors : goal.returns-clause-actors
returns-clause-actors g c =
    crew_asked c.args.world.past c.in_ok-world.world.past c.requires.none c.args.script.now c.args.workers c.args.calls c.in_ok-crew.crew.items
    c.in_ok-crew.ensures.crew c.in_ok-world.ensures.does c.in_ok-world.ensures.leaves c.in_ok-world.ensures.others
