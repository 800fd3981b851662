-- Each whole round of a drain of a script that begins with something due has an entry that lasts.
use Rattle.std.proofs.Common.{◌≡◌, ◌∙◌, ℕ, ◌+◌, ◌-◌, List, Option, sym, ap, subst}
use Rattle.call_types.specs.declared.entry.Entry.{Entry}
use Rattle.binder_model.specs.Promises.{IsRunOf}
use Rattle.worker_core.specs.declared.role.Role.{Role}
use Rattle.actor_rounds.specs.Drainers.{AreSeats, roles_of, seats_for, seats_of}
use Rattle.actor_rounds.specs.Rounds.{all_pass}
use Rattle.actor_rounds.proofs.DrainFacts.{drains_grow, drains_roles, drains_seats}
use Rattle.settle_progress.specs.Epochs.Silent.{OnlyOvertakenAreSilent}
use Rattle.settle_progress.specs.Drains.Settling.{MayDrain}
use Rattle.settle_progress.proofs.Drains.Drained.{drained_rounds_last}
use Rattle.settle_progress.proofs.Drains.Paying.{run_of_older}
use Rattle.script_text.specs.declared.script.Script.{Script}
use Rattle.script_runs.specs.Parts.{drain_roles}
use Rattle.script_runs.specs.Drains.{AreDrainers}
use Rattle.script_runs.specs.Replays.{IsDrain, Progress}
use Rattle.replay_laws.specs.Drains.Lasting.{DrainLasts}
use Rattle.replay_laws.proofs.Drains.Apart.{seats_apart, seats_differ}
use Rattle.replay_laws.proofs.Drains.Remembering.{Remember}
use Rattle.replay_laws.proofs.Drains.Silent.{OnlyOvertakenSeats, as_drainers, as_seats, drains_keep}

-- of the actors of the drains of a script, whose first seat is this one
abbrev pub AreSilentIfOvertaken : Script → ℕ → List Entry → Type 0
AreSilentIfOvertaken script first past = OnlyOvertakenSeats script.setup (seats_for first script.node_names) (drain_roles script) past

module _ (script : Script) (first : ℕ) (option : Option ℕ) (before after : Progress) (d : IsDrain all_pass script option before after)
    (are : AreDrainers script first option before)
    (run : IsRunOf script.setup after.past) (only : AreSilentIfOvertaken script first before.past) where
  past_is : after.past ≡ d.past
  past_is = ap (λ (p : Progress). p.past) d.is

  run_there : IsRunOf script.setup d.past
  run_there = subst (IsRunOf script.setup) past_is run

  remember : Remember before.drainers before.past
  remember place x there = (d.stand.each place x there).told.memory

  pub silent_ones : OnlyOvertakenAreSilent script.setup before.drainers before.past
  silent_ones =
      as_drainers script.setup before.drainers before.past remember
      (subst (λ (roles : List Role). OnlyOvertakenSeats script.setup (seats_of before.drainers) roles before.past) (sym are.roles)
      (subst (λ (seats : List ℕ). OnlyOvertakenSeats script.setup seats (drain_roles script) before.past) (sym are.seats) only))

  pub may_begin : MayDrain script.setup before.past before.drainers
  may_begin = record {
    run = let g = drains_grow all_pass script.setup d.ran d.past _ before.drainers before.past _ d.rounds in run_of_older script.setup g.longer.added before.past d.past g.longer.are run_there;
    seats = subst AreSeats (sym are.seats) (seats_differ first script.node_names);
    stand = d.stand;
  }

  pub drain_lasts : DrainLasts script option before after d
  drain_lasts = drained_rounds_last script.setup before.drainers d.ran before.past d.past (d.budget - before.drained) (d.budget - (before.drained + d.made)) may_begin silent_ones run_there d.rounds

  -- and the next drain may begin so
  pub drain_keeps : AreSilentIfOvertaken script first after.past
  drain_keeps =
      subst (AreSilentIfOvertaken script first) (sym past_is)
      (subst (λ (seats : List ℕ). OnlyOvertakenSeats script.setup seats (drain_roles script) d.past) seats_are
      (subst (λ (roles : List Role). OnlyOvertakenSeats script.setup (seats_of d.ran) roles d.past) roles_are
      (as_seats script.setup d.ran d.past kept.0 kept.1)))
    where
      kept : Remember d.ran d.past × OnlyOvertakenAreSilent script.setup d.ran d.past
      kept =
          drains_keep script.setup (seats_for first script.node_names) (seats_apart first script.node_names)
          (seats_differ first script.node_names) d.ran d.past (d.budget - (before.drained + d.made)) run_there
          before.drainers before.past (d.budget - before.drained) are.seats d.rounds remember silent_ones

      seats_are : seats_of d.ran ≡ seats_for first script.node_names
      seats_are = drains_seats all_pass script.setup d.ran d.past _ before.drainers before.past _ d.rounds ∙ are.seats

      roles_are : roles_of d.ran ≡ drain_roles script
      roles_are = drains_roles all_pass script.setup d.ran d.past _ before.drainers before.past _ d.rounds ∙ are.roles
