-- Each round of a script's drains makes few calls: few objects stand in the worlds of a script.
use Rattle.std.proofs.Common.{◌≡◌, ◌∙◌, ℕ, ◌+◌, ◌-◌, ◌≤◌, List, ◌++◌, append_assoc, length, Option, sym, ap, subst, arith}
use Rattle.std.proofs.lemmas.List.{length-map}
use Rattle.call_types.specs.declared.entry.Entry.{Entry}
use Rattle.call_types.specs.declared.setup.Setup.{Setup}
use Rattle.binder_model.specs.Promises.{IsRunOf}
use Rattle.binder_model.specs.World.{world}
use Rattle.actor_rounds.specs.declared.drainers.Drainer.{Drainer}
use Rattle.actor_rounds.specs.Drainers.{AreSeats, agent_of}
use Rattle.actor_rounds.specs.Rounds.{Drains, Goes, IsSpent, Lets, NothingDue, all_pass}
use Rattle.actor_rounds.proofs.DrainFacts.{drains_grow}
use Rattle.settle_slot.proofs.Slot.Held.{all_holds}
use Rattle.settle_progress.specs.Drains.Settling.{MayDrain}
use Rattle.settle_progress.proofs.Drains.Paying.{run_of_older}
use Rattle.settle_pays.specs.Drains.All.{ImportsAllow}
use Rattle.settle_budget.specs.Drains.Budget.{AreAlwaysInOrder}
use Rattle.settle_round_calls.specs.Rest.ShortRounds.{EachRoundIsShort, HasShortRounds}
use Rattle.settle_round_calls.proofs.Rounds.Drains.{every_drained_round_is_short}
use Rattle.history_laws.specs.Runs.Laws.{IsGivenRun}
use Rattle.replay_laws.proofs.Settles.Given.{given_imports_fit, given_runs_stay_in_order}
use Rattle.script_text.specs.declared.script.Line.{Line}
use Rattle.script_text.specs.declared.script.Line.TheVariants.{Call, Drain, Lose, Restart, Turn}
use Rattle.script_text.specs.declared.script.Script.{Script}
use Rattle.script_runs.specs.Limits.{IsReadable}
use Rattle.script_runs.specs.Parts.{drain_seat}
use Rattle.script_runs.specs.Drains.{AreDrainers}
use Rattle.script_runs.specs.Replays.{AreMoves, IsDrain, IsMove, MoreMoves, NoMoves, Progress, first_progress}
use Rattle.script_runs.proofs.Draining.{all_lines_keep_drainers, lines_keep_drainers, new_ones_are_drainers}
use Rattle.script_threads.specs.Runs.{progress_after}
use Rattle.script_threads.specs.Started.{drain_seat as threads_drain_seat}
use Rattle.script_runs.proofs.Staying.{IsGrown}
use Rattle.replay_laws.specs.Drains.Objects.{HasFewObjectsThroughout}
use Rattle.replay_laws.proofs.Drains.Apart.{seats_differ}
use Rattle.replay_laws.proofs.Drains.Moves.{move_grows, moves_grow}
use Rattle.replay_laws.proofs.Drains.Threaded.{threaded_drainers}
use Rattle.replay_laws.proofs.Drains.Objects.{replayed_objects_are_few, threaded_objects_are_few}
use Rattle.replay_laws.specs.Settles.Short.{DrainIsShort, EachRoundMakesFew, MoveIsShort, MovesAreShort, ReplayedDrainsAreShort, ThreadedDrainsAreShort}
use Rattle.settle_round_calls.proofs.Rounds.Sum.{older_in_order as older_order}

-- ---- earlier parts of a history

run_of_given : (setup : Setup) (past : List Entry) → IsGivenRun setup past → IsRunOf setup past
run_of_given setup past given = record { imports = given.setup_given.passing; short = given.short; run = given.run }

-- at each point the world has short rounds
abbrev AlwaysHasShortRounds : Setup → List Entry → Type 0
AlwaysHasShortRounds setup past = (newer h : List Entry) → past ≡ newer ++ h → HasShortRounds (world setup h)

older_short : (setup : Setup) (newer h past : List Entry) → past ≡ newer ++ h → AlwaysHasShortRounds setup past → AlwaysHasShortRounds setup h
older_short setup newer h past are short more older same = short (newer ++ more) older (are ∙ (ap (λ es. newer ++ es) same ∙ sym (append_assoc newer more older)))

-- so it is where a script that can be read has at most twice its objects
always_short : (script : Script) (past : List Entry) → IsReadable script → HasFewObjectsThroughout script past → AlwaysHasShortRounds script.setup past
always_short script past readable few newer h are = let most = readable.objects in let here = few newer h are in omega (arith, most, here)

imports_allow : (setup : Setup) (past : List Entry) → IsGivenRun setup past → ImportsAllow setup
imports_allow setup past given = record { uids = given_imports_fit setup given.setup_given }

-- ---- a drain

module _ (setup : Setup) (lets : Lets) (after : List Drainer) (past : List Entry) (left : ℕ) (always : AlwaysHasShortRounds setup past) where
  rounds_make_few : (ds : List Drainer) (h : List Entry) (b : ℕ) (drained : Drains lets setup after past left ds h b)
      → EachRoundIsShort lets setup after past left ds h b drained → EachRoundMakesFew lets setup after past left ds h b drained
  rounds_make_few ds h b (NothingDue settled same entries rest) short = tt
  rounds_make_few ds h b (IsSpent first due none same entries rest) short = tt
  rounds_make_few ds h b (Goes first due some between middle rest whole round more) short =
      let g = drains_grow lets setup after past left ds h b (Goes first due some between middle rest whole round more) in
      (short.0 (always g.longer.added h g.longer.are), rounds_make_few between middle rest more short.1)

-- ---- a drain of a script

module _ (script : Script) (first : ℕ) (option : Option ℕ) (before after : Progress) (d : IsDrain all_pass script option before after)
    (are : AreDrainers script first option before)
    (readable : IsReadable script) (allow : ImportsAllow script.setup) (run : IsRunOf script.setup after.past)
    (order : AreAlwaysInOrder script.setup after.past) (always : AlwaysHasShortRounds script.setup after.past) where
  past_is : after.past ≡ d.past
  past_is = ap (λ (p : Progress). p.past) d.is

  run_there : IsRunOf script.setup d.past
  run_there = subst (IsRunOf script.setup) past_is run

  may_begin : MayDrain script.setup before.past before.drainers
  may_begin = record {
    run = let g = drains_grow all_pass script.setup d.ran d.past _ before.drainers before.past _ d.rounds in run_of_older script.setup g.longer.added before.past d.past g.longer.are run_there;
    seats = subst AreSeats (sym are.seats) (seats_differ first script.node_names);
    stand = d.stand;
  }

  few : length before.drainers ≤ 13
  few =
      let roles = ap length are.roles in
      let all = length-map before.drainers (λ (x : Drainer). x.actor.role) in
      let agents = length-map script.node_names agent_of in
      let most = readable.nodes in
      omega (arith, roles, all, agents, most)

  order_there : AreAlwaysInOrder script.setup d.past
  order_there = subst (AreAlwaysInOrder script.setup) past_is order

  always_there : AlwaysHasShortRounds script.setup d.past
  always_there = subst (AlwaysHasShortRounds script.setup) past_is always

  drain_is_short : DrainIsShort script option before after d
  drain_is_short =
      rounds_make_few script.setup all_pass d.ran d.past (d.budget - (before.drained + d.made)) always_there before.drainers before.past (d.budget - before.drained) d.rounds
      (every_drained_round_is_short script.setup all_pass before.drainers d.ran before.past d.past (d.budget - before.drained)
      (d.budget - (before.drained + d.made)) allow may_begin run_there all_holds order_there few d.rounds)

-- ---- the lines

module _ (script : Script) (option : Option ℕ) (readable : IsReadable script) (allow : ImportsAllow script.setup) where
  move_is_short : (line : Line) (now next : Progress) (move : IsMove script option line now next) → IsRunOf script.setup next.past
      → AreAlwaysInOrder script.setup next.past → AlwaysHasShortRounds script.setup next.past → AreDrainers script (drain_seat script) option now
      → MoveIsShort script option line now next move
  move_is_short (Call user request) now next move run order always are = tt
  move_is_short (Lose actor call lost) now next move run order always are = tt
  move_is_short (Restart actor calls) now next move run order always are = tt
  move_is_short (Turn actor calls) now next move run order always are = tt
  move_is_short Drain now next move run order always are = drain_is_short script (drain_seat script) option now next move are readable allow run order always

  moves_are_short : (end : Progress) (lines : List Line) (now : Progress) → IsRunOf script.setup end.past → AreAlwaysInOrder script.setup end.past
      → AlwaysHasShortRounds script.setup end.past → (moves : AreMoves script option end lines now) → AreDrainers script (drain_seat script) option now
      → MovesAreShort script option end lines now moves
  moves_are_short end lines now run order always (NoMoves none same) are = tt
  moves_are_short end lines now run order always (MoreMoves line rest next is move more) are =
      let grown = moves_grow script option end rest next more in (
        move_is_short line now next move (run_of_older script.setup grown.newer next.past end.past grown.are run) (older_order script.setup grown.newer next.past end.past grown.are order)
            (older_short script.setup grown.newer next.past end.past grown.are always) are,
        moves_are_short end rest next run order always more (lines_keep_drainers script (drain_seat script) option line now next move are),
      )

-- ---- replays, and runs on threads

pub replayed_drains_are_short : ReplayedDrainsAreShort
replayed_drains_are_short script option past ending readable given replay = record {
  of_lines = moves_are_short script option readable allow replay.lines_done script.lines (first_progress option replay.drainers)
      (run_of_older script.setup grown.newer replay.lines_done.past replay.end.past grown.are run)
      (older_order script.setup grown.newer replay.lines_done.past replay.end.past grown.are order)
      (older_short script.setup grown.newer replay.lines_done.past replay.end.past grown.are always) replay.moves new;
  of_last = drain_is_short script (drain_seat script) option replay.lines_done replay.end replay.last
      (all_lines_keep_drainers script (drain_seat script) option replay.lines_done script.lines (first_progress option replay.drainers) replay.moves new) readable allow run order always;
}
  where
    allow : ImportsAllow script.setup
    allow = imports_allow script.setup past given

    run : IsRunOf script.setup replay.end.past
    run = subst (IsRunOf script.setup) replay.history (run_of_given script.setup past given)

    order : AreAlwaysInOrder script.setup replay.end.past
    order = subst (AreAlwaysInOrder script.setup) replay.history (given_runs_stay_in_order script.setup past given)

    always : AlwaysHasShortRounds script.setup replay.end.past
    always = subst (AlwaysHasShortRounds script.setup) replay.history (always_short script past readable (replayed_objects_are_few script option past ending given.run replay))

    new : AreDrainers script (drain_seat script) option (first_progress option replay.drainers)
    new = new_ones_are_drainers script (drain_seat script) option (first_progress option replay.drainers) replay.new

    grown : IsGrown replay.lines_done.past replay.end.past
    grown = move_grows script option Drain replay.lines_done replay.end replay.last

pub threaded_drains_are_short : ThreadedDrainsAreShort
threaded_drains_are_short script workers calls option past ending readable given r =
    drain_is_short script (threads_drain_seat workers script) option (progress_after r.worked option r.drainers) r.end r.last (threaded_drainers script workers calls option past ending r) readable
    (imports_allow script.setup past given) (subst (IsRunOf script.setup) r.history (run_of_given script.setup past given))
    (subst (AreAlwaysInOrder script.setup) r.history (given_runs_stay_in_order script.setup past given))
    (subst (AlwaysHasShortRounds script.setup) r.history (always_short script past readable (threaded_objects_are_few script workers calls option past ending given.run r)))
