-- A drain of one call: its scheduler lists the volumes, and the budget is spent.
use Rattle.std.proofs.Common.{◌≡◌, ℕ, ◌+◌, List, [], ◌∷◌, Bool, true, false, Some, refl, sym, subst, arith}
use Rattle.std.specs.Prelude.{map}
use Rattle.kube_objects.specs.declared.key.Key.{Key}
use Rattle.kube_parts.specs.declared.names.Due.{Due}
use Rattle.call_types.specs.declared.entry.Entry.{Entry}
use Rattle.call_types.specs.declared.request.SeatKind.TheVariants as seats
use Rattle.call_types.specs.declared.reply.Reply.{Reply}
use Rattle.binder_model.specs.Due.{IsFirstDue}
use Rattle.binder_model.specs.Told.{own}
use Rattle.binder_model.specs.World.{world}
use Rattle.worker_core.specs.declared.turn.Next.TheVariants as nexts
use Rattle.worker_core.specs.declared.turn.Outcome.TheVariants as outcomes
use Rattle.worker_core.specs.Absorbs.{absorbed, woken}
use Rattle.worker_core.specs.States.{ActorState}
use Rattle.worker_core.specs.Turns.{IsTurn}
use Rattle.actor_rounds.specs.declared.drainers.Drainer.{Drainer}
use Rattle.actor_rounds.specs.Drainers.{HaveNoEntries, StandsWhole, of_kind, seats_of}
use Rattle.actor_rounds.specs.Rounds.{Asks, Ends, Goes, IsReady, IsRound, IsSpent, Runs, Turns, all_pass}
use Rattle.script_text.specs.declared.script.Script.{Script}
use Rattle.script_runs.specs.Parts.{drain_seat}
use Rattle.script_runs.specs.Replays.{IsDrain, first_progress}
use Rattle.attention_law.specs.Begun.{no_caches}
use Rattle.run_examples.specs.Replay.Runs.{giving_scheduler, list_volumes, woken_scheduler}
use Rattle.run_examples.proofs.Replay.Drainers.{agents_at, at_seat, drainers_of, drainers_stand, woken_whole}

-- the actors that come after the budget was spent are woken alone

abbrev woke : Drainer → Drainer
woke d = record d { actor = woken d.actor }

abbrev none_of : List Drainer → Bool
none_of [] = true
none_of (d ∷ ds) = false

spent_round : (past : List Entry) (ds : List Drainer) → IsRound all_pass past 0 ds past 0 (map woke ds) (none_of ds)
spent_round past [] = Ends refl refl
spent_round past (d ∷ ds) = Turns d (woke d) past 0 false refl (IsSpent refl refl refl refl refl) (spent_round past ds)

-- the scheduler after the answer
abbrev after_it : Reply → ActorState
after_it reply = absorbed giving_scheduler no_caches list_volumes (outcomes.Told reply)

abbrev pub call_at : ℕ → Reply → Entry
call_at seat reply = record { seat = seat; kind = seats.Scheduler; request = list_volumes; reply = reply; told = true }

pub gives_list : IsTurn woken_scheduler giving_scheduler (nexts.Call list_volumes)
gives_list = record { call = refl; state = refl }

pub ready_where : (seat : ℕ) (h : List Entry) → own seat h ≡ [] → IsReady seat woken_scheduler h
ready_where seat h none = record { rows = tt; stands = subst (StandsWhole woken_scheduler) (sym none) (woken_whole (of_kind seats.Scheduler)) }

module _ (script : Script) (h : List Entry) (reply : Reply) (none : HaveNoEntries (seats_of (drainers_of script)) h) (first second : Key × Due)
    (due : IsFirstDue script.setup (world script.setup h) (Some first))
    (still : IsFirstDue script.setup (world script.setup (call_at (drain_seat script + 2) reply ∷ h)) (Some second)) where
  ready : IsReady (drain_seat script + 2) woken_scheduler h
  ready = ready_where (drain_seat script + 2) h none.0

  runs : Runs all_pass (drain_seat script + 2) (after_it reply) (call_at (drain_seat script + 2) reply ∷ h) 0 false woken_scheduler h 1
  runs = Asks giving_scheduler (after_it reply) list_volumes reply (omega arith) ready gives_list refl refl (IsSpent refl refl refl refl refl)

  abbrev others : List Drainer
  others = at_seat (of_kind seats.Ops) (drain_seat script + 1) ∷ at_seat (of_kind seats.Binder) (drain_seat script) ∷ at_seat
      (of_kind seats.ClaimProtect) (drain_seat script + 3) ∷ at_seat (of_kind seats.VolumeProtect) (drain_seat script + 4)
      ∷ agents_at (drain_seat script + 5) script.node_names

  abbrev ran : Drainer
  ran = record { seat = drain_seat script + 2; actor = after_it reply }

  round : IsRound all_pass (call_at (drain_seat script + 2) reply ∷ h) 0 (drainers_of script) h 1 (ran ∷ map woke others) false
  round = Turns (at_seat (of_kind seats.Scheduler) (drain_seat script + 2)) ran (call_at (drain_seat script + 2) reply ∷ h) 0 false refl runs
      (spent_round (call_at (drain_seat script + 2) reply ∷ h) others)

  abbrev pub ran_all : List Drainer
  ran_all = ran ∷ map woke others

  pub one_call_drain : IsDrain all_pass script (Some 1) (record (first_progress (Some 1) (drainers_of script)) { past = h })
      (record (first_progress (Some 1) ran_all) { past = call_at (drain_seat script + 2) reply ∷ h; drained = 1 })
  one_call_drain = record {
    past = call_at (drain_seat script + 2) reply ∷ h;
    made = 1;
    budget = 1;
    ran = ran_all;
    raises = refl;
    stand = drainers_stand script h none;
    few = omega arith;
    rounds = Goes first due (omega arith) (ran ∷ map woke others) (call_at (drain_seat script + 2) reply ∷ h) 0 false round (IsSpent second still refl refl refl refl);
    is = refl;
  }
