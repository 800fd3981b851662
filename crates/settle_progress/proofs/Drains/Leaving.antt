-- A whole round leaves its drainers so that the next may begin with them.
use Rattle.std.proofs.Common.{◌≡◌, ℕ, zero, suc, List, Bool, true, false, true≢false, Some, refl, sym, subst}
use Rattle.std.specs.Prelude.{slice_get}
use Rattle.std.proofs.lemmas.Bool.{and_parts}
use Rattle.call_types.specs.declared.entry.Entry.{Entry}
use Rattle.binder_model.specs.Told.{own}
use Rattle.model_laws.proofs.Lists.{none_some, one}
use Rattle.worker_core.specs.declared.turn.Next.TheVariants.{Idle}
use Rattle.worker_core.specs.Absorbs.{woken}
use Rattle.worker_core.specs.States.{ActorState}
use Rattle.worker_core.proofs.Turning.{turn_stands}
use Rattle.actor_rounds.specs.declared.drainers.Drainer.{Drainer}
use Rattle.actor_rounds.specs.Drainers.{AreRoles, AreSeats, IsStanding, StandsWhole, seats_of}
use Rattle.actor_rounds.specs.Longer.{HasGrown}
use Rattle.actor_rounds.specs.Rounds.{Asks, Ends, IsHeld, IsIdle, IsRound, IsSpent, Lets, Runs, Turns}
use Rattle.actor_rounds.proofs.Entries.{grown_others}
use Rattle.actor_rounds.proofs.RoundFacts.{round_grows, round_roles, round_seats}
use Rattle.actor_rounds.proofs.Resting.{round_rests}
use Rattle.actor_rounds.proofs.RunFacts.{turned_whole}
use Rattle.settle_progress.proofs.Epochs.Silent.{Differ, not_again, others_differ}
use Rattle.settle_progress.specs.Drains.Settling.{RoundsLeaveDrainers}

-- an actor that was run until it was idle stands whole for the entries of its seat
module _ (lets : Lets) (seat : ℕ) (after : ActorState) (past : List Entry) (left : ℕ) where
  run_whole : (s : ActorState) (h : List Entry) (b : ℕ) → Runs lets seat after past left true s h b → StandsWhole after (own seat past)
  run_whole s h b (IsSpent none state entries rest busy) = absurd (true≢false busy)
  run_whole s h b (IsIdle some ready turn entries rest calm) =
      subst (λ es. StandsWhole after (own seat es)) (sym entries) (turned_whole s after Idle (own seat h) turn (turn_stands s after Idle (own seat h) ready.rows ready.stands.told turn) ready.stands)
  run_whole s h b (Asks given next request reply some ready turn passes absorbs more) = run_whole _ _ _ more
  run_whole s h b (IsHeld given next request some ready turn held absorbs more) = run_whole _ _ _ more

module _ (lets : Lets) (past : List Entry) (left : ℕ) where
  round_stands : (ds : List Drainer) (h : List Entry) (b : ℕ) (after : List Drainer) (whole : Bool) → IsRound lets past left ds h b after whole
      → whole ≡ true → Differ (seats_of ds) → (place : ℕ) (x : Drainer) → slice_get after place ≡ Some x → IsStanding x past
  round_stands _ h b _ _ (Ends entries rest) is_whole differ place x there = none_some there
  round_stands _ h b _ _ (Turns {ds = ds} {after = after} {whole = whole} d ran middle rest idle seat run more) is_whole differ zero x there =
      subst (λ y. IsStanding y past) (one ran x there) (subst (λ n. StandsWhole ran.actor (own n past)) (sym seat) at_end)
    where
      idle_run : Runs lets d.seat ran.actor middle rest true (woken d.actor) h b
      idle_run = subst (λ i. Runs lets d.seat ran.actor middle rest i (woken d.actor) h b) (and_parts idle whole is_whole).0 run

      grown : HasGrown (seats_of ds) middle past
      grown = let g = round_grows lets past left ds middle rest after whole more in record { made = g.made; longer = g.longer }

      at_end : StandsWhole ran.actor (own d.seat past)
      at_end = subst (StandsWhole ran.actor) (sym (grown_others (seats_of ds) middle past grown d.seat (not_again d.seat (seats_of ds) differ)))
          (run_whole lets d.seat ran.actor middle rest (woken d.actor) h b idle_run)
  round_stands _ h b _ _ (Turns {ds = ds} {after = after} {whole = whole} d ran middle rest idle seat run more) is_whole differ (suc place) x there =
      round_stands ds middle rest after whole more (and_parts idle whole is_whole).1 (others_differ d.seat (seats_of ds) differ) place x there

pub rounds_leave_drainers : RoundsLeaveDrainers
rounds_leave_drainers setup lets ds after h past b left may run round =
    let seats = round_seats lets past left ds h b after true round in
    let roles = round_roles lets past left ds h b after true round in (
      record {
        run = run;
        seats = subst AreSeats (sym seats) may.seats;
        stand = record { each = round_stands lets past left ds h b after true round refl may.seats.differ; roles = subst AreRoles (sym roles) may.stand.roles };
      },
      round_rests lets past left ds h b after true round refl,
    )
