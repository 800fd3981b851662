-- In the drains of a script an agent is silent only where its node was taken by another.
use Rattle.std.proofs.Common.{◌≡◌, ◌∙◌, ℕ, List, ◌++◌, true, Option, Some, None, refl, sym, ap, subst}
use Rattle.std.specs.Prelude.{option_map, slice_get}
use Rattle.call_types.specs.declared.entry.Entry.{Entry}
use Rattle.call_types.specs.declared.setup.Setup.{Setup}
use Rattle.binder_model.specs.Promises.{IsRunOf}
use Rattle.binder_model.specs.Told.{own}
use Rattle.model_laws.proofs.Lists.{none_some, one}
use Rattle.worker_core.specs.declared.role.Role.{Role}
use Rattle.worker_core.specs.Memories.{Memory, memory_of}
use Rattle.actor_rounds.specs.declared.drainers.Drainer.{Drainer}
use Rattle.actor_rounds.specs.Drainers.{AreSeats, agent_of, roles_of, seats_of}
use Rattle.actor_rounds.specs.Longer.{IsOneOf}
use Rattle.actor_rounds.specs.Rounds.{Drains, Goes, IsSpent, NothingDue, all_pass}
use Rattle.actor_rounds.proofs.DrainFacts.{drains_grow}
use Rattle.actor_rounds.proofs.RoundFacts.{round_seats}
use Rattle.settle_alike.proofs.Alike.Rows.{get_mapped}
use Rattle.settle_progress.specs.Epochs.Silent.{OnlyOvertakenAreSilent, WasOvertaken}
use Rattle.settle_progress.proofs.Epochs.Silent.{rounds_silence_the_overtaken}
use Rattle.settle_progress.proofs.Drains.Paying.{run_of_older}
use Rattle.replay_laws.proofs.Drains.Apart.{Apart, one_at}
use Rattle.replay_laws.proofs.Drains.Remembering.{Remember, round_remembers}
use Rattle.actor_rounds.proofs.RoundFacts.{seat_at as seat_there}
use Rattle.settle_progress.proofs.Epochs.Silent.{overtaken_on}

-- by what was told at these seats, whose actors have these roles
abbrev pub OnlyOvertakenSeats : Setup → List ℕ → List Role → List Entry → Type 0
OnlyOvertakenSeats setup seats roles past = (place seat : ℕ) (node : List ℕ) → slice_get seats place ≡ Some seat
    → slice_get roles place ≡ Some (agent_of node) → (memory_of (agent_of node) (own seat past)).stale ≡ true → WasOvertaken setup past node seat

pub role_there : (ds : List Drainer) (place : ℕ) (d : Drainer) → slice_get ds place ≡ Some d → slice_get (roles_of ds) place ≡ Some d.actor.role
role_there ds place d there = get_mapped (λ (x : Drainer). x.actor.role) ds place ∙ ap (option_map (λ (x : Drainer). x.actor.role)) there

-- of actors that remember what was told there the two are the same
module _ (setup : Setup) (ds : List Drainer) (past : List Entry) (same : Remember ds past) where
  pub as_drainers : OnlyOvertakenSeats setup (seats_of ds) (roles_of ds) past → OnlyOvertakenAreSilent setup ds past
  as_drainers only place d node there role silent = only place d.seat node (seat_there ds place d there) (role_there ds place d there ∙ ap Some role) (ap (λ (m : Memory). m.stale) (sym told) ∙ silent)
    where
      told : d.actor.memory ≡ memory_of (agent_of node) (own d.seat past)
      told = same place d there ∙ ap (λ r. memory_of r (own d.seat past)) role

  pub as_seats : OnlyOvertakenAreSilent setup ds past → OnlyOvertakenSeats setup (seats_of ds) (roles_of ds) past
  as_seats only place seat node at_seat at_role silent = by (slice_get ds place) refl
    where
      by : (x : Option Drainer) → slice_get ds place ≡ x → WasOvertaken setup past node seat
      by None none = none_some (sym (get_mapped (λ (x : Drainer). x.seat) ds place ∙ ap (option_map (λ (x : Drainer). x.seat)) none) ∙ at_seat)
      by (Some d) there = subst (WasOvertaken setup past node) seat_is (only place d node there role_is (ap (λ (m : Memory). m.stale) told ∙ silent))
        where
          seat_is : d.seat ≡ seat
          seat_is = one d.seat seat (sym (seat_there ds place d there) ∙ at_seat)

          role_is : d.actor.role ≡ agent_of node
          role_is = one d.actor.role (agent_of node) (sym (role_there ds place d there) ∙ at_role)

          told : d.actor.memory ≡ memory_of (agent_of node) (own seat past)
          told = same place d there ∙ (ap (λ r. memory_of r (own d.seat past)) role_is ∙ ap (λ n. memory_of (agent_of node) (own n past)) seat_is)

-- and so all of these
pub on_others : (setup : Setup) (seats : List ℕ) (roles : List Role) (newer h past : List Entry) → past ≡ newer ++ h
    → ((seat : ℕ) → IsOneOf seats seat → own seat past ≡ own seat h) → OnlyOvertakenSeats setup seats roles h → OnlyOvertakenSeats setup seats roles past
on_others setup seats roles newer h past are same only place seat node at_seat at_role silent =
    subst (λ es. WasOvertaken setup es node seat) (sym are)
    (overtaken_on setup newer h node seat (ap (own seat) (sym are) ∙ others) (only place seat node at_seat at_role (ap (λ es. (memory_of (agent_of node) es).stale) (sym others) ∙ silent)))
  where
    others : own seat past ≡ own seat h
    others = same seat (one_at seats place seat at_seat)

-- a drain leaves its actors so
module _ (setup : Setup) (seats : List ℕ) (apart : Apart seats) (differ : AreSeats seats) (after : List Drainer) (past : List Entry) (left : ℕ) (run : IsRunOf setup past) where
  ended : (ds : List Drainer) (h : List Entry) → after ≡ ds → past ≡ h → Remember ds h → OnlyOvertakenAreSilent setup ds h → Remember after past × OnlyOvertakenAreSilent setup after past
  ended ds h is at told only = subst (λ xs. Remember xs past × OnlyOvertakenAreSilent setup xs past) (sym is) (subst (λ es. Remember ds es × OnlyOvertakenAreSilent setup ds es) (sym at) (told, only))

  pub drains_keep : (ds : List Drainer) (h : List Entry) (b : ℕ) → seats_of ds ≡ seats → Drains all_pass setup after past left ds h b → Remember ds h
      → OnlyOvertakenAreSilent setup ds h → Remember after past × OnlyOvertakenAreSilent setup after past
  drains_keep ds h b are (NothingDue settled same entries rest) told only = ended ds h same entries told only
  drains_keep ds h b are (IsSpent first due none same entries rest) told only = ended ds h same entries told only
  drains_keep ds h b are (Goes first due some between middle rest whole round more) told only =
      let g = drains_grow all_pass setup after past left between middle rest more in
      let here = run_of_older setup g.longer.added middle past g.longer.are run in
      drains_keep between middle rest (round_seats all_pass middle rest ds h b between whole round ∙ are) more
      (round_remembers all_pass middle rest ds h b between whole round (subst Apart (sym are) apart) told)
      (rounds_silence_the_overtaken setup all_pass ds between h middle b rest whole here (subst AreSeats (sym are) differ) round only)
