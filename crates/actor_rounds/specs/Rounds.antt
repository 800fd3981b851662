-- How actors are run on a world: one actor until it is idle or the budget of calls is spent; a round of all of them; and
-- rounds while something is due. Some calls may be held back from the world. The newest entry of a history stands first.
-- A choice of this project.
use Rattle.std.specs.Prelude.{ℕ, ◌≡◌, ◌<◌, ◌+◌, ◌-◌, Bool, true, false, ◌&&◌, List, [], ◌∷◌, Option, Some, None}
use Rattle.kube_objects.specs.declared.key.Key.{Key}
use Rattle.kube_parts.specs.declared.names.Due.{Due}
use Rattle.kube_objects.specs.Keys.{AreRows}
use Rattle.call_types.specs.declared.entry.Entry.{Entry}
use Rattle.call_types.specs.declared.request.Request.{Request}
use Rattle.call_types.specs.declared.reply.Reply.{Reply}
use Rattle.call_types.specs.declared.setup.Setup.{Setup}
use Rattle.binder_model.specs.World.{world}
use Rattle.world_core.specs.declared.drained.Drained.{Drained}
use Rattle.world_core.specs.declared.drained.Drained.TheVariants.{Settled, Spent}
use Rattle.binder_model.specs.Due.{IsFirstDue, IsSettled}
use Rattle.binder_model.specs.Told.{own}
use Rattle.informer_cache.specs.All.{all_objects}
pub use Rattle.actor_rounds.specs.Answers.Answered.{Lets, all_pass}
use Rattle.worker_core.specs.declared.turn.Next.TheVariants.{Call, Idle}
use Rattle.worker_core.specs.declared.turn.Outcome.TheVariants.{Lost, Told}
use Rattle.worker_core.specs.Absorbs.{absorbed, woken}
use Rattle.worker_core.specs.States.{ActorState}
use Rattle.worker_core.specs.Turns.{IsTurn}
use Rattle.actor_rounds.specs.declared.drainers.Drainer.{Drainer}
use Rattle.actor_rounds.specs.Drainers.{StandsWhole}
use Rattle.actor_rounds.specs.Longer.{IsOneOf}

-- the entry of an actor's call, whose answer was told
abbrev pub told_entry : ℕ → ActorState → Request → Reply → Entry
told_entry seat s request reply = record { seat = seat; kind = s.role.kind; request = request; reply = reply; told = true }

-- each of these seats is answered
abbrev pub ServesSeats : (ℕ → Type 0) → List ℕ → Type 0
ServesSeats Serves seats = (seat : ℕ) → IsOneOf seats seat → Serves seat

-- no seat is answered in an order
abbrev pub OrdersNone : (ℕ → Type 0) → Type 0
OrdersNone Orders = (seat : ℕ) → Orders seat → ⊥

-- before each turn the caches have their rows in order, and the actor stands whole for the entries of its seat: so what it
-- decides rests on what the seat was told, and on nothing else
pub record IsReady (seat : ℕ) (s : ActorState) (h : List Entry) : Type 0 where
  pub rows : AreRows (all_objects s.caches)
  pub stands : StandsWhole s (own seat h)

-- the actor is run at its seat until it is idle or the budget is spent: from a state, some entries and a budget to the
-- state `after` and the entries `past`, with so many calls left, and idle or not. A call that is held back counts, leaves no
-- entry, and is lost to the actor
pub data Runs (lets : Lets) (seat : ℕ) (after : ActorState) (past : List Entry) (left : ℕ) (idle : Bool) : ActorState → List Entry → ℕ → Type 0 where
  IsSpent : {s : ActorState} {h : List Entry} {b : ℕ} → b ≡ 0 → after ≡ s → past ≡ h → left ≡ b → idle ≡ false → Runs lets seat after past left idle s h b
  IsIdle : {s : ActorState} {h : List Entry} {b : ℕ} → 0 < b → IsReady seat s h → IsTurn s after Idle → past ≡ h → left ≡ b → idle ≡ true → Runs lets seat after past left idle s h b
  Asks : {s : ActorState} {h : List Entry} {b : ℕ} (given next : ActorState) (request : Request) (reply : Reply) → 0 < b → IsReady seat s h → IsTurn s given (Call request) → lets h request ≡ true
      → next ≡ absorbed given next.caches request (Told reply) → Runs lets seat after past left idle next (told_entry seat given request reply ∷ h) (b - 1) → Runs lets seat after past left idle s h b
  IsHeld : {s : ActorState} {h : List Entry} {b : ℕ} (given next : ActorState) (request : Request) → 0 < b → IsReady seat s h → IsTurn s given (Call request) → lets h request ≡ false
      → next ≡ absorbed given next.caches request Lost → Runs lets seat after past left idle next h (b - 1) → Runs lets seat after past left idle s h b

-- each actor in its turn is woken and run, with what the others have left of the budget. The round is whole where each was
-- idle at the end of its turn
pub data IsRound (lets : Lets) (past : List Entry) (left : ℕ) : List Drainer → List Entry → ℕ → List Drainer → Bool → Type 0 where
  Ends : {h : List Entry} {b : ℕ} → past ≡ h → left ≡ b → IsRound lets past left [] h b [] true
  Turns : {h : List Entry} {b : ℕ} {ds after : List Drainer} {whole : Bool} (d ran : Drainer) (middle : List Entry) (rest : ℕ) (idle : Bool)
      → ran.seat ≡ d.seat → Runs lets d.seat ran.actor middle rest idle (woken d.actor) h b → IsRound lets past left ds middle rest after whole
      → IsRound lets past left (d ∷ ds) h b (ran ∷ after) (idle && whole)

-- a round: the drainers, entries and budget with which it starts, and those with which it ends
pub record RoundOf (lets : Lets) : Type 0 where
  pub drainers : List Drainer
  pub start : List Entry
  pub budget : ℕ
  pub after : List Drainer
  pub past : List Entry
  pub left : ℕ
  pub whole : Bool
  pub is_round : IsRound lets past left drainers start budget after whole

-- the round that is shown to be one
abbrev pub round_of : {lets : Lets} {ds after : List Drainer} {h past : List Entry} {b left : ℕ} {whole : Bool} → IsRound lets past left ds h b after whole → RoundOf lets
round_of {ds = ds} {after = after} {h = h} {past = past} {b = b} {left = left} {whole = whole} is =
    record { drainers = ds; start = h; budget = b; after = after; past = past; left = left; whole = whole; is_round = is }

-- rounds are made while something is due and the budget is not spent
pub data Drains (lets : Lets) (setup : Setup) (after : List Drainer) (past : List Entry) (left : ℕ) : List Drainer → List Entry → ℕ → Type 0 where
  NothingDue : {ds : List Drainer} {h : List Entry} {b : ℕ} → IsSettled setup (world setup h) → after ≡ ds → past ≡ h → left ≡ b → Drains lets setup after past left ds h b
  IsSpent : {ds : List Drainer} {h : List Entry} {b : ℕ} (first : Key × Due) → IsFirstDue setup (world setup h) (Some first) → b ≡ 0 → after ≡ ds
      → past ≡ h → left ≡ b → Drains lets setup after past left ds h b
  Goes : {ds : List Drainer} {h : List Entry} {b : ℕ} (first : Key × Due) → IsFirstDue setup (world setup h) (Some first) → 0 < b
      → (between : List Drainer) (middle : List Entry) (rest : ℕ) (whole : Bool) → IsRound lets middle rest ds h b between whole
      → Drains lets setup after past left between middle rest → Drains lets setup after past left ds h b

-- how many calls a drain has made
abbrev pub made_of : Drained → ℕ
made_of (Settled made) = made
made_of (Spent made key due) = made

-- how a drain ends: settled where nothing is due, else with the budget spent and the first that is due
abbrev pub EndsWith : Setup → List Entry → ℕ → Drained → Type 0
EndsWith setup past budget (Settled made) = IsSettled setup (world setup past)
EndsWith setup past budget (Spent made key due) = (made ≡ budget) × IsFirstDue setup (world setup past) (Some (key, due))

-- what a drain finds between two rounds: it ends here, having made what is not left; or something is due, and calls are left
abbrev pub EndsHere : Setup → List Entry → ℕ → ℕ → Option Drained → Type 0
EndsHere setup past budget left (Some drained) = EndsWith setup past budget drained × (left + made_of drained ≡ budget)
EndsHere setup past budget left None = (0 < left) × ((first : Key × Due) × IsFirstDue setup (world setup past) (Some first))
