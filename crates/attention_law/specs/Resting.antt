-- What a life has done since it was last idle and was woken, or since it began. Each call of it was needed; and where it is
-- idle again, nothing that it was told is left to be called for. The newest call stands first.
-- A choice of this project, after the informers and the work queue of a controller in client-go.
use Rattle.std.specs.Prelude.{◌≡◌, ◌⊎◌, nat_lt, not, Bool, true, false, ◌&&◌, List, [], ◌∷◌, ◌++◌, Some, None, length, ⊤, if◌then◌else◌}
use Rattle.std.specs.List.{list_any}
use Rattle.kube_objects.specs.declared.key.Key.{Key}
use Rattle.kube_parts.specs.declared.parts.Kind.{Kind}
use Rattle.kube_objects.specs.Keys.{same_key}
use Rattle.call_types.specs.declared.entry.Entry.{Entry}
use Rattle.call_types.specs.declared.request.Request.{Request}
use Rattle.call_types.specs.declared.request.Request.TheVariants as requests
use Rattle.call_types.specs.declared.request.SeatKind.{SeatKind}
use Rattle.call_types.specs.declared.request.SeatKind.TheVariants as seats
use Rattle.call_types.specs.declared.reply.Reply.{Reply}
use Rattle.call_types.specs.Kinds.{reads_kind}
use Rattle.binder_model.specs.Told.{SomeOf}
use Rattle.informer_cache.specs.Cache.{IsTold, keys_in}
use Rattle.worker_core.specs.declared.role.Role.{Role}
use Rattle.worker_core.specs.declared.turn.Next.TheVariants as nexts
use Rattle.worker_core.specs.declared.turn.Outcome.TheVariants as outcomes
use Rattle.worker_core.specs.declared.turn.Pass.{Pass}
use Rattle.worker_core.specs.Absorbs.{pass_after, woken}
use Rattle.worker_core.specs.Memories.{is_stale_told}
use Rattle.worker_core.specs.Roles.{IsBuiltKind, kinds_of}
use Rattle.worker_core.specs.Stands.{IsNew, StandsFor}
use Rattle.worker_core.specs.States.{ActorState}
use Rattle.attention_law.specs.Diligence.{Call, IsAskedFor, IsDueThroughout, entries}
use Rattle.attention_law.specs.Played.{PlaysCall, IsPlayed, Turns}

-- passes

-- no kind is behind it, and no event came
abbrev pub new_pass : Pass
new_pass = record { behind = 0; event = false }

-- each kind that such an actor follows is behind the pass
abbrev pub is_whole : SeatKind → Pass → Bool
is_whole kind pass = not (nat_lt pass.behind (length (kinds_of kind)))

-- the pass that the next watch is of: a new one where the last brought an event and is whole
abbrev pub next_pass : SeatKind → Pass → Pass
next_pass kind pass = if pass.event && is_whole kind pass then new_pass else pass

-- the request is a watch
abbrev pub is_watch : Request → Bool
is_watch (requests.Watch kind from) = true
is_watch request = false

-- the answer to a watch leads the pass on; any other call, and one whose answer was lost, leaves it
abbrev pub pass_with : SeatKind → Entry → Pass → Pass
pass_with kind e pass = if e.told && is_watch e.request then pass_after (next_pass kind pass) true e.request e.reply else pass

-- how far the passes of such an actor have come by these calls
abbrev pub pass_since : SeatKind → List Call → Pass
pass_since kind [] = new_pass
pass_since kind (None ∷ since) = pass_since kind since
pass_since kind (Some e ∷ since) = pass_with kind e (pass_since kind since)

-- the last pass is whole and brought no event
pub record HasPassed (kind : SeatKind) (since : List Call) : Type 0 where
  pub whole : is_whole kind (pass_since kind since) ≡ true
  pub quiet : (pass_since kind since).event ≡ false

-- each call was needed

-- the call left an entry, and it is a watch
abbrev pub watches_on : Call → Bool
watches_on None = false
watches_on (Some e) = is_watch e.request

-- no kind is watched again after a whole pass without events
abbrev pub AreNeeded : SeatKind → List Call → Type 0
AreNeeded kind [] = ⊤
AreNeeded kind (call ∷ since) = AreNeeded kind since × (watches_on call ≡ true → HasPassed kind since → ⊥)

-- stale agents

-- the entry told its agent that another one has taken the node
abbrev pub TellsStale : Entry → Type 0
TellsStale e = (e.told ≡ true) × (is_stale_told e.reply ≡ true)

-- an agent was told that its epoch is stale
abbrev pub WasToldStale : SeatKind → List Entry → Type 0
WasToldStale kind mine = (kind ≡ seats.Agent) × SomeOf TellsStale mine

-- an agent that was told so asks nothing more in this life, calls that are lost among them
abbrev pub IsSilentOnceStale : SeatKind → List Call → Type 0
IsSilentOnceStale kind [] = ⊤
IsSilentOnceStale kind (call ∷ calls) = IsSilentOnceStale kind calls × (WasToldStale kind (entries calls) → ⊥)

-- no key waits

-- the entry is a list of a whole kind or a watch of it, and its answer told of the key
pub record Brings (key : Key) (e : Entry) : Type 0 where
  pub kind : Kind
  pub reads : reads_kind kind e.request ≡ true
  pub told : e.told ≡ true
  pub has : list_any (same_key key) (keys_in e.reply) ≡ true

-- a call that the rules give for the key was asked since. One that left no entry may have been that call
abbrev pub WasCalledSince : Role → Key → List Call → List Call → Type 0
WasCalledSince role key before [] = ⊥
WasCalledSince role key before (None ∷ since) = ⊤
WasCalledSince role key before (Some e ∷ since) = IsAskedFor role key (entries (since ++ before)) e.request ⊎ WasCalledSince role key before since

-- the calls that came since those `before` leave no key that is to be called for
pub record IsDone (role : Role) (before since : List Call) : Type 0 where
  -- the last pass is whole and brought no event
  pub passed : HasPassed role.kind since
  -- each key that a list or a watch told of was called for from then on, where it was due at each point from then on
  pub brought : (key : Key) (e : Entry) (later earlier : List Call) → since ≡ later ++ (Some e ∷ earlier) → Brings key e
      → IsDueThroughout role key (Some e ∷ (earlier ++ before)) later → WasCalledSince role key (Some e ∷ (earlier ++ before)) later
  -- and so was each key that was due at each point since
  pub due : (key : Key) → IsDueThroughout role key before since → WasCalledSince role key before since

-- how a life is played: with the calls that it had made when it was last woken, none at first, and with those since

-- the states in which an actor can be after the calls of its life since it was last idle
pub data IsPlayedSince (role : Role) : ActorState → List Call → List Call → Type 0 where
  Starts : {s : ActorState} {before since : List Call} → before ≡ [] → since ≡ [] → IsNew role s → StandsFor s [] → IsPlayedSince role s before since
  Hears : {new : ActorState} {before since : List Call} (s : ActorState) (rest : List Call) (e : Entry) (request : Request) (reply : Reply)
      → IsPlayedSince role s before rest → since ≡ Some e ∷ rest → IsTold e request reply
      → PlaysCall s new request (outcomes.Told reply) (entries (rest ++ before)) → StandsFor new (entries (since ++ before)) → IsPlayedSince role new before since
  Drops : {new : ActorState} {before since : List Call} (s : ActorState) (rest : List Call) (request : Request) → IsPlayedSince role s before rest → since ≡ None ∷ rest
      → PlaysCall s new request outcomes.Lost (entries (rest ++ before)) → StandsFor new (entries (since ++ before)) → IsPlayedSince role new before since
  Misses : {new : ActorState} {before since : List Call} (s : ActorState) (rest : List Call) (e : Entry) (request : Request)
      → IsPlayedSince role s before rest → since ≡ Some e ∷ rest → e.told ≡ false → e.request ≡ request
      → PlaysCall s new request outcomes.Lost (entries (rest ++ before)) → StandsFor new (entries (since ++ before)) → IsPlayedSince role new before since
  Resumes : {new : ActorState} {before since : List Call} (s turned : ActorState) (earlier made : List Call) → IsPlayedSince role s earlier made
      → before ≡ made ++ earlier → since ≡ [] → Turns s turned nexts.Idle (entries before) → new ≡ woken turned
      → StandsFor new (entries before) → IsPlayedSince role new before since

-- the laws, of each kind of actor that is built

-- it is a life that is played
abbrev pub PlayedSinceIsPlayed : Type 0
PlayedSinceIsPlayed = (role : Role) (s : ActorState) (before since : List Call) → IsPlayedSince role s before since → IsPlayed role s (since ++ before)

-- no kind is watched in vain
abbrev pub PlayedIsNeeded : Type 0
PlayedIsNeeded = (role : Role) (s : ActorState) (before since : List Call) → IsPlayedSince role s before since → AreNeeded role.kind since

-- a stale agent is silent
abbrev pub PlayedIsSilent : Type 0
PlayedIsSilent = (role : Role) (s : ActorState) (calls : List Call) → IsPlayed role s calls → IsSilentOnceStale role.kind calls

-- where a turn gives no call, nothing is left to be called for, but by an agent that was told StaleEpoch
abbrev pub IdleIsDone : Type 0
IdleIsDone = (role : Role) (s turned : ActorState) (before since : List Call) → IsBuiltKind role.kind → IsPlayedSince role s before since
    → Turns s turned nexts.Idle (entries (since ++ before)) → (WasToldStale role.kind (entries (since ++ before)) → ⊥) → IsDone role before since
