-- What follows of a life that its actor played.
use Rattle.std.proofs.Common.{◌≡◌, List, [], ◌++◌, sym, ◌∙◌, subst}
use Rattle.call_types.specs.declared.request.Request.{Request}
use Rattle.attention_law.specs.Diligence.{Call, entries}
use Rattle.attention_law.specs.Played.{IsPlayed, PlaysCall, Turns}
use Rattle.attention_law.specs.Resting.{Drops, Hears, IsPlayedSince, Misses, Resumes, Starts, WasToldStale}
use Rattle.attention_law.proofs.Following.{played_is_diligent, same_role, stands_now}
use Rattle.attention_law.proofs.Needed.{played_is_needed, played_on}
use Rattle.attention_law.proofs.Resting.{idle_is_done}
use Rattle.attention_law.proofs.Silent.{played_is_silent}
use Rattle.worker_core.specs.declared.role.Role.{Role}
use Rattle.worker_core.specs.declared.turn.Next.TheVariants as nexts
use Rattle.worker_core.specs.declared.turn.Outcome.{Outcome}
use Rattle.worker_core.specs.Roles.{IsBuiltKind}
use Rattle.worker_core.specs.Stands.{StandsFor}
use Rattle.worker_core.specs.States.{ActorState}
use Rattle.worker_core.proofs.Answered.{gives_asked, turn_role}
use Rattle.actor_turns.specs.Calls.{MayEnd}
use Rattle.actor_turns.specs.Diligent.{IdleLivesAreDone, IdleLivesMayEnd, PlayedLivesAreDiligent, PlayedLivesAreNeeded, PlayedLivesStand}
use Rattle.actor_turns.specs.Steps.Playing.{StandsSince}
use Rattle.actor_turns.proofs.Since.{lost_since, new_since, none_since, told_since, turn_since, woken_since}
use Rattle.actor_turns.proofs.Stepping.{may_end}

pub played_lives_are_diligent : PlayedLivesAreDiligent
played_lives_are_diligent held role part seat made past before built life = record {
  calls = life.since ++ before;
  are = life.are;
  diligent = played_is_diligent role life.state (life.since ++ before) built (played_on role life.state before life.since life.played);
}

pub played_lives_are_needed : PlayedLivesAreNeeded
played_lives_are_needed held role part seat made past before life = record {
  since = life.since;
  are = life.are;
  needed = played_is_needed role life.state before life.since life.played;
  silent = played_is_silent role life.state (life.since ++ before) (played_on role life.state before life.since life.played);
}

pub played_lives_stand : PlayedLivesStand
played_lives_stand held role part seat made past before life = record {
  actor = life.state;
  of = same_role role life.state (life.since ++ before) played;
  stands = subst (StandsFor life.state) life.are.of_seat (stands_now role life.state (life.since ++ before) played);
}
  where
    played : IsPlayed role life.state (life.since ++ before)
    played = played_on role life.state before life.since life.played

pub idle_lives_are_done : IdleLivesAreDone
idle_lives_are_done held role part seat made past before since built idle unstale =
    idle_is_done role idle.state idle.turned before since built idle.played turns (λ told. unstale (subst (WasToldStale role.kind) idle.are.of_seat told))
  where
    turns : Turns idle.state idle.turned nexts.Idle (entries (since ++ before))
    turns = record { order = idle.turns.order; turn = idle.turns.turn; stands = subst (StandsFor idle.turned) (sym idle.are.of_seat) idle.turns.stands }

-- ---- the pass of an actor stands for what its life was told since it was last woken

-- the role is kept
role_now : (role : Role) (s : ActorState) (before since : List Call) → IsPlayedSince role s before since → s.role ≡ role
role_now role s before since played = same_role role s (since ++ before) (played_on role s before since played)

-- the turn of a call leaves it so
call_turned : (role : Role) (old : ActorState) (before rest : List Call) → IsPlayedSince role old before rest → (new : ActorState) (request : Request) (outcome : Outcome)
    (plays : PlaysCall old new request outcome (entries (rest ++ before))) → StandsSince old (entries before) (entries (rest ++ before))
    → StandsSince plays.turned (entries before) (entries (rest ++ before))
call_turned role old before rest played new request outcome plays since =
    turn_since old plays.turned (nexts.Call request) (entries before) (entries (rest ++ before)) plays.turns.turn (λ stands. plays.turns.stands) since

pub stands_since : (role : Role) (s : ActorState) (before since : List Call) → IsBuiltKind role.kind → IsPlayedSince role s before since
    → StandsSince s (entries before) (entries (since ++ before))
stands_since role s before since built (Starts first none new stands) =
    subst (λ b. StandsSince s (entries b) (entries (since ++ b))) (sym first)
    (subst (λ c. StandsSince s [] (entries (c ++ []))) (sym none) (new_since s stands))
stands_since role s before since built (Hears old rest e request reply played is told plays stands) =
    let turned = call_turned role old before rest played s request _ plays (stands_since role old before rest built played) in
    let its : plays.turned.role ≡ role = turn_role old plays.turned (nexts.Call request) plays.turns.turn ∙ role_now role old before rest played in
    let stands_then = subst (λ c. StandsFor s (entries (c ++ before))) is stands in
    subst (λ c. StandsSince s (entries before) (entries (c ++ before))) (sym is)
    (told_since plays.turned s (entries before) (entries (rest ++ before)) e request _ (subst (λ (r : Role). IsBuiltKind r.kind) (sym its) built)
    (sym (gives_asked old plays.turned (nexts.Call request) plays.turns.turn)) told plays.takes (λ stood. stands_then) turned)
stands_since role s before since built (Drops old rest request played is plays stands) =
    let turned = call_turned role old before rest played s request _ plays (stands_since role old before rest built played) in
    let stands_then = subst (λ c. StandsFor s (entries (c ++ before))) is stands in
    subst (λ c. StandsSince s (entries before) (entries (c ++ before))) (sym is)
    (none_since plays.turned s (entries before) (entries (rest ++ before)) request plays.takes (λ stood. stands_then) turned)
stands_since role s before since built (Misses old rest e request played is lost same plays stands) =
    let turned = call_turned role old before rest played s request _ plays (stands_since role old before rest built played) in
    let stands_then = subst (λ c. StandsFor s (entries (c ++ before))) is stands in
    subst (λ c. StandsSince s (entries before) (entries (c ++ before))) (sym is)
    (lost_since plays.turned s (entries before) (entries (rest ++ before)) e request lost plays.takes (λ stood. stands_then) turned)
stands_since role s before since built (Resumes old turned earlier made played are none turns woke stands) =
    subst (λ c. StandsSince s (entries before) (entries (c ++ before))) (sym none) (woken_since turned s (entries before) woke stands)

pub idle_lives_may_end : IdleLivesMayEnd
idle_lives_may_end held role part seat made past before since built idle =
    let its = role_now role idle.state before since idle.played in
    let stands = stands_since role idle.state before since built idle.played in
    subst (λ es. MayEnd role.kind (entries before) es) idle.are.of_seat
    (subst (λ (r : Role). MayEnd r.kind (entries before) (entries (since ++ before))) its
    (may_end idle.state idle.turned (entries before) (entries (since ++ before)) (subst (λ (r : Role). IsBuiltKind r.kind) (sym its) built) stands idle.turns.turn))
