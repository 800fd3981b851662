-- What the lines of a script do leaves the actors of the drains so that each of its drains makes progress.
use Rattle.std.proofs.Common.{◌≡◌, ◌≢◌, ◌∙◌, ℕ, ◌+◌, ◌≤◌, ◌<◌, suc, List, [], ◌∷◌, ◌++◌, Bool, true, false, true≢false, Option, Some, inl, inr, sym, ap, subst, arith, append_assoc}
use Rattle.std.specs.Prelude.{slice_get}
use Rattle.call_types.specs.declared.entry.Entry.{Entry}
use Rattle.call_types.specs.declared.request.SeatKind.{SeatKind}
use Rattle.binder_model.specs.Promises.{IsRunOf}
use Rattle.binder_model.specs.Told.{own}
use Rattle.model_laws.proofs.Evidence.{own_other}
use Rattle.world_core.specs.declared.drained.Drained.{Drained}
use Rattle.actor_rounds.specs.Longer.{IsOneOf}
use Rattle.actor_rounds.specs.Rounds.{all_pass}
use Rattle.actor_rounds.proofs.DrainFacts.{drains_grow}
use Rattle.settle_progress.proofs.Drains.Paying.{run_of_older}
use Rattle.script_lines.specs.declared.actors.Actor.{Actor}
use Rattle.script_lines.specs.Actors.{actor_word}
use Rattle.script_text.specs.declared.script.Line.{Line}
use Rattle.script_text.specs.declared.script.Line.TheVariants.{Call, Drain, Lose, Restart, Turn}
use Rattle.script_text.specs.declared.script.Script.{Script}
use Rattle.actor_turns.specs.declared.loss.Fate.{Fate}
use Rattle.actor_turns.specs.declared.loss.Fate.TheVariants.{LostAfter, LostBefore, Told}
use Rattle.actor_turns.specs.declared.part.Part.{Part}
use Rattle.actor_turns.specs.Calls.{AreCalls, IsCallBy, MoreCalls, NoCalls, is_held, seat_at}
use Rattle.actor_turns.specs.Fates.{fate_of}
use Rattle.actor_turns.specs.Steps.Playing.{IsLife}
use Rattle.actor_turns.proofs.Lives.{seat_within}
use Rattle.script_runs.specs.Limits.{IsKnown, IsReadable}
use Rattle.script_runs.specs.Parts.{all_actors, all_lives, drain_roles, drain_seat, drain_seats, is_named, part_of, role_of}
use Rattle.script_runs.specs.Replays.{AreMoves, IsMove, IsReplay, IsTurnLine, MoreMoves, NoMoves, Progress, first_progress}
use Rattle.script_runs.specs.Drains.{AreDrainers}
use Rattle.script_runs.proofs.Draining.{all_lines_keep_drainers, lines_keep_drainers, new_ones_are_drainers}
use Rattle.script_runs.specs.Steps.Standing.{all_parts, place_of, seat_of_drains}
use Rattle.script_runs.proofs.Casting.{drains_after, in_order, known_at, named_at, part_of_actor, within_at}
use Rattle.script_runs.proofs.Orders.{life_between}
use Rattle.script_runs.proofs.Staging.{after_first}
use Rattle.script_runs.proofs.Staying.{IsGrown, calls_grow}
use Rattle.replay_laws.specs.Drains.Lasting.{DrainsLast, MoveLasts, MovesLast, ReplayedDrainsLast}
use Rattle.replay_laws.proofs.Drains.Drained.{AreSilentIfOvertaken, drain_keeps, drain_lasts}
use Rattle.replay_laws.proofs.Drains.Silent.{on_others}

-- ---- the entries grow

turn_grows : (actor : Actor) (part : Part) (calls : ℕ) (now next : Progress) → IsTurnLine all_pass [] (role_of actor) part calls now next → IsGrown now.past next.past
turn_grows actor part calls now next (inl all) = subst (λ (p : Progress). IsGrown now.past p.past) (sym all.is) (calls_grow all_pass [] part all.past _ _ now.past all.made)
turn_grows actor part calls now next (inr few) = subst (λ (p : Progress). IsGrown now.past p.past) (sym few.is) (calls_grow all_pass [] part few.past _ _ now.past few.made)

not_grown : (now next : Progress) → next ≡ now → IsGrown now.past next.past
not_grown now next same = record { newer = []; are = ap (λ (p : Progress). p.past) same }

pub move_grows : (script : Script) (option : Option ℕ) (line : Line) (now next : Progress) → IsMove script option line now next → IsGrown now.past next.past
move_grows script option (Call user request) now next move = record { newer = _ ∷ []; are = ap (λ (p : Progress). p.past) move.is }
move_grows script option (Lose actor call lost) now next move = not_grown now next move
move_grows script option (Restart actor calls) now next move = not_grown now next move
move_grows script option (Turn actor calls) now next move = turn_grows actor (part_of script actor) calls now next move
move_grows script option Drain now next move =
    let g = drains_grow all_pass script.setup move.ran move.past _ now.drainers now.past _ move.rounds in
    record { newer = g.longer.added; are = ap (λ (p : Progress). p.past) move.is ∙ g.longer.are }

pub moves_grow : (script : Script) (option : Option ℕ) (end : Progress) (lines : List Line) (now : Progress) → AreMoves script option end lines now → IsGrown now.past end.past
moves_grow script option end lines now (NoMoves none same) = not_grown now end same
moves_grow script option end lines now (MoreMoves line rest next are move more) =
    let first = move_grows script option line now next move in
    let then_ = moves_grow script option end rest next more in
    record { newer = then_.newer ++ first.newer; are = then_.are ∙ (ap (λ h. then_.newer ++ h) first.are ∙ sym (append_assoc then_.newer first.newer now.past)) }

-- ---- the calls of other seats

call_others : (held : Bool) (fate : Fate) (mine : ℕ) (kind : SeatKind) (past new : List Entry) → IsCallBy all_pass held fate mine kind past new
    → (seat : ℕ) → seat ≢ mine → own seat new ≡ own seat past
call_others true fate mine kind past new call seat other = ap (own seat) call.is
call_others false Told mine kind past new call seat other = ap (own seat) call.is ∙ own_other _ past seat other
call_others false LostAfter mine kind past new call seat other = ap (own seat) call.is ∙ own_other _ past seat other
call_others false LostBefore mine kind past new call seat other = ap (own seat) call

calls_others : (part : Part) (new : List Entry) (seat : ℕ) → part.named ≡ true → (IsLife part seat → ⊥) → (n count : ℕ) (past : List Entry)
    → AreCalls all_pass [] part new n count past → own seat new ≡ own seat past
calls_others part new seat named other n count past (NoCalls none same) = ap (own seat) same
calls_others part new seat named other n count past (MoreCalls rest middle some call more) =
    calls_others part new seat named other (n + 1) rest middle more ∙ call_others (is_held [] n) (fate_of part.losses n) (seat_at part n) part.kind past middle call seat not_mine
  where
    not_mine : seat ≢ seat_at part n
    not_mine is = let w = seat_within part n named in other (omega (arith, is), omega (arith, is, w))

-- ---- a line of the script

module _ (script : Script) (option : Option ℕ) (readable : IsReadable script) where
  -- the line stands in the script
  abbrev IsThere : Line → Type 0
  IsThere line = (place : ℕ) × (slice_get script.lines place ≡ Some line)

  abbrev Silent : Progress → Type 0
  Silent p = AreSilentIfOvertaken script (drain_seat script) p.past

  after_users : (lives seat : ℕ) → 5 + lives ≤ seat → 5 ≤ seat
  after_users lives seat low = omega (arith, low)

  -- the seat is none of a user's
  pub no_user : (user : ℕ) → user < 5 → (seat : ℕ) → IsOneOf (drain_seats script) seat → seat ≢ user
  no_user user few seat among is = let high =
      after_users (all_lives (all_actors script) script.lines) seat (after_first (drain_seat script) script.node_names seat among) in absurd (omega (arith, few, is, high))

  -- and none of a life
  no_life : (actor : Actor) → IsKnown script.node_names actor → (seat : ℕ) → IsOneOf (drain_seats script) seat → IsLife (part_of script actor) seat → ⊥
  no_life actor known seat among life =
      let low = (life_between 5 (all_parts script) (seat_of_drains script) (place_of script.node_names actor) (part_of script actor) seat
      (in_order script) (part_of_actor script actor readable.order known) life).1 in
      let high = after_first (drain_seat script) script.node_names seat among in
      let last = drains_after script in
      absurd (omega (arith, low, high, last))

  pub turn_others : (actor : Actor) (calls : ℕ) (now next : Progress) → is_named (actor_word actor) script.lines ≡ true
      → IsKnown script.node_names actor → IsTurnLine all_pass [] (role_of actor) (part_of script actor) calls now next
      → (seat : ℕ) → IsOneOf (drain_seats script) seat → own seat next.past ≡ own seat now.past
  turn_others actor calls now next named known (inl all) seat among =
      subst (λ (p : Progress). own seat p.past ≡ own seat now.past) (sym all.is) (calls_others (part_of script actor) all.past seat named (no_life actor known seat among) _ _ now.past all.made)
  turn_others actor calls now next named known (inr few) seat among =
      subst (λ (p : Progress). own seat p.past ≡ own seat now.past) (sym few.is) (calls_others (part_of script actor) few.past seat named (no_life actor known seat among) _ _ now.past few.made)

  others_keep : (now next : Progress) → IsGrown now.past next.past → ((seat : ℕ) → IsOneOf (drain_seats script) seat → own seat next.past ≡ own seat now.past) → Silent now → Silent next
  others_keep now next grown same silent = on_others script.setup (drain_seats script) (drain_roles script) grown.newer now.past next.past grown.are same silent

  abbrev Are : Progress → Type 0
  Are p = AreDrainers script (drain_seat script) option p

  one_move : (line : Line) (now next : Progress) (move : IsMove script option line now next) → IsThere line → IsRunOf script.setup next.past
      → Are now → Silent now → MoveLasts script option line now next move × Silent next
  one_move (Call user request) now next move there run are silent = (
    tt,
    others_keep now next (move_grows script option (Call user request) now next move)
        (λ seat among. ap (λ (p : Progress). own seat p.past) move.is
        ∙ own_other _ now.past seat (no_user user (within_at script.lines there.0 (Call user request) readable.lines there.1).1 seat among)) silent,
  )
  one_move (Lose actor call lost) now next move there run are silent = (tt, subst Silent (sym move) silent)
  one_move (Restart actor calls) now next move there run are silent = (tt, subst Silent (sym move) silent)
  one_move (Turn actor calls) now next move there run are silent = (
    tt,
    others_keep now next (move_grows script option (Turn actor calls) now next move)
        (turn_others actor calls now next (named_at script.lines there.0 actor calls there.1) (known_at script.node_names script.lines there.0 (Turn actor calls) readable.known there.1) move) silent,
  )
  one_move Drain now next move there run are silent =
      (drain_lasts script (drain_seat script) option now next move are run silent, drain_keeps script (drain_seat script) option now next move are run silent)

  all_moves : (end : Progress) → IsRunOf script.setup end.past → (lines : List Line) (now : Progress)
      → ((place : ℕ) (line : Line) → slice_get lines place ≡ Some line → IsThere line) → (moves : AreMoves script option end lines now) → Are now → Silent now
      → MovesLast script option end lines now moves × Silent end
  all_moves end run lines now among (NoMoves none same) are silent = (tt, subst Silent (sym same) silent)
  all_moves end run lines now among (MoreMoves line rest next is move more) are silent =
      let grown = moves_grow script option end rest next more in
      let first = one_move line now next move (among 0 line (ap (λ ls. slice_get ls 0) is)) (run_of_older script.setup grown.newer next.past end.past grown.are run) are silent in
      let kept = lines_keep_drainers script (drain_seat script) option line now next move are in
      let then_ = all_moves end run rest next (λ place x at. among (suc place) x (ap (λ ls. slice_get ls (suc place)) is ∙ at)) more kept first.1 in
      ((first.0, then_.0), then_.1)

-- ---- a replay

none_yet : (script : Script) (first : ℕ) → AreSilentIfOvertaken script first []
none_yet script first place seat node at_seat at_role silent = absurd (true≢false (sym silent))

module _ (script : Script) (option : Option ℕ) (past : List Entry) (ending : Drained) (readable : IsReadable script)
    (run : IsRunOf script.setup past) (replay : IsReplay script option past ending) where
  run_at_end : IsRunOf script.setup replay.end.past
  run_at_end = subst (IsRunOf script.setup) replay.history run

  new_are : AreDrainers script (drain_seat script) option (first_progress option replay.drainers)
  new_are = new_ones_are_drainers script (drain_seat script) option (first_progress option replay.drainers) replay.new

  -- the actors of the last drain
  pub last_are : AreDrainers script (drain_seat script) option replay.lines_done
  last_are = all_lines_keep_drainers script (drain_seat script) option replay.lines_done script.lines (first_progress option replay.drainers) replay.moves new_are

  before : MovesLast script option replay.lines_done script.lines (first_progress option replay.drainers) replay.moves × AreSilentIfOvertaken script (drain_seat script) replay.lines_done.past
  before =
      let grown = move_grows script option Drain replay.lines_done replay.end replay.last in
      all_moves script option readable replay.lines_done (run_of_older script.setup grown.newer replay.lines_done.past replay.end.past grown.are run_at_end)
      script.lines (first_progress option replay.drainers) (λ place line at. (place, at)) replay.moves new_are (none_yet script (drain_seat script))

  pub lines_silence_the_overtaken : AreSilentIfOvertaken script (drain_seat script) replay.lines_done.past
  lines_silence_the_overtaken = before.1

  each_lasts : DrainsLast script option past ending replay
  each_lasts = record { of_lines = before.0; of_last = drain_lasts script (drain_seat script) option replay.lines_done replay.end replay.last last_are run_at_end before.1 }

pub replayed_drains_last : ReplayedDrainsLast
replayed_drains_last = each_lasts
