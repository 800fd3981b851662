-- At the end of a replay each life of each actor that a turn line names was played by it, and so diligent.
use Rattle.std.proofs.Common.{◌≡◌, ℕ, zero, suc, ◌<◌, ◌≤◌, ◌+◌, List, [], ◌∷◌, length, true, Option, Some, refl, sym, ◌∙◌, ap, subst}
use Rattle.std.specs.Prelude.{slice_get}
use Rattle.std.proofs.lemmas.List.{drop_all}
use Rattle.call_types.specs.declared.entry.Entry.{Entry}
use Rattle.model_laws.proofs.Lists.{none_some}
use Rattle.world_core.specs.declared.drained.Drained.{Drained}
use Rattle.script_lines.specs.declared.actors.Actor.{Actor}
use Rattle.script_lines.specs.declared.actors.Actor.TheVariants.{Agent, Worker}
use Rattle.worker_core.specs.Roles.{IsBuiltKind}
use Rattle.script_lines.specs.Actors.{actor_word}
use Rattle.script_text.specs.declared.script.Line.TheVariants as kinds_of_line
use Rattle.script_text.specs.declared.script.Script.{Script}
use Rattle.attention_law.specs.Diligence.{entries}
use Rattle.actor_turns.specs.declared.part.Part.{Part}
use Rattle.script_runs.specs.Limits.{IsKnown, IsReadable}
use Rattle.script_runs.specs.Parts.{is_named, part_of, role_of}
use Rattle.actor_turns.specs.declared.player.Player.{Player}
use Rattle.script_runs.specs.declared.stage.Stage.{Stage}
use Rattle.actor_turns.specs.Lives.{ArePlayedLives}
use Rattle.script_runs.specs.Played.{ArePlayed, IsPlayedReplay, PlayedAreDiligent}
use Rattle.script_runs.specs.Replays.{NoMoves, Progress}
use Rattle.script_runs.specs.Steps.Standing.{Ended, SoFar, SomeStands, StageStands, parts_in, place_of}
use Rattle.script_runs.proofs.Casting.{actor_at, actor_built, known_at, named_at, part_of_actor}
use Rattle.actor_turns.proofs.Diligent.{played_lives_are_diligent}
use Rattle.actor_turns.proofs.Lived.{each_lasted}
use Rattle.script_runs.proofs.Needs.{its_name, its_part}

-- a part at a place is one of a player
player_of : (xs : List Player) (place : ℕ) (part : Part) → slice_get (parts_in xs) place ≡ Some part → (x : Player) × (slice_get xs place ≡ Some x)
player_of [] place part at = none_some at
player_of (x ∷ xs) zero part at = (x, refl)
player_of (x ∷ xs) (suc place) part at = player_of xs place part at

module _ (script : Script) (option : Option ℕ) (end : Progress) (s : Stage) (readable : IsReadable script) (stands : StageStands script option end s) where
  played_actor : (actor : Actor) → IsKnown script.node_names actor → is_named (actor_word actor) script.lines ≡ true
      → ArePlayedLives [] (role_of actor) (part_of script actor) (end.made (part_of script actor).name) end.past end.idle
  played_actor actor known named =
      let found = player_of s.players.items place (part_of script actor) (ap (λ ps. slice_get ps place) stands.parts ∙ part_of_actor script actor readable.order known) in
      of_player found.0 found.1
    where
      place : ℕ
      place = place_of script.node_names actor

      of_player : (x : Player) → slice_get s.players.items place ≡ Some x
          → ArePlayedLives [] (role_of actor) (part_of script actor) (end.made (part_of script actor).name) end.past end.idle
      of_player x at =
          let some : SomeStands script option s = record { progress = end; stands = stands } in
          let part : part_of script actor ≡ x.part = its_part script option actor s readable known some x at in
          let its : x.part.named ≡ true = its_name script option actor s readable known some x at named in
          let lives = stands.lives place actor x (actor_at script.node_names actor known) at its in
          let each : ArePlayedLives x.held (role_of actor) x.part x.made s.world.past end.idle
          = each_lasted (role_of actor) x s.world.past (λ seat. entries (end.idle seat)) end.idle (stands.plays place x at its) lives in
          subst (λ h. ArePlayedLives [] (role_of actor) (part_of script actor) (end.made (part_of script actor).name) h end.idle) stands.past
          (subst (λ (p : Part). ArePlayedLives [] (role_of actor) p (end.made p.name) s.world.past end.idle) (sym part)
          (subst (λ made. ArePlayedLives [] (role_of actor) x.part made s.world.past end.idle) (stands.made place x at)
          (subst (λ held. ArePlayedLives held (role_of actor) x.part x.made s.world.past end.idle) (stands.held place x at) each)))

  pub are_played : ArePlayed script end
  are_played place actor calls at =
      played_actor actor (known_at script.node_names script.lines place (kinds_of_line.Turn actor calls) readable.known at) (named_at script.lines place actor calls at)

role_built : (actor : Actor) → IsBuiltKind (role_of actor).kind
role_built (Worker w) = actor_built (Worker w)
role_built (Agent node) = tt

pub played_are_diligent : PlayedAreDiligent
played_are_diligent script end played place actor calls at seat low high =
    played_lives_are_diligent [] (role_of actor) (part_of script actor) seat (end.made (part_of script actor).name) end.past (end.idle seat)
    (role_built actor) (played place actor calls at seat low high)

pub played_replay : (script : Script) (option : Option ℕ) (place : ℕ) (before after : Stage) (past : List Entry) (ending : Drained)
    → IsReadable script → length script.lines ≤ place → SoFar script option place before
    → ((p : Progress) → StageStands script option p before → Ended script option p after ending) → past ≡ after.world.past → IsPlayedReplay script option past ending
played_replay script option place before after past ending readable all so ended is =
    let e = ended so.progress so.stands in
    record {
      calls = record {
        drainers = so.first;
        new = so.new;
        lines_done = so.progress;
        end = e.after;
        moves = so.moves so.progress (NoMoves (drop_all place script.lines all) refl);
        last = e.move;
        history = is ∙ e.stands.past;
        ends = e.ends;
      };
      played = are_played script option e.after after readable e.stands;
    }
