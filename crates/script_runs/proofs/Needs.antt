-- What a turn needs of its player, and what it leaves of the counts of calls.
use Rattle.std.proofs.Common.{◌≡◌, ◌≢◌, ◌⊎◌, ℕ, ◌<◌, ◌≤◌, ◌+◌, ◌^◌, List, [], length, get_or, set, true, Option, Some, inl, inr, refl, sym, ◌∙◌, ap, subst, arith}
use Rattle.std.specs.Prelude.{slice_get}
use Rattle.std.proofs.lemmas.List.{length-map}
use Rattle.std.proofs.lemmas.Option.{slice_get_read, slice_get_within}
use Rattle.attention_law.specs.Diligence.{entries}
use Rattle.call_types.specs.declared.entry.Entry.{Entry}
use Rattle.model_laws.proofs.Lists.{one}
use Rattle.actor_rounds.specs.Answers.Answered.{all_pass}
use Rattle.script_lines.specs.declared.actors.Actor.{Actor}
use Rattle.script_lines.specs.Actors.{actor_word}
use Rattle.script_text.specs.declared.script.Script.{Script}
use Rattle.actor_turns.specs.declared.part.Part.{Part}
use Rattle.script_runs.specs.Limits.{IsKnown, IsReadable}
use Rattle.actor_turns.specs.Parts.{lives_by, lives_of}
use Rattle.script_runs.specs.Parts.{is_named, part_of, role_of}
use Rattle.actor_turns.specs.declared.player.Player.{Player}
use Rattle.script_runs.specs.declared.stage.Stage.{Stage}
use Rattle.script_runs.specs.Replays.{IsTurnLine}
use Rattle.actor_turns.specs.Steps.Living.{HasLivedOn}
use Rattle.actor_turns.specs.Steps.Playing.{EachPlayer, HasMadeAll, HasMadeFewer, HasTurned, IsLife, Plays, SomePlays}
use Rattle.script_runs.specs.Steps.Standing.{HasMoved, MadeAtMost, SomeStands, actors_for, all_parts, parts_in, place_of, seat_of_drains}
use Rattle.script_runs.proofs.Casting.{actor_at, drains_after, few_restarts, in_order, part_of_actor, small_drains}
use Rattle.script_runs.proofs.Orders.{life_between, part_at_place}
use Rattle.script_runs.proofs.Staging.{HasPlayed, set_cases, turn_moved}

-- ---- the numbers of a part are small

part_small : (script : Script) (actor : Actor) → IsKnown script.node_names actor → is_named (actor_word actor) script.lines ≡ true
    → IsReadable script → (part_of script actor).first + length (part_of script actor).restarts < 2 ^ 32
part_small script actor known named readable =
    let lives : lives_of (part_of script actor) ≡ 1 + length (part_of script actor).restarts = ap (λ b. lives_by b (length (part_of script actor).restarts)) named in
    let life : IsLife (part_of script actor) (part_of script actor).first = (omega arith, omega (arith, lives)) in
    let below = (life_between 5 (all_parts script) (seat_of_drains script) (place_of script.node_names actor) (part_of script actor)
    (part_of script actor).first (in_order script) (part_of_actor script actor readable.order known) life).1 in
    let few = readable.few in
    let drains = small_drains script few readable.nodes in
    let restarts = few_restarts (actor_word actor) script.lines in
    omega (arith, below, drains, restarts, few)

-- ---- the player of a turn

module _ (script : Script) (option : Option ℕ) (actor : Actor) (s : Stage) (readable : IsReadable script) (known : IsKnown script.node_names actor) (some : SomeStands script option s) where
  -- the actor has a player
  pub place_within : place_of script.node_names actor < length s.players.items
  place_within =
      let within = slice_get_within (all_parts script) (place_of script.node_names actor) (part_of script actor) (part_of_actor script actor readable.order known) in
      let parts : length (parts_in s.players.items) ≡ length (all_parts script) = ap length some.stands.parts in
      let each : length (parts_in s.players.items) ≡ length s.players.items = length-map s.players.items (λ (x : Player). x.part) in
      omega (arith, within, parts, each)

  pub player_there : (place : ℕ) (x : Player) → place ≡ place_of script.node_names actor → x ≡ get_or s.players.items place x → slice_get s.players.items (place_of script.node_names actor) ≡ Some x
  player_there place x is read = subst (λ n. slice_get s.players.items n ≡ Some x) is (slice_get_read s.players.items (length s.players.items) place
      x refl (let w = place_within in omega (arith, w, is)) read)

  pub its_part : (x : Player) → slice_get s.players.items (place_of script.node_names actor) ≡ Some x → part_of script actor ≡ x.part
  its_part x at = one (part_of script actor) x.part
      (sym (part_of_actor script actor readable.order known) ∙ ap (λ ps. slice_get ps (place_of script.node_names actor)) (sym some.stands.parts)
      ∙ part_at_place s.players.items (place_of script.node_names actor) x at)

  pub its_name : (x : Player) → slice_get s.players.items (place_of script.node_names actor) ≡ Some x → is_named (actor_word actor) script.lines ≡ true → x.part.named ≡ true
  its_name x at named = ap (λ (p : Part). p.named) (sym (its_part x at)) ∙ named

  pub its_seats : (x : Player) → slice_get s.players.items (place_of script.node_names actor) ≡ Some x
      → is_named (actor_word actor) script.lines ≡ true → x.part.first + length x.part.restarts < 2 ^ 32
  its_seats x at named = subst (λ (p : Part). p.first + length p.restarts < 2 ^ 32) (its_part x at) (part_small script actor known named readable)

  pub it_plays : (x : Player) → slice_get s.players.items (place_of script.node_names actor) ≡ Some x → is_named (actor_word actor) script.lines ≡ true → SomePlays x s.world.past
  it_plays x at named = record { idle = λ seat. entries (some.progress.idle seat); plays = some.stands.plays (place_of script.node_names actor) x at (its_name x at named) }

-- ---- the counts of calls

turned_made : (calls : ℕ) (idle : ℕ → List Entry) (before after : List Entry) (old new : Player) → HasTurned all_pass calls idle before after old new → new.made ≤ old.made + calls
turned_made calls idle before after old new t = by t.made
  where
    by : HasMadeAll all_pass calls idle before after old new ⊎ HasMadeFewer all_pass calls idle before after old new → new.made ≤ old.made + calls
    by (inl all) = let m = all.made in omega (arith, m)
    by (inr few) = let m = few.made in let f = few.few in omega (arith, m, f)

-- ---- a turn of an actor

module _ (script : Script) (option : Option ℕ) (actor : Actor) (calls : ℕ) (old new : Stage) (place : ℕ) (x after : Player)
    (readable : IsReadable script) (known : IsKnown script.node_names actor) (named : is_named (actor_word actor) script.lines ≡ true)
    (some : SomeStands script option old) (is : place ≡ place_of script.node_names actor) (read : x ≡ get_or old.players.items place x)
    (players : new.players.items ≡ set old.players.items place after) (part : after.part ≡ x.part) (held : after.held ≡ x.held)
    (setup : new.world.setup ≡ old.world.setup) (drainers : new.drainers ≡ old.drainers) (drained : new.drained ≡ old.drained) (budget : new.budget ≡ old.budget) (settled : new.settled ≡ old.settled)
    (turns : (idle : ℕ → List Entry) → Plays x old.world.past idle → HasTurned all_pass calls idle old.world.past new.world.past x after)
    (lives : HasLivedOn calls old.world.past new.world.past x after) where
  at : slice_get old.players.items (place_of script.node_names actor) ≡ Some x
  at = player_there script option actor old readable known some place x is read

  played : HasPlayed old new place x after
  played = record {
    there = subst (λ n. slice_get old.players.items n ≡ Some x) (sym is) at;
    named = its_name script option actor old readable known some x at named;
    players = players;
    part = part;
    held = held;
    setup = setup;
    drainers = drainers;
    drained = drained;
    budget = budget;
    settled = settled;
  }

  pub turn_made : HasMoved script option (IsTurnLine all_pass [] (role_of actor) (part_of script actor) calls) old new
  turn_made =
      turn_moved script option calls old new place x after actor readable.order (drains_after script)
      (subst (λ n. slice_get (actors_for script.node_names) n ≡ Some actor) (sym is) (actor_at script.node_names actor known))
      (its_part script option actor old readable known some x at) played turns lives

-- no player has then made more than 1,000 calls more
pub made_after : (script : Script) (option : Option ℕ) (actor : Actor) (calls most : ℕ) (old : Stage) (past : List Entry) (place : ℕ)
    (x after : Player) → IsReadable script → IsKnown script.node_names actor → is_named (actor_word actor) script.lines ≡ true
    → SomeStands script option old → place ≡ place_of script.node_names actor → x ≡ get_or old.players.items place x
    → ((idle : ℕ → List Entry) → Plays x old.world.past idle → HasTurned all_pass calls idle old.world.past past x after)
    → calls ≤ 1000 → MadeAtMost most old → EachPlayer (λ y. y.made ≤ most + 1000) (set old.players.items place after)
made_after script option actor calls most old past place x after readable known named some is read turns few made =
    let within = place_within script option actor old readable known some in
    λ j y here. by j y (set_cases old.players.items place after j y (omega (arith, within, is)) here)
  where
    there : slice_get old.players.items (place_of script.node_names actor) ≡ Some x
    there = player_there script option actor old readable known some place x is read

    by : (j : ℕ) (y : Player) → ((j ≡ place) × (after ≡ y)) ⊎ ((j ≢ place) × (slice_get old.players.items j ≡ Some y)) → y.made ≤ most + 1000
    by j y (inl same) =
        let plays = it_plays script option actor old readable known some x there named in
        let t = turned_made calls plays.idle old.world.past past x after (turns plays.idle plays.plays) in
        let m = made (place_of script.node_names actor) x there in
        subst (λ (z : Player). z.made ≤ most + 1000) same.1 (omega (arith, t, m, few))
    by j y (inr other) = let m = made j y other.1 in omega (arith, m)
