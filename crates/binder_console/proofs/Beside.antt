-- What the run of an extended script answers, with what is promised of its world and of its side.
use Rattle.std.proofs.Common.{◌≡◌, ◌∙◌, ℕ, ◌<◌, List, Option, Ok, length, reverse, refl, ap, ap₂, subst, sym}
use Rattle.call_types.specs.declared.entry.Entry.{Entry}
use Rattle.call_types.specs.declared.setup.Setup.{Setup}
use Rattle.binder_model.specs.Promises.{IsRunOf, most_entries}
use Rattle.binder_model.specs.World.{world}
use Rattle.binder_model.specs.Run.{Run}
use Rattle.binder_model.specs.Safe.{Safe}
use Rattle.size_law.specs.Calls.Calls.{AreByActors}
use Rattle.expand_ops.specs.Sizes.{Growth}
use Rattle.history_laws.specs.Runs.Laws.{HasOneHistory}
use Rattle.script_text.specs.declared.script.Script.{Script}
use Rattle.script_laws.specs.Read.Scripts.{IsScript}
use Rattle.script_runs.specs.Limits.{IsReadable}
use Rattle.script_runs.proofs.Readable.{script_readable}
use Rattle.replay_laws.proofs.Printable.Replays.{replay_texts_have_one}
use Rattle.side_calls.specs.declared.sizes.SizeRow.{SizeRow}
use Rattle.side_text.specs.declared.entries.PlacedEntry.{PlacedEntry}
use Rattle.side_text.specs.Output.{rest_lines}
use Rattle.extended_text.specs.declared.sides.Extended.{Extended}
use Rattle.extended_text.specs.Extended.{extended_of}
use Rattle.side_model.specs.Answers.{side}
use Rattle.side_model.specs.Merged.{entries}
use Rattle.side_laws.proofs.Growths.{growth_goes_in_turn}
use Rattle.side_laws.proofs.Whole.{quotas_are_kept}
use Rattle.extended_runs.specs.Kept.{with_lines}
use Rattle.extended_runs.specs.Placed.{placed}
use Rattle.extended_runs.specs.Works.{given_of, works_of}
use Rattle.extended_laws.specs.Laws.{RunKeeps}
use Rattle.extended_laws.proofs.Keeping.{extended_runs_keep, works_have_lines}
use Rattle.extended_laws.proofs.Leaving.{kept_is_script}
use Rattle.extended_laws.proofs.Reading.{extended_gives}
use Rattle.extended_play.specs.declared.play.Played.{Played}
use Rattle.extended_play.specs.Played.{IsPlayed as IsPlayedBeside}
use Rattle.binder_console.specs.declared.commands.Task.TheVariants.{Extend}
use Rattle.binder_console.specs.Extends.{IsPromisedBeside, played_text}
use Rattle.binder_console.specs.Outcomes.{IsAnswer, answer_ended}
use Rattle.binder_console.specs.Replays.{last_summary}
use Rattle.binder_console.proofs.Promised.{IsPlayed, by_ending, promised}

pub extended_is_readable : (input : List ℕ) (extended : Extended) → extended_of input ≡ Ok extended → IsReadable extended.script
extended_is_readable input extended read = script_readable extended.script (extended_gives input extended read)

module _ (extended : Extended) (budget : Option ℕ) (p : Played) (is : IsPlayedBeside extended.script (given_of extended) (works_of extended) budget p)
    (given : IsScript extended.script) (of : IsRunOf p.world.setup p.world.past) (run : Run p.world.setup p.world.past) (safe : Safe p.world.setup p.world.past) where
  abbrev script : Script
  script = extended.script

  abbrev past : List Entry
  past = entries is.steps

  keeps : RunKeeps script (given_of extended) (works_of extended) budget is.kept is.steps p.ending is.run
  keeps = extended_runs_keep script (given_of extended) (works_of extended) budget is.kept is.steps p.ending (works_have_lines extended) is.run

  kept_given : IsScript (with_lines is.kept script)
  kept_given = kept_is_script script is.kept keeps.left given

  -- what holds of the world holds of the script's setup and of the steps' entries
  there : (P : Setup → List Entry → Type 0) → P p.world.setup p.world.past → P script.setup past
  there P h = subst (P script.setup) is.history (subst (λ (s : Setup). P s p.world.past) is.setup h)

  kept_played : IsPlayed (with_lines is.kept script) budget script.setup past p.ending
  kept_played = record {
    calls = keeps.replay;
    played = record { calls = keeps.replay; played = keeps.played is.lives };
    actors = subst AreByActors is.history is.actors;
    from = refl;
    of = there IsRunOf of;
    run = there Run run;
    safe = there Safe safe;
  }

  beside : IsPromisedBeside extended budget is.kept is.steps p.ending
  beside =
      let all = there IsRunOf of in
      record {
        run = is.run;
        left = keeps.left;
        promised = promised (with_lines is.kept script) budget past p.ending kept_given kept_played;
        users = keeps.users;
        answers = keeps.answers;
        holds = keeps.holds;
        within = quotas_are_kept script.setup (given_of extended) is.steps
            (record { imports = all.imports; run = all.run; holds = keeps.holds });
        grown = growth_goes_in_turn script.setup (given_of extended) is.steps;
      }

  printed_is : (text : List ℕ) → text ≡ played_text p.world.setup p.world.past p.side.entered p.side.sizes.rows p.ending
      → text ≡ played_text script.setup past (reverse (placed is.steps)) (side script.setup (given_of extended) is.steps).sizes p.ending
  printed_is text printed =
      printed ∙ ap₂ (λ (s : Setup) h. played_text s h p.side.entered p.side.sizes.rows p.ending) is.setup is.history
      ∙ ap₂ (λ es rows. played_text script.setup past es rows p.ending) is.entered (ap (λ (g : Growth). g.rows) is.sizes)

  one_history : (entered : List PlacedEntry) (sizes : List SizeRow) → length p.world.past < most_entries
      → HasOneHistory (played_text script.setup past entered sizes p.ending) script.setup (reverse past)
  unfolding played_text
  one_history entered sizes short =
      replay_texts_have_one (with_lines is.kept script) budget past p.ending
      (rest_lines entered sizes (world script.setup past).store.rows (last_summary (world script.setup past) p.ending))
      (record { script_given = kept_given; replay = keeps.replay; run = there Run run; short = subst (λ h. length h < most_entries) is.history short })

pub extend_answers : (extended : Extended) (budget : Option ℕ) (p : Played) (input text : List ℕ) → extended_of input ≡ Ok extended
    → IsPlayedBeside extended.script (given_of extended) (works_of extended) budget p → IsRunOf p.world.setup p.world.past → Run p.world.setup p.world.past
    → Safe p.world.setup p.world.past → length p.world.past < most_entries
    → text ≡ played_text p.world.setup p.world.past p.side.entered p.side.sizes.rows p.ending → IsAnswer (Extend budget) input (answer_ended p.ending text)
extend_answers extended budget p input text read is of run safe short printed =
    let given = extended_gives input extended read in
    let entered = reverse (placed is.steps) in
    let sizes = (side extended.script.setup (given_of extended) is.steps).sizes in
    let same = printed_is extended budget p is given of run safe text printed in
    by_ending (Extend budget) input text p.ending (record {
      extended = extended;
      kept = is.kept;
      steps = is.steps;
      ending = p.ending;
      read = read;
      promised = beside extended budget p is given of run safe;
      printed = same;
      alone = subst (λ t. HasOneHistory t extended.script.setup (reverse (entries is.steps))) (sym same) (one_history extended budget p is given of run safe entered sizes short);
      ends = refl;
    })
