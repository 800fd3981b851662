-- What a replay answers, with what is promised of its history.
use Rattle.std.proofs.Common.{◌≡◌, ◌∙◌, ℕ, ◌<◌, List, Option, Result, Ok, Err, IfOk, length, reverse, refl, ap, subst, sym}
use Rattle.call_types.specs.declared.entry.Entry.{Entry}
use Rattle.call_types.specs.declared.setup.Setup.{Setup}
use Rattle.binder_model.specs.Promises.{IsRunOf, most_entries}
use Rattle.binder_model.specs.World.{world}
use Rattle.binder_model.specs.Run.{Run}
use Rattle.binder_model.specs.Safe.{Safe}
use Rattle.world_core.specs.declared.drained.Drained.{Drained}
use Rattle.world_core.specs.declared.drained.Drained.TheVariants.{Settled, Spent}
use Rattle.size_law.specs.Calls.Calls.{AreByActors}
use Rattle.size_law.proofs.Calls.Turns.{actors_give_enough}
use Rattle.history_text.specs.Output.{final_lines}
use Rattle.script_lines.specs.declared.errors.BadLine.{BadLine}
use Rattle.script_text.specs.declared.script.Script.{Script}
use Rattle.script_text.specs.Grammar.{script_of}
use Rattle.script_laws.specs.Read.Scripts.{IsScript}
use Rattle.script_laws.proofs.Read.TextsGive.{ScriptGiven, script_gives}
use Rattle.script_runs.specs.Played.{IsPlayedReplay}
use Rattle.script_runs.specs.Replays.{IsReplay}
use Rattle.script_runs.proofs.Readable.{script_readable}
use Rattle.script_threads.specs.Runs.{IsRun}
use Rattle.script_gen.specs.Generated.{generated}
use Rattle.script_laws.proofs.Generated.Whole.{generated_is_script}
use Rattle.replay_laws.proofs.Drains.Asking.{replayed_pods_are_on_named}
use Rattle.replay_laws.proofs.Drains.Moves.{replayed_drains_last}
use Rattle.replay_laws.proofs.Drains.Threaded.{threaded_drains_last}
use Rattle.replay_laws.proofs.Drains.Working.{threaded_pods_are_on_named}
use Rattle.history_laws.specs.Runs.Laws.{HasOneHistory}
use Rattle.replay_laws.proofs.Printable.Replays.{replay_texts_have_one, replayed_run}
use Rattle.replay_laws.proofs.Printable.Threads.{made_by_threads, thread_texts_have_one}
use Rattle.replay_laws.specs.Settles.Settling.{IsGivenScript}
use Rattle.replay_laws.proofs.Settles.Settling.{last_drains_settle, threaded_drains_settle}
use Rattle.replay_laws.proofs.Settles.Drains.{replayed_drains_are_short, threaded_drains_are_short}
use Rattle.binder_console.specs.declared.commands.Task.{Task}
use Rattle.binder_console.specs.declared.commands.Task.TheVariants.{Replay, Run as RunTask, Gen}
use Rattle.binder_console.specs.Outcomes.{Answers, IsAnswer, answer_ended}
use Rattle.binder_console.specs.Replays.{IsPromised, last_summary, replay_text, status_of, summary_text}

pub by_ending : (task : Task) (input text : List ℕ) (ending : Drained) → Answers task (status_of ending) input text → IsAnswer task input (answer_ended ending text)
by_ending task input text (Settled made) h = h
by_ending task input text (Spent made key due) h = h

-- what is read is a script that a text can give
read_is_script : (bytes : List ℕ) (script : Script) → script_of bytes ≡ Ok script → IsScript script
read_is_script bytes script e = by (script_of bytes) (script_gives bytes) e
  where
    by : (r : Result Script BadLine) → IfOk r ScriptGiven → r ≡ Ok script → IsScript script
    by (Ok s) given is = let same : s ≡ script = cc in subst IsScript same given.script
    by (Err b) given is = absurd cc

-- the facts of a replay that its call gives
pub record IsPlayed (script : Script) (budget : Option ℕ) (setup : Setup) (past : List Entry) (ending : Drained) : Type 0 where
  pub calls : IsReplay script budget past ending
  pub played : IsPlayedReplay script budget past ending
  pub actors : AreByActors past
  pub from : setup ≡ script.setup
  pub of : IsRunOf setup past
  pub run : Run setup past
  pub safe : Safe setup past

pub promised : (script : Script) (budget : Option ℕ) (past : List Entry) (ending : Drained) → IsScript script → IsPlayed script budget script.setup past ending → IsPromised script budget past ending
promised script budget past ending is p = record {
  calls = p.played.calls;
  played = p.played.played;
  run = p.run;
  safe = p.safe;
  enough = actors_give_enough script.setup past p.of p.actors;
  lasting = replayed_drains_last script budget past ending (script_readable script is) p.of p.played.calls;
  named = replayed_pods_are_on_named script budget past ending is.nodes p.run p.played.calls;
  short = replayed_drains_are_short script budget past ending given.readable given.given p.played.calls;
  settling = λ may. ap status_of (last_drains_settle script budget past ending given p.played.calls may).is;
}
  where
    given : IsGivenScript script past
    given = record {
      readable = script_readable script is;
      names = is.nodes;
      given = replayed_run script budget past ending (record { script_given = is; replay = p.calls; run = p.run; short = p.of.short });
    }

has_one : (script : Script) (budget : Option ℕ) (past : List Entry) (ending : Drained) (text : List ℕ)
    → IsScript script → IsPlayed script budget script.setup past ending → length past < most_entries → text ≡ replay_text script.setup past ending → HasOneHistory text script.setup (reverse past)
unfolding replay_text
has_one script budget past ending text is p short printed =
    let finals : List (List ℕ) = final_lines (world script.setup past).store.rows (last_summary (world script.setup past) ending) in
    subst (λ (t : List ℕ). HasOneHistory t script.setup (reverse past)) (sym printed)
    (replay_texts_have_one script budget past ending finals (record { script_given = is; replay = p.calls; run = p.run; short = short }))

-- from the setup of the script itself
from_script : (script : Script) (budget : Option ℕ) (setup : Setup) (past : List Entry) (ending : Drained) → IsPlayed script budget setup past ending → IsPlayed script budget script.setup past ending
from_script script budget setup past ending p = subst (λ (s : Setup). IsPlayed script budget s past ending) p.from p

pub replay_answers : (script : Script) (budget : Option ℕ) (setup : Setup) (past : List Entry) (ending : Drained) (input text : List ℕ)
    → script_of input ≡ Ok script → IsPlayed script budget setup past ending → length past < most_entries → text ≡ replay_text setup past ending
    → IsAnswer (Replay budget) input (answer_ended ending text)
replay_answers script budget setup past ending input text read played short printed =
    let p : IsPlayed script budget script.setup past ending = from_script script budget setup past ending played in
    let same : text ≡ replay_text script.setup past ending = printed ∙ ap (λ (s : Setup). replay_text s past ending) played.from in
    by_ending (Replay budget) input text ending (record {
      script = script;
      past = past;
      ending = ending;
      read = read;
      promised = promised script budget past ending (read_is_script input script read) p;
      printed = same;
      alone = has_one script budget past ending text (read_is_script input script read) p short same;
      ends = refl;
    })

pub gen_answers : (seed : ℕ) (script : Script) (budget : Option ℕ) (setup : Setup) (past : List Entry) (ending : Drained) (input text : List ℕ)
    → script ≡ generated seed → IsPlayed script budget setup past ending → text ≡ summary_text setup past ending
    → IsAnswer (Gen seed budget) input (answer_ended ending text)
gen_answers seed script budget setup past ending input text is played printed =
    let p : IsPlayed (generated seed) budget (generated seed).setup past ending =
    subst (λ (s : Script). IsPlayed s budget s.setup past ending) is (from_script script budget setup past ending played) in
    by_ending (Gen seed budget) input text ending (record {
      past = past;
      ending = ending;
      promised = promised (generated seed) budget past ending (generated_is_script seed) p;
      printed = printed ∙ ap (λ (s : Setup). summary_text s past ending) (played.from ∙ ap (λ (s : Script). s.setup) is);
      ends = refl;
    })

-- ---- on threads

-- the facts of a run on threads that its call gives
pub record IsRanOnThreads (script : Script) (workers calls : ℕ) (budget : Option ℕ) (setup : Setup) (past : List Entry) (ending : Drained) : Type 0 where
  pub calls_are : IsRun script workers calls budget past ending
  pub actors : AreByActors past
  pub from : setup ≡ script.setup
  pub of : IsRunOf setup past
  pub run : Run setup past
  pub safe : Safe setup past

run_from_script : (script : Script) (workers calls : ℕ) (budget : Option ℕ) (setup : Setup) (past : List Entry) (ending : Drained)
    → IsRanOnThreads script workers calls budget setup past ending → IsRanOnThreads script workers calls budget script.setup past ending
run_from_script script workers calls budget setup past ending p = subst (λ (s : Setup). IsRanOnThreads script workers calls budget s past ending) p.from p

run_has_one : (script : Script) (workers calls : ℕ) (budget : Option ℕ) (past : List Entry) (ending : Drained) (text : List ℕ)
    → IsScript script → IsRanOnThreads script workers calls budget script.setup past ending → length past < most_entries → text ≡ replay_text script.setup past ending
    → HasOneHistory text script.setup (reverse past)
unfolding replay_text
run_has_one script workers calls budget past ending text is p short printed =
    let finals : List (List ℕ) = final_lines (world script.setup past).store.rows (last_summary (world script.setup past) ending) in
    subst (λ (t : List ℕ). HasOneHistory t script.setup (reverse past)) (sym printed)
    (thread_texts_have_one script workers calls budget past ending finals (record { script_given = is; calls_are = p.calls_are; run = p.run; short = short }))

given_of_threads : (script : Script) (workers calls : ℕ) (budget : Option ℕ) (past : List Entry) (ending : Drained) → IsScript script
    → IsRanOnThreads script workers calls budget script.setup past ending → IsGivenScript script past
given_of_threads script workers calls budget past ending is p = record {
  readable = script_readable script is;
  names = is.nodes;
  given = made_by_threads script workers calls budget past ending (record { script_given = is; calls_are = p.calls_are; run = p.run; short = p.of.short });
}

pub run_answers : (script : Script) (workers calls : ℕ) (budget : Option ℕ) (setup : Setup) (past : List Entry) (ending : Drained) (input text : List ℕ)
    → script_of input ≡ Ok script → IsRanOnThreads script workers calls budget setup past ending → length past < most_entries → text ≡ replay_text setup past ending
    → IsAnswer (RunTask workers calls budget) input (answer_ended ending text)
run_answers script workers calls budget setup past ending input text read ran short printed =
    let p : IsRanOnThreads script workers calls budget script.setup past ending = run_from_script script workers calls budget setup past ending ran in
    let same : text ≡ replay_text script.setup past ending = printed ∙ ap (λ (s : Setup). replay_text s past ending) ran.from in
    by_ending (RunTask workers calls budget) input text ending (record {
      script = script;
      past = past;
      ending = ending;
      read = read;
      promised = record {
        calls_are = p.calls_are;
        run = p.run;
        safe = p.safe;
        enough = actors_give_enough script.setup past p.of p.actors;
        lasting = threaded_drains_last script workers calls budget past ending p.of p.calls_are;
        named = threaded_pods_are_on_named script workers calls budget past ending (read_is_script input script read).nodes p.run p.calls_are;
        short = threaded_drains_are_short script workers calls budget past ending
            (given_of_threads script workers calls budget past ending (read_is_script input script read) p).readable
            (given_of_threads script workers calls budget past ending (read_is_script input script read) p).given p.calls_are;
        settling = λ allows. ap status_of (threaded_drains_settle script workers calls budget past ending
            (given_of_threads script workers calls budget past ending (read_is_script input script read) p) p.calls_are allows).is;
      };
      printed = same;
      alone = run_has_one script workers calls budget past ending text (read_is_script input script read) p short same;
      ends = refl;
    })
