-- What a replay or a run on threads promises, and what it writes. The newest entry of a history stands first.
-- The format is a choice of this project.
use Rattle.std.specs.Prelude.{ℕ, ◌≡◌, List, [], Option, length, reverse, Ok}
use Rattle.call_types.specs.declared.entry.Entry.{Entry}
use Rattle.call_types.specs.declared.setup.Setup.{Setup}
use Rattle.binder_model.specs.World.{World, world}
use Rattle.binder_model.specs.Run.{Run}
use Rattle.binder_model.specs.Safe.{Safe}
use Rattle.device_model.specs.Kept.{count_there}
use Rattle.world_core.specs.declared.drained.Drained.{Drained}
use Rattle.world_core.specs.declared.drained.Drained.TheVariants.{Settled, Spent}
use Rattle.history_text.specs.declared.summary.Ending.{Ending}
use Rattle.history_text.specs.declared.summary.Ending.TheVariants as endings
use Rattle.history_text.specs.declared.summary.Summary.{Summary}
use Rattle.history_text.specs.Summaries.{summary_of, summary_lines}
use Rattle.history_text.specs.Output.{final_lines, history_text, with_lines}
use Rattle.script_text.specs.declared.script.Script.{Script}
use Rattle.script_text.specs.Grammar.{script_of}
use Rattle.script_runs.specs.Played.{ArePlayed}
use Rattle.script_runs.specs.Replays.{IsReplay}
use Rattle.script_threads.specs.Runs.{IsRun}
use Rattle.history_laws.specs.Runs.Laws.{HasOneHistory}
use Rattle.script_gen.specs.Generated.{generated}
use Rattle.size_law.specs.Law.Enough.{GetEnoughThroughout}
use Rattle.replay_laws.specs.Drains.Lasting.{DrainsLast, ThreadedDrainLasts}
use Rattle.replay_laws.specs.Drains.Naming.{ArePodsOnNamedThroughout}
use Rattle.replay_laws.specs.Settles.Settling.{AllowsSettling, LastDrainMaySettle}
use Rattle.replay_laws.specs.Settles.Short.{DrainsAreShort, ThreadedDrainIsShort}
use Rattle.binder_console.specs.declared.status.Status.{Status}
use Rattle.binder_console.specs.declared.status.Status.TheVariants.{Done, Unsettled}

-- ---- what is written

-- the ending as the summary has it
abbrev pub ending_of : Drained → Ending
ending_of (Settled made) = endings.Settled
ending_of (Spent made key due) = endings.Unsettled made key due

-- the numbers of the last world, and how its drains ended
unfoldable pub last_summary : World → Drained → Summary
last_summary w ending = summary_of w.store.rows w.store.version (length w.devices.mounts) (count_there w.devices.stored) w.devices.calls (ending_of ending)

-- the setup and the entries, the oldest first; then the objects and the numbers of the last world
unfoldable pub replay_text : Setup → List Entry → Drained → List ℕ
replay_text setup past ending = with_lines (history_text setup (reverse past)) (final_lines (world setup past).store.rows (last_summary (world setup past) ending))

-- the numbers alone
unfoldable pub summary_text : Setup → List Entry → Drained → List ℕ
summary_text setup past ending = with_lines [] (summary_lines (last_summary (world setup past) ending))

-- with nothing due, or with the calls of the drains spent and something due
abbrev pub status_of : Drained → Status
status_of (Settled made) = Done
status_of (Spent made key due) = Unsettled

-- ---- the promise

-- What is promised of the history of a script.
pub record IsPromised (script : Script) (budget : Option ℕ) (past : List Entry) (ending : Drained) : Type 0 where
  -- it has the calls of the script's lines in order, and then those of a drain, which ended so
  pub calls : IsReplay script budget past ending
  -- with these calls each life of each actor that a turn line names is one that its actor played
  pub played : ArePlayed script calls.end
  -- each reply is the world's, and each controller asked only what it had been told allowed
  pub run : Run script.setup past
  -- at every point no completed claim lacks its volume, and nothing that is in use has left or was erased
  pub safe : Safe script.setup past
  -- no claim got less than it asked for, but where users bound a volume and a claim by hand
  pub enough : GetEnoughThroughout script.setup past
  -- each whole round of its drains that begins with something due, for an actor that is no stale agent, has an entry that lasts
  pub lasting : DrainsLast script budget past ending calls
  -- at every point each pod that a node runs is on a node that the script names, so its drains have an agent of that node
  pub named : ArePodsOnNamedThroughout script past
  -- each round of a drain makes at most 256 calls for each object and each claim that a pod names, for each planned fault that is ahead, and
  -- for 16 more
  pub short : DrainsAreShort script budget past ending calls
  -- where its last drain may settle it does, so the status is 0: 3 does not come. It may where, as the drain begins, claims are shared well
  -- (or no class that ever stood both binds late and provisions), the world is small, the stated budget is left for it, and no agent of the
  -- drains is stale
  pub settling : LastDrainMaySettle script budget past ending calls → status_of ending ≡ Done

-- The input is a script, and the text is that of one history from the script's setup, of which all is promised. The status
-- says how the last drain ended.
pub record Replays (budget : Option ℕ) (status : Status) (input text : List ℕ) : Type 0 where
  pub script : Script
  pub past : List Entry
  pub ending : Drained
  pub read : script_of input ≡ Ok script
  pub promised : IsPromised script budget past ending
  pub printed : text ≡ replay_text script.setup past ending
  -- no other setup and entries that a text can give have this text
  pub alone : HasOneHistory text script.setup (reverse past)
  pub ends : status ≡ status_of ending

-- The text has the numbers of the replay of the seed's script. The status says how its last drain ended.
pub record Generates (seed : ℕ) (budget : Option ℕ) (status : Status) (text : List ℕ) : Type 0 where
  pub past : List Entry
  pub ending : Drained
  pub promised : IsPromised (generated seed) budget past ending
  pub printed : text ≡ summary_text (generated seed).setup past ending
  pub ends : status ≡ status_of ending

-- What is promised of the history of a script that was run on threads: no less than of a replay.
pub record IsPromisedOfThreads (script : Script) (workers calls : ℕ) (budget : Option ℕ) (past : List Entry) (ending : Drained) : Type 0 where
  -- each user's entries are its lines; so many workers of each kind, and an agent of each node, made so many calls each, in
  -- lives that they played; no other seat has an entry. Then comes a drain, by new actors, which ended so
  pub calls_are : IsRun script workers calls budget past ending
  pub run : Run script.setup past
  pub safe : Safe script.setup past
  pub enough : GetEnoughThroughout script.setup past
  -- so it is of each whole round of its drain
  pub lasting : ThreadedDrainLasts script workers calls budget past ending calls_are
  pub named : ArePodsOnNamedThroughout script past
  pub short : ThreadedDrainIsShort script workers calls budget past ending calls_are
  -- and its drain settles under the same premises, but that of stale agents: it has none
  pub settling : AllowsSettling script.setup calls_are.worked past calls_are.last.budget → status_of ending ≡ Done

-- The input is a script, and the text is that of one history from the script's setup, of which all is promised. The status
-- says how the drain ended.
pub record RunsOnThreads (workers calls : ℕ) (budget : Option ℕ) (status : Status) (input text : List ℕ) : Type 0 where
  pub script : Script
  pub past : List Entry
  pub ending : Drained
  pub read : script_of input ≡ Ok script
  pub promised : IsPromisedOfThreads script workers calls budget past ending
  pub printed : text ≡ replay_text script.setup past ending
  -- no other setup and entries that a text can give have this text
  pub alone : HasOneHistory text script.setup (reverse past)
  pub ends : status ≡ status_of ending
