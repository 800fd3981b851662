-- The last drain of a replay, and the drain of a run on threads, end settled with the stated budget.
use Rattle.std.proofs.Common.{◌≡◌, ◌∙◌, ℕ, ◌-◌, List, Option, inr, refl, sym, ap, subst, arith}
use Rattle.call_types.specs.declared.entry.Entry.{Entry}
use Rattle.binder_model.specs.Due.{IsSettled}
use Rattle.binder_model.specs.Promises.{IsRunOf}
use Rattle.binder_model.specs.World.{world}
use Rattle.settle_check.proofs.Settled.{not_settled}
use Rattle.world_core.specs.declared.drained.Drained.{Drained}
use Rattle.world_core.specs.declared.drained.Drained.TheVariants.{Settled, Spent}
use Rattle.actor_rounds.specs.Rounds.{all_pass}
use Rattle.actor_rounds.proofs.DrainFacts.{drains_grow}
use Rattle.history_laws.specs.Runs.Laws.{IsGivenRun}
use Rattle.script_text.specs.declared.script.Script.{Script}
use Rattle.script_runs.specs.Parts.{drain_seat}
use Rattle.script_runs.specs.Replays.{EndsAs, IsDrain, Progress}
use Rattle.script_runs.proofs.Staging.{after_first}
use Rattle.script_runs.proofs.Staying.{IsGrown}
use Rattle.script_threads.specs.Runs.{progress_after}
use Rattle.script_threads.specs.Started.{drain_seat as threads_drain_seat}
use Rattle.replay_laws.proofs.Drains.Asking.{given_before, replay_creates}
use Rattle.replay_laws.proofs.Drains.Moves.{last_are, lines_silence_the_overtaken}
use Rattle.replay_laws.proofs.Drains.Threaded.{silent_first, threaded_drainers}
use Rattle.replay_laws.proofs.Drains.Working.{run_creates}
use Rattle.replay_laws.specs.Settles.Settling.{AllowsSettling, EndsSettled, LastDrainsSettle, ThreadedDrainsSettle}
use Rattle.replay_laws.proofs.Settles.Awake.{unused_are_awake}
use Rattle.replay_laws.proofs.Settles.Drain.{drain_settles}

-- where nothing is due at the end, the ending says so
says : (script : Script) (end : Progress) (past : List Entry) (ending : Drained) → past ≡ end.past → EndsAs script.setup end ending
    → IsSettled script.setup (world script.setup end.past) → EndsSettled script past ending
says script end past (Settled made) is ends settled = record { settled = subst (λ h. IsSettled script.setup (world script.setup h)) (sym is) settled; made = made; is = refl }
says script end past (Spent made key due) is ends settled = absurd (not_settled script.setup (world script.setup end.past) (key, due) ends.2 settled)

drain_grows : (script : Script) (option : Option ℕ) (before after : Progress) → IsDrain all_pass script option before after → IsGrown before.past after.past
drain_grows script option before after d =
    let g = drains_grow all_pass script.setup d.ran d.past _ before.drainers before.past _ d.rounds in
    record { newer = g.longer.added; are = ap (λ (p : Progress). p.past) d.is ∙ g.longer.are }

pub last_drains_settle : LastDrainsSettle
last_drains_settle script option past ending is replay may =
    says script replay.end past ending replay.history replay.ends
    (drain_settles script (drain_seat script) option replay.lines_done replay.end replay.last
    (last_are script option past ending is.readable run replay) is.readable given
    (lines_silence_the_overtaken script option past ending is.readable run replay)
    may.awake
    (given_before script past is.names is.given.run (replay_creates script option past ending replay) grown.newer replay.lines_done.past (replay.history ∙ grown.are))
    (subst (λ h. AllowsSettling script.setup replay.lines_done.past h (replay.last.budget - replay.lines_done.drained)) replay.history may.allows))
  where
    run : IsRunOf script.setup past
    run = record { imports = is.given.setup_given.passing; short = is.given.short; run = is.given.run }

    given : IsGivenRun script.setup replay.end.past
    given = subst (IsGivenRun script.setup) replay.history is.given

    grown : IsGrown replay.lines_done.past replay.end.past
    grown = drain_grows script option replay.lines_done replay.end replay.last

pub threaded_drains_settle : ThreadedDrainsSettle
threaded_drains_settle script workers calls option past ending is r allows =
    says script r.end past ending r.history r.ends
    (drain_settles script (threads_drain_seat workers script) option (progress_after r.worked option r.drainers) r.end r.last
    (threaded_drainers script workers calls option past ending r) is.readable given
    (silent_first script workers calls r.worked r.work)
    (unused_are_awake script (threads_drain_seat workers script) r.worked (λ seat among. r.work.others seat (inr (after_first (threads_drain_seat workers script) script.node_names seat among))))
    (given_before script past is.names is.given.run (run_creates script workers calls option past ending r) grown.newer r.worked (r.history ∙ grown.are))
    (subst (λ h. AllowsSettling script.setup r.worked h (r.last.budget - 0)) r.history all))
  where
    given : IsGivenRun script.setup r.end.past
    given = subst (IsGivenRun script.setup) r.history is.given

    grown : IsGrown r.worked r.end.past
    grown = drain_grows script option (progress_after r.worked option r.drainers) r.end r.last

    all : AllowsSettling script.setup r.worked past (r.last.budget - 0)
    all = let same : r.last.budget ≡ r.last.budget - 0 = omega arith in subst (AllowsSettling script.setup r.worked past) same allows
