-- So it is of the drain with which a run on threads ends: its clients come after all others.
use Rattle.std.proofs.Common.{◌≡◌, ◌∙◌, ℕ, List, [], Option, true≢false, inr, sym, ap, subst}
use Rattle.call_types.specs.declared.entry.Entry.{Entry}
use Rattle.binder_model.specs.Promises.{IsRunOf}
use Rattle.binder_model.specs.Told.{own}
use Rattle.worker_core.specs.Memories.{memory_of}
use Rattle.world_core.specs.declared.drained.Drained.{Drained}
use Rattle.actor_rounds.specs.Drainers.{agent_of, seats_for}
use Rattle.script_text.specs.declared.script.Script.{Script}
use Rattle.script_runs.specs.Drains.{AreDrainers}
use Rattle.script_runs.proofs.Draining.{new_ones_are_drainers}
use Rattle.script_runs.proofs.Staging.{after_first}
use Rattle.script_threads.specs.Runs.{IsRun, progress_after}
use Rattle.script_threads.specs.Started.{drain_seat}
use Rattle.script_threads.specs.Threads.{IsThreadedWork}
use Rattle.replay_laws.specs.Drains.Lasting.{ThreadedDrainsLast}
use Rattle.replay_laws.proofs.Drains.Apart.{one_at}
use Rattle.replay_laws.proofs.Drains.Drained.{AreSilentIfOvertaken, drain_lasts}

-- no seat of the drain has an entry when it begins
pub silent_first : (script : Script) (workers calls : ℕ) (worked : List Entry) → IsThreadedWork script workers calls worked → AreSilentIfOvertaken script (drain_seat workers script) worked
silent_first script workers calls worked work place seat node at_seat at_role silent = absurd (true≢false (sym silent ∙ ap (λ es. (memory_of (agent_of node) es).stale) none))
  where
    none : own seat worked ≡ []
    none = work.others seat (inr (after_first (drain_seat workers script) script.node_names seat (one_at (seats_for (drain_seat workers script) script.node_names) place seat at_seat)))

-- its clients are new
pub threaded_drainers : (script : Script) (workers calls : ℕ) (option : Option ℕ) (past : List Entry) (ending : Drained) (r : IsRun script workers calls option past ending)
    → AreDrainers script (drain_seat workers script) option (progress_after r.worked option r.drainers)
threaded_drainers script workers calls option past ending r =
    new_ones_are_drainers script (drain_seat workers script) option (progress_after r.worked option r.drainers) r.new

pub threaded_drains_last : ThreadedDrainsLast
threaded_drains_last script workers calls option past ending run r =
    drain_lasts script (drain_seat workers script) option (progress_after r.worked option r.drainers) r.end r.last
    (threaded_drainers script workers calls option past ending r) (subst (IsRunOf script.setup) r.history run) (silent_first script workers calls r.worked r.work)
