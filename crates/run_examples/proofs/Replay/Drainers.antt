-- New actors of a drain, and that they stand where their seats have no entries.
use Rattle.std.proofs.Common.{◌≡◌, ℕ, ◌+◌, List, [], ◌∷◌, refl}
use Rattle.call_types.specs.declared.entry.Entry.{Entry}
use Rattle.call_types.specs.declared.request.SeatKind.{SeatKind}
use Rattle.call_types.specs.declared.request.SeatKind.TheVariants as seats
use Rattle.worker_core.specs.declared.role.Role.{Role}
use Rattle.worker_core.specs.Absorbs.{woken}
use Rattle.attention_law.proofs.Kept.{new_queues, wakes_queues}
use Rattle.actor_rounds.specs.declared.drainers.Drainer.{Drainer}
use Rattle.actor_rounds.specs.Drainers.{AreAtRest, AreNew, AreNewAgents, AreStanding, HaveNoEntries, IsNewAt, StandsWhole, agent_of, of_kind, roles_of, seats_of}
use Rattle.actor_rounds.proofs.NewFacts.{new_roles_for, new_seats_for, new_stand}
use Rattle.script_text.specs.declared.script.Script.{Script}
use Rattle.script_runs.specs.Parts.{drain_roles, drain_seat, drain_seats}
use Rattle.actor_rounds.proofs.Resting.{new_rest}
use Rattle.attention_law.specs.Begun.{begun_as}
use Rattle.attention_law.proofs.Begun.{begun_new, begun_stands}
use Rattle.worker_core.proofs.Absorbing.{woken_stands}

pub woken_whole : (role : Role) → StandsWhole (woken (begun_as role)) []
woken_whole role = record { told = woken_stands (begun_as role) [] (begun_stands role); queue = wakes_queues (begun_as role) (new_queues role (begun_as role) (begun_new role)) }

-- ---- the actors of a drain

abbrev pub at_seat : Role → ℕ → Drainer
at_seat role seat = record { seat = seat; actor = begun_as role }

new_at : (kind : SeatKind) (node : List ℕ) (seat : ℕ) → IsNewAt kind node seat (at_seat (record { kind = kind; node = node }) seat)
new_at kind node seat = record { at = refl; is_new = begun_new (record { kind = kind; node = node }); stands = begun_stands (record { kind = kind; node = node }) }

abbrev pub agents_at : ℕ → List (List ℕ) → List Drainer
agents_at seat [] = []
agents_at seat (node ∷ nodes) = at_seat (agent_of node) seat ∷ agents_at (seat + 1) nodes

agents_new : (seat : ℕ) (nodes : List (List ℕ)) → AreNewAgents seat nodes (agents_at seat nodes)
agents_new seat [] = refl
agents_new seat (node ∷ nodes) = (new_at seats.Agent node seat, agents_new (seat + 1) nodes)

abbrev pub drainers_at : ℕ → List (List ℕ) → List Drainer
drainers_at first nodes =
    at_seat (of_kind seats.Scheduler) (first + 2) ∷ at_seat (of_kind seats.Ops) (first + 1) ∷ at_seat (of_kind seats.Binder) first
    ∷ at_seat (of_kind seats.ClaimProtect) (first + 3) ∷ at_seat (of_kind seats.VolumeProtect) (first + 4) ∷ agents_at (first + 5) nodes

pub drainers_new : (first : ℕ) (nodes : List (List ℕ)) → AreNew first nodes (drainers_at first nodes)
drainers_new first nodes = record {
  scheduler = at_seat (of_kind seats.Scheduler) (first + 2);
  ops = at_seat (of_kind seats.Ops) (first + 1);
  binder = at_seat (of_kind seats.Binder) first;
  claims = at_seat (of_kind seats.ClaimProtect) (first + 3);
  volumes = at_seat (of_kind seats.VolumeProtect) (first + 4);
  agents = agents_at (first + 5) nodes;
  are = refl;
  scheduler_is = new_at seats.Scheduler [] (first + 2);
  ops_is = new_at seats.Ops [] (first + 1);
  binder_is = new_at seats.Binder [] first;
  claims_is = new_at seats.ClaimProtect [] (first + 3);
  volumes_is = new_at seats.VolumeProtect [] (first + 4);
  agents_are = agents_new (first + 5) nodes;
}

abbrev pub drainers_of : Script → List Drainer
drainers_of script = drainers_at (drain_seat script) script.node_names

pub drainers_seats : (script : Script) → seats_of (drainers_of script) ≡ drain_seats script
drainers_seats script = new_seats_for (drain_seat script) script.node_names (drainers_of script) (drainers_new (drain_seat script) script.node_names)

pub drainers_roles : (script : Script) → roles_of (drainers_of script) ≡ drain_roles script
drainers_roles script = new_roles_for (drain_seat script) script.node_names (drainers_of script) (drainers_new (drain_seat script) script.node_names)

pub drainers_stand : (script : Script) (past : List Entry) → HaveNoEntries (seats_of (drainers_of script)) past → AreStanding (drainers_of script) past
drainers_stand script past none = new_stand (drain_seat script) script.node_names (drainers_of script) (drainers_new (drain_seat script) script.node_names) past none

pub drainers_rest : (script : Script) → AreAtRest (drainers_of script)
drainers_rest script = new_rest (drain_seat script) script.node_names (drainers_of script) (drainers_new (drain_seat script) script.node_names)
