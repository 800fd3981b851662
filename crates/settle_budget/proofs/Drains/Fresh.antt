-- New drainers, with an agent for each node that was given, may settle.
use Rattle.std.proofs.Common.{◌≡◌, ◌∙◌, ◌+◌, ℕ, zero, suc, List, false, true≢false, Option, Some, None, refl, sym, ap, subst, arith}
use Rattle.std.specs.Prelude.{option_map, slice_get}
use Rattle.call_types.specs.declared.entry.Entry.{Entry}
use Rattle.call_types.specs.declared.request.SeatKind.{SeatKind}
use Rattle.call_types.specs.declared.request.SeatKind.TheVariants as seats
use Rattle.call_types.specs.declared.setup.Setup.{Setup}
use Rattle.binder_model.specs.Promises.{IsRunOf}
use Rattle.model_laws.proofs.Lists.{none_some, one}
use Rattle.worker_core.specs.declared.role.Role.{Role}
use Rattle.actor_rounds.specs.declared.drainers.Drainer.{Drainer}
use Rattle.actor_rounds.specs.Drainers.{AreStanding, agent_of, of_kind, roles_for}
use Rattle.actor_rounds.proofs.NewFacts.{new_differ, new_roles_for, new_stand}
use Rattle.actor_rounds.proofs.Resting.{new_rest}
use Rattle.settle_alike.proofs.Alike.Rows.{get_mapped}
use Rattle.settle_progress.proofs.Drains.Fresh.{fresh_drainers_serve}
use Rattle.settle_progress.proofs.Drains.Rounds.{is_agent}
use Rattle.settle_budget.specs.Drains.Rounds.{AreNodesApart, MaySettle}
use Rattle.settle_budget.specs.Drains.Selections.{AreFresh, NewDrainsSettle}
use Rattle.settle_budget.proofs.Drains.Selections.{static_drains_settle}

-- ---- no two are agents of one node

no_agent : (kind : SeatKind) (node : List ℕ) → is_agent kind ≡ false → Some (of_kind kind) ≡ Some (agent_of node) → ⊥
no_agent kind node other same = true≢false (sym (ap (λ (r : Role). is_agent r.kind) (one (of_kind kind) (agent_of node) same)) ∙ other)

-- an agent stands behind the controllers, at the place of its node
record IsBehind (nodes : List (List ℕ)) (i : ℕ) (node : List ℕ) : Type 0 where
  place : ℕ
  is : i ≡ place + 5
  at : slice_get nodes place ≡ Some node

behind : (nodes : List (List ℕ)) (i : ℕ) (node : List ℕ) → slice_get (roles_for nodes) i ≡ Some (agent_of node) → IsBehind nodes i node
behind nodes zero node e = absurd (no_agent seats.Scheduler node refl e)
behind nodes (suc zero) node e = absurd (no_agent seats.Ops node refl e)
behind nodes (suc (suc zero)) node e = absurd (no_agent seats.Binder node refl e)
behind nodes (suc (suc (suc zero))) node e = absurd (no_agent seats.ClaimProtect node refl e)
behind nodes (suc (suc (suc (suc zero)))) node e = absurd (no_agent seats.VolumeProtect node refl e)
behind nodes (suc (suc (suc (suc (suc place))))) node e = record { place = place; is = omega arith; at = by (slice_get nodes place) refl }
  where
    there : option_map agent_of (slice_get nodes place) ≡ Some (agent_of node)
    there = sym (get_mapped agent_of nodes place) ∙ e

    by : (x : Option (List ℕ)) → slice_get nodes place ≡ x → slice_get nodes place ≡ Some node
    by None is = none_some (sym (ap (option_map agent_of) is) ∙ there)
    by (Some n) is = is ∙ ap (λ (r : Role). Some r.node) (one (agent_of n) (agent_of node) (sym (ap (option_map agent_of) is) ∙ there))

pub agents_apart : (nodes : List (List ℕ)) → ((i j : ℕ) (node : List ℕ) → slice_get nodes i ≡ Some node → slice_get nodes j ≡ Some node → i ≡ j) → AreNodesApart (roles_for nodes)
agents_apart nodes differ i j node one_ other =
    let a = behind nodes i node one_ in
    let b = behind nodes j node other in
    let same = differ a.place b.place node a.at b.at in
    let x = a.is in
    let y = b.is in
    omega (arith, same, x, y)

module _ (setup : Setup) (first : ℕ) (nodes : List (List ℕ)) (ds : List Drainer) (h : List Entry) (fresh : AreFresh setup first nodes ds h) where
  abbrev stand : AreStanding ds h
  stand = record { each = (new_stand first nodes ds fresh.new h fresh.none).each; roles = record { nodes = nodes; are = new_roles_for first nodes ds fresh.new } }

  may_settle : IsRunOf setup h → MaySettle setup ds h
  may_settle run = record {
    may = record { run = run; seats = new_differ first nodes ds fresh.new; stand = stand };
    rests = new_rest first nodes ds fresh.new;
    only = (fresh_drainers_serve setup ds h stand fresh.none).0;
    apart = subst AreNodesApart (sym (new_roles_for first nodes ds fresh.new)) (agents_apart nodes fresh.differ);
    served = λ node given. (fresh_drainers_serve setup ds h stand fresh.none).1 node (fresh.given node given);
  }

pub new_drains_settle : NewDrainsSettle
new_drains_settle setup first nodes ds after h past b left allow here fresh has run order delayed drained =
    static_drains_settle setup ds after h past b left allow (may_settle setup first nodes ds h fresh here) has run order delayed drained
