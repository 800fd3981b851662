-- A drain ends settled with the stated budget, where it selects few nodes; so where no class binds late and provisions.
-- A choice of this project.
use Rattle.std.specs.Prelude.{ℕ, ◌≡◌, ◌≤◌, ◌+◌, ◌*◌, true, false, List, ◌++◌, Some, length, slice_get}
use Rattle.kube_objects.specs.declared.objects.Class.{Class as ClassData}
use Rattle.kube_objects.specs.declared.objects.Object.TheVariants.{Class}
use Rattle.call_types.specs.declared.entry.Entry.{Entry}
use Rattle.call_types.specs.declared.setup.Setup.{Setup}
use Rattle.binder_model.specs.Due.{IsSettled}
use Rattle.binder_model.specs.Promises.{IsRunOf}
use Rattle.binder_model.specs.Provisioning.{provisions}
use Rattle.binder_model.specs.Told.{SomeOf}
use Rattle.binder_model.specs.World.{world}
use Rattle.model_laws.specs.Stood.{Stood}
use Rattle.settle_measure.specs.Left.Measure.{faults_left, work_left}
use Rattle.actor_rounds.specs.declared.drainers.Drainer.{Drainer}
use Rattle.actor_rounds.specs.Drainers.{AreNew, HaveNoEntries, seats_of}
use Rattle.actor_rounds.specs.Rounds.{Drains, all_pass}
use Rattle.settle_calls.specs.Slots.Rounds.{size_of_world}
use Rattle.settle_budget.specs.Nodes.Nodes.{WasGiven}
use Rattle.settle_pays.specs.Drains.All.{ImportsAllow}
use Rattle.settle_budget.specs.Drains.Budget.{AreAlwaysInOrder, IsSmallWorld, enough_calls}
use Rattle.settle_budget.specs.Drains.Rounds.{MaySettle, selected_in}

-- a small world, with the stated budget for it, and 13 actors at most
pub record HasBudget (setup : Setup) (ds : List Drainer) (h : List Entry) (b : ℕ) : Type 0 where
  pub small : IsSmallWorld setup (world setup h)
  pub few : length ds ≤ 13
  pub enough : enough_calls (size_of_world (world setup h)) (faults_left setup (world setup h).devices) ≤ b

-- the scheduler asks for no more nodes than nine for each object and each claim that a pod names, and four for each thing that is left to do
abbrev pub FewSelectionsSettle : Type 0
FewSelectionsSettle =
    (setup : Setup) (ds after : List Drainer) (h past newer : List Entry) (b left : ℕ) → ImportsAllow setup → MaySettle setup ds h
    → HasBudget setup ds h b → IsRunOf setup past → AreAlwaysInOrder setup past → past ≡ newer ++ h
    → selected_in newer ≤ 9 * size_of_world (world setup h) + 4 * work_left setup (world setup h) → Drains all_pass setup after past left ds h b → IsSettled setup (world setup past)

-- no class that ever stood both binds late and provisions: the volumes of each class that waits for a pod are made by hand
abbrev pub NoneProvisionsLate : Setup → List Entry → Type 0
NoneProvisionsLate setup past = (class : ClassData) → Stood setup past (Class class) → class.delayed ≡ true → provisions class ≡ false

-- then a drain ends settled
abbrev pub StaticDrainsSettle : Type 0
StaticDrainsSettle =
    (setup : Setup) (ds after : List Drainer) (h past : List Entry) (b left : ℕ) → ImportsAllow setup → MaySettle setup ds h → HasBudget setup ds h b → IsRunOf setup past → AreAlwaysInOrder setup past
    → NoneProvisionsLate setup past → Drains all_pass setup after past left ds h b → IsSettled setup (world setup past)

-- new drainers, whose seats have no entries, with an agent for each of these nodes: each node that was given is one of them
pub record AreFresh (setup : Setup) (first : ℕ) (nodes : List (List ℕ)) (ds : List Drainer) (h : List Entry) : Type 0 where
  pub new : AreNew first nodes ds
  pub none : HaveNoEntries (seats_of ds) h
  pub differ : (i j : ℕ) (node : List ℕ) → slice_get nodes i ≡ Some node → slice_get nodes j ≡ Some node → i ≡ j
  pub given : (node : List ℕ) → WasGiven setup h node → SomeOf (λ n. n ≡ node) nodes

-- so does a drain of new drainers
abbrev pub NewDrainsSettle : Type 0
NewDrainsSettle =
    (setup : Setup) (first : ℕ) (nodes : List (List ℕ)) (ds after : List Drainer) (h past : List Entry) (b left : ℕ) → ImportsAllow setup
    → IsRunOf setup h → AreFresh setup first nodes ds h → HasBudget setup ds h b → IsRunOf setup past → AreAlwaysInOrder setup past
    → NoneProvisionsLate setup past → Drains all_pass setup after past left ds h b → IsSettled setup (world setup past)
