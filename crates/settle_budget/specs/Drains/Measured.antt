-- How the rounds of a drain are counted by what is left to do and by the nodes that are still to be tried: what tries must be for that.
-- A choice of this project.
use Rattle.std.specs.Prelude.{ℕ, ◌≡◌, ◌≢◌, ◌⊎◌, ◌≤◌, ◌+◌, Bool, true, false, not, List, Option, Some, length}
use Rattle.kube_objects.specs.declared.key.Key.{Key}
use Rattle.kube_parts.specs.declared.names.Due.{Due}
use Rattle.kube_objects.specs.declared.objects.Claim.{Claim as ClaimData}
use Rattle.kube_objects.specs.declared.objects.Pod.{Pod as PodData}
use Rattle.kube_objects.specs.declared.objects.Object.{Object}
use Rattle.kube_objects.specs.declared.objects.Object.TheVariants.{Class, Pod}
use Rattle.kube_objects.specs.Bindings.{class_of_claim, is_completed, is_scheduled}
use Rattle.kube_objects.specs.Keys.{row_at}
use Rattle.call_types.specs.declared.entry.Entry.{Entry}
use Rattle.call_types.specs.declared.setup.Setup.{Setup}
use Rattle.binder_model.specs.Choice.{claim_named}
use Rattle.binder_model.specs.Due.{IsFirstDue, IsSettled}
use Rattle.binder_model.specs.ObjectKeys.{class_key}
use Rattle.binder_model.specs.Promises.{IsRunOf}
use Rattle.binder_model.specs.Told.{SomeOf}
use Rattle.binder_model.specs.World.{World, world}
use Rattle.settle_measure.specs.Left.Bounds.{measure}
use Rattle.settle_measure.specs.Left.Measure.{work_left}
use Rattle.actor_rounds.specs.declared.drainers.Drainer.{Drainer}
use Rattle.actor_rounds.specs.Rounds.{Drains, IsRound, all_pass}
use Rattle.settle_pays.specs.Drains.All.{ImportsAllow}
use Rattle.settle_budget.specs.Drains.Budget.{AreAlwaysInOrder}
use Rattle.settle_budget.specs.Drains.Drains.{rounds_in}
use Rattle.settle_budget.specs.Drains.Rounds.{MaySettle}
use Rattle.settle_budget.specs.Drains.Selections.{HasBudget}

-- a pod without a node, under this key, names the claim
pub record WaitingPodNames (w : World) (key : Key) (namespace name : List ℕ) : Type 0 where
  pub pod : PodData
  pub there : row_at key w.store.rows ≡ Some (Pod pod)
  pub waits : is_scheduled pod ≡ false
  pub same : pod.meta.namespace ≡ namespace
  pub names : SomeOf (λ n. n ≡ name) pod.claims

-- a class stands there that binds at once
abbrev pub is_immediate : Option Object → Bool
is_immediate (Some (Class x)) = not x.delayed
is_immediate o = false

-- each claim that two pods without a node name is completed, or has a class that binds at once: else these pods might move it for ever
abbrev pub SharesWell : World → Type 0
SharesWell w =
    (first second : Key) (namespace name : List ℕ) (c : ClaimData) → WaitingPodNames w first namespace name → WaitingPodNames w second namespace name
    → first ≢ second → claim_named w.store.rows namespace name ≡ Some c
    → (is_completed c ≡ true) ⊎ (is_immediate (row_at (class_key (class_of_claim c)) w.store.rows) ≡ true)

-- whole rounds, one after the other, from these drainers and entries on: each begins with something due and leaves as much to do
pub data AreQuiet (setup : Setup) (ds : List Drainer) (h : List Entry) : ℕ → List Drainer → List Entry → Type 0 where
  NoRound : {rounds : ℕ} {after : List Drainer} {past : List Entry} → rounds ≡ 0 → after ≡ ds → past ≡ h → AreQuiet setup ds h rounds after past
  OneMore : {rounds : ℕ} {after : List Drainer} {past : List Entry} (before : ℕ) (between : List Drainer) (middle : List Entry) (b left : ℕ)
      (first : Key × Due) → rounds ≡ before + 1 → AreQuiet setup ds h before between middle → IsFirstDue setup (world setup middle) (Some first)
      → IsRound all_pass past left between middle b after true → work_left setup (world setup past) ≡ work_left setup (world setup middle) → AreQuiet setup ds h rounds after past

-- from here on no more than so many come after one another
abbrev pub AreFew : Setup → List Drainer → List Entry → ℕ → Type 0
AreFew setup ds h most = (after : List Drainer) (past : List Entry) (rounds : ℕ) → IsRunOf setup past → AreAlwaysInOrder setup past → AreQuiet setup ds h rounds after past → rounds ≤ most

-- such rounds are few, where claims are shared well: since each tries one node less, there are no more than ten where a drain begins, and nine
-- behind a whole round of it. A round leaves the claims shared so
pub record AreTries (setup : Setup) : Type 0 where
  pub first : (ds : List Drainer) (h : List Entry) → ImportsAllow setup → MaySettle setup ds h → length ds ≤ 13 → SharesWell (world setup h) → AreFew setup ds h 10
  pub next : (ds after : List Drainer) (h past : List Entry) (b left : ℕ) → ImportsAllow setup → MaySettle setup ds h → length ds ≤ 13
      → IsRunOf setup past → IsRound all_pass past left ds h b after true → SharesWell (world setup past) → AreFew setup after past 9
  pub shares : (ds after : List Drainer) (h past : List Entry) (b left : ℕ) → MaySettle setup ds h → IsRunOf setup past
      → IsRound all_pass past left ds h b after true → SharesWell (world setup h) → SharesWell (world setup past)

-- then a drain makes no more rounds than one and the measure, with ten nodes to be tried
abbrev pub RoundsAreMeasured : Type 0
RoundsAreMeasured =
    (setup : Setup) → AreTries setup → (ds after : List Drainer) (h past : List Entry) (b left : ℕ) → ImportsAllow setup → MaySettle setup ds h
    → length ds ≤ 13 → SharesWell (world setup h) → IsRunOf setup past → AreAlwaysInOrder setup past
    → (drained : Drains all_pass setup after past left ds h b) → rounds_in all_pass setup after past left ds h b drained ≤ 1 + measure (work_left setup (world setup h)) 10

-- and ends settled
abbrev pub MeasuredDrainsSettle : Type 0
MeasuredDrainsSettle =
    (setup : Setup) → AreTries setup → (ds after : List Drainer) (h past : List Entry) (b left : ℕ) → ImportsAllow setup → MaySettle setup ds h
    → SharesWell (world setup h) → HasBudget setup ds h b → IsRunOf setup past → AreAlwaysInOrder setup past
    → Drains all_pass setup after past left ds h b → IsSettled setup (world setup past)
