-- Quotas are kept: the claims of a namespace use no more than its quota, or than they used at first.
-- Source: Kubernetes documentation, "Resource Quotas": a quota takes no object away that stood before it.
use Rattle.std.specs.Prelude.{ℕ, ◌≡◌, ◌≤◌, ◌⊎◌, List, [], ◌∷◌, Some, None, ⊤}
use Rattle.call_types.specs.declared.setup.Setup.{Setup}
use Rattle.call_types.specs.declared.request.Request.{Request}
use Rattle.call_types.specs.declared.request.Request.TheVariants.{Create}
use Rattle.call_types.specs.declared.request.SeatKind.{SeatKind}
use Rattle.call_types.specs.declared.request.SeatKind.TheVariants.{User}
use Rattle.binder_model.specs.World.{world}
use Rattle.side_calls.specs.declared.quotas.Quota.{Quota}
use Rattle.side_calls.specs.declared.quotas.Used.{Used}
use Rattle.quota_rules.specs.Using.{quota_of, used_by}
use Rattle.side_model.specs.Answers.{held_by, side}
use Rattle.side_model.specs.Merged.{Step, OfWorld, OfSide, entries, AtEach}
use Rattle.side_model.specs.Sides.{SideSetup, counted_in, tally_of}

-- what the claims of a namespace use at a point: those that stand in the world then, each with what it grew to or its request
abbrev pub used_at : Setup → SideSetup → List Step → List ℕ → Used
used_at setup given m namespace = used_by namespace (counted_in (side setup given m).sizes (world setup (entries m)).store.rows)

-- no more than the limit, or than what was used at first
abbrev pub IsKept : ℕ → ℕ → ℕ → Type 0
IsKept used limit first = (used ≤ limit) ⊎ (used ≤ first)

-- both limits of a quota are kept at a point; before the first step the imports stand
pub record KeepsQuota (setup : Setup) (given : SideSetup) (m : List Step) (q : Quota) : Type 0 where
  pub bytes : IsKept (used_at setup given m q.namespace).bytes q.bytes (used_at setup given [] q.namespace).bytes
  pub claims : IsKept (used_at setup given m q.namespace).claims q.claims (used_at setup given [] q.namespace).claims

-- the quota of each namespace that has one is kept
abbrev pub IsWithin : Setup → SideSetup → List Step → Type 0
IsWithin setup given m = (q : Quota) → quota_of q.namespace given.quotas ≡ Some q → KeepsQuota setup given m q

-- at each point
abbrev pub WithinThroughout : Setup → SideSetup → List Step → Type 0
WithinThroughout setup given m = AtEach (IsWithin setup given) m

-- ---- what is held back

-- nothing holds back what reaches the world: a user's create passes the quota of its namespace; no other call is asked
abbrev pub PassesQuota : Setup → SideSetup → List Step → SeatKind → Request → Type 0
PassesQuota setup given m User (Create o) = held_by (tally_of (side setup given m) (world setup (entries m)).store.rows) o ≡ None
PassesQuota setup given m kind request = ⊤

-- no create reached the world that was to be held back there. That no other one stands among the side's entries is SideRun's to say
abbrev pub HoldsBack : Setup → SideSetup → List Step → Type 0
HoldsBack setup given [] = ⊤
HoldsBack setup given (OfWorld e ∷ m) = HoldsBack setup given m × PassesQuota setup given m e.kind e.request
HoldsBack setup given (OfSide s ∷ m) = HoldsBack setup given m
