-- Rounds of a drain that make few calls, and one that makes a call too many; what is due for an actor of a drain; and rounds in which
-- an entry lasts, and others.
-- A choice of this project.
use Rattle.std.specs.Prelude.{ℕ, ◌≡◌, ◌<◌, Bool, true, false, List, [], ◌∷◌, Some, codes}
use Rattle.kube_objects.specs.declared.key.Key.{Key}
use Rattle.kube_parts.specs.declared.names.Due.{Due}
use Rattle.kube_parts.specs.declared.parts.VolumePhase.TheVariants as volumes
use Rattle.kube_objects.specs.declared.objects.Pod.{Pod as PodData}
use Rattle.kube_objects.specs.declared.objects.Object.TheVariants.{Class, Pod, Volume}
use Rattle.kube_objects.specs.Bindings.{no_provisioner}
use Rattle.call_types.specs.declared.entry.Entry.{Entry}
use Rattle.call_types.specs.declared.setup.Setup.{Setup}
use Rattle.binder_model.specs.Due.{IsFirstDue}
use Rattle.binder_model.specs.World.{world}
use Rattle.settle_measure.specs.Left.Measure.{faults_left}
use Rattle.actor_rounds.specs.declared.drainers.Drainer.{Drainer}
use Rattle.settle_measure.specs.Left.Small.{free}
use Rattle.actor_rounds.specs.Drainers.{agent_of}
use Rattle.actor_rounds.specs.Rounds.{Drains, Goes, IsRound, RoundOf, all_pass}
use Rattle.settle_writes.specs.Writes.Lasting.{HasLasting}
use Rattle.settle_progress.specs.Drains.Drained.{EachRoundLasts}
use Rattle.settle_progress.specs.Drains.Rounds.{HasDue}
use Rattle.settle_calls.specs.Slots.Rounds.{size_of_world}
use Rattle.settle_round_calls.specs.Rest.ShortRounds.{EachRoundIsShort}
use Rattle.settling_examples.specs.Ending.{class_of, pod_on, setup_with, takes}

-- a drain with so many calls whose first round makes all of them, in a world of two objects and claims that are named, with no planned fault ahead
pub record GoesOn (calls : ℕ) : Type 0 where
  pub setup : Setup
  pub ds : List Drainer
  pub between : List Drainer
  pub after : List Drainer
  pub h : List Entry
  pub middle : List Entry
  pub past : List Entry
  pub left : ℕ
  pub first : Key × Due
  pub due : IsFirstDue setup (world setup h) (Some first)
  pub some : 0 < calls
  pub whole : Bool
  pub round : IsRound all_pass middle 0 ds h calls between whole
  pub more : Drains all_pass setup after past left between middle 0
  pub two : size_of_world (world setup h) ≡ 2
  pub none : faults_left setup (world setup h).devices ≡ 0

abbrev pub drain_of : (calls : ℕ) (g : GoesOn calls) → Drains all_pass g.setup g.after g.past g.left g.ds g.h calls
drain_of calls g = Goes g.first g.due g.some g.between g.middle 0 g.whole g.round g.more

-- all its rounds are short; and so are those of the rest of it
abbrev pub AreShort : (calls : ℕ) → GoesOn calls → Type 0
AreShort calls g = EachRoundIsShort all_pass g.setup g.after g.past g.left g.ds g.h calls (drain_of calls g)

abbrev pub RestIsShort : (calls : ℕ) → GoesOn calls → Type 0
RestIsShort calls g = EachRoundIsShort all_pass g.setup g.after g.past g.left g.between g.middle 0 g.more

pub record RoundExamples : Type 0 where
  -- the first round may make 256 calls for each of 18
  pub few : (g : GoesOn 4608) → RestIsShort 4608 g → AreShort 4608 g
  -- but not one more
  pub one_more : (g : GoesOn 4609) → AreShort 4609 g → ⊥

-- ---- what is due for an actor of a drain

-- a world that begins with a volume that is to become Available
abbrev pub volume_waits : Setup
volume_waits = setup_with [] (Volume (free volumes.Pending) ∷ [])

-- a pod that the node n runs, which names no claim
abbrev pub placed_pod : PodData
placed_pod = record (pod_on (codes "p") (codes "n")) { claims = [] }

-- a world that begins with that pod, which is to be mounted
abbrev pub pod_waits : Setup
pod_waits = setup_with [] (Pod placed_pod ∷ [])

-- the agent of that node, at the seat 10
abbrev pub IsItsAgent : Drainer → Type 0
IsItsAgent d = (d.seat ≡ 10) × (d.actor.role ≡ agent_of (codes "n"))

pub record DueExamples : Type 0 where
  -- a volume is the binder's to do, and so it is due whichever these are
  pub volume : (ds : List Drainer) → HasDue volume_waits ds []
  -- a pod on a node is due where the agent of the node is among these, and took the node last
  pub with_its_agent : (d : Drainer) → IsItsAgent d → HasDue pod_waits (d ∷ []) (takes 10 2 ∷ takes 4 1 ∷ [])
  -- but not where it is absent, nor where another took the node after it
  pub without_its_agent : HasDue pod_waits [] [] → ⊥
  pub with_a_stale_one : (d : Drainer) → IsItsAgent d → HasDue pod_waits (d ∷ []) (takes 4 2 ∷ takes 10 1 ∷ []) → ⊥
  -- nor is anything due where nothing stands, or a class alone
  pub nothing : (ds : List Drainer) → HasDue (setup_with [] []) ds [] → ⊥
  pub class : (ds : List Drainer) → HasDue (setup_with [] (Class (class_of true no_provisioner) ∷ [])) ds [] → ⊥

-- ---- rounds in which an entry lasts

-- a drain whose first round is this one
pub record GoesBy : Type 0 where
  pub setup : Setup
  pub round : RoundOf all_pass
  pub after : List Drainer
  pub past : List Entry
  pub left : ℕ
  pub first : Key × Due
  pub due : IsFirstDue setup (world setup round.start) (Some first)
  pub some : 0 < round.budget
  pub more : Drains all_pass setup after past left round.after round.past round.left

-- what is said of its rounds, and of those of the rest of it
abbrev pub AllLast : GoesBy → Type 0
AllLast g = EachRoundLasts all_pass g.setup g.after g.past g.left g.round.drainers g.round.start g.round.budget
    (Goes g.first g.due g.some g.round.after g.round.past g.round.left g.round.whole g.round.is_round g.more)

abbrev pub RestLasts : GoesBy → Type 0
RestLasts g = EachRoundLasts all_pass g.setup g.after g.past g.left g.round.after g.round.past g.round.left g.more

-- an entry of the first round lasts
abbrev pub FirstLasts : GoesBy → Type 0
FirstLasts g = HasLasting g.setup g.round.start g.round.past

pub record StepExamples : Type 0 where
  -- an entry of the first round lasts, or none needs to: the round is not whole, or nothing is due for an actor of the drain
  pub lasting : (g : GoesBy) → FirstLasts g → RestLasts g → AllLast g
  pub part : (g : GoesBy) → g.round.whole ≡ false → RestLasts g → AllLast g
  pub none_due : (g : GoesBy) → (HasDue g.setup g.round.drainers g.round.start → ⊥) → RestLasts g → AllLast g
  -- but not where something is due, the round is whole, and none of its entries lasts; nor where that is so of a later round
  pub none_lasting : (g : GoesBy) → g.round.whole ≡ true → HasDue g.setup g.round.drainers g.round.start → (FirstLasts g → ⊥) → AllLast g → ⊥
  pub later : (g : GoesBy) → (RestLasts g → ⊥) → AllLast g → ⊥
