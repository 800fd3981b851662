-- What stands for the side of an extended run, and how many steps its growth has left. A choice of this project.
use Rattle.std.specs.Prelude.{ℕ, ◌≡◌, ◌+◌, nat_lt, List, [], ◌∷◌, Bool, true, false, Option, Some, None, length, reverse, ◌++◌, option_map}
use Rattle.kube_objects.specs.declared.key.Key.{Key}
use Rattle.kube_parts.specs.declared.uid.Uid.{Uid}
use Rattle.kube_objects.specs.declared.objects.Claim.{Claim as ClaimData}
use Rattle.kube_objects.specs.declared.objects.Object.TheVariants.{Claim}
use Rattle.kube_objects.specs.Keys.{key_of}
use Rattle.call_types.specs.declared.entry.Entry.{Entry}
use Rattle.call_types.specs.declared.setup.Setup.{Setup}
use Rattle.binder_model.specs.World.{world}
use Rattle.side_calls.specs.declared.asks.SideAsk.TheVariants.{Grow}
use Rattle.side_calls.specs.declared.asks.SideReply.{SideReply}
use Rattle.side_calls.specs.declared.sizes.SizeRow.{SizeRow}
use Rattle.quota_rules.specs.Using.{Tally}
use Rattle.expand_ops.specs.Growing.{asked_by}
use Rattle.expand_ops.specs.Sizes.{size_at}
use Rattle.side_model.specs.Answers.{answer, side}
use Rattle.side_model.specs.Sides.{SideSetup, growth_of, tally_of}
use Rattle.side_model.specs.Merged.{OfSide, Step, entries}
use Rattle.extended_runs.specs.declared.sides.KeptSide.{KeptSide}
use Rattle.extended_runs.specs.Placed.{placed}
use Rattle.extended_runs.specs.Walks.{AreSteps, with_entries}

-- what counts after these steps
abbrev pub tally_at : Setup → SideSetup → List Step → Tally
tally_at setup given m = tally_of (side setup given m) (world setup (entries m)).store.rows

-- the code keeps the side of these steps
pub record SideStands (setup : Setup) (given : SideSetup) (m : List Step) (s : KeptSide) : Type 0 where
  pub quotas : s.quotas ≡ tally_at setup given m
  pub sizes : s.sizes ≡ growth_of (side setup given m)
  pub entered : s.entered ≡ reverse (placed m)
  pub noted : s.noted ≡ length (entries m)

-- of some steps whose entries of the world are these
pub record SomeSide (setup : Setup) (past : List Entry) (s : KeptSide) : Type 0 where
  pub given : SideSetup
  pub steps : List Step
  pub stands : SideStands setup given steps s
  pub same : entries steps ≡ past

-- it was told of all entries of the world
abbrev pub CatchesUp : Setup → List Entry → KeptSide → KeptSide → Type 0
CatchesUp setup past old new = (given : SideSetup) (m : List Step) (added : List Entry) → SideStands setup given m old → past ≡ added ++ entries m
    → SideStands setup given (with_entries added m) new

-- of the entries that were added it was told of the older ones
pub record IsCatchingUp (setup : Setup) (given : SideSetup) (m : List Step) (added : List Entry) (now : KeptSide) : Type 0 where
  pub later : List Entry
  pub told : List Entry
  pub are : added ≡ later ++ told
  pub stands : SideStands setup given (with_entries told m) now

-- the UID of a claim, and how many bytes it asks for
abbrev pub asking_in : List SizeRow → Option ClaimData → Option (Uid × ℕ)
asking_in sizes None = None
asking_in sizes (Some c) = option_map (λ uid. (uid, asked_by (size_at (key_of (Claim c)) sizes) c)) c.meta.uid

-- it answered a wish for growth
pub record IsAsked (setup : Setup) (given : SideSetup) (m : List Step) (user : ℕ) (key : Key) (bytes : ℕ) (new : KeptSide) : Type 0 where
  pub reply : SideReply
  pub answered : answer setup given m (Grow user key bytes) ≡ Some reply
  pub stands : SideStands setup given (OfSide (record { ask = Grow user key bytes; reply = reply }) ∷ m) new

-- growth has gone on until it rests
pub record HasRested (setup : Setup) (given : SideSetup) (m : List Step) (new : KeptSide) : Type 0 where
  pub end : List Step
  pub steps : AreSteps setup given end m
  pub stands : SideStands setup given end new

-- so it is from here where it is from the steps that were made next
pub record IsResting (setup : Setup) (given : SideSetup) (m : List Step) (now : KeptSide) : Type 0 where
  pub middle : List Step
  pub stands : SideStands setup given middle now
  pub goes : (end : List Step) → AreSteps setup given end middle → AreSteps setup given end m

-- ---- the steps that are left

-- one where the first number is below the second
abbrev pub weighed : ℕ → Bool → ℕ
weighed n true = n
weighed n false = 0

-- a number that each step of a row lowers: what is not stored, not the volume's and not given yet
abbrev pub left_of : SizeRow → ℕ
left_of x = weighed 3 (nat_lt x.stored x.asked) + (weighed 2 (nat_lt x.volume x.stored) + weighed 1 (nat_lt x.given x.volume))

-- of all rows
abbrev pub left_in : List SizeRow → ℕ
left_in [] = 0
left_in (x ∷ xs) = left_of x + left_in xs
