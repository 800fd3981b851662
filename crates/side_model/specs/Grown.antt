-- Growth goes in turn, never back, and within the reserve.
-- Source: Kubernetes documentation, "Persistent Volumes", Expanding Persistent Volumes Claims: a volume is never made smaller. The
-- reserve is a choice of this project.
use Rattle.std.specs.Prelude.{◌≡◌, ◌≤◌, List, [], ◌∷◌, Some, ⊤}
use Rattle.kube_objects.specs.declared.key.Key.{Key}
use Rattle.call_types.specs.declared.setup.Setup.{Setup}
use Rattle.side_calls.specs.declared.sizes.SizeRow.{SizeRow}
use Rattle.expand_ops.specs.Sizes.{IsGrowth, size_at}
use Rattle.side_model.specs.Answers.{side}
use Rattle.side_model.specs.Merged.{Step, AtEach}
use Rattle.side_model.specs.Sides.{SideSetup, growth_of}

-- none of the four numbers is smaller in the later row
pub record IsNoLess (earlier later : SizeRow) : Type 0 where
  pub asked : earlier.asked ≤ later.asked
  pub given : earlier.given ≤ later.given
  pub volume : earlier.volume ≤ later.volume
  pub stored : earlier.stored ≤ later.stored

-- in each row that a claim of one UID has at both points, no number fell between them
abbrev pub RisesFrom : Setup → SideSetup → List Step → List Step → Type 0
RisesFrom setup given earlier later =
    (key : Key) (x y : SizeRow) → size_at key (side setup given earlier).sizes ≡ Some x → size_at key (side setup given later).sizes ≡ Some y
    → x.claim ≡ y.claim → IsNoLess x y

-- from each point to the next
abbrev pub NeverFalls : Setup → SideSetup → List Step → Type 0
NeverFalls setup given [] = ⊤
NeverFalls setup given (s ∷ m) = NeverFalls setup given m × RisesFrom setup given m (s ∷ m)

-- at each point the rows are in turn and within the reserve, and no number ever falls
pub record GrownThroughout (setup : Setup) (given : SideSetup) (m : List Step) : Type 0 where
  pub turns : AtEach (λ n. IsGrowth (growth_of (side setup given n))) m
  pub rises : NeverFalls setup given m
