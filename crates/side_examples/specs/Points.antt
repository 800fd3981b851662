-- Short lists of steps of an extended run: which are runs of the side, which hold back what they should, and which keep quotas and
-- grow in turn. A choice of this project.
use Rattle.std.specs.Prelude.{ℕ, ◌≡◌, true, List, [], ◌∷◌, codes}
use Rattle.kube_objects.specs.declared.objects.Object.{Object}
use Rattle.kube_objects.specs.declared.objects.Object.TheVariants.{Claim, Node}
use Rattle.call_types.specs.declared.reply.Reply.TheVariants.{Timed}
use Rattle.call_types.specs.declared.request.Request.{Request}
use Rattle.call_types.specs.declared.request.Request.TheVariants as requests
use Rattle.call_types.specs.declared.request.SeatKind.{SeatKind}
use Rattle.call_types.specs.declared.request.SeatKind.TheVariants as seats
use Rattle.call_types.specs.declared.setup.Setup.{Setup}
use Rattle.model_laws.specs.Worked.{claim}
use Rattle.model_examples.specs.Samples.{key_c, n1}
use Rattle.side_calls.specs.declared.asks.SideAsk.{SideAsk}
use Rattle.side_calls.specs.declared.asks.SideAsk.TheVariants as asks
use Rattle.side_calls.specs.declared.asks.SideReply.{SideReply}
use Rattle.side_calls.specs.declared.asks.SideReply.TheVariants as replies
use Rattle.side_calls.specs.declared.quotas.OverQuota.TheVariants.{OverClaims}
use Rattle.side_calls.specs.declared.sizes.StepKind.{StepKind}
use Rattle.side_calls.specs.declared.sizes.StepKind.TheVariants as kinds
use Rattle.side_model.specs.Answers.{SideRun, side}
use Rattle.side_model.specs.Grown.{GrownThroughout, IsNoLess, RisesFrom}
use Rattle.side_model.specs.Merged.{AtEach, OfSide, OfWorld, Step, entries, sides}
use Rattle.side_model.specs.Sides.{SideSetup}
use Rattle.side_model.specs.Within.{HoldsBack, IsKept, IsWithin, WithinThroughout, used_at}
use Rattle.side_examples.specs.Samples.{gibi, growable, here, quota, row, use_of}

-- a world that begins with a claim of 3 gibibytes that may grow
abbrev pub setup : Setup
setup = record { pools = []; faults = []; imports = growable }

-- a quota of 8 gibibytes and one claim, and a reserve of 4
abbrev pub given : SideSetup
given = record { quotas = quota here 8 1 ∷ []; reserve = gibi 4 }

-- an entry of the side
abbrev pub asked : SideAsk → SideReply → Step
asked ask reply = OfSide (record { ask = ask; reply = reply })

-- an entry of the world. What it was answered is not looked at
abbrev pub called : SeatKind → Request → Step
called kind request = OfWorld (record { seat = 2; kind = kind; request = request; reply = Timed; told = true })

-- a second claim, as a user creates it
abbrev pub second : Object
second = Claim (claim (codes "d") 1)

-- it is held back
abbrev pub holds : Step
holds = asked (asks.Create 2 second) (replies.OverQuota (OverClaims 1 1))

-- the claim c grows to so much
abbrev pub grows : ℕ → Step
grows size = asked (asks.Grow 2 key_c (gibi size)) replies.Done

-- a step of that growth
abbrev pub steps : StepKind → ℕ → Step
steps kind size = asked (asks.Step kind key_c) (replies.Bytes (gibi size))

-- the whole growth to 7 gibibytes, the newest step first
abbrev pub grown : List Step
grown = steps kinds.Given 7 ∷ steps kinds.Volume 7 ∷ steps kinds.Data 7 ∷ grows 7 ∷ []

pub record MergedExamples : Type 0 where
  -- the two parts of a list
  pub entries_of : entries (holds ∷ called seats.User (requests.Create second) ∷ grows 7 ∷ [])
      ≡ (record { seat = 2; kind = seats.User; request = requests.Create second; reply = Timed; told = true }) ∷ []
  pub sides_of : sides (holds ∷ called seats.User (requests.Create second) ∷ [])
      ≡ (record { ask = asks.Create 2 second; reply = replies.OverQuota (OverClaims 1 1) }) ∷ []
  -- each point is one of now and before
  pub each : AtEach (λ m. entries m ≡ []) (holds ∷ grows 7 ∷ [])
  pub not_each : AtEach (λ m. sides m ≡ []) (holds ∷ []) → ⊥
  pub not_before : AtEach (λ m. sides m ≡ sides (holds ∷ [])) (holds ∷ []) → ⊥

pub record SideRunExamples : Type 0 where
  -- a growth and its steps, and a create that is held back
  pub growth : SideRun setup given grown
  pub held : SideRun setup given (holds ∷ grown)
  pub rows : (side setup given grown).sizes ≡ row 7 7 7 7 5 ∷ []
  -- not with another answer, nor with a step that is not the next one, nor a create that passes
  pub other_answer : SideRun setup given (asked (asks.Grow 2 key_c (gibi 9)) replies.Done ∷ []) → ⊥
  pub not_the_next : SideRun setup given (steps kinds.Volume 7 ∷ grows 7 ∷ []) → ⊥
  pub one_too_many : SideRun setup given (steps kinds.Given 7 ∷ grown) → ⊥
  pub passing_create : SideRun setup given (asked (asks.Create 2 (Node n1)) (replies.OverQuota (OverClaims 1 1)) ∷ []) → ⊥

pub record HoldsBackExamples : Type 0 where
  -- what passes may reach the world: no claim, or one of a controller, of which the quota says nothing
  pub node : HoldsBack setup given (called seats.User (requests.Create (Node n1)) ∷ [])
  pub list : HoldsBack setup given (called seats.User (requests.Get key_c) ∷ holds ∷ [])
  pub controller : HoldsBack setup given (called seats.Ops (requests.Create second) ∷ [])
  -- a claim that is one too many may not
  pub claim_too_many : HoldsBack setup given (called seats.User (requests.Create second) ∷ []) → ⊥

pub record WithinExamples : Type 0 where
  -- the imports and the growth are within the quota
  pub first : used_at setup given [] here ≡ use_of 3 1
  pub later : used_at setup given grown here ≡ use_of 7 1
  -- a create that was not held back is not
  pub created : used_at setup given (called seats.User (requests.Create second) ∷ []) here ≡ use_of 4 2
  pub not_within : WithinThroughout setup given (called seats.User (requests.Create second) ∷ []) → ⊥
  -- a use is kept by its limit, or by what was used at first
  pub by_limit : IsKept 3 4 0
  pub by_imports : IsKept 3 2 3
  pub by_neither : IsKept 4 2 3 → ⊥
  -- imports that use more than the quota are no fault
  pub imports : IsWithin setup (record { quotas = quota here 1 0 ∷ []; reserve = 0 }) []

pub record GrownExamples : Type 0 where
  -- none of the numbers may fall
  pub no_less : IsNoLess (row 7 5 5 7 5) (row 8 5 6 7 5)
  pub asked_fell : IsNoLess (row 7 5 5 7 5) (row 6 5 5 7 5) → ⊥
  pub given_fell : IsNoLess (row 7 5 5 7 5) (row 7 4 5 7 5) → ⊥
  pub volume_fell : IsNoLess (row 7 5 6 7 5) (row 7 5 5 7 5) → ⊥
  pub stored_fell : IsNoLess (row 7 5 5 7 5) (row 7 5 5 6 5) → ⊥
  -- from an earlier point to a later one, and not back
  pub rises : RisesFrom setup given (grows 6 ∷ []) (grows 7 ∷ grows 6 ∷ [])
  pub not_back : RisesFrom setup given (grows 7 ∷ grows 6 ∷ []) (grows 6 ∷ []) → ⊥
  -- at each point of a growth
  pub throughout : GrownThroughout setup given grown
