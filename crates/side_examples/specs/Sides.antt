-- What the side answers among some objects, and what it keeps after it. A choice of this project.
use Rattle.std.specs.Prelude.{ℕ, ◌≡◌, List, [], ◌∷◌, Some, None, codes}
use Rattle.kube_objects.specs.declared.objects.Object.TheVariants.{Claim, Node}
use Rattle.model_examples.specs.Samples.{d, key_c, key_d, n1}
use Rattle.side_calls.specs.declared.asks.SideAsk.TheVariants as asks
use Rattle.side_calls.specs.declared.asks.SideReply.TheVariants as replies
use Rattle.side_calls.specs.declared.quotas.OverQuota.TheVariants.{OverBytes, OverClaims}
use Rattle.side_calls.specs.declared.sizes.GrowError.TheVariants.{NotGrowable}
use Rattle.side_calls.specs.declared.sizes.GrowError.TheVariants as errors
use Rattle.side_calls.specs.declared.sizes.SizeRow.{SizeRow}
use Rattle.side_calls.specs.declared.sizes.StepKind.TheVariants as kinds
use Rattle.side_calls.specs.declared.sizes.Why.TheVariants as reasons
use Rattle.side_model.specs.Answers.{after_ask, held_by, reply_in}
use Rattle.side_model.specs.Sides.{Side, counted_in, first_side, growth_of, tally_of}
use Rattle.side_examples.specs.Samples.{claim_of, counted, gibi, growable, here, quota, row, there}

-- a side with a quota of so much and so many claims, a reserve of 4 gibibytes, and these rows
abbrev pub side_of : ℕ → ℕ → List SizeRow → Side
side_of size claims sizes = record { quotas = quota here size claims ∷ []; reserve = gibi 4; sizes = sizes }

pub record CountedExamples : Type 0 where
  -- a claim counts with its request, or with what it grew to
  pub request : counted_in [] growable ≡ counted here (codes "c") 2 3 ∷ []
  pub grown : counted_in (row 7 5 5 5 5 ∷ []) growable ≡ counted here (codes "c") 2 7 ∷ []
  pub nothing : counted_in (row 7 5 5 5 5 ∷ []) [] ≡ []
  -- at first nothing has grown
  pub first : first_side (record { quotas = quota here 8 2 ∷ []; reserve = gibi 4 }) ≡ side_of 8 2 []
  pub rows : growth_of (side_of 8 2 []) ≡ record { reserve = gibi 4; rows = [] }

pub record HeldExamples : Type 0 where
  -- a create passes up to the limits
  pub passes : held_by (tally_of (side_of 6 2 []) growable) (Claim d) ≡ None
  pub bytes : held_by (tally_of (side_of 5 2 []) growable) (Claim d) ≡ Some (OverBytes (gibi 3) (gibi 5))
  pub claims : held_by (tally_of (side_of 6 1 []) growable) (Claim d) ≡ Some (OverClaims 1 1)
  -- growth counts too
  pub growth : held_by (tally_of (side_of 9 2 (row 7 5 5 5 5 ∷ [])) growable) (Claim d) ≡ Some (OverBytes (gibi 7) (gibi 9))
  -- neither a claim of another namespace nor another object is held back
  pub elsewhere : held_by (tally_of (side_of 5 1 []) growable) (Claim (claim_of there (codes "d") 3 9)) ≡ None
  pub node : held_by (tally_of (side_of 0 0 []) growable) (Node n1) ≡ None

pub record ReplyExamples : Type 0 where
  -- a create that is held back has an answer, one that passes has none
  pub held : reply_in (side_of 6 1 []) growable (asks.Create 2 (Claim d)) ≡ Some (replies.OverQuota (OverClaims 1 1))
  pub passes : reply_in (side_of 6 2 []) growable (asks.Create 2 (Claim d)) ≡ None
  -- a growth is done, or refused
  pub done : reply_in (side_of 8 1 []) growable (asks.Grow 2 key_c (gibi 7)) ≡ Some replies.Done
  pub absent : reply_in (side_of 8 1 []) growable (asks.Grow 2 key_d (gibi 7)) ≡ Some (replies.NotGrown (NotGrowable reasons.Absent))
  pub over : reply_in (side_of 6 1 []) growable (asks.Grow 2 key_c (gibi 7)) ≡ Some (replies.NotGrown (errors.OverBytes (gibi 3) (gibi 6)))
  -- the step that is made next has an answer, and no other
  pub step : reply_in (side_of 8 1 (row 7 5 5 5 5 ∷ [])) growable (asks.Step kinds.Data key_c) ≡ Some (replies.Bytes (gibi 7))
  pub other_kind : reply_in (side_of 8 1 (row 7 5 5 5 5 ∷ [])) growable (asks.Step kinds.Volume key_c) ≡ None
  pub other_key : reply_in (side_of 8 1 (row 7 5 5 5 5 ∷ [])) growable (asks.Step kinds.Data key_d) ≡ None
  pub no_step : reply_in (side_of 8 1 []) growable (asks.Step kinds.Data key_c) ≡ None

pub record AfterExamples : Type 0 where
  -- a held create changes nothing, a growth its row, a step one number
  pub held : after_ask (side_of 6 1 []) growable (asks.Create 2 (Claim d)) ≡ side_of 6 1 []
  pub grown : after_ask (side_of 8 1 []) growable (asks.Grow 2 key_c (gibi 7)) ≡ side_of 8 1 (row 7 5 5 5 5 ∷ [])
  pub refused : after_ask (side_of 6 1 []) growable (asks.Grow 2 key_c (gibi 7)) ≡ side_of 6 1 []
  pub step : after_ask (side_of 8 1 (row 7 5 5 5 5 ∷ [])) growable (asks.Step kinds.Data key_c) ≡ side_of 8 1 (row 7 5 5 7 5 ∷ [])
