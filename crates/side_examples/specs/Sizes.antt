-- The steps of growth, what holds of rows, and what they lose. A choice of this project.
use Rattle.std.specs.Prelude.{ℕ, ◌≡◌, ◌-◌, List, [], ◌∷◌, Some, None}
use Rattle.kube_parts.specs.Uids.{uid_of_serial}
use Rattle.kube_objects.specs.declared.objects.Object.TheVariants.{Claim, Volume}
use Rattle.call_types.specs.declared.reply.Reply.TheVariants.{Done, Left}
use Rattle.model_examples.specs.Samples.{a, bound_c, d, key_d}
use Rattle.side_calls.specs.declared.sizes.SizeRow.{SizeRow}
use Rattle.side_calls.specs.declared.sizes.StepKind.TheVariants as kinds
use Rattle.expand_ops.specs.Sizes.{Growth, IsGrowth, after_step, kept_after, next_step, size_at, step_of, taken_by}
use Rattle.side_examples.specs.Samples.{gibi, row, row_of}

-- the row of the claim d
abbrev pub row_d : SizeRow → SizeRow
row_d x = row_of key_d (uid_of_serial 3) x

-- these rows, of a reserve of so much
abbrev pub growth : ℕ → List SizeRow → Growth
growth size rows = record { reserve = gibi size; rows = rows }

-- ---- steps

pub record StepExamples : Type 0 where
  -- what is stored rises first, where all of it is free
  pub stored : step_of (gibi 2) (row 7 5 5 5 5) ≡ Some (kinds.Data, gibi 7)
  pub not_free : step_of (gibi 2 - 1) (row 7 5 5 5 5) ≡ None
  -- then the volume, then the claim
  pub volume : step_of 0 (row 7 5 5 7 5) ≡ Some (kinds.Volume, gibi 7)
  pub given : step_of 0 (row 7 5 7 7 5) ≡ Some (kinds.Given, gibi 7)
  pub whole : step_of 0 (row 7 7 7 7 5) ≡ None
  -- a row that waits for bytes goes on with what is stored already
  pub goes_on : step_of 0 (row 9 5 5 7 5) ≡ Some (kinds.Volume, gibi 7)
  -- one that asks for less than is stored makes none
  pub less : step_of (gibi 9) (row 3 5 5 5 5) ≡ None
  -- the first row that can make one, with what the rows leave of the reserve
  pub first : next_step (growth 9 (row 7 5 5 5 5 ∷ row_d (row 7 5 5 5 5) ∷ [])) ≡ Some (record { kind = kinds.Data; place = 0; bytes = gibi 7 })
  pub second : next_step (growth 3 (row 9 5 5 5 5 ∷ row_d (row 7 5 5 5 5) ∷ [])) ≡ Some (record { kind = kinds.Data; place = 1; bytes = gibi 7 })
  pub taken : next_step (growth 3 (row 7 7 7 7 5 ∷ row_d (row 7 5 5 5 5) ∷ [])) ≡ None
  pub none : next_step (growth 9 []) ≡ None
  -- a step changes one number of one row
  pub made :
      after_step (Some (record { kind = kinds.Volume; place = 1; bytes = gibi 7 })) (row 7 5 5 7 5 ∷ row_d (row 7 5 5 7 5) ∷ [])
      ≡ row 7 5 5 7 5 ∷ row_d (row 7 5 7 7 5) ∷ []
  pub not_made : after_step None (row 7 5 5 7 5 ∷ []) ≡ row 7 5 5 7 5 ∷ []

-- ---- what holds of rows

pub record GrowthExamples : Type 0 where
  -- in turn, and within the reserve to its last byte
  pub holds : IsGrowth (growth 2 (row 7 5 6 7 5 ∷ []))
  pub nothing : IsGrowth (growth 0 [])
  pub taken : taken_by (row 7 5 6 7 5 ∷ row_d (row 7 5 6 6 5) ∷ []) ≡ gibi 3
  -- not where a claim was given more than its volume has, the volume has more than is stored, or what is stored fell
  pub given_more : IsGrowth (growth 2 (row 7 7 6 7 5 ∷ [])) → ⊥
  pub volume_more : IsGrowth (growth 2 (row 7 5 7 6 5 ∷ [])) → ⊥
  pub fell : IsGrowth (growth 2 (row 7 4 4 4 5 ∷ [])) → ⊥
  -- nor where the rows took more than the reserve, or stand in another order
  pub too_much : IsGrowth (growth 1 (row 7 5 6 7 5 ∷ [])) → ⊥
  pub other_order : IsGrowth (growth 9 (row_d (row 7 5 6 7 5) ∷ row 7 5 6 7 5 ∷ [])) → ⊥
  pub twice : IsGrowth (growth 9 (row 7 5 6 7 5 ∷ row 7 5 6 7 5 ∷ [])) → ⊥

-- ---- what calls leave

pub record LeavingExamples : Type 0 where
  -- the row of a claim goes with it, and what it took is free
  pub left : kept_after (Left (Claim bound_c)) (row 7 5 6 7 5 ∷ row_d (row 7 5 6 6 5) ∷ []) ≡ row_d (row 7 5 6 6 5) ∷ []
  -- no other row goes, nor by another call
  pub other : kept_after (Left (Claim d)) (row 7 5 6 7 5 ∷ []) ≡ row 7 5 6 7 5 ∷ []
  pub volume : kept_after (Left (Volume a)) (row 7 5 6 7 5 ∷ []) ≡ row 7 5 6 7 5 ∷ []
  pub written : kept_after (Done (Claim bound_c)) (row 7 5 6 7 5 ∷ []) ≡ row 7 5 6 7 5 ∷ []
  -- rows are found by their keys
  pub found : size_at key_d (row 7 5 6 7 5 ∷ row_d (row 7 5 6 6 5) ∷ []) ≡ Some (row_d (row 7 5 6 6 5))
  pub not_found : size_at key_d (row 7 5 6 7 5 ∷ []) ≡ None
