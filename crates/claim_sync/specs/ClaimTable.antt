-- The table of the decisions on a claim. Source: `syncUnboundClaim` and `syncBoundClaim` of `pv_controller.go`.
use Rattle.std.specs.Prelude.{ℕ, ◌≡◌, ◌==◌, if◌then◌else◌, List, [], ◌∷◌, ◌++◌}
use Rattle.kube_objects.specs.declared.objects.Claim.{Claim as ClaimData}
use Rattle.kube_objects.specs.declared.objects.Object.{Object}
use Rattle.kube_types.specs.declared.lookup.Live.{Live}
use Rattle.case_table.specs.declared.rows.Need.{Need}
use Rattle.case_table.specs.declared.rows.Need.TheVariants.{Yes, No, Any}
use Rattle.case_table.specs.declared.rows.CaseRow.{CaseRow}
use Rattle.case_table.specs.Cases.{action_of}
use Rattle.claim_sync.specs.declared.action.ClaimStep.{ClaimStep}
use Rattle.claim_sync.specs.declared.action.ClaimStep.TheVariants as steps
use Rattle.claim_sync.specs.ClaimDecision.{claim_decision}
use Rattle.claim_sync.specs.Conditions.{claim_conditions}

-- the number of a step in the table
abbrev pub step_number : ClaimStep → ℕ
step_number steps.Nothing = 0
step_number steps.ReadVolume = 1
step_number steps.Bind = 2
step_number steps.AssignClass = 3
step_number steps.Lost = 4

-- the step of a number in the table
abbrev pub step_numbered : ℕ → ClaimStep
step_numbered n =
    if n == 1 then steps.ReadVolume
    else if n == 2 then steps.Bind
    else if n == 3 then steps.AssignClass
    else if n == 4 then steps.Lost
    else steps.Nothing

-- a row of the table
abbrev pub row : List Need → ClaimStep → CaseRow 12
row needs step = record { needs = needs; action = step_number step }

-- the conditions, in order: completed, deleting, names a volume, a match exists, a class may be assigned, the phase is Lost, the
-- volume is seen, it was asked for, it is deleting or unprotected or Released or Failed, it may be bound by name, its reference
-- has another UID, a write would change something and may be made

-- claims that are not completed
unfoldable pub unbound_rows : List (CaseRow 12)
unbound_rows =
    row (No ∷ Yes ∷ Any ∷ Any ∷ Any ∷ Any ∷ Any ∷ Any ∷ Any ∷ Any ∷ Any ∷ Any ∷ []) steps.Nothing
    ∷ row (No ∷ No ∷ No ∷ Yes ∷ Any ∷ Any ∷ Any ∷ Any ∷ Any ∷ Any ∷ Any ∷ Any ∷ []) steps.Bind
    ∷ row (No ∷ No ∷ No ∷ No ∷ Yes ∷ Any ∷ Any ∷ Any ∷ Any ∷ Any ∷ Any ∷ Any ∷ []) steps.AssignClass
    ∷ row (No ∷ No ∷ No ∷ No ∷ No ∷ Any ∷ Any ∷ Any ∷ Any ∷ Any ∷ Any ∷ Any ∷ []) steps.Nothing
    ∷ row (No ∷ No ∷ Yes ∷ Any ∷ Any ∷ Any ∷ No ∷ Any ∷ Any ∷ Any ∷ Any ∷ Any ∷ []) steps.Nothing
    ∷ row (No ∷ No ∷ Yes ∷ Any ∷ Any ∷ Any ∷ Yes ∷ Any ∷ Yes ∷ Any ∷ Any ∷ Any ∷ []) steps.Nothing
    ∷ row (No ∷ No ∷ Yes ∷ Any ∷ Any ∷ Any ∷ Yes ∷ Any ∷ No ∷ Yes ∷ Any ∷ Any ∷ []) steps.Bind
    ∷ row (No ∷ No ∷ Yes ∷ Any ∷ Any ∷ Any ∷ Yes ∷ Any ∷ No ∷ No ∷ Any ∷ Any ∷ []) steps.Nothing
    ∷ []

-- completed claims
unfoldable pub completed_rows : List (CaseRow 12)
completed_rows =
    row (Yes ∷ Any ∷ No ∷ Any ∷ Any ∷ No ∷ Any ∷ Any ∷ Any ∷ Any ∷ Any ∷ Any ∷ []) steps.Lost
    ∷ row (Yes ∷ Any ∷ No ∷ Any ∷ Any ∷ Yes ∷ Any ∷ Any ∷ Any ∷ Any ∷ Any ∷ Any ∷ []) steps.Nothing
    ∷ row (Yes ∷ Any ∷ Yes ∷ Any ∷ Any ∷ No ∷ No ∷ No ∷ Any ∷ Any ∷ Any ∷ Any ∷ []) steps.ReadVolume
    ∷ row (Yes ∷ Any ∷ Yes ∷ Any ∷ Any ∷ No ∷ No ∷ Yes ∷ Any ∷ Any ∷ Any ∷ Any ∷ []) steps.Lost
    ∷ row (Yes ∷ Any ∷ Yes ∷ Any ∷ Any ∷ Yes ∷ No ∷ Any ∷ Any ∷ Any ∷ Any ∷ Any ∷ []) steps.Nothing
    ∷ row (Yes ∷ Any ∷ Yes ∷ Any ∷ Any ∷ No ∷ Yes ∷ Any ∷ Any ∷ Any ∷ Yes ∷ Any ∷ []) steps.Lost
    ∷ row (Yes ∷ Any ∷ Yes ∷ Any ∷ Any ∷ Yes ∷ Yes ∷ Any ∷ Any ∷ Any ∷ Yes ∷ Any ∷ []) steps.Nothing
    ∷ row (Yes ∷ Any ∷ Yes ∷ Any ∷ Any ∷ Any ∷ Yes ∷ Any ∷ Any ∷ Any ∷ No ∷ Yes ∷ []) steps.Bind
    ∷ row (Yes ∷ Any ∷ Yes ∷ Any ∷ Any ∷ Any ∷ Yes ∷ Any ∷ Any ∷ Any ∷ No ∷ No ∷ []) steps.Nothing
    ∷ []

-- the table of claims
unfoldable pub claim_rows : List (CaseRow 12)
claim_rows = unbound_rows ++ completed_rows

-- the row of the claim's conditions has the step that is decided
abbrev pub TablePicks : Type 0
TablePicks = (rows : List Object) (c : ClaimData) (live : Live) → action_of claim_rows (claim_conditions rows c live) ≡ step_number (claim_decision rows c live)
