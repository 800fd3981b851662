-- The table of the decisions on a volume. Source: `syncVolume` of `pv_controller.go`.
use Rattle.std.specs.Prelude.{ℕ, ◌≡◌, ◌==◌, if◌then◌else◌, List, [], ◌∷◌, ◌++◌}
use Rattle.kube_objects.specs.declared.objects.Volume.{Volume as VolumeData}
use Rattle.kube_objects.specs.declared.objects.Object.{Object}
use Rattle.kube_types.specs.declared.lookup.Live.{Live}
use Rattle.case_table.specs.declared.rows.Need.{Need}
use Rattle.case_table.specs.declared.rows.Need.TheVariants.{Yes, No, Any}
use Rattle.case_table.specs.declared.rows.CaseRow.{CaseRow}
use Rattle.case_table.specs.Cases.{action_of}
use Rattle.volume_sync.specs.declared.action.VolumeAction.{VolumeAction}
use Rattle.volume_sync.specs.declared.action.VolumeAction.TheVariants as actions
use Rattle.volume_sync.specs.VolumeDecision.{volume_decision}
use Rattle.volume_sync.specs.Conditions.{volume_conditions}

-- the number of an action in the table
abbrev pub action_number : VolumeAction → ℕ
action_number actions.Nothing = 0
action_number actions.ReadClaim = 1
action_number actions.Available = 2
action_number actions.Bound = 3
action_number actions.Release = 4
action_number actions.Unbind = 5
action_number actions.QueueClaim = 6

-- the action of a number in the table
abbrev pub action_numbered : ℕ → VolumeAction
action_numbered n =
    if n == 1 then actions.ReadClaim
    else if n == 2 then actions.Available
    else if n == 3 then actions.Bound
    else if n == 4 then actions.Release
    else if n == 5 then actions.Unbind
    else if n == 6 then actions.QueueClaim
    else actions.Nothing

-- a row of the table
abbrev pub row : List Need → VolumeAction → CaseRow 9
row needs action = record { needs = needs; action = action_number action }

-- the conditions, in order: the reference has a UID, Available, Released or Failed, the claim is seen, it was asked for, it
-- names none, it names this volume, the volume is Bound or unprotected, the volume is to be erased

-- volumes without the UID of a claim
unfoldable pub free_rows : List (CaseRow 9)
free_rows =
    row (No ∷ Yes ∷ Any ∷ Any ∷ Any ∷ Any ∷ Any ∷ Any ∷ Any ∷ []) actions.Nothing
    ∷ row (No ∷ No ∷ Any ∷ Any ∷ Any ∷ Any ∷ Any ∷ Any ∷ Any ∷ []) actions.Available
    ∷ []

-- volumes with the UID of a claim
unfoldable pub referred_rows : List (CaseRow 9)
referred_rows =
    row (Yes ∷ Any ∷ No ∷ No ∷ No ∷ Any ∷ Any ∷ Any ∷ Any ∷ []) actions.ReadClaim
    ∷ row (Yes ∷ Any ∷ No ∷ No ∷ Yes ∷ Any ∷ Any ∷ Any ∷ Any ∷ []) actions.Release
    ∷ row (Yes ∷ Any ∷ Yes ∷ Any ∷ Any ∷ Any ∷ Any ∷ Any ∷ Any ∷ []) actions.Nothing
    ∷ row (Yes ∷ Any ∷ No ∷ Yes ∷ Any ∷ Yes ∷ Any ∷ Any ∷ Any ∷ []) actions.QueueClaim
    ∷ row (Yes ∷ Any ∷ No ∷ Yes ∷ Any ∷ No ∷ Yes ∷ Yes ∷ Any ∷ []) actions.Nothing
    ∷ row (Yes ∷ Any ∷ No ∷ Yes ∷ Any ∷ No ∷ Yes ∷ No ∷ Any ∷ []) actions.Bound
    ∷ row (Yes ∷ Any ∷ No ∷ Yes ∷ Any ∷ No ∷ No ∷ Any ∷ Yes ∷ []) actions.Release
    ∷ row (Yes ∷ Any ∷ No ∷ Yes ∷ Any ∷ No ∷ No ∷ Any ∷ No ∷ []) actions.Unbind
    ∷ []

-- the table of volumes
unfoldable pub volume_rows : List (CaseRow 9)
volume_rows = free_rows ++ referred_rows

-- the row of the volume's conditions has the action that is decided
abbrev pub TablePicks : Type 0
TablePicks = (rows : List Object) (v : VolumeData) (live : Live) → action_of volume_rows (volume_conditions rows v live) ≡ action_number (volume_decision rows v live)
