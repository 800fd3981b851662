-- The rows are exact, and say what is chosen by the conditions.
use Rattle.std.proofs.Common.{◌≡◌, Bool, true, false, not, [], ◌∷◌, count_by, refl, if◌then◌else◌}
use Rattle.case_table.specs.Cases.{IsExact, action_of, row_fits}
use Rattle.case_table.proofs.Each.{each_list}
use Rattle.volume_sync.specs.declared.action.VolumeAction.{VolumeAction}
use Rattle.volume_sync.specs.declared.action.VolumeAction.TheVariants as actions
use Rattle.volume_sync.specs.VolumeTable.{action_number, free_rows, referred_rows, volume_rows}

one_row : (refers available released known asked none this settled erased : Bool)
    → count_by (row_fits (refers ∷ available ∷ released ∷ known ∷ asked ∷ none ∷ this ∷ settled ∷ erased ∷ [])) volume_rows ≡ 1
unfolding volume_rows free_rows referred_rows
one_row false true released known asked none this settled erased = refl
one_row false false released known asked none this settled erased = refl
one_row true available true known asked none this settled erased = refl
one_row true available false false false none this settled erased = refl
one_row true available false false true none this settled erased = refl
one_row true available false true asked true this settled erased = refl
one_row true available false true asked false true true erased = refl
one_row true available false true asked false true false erased = refl
one_row true available false true asked false false settled true = refl
one_row true available false true asked false false settled false = refl

pub rows_exact : IsExact volume_rows
rows_exact cs whole = each_list 9 (λ ds. count_by (row_fits ds) volume_rows ≡ 1) one_row cs whole

-- what the rows say, by the conditions alone
abbrev pub chosen : Bool → Bool → Bool → Bool → Bool → Bool → Bool → Bool → Bool → VolumeAction
chosen refers available released known asked none this settled erased =
    if not refers then (if available then actions.Nothing else actions.Available)
    else if released then actions.Nothing
    else if not known then (if asked then actions.Release else actions.ReadClaim)
    else if none then actions.QueueClaim
    else if this then (if settled then actions.Nothing else actions.Bound)
    else if erased then actions.Release else actions.Unbind

pub rows_say : (refers available released known asked none this settled erased : Bool)
    → action_of volume_rows (refers ∷ available ∷ released ∷ known ∷ asked ∷ none ∷ this ∷ settled ∷ erased ∷ []) ≡ action_number
    (chosen refers available released known asked none this settled erased)
unfolding volume_rows free_rows referred_rows
rows_say false true released known asked none this settled erased = refl
rows_say false false released known asked none this settled erased = refl
rows_say true available true known asked none this settled erased = refl
rows_say true available false false false none this settled erased = refl
rows_say true available false false true none this settled erased = refl
rows_say true available false true asked true this settled erased = refl
rows_say true available false true asked false true true erased = refl
rows_say true available false true asked false true false erased = refl
rows_say true available false true asked false false settled true = refl
rows_say true available false true asked false false settled false = refl
