-- The rows of the table on volumes are exact, and say what is due by the conditions.
use Rattle.std.proofs.Common.{◌≡◌, Bool, true, false, not, ◌&&◌, [], ◌∷◌, Option, Some, None, count_by, refl, if◌then◌else◌}
use Rattle.kube_parts.specs.declared.names.Due.{Due}
use Rattle.kube_parts.specs.declared.names.Due.TheVariants as dues
use Rattle.binder_model.specs.Due.{or_due}
use Rattle.case_table.specs.Cases.{IsExact, action_of, row_fits}
use Rattle.case_table.proofs.Each.{each_list}
use Rattle.volume_sync.specs.VolumeLaw.{due_of_action}
use Rattle.volume_sync.specs.VolumeTable.{free_rows, referred_rows, volume_rows}
use Rattle.volume_sync.proofs.Rows.{chosen}
use Rattle.settle_check.specs.DueTables.{due_number}
use Rattle.settle_check.specs.VolumeDues.{ended_rows, idle_rows, settled_rows, volume_due_rows}

one_row : (refers available ended seen none this settled erased policy deleting protected : Bool)
    → count_by (row_fits (refers ∷ available ∷ ended ∷ seen ∷ none ∷ this ∷ settled ∷ erased ∷ policy ∷ deleting ∷ protected ∷ [])) volume_due_rows ≡ 1
unfolding volume_due_rows volume_rows free_rows referred_rows idle_rows ended_rows settled_rows
one_row true available true seen none this true erased true true protected = refl
one_row true available true seen none this false erased true true protected = refl
one_row true available true seen none this true erased true false protected = refl
one_row true available true seen none this false erased true false protected = refl
one_row true available true seen none this true erased false true protected = refl
one_row true available true seen none this false erased false true protected = refl
one_row true available true seen none this true erased false false true = refl
one_row true available true seen none this false erased false false true = refl
one_row true available true seen none this true erased false false false = refl
one_row true available true seen none this false erased false false false = refl
one_row true available false true true this true erased policy true protected = refl
one_row true available false true true this false erased policy true protected = refl
one_row true available false true true this true erased policy false true = refl
one_row true available false true true this false erased policy false true = refl
one_row true available false true true this true erased policy false false = refl
one_row true available false true true this false erased policy false false = refl
one_row true available false true false true true erased policy true protected = refl
one_row true available false true false true true erased policy false true = refl
one_row true available false true false true true erased policy false false = refl
one_row true available false true false true false erased policy deleting protected = refl
one_row true available false true false false settled true policy deleting protected = refl
one_row true available false true false false settled false policy deleting protected = refl
one_row true available false false none this settled erased policy deleting protected = refl
one_row false true ended seen none this true erased policy true protected = refl
one_row false true ended seen none this false erased policy true protected = refl
one_row false true ended seen none this true erased policy false true = refl
one_row false true ended seen none this false erased policy false true = refl
one_row false true ended seen none this true erased policy false false = refl
one_row false true ended seen none this false erased policy false false = refl
one_row false false ended seen none this settled erased policy deleting protected = refl

pub rows_exact : IsExact volume_due_rows
rows_exact cs whole = each_list 11 (λ ds. count_by (row_fits ds) volume_due_rows ≡ 1) one_row cs whole

-- what reclaiming and protection have to do, by the conditions
abbrev pub upkept : Bool → Bool → Bool → Bool → Bool → Bool → Option Due
upkept refers ended settled policy deleting protected =
    if refers && (ended && (policy && not deleting)) then Some dues.Reclaim
    else if deleting then (if settled then None else Some dues.Unguard)
    else if protected then None
    else Some dues.Guard

pub rows_say : (refers available ended seen none this settled erased policy deleting protected : Bool)
    → action_of volume_due_rows (refers ∷ available ∷ ended ∷ seen ∷ none ∷ this ∷ settled ∷ erased ∷ policy ∷ deleting ∷ protected ∷ [])
    ≡ due_number (or_due (due_of_action (chosen refers available ended seen true none this settled erased)) (upkept refers ended settled policy deleting protected))
unfolding or_due volume_due_rows volume_rows free_rows referred_rows idle_rows ended_rows settled_rows
rows_say true available true seen none this true erased true true protected = refl
rows_say true available true seen none this false erased true true protected = refl
rows_say true available true seen none this true erased true false protected = refl
rows_say true available true seen none this false erased true false protected = refl
rows_say true available true seen none this true erased false true protected = refl
rows_say true available true seen none this false erased false true protected = refl
rows_say true available true seen none this true erased false false true = refl
rows_say true available true seen none this false erased false false true = refl
rows_say true available true seen none this true erased false false false = refl
rows_say true available true seen none this false erased false false false = refl
rows_say true available false true true this true erased policy true protected = refl
rows_say true available false true true this false erased policy true protected = refl
rows_say true available false true true this true erased policy false true = refl
rows_say true available false true true this false erased policy false true = refl
rows_say true available false true true this true erased policy false false = refl
rows_say true available false true true this false erased policy false false = refl
rows_say true available false true false true true erased policy true protected = refl
rows_say true available false true false true true erased policy false true = refl
rows_say true available false true false true true erased policy false false = refl
rows_say true available false true false true false erased policy deleting protected = refl
rows_say true available false true false false settled true policy deleting protected = refl
rows_say true available false true false false settled false policy deleting protected = refl
rows_say true available false false none this settled erased policy deleting protected = refl
rows_say false true ended seen none this true erased policy true protected = refl
rows_say false true ended seen none this false erased policy true protected = refl
rows_say false true ended seen none this true erased policy false true = refl
rows_say false true ended seen none this false erased policy false true = refl
rows_say false true ended seen none this true erased policy false false = refl
rows_say false true ended seen none this false erased policy false false = refl
rows_say false false ended seen none this settled erased policy deleting protected = refl
