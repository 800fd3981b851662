-- The table picks the decision, and what is bound is a volume that is seen.
use Rattle.std.proofs.Common.{ℕ, ◌≡◌, ◌∙◌, Bool, true, false, not, ◌&&◌, List, Option, Some, None, is_some, refl, sym, ap, if◌then◌else◌}
use Rattle.kube_objects.specs.declared.objects.Volume.{Volume as VolumeData}
use Rattle.kube_objects.specs.declared.objects.Claim.{Claim as ClaimData}
use Rattle.kube_objects.specs.declared.objects.Object.{Object}
use Rattle.kube_objects.specs.declared.objects.Object.TheVariants.{Volume}
use Rattle.kube_types.specs.declared.lookup.Live.{Live}
use Rattle.kube_types.specs.declared.lookup.Live.TheVariants.{NotAsked, Absent, Present}
use Rattle.kube_objects.specs.Keys.{row_at}
use Rattle.kube_objects.specs.Bindings.{is_completed, is_deleting, is_empty, is_lost}
use Rattle.kube_types.specs.Lookups.{is_asked, is_present}
use Rattle.binder_model.specs.Matching.{has_match}
use Rattle.binder_model.specs.ObjectKeys.{volume_key}
use Rattle.binder_model.specs.BinderDue.{has_other_uid}
use Rattle.volume_index.specs.VolumeIndex.{as_volume}
use Rattle.case_table.specs.declared.rows.CaseRow.{CaseRow}
use Rattle.case_table.specs.Cases.{action_of}
use Rattle.claim_sync.specs.declared.action.ClaimStep.{ClaimStep}
use Rattle.claim_sync.specs.declared.action.ClaimStep.TheVariants as steps
use Rattle.claim_sync.specs.ClaimTable.{claim_rows, step_number, step_numbered}
use Rattle.claim_sync.specs.ClaimDecision.{IsVolumeFor, IsVolumeAt, claim_decision, completed_step, has_write, is_blocked, is_open_to, may_assign, named_step, named_volume, read_step, unless_lost}
use Rattle.claim_sync.specs.Conditions.{claim_conditions, conditions_on, has_best, lacks_claim, live_volume, on_volume, reads_live}
use Rattle.claim_sync.proofs.Matches.{best_matches}
use Rattle.claim_sync.proofs.Rows.{chosen, rows_say}
use Rattle.volume_index.proofs.PlacesBehind.{as_volume_some as volume_seen}

numbered_back : (s : ClaimStep) → step_numbered (step_number s) ≡ s
numbered_back steps.Nothing = refl
numbered_back steps.ReadVolume = refl
numbered_back steps.Bind = refl
numbered_back steps.AssignClass = refl
numbered_back steps.Lost = refl

-- what is chosen on the conditions, with the texts of the claim laid open
abbrev chosen_on : ClaimData → Bool → Bool → Bool → Bool → Bool → Bool → Bool → Option VolumeData → ClaimStep
chosen_on c done deleting empty matched assignable asked bindable v =
    chosen done deleting (not empty) matched assignable (is_lost c.phase) (is_some v) asked (on_volume is_blocked v)
    (on_volume (λ u. is_open_to u c) v) (on_volume (λ u. has_other_uid u c) v) (on_volume (λ u. bindable && has_write u c) v)

-- the decision, with the texts of the claim laid open
abbrev decided : ClaimData → Bool → Bool → Bool → Bool → Bool → Live → Option VolumeData → ClaimStep
decided c done deleting empty matched assignable live v =
    if done then (if empty then unless_lost c steps.Lost else completed_step c live v)
    else if deleting then steps.Nothing
    else if empty then (if matched then steps.Bind else if assignable then steps.AssignClass else steps.Nothing)
    else named_step c v

-- a volume that was read by itself
chosen_read : (c : ClaimData) (deleting matched assignable : Bool) (v : Option VolumeData) → chosen_on c true deleting false matched assignable true false v ≡ read_step c v
chosen_read c deleting matched assignable None = refl
chosen_read c deleting matched assignable (Some v) = refl

abbrev chosen_by : ClaimData → Bool → Bool → Bool → Bool → Bool → Live → Option VolumeData → ClaimStep
chosen_by c done deleting empty matched assignable live v =
    if done && (is_present live && lacks_claim c v) then chosen_on c done deleting empty matched assignable true false (live_volume live)
    else chosen_on c done deleting empty matched assignable (is_asked live) true v

by_other : (c : ClaimData) (deleting matched assignable : Bool) (live : Live) (v : VolumeData) (other : Bool) → has_other_uid v c ≡ other
    → chosen_by c true deleting false matched assignable live (Some v) ≡ completed_step c live (Some v)
by_other c deleting matched assignable NotAsked v other e = refl
by_other c deleting matched assignable Absent v other e = refl
by_other c deleting matched assignable (Present o) v true e = rw e (chosen_read c deleting matched assignable (as_volume (Some o.now)))
by_other c deleting matched assignable (Present o) v false e = rw e refl

chosen_completed : (c : ClaimData) (deleting matched assignable : Bool) (live : Live) (v : Option VolumeData) → chosen_by c true deleting false matched assignable live v ≡ completed_step c live v
chosen_completed c deleting matched assignable NotAsked None = refl
chosen_completed c deleting matched assignable Absent None = refl
chosen_completed c deleting matched assignable (Present o) None = chosen_read c deleting matched assignable (as_volume (Some o.now))
chosen_completed c deleting matched assignable live (Some v) = by_other c deleting matched assignable live v (has_other_uid v c) refl

nameless : (c : ClaimData) (deleting matched assignable : Bool) (live : Live) (v : Option VolumeData) (b : Bool)
    → (if b then chosen_on c true deleting true matched assignable true false
    (live_volume live) else chosen_on c true deleting true matched assignable (is_asked live) true v) ≡ unless_lost c steps.Lost
nameless c deleting matched assignable live v true = refl
nameless c deleting matched assignable live v false = refl

chosen_is : (c : ClaimData) (done deleting empty matched assignable : Bool) (live : Live) (v : Option VolumeData)
    → chosen_by c done deleting empty (empty && matched) assignable live v ≡ decided c done deleting empty matched assignable live v
chosen_is c true deleting true matched assignable live v = nameless c deleting matched assignable live v _
chosen_is c true deleting false matched assignable live v = chosen_completed c deleting false assignable live v
chosen_is c false true empty matched assignable live v = refl
chosen_is c false false true matched assignable live v = refl
chosen_is c false false false matched assignable live None = refl
chosen_is c false false false matched assignable live (Some v) = refl

said : (c : ClaimData) (matched assignable asked bindable : Bool) (v : Option VolumeData)
    → action_of claim_rows (conditions_on c matched assignable asked bindable v) ≡ step_number
    (chosen_on c (is_completed c) (is_deleting c.meta) (is_empty c.volume_name) matched assignable asked bindable v)
unfolding conditions_on
said c matched assignable asked bindable v =
    rows_say (is_completed c) (is_deleting c.meta) (not (is_empty c.volume_name)) matched assignable (is_lost c.phase) (is_some v) asked
    (on_volume is_blocked v) (on_volume (λ u. is_open_to u c) v) (on_volume (λ u. has_other_uid u c) v) (on_volume (λ u. bindable && has_write u c) v)

pub picks : (rows : List Object) (c : ClaimData) (live : Live) → action_of claim_rows (claim_conditions rows c live) ≡ step_number (claim_decision rows c live)
unfolding claim_conditions claim_decision
picks rows c live = by (reads_live c live (named_volume rows c))
    ∙ ap step_number (chosen_is c (is_completed c) (is_deleting c.meta) (is_empty c.volume_name) (has_match rows c) (may_assign rows c) live (named_volume rows c))
  where
    by : (b : Bool) → action_of claim_rows (if b then conditions_on c (has_best rows c) (may_assign rows c) true false (live_volume live) else
        conditions_on c (has_best rows c) (may_assign rows c) (is_asked live) true (named_volume rows c)) ≡ step_number
        (if b then chosen_on c (is_completed c) (is_deleting c.meta) (is_empty c.volume_name) (has_best rows c) (may_assign rows c) true false
        (live_volume live) else chosen_on c (is_completed c) (is_deleting c.meta) (is_empty c.volume_name) (has_best rows c) (may_assign rows c) (is_asked live) true (named_volume rows c))
    by true = said c (has_best rows c) (may_assign rows c) true false (live_volume live)
    by false = said c (has_best rows c) (may_assign rows c) (is_asked live) true (named_volume rows c)

-- the conditions that the code finds, on the volume that was read by itself and on the look-up's
module _ (rows : List Object) (c : ClaimData) (live : Live) (named volume : Option VolumeData) (read matched assignable asked : Bool)
    (conditions : List Bool) (named_is : named ≡ named_volume rows c) (read_is : read ≡ reads_live c live named)
    (matched_is : matched ≡ has_best rows c) (assignable_is : assignable ≡ may_assign rows c) where
  reads_is : (b : Bool) → read ≡ b → reads_live c live (named_volume rows c) ≡ b
  reads_is b reads = sym (ap (λ (v : Option VolumeData). reads_live c live v) named_is) ∙ (sym read_is ∙ reads)

  chances : (asked bindable : Bool) (v : Option VolumeData) → conditions_on c matched assignable asked bindable v ≡ conditions_on c (has_best rows c) (may_assign rows c) asked bindable v
  chances asked bindable v = ap (λ (m : Bool). conditions_on c m assignable asked bindable v) matched_is ∙ ap (λ (a : Bool). conditions_on c (has_best rows c) a asked bindable v) assignable_is

  pub found_read : read ≡ true → volume ≡ live_volume live → conditions ≡ conditions_on c matched assignable true false volume → conditions ≡ claim_conditions rows c live
  unfolding claim_conditions
  found_read reads volume_is found =
      rw (reads_is true reads) (found ∙ (chances true false volume ∙ ap (λ (v : Option VolumeData). conditions_on c (has_best rows c) (may_assign rows c) true false v) volume_is))

  pub found_shown : read ≡ false → asked ≡ is_asked live → conditions ≡ conditions_on c matched assignable asked true named → conditions ≡ claim_conditions rows c live
  unfolding claim_conditions
  found_shown reads asked_is found =
      rw (reads_is false reads) (found ∙
      (chances asked true named ∙ (ap (λ (a : Bool). conditions_on c (has_best rows c) (may_assign rows c) a true named) asked_is ∙ ap
      (λ (v : Option VolumeData). conditions_on c (has_best rows c) (may_assign rows c) (is_asked live) true v) named_is)))

-- what the code reads off the table is the decision
pub read_off : (rows : List Object) (c : ClaimData) (live : Live) (table : List (CaseRow 12)) (conditions : List Bool) (number : ℕ)
    (answer : ClaimStep) → table ≡ claim_rows → conditions ≡ claim_conditions rows c live → number ≡ action_of table conditions → answer ≡ step_numbered number → answer ≡ claim_decision rows c live
read_off rows c live table conditions number answer rows_are conditions_are picked numbered =
    numbered
    ∙ (ap step_numbered picked
    ∙ (ap (λ (t : List (CaseRow 12)). step_numbered (action_of t conditions)) rows_are
    ∙ (ap (λ (cs : List Bool). step_numbered (action_of claim_rows cs)) conditions_are
    ∙ (ap step_numbered (picks rows c live)
    ∙ numbered_back (claim_decision rows c live)))))

-- a choice is there where a match exists
pub choice_matches : (rows : List Object) (c : ClaimData) (answer : Option ℕ) → IsVolumeFor (is_empty c.volume_name) rows c answer → (is_empty c.volume_name && is_some answer) ≡ has_best rows c
choice_matches rows c answer choice = by_name (is_empty c.volume_name) choice
  where
    by_name : (empty : Bool) → IsVolumeFor empty rows c answer → (empty && is_some answer) ≡ (empty && has_match rows c)
    by_name true choice = best_matches rows c answer choice
    by_name false choice = refl

-- what is to be bound: a match, or the volume that the claim names, which is seen

pub lost_binds_none : (b : Bool) → (if b then steps.Nothing else steps.Lost) ≡ steps.Bind → ⊥
lost_binds_none true e = cc
lost_binds_none false e = cc

reading_binds_none : (b : Bool) → (if b then steps.Nothing else steps.ReadVolume) ≡ steps.Bind → ⊥
reading_binds_none true e = cc
reading_binds_none false e = cc

read_binds_none : (c : ClaimData) (v : Option VolumeData) → read_step c v ≡ steps.Bind → ⊥
read_binds_none c None e = lost_binds_none (is_lost c.phase) e
read_binds_none c (Some v) e = by (has_other_uid v c) e
  where
    by : (b : Bool) → (if b then unless_lost c steps.Lost else steps.Nothing) ≡ steps.Bind → ⊥
    by true e = lost_binds_none (is_lost c.phase) e
    by false e = cc

unseen_binds_none : (c : ClaimData) (done deleting matched assignable : Bool) (live : Live) → decided c done deleting false matched assignable live None ≡ steps.Bind → ⊥
unseen_binds_none c true deleting matched assignable NotAsked e = reading_binds_none (is_lost c.phase) e
unseen_binds_none c true deleting matched assignable Absent e = lost_binds_none (is_lost c.phase) e
unseen_binds_none c true deleting matched assignable (Present o) e = read_binds_none c (as_volume (Some o.now)) e
unseen_binds_none c false true matched assignable live e = cc
unseen_binds_none c false false matched assignable live e = cc

matched_binds : (c : ClaimData) (done deleting matched assignable : Bool) (live : Live) (v : Option VolumeData) → decided c done deleting true matched assignable live v ≡ steps.Bind → matched ≡ true
matched_binds c true deleting matched assignable live v e = absurd (lost_binds_none (is_lost c.phase) e)
matched_binds c false true matched assignable live v e = cc
matched_binds c false false true assignable live v e = refl
matched_binds c false false false true live v e = cc
matched_binds c false false false false live v e = cc

-- the step of a claim, with what it names laid open
abbrev decided_for : List Object → ClaimData → Live → Bool → Option VolumeData → ClaimStep
decided_for rows c live empty v = decided c (is_completed c) (is_deleting c.meta) empty (has_match rows c) (may_assign rows c) live v

seen : (rows : List Object) (c : ClaimData) (live : Live) (row : Option Object) → decided_for rows c live false (as_volume row) ≡ steps.Bind → (v : VolumeData) × (row ≡ Some (Volume v))
seen rows c live row e = by (as_volume row) refl e
  where
    by : (v : Option VolumeData) → as_volume row ≡ v → decided_for rows c live false v ≡ steps.Bind → (v : VolumeData) × (row ≡ Some (Volume v))
    by None is e = absurd (unseen_binds_none c (is_completed c) (is_deleting c.meta) (has_match rows c) (may_assign rows c) live e)
    by (Some v) is e = (v, volume_seen row v is)

-- a volume stands at the place of what is to be bound
pub bound_there : (rows : List Object) (c : ClaimData) (live : Live) (place : ℕ) → IsVolumeFor (is_empty c.volume_name) rows c (Some place)
    → claim_decision rows c live ≡ steps.Bind → IsVolumeAt rows place
unfolding claim_decision
bound_there rows c live place choice e = by (is_empty c.volume_name) choice e
  where
    by : (empty : Bool) → IsVolumeFor empty rows c (Some place) → decided_for rows c live empty (named_volume rows c) ≡ steps.Bind → IsVolumeAt rows place
    by true choice e = record { volume = choice.volume; there = choice.candidate.there }
    by false choice e = let s = seen rows c live (row_at (volume_key c.volume_name) rows) e in record { volume = s.0; there = choice ∙ s.1 }

-- without a choice nothing is bound
pub no_choice : (rows : List Object) (c : ClaimData) (live : Live) → IsVolumeFor (is_empty c.volume_name) rows c None → claim_decision rows c live ≡ steps.Bind → ⊥
unfolding claim_decision
no_choice rows c live choice e = by (is_empty c.volume_name) choice e
  where
    by : (empty : Bool) → IsVolumeFor empty rows c None → decided_for rows c live empty (named_volume rows c) ≡ steps.Bind → ⊥
    by true choice e = let match = matched_binds c (is_completed c) (is_deleting c.meta) (has_match rows c) (may_assign rows c) live (named_volume
        rows c) e in let none = best_matches rows c None choice in cc
    by false choice e = unseen_binds_none c (is_completed c) (is_deleting c.meta) (has_match rows c) (may_assign rows c) live
        (ap (λ (o : Option Object). decided_for rows c live false (as_volume o)) (sym choice) ∙ e)
