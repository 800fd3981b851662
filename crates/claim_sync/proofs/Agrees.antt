-- The decision is what is due.
use Rattle.std.proofs.Common.{◌≡◌, ◌∙◌, Bool, true, false, true≢false, List, Option, Some, None, is_none, refl, sym, ap, if◌then◌else◌}
use Rattle.kube_parts.specs.declared.names.Due.{Due}
use Rattle.kube_parts.specs.declared.names.Due.TheVariants as dues
use Rattle.kube_objects.specs.declared.objects.Volume.{Volume as VolumeData}
use Rattle.kube_objects.specs.declared.objects.Claim.{Claim as ClaimData}
use Rattle.kube_objects.specs.declared.objects.Object.{Object}
use Rattle.kube_objects.specs.declared.objects.Object.TheVariants.{Class, Node, Volume, Claim, Pod}
use Rattle.kube_types.specs.declared.lookup.Live.{Live}
use Rattle.kube_types.specs.declared.lookup.Live.TheVariants.{NotAsked, Absent, Present}
use Rattle.kube_objects.specs.Keys.{row_at}
use Rattle.kube_objects.specs.Bindings.{is_completed, is_deleting, is_empty, is_for, is_lost}
use Rattle.kube_types.specs.Lookups.{is_asked}
use Rattle.binder_model.specs.Matching.{fits, has_match}
use Rattle.binder_model.specs.ObjectKeys.{volume_key}
use Rattle.binder_model.specs.BinderDue.{claim_due, completed_due, has_other_uid, lost_due, named_due}
use Rattle.volume_index.specs.VolumeIndex.{as_volume}
use Rattle.claim_sync.specs.declared.action.ClaimStep.{ClaimStep}
use Rattle.claim_sync.specs.declared.action.ClaimStep.TheVariants as steps
use Rattle.claim_sync.specs.ClaimDecision.{claim_decision, completed_step, has_write, is_blocked, may_assign, named_step, other_step, read_step, unless_lost}
use Rattle.claim_sync.specs.Conditions.{live_volume}
use Rattle.claim_sync.specs.ClaimLaw.{ReadsRows, due_of}

bound_or_not : (blocked free fitting own : Bool)
    → due_of (if blocked then steps.Nothing else if (if free then fitting else own) then steps.Bind else steps.Nothing)
    ≡ (if blocked then None else if free then (if fitting then Some dues.Bind else None) else if own then Some dues.Bind else None)
bound_or_not true free fitting own = refl
bound_or_not false true true own = refl
bound_or_not false true false own = refl
bound_or_not false false fitting true = refl
bound_or_not false false fitting false = refl

-- phase Lost is due where the phase is another
pub lost_agrees : (c : ClaimData) → due_of (unless_lost c steps.Lost) ≡ lost_due c
lost_agrees c = by (is_lost c.phase)
  where
    by : (b : Bool) → due_of (if b then steps.Nothing else steps.Lost) ≡ (if b then None else Some dues.Lost)
    by true = refl
    by false = refl

pub named_agrees : (c : ClaimData) (row : Option Object) → due_of (named_step c (as_volume row)) ≡ named_due c row
unfolding named_due
named_agrees c None = refl
named_agrees c (Some (Volume v)) = bound_or_not (is_blocked v) (is_none v.claim_ref) (fits v c) (is_for v c)
named_agrees c (Some (Class x)) = refl
named_agrees c (Some (Node x)) = refl
named_agrees c (Some (Claim x)) = refl
named_agrees c (Some (Pod x)) = refl

-- the volume was read by itself, and is lacking or another claim's
lacking_lost : (c : ClaimData) (live : Live) → is_asked live ≡ true → live_volume live ≡ None → due_of (completed_step c live None) ≡ lost_due c
lacking_lost c NotAsked asked lacks = absurd (true≢false (sym asked))
lacking_lost c Absent asked lacks = lost_agrees c
lacking_lost c (Present o) asked lacks = ap (λ (v : Option VolumeData). due_of (read_step c v)) lacks ∙ lost_agrees c

other_lost : (c : ClaimData) (v : VolumeData) (live : Live) → has_other_uid v c ≡ true → live_volume live ≡ Some v → due_of (other_step c live) ≡ lost_due c
other_lost c v NotAsked other reads = lost_agrees c
other_lost c v Absent other reads = lost_agrees c
other_lost c v (Present o) other reads =
    ap (λ (x : Option VolumeData). due_of (read_step c x)) reads
    ∙ (ap (λ (b : Bool). due_of (if b then unless_lost c steps.Lost else steps.Nothing)) other ∙ lost_agrees c)

pub lost_or_bound : (other writes : Bool) (s : ClaimStep) (lost : Option Due) → (other ≡ true → due_of s ≡ lost)
    → due_of (if other then s else if writes then steps.Bind else steps.Nothing) ≡ (if other then lost else if writes then Some dues.Bind else None)
lost_or_bound true writes s lost is = is refl
lost_or_bound false true s lost is = refl
lost_or_bound false false s lost is = refl

completed_agrees : (c : ClaimData) (live : Live) (row : Option Object) → is_asked live ≡ true → live_volume live ≡ as_volume row → due_of (completed_step c live (as_volume row)) ≡ completed_due c row
unfolding completed_due
completed_agrees c live None asked reads = lacking_lost c live asked reads
completed_agrees c live (Some (Volume v)) asked reads = lost_or_bound (has_other_uid v c) (has_write v c) (other_step c live) (lost_due c) (λ other. other_lost c v live other reads)
completed_agrees c live (Some (Class x)) asked reads = lacking_lost c live asked reads
completed_agrees c live (Some (Node x)) asked reads = lacking_lost c live asked reads
completed_agrees c live (Some (Claim x)) asked reads = lacking_lost c live asked reads
completed_agrees c live (Some (Pod x)) asked reads = lacking_lost c live asked reads

frame : (done deleting empty match assignable : Bool) (l x y : ClaimStep) (d p q : Option Due) → due_of l ≡ d → due_of x ≡ p → due_of y ≡ q
    → due_of (if done then (if empty then l else x) else if deleting then steps.Nothing else if empty then
    (if match then steps.Bind else if assignable then steps.AssignClass else steps.Nothing) else y)
    ≡ (if done then (if empty then d else p) else if deleting then None else if empty then (if match then Some dues.Bind else if assignable then Some dues.AssignClass else None) else q)
frame true deleting true match assignable l x y d p q g e f = g
frame true deleting false match assignable l x y d p q g e f = e
frame false true empty match assignable l x y d p q g e f = refl
frame false false true true assignable l x y d p q g e f = refl
frame false false true false true l x y d p q g e f = refl
frame false false true false false l x y d p q g e f = refl
frame false false false match assignable l x y d p q g e f = f

pub decision_due : (rows : List Object) (c : ClaimData) (live : Live) → ReadsRows rows c live → due_of (claim_decision rows c live) ≡ claim_due rows c
unfolding claim_decision claim_due
decision_due rows c live reads =
    let row = row_at (volume_key c.volume_name) rows in
    frame (is_completed c) (is_deleting c.meta) (is_empty c.volume_name) (has_match rows c) (may_assign rows c) _ _ _ _ _ _ (lost_agrees c)
    (completed_agrees c live row reads.asked reads.volume) (named_agrees c row)
