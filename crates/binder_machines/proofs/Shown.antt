-- The decision after a read is the one on the look-up with what was read.
use Rattle.std.proofs.Common.{◌≡◌, ◌∙◌, Bool, true, false, true≢false, not, List, [], Option, Some, None, refl, sym, ap, if◌then◌else◌}
use Rattle.std.specs.Prelude.{bytes_eq, ◌&&◌, ◌||◌}
use Rattle.kube_parts.specs.declared.uid.Uid.{Uid}
use Rattle.kube_objects.specs.declared.objects.Ref.{Ref}
use Rattle.kube_objects.specs.declared.objects.Volume.{Volume as VolumeData}
use Rattle.kube_objects.specs.declared.objects.Claim.{Claim as ClaimData}
use Rattle.kube_objects.specs.declared.objects.Object.{Object}
use Rattle.kube_types.specs.declared.lookup.Live.{Live}
use Rattle.kube_types.specs.declared.lookup.Live.TheVariants.{NotAsked, Absent, Present}
use Rattle.kube_objects.specs.Keys.{row_at}
use Rattle.kube_types.specs.Lookups.{is_asked}
use Rattle.kube_objects.specs.Bindings.{is_available, is_bound, is_completed, is_deleting, is_empty, is_ended, is_protected_volume, lacks_class, ref_uid}
use Rattle.binder_model.specs.ObjectKeys.{claim_key}
use Rattle.binder_model.specs.BinderDue.{claim_with, has_other_uid, is_reclaimed}
use Rattle.binder_model.specs.Matching.{has_match}
use Rattle.volume_index.specs.VolumeIndex.{as_volume}
use Rattle.claim_sync.specs.ClaimDecision.{claim_decision, completed_step, has_write, is_blocked, is_open_to, may_assign, named_step, named_volume, other_step, read_step, unless_lost}
use Rattle.claim_sync.specs.declared.action.ClaimStep.{ClaimStep}
use Rattle.claim_sync.specs.declared.action.ClaimStep.TheVariants as steps
use Rattle.volume_sync.specs.VolumeDecision.{claim_by_reference, claim_by_uid, free_action, refers_by_uid, live_claim, or_else, referred_action, seen_claim, volume_decision}
use Rattle.volume_sync.specs.declared.action.VolumeAction.TheVariants as actions
use Rattle.binder_machines.specs.Machines.{claim_of_uid, claim_read, volume_read}

-- what was read
abbrev pub shown : Live → Option Object
shown NotAsked = None
shown Absent = None
shown (Present o) = Some o.now

-- volumes

live_shown : (uid : Uid) (live : Live) → is_asked live ≡ true → live_claim uid live ≡ claim_of_uid (Some uid) (shown live)
unfolding claim_with
live_shown uid NotAsked asked = absurd (true≢false (sym asked))
live_shown uid Absent asked = refl
live_shown uid (Present o) asked = refl

else_other : (claim other : Option ClaimData) → or_else claim None ≡ None → or_else claim other ≡ other
else_other None other e = refl
else_other (Some c) other e = cc

-- the claim that is seen, where the look-up shows none
seen_live : (rows : List Object) (v : VolumeData) (live : Live) → is_asked live ≡ true → seen_claim rows v NotAsked ≡ None → seen_claim rows v live ≡ claim_of_uid (ref_uid v.claim_ref) (shown live)
seen_live rows v live asked none = by v.claim_ref none
  where
    by_uid : (r : Ref) (uid : Option Uid) → claim_by_uid rows r uid NotAsked ≡ None → claim_by_uid rows r uid live ≡ claim_of_uid uid (shown live)
    by_uid r None e = refl
    by_uid r (Some uid) e = else_other (claim_with uid (row_at (claim_key r.namespace r.name) rows)) (live_claim uid live) e ∙ live_shown uid live asked

    by : (r : Option Ref) → claim_by_reference rows r NotAsked ≡ None → claim_by_reference rows r live ≡ claim_of_uid (ref_uid r) (shown live)
    by None e = refl
    by (Some r) e = by_uid r r.uid e

pub volume_reads : (rows : List Object) (v : VolumeData) (live : Live) → is_asked live ≡ true → seen_claim rows v NotAsked ≡ None → volume_decision rows v live ≡ volume_read v (shown live)
unfolding volume_decision volume_read
volume_reads rows v live asked none =
    ap (λ (b : Bool). if not (refers_by_uid v) then free_action v else if is_ended v.phase then actions.Nothing else referred_action v b (seen_claim rows v live)) asked
    ∙ ap (λ (c : Option ClaimData). if not (refers_by_uid v) then free_action v else if is_ended v.phase then actions.Nothing else referred_action v true c) (seen_live rows v live asked none)

unseen_nowhere : (v : VolumeData) → seen_claim [] v NotAsked ≡ None
unfolding claim_with
unseen_nowhere v = by v.claim_ref
  where
    by_uid : (r : Ref) (uid : Option Uid) → claim_by_uid [] r uid NotAsked ≡ None
    by_uid r None = refl
    by_uid r (Some uid) = refl

    by : (r : Option Ref) → claim_by_reference [] r NotAsked ≡ None
    by None = refl
    by (Some r) = by_uid r r.uid

-- what was read decides alone
pub volume_alone : (v : VolumeData) (live : Live) → is_asked live ≡ true → volume_decision [] v live ≡ volume_read v (shown live)
volume_alone v live asked = volume_reads [] v live asked (unseen_nowhere v)

pub free_reads_none : (b : Bool) → (if b then actions.Nothing else actions.Available) ≡ actions.ReadClaim → ⊥
free_reads_none true e = cc
free_reads_none false e = cc

claimed_reads_none : (none this settled erased : Bool)
    → (if none then actions.QueueClaim else if this then (if settled then actions.Nothing else actions.Bound) else if erased then actions.Release else actions.Unbind) ≡ actions.ReadClaim → ⊥
claimed_reads_none true this settled erased e = cc
claimed_reads_none false true true erased e = cc
claimed_reads_none false true false erased e = cc
claimed_reads_none false false settled true e = cc
claimed_reads_none false false settled false e = cc

-- the claim is to be read where the look-up shows none
pub unseen : (rows : List Object) (v : VolumeData) → volume_decision rows v NotAsked ≡ actions.ReadClaim → seen_claim rows v NotAsked ≡ None
unfolding volume_decision
unseen rows v e = by (refers_by_uid v) (is_ended v.phase) (seen_claim rows v NotAsked) e
  where
    by : (known ended : Bool) (claim : Option ClaimData) → (if not known then free_action v else if ended then actions.Nothing else referred_action v false claim) ≡ actions.ReadClaim → claim ≡ None
    by known ended None e = refl
    by false ended (Some c) e = absurd (free_reads_none (is_available v.phase) e)
    by true true (Some c) e = cc
    by true false (Some c) e = absurd (claimed_reads_none (is_empty c.volume_name) (bytes_eq c.volume_name v.meta.name) (is_bound v.phase || not (is_protected_volume v)) (is_reclaimed v) e)

-- claims

-- the decision by its conditions
abbrev step_by : ClaimData → Bool → Bool → Bool → Bool → Bool → ClaimStep → Option VolumeData → ClaimStep
step_by c done deleting empty match assignable x v =
    if done then (if empty then unless_lost c steps.Lost else x)
    else if deleting then steps.Nothing
    else if empty then (if match then steps.Bind else if assignable then steps.AssignClass else steps.Nothing)
    else named_step c v

lacking_read : (c : ClaimData) (live : Live) → is_asked live ≡ true → completed_step c live None ≡ read_step c (as_volume (shown live))
lacking_read c NotAsked asked = absurd (true≢false (sym asked))
lacking_read c Absent asked = refl
lacking_read c (Present o) asked = refl

-- what was read decides alone
pub claim_alone : (c : ClaimData) (live : Live) → is_asked live ≡ true → claim_decision [] c live ≡ claim_read c (shown live)
unfolding claim_decision claim_read
claim_alone c live asked = by (is_completed c) (is_deleting c.meta) (is_empty c.volume_name) (lacks_class c)
  where
    by : (done deleting empty lacking : Bool)
        → step_by c done deleting empty false (lacking && false)
        (completed_step c live None) None ≡ (if done then (if empty then unless_lost c steps.Lost else read_step c (as_volume (shown live))) else steps.Nothing)
    by true deleting true lacking = refl
    by true deleting false lacking = lacking_read c live asked
    by false true empty lacking = refl
    by false false true true = refl
    by false false true false = refl
    by false false false lacking = refl

-- only a completed claim is read or Lost

abbrev pub is_for_completed : ClaimStep → Bool
is_for_completed steps.ReadVolume = true
is_for_completed steps.Lost = true
is_for_completed _ = false

named_for_none : (c : ClaimData) (v : Option VolumeData) → is_for_completed (named_step c v) ≡ false
named_for_none c None = refl
named_for_none c (Some v) = by (is_blocked v) (is_open_to v c)
  where
    by : (blocked takable : Bool) → is_for_completed (if blocked then steps.Nothing else if takable then steps.Bind else steps.Nothing) ≡ false
    by true takable = refl
    by false true = refl
    by false false = refl

pub completed_of : (rows : List Object) (c : ClaimData) → is_for_completed (claim_decision rows c NotAsked) ≡ true → is_completed c ≡ true
unfolding claim_decision
completed_of rows c = by (is_completed c) (is_deleting c.meta) (is_empty c.volume_name) (has_match rows c) (may_assign rows c)
  where
    by : (done deleting empty match assignable : Bool)
        → is_for_completed (step_by c done deleting empty match assignable (completed_step c NotAsked (named_volume rows c)) (named_volume rows c)) ≡ true → done ≡ true
    by true deleting empty match assignable e = refl
    by false true empty match assignable e = absurd (true≢false (sym e))
    by false false true true assignable e = absurd (true≢false (sym e))
    by false false true false true e = absurd (true≢false (sym e))
    by false false true false false e = absurd (true≢false (sym e))
    by false false false match assignable e = absurd (true≢false (sym e ∙ named_for_none c (named_volume rows c)))

-- the volume that the look-up shows does not carry the claim, so what was read decides
completed_read : (c : ClaimData) (v : Option VolumeData) (live : Live) → is_asked live ≡ true → is_for_completed (completed_step c NotAsked v) ≡ true
    → completed_step c live v ≡ read_step c (as_volume (shown live))
completed_read c None live asked e = lacking_read c live asked
completed_read c (Some v) live asked e = by (has_other_uid v c) (has_write v c) live asked e
  where
    by : (other writes : Bool) (live : Live) → is_asked live ≡ true → is_for_completed (if other then unless_lost c steps.Lost else if writes then steps.Bind else steps.Nothing) ≡ true
        → (if other then other_step c live else if writes then steps.Bind else steps.Nothing) ≡ read_step c (as_volume (shown live))
    by true writes NotAsked asked e = absurd (true≢false (sym asked))
    by true writes Absent asked e = refl
    by true writes (Present o) asked e = refl
    by false true live asked e = absurd (true≢false (sym e))
    by false false live asked e = absurd (true≢false (sym e))

pub claim_reads : (rows : List Object) (c : ClaimData) (live : Live) → is_asked live ≡ true
    → is_for_completed (claim_decision rows c NotAsked) ≡ true → claim_decision rows c live ≡ claim_read c (shown live)
unfolding claim_decision claim_read
claim_reads rows c live asked e = by (is_completed c) (is_deleting c.meta) (is_empty c.volume_name) (has_match rows c) (may_assign rows c) e
  where
    by : (done deleting empty match assignable : Bool)
        → is_for_completed (step_by c done deleting empty match assignable (completed_step c NotAsked (named_volume rows c)) (named_volume rows c)) ≡ true
        → step_by c done deleting empty match assignable (completed_step c live (named_volume rows c))
        (named_volume rows c) ≡ (if done then (if empty then unless_lost c steps.Lost else read_step c (as_volume (shown live))) else steps.Nothing)
    by true deleting true match assignable e = refl
    by true deleting false match assignable e = completed_read c (named_volume rows c) live asked e
    by false true empty match assignable e = absurd (true≢false (sym e))
    by false false true true assignable e = absurd (true≢false (sym e))
    by false false true false true e = absurd (true≢false (sym e))
    by false false true false false e = absurd (true≢false (sym e))
    by false false false match assignable e = absurd (true≢false (sym e ∙ named_for_none c (named_volume rows c)))
