-- A class is assigned to a claim that is neither completed nor deleting, names no volume, and may get one.
use Rattle.std.proofs.Common.{◌≡◌, ◌∙◌, Bool, true, false, true≢false, List, Option, Some, None, refl, sym, if◌then◌else◌}
use Rattle.kube_objects.specs.declared.objects.Volume.{Volume as VolumeData}
use Rattle.kube_objects.specs.declared.objects.Claim.{Claim as ClaimData}
use Rattle.kube_objects.specs.declared.objects.Object.{Object}
use Rattle.kube_types.specs.declared.lookup.Live.{Live}
use Rattle.kube_types.specs.declared.lookup.Live.TheVariants.{NotAsked, Absent, Present}
use Rattle.kube_objects.specs.Bindings.{is_completed, is_deleting, is_empty, is_lost}
use Rattle.binder_model.specs.Matching.{has_match}
use Rattle.binder_model.specs.BinderDue.{has_other_uid}
use Rattle.volume_index.specs.VolumeIndex.{as_volume}
use Rattle.claim_sync.specs.declared.action.ClaimStep.TheVariants as steps
use Rattle.claim_sync.specs.ClaimDecision.{claim_decision, completed_step, has_write, is_blocked, is_open_to, lacking_step, may_assign, named_step, named_volume, other_step, read_step, unless_lost}

lost_assigns_none : (b : Bool) → (if b then steps.Nothing else steps.Lost) ≡ steps.AssignClass → ⊥
lost_assigns_none true e = cc
lost_assigns_none false e = cc

read_assigns_none : (c : ClaimData) (v : Option VolumeData) → read_step c v ≡ steps.AssignClass → ⊥
read_assigns_none c None e = lost_assigns_none (is_lost c.phase) e
read_assigns_none c (Some v) e = by (has_other_uid v c) e
  where
    by : (b : Bool) → (if b then unless_lost c steps.Lost else steps.Nothing) ≡ steps.AssignClass → ⊥
    by true e = lost_assigns_none (is_lost c.phase) e
    by false e = cc

lacking_assigns_none : (c : ClaimData) (live : Live) → lacking_step c live ≡ steps.AssignClass → ⊥
lacking_assigns_none c NotAsked e = by (is_lost c.phase) e
  where
    by : (b : Bool) → (if b then steps.Nothing else steps.ReadVolume) ≡ steps.AssignClass → ⊥
    by true e = cc
    by false e = cc
lacking_assigns_none c Absent e = lost_assigns_none (is_lost c.phase) e
lacking_assigns_none c (Present o) e = read_assigns_none c (as_volume (Some o.now)) e

other_assigns_none : (c : ClaimData) (live : Live) → other_step c live ≡ steps.AssignClass → ⊥
other_assigns_none c NotAsked e = lost_assigns_none (is_lost c.phase) e
other_assigns_none c Absent e = lost_assigns_none (is_lost c.phase) e
other_assigns_none c (Present o) e = read_assigns_none c (as_volume (Some o.now)) e

completed_assigns_none : (c : ClaimData) (live : Live) (v : Option VolumeData) → completed_step c live v ≡ steps.AssignClass → ⊥
completed_assigns_none c live None e = lacking_assigns_none c live e
completed_assigns_none c live (Some v) e = by (has_other_uid v c) (has_write v c) e
  where
    by : (other writes : Bool) → (if other then other_step c live else if writes then steps.Bind else steps.Nothing) ≡ steps.AssignClass → ⊥
    by true writes e = other_assigns_none c live e
    by false true e = cc
    by false false e = cc

named_assigns_none : (c : ClaimData) (v : Option VolumeData) → named_step c v ≡ steps.AssignClass → ⊥
named_assigns_none c None e = cc
named_assigns_none c (Some v) e = by (is_blocked v) (is_open_to v c) e
  where
    by : (blocked takable : Bool) → (if blocked then steps.Nothing else if takable then steps.Bind else steps.Nothing) ≡ steps.AssignClass → ⊥
    by true takable e = cc
    by false true e = cc
    by false false e = cc

-- what a claim is, to which a class is assigned
pub record GetsClass (rows : List Object) (c : ClaimData) : Type 0 where
  pub undone : is_completed c ≡ false
  pub staying : is_deleting c.meta ≡ false
  pub unnamed : is_empty c.volume_name ≡ true
  pub assignable : may_assign rows c ≡ true

pub gets_class : (rows : List Object) (c : ClaimData) (live : Live) → claim_decision rows c live ≡ steps.AssignClass → GetsClass rows c
unfolding claim_decision
gets_class rows c live = by (is_completed c) (is_deleting c.meta) (is_empty c.volume_name) (has_match rows c) (may_assign rows c) refl refl refl refl
  where
    by : (done deleting empty matched assignable : Bool) → is_completed c ≡ done → is_deleting c.meta ≡ deleting → is_empty c.volume_name ≡ empty → may_assign rows c ≡ assignable
        → (if done then (if empty then unless_lost c steps.Lost else completed_step c live (named_volume rows c)) else if deleting then steps.Nothing
        else if empty then (if matched then steps.Bind else if assignable then steps.AssignClass else steps.Nothing) else named_step c (named_volume rows c)) ≡ steps.AssignClass → GetsClass rows c
    by true deleting true matched assignable d s n a e = absurd (lost_assigns_none (is_lost c.phase) e)
    by true deleting false matched assignable d s n a e = absurd (completed_assigns_none c live (named_volume rows c) e)
    by false true empty matched assignable d s n a e = cc
    by false false true true assignable d s n a e = cc
    by false false true false true d s n a e = record { undone = d; staying = s; unnamed = n; assignable = a }
    by false false true false false d s n a e = cc
    by false false false matched assignable d s n a e = absurd (named_assigns_none c (named_volume rows c) e)

-- without a default class none is assigned
pub no_class : (rows : List Object) (c : ClaimData) (live : Live) → may_assign rows c ≡ false → claim_decision rows c live ≡ steps.AssignClass → ⊥
no_class rows c live none e = true≢false (sym (gets_class rows c live e).assignable ∙ none)
