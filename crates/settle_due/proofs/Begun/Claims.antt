-- What the binder decides on a claim is what is due for it: to read the volume is to find that the claim is Lost.
use Rattle.std.proofs.Common.{◌≡◌, ◌∙◌, List, Bool, true, false, true≢false, Option, Some, None, refl, ap, if◌then◌else◌}
use Rattle.std.specs.Prelude.{◌&&◌, is_none}
use Rattle.std.specs.List.{list_any}
use Rattle.kube_parts.specs.declared.names.Due.{Due}
use Rattle.kube_parts.specs.declared.names.Due.TheVariants as dues
use Rattle.kube_types.specs.declared.lookup.Live.TheVariants.{NotAsked}
use Rattle.kube_objects.specs.declared.objects.Claim.{Claim as ClaimData}
use Rattle.kube_objects.specs.declared.objects.Ref.{Ref}
use Rattle.kube_objects.specs.declared.objects.Volume.{Volume as VolumeData}
use Rattle.kube_objects.specs.declared.objects.Object.{Object}
use Rattle.kube_objects.specs.declared.objects.Object.TheVariants.{Class, Node, Volume, Claim, Pod}
use Rattle.kube_objects.specs.Bindings.{is_completed, is_deleting, is_empty, is_for, is_lost, lacks_class}
use Rattle.kube_objects.specs.Keys.{AreRows, row_at}
use Rattle.volume_index.specs.VolumeIndex.{as_volume}
use Rattle.call_types.specs.declared.request.SeatKind.TheVariants as seats
use Rattle.binder_model.specs.BinderDue.{claim_due, class_due, completed_due, has_other_uid, is_default_row, lost_due, named_due}
use Rattle.binder_model.specs.Matching.{fits, has_match}
use Rattle.binder_model.specs.ObjectKeys.{volume_key}
use Rattle.binder_model.specs.Reading.{follows}
use Rattle.claim_sync.specs.declared.action.ClaimStep.{ClaimStep}
use Rattle.claim_sync.specs.declared.action.ClaimStep.TheVariants as steps
use Rattle.claim_sync.specs.ClaimDecision.{claim_decision, completed_step, has_write, is_blocked, may_assign, named_step, named_volume, unless_lost, unnamed_step}
use Rattle.binder_machines.specs.declared.decide.FirstMachine.TheVariants as binder_firsts
use Rattle.binder_machines.specs.declared.machine.Machine.{Machine}
use Rattle.binder_machines.specs.FirstSteps.{IsClaimFirst}
use Rattle.settle_due.proofs.Upkeep.Volumes.{begins_one}
use Rattle.settle_due.proofs.Binding.Matches.{AgreeForBinder, match_same}
use Rattle.settle_due.proofs.Binding.Claims.{default_class_row}
use Rattle.settle_due.proofs.Begun.Seeing.{any_seen}

-- what is due where this is decided
abbrev pub due_by : ClaimStep → Option Due
due_by steps.Nothing = None
due_by steps.ReadVolume = Some dues.Lost
due_by steps.Bind = Some dues.Bind
due_by steps.AssignClass = Some dues.AssignClass
due_by steps.Lost = Some dues.Lost

-- a machine begins, so something is due
pub record IsSome (x : Option Due) : Type 0 where
  pub action : Due
  pub is : x ≡ Some action

pub begun_due : (rows : List Object) (c : ClaimData) (step : ClaimStep) (machine : Machine) → IsClaimFirst rows c step (binder_firsts.Begins machine) → IsSome (due_by step)
begun_due rows c steps.Nothing machine begins = absurd (true≢false (ap begins_one begins))
begun_due rows c steps.ReadVolume machine begins = record { action = dues.Lost; is = refl }
begun_due rows c steps.Bind machine begins = record { action = dues.Bind; is = refl }
begun_due rows c steps.AssignClass machine begins = record { action = dues.AssignClass; is = refl }
begun_due rows c steps.Lost machine begins = record { action = dues.Lost; is = refl }

module _ (c : ClaimData) where
  lost_so : due_by (unless_lost c steps.Lost) ≡ lost_due c
  lost_so = by (is_lost c.phase)
    where
      by : (b : Bool) → due_by (if b then steps.Nothing else steps.Lost) ≡ (if b then None else Some dues.Lost)
      by true = refl
      by false = refl

  read_so : due_by (unless_lost c steps.ReadVolume) ≡ lost_due c
  read_so = by (is_lost c.phase)
    where
      by : (b : Bool) → due_by (if b then steps.Nothing else steps.ReadVolume) ≡ (if b then None else Some dues.Lost)
      by true = refl
      by false = refl

  completed_with : (v : VolumeData) → due_by (completed_step c NotAsked (Some v)) ≡ completed_due c (Some (Volume v))
  unfolding completed_due
  completed_with v = by (has_other_uid v c) (has_write v c)
    where
      by : (other writes : Bool) → due_by (if other then unless_lost c steps.Lost else if writes then steps.Bind else steps.Nothing) ≡ (if other then
          lost_due c else if writes then Some dues.Bind else None)
      by true writes = lost_so
      by false true = refl
      by false false = refl

  completed_so : (row : Option Object) → due_by (completed_step c NotAsked (as_volume row)) ≡ completed_due c row
  unfolding completed_due
  completed_so None = read_so
  completed_so (Some (Volume v)) = completed_with v
  completed_so (Some (Class x)) = read_so
  completed_so (Some (Node x)) = read_so
  completed_so (Some (Claim x)) = read_so
  completed_so (Some (Pod x)) = read_so

  named_so : (row : Option Object) → due_by (named_step c (as_volume row)) ≡ named_due c row
  unfolding named_due
  named_so None = refl
  named_so (Some (Volume v)) = by (is_blocked v) v.claim_ref (fits v c) (is_for v c)
    where
      by : (blocked : Bool) (r : Option Ref) (fitting own : Bool) → due_by (if blocked then steps.Nothing else if (if is_none r then fitting else own) then steps.Bind else steps.Nothing)
          ≡ (if blocked then None else if is_none r then (if fitting then Some dues.Bind else None) else if own then Some dues.Bind else None)
      by true r fitting own = refl
      by false None true own = refl
      by false None false own = refl
      by false (Some r) fitting true = refl
      by false (Some r) fitting false = refl
  named_so (Some (Class x)) = refl
  named_so (Some (Node x)) = refl
  named_so (Some (Claim x)) = refl
  named_so (Some (Pod x)) = refl

  -- on rows that agree where the binder follows
  module _ (cached rows : List Object) (ordered : AreRows cached) (order : AreRows rows) (agree : AgreeForBinder cached rows) where
    default_seen : list_any is_default_row cached ≡ list_any is_default_row rows
    default_seen = any_seen seats.Binder cached rows ordered order agree is_default_row (λ o e. ap (λ k. follows seats.Binder k) (default_class_row o e))

    unnamed_so : due_by (unnamed_step cached c) ≡ (if has_match rows c then Some dues.Bind else class_due rows c)
    unnamed_so =
        by (has_match cached c) (may_assign cached c)
        ∙ (λ i. if (match_same cached rows c ordered order agree) i then Some dues.Bind else if lacks_class c && default_seen i then Some dues.AssignClass else None)
      where
        by : (found may : Bool) → due_by (if found then steps.Bind else if may then steps.AssignClass else steps.Nothing) ≡ (if found then Some
            dues.Bind else if may then Some dues.AssignClass else None)
        by true may = refl
        by false true = refl
        by false false = refl

    completed_here : due_by (completed_step c NotAsked (named_volume cached c)) ≡ completed_due c (row_at (volume_key c.volume_name) rows)
    completed_here = ap (λ row. due_by (completed_step c NotAsked (as_volume row))) (agree (volume_key c.volume_name) refl) ∙ completed_so (row_at (volume_key c.volume_name) rows)

    named_here : due_by (named_step c (named_volume cached c)) ≡ named_due c (row_at (volume_key c.volume_name) rows)
    named_here = ap (λ row. due_by (named_step c (as_volume row))) (agree (volume_key c.volume_name) refl) ∙ named_so (row_at (volume_key c.volume_name) rows)

    pub claim_begins_due : due_by (claim_decision cached c NotAsked) ≡ claim_due rows c
    unfolding claim_decision claim_due
    claim_begins_due = by (is_completed c) (is_empty c.volume_name) (is_deleting c.meta)
      where
        by : (completed empty deleting : Bool)
            → due_by (if completed then (if empty then unless_lost c steps.Lost else completed_step c NotAsked (named_volume cached c)) else if
            deleting then steps.Nothing else if empty then unnamed_step cached c else named_step c (named_volume cached c))
            ≡ (if completed then (if empty then lost_due c else completed_due c (row_at (volume_key c.volume_name) rows)) else if deleting then None
            else if empty then (if has_match rows c then Some dues.Bind else class_due rows c) else named_due c (row_at (volume_key c.volume_name) rows))
        by true true deleting = lost_so
        by true false deleting = completed_here
        by false empty true = refl
        by false true false = unnamed_so
        by false false false = named_here
