-- Requests that no row allows, seats whose entries have two kinds, and the rule by which a request is refused.
-- A choice of this project. The newest exchange stands first.
use Rattle.std.specs.Prelude.{◌≡◌, List, [], ◌∷◌, ◌++◌, Some, None, codes}
use Rattle.kube_parts.specs.declared.names.LicenceRule.{LicenceRule}
use Rattle.kube_parts.specs.declared.names.LicenceRule.TheVariants as rules
use Rattle.kube_parts.specs.declared.parts.Kind.TheVariants as kinds
use Rattle.kube_parts.specs.declared.parts.VolumePhase.{VolumePhase}
use Rattle.kube_parts.specs.declared.parts.VolumePhase.TheVariants as volumes
use Rattle.kube_parts.specs.declared.parts.ClaimPhase.{ClaimPhase}
use Rattle.kube_parts.specs.declared.parts.ClaimPhase.TheVariants as claims
use Rattle.kube_objects.specs.declared.objects.Object.TheVariants.{Node, Volume, Claim, Pod}
use Rattle.kube_objects.specs.Sources.{data_id_of}
use Rattle.kube_parts.specs.Uids.{uid_of_serial}
use Rattle.call_types.specs.declared.edit.Edit.TheVariants as edits
use Rattle.call_types.specs.declared.entry.Entry.{Entry}
use Rattle.call_types.specs.declared.request.NewStatus.TheVariants as statuses
use Rattle.call_types.specs.declared.request.SeatKind.{SeatKind}
use Rattle.call_types.specs.declared.request.SeatKind.TheVariants as seats
use Rattle.call_types.specs.declared.request.Request.{Request}
use Rattle.call_types.specs.declared.request.Request.TheVariants as requests
use Rattle.binder_model.specs.Store.{first_moment}
use Rattle.binder_model.specs.ObjectKeys.{pod_key}
use Rattle.binder_model.specs.BindWrites.{write_reference, write_completion, write_available}
use Rattle.binder_model.specs.Provisioning.{data_name}
use Rattle.binder_model.specs.Licence.{Licensed, IsRefusedBy, row_rule}
use Rattle.model_examples.specs.Samples.{
  Allows,
  Refuses,
  Exchange,
  seat_of,
  lists,
  tells_volume,
  tells_both,
  a,
  c,
  key_a,
  key_c,
  uid_c,
  amount,
  once,
  node_1,
  taken_a,
  bound_a,
  completed_c,
  n1,
  p,
  uid_p,
  list_volumes,
}

-- two kinds

abbrev pub told_classes : List Exchange
told_classes = lists kinds.StorageClass [] 3 ∷ []

-- an entry of another kind, alone and below those of the seat's own
abbrev pub of_ops : List Entry
of_ops = seat_of seats.Ops told_classes

abbrev pub of_both : List Entry
of_both = seat_of seats.Binder told_classes ++ of_ops

pub record TwoKindsExamples : Type 0 where
  pub own_kind_alone : Licensed seats.Binder (seat_of seats.Binder told_classes) list_volumes
  pub other_kind_is_refused : Licensed seats.Binder of_ops list_volumes → ⊥
  pub other_kind_below_is_refused : Licensed seats.Binder of_both list_volumes → ⊥
  pub users_kind_is_refused : Licensed seats.Binder (seat_of seats.User told_classes) list_volumes → ⊥
  pub user_may_always : Licensed seats.User of_both (write_completion bound_a c)

-- requests of no row

abbrev pub status_of_volume : VolumePhase → Request
status_of_volume phase = requests.UpdateStatus key_a (statuses.Volume phase) (Some 3)

abbrev pub status_of_claim : ClaimPhase → Request
status_of_claim phase = requests.UpdateStatus key_c (statuses.Claim phase once (Some (amount 5))) (Some 2)

abbrev pub told_a_c : List Exchange
told_a_c = tells_both c a

pub record NoRowExamples : Type 0 where
  pub binder_creates_is_refused : Refuses seats.Binder told_a_c (requests.Create (Volume a))
  pub binder_edits_is_refused : Refuses seats.Binder told_a_c (requests.Edit key_a edits.ClearClaimRef)
  pub binder_deletes_is_refused : Refuses seats.Binder told_a_c (requests.Delete key_a (Some (uid_of_serial 1)))
  pub binder_sets_time_is_refused : Refuses seats.Binder told_a_c (requests.SetTime first_moment)
  pub binder_provisions_is_refused : Refuses seats.Binder told_a_c (requests.Provision (data_name uid_c) (codes "x/y") 3 None)
  pub binder_erases_is_refused : Refuses seats.Binder told_a_c (requests.Erase (data_id_of a.source))
  pub binder_takes_node_is_refused : Refuses seats.Binder told_a_c (requests.TakeNode node_1)
  pub binder_updates_node_is_refused : Refuses seats.Binder told_a_c (requests.Update (Node n1) (Some 1))
  pub binder_writes_failed_is_refused : Refuses seats.Binder told_a_c (status_of_volume volumes.Failed)
  pub binder_writes_pending_is_refused : Refuses seats.Binder told_a_c (status_of_volume volumes.Pending)
  pub binder_writes_claim_pending_is_refused : Refuses seats.Binder told_a_c (status_of_claim claims.Pending)
  pub ops_writes_released_is_refused : Refuses seats.Ops told_a_c (status_of_volume volumes.Released)
  pub ops_writes_available_is_refused : Refuses seats.Ops told_a_c (status_of_volume volumes.Available)
  pub ops_writes_bound_is_refused : Refuses seats.Ops told_a_c (status_of_volume volumes.Bound)
  pub ops_writes_status_of_claim_is_refused : Refuses seats.Ops told_a_c (status_of_claim claims.Bound)
  pub ops_updates_volume_is_refused : Refuses seats.Ops told_a_c (write_reference a c)
  pub ops_creates_claim_is_refused : Refuses seats.Ops told_a_c (requests.Create (Claim c))
  pub ops_binds_pod_is_refused : Refuses seats.Ops told_a_c (requests.BindPod (pod_key (codes "default") (codes "p")) uid_p node_1)
  pub scheduler_writes_status_is_refused : Refuses seats.Scheduler told_a_c (status_of_volume volumes.Available)
  pub scheduler_updates_pod_is_refused : Refuses seats.Scheduler told_a_c (requests.Update (Pod p) (Some 9))
  pub scheduler_finishes_pod_is_refused : Refuses seats.Scheduler told_a_c (requests.FinishPod (pod_key (codes "default") (codes "p")) uid_p node_1 1)
  pub claim_protection_updates_volume_is_refused : Refuses seats.ClaimProtect told_a_c (requests.Update (Volume a) (Some 3))
  pub claim_protection_deletes_is_refused : Refuses seats.ClaimProtect told_a_c (requests.Delete key_c (Some uid_c))
  pub volume_protection_updates_claim_is_refused : Refuses seats.VolumeProtect told_a_c (requests.Update (Claim c) (Some 2))
  pub volume_protection_writes_status_is_refused : Refuses seats.VolumeProtect told_a_c (status_of_volume volumes.Available)
  pub agent_updates_claim_is_refused : Refuses seats.Agent told_a_c (requests.Update (Claim c) (Some 2))
  pub agent_deletes_pod_is_refused : Refuses seats.Agent told_a_c (requests.Delete (pod_key (codes "default") (codes "p")) (Some uid_p))
  pub agent_erases_is_refused : Refuses seats.Agent told_a_c (requests.Erase (data_id_of a.source))
  pub agent_takes_any_node : Allows seats.Agent told_a_c (requests.TakeNode node_1)

-- the rule of each row

abbrev pub HasRule : SeatKind → Request → LicenceRule → Type 0
HasRule kind request rule = row_rule kind request ≡ rule

pub record RulesOfRows : Type 0 where
  pub binder_reference : HasRule seats.Binder (requests.Update (Volume taken_a) None) rules.ClaimRef
  pub binder_no_reference : HasRule seats.Binder (requests.Update (Volume a) None) rules.Unbind
  pub binder_completed_claim : HasRule seats.Binder (requests.Update (Claim completed_c) None) rules.Completion
  pub binder_other_claim : HasRule seats.Binder (requests.Update (Claim c) None) rules.DefaultClass
  pub binder_other_object : HasRule seats.Binder (requests.Update (Pod p) None) rules.Kind
  pub binder_available : HasRule seats.Binder (status_of_volume volumes.Available) rules.Available
  pub binder_bound : HasRule seats.Binder (status_of_volume volumes.Bound) rules.PhaseBound
  pub binder_released : HasRule seats.Binder (status_of_volume volumes.Released) rules.Released
  pub binder_failed : HasRule seats.Binder (status_of_volume volumes.Failed) rules.Kind
  pub binder_volume_status_of_claim : HasRule seats.Binder (requests.UpdateStatus key_c (statuses.Volume volumes.Bound) None) rules.Kind
  pub binder_claim_bound : HasRule seats.Binder (status_of_claim claims.Bound) rules.ClaimStatus
  pub binder_claim_lost : HasRule seats.Binder (status_of_claim claims.Lost) rules.Lost
  pub binder_claim_pending : HasRule seats.Binder (status_of_claim claims.Pending) rules.Kind
  pub binder_claim_status_of_volume : HasRule seats.Binder (requests.UpdateStatus key_a (statuses.Claim claims.Bound once None) None) rules.Kind
  pub binder_lists : HasRule seats.Binder list_volumes rules.Reading
  pub binder_watches : HasRule seats.Binder (requests.Watch kinds.Pod 3) rules.Reading
  pub binder_gets : HasRule seats.Binder (requests.Get key_c) rules.Reading
  pub binder_creates : HasRule seats.Binder (requests.Create (Volume a)) rules.Kind
  pub ops_provisions : HasRule seats.Ops (requests.Provision (codes "x") (codes "y") 3 None) rules.Provision
  pub ops_creates_volume : HasRule seats.Ops (requests.Create (Volume a)) rules.CreateVolume
  pub ops_creates_claim : HasRule seats.Ops (requests.Create (Claim c)) rules.Kind
  pub ops_erases : HasRule seats.Ops (requests.Erase (data_id_of a.source)) rules.Erase
  pub ops_fails : HasRule seats.Ops (status_of_volume volumes.Failed) rules.Failed
  pub ops_releases : HasRule seats.Ops (status_of_volume volumes.Released) rules.Kind
  pub ops_fails_claim : HasRule seats.Ops (requests.UpdateStatus key_c (statuses.Volume volumes.Failed) None) rules.Kind
  pub ops_deletes : HasRule seats.Ops (requests.Delete key_a (Some uid_c)) rules.DeleteVolume
  pub ops_deletes_without_uid : HasRule seats.Ops (requests.Delete key_a None) rules.Kind
  pub ops_deletes_claim : HasRule seats.Ops (requests.Delete key_c (Some uid_c)) rules.Kind
  pub ops_clears : HasRule seats.Ops (requests.Update (Claim c) None) rules.SelectedNode
  pub ops_updates_volume : HasRule seats.Ops (requests.Update (Volume a) None) rules.Kind
  pub ops_reads : HasRule seats.Ops (requests.Get key_a) rules.Reading
  pub scheduler_reference : HasRule seats.Scheduler (requests.Update (Volume a) None) rules.ClaimRef
  pub scheduler_chooses : HasRule seats.Scheduler (requests.Update (Claim c) None) rules.SelectedNode
  pub scheduler_binds : HasRule seats.Scheduler (requests.BindPod (pod_key (codes "default") (codes "p")) uid_p node_1) rules.BindPod
  pub scheduler_binds_claim : HasRule seats.Scheduler (requests.BindPod key_c uid_p node_1) rules.Kind
  pub scheduler_status : HasRule seats.Scheduler (status_of_volume volumes.Available) rules.Kind
  pub volume_guard_added : HasRule seats.VolumeProtect (requests.Update (Volume a) None) rules.AddGuard
  pub volume_guard_dropped : HasRule seats.VolumeProtect (requests.Update (Volume (record a { meta = record a.meta { finalizers = [] } })) None) rules.DropVolumeGuard
  pub volume_guard_of_claim : HasRule seats.VolumeProtect (requests.Update (Claim c) None) rules.Kind
  pub claim_guard_added : HasRule seats.ClaimProtect (requests.Update (Claim c) None) rules.AddGuard
  pub claim_guard_dropped : HasRule seats.ClaimProtect (requests.Update (Claim (record c { meta = record c.meta { finalizers = [] } })) None) rules.DropClaimGuard
  pub claim_guard_of_volume : HasRule seats.ClaimProtect (requests.Update (Volume a) None) rules.Kind
  pub agent_mounts : HasRule seats.Agent (requests.Mounts node_1 1) rules.Mount
  pub agent_mount : HasRule seats.Agent (requests.Mount node_1 1 uid_p []) rules.Mount
  pub agent_unmounts : HasRule seats.Agent (requests.Unmount node_1 1 uid_p) rules.FinishPod
  pub agent_finishes : HasRule seats.Agent (requests.FinishPod (pod_key (codes "default") (codes "p")) uid_p node_1 1) rules.FinishPod
  pub agent_finishes_claim : HasRule seats.Agent (requests.FinishPod key_c uid_p node_1 1) rules.Kind
  pub agent_updates : HasRule seats.Agent (requests.Update (Claim c) None) rules.Kind

-- which rule refuses

pub record RefusingRuleExamples : Type 0 where
  pub row_refuses : IsRefusedBy seats.Binder [] (write_available a) rules.Available
  pub no_row_refuses : IsRefusedBy seats.Binder [] (requests.Create (Volume a)) rules.Kind
  pub kind_comes_first : IsRefusedBy seats.Binder of_ops (write_available a) rules.Kind
  pub row_after_kind_is_no_answer : IsRefusedBy seats.Binder of_ops (write_available a) rules.Available → ⊥
  pub other_row_is_no_answer : IsRefusedBy seats.Binder [] (write_available a) rules.PhaseBound → ⊥
  pub kind_of_a_row_is_no_answer : IsRefusedBy seats.Binder [] (write_available a) rules.Kind → ⊥
  pub allowed_is_refused_by_none : (rule : LicenceRule) → IsRefusedBy seats.Binder (seat_of seats.Binder (tells_volume a ∷ [])) (write_available a) rule → ⊥
