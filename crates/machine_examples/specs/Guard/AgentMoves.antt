-- What the machines of node agents ask and what they make of answers: cases that the definitions give, and cases beside them that they
-- do not. A choice of this project, as the machines are.
use Rattle.std.specs.Prelude.{◌≡◌, true, false, List, [], ◌∷◌, Option, Some, None, codes}
use Rattle.kube_objects.specs.declared.objects.Claim.{Claim as ClaimData}
use Rattle.kube_objects.specs.declared.objects.Pod.{Pod as PodData}
use Rattle.kube_objects.specs.declared.objects.Object.{Object}
use Rattle.kube_objects.specs.declared.objects.Object.TheVariants.{Volume, Claim, Pod}
use Rattle.kube_parts.specs.Uids.{uid_of_serial}
use Rattle.call_types.specs.declared.request.Request.TheVariants as requests
use Rattle.call_types.specs.declared.reply.MountRow.{MountRow}
use Rattle.call_types.specs.declared.reply.Refusal.TheVariants.{NotFound, StaleEpoch}
use Rattle.call_types.specs.declared.reply.Reply.{Reply}
use Rattle.call_types.specs.declared.reply.Reply.TheVariants.{Found, Left, Mounted, Refused}
use Rattle.node_agent.specs.declared.agent.AgentOp.{AgentOp}
use Rattle.node_agent.specs.declared.step.AgentStep.{AgentStep}
use Rattle.node_agent.specs.declared.step.AgentStep.TheVariants as steps
use Rattle.node_agent.specs.declared.step.ReadyClaim.{ReadyClaim}
use Rattle.node_agent.specs.Agents.{agent_begins, agent_call, agent_moved, agent_parks}
use Rattle.model_examples.specs.Samples.{
  a,
  bound_a,
  bound_c,
  bound_for_other,
  ending_p,
  key_a,
  key_c,
  key_d,
  key_p,
  lost_c,
  naming,
  node_1,
  node_2,
  p,
  uid_c,
  uid_p,
  uncompleted_c,
  unguarded_c,
  waiting_p,
}
use Rattle.model_examples.specs.AgentRows.{row_of}
use Rattle.model_examples.specs.Mounting.{deleting_c, pending_c, pod_of_two}

abbrev pub about : PodData → List ReadyClaim → AgentStep → AgentOp
about q ready step = record { node = node_1; epoch = 1; pod = q; uid = uid_p; ready = ready; step = step }

-- the pod with one claim, and nothing counted
abbrev pub on_p : AgentStep → AgentOp
on_p step = about p [] step

-- the first claim of a pod was counted
abbrev pub ready_c : ReadyClaim
ready_c = record { claim = codes "c"; uid = uid_c; volume = codes "a" }

abbrev pub stale : Reply
stale = Refused (StaleEpoch 2)

-- the second claim of a pod names the volume of the first, or another
abbrev pub same_volume_d : ClaimData
same_volume_d = record bound_c { meta = record bound_c.meta { name = codes "d"; uid = Some (uid_of_serial 3) } }

abbrev pub other_volume_d : ClaimData
other_volume_d = naming (codes "b") same_volume_d

abbrev pub twice_p : PodData
twice_p = record p { claims = codes "c" ∷ codes "c" ∷ [] }

pub record AgentCallExamples : Type 0 where
  pub reads_the_claim : agent_call (on_p (steps.ReadsClaim (codes "c"))) ≡ Some (requests.Get key_c)
  pub reads_its_volume : agent_call (on_p (steps.ReadsVolume (codes "c") bound_c)) ≡ Some (requests.Get key_a)
  pub mounts_what_was_counted : agent_call (about p (ready_c ∷ []) steps.MountsPod) ≡ Some (requests.Mount node_1 1 uid_p (uid_c ∷ []))
  pub unmounts : agent_call (about ending_p [] steps.Unmounts) ≡ Some (requests.Unmount node_1 1 uid_p)
  pub reads_the_mounts : agent_call (about ending_p [] steps.ReadsMounts) ≡ Some (requests.Mounts node_1 1)
  pub finishes : agent_call (about ending_p [] steps.Finishes) ≡ Some (requests.FinishPod key_p uid_p node_1 1)
  pub nothing_is_left_when_done : agent_call (on_p steps.Done) ≡ None
  pub nothing_is_left_when_parked : agent_call (on_p steps.Parked) ≡ None

pub record ReadExamples : Type 0 where
  pub ready_claim_has_its_volume_read : agent_moved (on_p (steps.ReadsClaim (codes "c"))) (Found (Claim bound_c)) ≡ on_p (steps.ReadsVolume (codes "c") bound_c)
  pub absent_claim_parks : agent_moved (on_p (steps.ReadsClaim (codes "c"))) (Refused NotFound) ≡ on_p steps.Parked
  pub deleting_claim_parks : agent_moved (on_p (steps.ReadsClaim (codes "c"))) (Found (Claim deleting_c)) ≡ on_p steps.Parked
  pub unprotected_claim_parks : agent_moved (on_p (steps.ReadsClaim (codes "c"))) (Found (Claim unguarded_c)) ≡ on_p steps.Parked
  pub claim_before_completion_parks : agent_moved (on_p (steps.ReadsClaim (codes "c"))) (Found (Claim uncompleted_c)) ≡ on_p steps.Parked
  pub pending_claim_parks : agent_moved (on_p (steps.ReadsClaim (codes "c"))) (Found (Claim pending_c)) ≡ on_p steps.Parked
  pub lost_claim_parks : agent_moved (on_p (steps.ReadsClaim (codes "c"))) (Found (Claim lost_c)) ≡ on_p steps.Parked
  pub carrying_volume_counts : agent_moved (on_p (steps.ReadsVolume (codes "c") bound_c)) (Found (Volume bound_a)) ≡ about p (ready_c ∷ []) steps.MountsPod
  pub volume_of_another_parks : agent_moved (on_p (steps.ReadsVolume (codes "c") bound_c)) (Found (Volume bound_for_other)) ≡ on_p steps.Parked
  pub free_volume_parks : agent_moved (on_p (steps.ReadsVolume (codes "c") bound_c)) (Found (Volume a)) ≡ on_p steps.Parked
  pub absent_volume_parks : agent_moved (on_p (steps.ReadsVolume (codes "c") bound_c)) (Refused NotFound) ≡ on_p steps.Parked

pub record SecondClaimExamples : Type 0 where
  pub second_claim_is_read_after_the_first : agent_moved (about pod_of_two [] (steps.ReadsVolume (codes "c") bound_c))
      (Found (Volume bound_a)) ≡ about pod_of_two (ready_c ∷ []) (steps.ReadsClaim (codes "d"))
  pub it_is_read_by_its_name : agent_call (about pod_of_two (ready_c ∷ []) (steps.ReadsClaim (codes "d"))) ≡ Some (requests.Get key_d)
  pub other_volume_is_read : agent_moved (about pod_of_two (ready_c ∷ []) (steps.ReadsClaim (codes "d")))
      (Found (Claim other_volume_d)) ≡ about pod_of_two (ready_c ∷ []) (steps.ReadsVolume (codes "d") other_volume_d)
  pub volume_is_not_read_twice : agent_moved (about pod_of_two (ready_c ∷ []) (steps.ReadsClaim (codes "d"))) (Found (Claim same_volume_d)) ≡ about pod_of_two (ready_c ∷ []) steps.Parked
  pub claim_is_not_read_twice : agent_moved (about twice_p [] (steps.ReadsVolume (codes "c") bound_c)) (Found (Volume bound_a)) ≡ about twice_p (ready_c ∷ []) steps.Parked

pub record EndExamples : Type 0 where
  pub mounted_pod_is_done : agent_moved (about p (ready_c ∷ []) steps.MountsPod) (Mounted (row_of uid_p ∷ [])) ≡ about p (ready_c ∷ []) steps.Done
  pub stale_mount_parks : agent_moved (about p (ready_c ∷ []) steps.MountsPod) stale ≡ about p (ready_c ∷ []) steps.Parked
  pub mounts_are_read_after_unmount : agent_moved (about ending_p [] steps.Unmounts) (Mounted []) ≡ about ending_p [] steps.ReadsMounts
  pub stale_unmount_parks : agent_moved (about ending_p [] steps.Unmounts) stale ≡ about ending_p [] steps.Parked
  pub mounts_without_it_finish_it : agent_moved (about ending_p [] steps.ReadsMounts) (Mounted (row_of (uid_of_serial 8) ∷ [])) ≡ about ending_p [] steps.Finishes
  pub mounts_with_it_park : agent_moved (about ending_p [] steps.ReadsMounts) (Mounted (row_of uid_p ∷ [])) ≡ about ending_p [] steps.Parked
  pub stale_mounts_park : agent_moved (about ending_p [] steps.ReadsMounts) stale ≡ about ending_p [] steps.Parked
  pub finished_pod_is_done : agent_moved (about ending_p [] steps.Finishes) (Left (Pod ending_p)) ≡ about ending_p [] steps.Done
  pub parked_parks : agent_parks steps.Parked ≡ true
  pub done_does_not : agent_parks steps.Done ≡ false

-- what begins on the key of this row, where these mounts were told
abbrev pub On : List MountRow → Option Object → Option AgentOp → Type 0
On mounts row begun = agent_begins node_1 1 mounts row ≡ begun

abbrev pub elsewhere_p : PodData
elsewhere_p = record p { node = node_2 }

abbrev pub unnamed_p : PodData
unnamed_p = record p { claims = [] }

pub record AgentBeginExamples : Type 0 where
  pub pod_has_its_claim_read : On [] (Some (Pod p)) (Some (on_p (steps.ReadsClaim (codes "c"))))
  pub pod_beside_a_mounted_one_likewise : On (row_of (uid_of_serial 8) ∷ []) (Some (Pod p)) (Some (on_p (steps.ReadsClaim (codes "c"))))
  pub pod_without_claims_is_mounted : On [] (Some (Pod unnamed_p)) (Some (about unnamed_p [] steps.MountsPod))
  pub mounted_pod_is_left : On (row_of uid_p ∷ []) (Some (Pod p)) None
  pub leaving_pod_is_unmounted : On (row_of uid_p ∷ []) (Some (Pod ending_p)) (Some (about ending_p [] steps.Unmounts))
  pub leaving_pod_that_is_not_mounted_likewise : On [] (Some (Pod ending_p)) (Some (about ending_p [] steps.Unmounts))
  pub pod_of_another_node_is_left : On [] (Some (Pod elsewhere_p)) None
  pub waiting_pod_is_left : On [] (Some (Pod waiting_p)) None
  pub waiting_pod_is_left_on_the_node_without_name : agent_begins [] 1 [] (Some (Pod waiting_p)) ≡ None
  pub claim_is_no_pod : On [] (Some (Claim bound_c)) None
  pub absent_pod_is_left : On [] None None
