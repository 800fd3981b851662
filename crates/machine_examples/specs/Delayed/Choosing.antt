-- What is chosen for a pod on small look-ups: each case beside others that are not chosen.
-- Source: as for the choice; a choice of this project.
use Rattle.std.specs.Prelude.{ℕ, List, [], ◌∷◌, Option, Some, None, codes}
use Rattle.kube_objects.specs.declared.key.Key.{Key}
use Rattle.kube_objects.specs.declared.objects.Node.{Node as NodeData}
use Rattle.kube_objects.specs.declared.objects.Pod.{Pod as PodData}
use Rattle.kube_objects.specs.declared.objects.Object.{Object}
use Rattle.kube_objects.specs.declared.objects.Object.TheVariants.{Class, Node, Volume, Claim}
use Rattle.binder_model.specs.Choice.{claims_of}
use Rattle.binder_model.specs.ObjectKeys.{claim_key, volume_key}
use Rattle.delayed_binding.specs.declared.choice.Choice.{Choice}
use Rattle.delayed_binding.specs.declared.choice.Choice.TheVariants.{Assign, Prepare, Wait, NoNode}
use Rattle.delayed_binding.specs.Choices.{IsChoice, IsPreparedOn}
use Rattle.model_examples.specs.Samples.{naming}
use Rattle.machine_examples.specs.Delayed.Scenes.{a, b, bare_pod, c, carrying, chosen_on, completed, e, late, leaving, local, n1, n2, pod, pod_of_two, prompt, selecting, spaced, three_nodes}

abbrev pub key_a : Key
key_a = volume_key (codes "a")

abbrev pub key_e : Key
key_e = volume_key (codes "e")

abbrev pub key_b : Key
key_b = claim_key (codes "default") (codes "b")

abbrev pub key_c : Key
key_c = claim_key (codes "default") (codes "c")

-- this is chosen, where no node was refused
abbrev pub Chosen : List Object → PodData → Choice → Type 0
Chosen rows p choice = IsChoice rows p None choice

abbrev pub NotChosen : List Object → PodData → Choice → Type 0
NotChosen rows p choice = IsChoice rows p None choice → ⊥

-- this is chosen, where this node was refused last
abbrev pub ChosenAfter : List ℕ → List Object → PodData → Choice → Type 0
ChosenAfter last rows p choice = IsChoice rows p (Some last) choice

abbrev pub NotChosenAfter : List ℕ → List Object → PodData → Choice → Type 0
NotChosenAfter last rows p choice = IsChoice rows p (Some last) choice → ⊥

-- a local volume in the second zone, a claim that waits and its pod; the claim once it is completed
abbrev pub local_rows : List Object
local_rows = Class local ∷ Node n1 ∷ Node n2 ∷ Volume a ∷ Claim c ∷ []

abbrev pub bound_rows : List Object
bound_rows = Class local ∷ Node n1 ∷ Node n2 ∷ Volume (carrying c a) ∷ Claim (completed (codes "a") c) ∷ []

-- a completed claim and one that waits
abbrev pub half_rows : Object → List Object
half_rows v = Class late ∷ Node n1 ∷ Node n2 ∷ v ∷ Claim b ∷ Claim (completed (codes "a") c) ∷ []

pub record FirstStepExamples : Type 0 where
  pub absent_claim_has_no_node : Chosen (Class late ∷ Node n1 ∷ []) pod NoNode
  pub deleting_claim_has_no_node : Chosen (Class late ∷ Node n1 ∷ Claim (leaving c) ∷ []) pod NoNode
  pub deleting_claim_does_not_wait : NotChosen (Class late ∷ Node n1 ∷ Claim (leaving (naming (codes "a") c)) ∷ []) pod Wait
  pub deleting_claim_is_not_assigned : NotChosen (Class late ∷ Node n1 ∷ Volume e ∷ Claim (leaving (completed (codes "e") c)) ∷ []) pod (Assign (codes "n1"))
  pub completed_claim_is_assigned : Chosen bound_rows pod (Assign (codes "n2"))
  pub far_node_is_not_assigned : NotChosen bound_rows pod (Assign (codes "n1"))
  pub first_node_is_assigned : Chosen (three_nodes (Volume (carrying c e) ∷ Claim (completed (codes "e") c) ∷ [])) pod (Assign (codes "n1"))
  pub later_node_is_not_assigned : NotChosen (three_nodes (Volume (carrying c e) ∷ Claim (completed (codes "e") c) ∷ [])) pod (Assign (codes "n3"))
  pub absent_volume_admits_no_node : Chosen (Node n1 ∷ Claim (completed (codes "e") c) ∷ []) pod NoNode
  pub absent_volume_is_not_assigned : NotChosen (Node n1 ∷ Claim (completed (codes "e") c) ∷ []) pod (Assign (codes "n1"))
  pub pod_without_claims_is_assigned : Chosen (Node n1 ∷ []) bare_pod (Assign (codes "n1"))
  pub no_node_is_assigned_where_none_is : Chosen [] bare_pod NoNode

pub record WaitExamples : Type 0 where
  pub named_volume_waits : Chosen (Class late ∷ Node n1 ∷ Volume e ∷ Claim (naming (codes "e") c) ∷ []) pod Wait
  pub absent_class_waits : Chosen (Node n1 ∷ Volume e ∷ Claim c ∷ []) pod Wait
  pub prompt_class_waits : Chosen (Class prompt ∷ Node n1 ∷ Volume e ∷ Claim c ∷ []) pod Wait
  pub prompt_class_is_not_prepared : NotChosen (Class prompt ∷ Node n1 ∷ Volume e ∷ Claim c ∷ []) pod (Prepare (codes "n1") ((key_c, key_e) ∷ []) [])
  pub carried_claim_waits : Chosen (Class late ∷ Node n1 ∷ Volume (carrying c e) ∷ Claim c ∷ []) pod Wait
  pub chosen_claim_waits : Chosen (Class late ∷ Node n1 ∷ Claim (chosen_on (codes "n1") c) ∷ []) pod Wait
  pub chosen_claim_is_not_prepared : NotChosen (Class late ∷ Node n1 ∷ Claim (chosen_on (codes "n1") c) ∷ []) pod (Prepare (codes "n1") [] (key_c ∷ []))
  pub half_completed_pod_is_not_assigned : NotChosen (half_rows (Volume e)) pod_of_two (Assign (codes "n1"))

pub record PrepareExamples : Type 0 where
  pub local_volume_is_taken : Chosen local_rows pod (Prepare (codes "n2") ((key_c, key_a) ∷ []) [])
  pub far_node_is_not_prepared : NotChosen local_rows pod (Prepare (codes "n1") ((key_c, key_a) ∷ []) [])
  pub nothing_serves : Chosen (Class local ∷ Node n1 ∷ Claim c ∷ []) pod NoNode
  pub no_provisioner_provisions_nothing : NotChosen (Class local ∷ Node n1 ∷ Claim c ∷ []) pod (Prepare (codes "n1") [] (key_c ∷ []))
  pub claim_is_provisioned : Chosen (Class late ∷ Node n1 ∷ Claim c ∷ []) pod (Prepare (codes "n1") [] (key_c ∷ []))
  pub claim_with_selector_is_not_provisioned : Chosen (Class late ∷ Node n1 ∷ Claim (selecting c) ∷ []) pod NoNode
  pub free_volume_comes_before_provisioning : NotChosen (Class late ∷ Node n1 ∷ Volume e ∷ Claim c ∷ []) pod (Prepare (codes "n1") [] (key_c ∷ []))
  pub smaller_claim_takes_first : Chosen (Class late ∷ Node n1 ∷ Volume e ∷ Claim b ∷ Claim c ∷ []) pod_of_two (Prepare (codes "n1") ((key_c, key_e) ∷ []) (key_b ∷ []))
  pub larger_claim_does_not_take_first : NotChosen (Class late ∷ Node n1 ∷ Volume e ∷ Claim b ∷ Claim c ∷ []) pod_of_two (Prepare (codes "n1") ((key_b, key_e) ∷ []) (key_c ∷ []))
  pub two_volumes_are_taken : Chosen (Class late ∷ Node n2 ∷ Volume a ∷ Volume e ∷ Claim b ∷ Claim c ∷ []) pod_of_two (Prepare (codes "n2") ((key_c, key_a) ∷ (key_b, key_e) ∷ []) [])
  pub no_volume_is_taken_twice : NotChosen (Class late ∷ Node n2 ∷ Volume a ∷ Volume e ∷ Claim b ∷ Claim c ∷ []) pod_of_two (Prepare (codes "n2") ((key_c, key_a) ∷ (key_b, key_a) ∷ []) [])
  pub chosen_claim_is_chosen_anew : Chosen (Class late ∷ Node n1 ∷ Claim b ∷ Claim (chosen_on (codes "n2") c) ∷ []) pod_of_two (Prepare (codes "n1") [] (key_c ∷ key_b ∷ []))
  pub completed_claim_fixes_the_node : Chosen (half_rows (Volume (carrying c a))) pod_of_two (Prepare (codes "n2") [] (key_b ∷ []))
  pub other_node_is_not_prepared : NotChosen (half_rows (Volume (carrying c a))) pod_of_two (Prepare (codes "n1") [] (key_b ∷ []))
  pub carried_claim_fixes_the_node : Chosen (Class late ∷ Node n1 ∷ Node n2 ∷ Volume (carrying c a) ∷ Claim b ∷ Claim c ∷ []) pod_of_two (Prepare (codes "n2") [] (key_b ∷ []))
  pub volume_in_namespace_is_set_aside : Chosen (Class local ∷ Node n1 ∷ Volume (spaced e) ∷ Claim c ∷ []) pod NoNode

-- each node could serve
abbrev pub open_rows : List Object
open_rows = Class late ∷ three_nodes (Claim c ∷ [])

abbrev pub on_node : List ℕ → Choice
on_node node = Prepare node [] (key_c ∷ [])

pub record RoundExamples : Type 0 where
  pub first_node_comes_first : Chosen open_rows pod (on_node (codes "n1"))
  pub next_node_follows_the_refused : ChosenAfter (codes "n1") open_rows pod (on_node (codes "n2"))
  pub refused_node_is_not_first : NotChosenAfter (codes "n1") open_rows pod (on_node (codes "n1"))
  pub node_after_next_is_not_first : NotChosenAfter (codes "n1") open_rows pod (on_node (codes "n3"))
  pub the_round_goes_on_at_the_first : ChosenAfter (codes "n3") open_rows pod (on_node (codes "n1"))
  pub absent_node_has_a_place : ChosenAfter (codes "n15") open_rows pod (on_node (codes "n2"))
  pub refused_node_comes_last : ChosenAfter (codes "n1") (Class late ∷ Node n1 ∷ Claim c ∷ []) pod (on_node (codes "n1"))
  pub node_that_does_not_serve_is_passed_over : ChosenAfter (codes "n2") local_rows pod (Prepare (codes "n2") ((key_c, key_a) ∷ []) [])

-- this would be prepared on the node for the pod
abbrev pub PreparedOn : NodeData → Option Choice → Type 0
PreparedOn n found = IsPreparedOn local_rows (claims_of local_rows pod) n found

pub record NodeExamples : Type 0 where
  pub local_volume_is_prepared : PreparedOn n2 (Some (Prepare (codes "n2") ((key_c, key_a) ∷ []) []))
  pub nothing_is_prepared_far_from_it : PreparedOn n1 None
  pub not_nothing_where_it_serves : PreparedOn n2 None → ⊥
  pub not_far_from_it : PreparedOn n1 (Some (Prepare (codes "n1") ((key_c, key_a) ∷ []) [])) → ⊥
  pub not_by_another_name : PreparedOn n2 (Some (Prepare (codes "n1") ((key_c, key_a) ∷ []) [])) → ⊥
  pub to_wait_is_not_prepared : PreparedOn n2 (Some Wait) → ⊥
