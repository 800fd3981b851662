-- What is chosen, computed.
use Rattle.std.proofs.Common.{◌≡◌, Bool, true, false, true≢false, ◌&&◌, List, [], ◌∷◌, None, Some, refl, sym, ap, ◌∙◌}
use Rattle.std.specs.Prelude.{bytes_eq, codes}
use Rattle.kube_objects.specs.declared.key.Key.{Key}
use Rattle.kube_objects.specs.Keys.{same_key}
use Rattle.binder_model.specs.Choice.{claims_of}
use Rattle.delayed_binding.specs.declared.choice.Choice.{Choice}
use Rattle.delayed_binding.specs.declared.choice.Choice.TheVariants.{Assign, Prepare, Wait, NoNode}
use Rattle.machine_examples.specs.Delayed.Choosing.{
  FirstStepExamples,
  NodeExamples,
  PrepareExamples,
  PreparedOn,
  RoundExamples,
  WaitExamples,
  bound_rows,
  half_rows,
  key_a,
  key_b,
  key_c,
  key_e,
  local_rows,
  on_node,
  open_rows,
}
use Rattle.kube_objects.specs.declared.objects.Object.TheVariants.{Class, Node, Volume, Claim}
use Rattle.model_examples.specs.Samples.{naming}
use Rattle.machine_examples.specs.Delayed.Scenes.{a, b, bare_pod, c, carrying, chosen_on, completed, e, late, leaving, local, n1, n2, pod, pod_of_two, prompt, selecting, spaced, three_nodes}
use Rattle.machine_examples.proofs.Delayed.Computing.{chosen, fails, holds, there_is}

-- two choices are one, by tests that compute

abbrev same_keys : List Key → List Key → Bool
same_keys [] [] = true
same_keys (k ∷ ks) (j ∷ js) = same_key k j && same_keys ks js
same_keys _ _ = false

abbrev same_pairs : List (Key × Key) → List (Key × Key) → Bool
same_pairs [] [] = true
same_pairs (p ∷ ps) (q ∷ qs) = same_key p.0 q.0 && same_key p.1 q.1 && same_pairs ps qs
same_pairs _ _ = false

abbrev same_choice : Choice → Choice → Bool
same_choice (Assign a) (Assign b) = bytes_eq a b
same_choice (Prepare a bs ps) (Prepare b cs qs) = bytes_eq a b && same_pairs bs cs && same_keys ps qs
same_choice Wait Wait = true
same_choice NoNode NoNode = true
same_choice _ _ = false

-- two choices that a test tells apart
apart : (a b : Choice) → same_choice b b ≡ true → same_choice a b ≡ false → a ≡ b → ⊥
apart a b itself differs e = true≢false (sym itself ∙ ap (λ x. same_choice x b) (sym e) ∙ differs)

pub first_step_examples : FirstStepExamples
first_step_examples = record {
  absent_claim_has_no_node = holds (Class late ∷ Node n1 ∷ []) pod None NoNode refl refl;
  deleting_claim_has_no_node = holds (Class late ∷ Node n1 ∷ Claim (leaving c) ∷ []) pod None NoNode refl refl;
  deleting_claim_does_not_wait = fails (Class late ∷ Node n1 ∷ Claim (leaving (naming (codes "a") c)) ∷ []) pod None Wait refl (apart
      (chosen (Class late ∷ Node n1 ∷ Claim (leaving (naming (codes "a") c)) ∷ []) pod None) Wait refl refl);
  deleting_claim_is_not_assigned = fails (Class late ∷ Node n1 ∷ Volume e ∷ Claim (leaving (completed (codes "e") c)) ∷ []) pod None (Assign
      (codes "n1")) refl (apart (chosen (Class late ∷ Node n1 ∷ Volume e ∷ Claim (leaving (completed (codes "e") c)) ∷ []) pod None) (Assign (codes "n1")) refl refl);
  completed_claim_is_assigned = holds bound_rows pod None (Assign (codes "n2")) refl refl;
  far_node_is_not_assigned = fails bound_rows pod None (Assign (codes "n1")) refl (apart (chosen bound_rows pod None) (Assign (codes "n1")) refl refl);
  first_node_is_assigned = holds (three_nodes (Volume (carrying c e) ∷ Claim (completed (codes "e") c) ∷ [])) pod None (Assign (codes "n1")) refl refl;
  later_node_is_not_assigned = fails (three_nodes (Volume (carrying c e) ∷ Claim (completed (codes "e") c) ∷ [])) pod None (Assign (codes "n3")) refl
      (apart (chosen (three_nodes (Volume (carrying c e) ∷ Claim (completed (codes "e") c) ∷ [])) pod None) (Assign (codes "n3")) refl refl);
  absent_volume_admits_no_node = holds (Node n1 ∷ Claim (completed (codes "e") c) ∷ []) pod None NoNode refl refl;
  absent_volume_is_not_assigned = fails (Node n1 ∷ Claim (completed (codes "e") c) ∷ []) pod None (Assign (codes "n1")) refl (apart
      (chosen (Node n1 ∷ Claim (completed (codes "e") c) ∷ []) pod None) (Assign (codes "n1")) refl refl);
  pod_without_claims_is_assigned = holds (Node n1 ∷ []) bare_pod None (Assign (codes "n1")) refl refl;
  no_node_is_assigned_where_none_is = holds [] bare_pod None NoNode refl refl;
}

pub wait_examples : WaitExamples
wait_examples = record {
  named_volume_waits = holds (Class late ∷ Node n1 ∷ Volume e ∷ Claim (naming (codes "e") c) ∷ []) pod None Wait refl refl;
  absent_class_waits = holds (Node n1 ∷ Volume e ∷ Claim c ∷ []) pod None Wait refl refl;
  prompt_class_waits = holds (Class prompt ∷ Node n1 ∷ Volume e ∷ Claim c ∷ []) pod None Wait refl refl;
  prompt_class_is_not_prepared = fails (Class prompt ∷ Node n1 ∷ Volume e ∷ Claim c ∷ []) pod None (Prepare (codes "n1") ((key_c, key_e) ∷ []) [])
      refl (apart (chosen (Class prompt ∷ Node n1 ∷ Volume e ∷ Claim c ∷ []) pod None) (Prepare (codes "n1") ((key_c, key_e) ∷ []) []) refl refl);
  carried_claim_waits = holds (Class late ∷ Node n1 ∷ Volume (carrying c e) ∷ Claim c ∷ []) pod None Wait refl refl;
  chosen_claim_waits = holds (Class late ∷ Node n1 ∷ Claim (chosen_on (codes "n1") c) ∷ []) pod None Wait refl refl;
  chosen_claim_is_not_prepared = fails (Class late ∷ Node n1 ∷ Claim (chosen_on (codes "n1") c) ∷ []) pod None (Prepare (codes "n1") [] (key_c ∷ []))
      refl (apart (chosen (Class late ∷ Node n1 ∷ Claim (chosen_on (codes "n1") c) ∷ []) pod None) (Prepare (codes "n1") [] (key_c ∷ [])) refl refl);
  half_completed_pod_is_not_assigned = fails (half_rows (Volume e)) pod_of_two None (Assign (codes "n1")) refl (apart (chosen (half_rows (Volume e)) pod_of_two None) (Assign (codes "n1")) refl refl);
}

pub prepare_examples : PrepareExamples
prepare_examples = record {
  local_volume_is_taken = holds local_rows pod None (Prepare (codes "n2") ((key_c, key_a) ∷ []) []) refl refl;
  far_node_is_not_prepared = fails local_rows pod None (Prepare (codes "n1") ((key_c, key_a) ∷ []) []) refl (apart (chosen local_rows pod None)
      (Prepare (codes "n1") ((key_c, key_a) ∷ []) []) refl refl);
  nothing_serves = holds (Class local ∷ Node n1 ∷ Claim c ∷ []) pod None NoNode refl refl;
  no_provisioner_provisions_nothing = fails (Class local ∷ Node n1 ∷ Claim c ∷ []) pod None (Prepare (codes "n1") [] (key_c ∷ [])) refl (apart
      (chosen (Class local ∷ Node n1 ∷ Claim c ∷ []) pod None) (Prepare (codes "n1") [] (key_c ∷ [])) refl refl);
  claim_is_provisioned = holds (Class late ∷ Node n1 ∷ Claim c ∷ []) pod None (Prepare (codes "n1") [] (key_c ∷ [])) refl refl;
  claim_with_selector_is_not_provisioned = holds (Class late ∷ Node n1 ∷ Claim (selecting c) ∷ []) pod None NoNode refl refl;
  free_volume_comes_before_provisioning =
      fails (Class late ∷ Node n1 ∷ Volume e ∷ Claim c ∷ []) pod None (Prepare (codes "n1") [] (key_c ∷ [])) refl
      (apart (chosen (Class late ∷ Node n1 ∷ Volume e ∷ Claim c ∷ []) pod None) (Prepare (codes "n1") [] (key_c ∷ [])) refl refl);
  smaller_claim_takes_first = holds (Class late ∷ Node n1 ∷ Volume e ∷ Claim b ∷ Claim c ∷ []) pod_of_two None (Prepare (codes "n1") ((key_c, key_e) ∷ []) (key_b ∷ [])) refl refl;
  larger_claim_does_not_take_first = fails (Class late ∷ Node n1 ∷ Volume e ∷ Claim b ∷ Claim c ∷ []) pod_of_two None (Prepare (codes "n1")
      ((key_b, key_e) ∷ []) (key_c ∷ [])) refl
      (apart (chosen (Class late ∷ Node n1 ∷ Volume e ∷ Claim b ∷ Claim c ∷ []) pod_of_two None) (Prepare (codes "n1") ((key_b, key_e) ∷ []) (key_c ∷ [])) refl refl);
  two_volumes_are_taken = holds (Class late ∷ Node n2 ∷ Volume a ∷ Volume e ∷ Claim b ∷ Claim c ∷ []) pod_of_two None (Prepare (codes "n2") ((key_c, key_a) ∷ (key_b, key_e) ∷ []) []) refl refl;
  no_volume_is_taken_twice = fails (Class late ∷ Node n2 ∷ Volume a ∷ Volume e ∷ Claim b ∷ Claim c ∷ []) pod_of_two None (Prepare (codes "n2")
      ((key_c, key_a) ∷ (key_b, key_a) ∷ []) []) refl
      (apart (chosen (Class late ∷ Node n2 ∷ Volume a ∷ Volume e ∷ Claim b ∷ Claim c ∷ []) pod_of_two None) (Prepare (codes "n2") ((key_c, key_a) ∷ (key_b, key_a) ∷ []) []) refl refl);
  chosen_claim_is_chosen_anew = holds (Class late ∷ Node n1 ∷ Claim b ∷ Claim (chosen_on (codes "n2") c) ∷ []) pod_of_two None (Prepare (codes "n1") [] (key_c ∷ key_b ∷ [])) refl refl;
  completed_claim_fixes_the_node = holds (half_rows (Volume (carrying c a))) pod_of_two None (Prepare (codes "n2") [] (key_b ∷ [])) refl refl;
  other_node_is_not_prepared = fails (half_rows (Volume (carrying c a))) pod_of_two None (Prepare (codes "n1") [] (key_b ∷ [])) refl (apart
      (chosen (half_rows (Volume (carrying c a))) pod_of_two None) (Prepare (codes "n1") [] (key_b ∷ [])) refl refl);
  carried_claim_fixes_the_node = holds (Class late ∷ Node n1 ∷ Node n2 ∷ Volume (carrying c a) ∷ Claim b ∷ Claim c ∷ []) pod_of_two None (Prepare (codes "n2") [] (key_b ∷ [])) refl refl;
  volume_in_namespace_is_set_aside = holds (Class local ∷ Node n1 ∷ Volume (spaced e) ∷ Claim c ∷ []) pod None NoNode refl refl;
}

pub round_examples : RoundExamples
round_examples = record {
  first_node_comes_first = holds open_rows pod None (on_node (codes "n1")) refl refl;
  next_node_follows_the_refused = holds open_rows pod (Some (codes "n1")) (on_node (codes "n2")) refl refl;
  refused_node_is_not_first = fails open_rows pod (Some (codes "n1")) (on_node (codes "n1")) refl (apart (chosen open_rows pod (Some (codes "n1"))) (on_node (codes "n1")) refl refl);
  node_after_next_is_not_first = fails open_rows pod (Some (codes "n1")) (on_node (codes "n3")) refl (apart (chosen open_rows pod (Some (codes "n1"))) (on_node (codes "n3")) refl refl);
  the_round_goes_on_at_the_first = holds open_rows pod (Some (codes "n3")) (on_node (codes "n1")) refl refl;
  absent_node_has_a_place = holds open_rows pod (Some (codes "n15")) (on_node (codes "n2")) refl refl;
  refused_node_comes_last = holds (Class late ∷ Node n1 ∷ Claim c ∷ []) pod (Some (codes "n1")) (on_node (codes "n1")) refl refl;
  node_that_does_not_serve_is_passed_over = holds local_rows pod (Some (codes "n2")) (Prepare (codes "n2") ((key_c, key_a) ∷ []) []) refl refl;
}

pub node_examples : NodeExamples
node_examples = record {
  local_volume_is_prepared = on_its_node;
  nothing_is_prepared_far_from_it = far_from_it;
  not_nothing_where_it_serves = λ none. none (on_its_node.1.shares, on_its_node.1.serves);
  not_far_from_it = λ p. far_from_it (p.1.shares, p.1.serves);
  not_by_another_name = λ p. true≢false (ap (λ name. bytes_eq name (codes "n1")) p.0);
  to_wait_is_not_prepared = λ p. p;
}
  where
    on_its_node : PreparedOn n2 (Some (Prepare (codes "n2") ((key_c, key_a) ∷ []) []))
    on_its_node = there_is local_rows (claims_of local_rows pod) n2 (Some (Prepare (codes "n2") ((key_c, key_a) ∷ []) [])) refl refl

    far_from_it : PreparedOn n1 None
    far_from_it = there_is local_rows (claims_of local_rows pod) n1 None refl refl
