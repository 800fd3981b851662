-- What is due, computed.
use Rattle.std.proofs.Common.{sym, refl, ap, subst, inl, inr, true≢false, ◌∙◌}
use Rattle.std.specs.Prelude.{ℕ, zero, suc, ◌≡◌, ◌≢◌, Bool, true, false, List, [], ◌∷◌, Option, Some, None, is_none, bytes_eq, slice_get, if◌then◌else◌}
use Rattle.std.specs.List.{list_all}
use Rattle.std.proofs.lemmas.Slice.Eq.{bytes_eq-Decides}
use Rattle.std.specs.declared.cmp.Ordering.{Ordering}
use Rattle.std.specs.declared.cmp.Ordering.TheVariants.{Less, Greater}
use Rattle.kube_parts.specs.declared.names.Due.{Due}
use Rattle.kube_parts.specs.declared.names.Due.TheVariants as dues
use Rattle.kube_objects.specs.declared.key.Key.{Key}
use Rattle.kube_parts.specs.declared.parts.Kind.TheVariants as kinds
use Rattle.kube_objects.specs.declared.objects.Claim.{Claim as ClaimData}
use Rattle.kube_objects.specs.declared.objects.Node.{Node as NodeData}
use Rattle.kube_objects.specs.declared.objects.Volume.{Volume as VolumeData}
use Rattle.kube_objects.specs.declared.objects.Object.{Object}
use Rattle.kube_objects.specs.declared.objects.Object.TheVariants.{Class, Node, Volume, Claim, Pod}
use Rattle.kube_objects.specs.Keys.{key_of, key_cmp, row_at, rows_of}
use Rattle.kube_objects.proofs.KeyOrder.{row_at_key, row_at-put_row}
use Rattle.kube_parts.specs.Uids.{uid_text}
use Rattle.binder_model.specs.ObjectKeys.{node_key, volume_key}
use Rattle.binder_model.specs.BindWrites.{next_write, claim_write}
use Rattle.binder_model.specs.BinderDue.{volume_due, reference_due, referred_due, claim_with, claim_due, named_due, completed_due}
use Rattle.binder_model.specs.Provisioning.{data_name}
use Rattle.binder_model.specs.Told.{SomeOf}
use Rattle.binder_model.specs.Matching.{IsCandidate, IsBestAt, eligible, match_cmp}
use Rattle.binder_model.specs.Choice.{Share, TakesVolume, IsProvisioned, AreShares, claims_of, fixed_admit}
use Rattle.binder_model.specs.Due.{or_due, IsDue, CanPrepare, shares_are_served}
use Rattle.model_laws.specs.Worked.{no_setup}
use Rattle.model_examples.specs.Samples.{fast, uid_c, late, a, c, d, n1, key_a, waiting_p, selecting_c}
use Rattle.model_examples.specs.DueActions.{
  pvc_volume,
  with_rows,
  small_setup,
  pod_of_two,
  searched,
  pending_a,
  done_rows,
  two_rows,
  pool_setup,
  searched_two,
  searched_large,
  large_d,
  near_a,
  far_free_a,
  beside_completed,
  selected_a,
  unselected_b,
  small_d,
  smaller_first,
  VolumeDueExamples,
  ReclaimDueExamples,
  ClaimDueExamples,
  ClassDueExamples,
  ProvisionDueExamples,
  PodDueExamples,
  PrepareDueExamples,
  SettledExamples,
}
use Rattle.model_examples.proofs.Tellings.{IsIn, one, differ, sole, node_in, nodes_in}
use Rattle.model_laws.proofs.Readings.{found_stands as found_in}
use Rattle.model_examples.proofs.Eligible.{same_at}

pub volume_due_examples : VolumeDueExamples
unfolding or_due volume_due reference_due referred_due claim_with claim_due named_due completed_due next_write claim_write
volume_due_examples = record {
  available_without_reference = refl;
  available_where_prebound = refl;
  not_available_twice_where_prebound = refl;
  not_available_twice = refl;
  bound_where_claim_names_it = refl;
  not_bound_before_claim_names_it = refl;
  not_bound_twice = refl;
  not_bound_unprotected = refl;
  release_of_absent_claim = refl;
  release_of_other_uid = refl;
  release_of_claim_elsewhere = refl;
  not_released_twice = refl;
  unbind_of_claim_elsewhere = refl;
  no_unbind_of_ended = refl;
}

pub reclaim_due_examples : ReclaimDueExamples
unfolding or_due volume_due reference_due referred_due claim_with claim_due named_due completed_due next_write claim_write
reclaim_due_examples = record {
  reclaim_of_released = refl;
  reclaim_of_failed = refl;
  no_reclaim_of_bound = refl;
  no_reclaim_with_retain = refl;
  no_reclaim_without_uid = refl;
  no_reclaim_of_deleting = refl;
  guard_of_unprotected = refl;
  no_guard_of_deleting = refl;
  unguard_of_deleting = refl;
  no_unguard_of_bound = refl;
}

pub claim_due_examples : ClaimDueExamples
unfolding or_due volume_due reference_due referred_due claim_with claim_due named_due completed_due next_write claim_write
claim_due_examples = record {
  guard_of_unprotected = refl;
  unguard_of_deleting = refl;
  no_unguard_of_used = refl;
  bind_where_volume_matches = refl;
  no_bind_of_too_large = refl;
  no_bind_of_pending_volume = refl;
  no_bind_under_delay = refl;
  bind_to_own_under_delay = refl;
  no_bind_of_deleting = refl;
  bind_to_named_volume = refl;
  bind_to_named_own_volume = refl;
  no_bind_to_named_absent = refl;
  no_bind_to_named_unprotected = refl;
  no_bind_to_named_deleting = refl;
  no_bind_to_named_ended = refl;
  no_bind_to_named_of_other = refl;
  no_bind_to_named_too_small = refl;
  bind_where_status_lacks = refl;
  bind_where_reference_lacks = refl;
  no_bind_where_done = refl;
  lost_without_name = refl;
  lost_where_volume_is_absent = refl;
  lost_where_volume_is_of_other = refl;
  none_where_reference_lacks_the_uid = refl;
  not_lost_twice_without_name = refl;
  not_lost_twice_where_volume_is_absent = refl;
  not_lost_twice_where_volume_is_of_other = refl;
  bind_of_lost_where_volume_is_back = refl;
}

pub class_due_examples : ClassDueExamples
unfolding or_due volume_due reference_due referred_due claim_with claim_due named_due completed_due next_write claim_write
class_due_examples = record {
  assign_where_no_volume_matches = refl;
  assign_where_only_volumes_of_classes_are_free = refl;
  bind_where_a_volume_without_class_matches = refl;
  guard_comes_first = refl;
  no_assign_without_classes = refl;
  no_assign_where_none_is_marked = refl;
  no_assign_with_a_class = refl;
  no_assign_with_the_empty_class = refl;
  no_assign_with_class_in_annotation = refl;
  no_assign_where_a_volume_is_named = refl;
  no_assign_of_deleting = refl;
  no_assign_of_completed = refl;
}

-- the name of the data is itself
itself : bytes_eq (uid_text uid_c) (uid_text uid_c) ≡ true
itself = (bytes_eq-Decides (uid_text uid_c) (uid_text uid_c)).1 refl

stands : row_at (volume_key (data_name uid_c)) (Class fast ∷ Volume pvc_volume ∷ Claim c ∷ []) ≡ Some (Volume pvc_volume)
stands = row_at-put_row (Volume pvc_volume) (Class fast ∷ Claim c ∷ [])

pub provision_due_examples : ProvisionDueExamples
unfolding or_due volume_due reference_due referred_due claim_with claim_due named_due completed_due next_write claim_write
provision_due_examples = record {
  provision_at_once = refl;
  no_provision_where_pool_is_small = refl;
  no_provision_without_class = refl;
  no_provision_by_idle_class = refl;
  no_provision_by_idle_class_with_a_pool_of_its_name = refl;
  no_provision_with_selector = refl;
  no_provision_where_named = refl;
  no_provision_of_deleting = refl;
  no_provision_where_volume_matches = refl;
  provision_on_chosen_node = refl;
  no_provision_before_node_is_chosen = refl;
  clear_where_node_is_absent = refl;
  clear_where_pool_is_small = refl;
  clear_where_pool_is_far = refl;
  provision_where_data_stand = rw itself refl;
  no_provision_where_data_were_erased = refl;
  no_clear_where_data_stand = rw itself refl;
  no_provision_where_volume_stands = sym (ap (λ o. if is_none o then Some dues.Provision else None) stands);
  no_clear_without_delay = refl;
}

pub pod_due_examples : PodDueExamples
unfolding or_due volume_due reference_due referred_due claim_with claim_due named_due completed_due next_write claim_write
pod_due_examples = record {
  finish_of_deleting = refl;
  mount_of_ready = refl;
  no_mount_twice = refl;
  no_mount_without_claim = refl;
  no_mount_of_deleting_claim = refl;
  no_mount_of_unprotected_claim = refl;
  no_mount_before_completion = refl;
  no_mount_before_phase_bound = refl;
  no_mount_without_volume = refl;
  no_mount_of_volume_of_other = refl;
  assign_where_node_serves = refl;
  no_assign_without_node = refl;
  no_assign_without_claim = refl;
  no_assign_of_deleting_claim = refl;
  no_assign_far_from_volume = refl;
  no_assign_without_volume = refl;
  no_assign_before_completion = refl;
  none_of_node = refl;
  none_of_class = refl;
}

abbrev is_greater : Ordering → Bool
is_greater Greater = true
is_greater o = false

abbrev by_volume_rows : List Object
by_volume_rows = Class late ∷ Node n1 ∷ Volume a ∷ Claim c ∷ Pod waiting_p ∷ []

-- no volume is there to be taken
none_there : (place : ℕ) (v : VolumeData) → IsCandidate searched c (Some n1) false [] place v → ⊥
none_there place v candidate = differ is_none candidate.there refl refl

abbrev volume_or : VolumeData → Option Object → VolumeData
volume_or v (Some (Volume u)) = u
volume_or v o = v

a_is_best : (other : ℕ) (u : VolumeData) → IsCandidate by_volume_rows c (Some n1) false [] other u → match_cmp c a u ≢ Greater
a_is_best zero u candidate greater = differ is_greater (sym (subst (λ v. match_cmp c a v ≡ Greater) (sym e) greater)) refl refl
  where
    e : a ≡ u
    e = ap (volume_or a) candidate.there
a_is_best (suc other) u candidate greater = differ is_none candidate.there refl refl

-- where the pool is small no share of the claim is given
unshared : (shares : List Share) → AreShares searched n1 [] (c ∷ []) shares → shares_are_served small_setup (with_rows searched) n1 (c ∷ []) shares ≡ true → ⊥
unshared [] h given = h
unshared (TakesVolume place ∷ shares) h given = differ is_none h.0.candidate.there refl refl
unshared (IsProvisioned ∷ shares) h given = true≢false (sym given)

ungiven : CanPrepare small_setup (with_rows searched) waiting_p → ⊥
ungiven can = unshared can.shares (subst (λ n. AreShares searched n [] (c ∷ []) can.shares) (sym e) can.serves.shared)
    (subst (λ n. shares_are_served small_setup (with_rows searched) n (c ∷ []) can.shares ≡ true) (sym e) can.given)
  where
    e : n1 ≡ can.node
    e = sole (node_in can.node searched (found_in (node_key can.node.meta.name) (Node can.node) searched can.there))

-- the one node that stands
only_node : (rows : List Object) (node : NodeData) → nodes_in rows ≡ n1 ∷ [] → row_at (node_key node.meta.name) rows ≡ Some (Node node) → n1 ≡ node
only_node rows node only there = sole (subst (λ ns. SomeOf (λ n. n ≡ node) ns) only (node_in node rows (found_in (node_key node.meta.name) (Node node) rows there)))

-- where no volume stands there is no candidate
no_volume : (rows : List Object) (x : ClaimData) → rows_of kinds.PersistentVolume rows ≡ [] → (place : ℕ) (v : VolumeData) → IsCandidate rows x (Some n1) false [] place v → ⊥
no_volume rows x none place v candidate = differ is_none (subst (λ os. slice_get os place ≡ Some (Volume v)) none candidate.there) refl refl

-- the larger of two claims is not given
second_ungiven : (shares : List Share) → AreShares searched_large n1 [] (c ∷ large_d ∷ []) shares → shares_are_served pool_setup (with_rows searched_large) n1 (c ∷ large_d ∷ []) shares ≡ true → ⊥
second_ungiven [] h given = h
second_ungiven (TakesVolume place ∷ shares) h given = differ is_none h.0.candidate.there refl refl
second_ungiven (IsProvisioned ∷ []) h given = h.2
second_ungiven (IsProvisioned ∷ TakesVolume place ∷ shares) h given = differ is_none h.2.0.candidate.there refl refl
second_ungiven (IsProvisioned ∷ IsProvisioned ∷ shares) h given = true≢false (sym given)

too_large : CanPrepare pool_setup (with_rows searched_large) pod_of_two → ⊥
too_large can = second_ungiven can.shares (subst (λ n. AreShares searched_large n [] (c ∷ large_d ∷ []) can.shares) (sym e) can.serves.shared)
    (subst (λ n. shares_are_served pool_setup (with_rows searched_large) n (c ∷ large_d ∷ []) can.shares ≡ true) (sym e) can.given)
  where
    e : n1 ≡ can.node
    e = only_node searched_large can.node refl can.there

near_is_best : (other : ℕ) (u : VolumeData) → IsCandidate (beside_completed near_a) d (Some n1) false [] other u → match_cmp d near_a u ≢ Greater
near_is_best zero u candidate greater =
    differ is_greater (sym (subst (λ v. match_cmp d near_a v ≡ Greater) (sym (same_at (beside_completed near_a) 0 near_a u refl candidate.there)) greater)) refl refl
near_is_best (suc other) u candidate greater = differ is_none candidate.there refl refl

far_from_node : CanPrepare pool_setup (with_rows (beside_completed far_free_a)) pod_of_two → ⊥
far_from_node can = true≢false (sym
    (subst (λ n. list_all (fixed_admit (beside_completed far_free_a) n) (claims_of (beside_completed far_free_a) pod_of_two) ≡ true)
    (sym (only_node (beside_completed far_free_a) can.node refl can.there)) can.serves.fixed))

-- the smaller claim takes the volume that the larger one selects
smaller_has : IsCandidate smaller_first small_d (Some n1) false [] 0 selected_a
smaller_has = record { there = refl; open_to = refl; own = refl; eligible = refl }

none_is_left : (place other : ℕ) → IsBestAt smaller_first small_d (Some n1) false [] place → IsBestAt smaller_first selecting_c (Some n1) false (place ∷ []) other → ⊥
none_is_left zero zero first best = true≢false best.candidate.open_to
none_is_left zero (suc zero) first best =
    true≢false (sym (subst (λ v. eligible v selecting_c (Some n1) ≡ true) (sym (same_at smaller_first 1 unselected_b best.volume refl best.candidate.there)) best.candidate.eligible))
none_is_left zero (suc (suc other)) first best = differ is_none best.candidate.there refl refl
none_is_left (suc zero) other first best =
    first.first 0 selected_a smaller_has (subst (λ v. match_cmp small_d v selected_a ≡ Greater) (same_at smaller_first 1 unselected_b first.volume refl first.candidate.there) refl)
none_is_left (suc (suc place)) other first best = differ is_none first.candidate.there refl refl

smaller_shares : (shares : List Share) → AreShares smaller_first n1 [] (small_d ∷ selecting_c ∷ []) shares → ⊥
smaller_shares [] h = h
smaller_shares (IsProvisioned ∷ shares) h = h.0 0 selected_a smaller_has
smaller_shares (TakesVolume place ∷ []) h = h.1
smaller_shares (TakesVolume place ∷ IsProvisioned ∷ shares) h = true≢false (sym h.1.1)
smaller_shares (TakesVolume place ∷ TakesVolume other ∷ shares) h = none_is_left place other h.0 h.1.0

smaller_takes : CanPrepare no_setup (with_rows smaller_first) pod_of_two → ⊥
smaller_takes can = smaller_shares can.shares
    (subst (λ n. AreShares smaller_first n [] (small_d ∷ selecting_c ∷ []) can.shares) (sym (only_node smaller_first can.node refl can.there)) can.serves.shared)

abbrev without_node : List Object
without_node = Class late ∷ Claim c ∷ Pod waiting_p ∷ []

pub prepare_due_examples : PrepareDueExamples
prepare_due_examples = record {
  prepare_by_provisioning = (refl, record { node = n1; there = refl; shares = IsProvisioned ∷ []; serves = record { fixed = refl; shared = (none_there, refl, tt) }; given = refl });
  prepare_by_volume = (
    refl,
    record {
      node = n1;
      there = refl;
      shares = TakesVolume 0 ∷ [];
      serves = record
          { fixed = refl; shared = (record { volume = a; candidate = record { there = refl; open_to = refl; own = refl; eligible = refl }; first = a_is_best }, tt) };
      given = refl;
    },
  );
  prepare_by_provisioning_two = (
    refl,
    record {
      node = n1;
      there = refl;
      shares = IsProvisioned ∷ IsProvisioned ∷ [];
      serves =
          record { fixed = refl; shared = (no_volume searched_two c refl, refl, (no_volume searched_two d refl, refl, tt)) };
      given = refl;
    },
  );
  no_prepare_where_the_second_is_too_large = too_large;
  prepare_beside_a_completed_claim = (
    refl,
    record {
      node = n1;
      there = refl;
      shares = TakesVolume 0 ∷ [];
      serves =
          record { fixed = refl; shared = (record { volume = near_a; candidate = record { there = refl; open_to = refl; own = refl; eligible = refl }; first = near_is_best }, tt) };
      given = refl;
    },
  );
  no_prepare_far_from_the_volume_of_a_completed_claim = far_from_node;
  no_prepare_where_the_smaller_claim_takes_the_volume = smaller_takes;
  no_prepare_where_pool_is_small = ungiven;
  no_prepare_without_node = λ can. node_in can.node without_node (found_in (node_key can.node.meta.name) (Node can.node) without_node can.there);
  no_prepare_where_chosen = refl;
  no_prepare_without_delay = refl;
}

abbrev is_available_due : Option Due → Bool
is_available_due (Some dues.Available) = true
is_available_due action = false

abbrev is_less : Ordering → Bool
is_less Less = true
is_less o = false

pub settled_examples : SettledExamples
unfolding or_due volume_due reference_due referred_due claim_with claim_due named_due completed_due next_write claim_write
settled_examples = record {
  empty_is_settled = λ key o e. absurd (differ is_none e refl refl);
  bound_is_settled = λ key o e. done o (found_in key o done_rows e);
  unbound_is_not = λ s. differ is_none (s key_a (Volume pending_a) refl) refl refl;
  first_is_the_volume = record {
    object = Volume pending_a;
    there = refl;
    due = refl;
    first = λ earlier o e less. absurd
        (none_before earlier o (row_at_key earlier o two_rows e) less (found_in earlier o two_rows e));
  };
  first_is_not_the_claim = λ r. differ is_none (r.first key_a (Volume pending_a) refl refl) refl refl;
  other_action_is_not_first = λ r. differ is_available_due (sym (subst (λ o. IsDue no_setup (with_rows two_rows) o (Some dues.Bound)) (sym (one (Volume pending_a) r.object r.there)) r.due)) refl refl;
  none_is_not_first = λ s. differ is_none (s key_a (Volume pending_a) refl) refl refl;
}
  where
    done : (o : Object) → IsIn o done_rows → IsDue no_setup (with_rows done_rows) o None
    done o (inl e) = subst (λ o. IsDue no_setup (with_rows done_rows) o None) e refl
    done o (inr (inl e)) = subst (λ o. IsDue no_setup (with_rows done_rows) o None) e refl
    done o (inr (inr h)) = absurd h

    none_before : (earlier : Key) (o : Object) → key_of o ≡ earlier → key_cmp earlier key_a ≡ Less → IsIn o two_rows → ⊥
    none_before earlier o k less (inl e) = differ is_less (sym (subst (λ k. key_cmp k key_a ≡ Less) (sym (ap key_of e ∙ k)) less)) refl refl
    none_before earlier o k less (inr (inl e)) = differ is_less (sym (subst (λ k. key_cmp k key_a ≡ Less) (sym (ap key_of e ∙ k)) less)) refl refl
    none_before earlier o k less (inr (inr h)) = h
