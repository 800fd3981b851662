-- The parts of what is safe, computed.
use Rattle.std.proofs.Common.{sym, refl, ap, subst, inl, inr, true≢false, ◌∙◌}
use Rattle.std.specs.Prelude.{ℕ, ◌≡◌, ◌⊎◌, true, false, List, [], ◌∷◌, Some, is_none, is_some, codes, bytes_eq}
use Rattle.kube_objects.specs.declared.key.Key.{Key}
use Rattle.kube_parts.specs.declared.parts.VolumePhase.TheVariants as volumes
use Rattle.kube_parts.specs.declared.parts.ClaimPhase.TheVariants as claims
use Rattle.kube_objects.specs.declared.objects.Claim.{Claim as ClaimData}
use Rattle.kube_objects.specs.declared.objects.Volume.{Volume as VolumeData}
use Rattle.kube_objects.specs.declared.objects.Object.{Object}
use Rattle.kube_objects.specs.declared.objects.Object.TheVariants.{Volume, Claim}
use Rattle.kube_objects.specs.Keys.{row_at, key_of}
use Rattle.kube_parts.specs.Uids.{uid_of_serial}
use Rattle.kube_objects.specs.Bindings.{is_bound, is_completed, carries, is_uid}
use Rattle.kube_objects.proofs.KeyOrder.{row_at_key}
use Rattle.call_types.specs.declared.entry.Entry.{Entry}
use Rattle.call_types.specs.declared.setup.Setup.{Setup}
use Rattle.call_types.specs.declared.request.SeatKind.TheVariants as seats
use Rattle.binder_model.specs.Store.{with_meta, at_version, with_status_of, updated_object, leaves, lacks_node}
use Rattle.binder_model.specs.Fields.{faulty, volume_fault, claim_fault, kind_fault, create_fault, changed_field, update_fault}
use Rattle.binder_model.specs.Answers.{refuse, refuse_field, refuse_rule, guard_on, get, update, with_status, written_if_fits, update_status, outcome, reply_of, after}
use Rattle.binder_model.specs.Devices.{device_answer, erase, no_devices, unless_planned}
use Rattle.binder_model.specs.ObjectKeys.{claim_key, volume_key}
use Rattle.binder_model.specs.Imports.{imported_object}
use Rattle.binder_model.specs.Told.{SomeOf}
use Rattle.binder_model.specs.World.{World, world, effect, on_devices, reply_to, world_after, log_after}
use Rattle.binder_model.specs.Safe.{AreBindings, CountedAreBound, Counts, IsBoundTo, KeepsBound, KeepsMounted, Safe, is_mounted, IsEndedForDelete}
use Rattle.model_laws.specs.Worked.{no_setup}
use Rattle.model_examples.specs.Imported.{setup_of}
use Rattle.model_examples.specs.Samples.{
  seat_of,
  finds,
  volume_at,
  a,
  c,
  d,
  in_phase,
  claim_at,
  key_a,
  key_c,
  taken_a,
  bound_a,
  released_a,
  bound_c,
  ended_a,
  failed_a,
  bound_for_other,
  leaving_bound_a,
  still_bound_a,
}
use Rattle.model_examples.specs.SafePoints.{
  completing,
  completes,
  with_claim,
  lost_setup,
  BindingExamples,
  mounting,
  unmounted,
  LeavingExamples,
  next_a,
  no_uid_a,
  ErasedExamples,
  SafeExamples,
  loosens,
  erases_imported,
  erases_read,
  leaving_free_a,
  WholeExamples,
}
use Rattle.model_examples.proofs.Tellings.{one, differ, sole, claims_in, claim_in, volumes_in, volume_in, volume_of}
use Rattle.model_laws.proofs.Readings.{found_stands as found_in}

-- the claims, and the volumes, that stand in literal rows
claims_at : (key : Key) (x : ClaimData) (rows : List Object) → row_at key rows ≡ Some (Claim x) → SomeOf (λ y. y ≡ x) (claims_in rows)
claims_at key x rows e = claim_in x rows (found_in key (Claim x) rows e)

volumes_at : (key : Key) (v : VolumeData) (rows : List Object) → row_at key rows ≡ Some (Volume v) → SomeOf (λ u. u ≡ v) (volumes_in rows)
volumes_at key v rows e = volume_in v rows (found_in key (Volume v) rows e)

-- leaving

pub leaving_examples : LeavingExamples
leaving_examples = record {
  bound_volume_stays = λ key v e bound. subst (λ k. is_some (row_at k (Volume released_a ∷ [])) ≡ true) (key_is key v
      (volumes_at key v (Volume bound_a ∷ []) e) (row_at_key key (Volume v) (Volume bound_a ∷ []) e)) refl;
  free_volume_leaves = λ key v e bound. absurd (true≢false (sym (subst (λ u. is_bound u.phase ≡ true) (sym (sole (volumes_at key v (Volume a ∷ []) e))) bound)));
  bound_volume_leaves_is_unsafe = λ k. true≢false (sym (k key_a bound_a refl refl));
  bound_volume_for_another_is_unsafe = λ k. true≢false (sym (k key_a bound_a refl refl));
  mounted_claim_stays = λ key x e mounted. subst (λ k. is_some (row_at k (Claim c ∷ [])) ≡ true) (claim_key_is key x
      (claims_at key x (Claim c ∷ []) e) (row_at_key key (Claim x) (Claim c ∷ []) e)) refl;
  unmounted_claim_leaves = λ key x e mounted. absurd (true≢false (sym (subst (λ y. is_mounted unmounted.devices y ≡ true) (sym (sole (claims_at key x (Claim c ∷ []) e))) mounted)));
  claim_leaves_beside_other_mount = λ key x e mounted. absurd (true≢false
      (sym (subst (λ y. is_mounted (mounting (uid_of_serial 8)).devices y ≡ true) (sym (sole (claims_at key x (Claim c ∷ []) e))) mounted)));
  mounted_claim_leaves_is_unsafe = λ k. true≢false (sym (k key_c c refl refl));
}
  where
    key_is : (key : Key) (v : VolumeData) → (bound_a ≡ v) ⊎ ⊥ → key_of (Volume v) ≡ key → key_a ≡ key
    key_is key v h k = ap (λ u. key_of (Volume u)) (sole h) ∙ k

    claim_key_is : (key : Key) (x : ClaimData) → (c ≡ x) ⊎ ⊥ → key_of (Claim x) ≡ key → key_c ≡ key
    claim_key_is key x h k = ap (λ y. key_of (Claim y)) (sole h) ∙ k

-- erased data

pub erased_examples : ErasedExamples
erased_examples = record {
  erased_while_released = record {
    volume = ended_a;
    last = refl;
    uid = uid_of_serial 1;
    known = refl;
    since = λ key v e known. subst
        (λ u. IsEndedForDelete u) (sole (volumes_at key v (Volume ended_a ∷ []) e)) (record { ended = refl; policy = refl });
  };
  erased_while_failed = record {
    volume = ended_a;
    last = refl;
    uid = uid_of_serial 1;
    known = refl;
    since = λ key v e known. subst
        (λ u. IsEndedForDelete u) (sole (volumes_at key v (Volume failed_a ∷ []) e)) (record { ended = refl; policy = refl });
  };
  erased_after_it_left = record { volume = ended_a; last = refl; uid = uid_of_serial 1; known = refl; since = λ key v e known. absurd (differ is_none e refl refl) };
  erased_beside_next_volume = record {
    volume = ended_a;
    last = refl;
    uid = uid_of_serial 1;
    known = refl;
    since = λ key v e known. absurd
        (differ (λ u. is_uid u (uid_of_serial 12)) (ap (λ u. u.meta.uid) (sole (volumes_at key v (Volume next_a ∷ []) e)) ∙ known) refl refl);
  };
  imported_data_of_an_ended_volume = record {
    volume = ended_a;
    last = refl;
    uid = uid_of_serial 1;
    known = refl;
    since = λ key v e known. subst
        (λ u. IsEndedForDelete u) (sole (volumes_at key v (Volume ended_a ∷ []) e)) (record { ended = refl; policy = refl });
  };
  imported_data_never_read_are_unsafe = λ h. differ is_none h.last refl refl;
  imported_data_of_a_bound_volume_are_unsafe = λ h. true≢false (sym (h.since key_a (in_phase volumes.Bound ended_a) refl (ap (λ v. v.meta.uid) (one ended_a h.volume h.last) ∙ h.known)).ended);
  failed_erase = tt;
  never_read_is_unsafe = λ h. differ is_none h.last refl refl;
  listed_alone_is_unsafe = λ h. differ is_none h.last refl refl;
  read_without_answer_is_unsafe = λ h. differ is_none h.last refl refl;
  erased_without_uid_is_unsafe = λ h. differ is_none (ap (λ v. v.meta.uid) (one no_uid_a h.volume h.last) ∙ h.known) refl refl;
  erased_while_bound_is_unsafe = λ h. true≢false (sym (h.since key_a (in_phase volumes.Bound ended_a) refl (ap (λ v. v.meta.uid) (one ended_a h.volume h.last) ∙ h.known)).ended);
  erased_with_policy_retain_is_unsafe = λ h. true≢false (sym (h.since key_a released_a refl (ap (λ v. v.meta.uid) (one ended_a h.volume h.last) ∙ h.known)).policy);
}

-- bindings

abbrev rows_after : Setup → List Entry → List Object
rows_after setup past = (world setup past).store.rows

-- where no claim that stands is completed
none_counts : (setup : Setup) (past : List Entry) → ((key : Key) (x : ClaimData) → row_at key (rows_after setup past) ≡ Some (Claim x) → Counts setup past x → ⊥) → AreBindings setup past
none_counts setup past none = record { bound = λ key x e counts. absurd (none key x e counts); apart = λ key other x y e f counts others same. absurd (none key x e counts) }

-- where one claim stands, and is bound
one_bound : (setup : Setup) (past : List Entry) (x : ClaimData)
    → ((key : Key) (y : ClaimData) → row_at key (rows_after setup past) ≡ Some (Claim y) → (x ≡ y) × (key_of (Claim y) ≡ key)) → IsBoundTo (rows_after setup past) x → AreBindings setup past
one_bound setup past x at is = record {
  bound = λ key y e counts. subst (λ y. IsBoundTo (rows_after setup past) y) (at key y e).0 is;
  apart = λ key other y z e f counts others same. sym (at key y e).1 ∙ sym (ap (λ y. key_of (Claim y)) (at key y e).0) ∙ ap (λ y. key_of (Claim y)) (at other z f).0 ∙ (at other z f).1;
}

-- the volume that stands under the name carries the claim and is Bound
bound_of : (rows : List Object) (x : ClaimData) (v : VolumeData) → IsBoundTo rows x → row_at (volume_key x.volume_name) rows ≡ Some (Volume v) → (carries v x ≡ true) × (is_bound v.phase ≡ true)
bound_of rows x v is there = subst (λ u. (carries u x ≡ true) × (is_bound u.phase ≡ true)) (ap (volume_of v) (sym is.there ∙ there)) (is.carries, is.bound)

abbrev key_d : Key
key_d = claim_key (codes "default") (codes "d")

-- the claim after it was completed by the write of a version
abbrev done : ℕ → ClaimData
done version = completing (claim_at version c)

abbrev done_d : ClaimData
done_d = completing (claim_at 7 d)

abbrev lost_c : ClaimData
lost_c = record bound_c { phase = claims.Lost }

abbrev import_setup : Setup
import_setup = setup_of (Volume bound_a ∷ Claim bound_c ∷ [])

abbrev now_bound : VolumeData
now_bound = in_phase volumes.Bound (volume_at 8 taken_a)

abbrev bound_then : Setup
bound_then = with_claim (Volume bound_a ∷ [])

too_early : CountedAreBound (with_claim (Volume taken_a ∷ [])) (completes c ∷ []) → ⊥
unfolding effect on_devices device_answer outcome update update_status with_status written_if_fits refuse refuse_field refuse_rule guard_on
    update_fault changed_field create_fault kind_fault volume_fault claim_fault faulty lacks_node with_status_of updated_object at_version leaves
    with_meta reply_to world_after reply_of after log_after imported_object
too_early b = true≢false (sym (bound_of (Volume taken_a ∷ Claim (done 5) ∷ []) (done 5) taken_a (b key_c (done 5) refl (record { completed = refl; found = λ e. absurd (true≢false (sym e)) })) refl).1)

not_completed : (key : Key) (x : ClaimData) (rows : List Object) → claims_in rows ≡ c ∷ [] → row_at key rows ≡ Some (Claim x) → is_completed x ≡ true → ⊥
not_completed key x rows only e completed = true≢false (sym (subst (λ y. is_completed y ≡ true) (sym (sole (subst (λ ys. SomeOf (λ y. y ≡ x) ys) only (claims_at key x rows e)))) completed))

before_completion : AreBindings bound_then []
unfolding effect on_devices device_answer outcome update update_status with_status written_if_fits refuse refuse_field refuse_rule guard_on
    update_fault changed_field create_fault kind_fault volume_fault claim_fault faulty lacks_node with_status_of updated_object at_version leaves
    with_meta reply_to world_after reply_of after log_after imported_object
before_completion = none_counts bound_then [] (λ key x e counts. not_completed key x (Volume bound_a ∷ Claim c ∷ []) refl e counts.completed)

after_bound : AreBindings bound_then (completes c ∷ [])
unfolding effect on_devices device_answer outcome update update_status with_status written_if_fits refuse refuse_field refuse_rule guard_on
    update_fault changed_field create_fault kind_fault volume_fault claim_fault faulty lacks_node with_status_of updated_object at_version leaves
    with_meta reply_to world_after reply_of after log_after imported_object
after_bound = one_bound bound_then (completes c ∷ []) (done 6)
    (λ key y e. (sole (claims_at key y (Volume bound_a ∷ Claim (done 6) ∷ []) e), row_at_key key (Claim y) (Volume bound_a ∷ Claim (done 6) ∷ []) e))
    (record { volume = bound_a; there = refl; carries = refl; bound = refl })

pub binding_examples : BindingExamples
unfolding effect on_devices device_answer outcome update update_status with_status written_if_fits refuse refuse_field refuse_rule guard_on
    update_fault changed_field create_fault kind_fault volume_fault claim_fault faulty lacks_node with_status_of updated_object at_version leaves
    with_meta reply_to world_after reply_of after log_after imported_object
binding_examples = record {
  empty_world = none_counts no_setup [] (λ key x e counts. differ is_none e refl refl);
  claim_before_completion = none_counts (with_claim []) [] (λ key x e counts. not_completed key x (Claim c ∷ []) refl e counts.completed);
  bound_in_an_import = one_bound import_setup [] bound_c (λ key y e.
      (sole (claims_at key y (Volume bound_a ∷ Claim bound_c ∷ []) e), row_at_key key (Claim y) (Volume bound_a ∷ Claim bound_c ∷ []) e))
      (record { volume = bound_a; there = refl; carries = refl; bound = refl });
  completed_after_bound = after_bound;
  completed_without_volume_is_unsafe = λ b. differ is_none (b key_c (done 3) refl (record { completed = refl; found = λ e. absurd (true≢false (sym e)) })).there refl refl;
  completed_with_free_volume_is_unsafe = λ b. true≢false (sym
      (bound_of (Volume a ∷ Claim (done 4) ∷ []) (done 4) a (b key_c (done 4) refl (record { completed = refl; found = λ e. absurd (true≢false (sym e)) })) refl).0);
  completed_before_bound_is_unsafe = too_early;
  released_under_claim_is_unsafe = λ b. true≢false (sym
      (bound_of (Volume (in_phase volumes.Released (volume_at 7 bound_a)) ∷ Claim (done 6) ∷ []) (done 6)
      (in_phase volumes.Released (volume_at 7 bound_a)) (b key_c (done 6) refl (record { completed = refl; found = λ e. absurd (true≢false (sym e)) })) refl).1);
  one_of_two_claims = λ key other x y e f counts others same. sym (at_c key x e counts.completed) ∙ at_c other y f others.completed;
  two_claims_of_one_volume_are_unsafe = λ b. differ (λ k. bytes_eq k.name (codes "c")) (b key_c key_d (done 6) done_d refl refl
      (record { completed = refl; found = λ e. absurd (true≢false (sym e)) }) (record { completed = refl; found = λ e. absurd (true≢false (sym e)) }) refl) refl refl;
  completed_claim_counts = record { completed = refl; found = λ e. absurd (true≢false (sym e)) };
  claim_before_completion_does_not_count = λ k. true≢false (sym k.completed);
  lost_import_does_not_count = λ k. unbound bound_c (k.found refl) refl;
  lost_import_is_safe = none_counts lost_setup [] (λ key x e counts. lost (subst (λ y. Counts lost_setup [] y) (sym (sole (claims_at key x (Volume taken_a ∷ Claim lost_c ∷ []) e))) counts));
  lost_import_counts_once_bound = record { completed = refl; found = λ e. inl (record { volume = now_bound; there = refl; carries = refl; bound = refl }) };
  lost_import_bound_is_safe = λ key x e counts. subst (λ y. IsBoundTo (Volume now_bound ∷ Claim lost_c ∷ []) y) (sole
      (claims_at key x (Volume now_bound ∷ Claim lost_c ∷ []) e)) (record { volume = now_bound; there = refl; carries = refl; bound = refl });
  lost_import_bound_and_released_is_unsafe =
      λ b. true≢false (sym (bound_of (Volume (in_phase volumes.Released (volume_at 9 taken_a)) ∷ Claim lost_c ∷ []) lost_c
      (in_phase volumes.Released (volume_at 9 taken_a))
      (b key_c lost_c refl (record { completed = refl; found = λ e. inr (inl (record { volume = now_bound; there = refl; carries = refl; bound = refl })) })) refl).1);
}
  where
    at_c : (key : Key) (x : ClaimData) → row_at key (Volume bound_a ∷ Claim (done 6) ∷ Claim d ∷ []) ≡ Some (Claim x) → is_completed x ≡ true → key_c ≡ key
    at_c key x e completed = by (claims_at key x (Volume bound_a ∷ Claim (done 6) ∷ Claim d ∷ []) e) (row_at_key key (Claim x) (Volume bound_a ∷ Claim (done 6) ∷ Claim d ∷ []) e)
      where
        by : (done 6 ≡ x) ⊎ ((d ≡ x) ⊎ ⊥) → key_of (Claim x) ≡ key → key_c ≡ key
        by (inl is) k = ap (λ y. key_of (Claim y)) is ∙ k
        by (inr (inl is)) k = absurd (true≢false (sym (subst (λ y. is_completed y ≡ true) (sym is) completed)))
        by (inr (inr h)) k = absurd h

    unbound : (x : ClaimData) → IsBoundTo (Volume taken_a ∷ Claim lost_c ∷ []) x → x.volume_name ≡ codes "a" → ⊥
    unbound x is named = true≢false (sym
        (bound_of (Volume taken_a ∷ Claim lost_c ∷ []) x taken_a is (subst (λ n. row_at (volume_key n) (Volume taken_a ∷ Claim lost_c ∷ []) ≡ Some (Volume taken_a)) (sym named) refl)).1)

    lost : Counts lost_setup [] lost_c → ⊥
    lost k = unbound lost_c (k.found refl) refl

pub safe_examples : SafeExamples
unfolding effect on_devices device_answer outcome update update_status with_status written_if_fits refuse refuse_field refuse_rule guard_on
    update_fault changed_field create_fault kind_fault volume_fault claim_fault faulty lacks_node with_status_of updated_object at_version leaves
    with_meta reply_to world_after reply_of after log_after imported_object
safe_examples = record {
  nothing_asked = none_counts no_setup [] (λ key x e counts. differ is_none e refl refl);
  completed_after_bound = (
    record {
      bindings = after_bound;
      volumes = λ key v e bound. subst (λ k. is_some (row_at k (Volume bound_a ∷ Claim (done 6) ∷ [])) ≡ true) (key_is key
          v e) refl;
      claims = λ key x e mounted. absurd (unmounted_c key x e mounted);
      erased = tt;
    },
    before_completion,
  );
  unsafe_before_is_unsafe = λ s. too_early s.1.0.bindings.bound;
}
  where
    key_is : (key : Key) (v : VolumeData) → row_at key (Volume bound_a ∷ Claim c ∷ []) ≡ Some (Volume v) → key_a ≡ key
    key_is key v e = ap (λ u. key_of (Volume u)) (sole (volumes_at key v (Volume bound_a ∷ Claim c ∷ []) e)) ∙ row_at_key key (Volume v) (Volume bound_a ∷ Claim c ∷ []) e

    unmounted_c : (key : Key) (x : ClaimData) → row_at key (Volume bound_a ∷ Claim c ∷ []) ≡ Some (Claim x) → is_mounted no_devices x ≡ true → ⊥
    unmounted_c key x e mounted = true≢false (sym (subst (λ y. is_mounted no_devices y ≡ true) (sym (sole (claims_at key x (Volume bound_a ∷ Claim c ∷ []) e))) mounted))

-- the whole promise

-- where no claim stands nothing counts
claimless : (setup : Setup) (past : List Entry) → claims_in (rows_after setup past) ≡ [] → AreBindings setup past
claimless setup past none = none_counts setup past (λ key x e counts. subst (λ ys. SomeOf (λ y. y ≡ x) ys) none (claims_at key x (rows_after setup past) e))

-- and none leaves
no_claim_left : (old : World) (new : List Object) → claims_in old.store.rows ≡ [] → KeepsMounted old new
no_claim_left old new none key x e mounted = absurd (subst (λ ys. SomeOf (λ y. y ≡ x) ys) none (claims_at key x old.store.rows e))

-- where one volume stands that is not Bound, no Bound one leaves
no_bound_left : (v : VolumeData) (old new : List Object) → volumes_in old ≡ v ∷ [] → is_bound v.phase ≡ false → KeepsBound old new
no_bound_left v old new only free key u e bound =
    absurd (true≢false (sym (subst (λ w. is_bound w.phase ≡ true) (sym (sole (subst (λ ys. SomeOf (λ w. w ≡ u) ys) only (volumes_at key u old e)))) bound) ∙ free))

taken_by_another : Safe (with_claim (Volume bound_for_other ∷ [])) (completes c ∷ []) → ⊥
unfolding effect on_devices device_answer outcome update update_status with_status written_if_fits refuse refuse_field refuse_rule guard_on
    update_fault changed_field create_fault kind_fault volume_fault claim_fault faulty lacks_node with_status_of updated_object at_version leaves
    with_meta reply_to world_after reply_of after log_after imported_object
taken_by_another s = true≢false (sym
    (bound_of (Volume bound_for_other ∷ Claim (done 10) ∷ []) (done 10) bound_for_other
    (s.0.bindings.bound key_c (done 10) refl (record { completed = refl; found = λ e. absurd (true≢false (sym e)) })) refl).0)

free_leaves : Safe (setup_of (Volume leaving_free_a ∷ [])) (loosens leaving_free_a ∷ [])
unfolding effect on_devices device_answer outcome update update_status with_status written_if_fits refuse refuse_field refuse_rule guard_on
    update_fault changed_field create_fault kind_fault volume_fault claim_fault faulty lacks_node with_status_of updated_object at_version leaves
    with_meta reply_to world_after reply_of after log_after imported_object
free_leaves = (
  record {
    bindings = claimless (setup_of (Volume leaving_free_a ∷ [])) (loosens leaving_free_a ∷ []) refl;
    volumes = no_bound_left leaving_free_a (Volume leaving_free_a ∷ []) [] refl refl;
    claims = no_claim_left (world (setup_of (Volume leaving_free_a ∷ [])) []) [] refl;
    erased = tt;
  },
  claimless (setup_of (Volume leaving_free_a ∷ [])) [] refl,
)

bound_leaves : Safe (setup_of (Volume leaving_bound_a ∷ [])) (loosens leaving_bound_a ∷ []) → ⊥
unfolding effect on_devices device_answer outcome update update_status with_status written_if_fits refuse refuse_field refuse_rule guard_on
    update_fault changed_field create_fault kind_fault volume_fault claim_fault faulty lacks_node with_status_of updated_object at_version leaves
    with_meta reply_to world_after reply_of after log_after imported_object
bound_leaves s = true≢false (sym (s.0.volumes key_a leaving_bound_a refl refl))

abbrev one_ended : Setup
one_ended = setup_of (Volume ended_a ∷ [])

abbrev read_of : VolumeData → List Entry
read_of v = seat_of seats.Ops (finds key_a (Volume v) ∷ [])

ended_erased : Safe one_ended (erases_read ended_a)
unfolding effect on_devices device_answer outcome update update_status with_status written_if_fits refuse refuse_field refuse_rule guard_on
    update_fault changed_field create_fault kind_fault volume_fault claim_fault faulty lacks_node with_status_of updated_object at_version leaves
    with_meta reply_to world_after reply_of after log_after imported_object get erase unless_planned
ended_erased = (
  record {
    bindings = claimless one_ended (erases_read ended_a) refl;
    volumes = no_bound_left ended_a (Volume ended_a ∷ []) (Volume ended_a ∷ []) refl refl;
    claims = no_claim_left (world one_ended (read_of ended_a)) (Volume ended_a ∷ []) refl;
    erased = record {
      volume = ended_a;
      last = refl;
      uid = uid_of_serial 1;
      known = refl;
      since =
          λ key v e known. subst (λ u. IsEndedForDelete u) (sole (volumes_at key v (Volume ended_a ∷ []) e)) (record { ended = refl; policy = refl });
    };
  },
  (
    record {
      bindings = claimless one_ended (read_of ended_a) refl;
      volumes = no_bound_left ended_a (Volume ended_a ∷ []) (Volume ended_a ∷ []) refl refl;
      claims = no_claim_left (world one_ended []) (Volume ended_a ∷ []) refl;
      erased = tt;
    },
    claimless one_ended [] refl,
  ),
)

bound_erased : Safe (setup_of (Volume still_bound_a ∷ [])) (erases_read still_bound_a) → ⊥
unfolding effect on_devices device_answer outcome update update_status with_status written_if_fits refuse refuse_field refuse_rule guard_on
    update_fault changed_field create_fault kind_fault volume_fault claim_fault faulty lacks_node with_status_of updated_object at_version leaves
    with_meta reply_to world_after reply_of after log_after imported_object get erase unless_planned
bound_erased s = true≢false (sym (s.0.erased.since key_a still_bound_a refl (ap (λ v. v.meta.uid) (one still_bound_a s.0.erased.volume s.0.erased.last) ∙ s.0.erased.known)).ended)

imported_erased : Safe (setup_of (Volume still_bound_a ∷ [])) (erases_imported still_bound_a) → ⊥
unfolding effect on_devices device_answer outcome update update_status with_status written_if_fits refuse refuse_field refuse_rule guard_on
    update_fault changed_field create_fault kind_fault volume_fault claim_fault faulty lacks_node with_status_of updated_object at_version leaves
    with_meta reply_to world_after reply_of after log_after imported_object get erase unless_planned
imported_erased s = true≢false (sym (s.0.erased.since key_a still_bound_a refl (ap (λ v. v.meta.uid) (one still_bound_a s.0.erased.volume s.0.erased.last) ∙ s.0.erased.known)).ended)

retained_erased : Safe (setup_of (Volume released_a ∷ [])) (erases_read released_a) → ⊥
unfolding effect on_devices device_answer outcome update update_status with_status written_if_fits refuse refuse_field refuse_rule guard_on
    update_fault changed_field create_fault kind_fault volume_fault claim_fault faulty lacks_node with_status_of updated_object at_version leaves
    with_meta reply_to world_after reply_of after log_after imported_object get erase unless_planned
retained_erased s = true≢false (sym (s.0.erased.since key_a released_a refl (ap (λ v. v.meta.uid) (one released_a s.0.erased.volume s.0.erased.last) ∙ s.0.erased.known)).policy)

abbrev one_lost : Setup
one_lost = setup_of (Claim bound_c ∷ [])

lost_itself : Safe one_lost []
unfolding imported_object
lost_itself = none_counts one_lost [] (λ key x e counts. unbound (subst (λ y. Counts one_lost [] y) (sym (sole (claims_at key x (Claim lost_c ∷ []) e))) counts))
  where
    unbound : Counts one_lost [] lost_c → ⊥
    unbound k = differ is_none (k.found refl).there refl refl

lost_another : Safe (setup_of (Claim bound_c ∷ Claim d ∷ [])) (completes d ∷ []) → ⊥
unfolding effect on_devices device_answer outcome update update_status with_status written_if_fits refuse refuse_field refuse_rule guard_on
    update_fault changed_field create_fault kind_fault volume_fault claim_fault faulty lacks_node with_status_of updated_object at_version leaves
    with_meta reply_to world_after reply_of after log_after imported_object
lost_another s = differ is_none (s.0.bindings.bound key_d (completing (claim_at 8 d)) refl (record { completed = refl; found = λ e. absurd (true≢false (sym e)) })).there refl refl

pub whole_examples : WholeExamples
whole_examples = record {
  volume_of_another_claim_is_unsafe = taken_by_another;
  free_volume_leaves = free_leaves;
  bound_volume_leaves_is_unsafe = bound_leaves;
  ended_volume_is_erased = ended_erased;
  bound_volume_is_erased_is_unsafe = bound_erased;
  imported_bound_volume_is_erased_is_unsafe = imported_erased;
  retained_volume_is_erased_is_unsafe = retained_erased;
  lost_import_excuses_itself = lost_itself;
  lost_import_excuses_another_is_unsafe = lost_another;
}
