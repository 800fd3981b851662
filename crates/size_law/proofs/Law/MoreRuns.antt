-- The runs of pairs that were bound by hand, and of imports, computed.
use Rattle.std.proofs.Common.{sym, refl, subst, inl, inr, ap, true≢false, arith}
use Rattle.std.specs.Prelude.{Bool, true, false, List, [], ◌∷◌, Some}
use mathlib.Core.Bool.{xor}
use Rattle.kube_parts.specs.declared.parts.VolumePhase.TheVariants as volumes
use Rattle.kube_objects.specs.declared.objects.Volume.{Volume as VolumeData}
use Rattle.kube_objects.specs.declared.objects.Claim.{Claim as ClaimData}
use Rattle.kube_objects.specs.declared.objects.Object.{Object}
use Rattle.kube_objects.specs.declared.objects.Object.TheVariants.{Volume}
use Rattle.kube_parts.specs.Uids.{uid_of_serial}
use Rattle.call_types.specs.declared.entry.Entry.{Entry}
use Rattle.call_types.specs.declared.request.SeatKind.TheVariants as seats
use Rattle.call_types.specs.declared.reply.Reply.TheVariants as replies
use Rattle.binder_model.specs.Store.{with_meta, at_version, admitted_object, without_status, created_object, with_status_of, updated_object, leaves, lacks_node}
use Rattle.binder_model.specs.Fields.{faulty, volume_fault, claim_fault, kind_fault, create_fault, changed_field, update_fault}
use Rattle.binder_model.specs.Guard.{breaks, guard}
use Rattle.binder_model.specs.Edits.{edited_object}
use Rattle.binder_model.specs.Answers.{refuse, refuse_field, refuse_rule, guard_on, create, update, with_status, written_if_fits, update_status, edit, edit_to, list, outcome, reply_of, after}
use Rattle.binder_model.specs.Devices.{device_answer}
use Rattle.binder_model.specs.Imports.{imported_object, import_fault, fault_if, fault_of_field}
use Rattle.binder_model.specs.World.{effect, on_devices, reply_to, world_after, log_after}
use Rattle.binder_model.specs.BindWrites.{completed_with, taken_for, write_available, write_bound, write_completion, write_reference}
use Rattle.binder_model.specs.BinderLicence.{MayBind, MayComplete, MayTake}
use Rattle.binder_model.specs.Licence.{Licensed}
use Rattle.binder_model.specs.Run.{Run}
use Rattle.model_laws.specs.Worked.{no_setup}
use Rattle.safety_law.proofs.Invariant.Objects.{same_claim, same_volume}
use Rattle.size_law.specs.Law.Fitting.{Fits, GivesFitting}
use Rattle.size_law.specs.Law.Enough.{ImportsFit, WerePair, IsGivenByController, IsNamedByController}
use Rattle.size_law.specs.Law.Examples.{
  PairRunExamples,
  ImportedPairExamples,
  LostClaimExamples,
  KeptMarkExamples,
  EarlyMarkExamples,
  again_reserved,
  back_a,
  c,
  cleared_a,
  done,
  early_c,
  entry,
  lists_claim,
  lists_volume,
  lost_c,
  naming_a,
  new_c,
  old_a,
  old_c,
  old_pair,
  pair_binding,
  reserved_a,
  reserved_back,
  taken,
  told,
  v13,
}
use Rattle.size_law.proofs.Law.Examples.{by_hand_examples, fewer, giving_examples}
use Rattle.size_law.proofs.Law.Runs.{after_bind, after_take, l3, l4}

-- a pair that was bound by hand

abbrev x9 : ClaimData
x9 = naming_a (c 9)

p5 : Licensed seats.Binder (told seats.Binder reserved_a x9) (write_reference reserved_a x9)
unfolding taken_for
p5 = ((refl, (refl, tt)), inr (inl (refl, inl (record { version = refl; placed = refl; named = refl }, take))))
  where
    take : MayTake (told seats.Binder reserved_a x9) reserved_a (taken_for reserved_a x9)
    take = record { live = refl; told = inl (refl, inl (record { known = refl; free = (refl, refl); change = refl })) }

p6 : Licensed seats.Binder (after_take reserved_a x9) (write_bound (taken reserved_a x9 3 volumes.Pending))
unfolding taken_for
p6 = ((refl, (refl, (refl, tt))), (refl, inl (refl, inl (record { version = refl; placed = refl; named = refl }, bind))))
  where
    bind : MayBind (after_take reserved_a x9) (taken reserved_a x9 3 volumes.Pending)
    bind = record { live = refl; guarded = refl; uid = uid_of_serial 2; refers = refl; told = inr (inl (refl, inl (record { claim = refl; names = inr refl }))) }

p7 : Licensed seats.Binder (after_bind reserved_a x9) (write_completion (taken reserved_a x9 4 volumes.Bound) x9)
unfolding taken_for completed_with
p7 = ((refl, (refl, (refl, (refl, tt)))), inr (inr (inl (refl, inl (record { version = refl; placed = refl; named = refl }, complete)))))
  where
    complete : MayComplete (after_bind reserved_a x9) x9 (completed_with x9 (taken reserved_a x9 4 volumes.Bound))
    complete = inl (refl, inl (record { bound = refl; carries = refl; names = inr refl; change = refl }))

run_of_pair : Run no_setup pair_binding
unfolding effect on_devices device_answer outcome create update update_status list with_status written_if_fits refuse refuse_field refuse_rule
    guard_on guard breaks create_fault kind_fault volume_fault claim_fault update_fault changed_field faulty lacks_node admitted_object
    without_status created_object with_status_of updated_object at_version leaves with_meta reply_to world_after reply_of after log_after xor taken_for completed_with
run_of_pair = (((((((tt, refl, tt), refl, tt), refl, l3 reserved_a), refl, l4 reserved_a x9), refl, p5), refl, p6), refl, p7)

pair_of_9 : WerePair no_setup pair_binding (taken reserved_a x9 4 volumes.Bound) (done x9 reserved_a 5)
unfolding effect on_devices device_answer outcome create update update_status list with_status written_if_fits refuse refuse_field refuse_rule
    guard_on guard breaks create_fault kind_fault volume_fault claim_fault update_fault changed_field faulty lacks_node admitted_object
    without_status created_object with_status_of updated_object at_version leaves with_meta reply_to world_after reply_of after log_after xor taken_for completed_with
pair_of_9 = inl (inl (inl (inl (inl (inr (record {
  volume = reserved_a;
  volume_there = refl;
  same_volume = refl;
  claim = x9;
  claim_there = refl;
  same_claim = refl;
  pair = by_hand_examples.pair;
}))))))

not_given : IsGivenByController no_setup pair_binding (taken reserved_a x9 4 volumes.Bound) → ⊥
unfolding taken_for
not_given d = true≢false (sym d.marked)

not_named : IsNamedByController no_setup (done x9 reserved_a 5) → ⊥
unfolding completed_with
not_named d = true≢false (sym d.marked)

pub pair_run_examples : PairRunExamples
unfolding effect on_devices device_answer outcome create update update_status list with_status written_if_fits refuse refuse_field refuse_rule
    guard_on guard breaks create_fault kind_fault volume_fault claim_fault update_fault changed_field faulty lacks_node admitted_object
    without_status created_object with_status_of updated_object at_version leaves with_meta reply_to world_after reply_of after log_after xor taken_for completed_with
pair_run_examples = record {
  run = run_of_pair;
  fitting = (((((((tt, tt), tt), tt), tt), giving_examples.pair), tt), tt);
  counts = record { completed = refl; found = λ lost. absurd (true≢false (sym lost)) };
  were_pair = pair_of_9;
  gets_enough = record {
    volume = taken reserved_a x9 4 volumes.Bound;
    there = refl;
    enough = inr pair_of_9;
    decided = λ d. elim d [ inl given ↦ absurd (not_given given) | inr named ↦ absurd (not_named named) ];
  };
  too_little = λ f. fewer (taken reserved_a x9 4 volumes.Bound) (done x9 reserved_a 5) refl f;
  not_given_by_controller = not_given;
  not_named_by_controller = not_named;
}

-- imports

abbrev is_a_volume : Object → Bool
is_a_volume (Volume v) = true
is_a_volume o = false

import_fits : ImportsFit (old_pair 3) (Some (uid_of_serial 2))
import_fits v x in_v in_x refers its = elim in_v [
  | inl is_v ↦ elim in_x [
    | inl no_claim ↦ absurd (true≢false (ap is_a_volume no_claim))
    | inr more ↦ elim more [
      | inl is_x ↦ subst (λ (y : ClaimData). Fits v y) (same_claim (old_c 3) x is_x)
          (subst (λ (w : VolumeData). Fits w (old_c 3)) (same_volume old_a v is_v) (record { bytes = omega arith; mode = refl }))
      | inr none ↦ absurd none
    ]
  ]
  | inr more ↦ elim more [ inl no_volume ↦ absurd (true≢false (sym (ap is_a_volume no_volume))) | inr none ↦ absurd none ]
]

pub imported_pair_examples : ImportedPairExamples
unfolding imported_object import_fault fault_if fault_of_field create_fault kind_fault volume_fault claim_fault faulty
imported_pair_examples = record {
  imports_fit = import_fits;
  imports_do_not_fit = λ f. fewer old_a (old_c 9) refl (f old_a (old_c 9) (inl refl) (inr (inl refl)) refl refl);
  imports_pass = (refl, (refl, tt));
  counts = record { completed = refl; found = λ lost. absurd (true≢false (sym lost)) };
  not_lost = refl;
  too_little = fewer old_a (old_c 9) refl;
}

-- a claim that was imported as Lost

abbrev told_back : List Entry
told_back = lists_claim seats.Binder lost_c 3 ∷ lists_volume seats.Binder back_a 3 ∷ []

abbrev after_back : List Entry
after_back = entry 5 seats.Binder (write_reference back_a lost_c) (replies.Done (Volume (taken back_a lost_c 4 volumes.Pending))) ∷ told_back

b4 : Licensed seats.Binder told_back (write_reference back_a lost_c)
unfolding taken_for
b4 = ((refl, (refl, tt)), inr (inl (refl, inl (record { version = refl; placed = refl; named = refl }, take))))
  where
    take : MayTake told_back back_a (taken_for back_a lost_c)
    take = record { live = refl; told = inl (refl, inl (record { known = refl; free = tt; change = refl })) }

b5 : Licensed seats.Binder after_back (write_bound (taken back_a lost_c 4 volumes.Pending))
unfolding taken_for
b5 = ((refl, (refl, (refl, tt))), (refl, inl (refl, inl (record { version = refl; placed = refl; named = refl }, bind))))
  where
    bind : MayBind after_back (taken back_a lost_c 4 volumes.Pending)
    bind = record { live = refl; guarded = refl; uid = uid_of_serial 2; refers = refl; told = inr (inl (refl, inl (record { claim = refl; names = inr refl }))) }

gives_back : GivesFitting seats.Binder told_back (write_reference back_a lost_c)
unfolding taken_for
gives_back = inr (inl (
  refl,
  inl
      (record { version = refl; placed = refl; named = refl }, inl (refl, inl (record { change = refl; suits = inr (inr (record { free = refl; named = refl; completed = refl })) }))),
))

pub lost_claim_examples : LostClaimExamples
unfolding effect on_devices device_answer outcome create update update_status list with_status written_if_fits refuse refuse_field refuse_rule
    guard_on guard breaks create_fault kind_fault volume_fault claim_fault update_fault changed_field faulty lacks_node admitted_object
    without_status created_object with_status_of updated_object at_version leaves with_meta reply_to world_after reply_of after log_after xor
    taken_for completed_with imported_object import_fault fault_if fault_of_field
lost_claim_examples = record {
  imports_pass = (refl, tt);
  run = (((((tt, refl, tt), refl, (tt, (refl, tt))), refl, ((refl, tt), (refl, tt))), refl, b4), refl, b5);
  fitting = (((((tt, tt), tt), tt), gives_back), tt);
  lost = refl;
  counts = record { completed = refl; found = λ lost. inl (record { volume = taken back_a lost_c 5 volumes.Bound; there = refl; carries = refl; bound = refl }) };
  marked = refl;
  too_little = λ f. fewer (taken back_a lost_c 5 volumes.Bound) lost_c refl f;
}

-- a mark that a user left on the volume

abbrev told_again : List Entry
told_again = lists_claim seats.Binder new_c 12 ∷ lists_volume seats.Binder (again_reserved 11 volumes.Released) 12 ∷ []

abbrev after_free : List Entry
after_free = entry 5 seats.Binder (write_available (again_reserved 11 volumes.Released)) (replies.Done (Volume v13)) ∷ told_again

abbrev after_take_again : List Entry
after_take_again = entry 5 seats.Binder (write_reference v13 new_c) (replies.Done (Volume (taken v13 new_c 14 volumes.Available))) ∷ after_free

abbrev after_bind_again : List Entry
after_bind_again = entry 5 seats.Binder (write_bound (taken v13 new_c 14 volumes.Available)) (replies.Done (Volume (taken v13 new_c 15 volumes.Bound))) ∷ after_take_again

k6 : Licensed seats.Binder told_again (write_available (again_reserved 11 volumes.Released))
k6 = ((refl, (refl, tt)), (refl, inr (inl (refl, inl (record { version = refl; placed = refl; named = refl }, record { free = refl })))))

k7 : Licensed seats.Binder after_free (write_reference v13 new_c)
unfolding taken_for
k7 = ((refl, (refl, (refl, tt))), inl (refl, inl (record { version = refl; placed = refl; named = refl }, take)))
  where
    take : MayTake after_free v13 (taken_for v13 new_c)
    take = record { live = refl; told = inr (inl (refl, inl (record { known = refl; free = (refl, refl); change = refl }))) }

k8 : Licensed seats.Binder after_take_again (write_bound (taken v13 new_c 14 volumes.Available))
unfolding taken_for
k8 = ((refl, (refl, (refl, (refl, tt)))), (refl, inl (refl, inl (record { version = refl; placed = refl; named = refl }, bind))))
  where
    bind : MayBind after_take_again (taken v13 new_c 14 volumes.Available)
    bind = record { live = refl; guarded = refl; uid = uid_of_serial 12; refers = refl; told = inr (inr (inl (refl, inl (record { claim = refl; names = inr refl })))) }

k9 : Licensed seats.Binder after_bind_again (write_completion (taken v13 new_c 15 volumes.Bound) new_c)
unfolding taken_for completed_with
k9 = ((refl, (refl, (refl, (refl, (refl, tt))))), inr (inr (inr (inl (refl, inl (record { version = refl; placed = refl; named = refl }, complete))))))
  where
    complete : MayComplete after_bind_again new_c (completed_with new_c (taken v13 new_c 15 volumes.Bound))
    complete = inl (refl, inl (record { bound = refl; carries = refl; names = inr refl; change = refl }))

gives_again : GivesFitting seats.Binder after_free (write_reference v13 new_c)
unfolding taken_for
gives_again = inl (
  refl,
  inl (
    record { version = refl; placed = refl; named = refl },
    inr (inl (
      refl,
      inl (record {
        change = refl;
        suits = inr (inl (record { reserved = record { reference = _; is = refl; names = refl; free = refl }; named = refl; undone = refl }));
      }),
    )),
  ),
)

pub kept_mark_examples : KeptMarkExamples
unfolding effect on_devices device_answer outcome create update update_status edit edit_to edited_object list with_status written_if_fits refuse
    refuse_field refuse_rule guard_on guard breaks create_fault kind_fault volume_fault claim_fault update_fault changed_field faulty lacks_node
    admitted_object without_status created_object with_status_of updated_object at_version leaves with_meta reply_to world_after reply_of after
    log_after xor taken_for completed_with imported_object import_fault fault_if fault_of_field
kept_mark_examples = record {
  imports_pass = (refl, tt);
  run = (((((((((tt, refl, tt), refl, tt), refl, tt), refl, (tt, (refl, tt))), refl, ((refl, tt), (refl, tt))), refl, k6), refl, k7), refl, k8), refl, k9);
  fitting = (((((((((tt, tt), tt), tt), tt), tt), tt), gives_again), tt), tt);
  counts = record { completed = refl; found = λ lost. absurd (true≢false (sym lost)) };
  marked = refl;
  not_given_by_controller = λ d. true≢false (sym (d.fresh (cleared_a 10 volumes.Released) (inl (inl (inl (inl (inl (inl (inl (inl (inr refl))))))))) refl refl));
  too_little = λ f. fewer (taken v13 new_c 15 volumes.Bound) (done new_c v13 16) refl f;
}

-- a claim that was marked before it was completed

abbrev told_early : List Entry
told_early = lists_claim seats.Binder early_c 3 ∷ lists_volume seats.Binder reserved_back 3 ∷ []

abbrev after_take_early : List Entry
after_take_early = entry 5 seats.Binder (write_reference reserved_back early_c) (replies.Done (Volume (taken reserved_back early_c 4 volumes.Pending))) ∷ told_early

abbrev after_bind_early : List Entry
after_bind_early = entry 5 seats.Binder (write_bound (taken reserved_back early_c 4 volumes.Pending)) (replies.Done (Volume (taken reserved_back early_c 5 volumes.Bound))) ∷ after_take_early

m4 : Licensed seats.Binder told_early (write_reference reserved_back early_c)
unfolding taken_for
m4 = ((refl, (refl, tt)), inr (inl (refl, inl (record { version = refl; placed = refl; named = refl }, take))))
  where
    take : MayTake told_early reserved_back (taken_for reserved_back early_c)
    take = record { live = refl; told = inl (refl, inl (record { known = refl; free = (refl, refl); change = refl })) }

m5 : Licensed seats.Binder after_take_early (write_bound (taken reserved_back early_c 4 volumes.Pending))
unfolding taken_for
m5 = ((refl, (refl, (refl, tt))), (refl, inl (refl, inl (record { version = refl; placed = refl; named = refl }, bind))))
  where
    bind : MayBind after_take_early (taken reserved_back early_c 4 volumes.Pending)
    bind = record { live = refl; guarded = refl; uid = uid_of_serial 2; refers = refl; told = inr (inl (refl, inl (record { claim = refl; names = inr refl }))) }

m6 : Licensed seats.Binder after_bind_early (write_completion (taken reserved_back early_c 5 volumes.Bound) early_c)
unfolding taken_for completed_with
m6 = ((refl, (refl, (refl, (refl, tt)))), inr (inr (inl (refl, inl (record { version = refl; placed = refl; named = refl }, complete)))))
  where
    complete : MayComplete after_bind_early early_c (completed_with early_c (taken reserved_back early_c 5 volumes.Bound))
    complete = inl (refl, inl (record { bound = refl; carries = refl; names = inr refl; change = refl }))

gives_early : GivesFitting seats.Binder told_early (write_reference reserved_back early_c)
unfolding taken_for
gives_early = inr (inl (
  refl,
  inl (
    record { version = refl; placed = refl; named = refl },
    inl (
      refl,
      inl (record {
        change = refl;
        suits = inr (inl (record { reserved = record { reference = _; is = refl; names = refl; free = refl }; named = refl; undone = refl }));
      }),
    ),
  ),
))

pub early_mark_examples : EarlyMarkExamples
unfolding effect on_devices device_answer outcome create update update_status list with_status written_if_fits refuse refuse_field refuse_rule
    guard_on guard breaks create_fault kind_fault volume_fault claim_fault update_fault changed_field faulty lacks_node admitted_object
    without_status created_object with_status_of updated_object at_version leaves with_meta reply_to world_after reply_of after log_after xor
    taken_for completed_with imported_object import_fault fault_if fault_of_field
early_mark_examples = record {
  imports_pass = (refl, tt);
  run = ((((((tt, refl, tt), refl, (tt, (refl, tt))), refl, ((refl, tt), (refl, tt))), refl, m4), refl, m5), refl, m6);
  fitting = ((((((tt, tt), tt), tt), gives_early), tt), tt);
  counts = record { completed = refl; found = λ lost. absurd (true≢false (sym lost)) };
  marked = refl;
  not_named_by_controller = λ d. true≢false (sym (d.fresh early_c (inl refl) refl refl));
  too_little = λ f. fewer (taken reserved_back early_c 5 volumes.Bound) (done early_c reserved_back 6) refl f;
}
