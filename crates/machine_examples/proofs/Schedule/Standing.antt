-- What a seat must have been told, and what is due, computed.
use Rattle.std.proofs.Common.{◌⊎◌, Bool, true, false, true≢false, Option, Some, inl, inr, refl, sym, ap}
use Rattle.kube_parts.specs.declared.names.Due.{Due}
use Rattle.kube_parts.specs.declared.names.Due.TheVariants as dues
use Rattle.binder_model.specs.BindWrites.{taken_for}
use Rattle.std.specs.Prelude.{codes}
use Rattle.model_laws.proofs.Lists.{none_some}
use Rattle.pod_scheduler.specs.Schedules.{schedule_call}
use Rattle.machine_examples.specs.Delayed.Scenes.{c, carrying, completed, e, late, n1, pod}
use Rattle.machine_examples.specs.Schedule.Evidences.{DueExamples, EvidenceExamples}

none_of_two : ⊥ ⊎ ⊥ → ⊥
none_of_two h = elim h [ inl x ↦ x | inr x ↦ x ]

abbrev is_assign : Option Due → Bool
is_assign (Some dues.Assign) = true
is_assign action = false

pub evidence_examples : EvidenceExamples
unfolding taken_for
evidence_examples = record {
  told_volume_may_be_taken = (
    inr
        (inl (refl, inl (record { version = refl; placed = refl; named = refl }, record { live = refl; told = inl (refl, inl (record { known = refl; free = tt; change = refl })) }))),
    tt,
  );
  untold_volume_may_not = λ h. elim h.0 [ inl here ↦ none_of_two here.1 | inr more ↦ more ];
  untold_claim_takes_none = λ h. elim h.0 [
    | inl here ↦ elim here.1 [ inl at ↦ elim at.1.told [ inl told ↦ none_of_two told.1 | inr more ↦ more ] | inr more ↦ more ]
    | inr more ↦ more
  ];
  both_may_be_written = (
    inr (inr (inr (inr (inl (
      refl,
      inl
          (record { version = refl; placed = refl; named = refl }, record { live = refl; told = inr (inr (inr (inl (refl, inl (record { known = refl; free = tt; change = refl }))))) }),
    ))))),
    (
      inr (inr (inl (
        refl,
        inl (
          record { version = refl; placed = refl; named = refl },
          record
              { undone = refl; class = late; class_newest = refl; delayed = refl; node = n1; node_newest = refl; change = refl },
        ),
      ))),
      tt,
    ),
  );
  second_may_be_written_then = (
    inr
        (inr (inl (
          refl,
          inl (
            record { version = refl; placed = refl; named = refl },
            record
                { undone = refl; class = late; class_newest = refl; delayed = refl; node = n1; node_newest = refl; change = refl },
          ),
        ))),
    tt,
  );
  untold_class_selects_none = λ h. elim h.0 [
    | inl here ↦ none_of_two here.1
    | inr more ↦ elim more [
      | inl here ↦ elim here.1 [ inl at ↦ none_some at.1.class_newest | inr rest ↦ rest ]
      | inr rest ↦ rest
    ]
  ];
  pod_may_be_bound = (
    record {
      pod = pod;
      newest = refl;
      same = refl;
      unscheduled = refl;
      on = n1;
      node_newest = refl;
      ready =
          (record { claim = completed (codes "e") c; newest = refl; completed = refl; volume = carrying c e; volume_newest = refl; admitted = refl }, tt);
    },
    tt,
  );
  untold_pod_may_not = λ h. none_some h.0.newest;
  nothing_must_be_told_at_the_end = tt;
  nothing_must_be_told_when_parked = tt;
}

pub due_examples : DueExamples
unfolding schedule_call
due_examples = record {
  binding_is_due = refl;
  binding_is_not_due_as_preparing = λ e. true≢false (sym (ap is_assign e));
  nothing_is_due = refl;
  where_nothing_is_called_no_binding_is_due = λ e. none_some (sym e);
  preparing_is_not_due_as_binding = λ h. true≢false (ap (λ x. is_assign (Some x)) h.0);
  nothing_begins = refl;
  first_write_is_called = refl;
  uids_are_known = record { pod = refl; claims = refl };
  claim_without_a_uid_is_not = λ k. true≢false (sym k.claims);
}
