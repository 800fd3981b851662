-- Refusals, computed.
use Rattle.std.proofs.Common.{sym, refl, inl}
use Rattle.std.specs.Prelude.{Bool, true, false, [], ◌∷◌, Some, codes}
use Rattle.kube_parts.specs.declared.names.LicenceRule.{LicenceRule}
use Rattle.kube_parts.specs.declared.names.LicenceRule.TheVariants as rules
use Rattle.call_types.specs.declared.request.SeatKind.{SeatKind}
use Rattle.call_types.specs.declared.request.SeatKind.TheVariants as seats
use Rattle.binder_model.specs.At.{IsWrittenAt}
use Rattle.binder_model.specs.BindWrites.{write_available}
use Rattle.binder_model.specs.Licence.{AreOfKind, Licensed}
use Rattle.model_examples.specs.Samples.{seat_of, tells_volume, a}
use Rattle.model_examples.specs.Refusals.{TwoKindsExamples, told_classes, of_ops, NoRowExamples, told_a_c, RulesOfRows, RefusingRuleExamples}
use Rattle.model_examples.proofs.Tellings.{differ, sole, own_kind, told_volumes, told_claims}

abbrev is_binder : SeatKind → Bool
is_binder seats.Binder = true
is_binder kind = false

mixed : AreOfKind seats.Binder of_ops → ⊥
mixed all = differ is_binder (sym all.0) refl refl

pub two_kinds_examples : TwoKindsExamples
two_kinds_examples = record {
  own_kind_alone = (own_kind seats.Binder told_classes, (refl, tt));
  other_kind_is_refused = λ l. mixed l.0;
  other_kind_below_is_refused = λ l. mixed l.0.1;
  users_kind_is_refused = λ l. differ is_binder (sym l.0.0) refl refl;
  user_may_always = tt;
}

pub no_row_examples : NoRowExamples
no_row_examples = record {
  binder_creates_is_refused = λ l. l.1;
  binder_edits_is_refused = λ l. l.1;
  binder_deletes_is_refused = λ l. l.1;
  binder_sets_time_is_refused = λ l. l.1;
  binder_provisions_is_refused = λ l. l.1;
  binder_erases_is_refused = λ l. l.1;
  binder_takes_node_is_refused = λ l. l.1;
  binder_updates_node_is_refused = λ l. l.1;
  binder_writes_failed_is_refused = λ l. (sole (told_volumes (λ o. IsWrittenAt (Some 3) [] (codes "a") o.meta × ⊥) (seat_of seats.Binder told_a_c) l.1.1)).1;
  binder_writes_pending_is_refused = λ l. (sole (told_volumes (λ o. IsWrittenAt (Some 3) [] (codes "a") o.meta × ⊥) (seat_of seats.Binder told_a_c) l.1.1)).1;
  binder_writes_claim_pending_is_refused = λ l. (sole (told_claims (λ o. IsWrittenAt (Some 2) (codes "default") (codes "c") o.meta × ⊥) (seat_of seats.Binder told_a_c) l.1.1)).1;
  ops_writes_released_is_refused = λ l. (sole (told_volumes (λ o. IsWrittenAt (Some 3) [] (codes "a") o.meta × ⊥) (seat_of seats.Ops told_a_c) l.1.1)).1;
  ops_writes_available_is_refused = λ l. (sole (told_volumes (λ o. IsWrittenAt (Some 3) [] (codes "a") o.meta × ⊥) (seat_of seats.Ops told_a_c) l.1.1)).1;
  ops_writes_bound_is_refused = λ l. (sole (told_volumes (λ o. IsWrittenAt (Some 3) [] (codes "a") o.meta × ⊥) (seat_of seats.Ops told_a_c) l.1.1)).1;
  ops_writes_status_of_claim_is_refused = λ l. l.1;
  ops_updates_volume_is_refused = λ l. l.1;
  ops_creates_claim_is_refused = λ l. l.1;
  ops_binds_pod_is_refused = λ l. l.1;
  scheduler_writes_status_is_refused = λ l. l.1;
  scheduler_updates_pod_is_refused = λ l. l.1;
  scheduler_finishes_pod_is_refused = λ l. l.1;
  claim_protection_updates_volume_is_refused = λ l. l.1;
  claim_protection_deletes_is_refused = λ l. l.1;
  volume_protection_updates_claim_is_refused = λ l. l.1;
  volume_protection_writes_status_is_refused = λ l. l.1;
  agent_updates_claim_is_refused = λ l. l.1;
  agent_deletes_pod_is_refused = λ l. l.1;
  agent_erases_is_refused = λ l. l.1;
  agent_takes_any_node = (own_kind seats.Agent told_a_c, tt);
}

pub rules_of_rows : RulesOfRows
rules_of_rows = record {
  binder_reference = refl;
  binder_no_reference = refl;
  binder_completed_claim = refl;
  binder_other_claim = refl;
  binder_other_object = refl;
  binder_available = refl;
  binder_bound = refl;
  binder_released = refl;
  binder_failed = refl;
  binder_volume_status_of_claim = refl;
  binder_claim_bound = refl;
  binder_claim_lost = refl;
  binder_claim_pending = refl;
  binder_claim_status_of_volume = refl;
  binder_lists = refl;
  binder_watches = refl;
  binder_gets = refl;
  binder_creates = refl;
  ops_provisions = refl;
  ops_creates_volume = refl;
  ops_creates_claim = refl;
  ops_erases = refl;
  ops_fails = refl;
  ops_releases = refl;
  ops_fails_claim = refl;
  ops_deletes = refl;
  ops_deletes_without_uid = refl;
  ops_deletes_claim = refl;
  ops_clears = refl;
  ops_updates_volume = refl;
  ops_reads = refl;
  scheduler_reference = refl;
  scheduler_chooses = refl;
  scheduler_binds = refl;
  scheduler_binds_claim = refl;
  scheduler_status = refl;
  volume_guard_added = refl;
  volume_guard_dropped = refl;
  volume_guard_of_claim = refl;
  claim_guard_added = refl;
  claim_guard_dropped = refl;
  claim_guard_of_volume = refl;
  agent_mounts = refl;
  agent_mount = refl;
  agent_unmounts = refl;
  agent_finishes = refl;
  agent_finishes_claim = refl;
  agent_updates = refl;
}

abbrev is_kind_rule : LicenceRule → Bool
is_kind_rule rules.Kind = true
is_kind_rule rule = false

abbrev is_available_rule : LicenceRule → Bool
is_available_rule rules.Available = true
is_available_rule rule = false

pub refusing_rule_examples : RefusingRuleExamples
refusing_rule_examples = record {
  row_refuses = record { refused = λ l. l.1.1; mixed = λ two. absurd (two tt); row = λ one. refl };
  no_row_refuses = record { refused = λ l. l.1; mixed = λ two. refl; row = λ one. refl };
  kind_comes_first = record { refused = λ l. mixed l.0; mixed = λ two. refl; row = λ one. absurd (mixed one) };
  row_after_kind_is_no_answer = λ r. differ is_available_rule (r.mixed mixed) refl refl;
  other_row_is_no_answer = λ r. differ is_available_rule (sym (r.row tt)) refl refl;
  kind_of_a_row_is_no_answer = λ r. differ is_kind_rule (r.row tt) refl refl;
  allowed_is_refused_by_none = λ rule r. r.refused allowed;
}
  where
    allowed : Licensed seats.Binder (seat_of seats.Binder (tells_volume a ∷ [])) (write_available a)
    allowed = (own_kind seats.Binder (tells_volume a ∷ []), (refl, inl (refl, inl (record { version = refl; placed = refl; named = refl }, record { free = refl }))))
