-- The examples of the provisioner and reclaimer as an actor compute.
use Rattle.std.proofs.Common.{◌≡◌, Bool, true, false, true≢false, Option, Some, None, refl, sym, ◌∙◌, ap, subst}
use Rattle.call_types.specs.declared.request.SeatKind.TheVariants as seats
use Rattle.kube_parts.specs.declared.parts.Kind.TheVariants as kinds
use Rattle.informer_cache.specs.All.{AllKnown}
use Rattle.reclaim_ops.specs.declared.erase.EraseStep.{EraseStep}
use Rattle.reclaim_ops.specs.declared.erase.EraseStep.TheVariants as erasing
use Rattle.reclaim_ops.specs.declared.provision.ProvisionStep.{ProvisionStep}
use Rattle.reclaim_ops.specs.declared.provision.ProvisionStep.TheVariants as providing
use Rattle.reclaim_ops.specs.Erasures.{erase_call, erase_moved}
use Rattle.reclaim_ops.specs.Provisions.{provision_call, provision_moved}
use Rattle.worker_core.specs.declared.role.Role.{Role}
use Rattle.worker_core.specs.declared.task.First.{First}
use Rattle.worker_core.specs.declared.task.First.TheVariants as firsts
use Rattle.worker_core.specs.declared.task.Task.{Task}
use Rattle.worker_core.specs.declared.task.Task.TheVariants as tasks
use Rattle.worker_core.specs.declared.task.Under.{Under}
use Rattle.worker_core.specs.declared.turn.Next.{Next}
use Rattle.worker_core.specs.declared.turn.Next.TheVariants as nexts
use Rattle.worker_core.specs.Memories.{Memory, no_memory}
use Rattle.worker_core.specs.Roles.{kinds_of}
use Rattle.worker_core.specs.States.{ActorState, read_of_kind, start_call}
use Rattle.worker_core.specs.Turns.{GivesRead, IsTurn, TurnBy, first_unlisted, passing, unlisted}
use Rattle.machine_examples.specs.Actor.OpsActors.{OpsDecisionExamples, OpsListExamples, OpsMoveExamples, knows, role_of}

-- what sets one decision apart from another

abbrev begins : First → Bool
begins (firsts.Begins task) = true
begins first = false

abbrev binds : First → Bool
binds (firsts.Begins (tasks.Binder machine)) = true
binds first = false

abbrev provides : ProvisionStep → Bool
provides (providing.Provisions labels) = true
provides step = false

abbrev reads_or_fails : EraseStep → Bool
reads_or_fails erasing.ReadsVolume = true
reads_or_fails erasing.WritesFailed = true
reads_or_fails step = false

abbrev is_asked : Task → Bool
is_asked (tasks.Provision op) = provides op.step
is_asked (tasks.Erase op) = reads_or_fails op.step
is_asked task = false

abbrev asks : First → Bool
asks (firsts.Begins task) = is_asked task
asks first = false

abbrev asks_under : Option Under → Bool
asks_under None = false
asks_under (Some u) = is_asked u.task

pub decisions : OpsDecisionExamples
decisions = record {
  claim_is_provisioned = refl;
  it_is_not_left = λ h. true≢false (sym (ap begins h));
  no_volume_is_made_before = λ h. true≢false (sym (ap asks h));
  deleting_claim_is_left = refl;
  claim_without_its_class_is_left = refl;
  claim_with_a_match_is_left = refl;
  delayed_claim_waits_for_its_node = refl;
  it_is_provisioned_on_its_node = refl;
  absent_node_is_taken_back = refl;
  ended_volume_is_read = refl;
  its_data_are_not_erased_unread = λ h. true≢false (sym (ap asks h));
  volume_to_be_kept_is_left = refl;
  bound_volume_is_left = refl;
  class_is_left = refl;
  absent_volume_is_left = refl;
  no_other_key_is_queued = λ h. true≢false (sym (ap begins h));
  it_binds_nothing = λ h. true≢false (ap binds h);
  binder_provisions_nothing = λ h. h;
  binder_reclaims_nothing = λ h. h;
}

pub moves : OpsMoveExamples
unfolding erase_call erase_moved provision_call provision_moved
moves = record {
  given_data_get_a_volume = refl;
  made_volume_is_the_end = refl;
  its_key_is_not_parked = refl;
  fault_is_the_end = refl;
  key_of_the_fault_is_parked = refl;
  exhausted_at_once_parks = refl;
  exhausted_node_is_taken_back = refl;
  its_key_is_not_parked_yet = refl;
  found_volume_has_its_data_erased = refl;
  volume_found_bound_is_left = refl;
  its_key_is_done = refl;
  erased_volume_is_deleted = refl;
  failed_erase_is_written = refl;
  it_deletes_nothing = λ h. true≢false (ap asks_under h);
  written_fault_is_the_end = refl;
  it_is_not_parked = refl;
}

-- a turn of ops that has these caches and nothing under way
turn_with : (s new : ActorState) (given : Next) (caches : AllKnown) → s.role ≡ role_of seats.Ops → s.memory ≡ no_memory → s.under ≡ None → s.caches ≡ caches → IsTurn s new given
    → TurnBy s new given false None None (first_unlisted caches (kinds_of seats.Ops)) (passing s)
turn_with s new given caches role is none known turn =
    subst (λ c. TurnBy s new given false None None (first_unlisted c (kinds_of seats.Ops)) (passing s)) known
    (subst (λ (r : Role). TurnBy s new given false None (start_call r no_memory) (first_unlisted s.caches (kinds_of r.kind)) (passing s)) role
    (subst (λ u. TurnBy s new given false u (start_call s.role no_memory) (unlisted s) (passing s)) none
    (subst (λ (m : Memory). TurnBy s new given m.stale s.under (start_call s.role m) (unlisted s) (passing s)) is turn)))

pub listings : OpsListExamples
listings = record {
  nodes_are_still_to_be_listed = refl;
  not_of_a_binder = refl;
  no_key_is_decided_before = λ s new given role is none known turn.
      (turn_with s new given (knows None) role is none known turn).call ∙ ap (λ c. nexts.Call (read_of_kind c kinds.Node)) known;
  then_each_kind_is_listed = refl;
}
