-- The agent's rows but for Mount, computed.
use Rattle.std.proofs.Common.{sym, refl, inl, inr, true≢false}
use Rattle.std.specs.Prelude.{◌==◌, List, [], ◌∷◌, is_none, bytes_eq}
use Rattle.kube_objects.specs.Keys.{kind_index}
use Rattle.kube_parts.specs.Uids.{uid_of_serial}
use Rattle.kube_objects.specs.Bindings.{is_uid}
use Rattle.call_types.specs.declared.entry.Entry.{Entry}
use Rattle.call_types.specs.declared.request.SeatKind.TheVariants as seats
use Rattle.binder_model.specs.Told.{SomeOf, ToldPod}
use Rattle.binder_model.specs.AgentLicence.{IsEndingPod}
use Rattle.model_examples.specs.Samples.{Exchange, seat_of, unheard, tells_pod, takes, node_1, node_2, p, ending_p, uid_p}
use Rattle.model_examples.specs.AgentRows.{
  mounts_other,
  MountsExamples,
  UnmountExamples,
  other_pod,
  elsewhere_pod,
  nowhere_pod,
  FinishPodExamples,
  row_of,
  mounted,
  unmounts_at,
  unmounted,
  mounts_it,
  told_ending,
}
use Rattle.model_examples.proofs.Tellings.{differ, sole, own_kind, told_pods, pods_in, told_objects, is_version}

abbrev mine : List Exchange → List Entry
mine xs = seat_of seats.Agent xs

pub mounts_examples : MountsExamples
mounts_examples = record {
  reads_mounts = (own_kind seats.Agent (takes node_1 1 ∷ []), refl);
  reads_mounts_by_last_epoch = (own_kind seats.Agent (takes node_1 3 ∷ takes node_1 1 ∷ []), refl);
  older_epoch_is_refused = λ l. differ (is_version 3) l.1 refl refl;
  node_never_taken_is_refused = λ l. differ is_none l.1 refl refl;
  other_node_is_refused = λ l. differ is_none l.1 refl refl;
  answer_lost_is_refused = λ l. differ is_none l.1 refl refl;
}

ending : (xs : List Exchange) → ToldPod (IsEndingPod uid_p node_1) (mine xs) → SomeOf (IsEndingPod uid_p node_1) (pods_in (told_objects (mine xs)))
ending xs h = told_pods (IsEndingPod uid_p node_1) (mine xs) h

told : IsEndingPod uid_p node_1 ending_p
told = record { same = refl; placed = refl; scheduled = refl; deleting = refl }

pub unmount_examples : UnmountExamples
unmount_examples = record {
  unmounts = (own_kind seats.Agent told_ending, record { current = refl; told = inl (refl, inl told) });
  other_epoch_is_refused = λ l. differ (is_version 3) l.1.current refl refl;
  pod_never_told_is_refused = λ l. ending (takes node_1 1 ∷ []) l.1.told;
  answer_lost_is_refused = λ l. ending (unheard (tells_pod ending_p) ∷ takes node_1 1 ∷ []) l.1.told;
  other_pod_is_refused = λ l. differ (λ u. is_uid u (uid_of_serial 8)) (sole (ending (tells_pod other_pod ∷ takes node_1 1 ∷ []) l.1.told)).same refl refl;
  pod_on_other_node_is_refused = λ l. differ (λ n. bytes_eq n node_2) (sole (ending (tells_pod elsewhere_pod ∷ takes node_1 1 ∷ []) l.1.told)).placed refl refl;
  pod_on_no_node_is_refused = λ l. true≢false (sym (sole (told_pods (IsEndingPod uid_p []) (mine (tells_pod nowhere_pod ∷ takes [] 1 ∷ [])) l.1.told)).scheduled);
  staying_pod_is_refused = λ l. true≢false (sym (sole (ending (tells_pod p ∷ takes node_1 1 ∷ []) l.1.told)).deleting);
}

pub finish_pod_examples : FinishPodExamples
finish_pod_examples = record {
  finishes_after_unmount = (own_kind seats.Agent (unmounted ∷ told_ending), record { current = refl; kind = refl; told = inr (inl (refl, inl told)); unmounted = refl });
  finishes_after_mounts = (own_kind seats.Agent (mounted node_1 1 [] ∷ told_ending), record { current = refl; kind = refl; told = inr (inl (refl, inl told)); unmounted = refl });
  finishes_beside_other_pod = (
    own_kind seats.Agent (mounted node_1 1 (row_of (uid_of_serial 8) ∷ []) ∷ told_ending),
    record
        { current = refl; kind = refl; told = inr (inl (refl, inl told)); unmounted = refl },
  );
  finishes_after_a_mount_before = (own_kind seats.Agent (unmounted ∷ mounts_it ∷ told_ending), record { current = refl; kind = refl; told = inr (inr (inl (refl, inl told))); unmounted = refl });
  finishes_by_uid_whatever_the_name = (own_kind seats.Agent (unmounted ∷ told_ending), record { current = refl; kind = refl; told = inr (inl (refl, inl told)); unmounted = refl });
  finishes_after_mount_of_other_pod = (own_kind seats.Agent (mounts_other ∷ told_ending), record { current = refl; kind = refl; told = inr (inl (refl, inl told)); unmounted = refl });
  finishes_before_mount_of_other_pod = (
    own_kind seats.Agent (unheard mounts_other ∷ unmounted ∷ told_ending),
    record
        { current = refl; kind = refl; told = inr (inr (inl (refl, inl told))); unmounted = refl },
  );
  older_epoch_is_refused = λ l. differ (is_version 3) l.1.current refl refl;
  key_of_other_kind_is_refused = λ l. differ (λ k. kind_index k == 3) l.1.kind refl refl;
  pod_never_told_is_refused = λ l. ending (unmounted ∷ takes node_1 1 ∷ []) l.1.told;
  other_pod_is_refused = λ l. differ (λ u. is_uid u (uid_of_serial 8)) (sole (ending (unmounted ∷ tells_pod other_pod ∷ takes node_1 1 ∷ []) l.1.told)).same refl refl;
  pod_on_other_node_is_refused = λ l. differ (λ n. bytes_eq n node_2) (sole (ending (unmounted ∷ tells_pod elsewhere_pod ∷ takes node_1 1 ∷ []) l.1.told)).placed refl refl;
  pod_on_no_node_is_refused = λ l. true≢false (sym (sole (told_pods (IsEndingPod uid_p []) (mine (unmounts_at [] 1 ∷ tells_pod nowhere_pod ∷ takes [] 1 ∷ [])) l.1.told)).scheduled);
  staying_pod_is_refused = λ l. true≢false (sym (sole (ending (unmounted ∷ tells_pod p ∷ takes node_1 1 ∷ []) l.1.told)).deleting);
  mounts_never_told_is_refused = λ l. true≢false (sym l.1.unmounted);
  still_mounted_is_refused = λ l. true≢false (sym l.1.unmounted);
  mounts_of_other_node_is_refused = λ l. true≢false (sym l.1.unmounted);
  mounts_of_other_epoch_is_refused = λ l. true≢false (sym l.1.unmounted);
  unmounted_on_other_node_is_refused = λ l. true≢false (sym l.1.unmounted);
  unmounted_in_other_epoch_is_refused = λ l. true≢false (sym l.1.unmounted);
  mount_of_other_pod_on_other_node_is_refused = λ l. true≢false (sym l.1.unmounted);
  mount_of_other_pod_in_other_epoch_is_refused = λ l. true≢false (sym l.1.unmounted);
  mounts_before_taken_is_refused = λ l. true≢false (sym l.1.unmounted);
  answer_lost_is_refused = λ l. true≢false (sym l.1.unmounted);
  refusal_is_refused = λ l. true≢false (sym l.1.unmounted);
  mount_asked_since_is_refused = λ l. true≢false (sym l.1.unmounted);
  mount_asked_since_without_answer_is_refused = λ l. true≢false (sym l.1.unmounted);
}
