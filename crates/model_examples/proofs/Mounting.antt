-- The row Mount, computed.
use Rattle.std.proofs.Common.{sym, refl, ap, subst, inl, inr, true≢false, ◌∙◌}
use Rattle.std.specs.Prelude.{ℕ, ◌≡◌, Bool, true, false, List, [], ◌∷◌, Option, Some, None, is_none, codes, bytes_eq}
use Rattle.kube_parts.specs.declared.uid.Uid.{Uid}
use Rattle.kube_parts.specs.declared.parts.Kind.TheVariants as kinds
use Rattle.kube_objects.specs.declared.objects.Claim.{Claim as ClaimData}
use Rattle.kube_objects.specs.declared.objects.Pod.{Pod as PodData}
use Rattle.kube_objects.specs.declared.objects.Volume.{Volume as VolumeData}
use Rattle.kube_objects.specs.declared.objects.Object.{Object}
use Rattle.kube_objects.specs.declared.objects.Object.TheVariants.{Volume, Claim}
use Rattle.kube_objects.specs.Keys.{meta_of}
use Rattle.kube_parts.specs.Uids.{uid_of_serial}
use Rattle.kube_objects.specs.Bindings.{is_uid, is_deleting, is_protected_claim, is_completed, carries}
use Rattle.call_types.specs.declared.entry.Entry.{Entry}
use Rattle.call_types.specs.declared.request.SeatKind.TheVariants as seats
use Rattle.call_types.specs.declared.reply.Reply.{Reply}
use Rattle.call_types.specs.declared.reply.Reply.TheVariants as replies
use Rattle.binder_model.specs.ObjectKeys.{volume_key}
use Rattle.binder_model.specs.BindWrites.{is_claim_bound}
use Rattle.binder_model.specs.AgentLicence.{MayMount, IsReadyPod, WasShownReady, IsReadReady, IsPodOn, last_get}
use Rattle.model_examples.specs.Samples.{
  Exchange,
  seat_of,
  lists,
  tells_pod,
  unheard,
  finds,
  finds_none,
  takes,
  node_1,
  node_2,
  a,
  key_a,
  key_c,
  uid_c,
  bound_a,
  bound_c,
  p,
  waiting_p,
  ending_p,
  uid_p,
  unguarded_c,
  uncompleted_c,
  lost_c,
  bound_for_other,
}
use Rattle.model_examples.specs.Mounting.{
  finished_other,
  read_again_unheard,
  reads,
  reads_claim,
  reads_volume,
  watches_p,
  watches_end,
  watches_next,
  MountOrderExamples,
  other_pod,
  elsewhere_pod,
  deleting_c,
  pending_c,
  next_c,
  pod_of_two,
  MountExamples,
}
use Rattle.model_examples.proofs.Tellings.{differ, neither, sole, own_kind, is_version}

abbrev mine : List Exchange → List Entry
mine xs = seat_of seats.Agent xs

abbrev two : Exchange → Exchange → List Entry
two x y = mine (x ∷ y ∷ [])

ready_c : IsReadReady (two reads_volume reads_claim) (codes "default") (codes "c") uid_c
ready_c = record { claim = bound_c; read = refl; same = refl; staying = refl; guarded = refl; completed = refl; bound = refl; volume = bound_a; volume_read = refl; carries = refl }

abbrev ReadyAfter : List Exchange → List Entry → List ℕ → List Uid → PodData → Type 0
ReadyAfter xs recent node uids q = IsReadyPod (mine xs) recent node uid_p uids q

-- where the node is taken, one list tells the pod, and then one claim and one volume are read
shown : (v : VolumeData) (x : ClaimData) (q : PodData) (uids : List Uid) → MayMount (mine (reads v x q)) node_1 1 uid_p uids
    → ReadyAfter (reads v x q) (two (finds key_a (Volume v)) (finds key_c (Claim x))) node_1 uids q
shown v x q uids row = by row.shown
  where
    by : WasShownReady (mine (reads v x q)) node_1 uid_p uids [] (mine (finds key_a (Volume v) ∷ finds key_c (Claim x) ∷ tells_pod q ∷ []))
        → ReadyAfter (reads v x q) (two (finds key_a (Volume v)) (finds key_c (Claim x))) node_1 uids q
    by (inl h) = absurd (sole h.1.1)
    by (inr (inl h)) = absurd (sole h.1.1)
    by (inr (inr (inl h))) = sole h.1.1
    by (inr (inr (inr h))) = absurd h

abbrev found_claim : ClaimData → Option Reply → ClaimData
found_claim x (Some (replies.Found (Claim y))) = y
found_claim x r = x

abbrev found_volume : VolumeData → Option Reply → VolumeData
found_volume v (Some (replies.Found (Volume u))) = u
found_volume v r = v

-- the claim that was read, and the volume
pub record Ready (x : ClaimData) (v : VolumeData) : Type 0 where
  pub same : x.meta.uid ≡ Some uid_c
  pub staying : is_deleting x.meta ≡ false
  pub guarded : is_protected_claim x ≡ true
  pub completed : is_completed x ≡ true
  pub bound : is_claim_bound x.phase ≡ true
  pub carries : carries v x ≡ true

ready_of : (v : VolumeData) (x : ClaimData) (r : IsReadReady (two (finds key_a (Volume v)) (finds key_c (Claim x))) (codes "default") (codes "c") uid_c) → x.volume_name ≡ codes "a" → Ready x v
ready_of v x r named =
    let e : x ≡ r.claim = ap (found_claim x) r.read in
    let at : last_get (volume_key r.claim.volume_name) (mine (finds key_a (Volume v) ∷ [])) ≡ Some (replies.Found (Volume r.volume)) = r.volume_read in
    let name : r.claim.volume_name ≡ codes "a" = ap (λ y. y.volume_name) (sym e) ∙ named in
    let f : v ≡ r.volume = ap (found_volume v) (subst (λ n. last_get (volume_key n) (mine (finds key_a (Volume v) ∷ [])) ≡ Some (replies.Found (Volume r.volume))) name at) in
    subst (λ y. Ready y v) (sym e) (subst (λ u. Ready r.claim u) (sym f)
    (record { same = r.same; staying = r.staying; guarded = r.guarded; completed = r.completed; bound = r.bound; carries = r.carries }))

ready : (v : VolumeData) (x : ClaimData) → x.volume_name ≡ codes "a" → MayMount (mine (reads v x p)) node_1 1 uid_p (uid_c ∷ []) → Ready x v
ready v x named row = ready_of v x (shown v x p (uid_c ∷ []) row).ready.0 named

abbrev deleting_in : Option Object → Bool
deleting_in None = false
deleting_in (Some o) = is_deleting (meta_of o)

abbrev uid_in : Option Object → Option Uid
uid_in None = None
uid_in (Some o) = (meta_of o).uid

abbrev is_refused : Option Reply → Bool
is_refused (Some (replies.Refused r)) = true
is_refused r = false

pub mount_examples : MountExamples
mount_examples = record {
  pod_of_other_uid_in_the_list_is_refused =
      λ l. neither (λ h. sole h.1.1) (neither (λ h. sole h.1.1)
      (neither (λ h. neither (λ r. differ (λ u. is_uid u (uid_of_serial 8)) r.on_node.same refl refl) (λ x. x) h.1.1)
      (neither (λ h. neither (λ t. true≢false (sym t.1)) (λ x. x) h.0) (λ h. h)))) l.1.shown;
  other_pod_is_refused = λ l. differ (λ u. is_uid u (uid_of_serial 8)) (shown bound_a bound_c other_pod (uid_c ∷ []) l.1).on_node.same refl refl;
  pod_on_other_node_is_refused = λ l. differ (λ n. bytes_eq n node_2) (shown bound_a bound_c elsewhere_pod (uid_c ∷ []) l.1).on_node.placed refl refl;
  waiting_pod_on_node_without_name_is_refused = λ l. neither (λ h. sole h.1.1) (neither (λ h. sole h.1.1) (neither (λ h. unscheduled (sole h.1.1)) (λ h. h))) l.1.shown;
  deleting_pod_is_refused = λ l. ends (shown bound_a bound_c ending_p (uid_c ∷ []) l.1);
  claim_of_other_uid_is_refused = λ l. differ (λ u. is_uid u (uid_of_serial 9)) (ready bound_for_other next_c refl l.1).same refl refl;
  deleting_claim_is_refused = λ l. true≢false (ready bound_a deleting_c refl l.1).staying;
  unprotected_claim_is_refused = λ l. true≢false (sym (ready bound_a unguarded_c refl l.1).guarded);
  claim_before_completion_is_refused = λ l. true≢false (sym (ready bound_a uncompleted_c refl l.1).completed);
  claim_in_phase_pending_is_refused = λ l. true≢false (sym (ready bound_a pending_c refl l.1).bound);
  claim_in_phase_lost_is_refused = λ l. true≢false (sym (ready bound_a lost_c refl l.1).bound);
  volume_of_other_uid_is_refused = λ l. true≢false (sym (ready bound_for_other bound_c refl l.1).carries);
  volume_without_reference_is_refused = λ l. true≢false (sym (ready a bound_c refl l.1).carries);
  second_claim_unread_is_refused = λ l. differ is_none (shown bound_a bound_c pod_of_two (uid_c ∷ uid_of_serial 3 ∷ []) l.1).ready.1.0.read refl refl;
  fewer_claims_is_refused = λ l. (shown bound_a bound_c p [] l.1).ready;
  more_claims_is_refused = λ l. (shown bound_a bound_c p (uid_c ∷ uid_c ∷ []) l.1).ready.1;
}
  where
    unscheduled : ReadyAfter (reads_volume ∷ reads_claim ∷ tells_pod waiting_p ∷ takes [] 1 ∷ []) (two reads_volume reads_claim) [] (uid_c ∷ []) waiting_p → ⊥
    unscheduled r = true≢false (sym r.on_node.scheduled)

    ends : ReadyAfter (reads bound_a bound_c ending_p) (two reads_volume reads_claim) node_1 (uid_c ∷ []) ending_p → ⊥
    ends r = true≢false (ap deleting_in r.newest ∙ r.staying)

pub mount_order_examples : MountOrderExamples
mount_order_examples = record {
  mounts = (own_kind seats.Agent (reads bound_a bound_c p), record { current = refl; shown = inr (inr (inl (inl (refl, refl), (refl, inl by_list)))); unfinished = refl });
  mounts_pod_told_by_watch = (
    own_kind seats.Agent (reads_volume ∷ reads_claim ∷ watches_p ∷ lists kinds.Pod [] 8 ∷ takes node_1 1 ∷ []),
    record
        { current = refl; shown = inr (inr (inl (inr (inl (refl, refl)), (refl, inl by_watch)))); unfinished = refl },
  );
  mounts_after_finish_of_other_pod = (own_kind seats.Agent finished_other, record { current = refl; shown = inr (inr (inl (inl (refl, refl), (refl, inl beside_other)))); unfinished = refl });
  mounts_where_a_second_read_was_not_answered =
      (own_kind seats.Agent read_again_unheard, record { current = refl; shown = inr (inr (inr (inl (inl (refl, refl), (refl, inl read_again))))); unfinished = refl });
  older_epoch_is_refused = λ l. differ (is_version 3) l.1.current refl refl;
  pods_never_listed_is_refused = λ l. neither (λ h. sole h.1.1) (neither (λ h. sole h.1.1) (neither (λ h. neither (λ t. true≢false (sym t.1)) (λ x. x) h.0) (λ h. h))) l.1.shown;
  pods_listed_in_a_namespace_is_refused =
      λ l. neither (λ h. sole h.1.1) (neither (λ h. sole h.1.1)
      (neither (λ h. neither (λ t. true≢false (sym t.1)) (neither (λ t. true≢false (sym t.1)) (λ x. x)) h.0) (neither (λ h. h.1.1) (λ h. h)))) l.1.shown;
  pods_listed_without_answer_is_refused =
      λ l. neither (λ h. sole h.1.1) (neither (λ h. sole h.1.1)
      (neither (λ h. neither (λ t. true≢false (sym t.1)) (neither (λ t. true≢false (sym t.0)) (λ x. x)) h.0) (neither (λ h. h.1.1) (λ h. h)))) l.1.shown;
  pods_listed_before_taken_is_refused = λ l. neither (λ h. sole h.1.1) (neither (λ h. sole h.1.1) (neither (λ h. neither (λ t. true≢false (sym t.1)) (λ x. x) h.0) (λ h. h))) l.1.shown;
  pods_listed_after_told_is_refused = λ l. neither (λ h. sole h.1.1) (neither (λ h. sole h.1.1)
      (neither (λ h. h.1.1) (neither (λ h. neither (λ t. true≢false (sym t.1)) (λ x. x) h.0) (λ h. h)))) l.1.shown;
  pod_told_before_taken_is_refused = λ l. neither (λ h. sole h.1.1) (neither (λ h. sole h.1.1) (λ h. h)) l.1.shown;
  claim_read_before_pod_told_is_refused =
      λ l. neither (λ h. neither (λ r. differ is_none r.ready.0.read refl refl) (λ x. x) h.1.1) (neither (λ h. sole h.1.1) (neither (λ h. sole h.1.1) (λ h. h))) l.1.shown;
  volume_read_before_claim_is_refused = λ l. neither (λ h. sole h.1.1) (neither (λ h. sole h.1.1)
      (neither (λ h. neither (λ r. differ is_none r.ready.0.volume_read refl refl) (λ x. x) h.1.1) (λ h. h))) l.1.shown;
  pod_told_deleting_since_is_refused = λ l. neither (λ h. neither (λ r. differ is_none r.ready.0.read refl refl) (λ x. x) h.1.1) (neither
      (λ h. sole h.1.1) (neither (λ h. sole h.1.1) (neither (λ h. ended (sole h.1.1)) (λ h. h)))) l.1.shown;
  pod_told_gone_since_is_refused = λ l. neither (λ h. h.1.1) (neither (λ h. sole h.1.1)
      (neither (λ h. sole h.1.1) (neither (λ h. neither (λ r. differ is_none r.newest refl refl) (λ x. x) h.1.1) (λ h. h)))) l.1.shown;
  other_pod_told_since_is_refused = λ l. neither (λ h. neither (λ r. differ is_none r.ready.0.read refl refl) (λ x. x) h.1.1) (neither
      (λ h. sole h.1.1) (neither (λ h. sole h.1.1) (neither (λ h. replaced (sole h.1.1)) (λ h. h)))) l.1.shown;
  finish_asked_is_refused = λ l. true≢false (sym l.1.unfinished);
  finish_asked_without_answer_is_refused = λ l. true≢false (sym l.1.unfinished);
  claim_read_without_answer_is_refused = λ l. neither (λ h. sole h.1.1) (neither (λ h. sole h.1.1)
      (neither (λ h. neither (λ r. differ is_none r.ready.0.read refl refl) (λ x. x) h.1.1) (λ h. h))) l.1.shown;
  volume_read_without_answer_is_refused =
      λ l. neither (λ h. sole h.1.1) (neither (λ h. sole h.1.1) (neither (λ h. neither (λ r. differ is_none r.ready.0.volume_read refl refl) (λ x. x) h.1.1) (λ h. h))) l.1.shown;
  claim_gone_in_a_later_read_is_refused =
      λ l. neither (λ h. h.1.1) (neither (λ h. sole h.1.1) (neither (λ h. sole h.1.1) (neither (λ h. neither (λ r. differ is_refused r.ready.0.read refl refl) (λ x. x) h.1.1) (λ h. h)))) l.1.shown;
  volume_gone_in_a_later_read_is_refused =
      λ l. neither (λ h. h.1.1) (neither (λ h. sole h.1.1) (neither (λ h. sole h.1.1) (neither (λ h. neither (λ r. volume_gone r.ready.0) (λ x. x) h.1.1) (λ h. h)))) l.1.shown;
  claim_read_again_since_is_refused = λ l. neither (λ h. sole h.1.1) (neither (λ h. sole h.1.1)
      (neither (λ h. sole h.1.1) (neither (λ h. neither (λ r. differ is_none r.ready.0.volume_read refl refl) (λ x. x) h.1.1) (λ h. h)))) l.1.shown;
}
  where
    on_node : IsPodOn uid_p node_1 p
    on_node = record { same = refl; placed = refl; scheduled = refl }

    by_list : ReadyAfter (reads bound_a bound_c p) (two reads_volume reads_claim) node_1 (uid_c ∷ []) p
    by_list = record { on_node = on_node; latest = p; newest = refl; same = refl; staying = refl; ready = (ready_c, tt) }

    ready_again : IsReadReady (mine (unheard reads_claim ∷ reads_volume ∷ reads_claim ∷ [])) (codes "default") (codes "c") uid_c
    ready_again = record { claim = bound_c; read = refl; same = refl; staying = refl; guarded = refl; completed = refl; bound = refl; volume = bound_a; volume_read = refl; carries = refl }

    read_again : ReadyAfter read_again_unheard (mine (unheard reads_claim ∷ reads_volume ∷ reads_claim ∷ [])) node_1 (uid_c ∷ []) p
    read_again = record { on_node = on_node; latest = p; newest = refl; same = refl; staying = refl; ready = (ready_again, tt) }

    beside_other : ReadyAfter finished_other (two reads_volume reads_claim) node_1 (uid_c ∷ []) p
    beside_other = record { on_node = on_node; latest = p; newest = refl; same = refl; staying = refl; ready = (ready_c, tt) }

    by_watch : ReadyAfter (reads_volume ∷ reads_claim ∷ watches_p ∷ lists kinds.Pod [] 8 ∷ takes node_1 1 ∷ []) (two reads_volume reads_claim) node_1 (uid_c ∷ []) p
    by_watch = record { on_node = on_node; latest = p; newest = refl; same = refl; staying = refl; ready = (ready_c, tt) }

    ended : ReadyAfter (watches_end ∷ reads bound_a bound_c p) (mine (watches_end ∷ reads_volume ∷ reads_claim ∷ [])) node_1 (uid_c ∷ []) p → ⊥
    ended r = true≢false (ap deleting_in r.newest ∙ r.staying)

    replaced : ReadyAfter (watches_next ∷ reads bound_a bound_c p) (mine (watches_next ∷ reads_volume ∷ reads_claim ∷ [])) node_1 (uid_c ∷ []) p → ⊥
    replaced r = differ (λ u. is_uid u (uid_of_serial 8)) (ap uid_in r.newest ∙ r.same) refl refl

    volume_gone : IsReadReady (mine (finds_none key_a ∷ reads_volume ∷ reads_claim ∷ [])) (codes "default") (codes "c") uid_c → ⊥
    volume_gone r =
        let e : bound_c ≡ r.claim = ap (found_claim bound_c) r.read in
        differ is_refused (subst (λ y. last_get (volume_key y.volume_name) (mine (finds_none key_a ∷ reads_volume ∷ [])) ≡ Some (replies.Found (Volume r.volume))) (sym e) r.volume_read) refl refl
