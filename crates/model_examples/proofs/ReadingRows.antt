-- Reads, computed.
use Rattle.std.proofs.Common.{sym, refl, ap, subst, inl, inr, true≢false, ◌∙◌}
use Rattle.std.specs.Prelude.{ℕ, ◌≡◌, ◌==◌, Bool, true, List, [], ◌∷◌, Option, Some, is_none, codes, bytes_eq, unwrap_or}
use Rattle.kube_objects.specs.declared.key.Key.{Key}
use Rattle.kube_parts.specs.declared.parts.Kind.TheVariants as kinds
use Rattle.kube_parts.specs.declared.uid.Uid.{Uid}
use Rattle.kube_objects.specs.declared.objects.Ref.{Ref}
use Rattle.kube_objects.specs.declared.objects.Volume.{Volume as VolumeData}
use Rattle.kube_objects.specs.declared.objects.Object.TheVariants.{Volume, Claim}
use Rattle.kube_objects.specs.Keys.{kind_index}
use Rattle.kube_objects.specs.Bindings.{is_uid, ref_uid, is_completed}
use Rattle.call_types.specs.declared.entry.Entry.{Entry}
use Rattle.call_types.specs.declared.request.SeatKind.TheVariants as seats
use Rattle.binder_model.specs.ObjectKeys.{volume_key, claim_key, pod_key}
use Rattle.binder_model.specs.OpsLicence.{IsToErase}
use Rattle.binder_model.specs.Told.{SomeOf, ToldPod, IsNewest, newest, object_of}
use Rattle.binder_model.specs.Reading.{AsksForClaim, AsksForVolume, AsksForEnded, NamesClaim, IsDeletingIn, LacksUid}
use Rattle.model_examples.specs.Samples.{
  Exchange,
  seat_of,
  unheard,
  lists,
  lists_in,
  tells_volume,
  tells_claim,
  tells_pod,
  tells_both,
  finds,
  takes,
  node_1,
  a,
  c,
  other_c,
  naming,
  key_a,
  key_c,
  uid_c,
  ref_c,
  taken_a,
  released_a,
  completed_c,
  bound_c,
  p,
  waiting_p,
  key_b,
  key_d,
  prebound_a,
  ended_a,
  still_bound_a,
  never_bound_a,
  deleting_a,
}
use Rattle.model_examples.specs.ReadingRows.{
  FollowsExamples,
  ListExamples,
  listed,
  watched,
  gone_from,
  leaving_c,
  WatchExamples,
  watched_classes,
  BinderGetExamples,
  released_later,
  OpsGetExamples,
  AgentGetExamples,
  elsewhere_p,
  OtherGetExamples,
}
use Rattle.model_examples.proofs.Tellings.{differ, neither, sole, own_kind, told_claims, told_pods, newest_volume, newest_claim, volumes_in, claims_in, pods_in, told_objects, has_version, name_of}
use Rattle.model_laws.proofs.NewestRows.{newest_volume as same_volume}

pub follows_examples : FollowsExamples
follows_examples = record {
  binder_lists_classes = (tt, (refl, tt));
  binder_never_lists_nodes = λ l. true≢false (sym l.1.0);
  binder_lists_volumes = (tt, (refl, tt));
  binder_lists_claims = (tt, (refl, tt));
  binder_never_lists_pods = λ l. true≢false (sym l.1.0);
  ops_lists_classes = (tt, (refl, tt));
  ops_lists_nodes = (tt, (refl, tt));
  ops_lists_volumes = (tt, (refl, tt));
  ops_lists_claims = (tt, (refl, tt));
  ops_never_lists_pods = λ l. true≢false (sym l.1.0);
  scheduler_lists_classes = (tt, (refl, tt));
  scheduler_lists_nodes = (tt, (refl, tt));
  scheduler_lists_volumes = (tt, (refl, tt));
  scheduler_lists_claims = (tt, (refl, tt));
  scheduler_lists_pods = (tt, (refl, tt));
  claim_protection_never_lists_classes = λ l. true≢false (sym l.1.0);
  claim_protection_never_lists_nodes = λ l. true≢false (sym l.1.0);
  claim_protection_never_lists_volumes = λ l. true≢false (sym l.1.0);
  claim_protection_lists_claims = (tt, (refl, tt));
  claim_protection_lists_pods = (tt, (refl, tt));
  volume_protection_never_lists_classes = λ l. true≢false (sym l.1.0);
  volume_protection_never_lists_nodes = λ l. true≢false (sym l.1.0);
  volume_protection_lists_volumes = (tt, (refl, tt));
  volume_protection_never_lists_claims = λ l. true≢false (sym l.1.0);
  volume_protection_never_lists_pods = λ l. true≢false (sym l.1.0);
  agent_never_lists_classes = λ l. true≢false (sym l.1.0);
  agent_never_lists_nodes = λ l. true≢false (sym l.1.0);
  agent_never_lists_volumes = λ l. true≢false (sym l.1.0);
  agent_never_lists_claims = λ l. true≢false (sym l.1.0);
  agent_lists_pods = (tt, (refl, tt));
}

pub list_examples : ListExamples
list_examples = record {
  lists_again_after_gone = (own_kind seats.Binder (gone_from kinds.PersistentVolume 3 ∷ listed 3 ∷ []), (refl, tt));
  lists_again_after_lost_answer = (own_kind seats.Binder (unheard (listed 3) ∷ []), (refl, tt));
  lists_another_kind = (own_kind seats.Binder (lists kinds.StorageClass [] 3 ∷ []), (refl, tt));
  lists_twice_is_refused = λ l. l.1.1;
  lists_beside_watch_is_refused = λ l. l.1.1;
  lists_after_gone_of_other_kind_is_refused = λ l. l.1.1;
  lists_after_gone_without_answer_is_refused = λ l. l.1.1;
  lists_pods_of_namespace = (own_kind seats.ClaimProtect (tells_claim leaving_c ∷ []), inl (refl, inl (record { placed = refl; deleting = refl })));
  lists_pods_of_namespace_again = (own_kind seats.ClaimProtect (lists_in (codes "default") [] 9 ∷ tells_claim leaving_c ∷ []), inr (inl (refl, inl (record { placed = refl; deleting = refl }))));
  lists_all_pods_after_those_of_namespace = (own_kind seats.ClaimProtect (lists_in (codes "default") [] 9 ∷ tells_claim leaving_c ∷ []), (refl, tt));
  namespace_of_no_claim_is_refused = λ l. l.1;
  namespace_of_staying_claim_is_refused = λ l. true≢false (sym (sole (told_claims (IsDeletingIn (codes "default")) (seat_of seats.ClaimProtect (tells_claim c ∷ [])) l.1)).deleting);
  other_namespace_is_refused = λ l. differ (λ n. bytes_eq n (codes "default")) (sole
      (told_claims (IsDeletingIn (codes "x")) (seat_of seats.ClaimProtect (tells_claim leaving_c ∷ [])) l.1)).placed refl refl;
  claims_of_namespace_is_refused = λ l. l.1;
  pods_of_namespace_by_scheduler_is_refused = λ l. l.1;
}

abbrev is_at : ℕ → Option ℕ → Bool
is_at n reached = unwrap_or reached 0 == n

pub watch_examples : WatchExamples
watch_examples = record {
  watches_from_list = (own_kind seats.Binder (listed 3 ∷ []), (refl, inl refl));
  watches_from_last_reached = (own_kind seats.Binder (watched 5 7 ∷ watched 3 5 ∷ listed 3 ∷ []), (refl, inr refl));
  watches_from_list_again = (own_kind seats.Binder (watched 5 7 ∷ watched 3 5 ∷ listed 3 ∷ []), (refl, inl refl));
  watches_unlisted_is_refused = λ l. l.1.1;
  watches_after_list_of_other_kind_is_refused = λ l. l.1.1;
  other_version_is_refused = λ l. neither (λ e. differ (λ n. n == 4) e refl refl) (λ e. differ is_none e refl refl) l.1.1;
  version_reached_before_is_refused = λ l. neither (λ e. differ (λ n. n == 5) e refl refl) (λ e. differ (is_at 7) e refl refl) l.1.1;
  version_of_older_list_is_refused = λ l. neither (λ e. differ (λ n. n == 3) e refl refl) (λ e. differ is_none e refl refl) l.1.1;
  version_reached_by_watch_of_other_kind_is_refused = λ l. neither (λ e. differ (λ n. n == 7) e refl refl) (λ e. differ is_none e refl refl) l.1.1;
  watches_from_list_beside_watch_of_other_kind = (own_kind seats.Binder (watched_classes 3 7 ∷ watched 3 5 ∷ lists kinds.StorageClass [] 3 ∷ listed 3 ∷ []), (refl, inr refl));
  version_in_lost_answer_is_refused = λ l. neither (λ e. differ (λ n. n == 5) e refl refl) (λ e. differ is_none e refl refl) l.1.1;
  version_after_gone_is_refused = λ l. l.1.1;
  kind_not_followed_is_refused = λ l. true≢false (sym l.1.0);
}

-- the binder

abbrev mine : List Exchange → List Entry
mine xs = seat_of seats.Binder xs

volumes_asked : (xs : List Exchange) (key : Key) (r : AsksForClaim (mine xs) key) → SomeOf (λ v. v ≡ r.volume) (volumes_in (told_objects (mine xs)))
volumes_asked xs key r = newest_volume (mine xs) (volume_key r.volume.meta.name) r.volume r.newest_volume

claims_asked : (xs : List Exchange) (key : Key) (r : AsksForVolume (mine xs) key) → SomeOf (λ x. x ≡ r.claim) (claims_in (told_objects (mine xs)))
claims_asked xs key r = newest_claim (mine xs) (claim_key r.claim.meta.namespace r.claim.meta.name) r.claim r.newest_claim

-- what is asked for a volume that was told
pub record Refers (told : List Entry) (key : Key) (v : VolumeData) : Type 0 where
  pub newest_volume : IsNewest told (volume_key v.meta.name) (Volume v)
  pub reference : Ref
  pub refers : v.claim_ref ≡ Some reference
  pub named : key ≡ claim_key reference.namespace reference.name
  pub uid : Uid
  pub known : reference.uid ≡ Some uid
  pub lacking : LacksUid (object_of (newest told key)) uid

refers_of : (told : List Entry) (key : Key) (r : AsksForClaim told key) (v : VolumeData) → v ≡ r.volume → Refers told key v
refers_of told key r v e = subst (λ v. Refers told key v) (sym e) (record
    { newest_volume = r.newest_volume; reference = r.reference; refers = r.refers; named = r.named; uid = r.uid; known = r.known; lacking = r.lacking })

-- one volume was told
refers : (xs : List Exchange) (key : Key) (v : VolumeData) → volumes_in (told_objects (mine xs)) ≡ v ∷ [] → AsksForClaim (mine xs) key → Refers (mine xs) key v
refers xs key v e r = refers_of (mine xs) key r v (sole (subst (λ vs. SomeOf (λ v. v ≡ r.volume) vs) e (volumes_asked xs key r)))

no_claim : (xs : List Exchange) (key : Key) → claims_in (told_objects (mine xs)) ≡ [] → AsksForVolume (mine xs) key → ⊥
no_claim xs key e r = subst (λ ys. SomeOf (λ x. x ≡ r.claim) ys) e (claims_asked xs key r)

no_volume : (xs : List Exchange) (key : Key) → volumes_in (told_objects (mine xs)) ≡ [] → AsksForClaim (mine xs) key → ⊥
no_volume xs key e r = subst (λ vs. SomeOf (λ v. v ≡ r.volume) vs) e (volumes_asked xs key r)

pub binder_get_examples : BinderGetExamples
binder_get_examples = record {
  reads_claim_that_is_unknown = (
    own_kind seats.Binder (tells_volume taken_a ∷ []),
    inl
        (record { volume = taken_a; newest_volume = refl; reference = ref_c; refers = refl; named = refl; uid = uid_c; known = refl; lacking = tt }),
  );
  reads_claim_known_with_other_uid = (
    own_kind seats.Binder (tells_both other_c taken_a),
    inl
        (record { volume = taken_a; newest_volume = refl; reference = ref_c; refers = refl; named = refl; uid = uid_c; known = refl; lacking = λ e. differ (λ u. is_uid u uid_c) (sym e) refl refl }),
  );
  claim_known_with_the_uid_is_refused = λ l. neither (λ r. known (refers (tells_both c taken_a) key_c taken_a refl r)) uncompleted l.1;
  claim_without_uid_in_reference_is_refused = λ l. neither (λ r. no_uid (refers (tells_volume prebound_a ∷ []) key_c prebound_a refl r)) (no_claim (tells_volume prebound_a ∷ []) key_c refl) l.1;
  claim_of_no_volume_is_refused = λ l. neither (λ r. differ is_none (refers (tells_volume a ∷ []) key_c a refl r).refers refl refl) (no_claim (tells_volume a ∷ []) key_c refl) l.1;
  other_claim_is_refused = λ l. neither (λ r. other_key (refers (tells_volume taken_a ∷ []) key_d taken_a refl r)) (no_claim (tells_volume taken_a ∷ []) key_d refl) l.1;
  older_telling_of_the_volume_is_refused = λ l. neither older_volume (no_claim (tells_volume released_later ∷ tells_volume taken_a ∷ []) key_c refl) l.1;
  reads_volume_of_completed_claim = (own_kind seats.Binder (tells_claim completed_c ∷ []), inr (record { claim = completed_c; newest_claim = refl; completed = refl; named = refl }));
  volume_before_completion_is_refused = λ l. neither (no_volume (tells_claim (naming (codes "a") c) ∷ []) key_a refl) early l.1;
  other_volume_is_refused = λ l. neither (no_volume (tells_claim completed_c ∷ []) key_b refl) other_volume l.1;
  older_telling_of_the_claim_is_refused = λ l. neither (no_volume (lists kinds.PersistentVolumeClaim [] 9 ∷ tells_claim completed_c ∷ []) key_a refl) older_claim l.1;
}
  where
    known : Refers (mine (tells_both c taken_a)) key_c taken_a → ⊥
    known r = r.lacking (ap ref_uid r.refers ∙ r.known)

    no_uid : Refers (mine (tells_volume prebound_a ∷ [])) key_c prebound_a → ⊥
    no_uid r = differ is_none (ap ref_uid r.refers ∙ r.known) refl refl

    other_key : Refers (mine (tells_volume taken_a ∷ [])) key_d taken_a → ⊥
    other_key r = differ (λ n. bytes_eq n (codes "d")) (ap (λ k. k.name) r.named ∙ sym (ap name_of r.refers)) refl refl

    uncompleted : AsksForVolume (mine (tells_both c taken_a)) key_c → ⊥
    uncompleted r = true≢false (sym (subst (λ x. is_completed x ≡ true) (sym (sole (claims_asked (tells_both c taken_a) key_c r))) r.completed))

    older_volume : AsksForClaim (mine (tells_volume released_later ∷ tells_volume taken_a ∷ [])) key_c → ⊥
    older_volume r =
        neither (λ e. differ is_none (refers_of (mine (tells_volume released_later ∷ tells_volume taken_a ∷ [])) key_c r released_later e).refers refl refl)
        (neither (λ e. differ (has_version 9) (refers_of (mine (tells_volume released_later ∷ tells_volume taken_a ∷ [])) key_c r taken_a e).newest_volume refl refl) (λ h. h))
        (volumes_asked (tells_volume released_later ∷ tells_volume taken_a ∷ []) key_c r)

    early : AsksForVolume (mine (tells_claim (naming (codes "a") c) ∷ [])) key_a → ⊥
    early r = true≢false (sym (subst (λ x. is_completed x ≡ true) (sym (sole (claims_asked (tells_claim (naming (codes "a") c) ∷ []) key_a r))) r.completed))

    other_volume : AsksForVolume (mine (tells_claim completed_c ∷ [])) key_b → ⊥
    other_volume r = differ (λ n. bytes_eq n (codes "b")) (ap (λ k. k.name) r.named ∙ sym (ap (λ x. x.volume_name) (sole (claims_asked (tells_claim completed_c ∷ []) key_b r)))) refl refl

    older_claim : AsksForVolume (mine (lists kinds.PersistentVolumeClaim [] 9 ∷ tells_claim completed_c ∷ [])) key_a → ⊥
    older_claim r =
        let e = sole (claims_asked (lists kinds.PersistentVolumeClaim [] 9 ∷ tells_claim completed_c ∷ []) key_a r) in
        differ is_none (subst (λ x. IsNewest (mine (lists kinds.PersistentVolumeClaim [] 9 ∷ tells_claim completed_c ∷ []))
        (claim_key x.meta.namespace x.meta.name) (Claim x)) (sym e) r.newest_claim) refl refl

-- ops

abbrev ops : List Exchange → List Entry
ops xs = seat_of seats.Ops xs

ended_of : (xs : List Exchange) (v : VolumeData) → IsNewest (ops xs) key_a (Volume v) → AsksForEnded (ops xs) key_a → IsToErase v
ended_of xs v newest r = subst (λ v. IsToErase v) (same_volume (ops xs) key_a r.volume v r.newest_volume newest) r.ended

pub ops_get_examples : OpsGetExamples
ops_get_examples = record {
  reads_ended_volume = (
    own_kind seats.Ops (tells_volume ended_a ∷ []),
    record
        { volume = ended_a; newest_volume = refl; ended = record { ended = refl; policy = refl; referring = refl; staying = refl } },
  );
  bound_volume_is_refused = λ l. true≢false (sym (ended_of (tells_volume still_bound_a ∷ []) still_bound_a refl l.1).ended);
  policy_retain_is_refused = λ l. true≢false (sym (ended_of (tells_volume released_a ∷ []) released_a refl l.1).policy);
  volume_without_uid_is_refused = λ l. true≢false (sym (ended_of (tells_volume never_bound_a ∷ []) never_bound_a refl l.1).referring);
  deleting_volume_is_refused = λ l. true≢false (ended_of (tells_volume deleting_a ∷ []) deleting_a refl l.1).staying;
  volume_never_told_is_refused = λ l. differ is_none l.1.newest_volume refl refl;
  volume_told_gone_is_refused = λ l. differ is_none l.1.newest_volume refl refl;
  other_volume_is_refused = λ l. differ is_none l.1.newest_volume refl refl;
}

-- the agent

abbrev agent : List Exchange → List Entry
agent xs = seat_of seats.Agent xs

pods_asked : (xs : List Exchange) (key : Key) → ToldPod (NamesClaim (agent xs) key) (agent xs) → SomeOf (NamesClaim (agent xs) key) (pods_in (told_objects (agent xs)))
pods_asked xs key h = told_pods (NamesClaim (agent xs) key) (agent xs) h

pub agent_get_examples : AgentGetExamples
agent_get_examples = record {
  reads_claim_of_pod = (own_kind seats.Agent (tells_pod p ∷ takes node_1 1 ∷ []), inl (inl (refl, inl (record { scheduled = refl; taken = refl; placed = refl; kind = refl; named = refl }))));
  reads_volume_of_claim = (own_kind seats.Agent (finds key_c (Claim bound_c) ∷ []), inr (inl (refl, refl)));
  pod_never_told_is_refused = λ l. neither (pods_asked (takes node_1 1 ∷ []) key_c) (neither (λ h. h.1) (λ h. h)) l.1;
  node_never_taken_is_refused = λ l. neither (λ h. true≢false (sym (sole (pods_asked (tells_pod p ∷ []) key_c h)).taken)) (neither (λ h. h.1) (λ h. h)) l.1;
  pod_on_other_node_is_refused = λ l. neither (λ h. true≢false (sym (sole (pods_asked (tells_pod elsewhere_p ∷ takes node_1 1 ∷ []) key_c h)).taken))
      (neither (λ h. h.1) (neither (λ h. h.1) (λ h. h))) l.1;
  claim_of_pod_on_no_node_is_refused = λ l. neither (λ h. true≢false
      (sym (sole (pods_asked (tells_pod waiting_p ∷ takes [] 1 ∷ []) key_c h)).scheduled)) (neither (λ h. h.1) (neither (λ h. h.1) (λ h. h))) l.1;
  claim_of_other_name_is_refused = λ l. neither (λ h. true≢false (sym (sole (pods_asked (tells_pod p ∷ takes node_1 1 ∷ []) key_d h)).named)) (neither (λ h. h.1) (neither (λ h. h.1) (λ h. h))) l.1;
  claim_of_other_namespace_is_refused = λ l. neither (λ h. differ (λ n. bytes_eq n (codes "x"))
      (sole (pods_asked (tells_pod p ∷ takes node_1 1 ∷ []) (claim_key (codes "x") (codes "c")) h)).placed refl refl) (neither (λ h. h.1) (neither (λ h. h.1) (λ h. h))) l.1;
  other_kind_is_refused = λ l. neither (λ h. differ (λ k. kind_index k == 4)
      (sole (pods_asked (tells_pod p ∷ takes node_1 1 ∷ []) (pod_key (codes "default") (codes "c")) h)).kind refl refl) (neither (λ h. h.1) (neither (λ h. h.1) (λ h. h))) l.1;
  other_volume_is_refused = λ l. neither (pods_asked (finds key_c (Claim bound_c) ∷ []) key_b) (neither (λ h. differ (λ k. bytes_eq k.name (codes "b")) h.1 refl refl) (λ h. h)) l.1;
  volume_of_listed_claim_is_refused = λ l. neither (pods_asked (tells_claim bound_c ∷ []) key_a) (neither (λ h. h.1) (λ h. h)) l.1;
  read_without_answer_is_refused = λ l. neither (pods_asked (unheard (finds key_c (Claim bound_c)) ∷ []) key_a) (neither (λ h. true≢false (sym h.0)) (λ h. h)) l.1;
}

pub other_get_examples : OtherGetExamples
other_get_examples = record { scheduler_is_refused = λ l. l.1; claim_protection_is_refused = λ l. l.1; volume_protection_is_refused = λ l. l.1 }
