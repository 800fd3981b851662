-- The scheduler's rows, computed.
use Rattle.std.proofs.Common.{sym, refl, ap, subst, inl, inr, true≢false, ◌∙◌}
use Rattle.std.specs.Prelude.{ℕ, ◌≡◌, Bool, true, false, not, List, [], ◌∷◌, Option, Some, None, is_none, codes, bytes_eq, unwrap_or}
use Rattle.plain_data.specs.Pairs.{value_at}
use Rattle.kube_parts.specs.declared.parts.Kind.TheVariants as kinds
use Rattle.kube_objects.specs.declared.objects.Claim.{Claim as ClaimData}
use Rattle.kube_objects.specs.declared.objects.Node.{Node as NodeData}
use Rattle.kube_objects.specs.declared.objects.Volume.{Volume as VolumeData}
use Rattle.kube_objects.specs.declared.objects.Object.{Object}
use Rattle.kube_objects.specs.declared.objects.Object.TheVariants.{Class, Node, Volume, Claim, Pod}
use Rattle.kube_objects.specs.Bindings.{selected_node, class_of_claim, is_empty, is_uid, is_completed}
use Rattle.label_rules.specs.Selectors.{admits}
use Rattle.kube_parts.specs.Uids.{uid_of_serial}
use Rattle.kube_parts.specs.declared.uid.Uid.{Uid}
use Rattle.kube_objects.specs.declared.objects.Pod.{Pod as PodData}
use Rattle.call_types.specs.declared.entry.Entry.{Entry}
use Rattle.call_types.specs.declared.request.SeatKind.TheVariants as seats
use Rattle.binder_model.specs.ObjectKeys.{node_key, class_key, volume_key}
use Rattle.binder_model.specs.At.{IsWrittenAt}
use Rattle.binder_model.specs.BindWrites.{taken_for, unbound_volume}
use Rattle.binder_model.specs.Told.{SomeOf, IsNewest, newest, object_of}
use Rattle.binder_model.specs.BinderLicence.{MayTake, IsTaken}
use Rattle.binder_model.specs.SchedulerLicence.{MaySelectNode, MayAssign, IsReadyOn, AreReadyOn}
use Rattle.binder_model.specs.Licence.{AtVolume, AtClaim}
use Rattle.model_examples.specs.Samples.{
  key_a,
  key_c,
  uid_p,
  node_1,
  bound_a,
  bound_c,
  p,
  waiting_p,
  tells_pod,
  volume_at,
  Exchange,
  seat_of,
  lists,
  tells_volume,
  tells_claim,
  tells_class,
  tells_node,
  tells_both,
  a,
  c,
  naming,
  taken_a,
  fast,
  late,
  n1,
  chosen_c,
  key_p,
  far_a,
  no_uid_c,
  tells_three,
}
use Rattle.model_examples.specs.SchedulerRows.{
  BindPodExamples,
  tells_four,
  told_ready,
  here_a,
  plain_pod,
  other_pod,
  pod_of_two,
  scheduled_pod,
  uncompleted_c,
  SchedulerClaimRefExamples,
  SelectNodeExamples,
  completed_plain,
  completed_on_node,
  later_fast,
  on_other_node,
}
use Rattle.model_examples.proofs.Tellings.{
  differ,
  neither,
  sole,
  own_kind,
  volume_row,
  claim_row,
  volumes_in,
  claims_in,
  classes_in,
  nodes_in,
  told_claims,
  told_objects,
  newest_class,
  newest_node,
  is_version,
  has_version,
}
use Rattle.model_laws.proofs.NewestRows.{newest_volume as same_volume}
use Rattle.model_laws.proofs.NewestRows.{newest_claim as same_claim}
use Rattle.model_laws.proofs.NewestRows.{newest_node as same_node}
use Rattle.model_laws.proofs.NewestRows.{newest_pod as same_pod}

abbrev mine : List Exchange → List Entry
mine xs = seat_of seats.Scheduler xs

-- ClaimRef

take_at : (xs : List Exchange) (new : VolumeData) (given : Option ℕ) → AtVolume (mine xs) new given (λ o. MayTake (mine xs) o new)
    → SomeOf (λ o. IsWrittenAt given new.meta.namespace new.meta.name o.meta × MayTake (mine xs) o new) (volumes_in (told_objects (mine xs)))
take_at xs new given h = volume_row (λ o. MayTake (mine xs) o new) (mine xs) new given h

taken : (xs : List Exchange) (o new : VolumeData) → MayTake (mine xs) o new → SomeOf (IsTaken o new) (claims_in (told_objects (mine xs)))
taken xs o new row = told_claims (IsTaken o new) (mine xs) row.told

pub scheduler_claim_ref_examples : SchedulerClaimRefExamples
unfolding taken_for unbound_volume
scheduler_claim_ref_examples = record {
  takes_free_volume = (own_kind seats.Scheduler (tells_both c a), inr (inl (refl, inl (record { version = refl; placed = refl; named = refl }, free))));
  takes_for_claim_without_uid_is_refused =
      λ l. true≢false (sym (sole (taken (tells_both no_uid_c a) a (taken_for a no_uid_c) (sole (take_at (tells_both no_uid_c a) (taken_for a no_uid_c) (Some 3) l.1)).1)).known);
  takes_for_claim_never_told_is_refused = λ l. taken (tells_volume a ∷ []) a (taken_for a c) (sole (take_at (tells_volume a ∷ []) (taken_for a c) (Some 3) l.1)).1;
  takes_at_other_version_is_refused = λ l. differ (is_version 2) (sole (take_at (tells_both c a) (taken_for a c) (Some 2) l.1)).0.version refl refl;
  unbinds_is_refused = λ l. differ (λ v. is_none v.claim_ref) (sole
      (taken (tells_both (naming (codes "b") c) taken_a) taken_a (unbound_volume taken_a)
      (sole (take_at (tells_both (naming (codes "b") c) taken_a) (unbound_volume taken_a) (Some 4) l.1)).1)).change refl refl;
}
  where
    free : MayTake (mine (tells_both c a)) a (taken_for a c)
    free = record { live = refl; told = inl (refl, inl (record { known = refl; free = tt; change = refl })) }

-- SelectedNode, as it is set

abbrev MayChoose : List Exchange → ClaimData → Option ℕ → Type 0
MayChoose xs new given = AtClaim (mine xs) new given (λ o. MaySelectNode (mine xs) o new)

choose_at : (xs : List Exchange) (new : ClaimData) (given : Option ℕ) → MayChoose xs new given
    → SomeOf (λ o. IsWrittenAt given new.meta.namespace new.meta.name o.meta × MaySelectNode (mine xs) o new) (claims_in (told_objects (mine xs)))
choose_at xs new given h = claim_row (λ o. MaySelectNode (mine xs) o new) (mine xs) new given h

classes : (xs : List Exchange) (o new : ClaimData) (row : MaySelectNode (mine xs) o new) → SomeOf (λ k. k ≡ row.class) (classes_in (told_objects (mine xs)))
classes xs o new row = newest_class (mine xs) (class_key (class_of_claim o)) row.class row.class_newest

nodes : (xs : List Exchange) (o new : ClaimData) (row : MaySelectNode (mine xs) o new) → SomeOf (λ n. n ≡ row.node) (nodes_in (told_objects (mine xs)))
nodes xs o new row = newest_node (mine xs) (node_key row.node.meta.name) row.node row.node_newest

abbrev node_in : ClaimData → Option (List ℕ)
node_in x = value_at selected_node x.meta.annotations

pub select_node_examples : SelectNodeExamples
select_node_examples = record {
  chooses_node = (own_kind seats.Scheduler (tells_three c late n1), inl (refl, inl (record { version = refl; placed = refl; named = refl }, first)));
  chooses_again = (own_kind seats.Scheduler (tells_three on_other_node late n1), inl (refl, inl (record { version = refl; placed = refl; named = refl }, again)));
  completed_claim_is_refused = λ l. true≢false (sole (choose_at (tells_three completed_plain late n1) completed_on_node (Some 2) l.1)).1.undone;
  class_never_told_is_refused = λ l. classes (tells_claim c ∷ tells_node n1 ∷ []) c chosen_c (sole (choose_at (tells_claim c ∷ tells_node n1 ∷ []) chosen_c (Some 2) l.1)).1;
  class_without_delay_is_refused = λ l. undelayed (sole (choose_at (tells_three c fast n1) chosen_c (Some 2) l.1)).1;
  older_telling_of_the_class_is_refused = λ l. older_class (sole (choose_at (tells_class later_fast ∷ tells_three c late n1) chosen_c (Some 2) l.1)).1;
  node_never_told_is_refused = λ l. nodes (tells_claim c ∷ tells_class late ∷ []) c chosen_c (sole (choose_at (tells_claim c ∷ tells_class late ∷ []) chosen_c (Some 2) l.1)).1;
  node_told_gone_is_refused = λ l. node_gone (sole (choose_at (lists kinds.Node [] 9 ∷ tells_three c late n1) chosen_c (Some 2) l.1)).1;
  other_node_is_refused = λ l. other_node (sole (choose_at (tells_three c late n1) on_other_node (Some 2) l.1)).1;
  names_a_volume_too_is_refused = λ l. differ (λ x. not (is_empty x.volume_name)) (sole (choose_at (tells_three c late n1) (naming (codes "a") chosen_c) (Some 2) l.1)).1.change refl refl;
  other_version_is_refused = λ l. differ (is_version 1) (sole (choose_at (tells_three c late n1) chosen_c (Some 1) l.1)).0.version refl refl;
}
  where
    first : MaySelectNode (mine (tells_three c late n1)) c chosen_c
    first = record { undone = refl; class = late; class_newest = refl; delayed = refl; node = n1; node_newest = refl; change = refl }

    again : MaySelectNode (mine (tells_three on_other_node late n1)) on_other_node chosen_c
    again = record { undone = refl; class = late; class_newest = refl; delayed = refl; node = n1; node_newest = refl; change = refl }

    undelayed : MaySelectNode (mine (tells_three c fast n1)) c chosen_c → ⊥
    undelayed row = true≢false (sym (subst (λ k. k.delayed ≡ true) (sym (sole (classes (tells_three c fast n1) c chosen_c row))) row.delayed))

    older_class : MaySelectNode (mine (tells_class later_fast ∷ tells_three c late n1)) c chosen_c → ⊥
    older_class row =
        neither (λ e. true≢false (sym (subst (λ k. k.delayed ≡ true) (sym e) row.delayed)))
        (neither (λ e. differ (has_version 9) (subst
        (λ k. IsNewest (mine (tells_class later_fast ∷ tells_three c late n1)) (class_key (class_of_claim c)) (Class k)) (sym e) row.class_newest) refl refl) (λ h. h))
        (classes (tells_class later_fast ∷ tells_three c late n1) c chosen_c row)

    node_gone : MaySelectNode (mine (lists kinds.Node [] 9 ∷ tells_three c late n1)) c chosen_c → ⊥
    node_gone row =
        let e = sole (nodes (lists kinds.Node [] 9 ∷ tells_three c late n1) c chosen_c row) in
        differ is_none (subst (λ n. IsNewest (mine (lists kinds.Node [] 9 ∷ tells_three c late n1)) (node_key n.meta.name) (Node n)) (sym e) row.node_newest) refl refl

    other_node : MaySelectNode (mine (tells_three c late n1)) c on_other_node → ⊥
    other_node row =
        let e = sole (nodes (tells_three c late n1) c on_other_node row) in
        let named : node_in on_other_node ≡ Some row.node.meta.name = ap node_in row.change in
        differ (λ o. bytes_eq (unwrap_or o []) (codes "n2")) (named ∙ ap (λ n. Some n.meta.name) (sym e)) refl refl

-- BindPod

-- the row, at the pod and the node that were told newest
pub record Assigned (told : List Entry) (uid : Uid) (q : PodData) (n : NodeData) : Type 0 where
  pub same : q.meta.uid ≡ Some uid
  pub unscheduled : q.node ≡ []
  pub ready : AreReadyOn told n q.meta.namespace q.claims

assigned : (told : List Entry) (row : MayAssign told key_p uid_p node_1) (q : PodData) (n : NodeData) → IsNewest told key_p (Pod q) → IsNewest told (node_key node_1) (Node n) → Assigned told uid_p q n
assigned told row q n newest_pod newest_node =
    let e : row.pod ≡ q = same_pod told key_p row.pod q row.newest newest_pod in
    let f : row.on ≡ n = same_node told (node_key node_1) row.on n row.node_newest newest_node in
    subst (λ q. Assigned told uid_p q n) e (subst (λ n. Assigned told uid_p row.pod n) f (record { same = row.same; unscheduled = row.unscheduled; ready = row.ready }))

-- the claim and the volume, told newest
pub record Admitted (x : ClaimData) (v : VolumeData) (n : NodeData) : Type 0 where
  pub completed : is_completed x ≡ true
  pub admitted : admits v.terms n.meta.labels ≡ true

admitted : (told : List Entry) (n : NodeData) (r : IsReadyOn told n (codes "default") (codes "c")) (x : ClaimData) (v : VolumeData)
    → IsNewest told key_c (Claim x) → x.volume_name ≡ codes "a" → IsNewest told key_a (Volume v) → Admitted x v n
admitted told n r x v newest_claim named newest_volume =
    let e : r.claim ≡ x = same_claim told key_c r.claim x r.newest newest_claim in
    let name : r.claim.volume_name ≡ codes "a" = ap (λ y. y.volume_name) e ∙ named in
    let f : r.volume ≡ v = same_volume told key_a r.volume v (subst (λ n. IsNewest told (volume_key n) (Volume r.volume)) name r.volume_newest) newest_volume in
    subst (λ x. Admitted x v n) e (subst (λ v. Admitted r.claim v n) f (record { completed = r.completed; admitted = r.admitted }))

-- where the claim was told newest, and its volume was not
unadmitted : (told : List Entry) (n : NodeData) (r : IsReadyOn told n (codes "default") (codes "c")) (x : ClaimData) → IsNewest told key_c (Claim x)
    → x.volume_name ≡ codes "a" → object_of (newest told key_a) ≡ None → ⊥
unadmitted told n r x newest_claim named none =
    let e : r.claim ≡ x = same_claim told key_c r.claim x r.newest newest_claim in
    let name : r.claim.volume_name ≡ codes "a" = ap (λ y. y.volume_name) e ∙ named in
    differ is_none (sym none ∙ subst (λ n. IsNewest told (volume_key n) (Volume r.volume)) name r.volume_newest) refl refl

-- where all four were told, and these are the newest
ready_on : (xs : List Exchange) (row : MayAssign (mine xs) key_p uid_p node_1) (x : ClaimData) (v : VolumeData)
    → IsNewest (mine xs) key_p (Pod waiting_p) → IsNewest (mine xs) (node_key node_1) (Node n1) → IsNewest (mine xs) key_c (Claim x)
    → x.volume_name ≡ codes "a" → IsNewest (mine xs) key_a (Volume v) → Admitted x v n1
ready_on xs row x v newest_pod newest_node newest_claim named newest_volume =
    admitted (mine xs) n1 (assigned (mine xs) row waiting_p n1 newest_pod newest_node).ready.0 x v newest_claim named newest_volume

abbrev is_a_claim : Option Object → Bool
is_a_claim (Some (Claim x)) = true
is_a_claim o = false

pub bind_pod_examples : BindPodExamples
bind_pod_examples = record {
  assigns = (
    own_kind seats.Scheduler told_ready,
    record {
      pod = waiting_p;
      newest = refl;
      same = refl;
      unscheduled = refl;
      on = n1;
      node_newest = refl;
      ready =
          (record { claim = bound_c; newest = refl; completed = refl; volume = bound_a; volume_newest = refl; admitted = refl }, tt);
    },
  );
  assigns_where_volume_admits = (
    own_kind seats.Scheduler (tells_four here_a bound_c n1 waiting_p),
    record {
      pod = waiting_p;
      newest = refl;
      same = refl;
      unscheduled = refl;
      on = n1;
      node_newest = refl;
      ready =
          (record { claim = bound_c; newest = refl; completed = refl; volume = here_a; volume_newest = refl; admitted = refl }, tt);
    },
  );
  assigns_pod_without_claims = (
    own_kind seats.Scheduler (tells_node n1 ∷ tells_pod plain_pod ∷ []),
    record
        { pod = plain_pod; newest = refl; same = refl; unscheduled = refl; on = n1; node_newest = refl; ready = tt },
  );
  other_uid_is_refused = λ l. differ (λ u. is_uid u (uid_of_serial 8)) (assigned (mine (tells_four bound_a bound_c n1 other_pod)) l.1 other_pod n1 refl refl).same refl refl;
  scheduled_pod_is_refused = λ l. differ is_empty (sym (assigned (mine (tells_four bound_a bound_c n1 p)) l.1 p n1 refl refl).unscheduled) refl refl;
  older_telling_of_the_pod_is_refused = λ l. differ is_empty (sym (assigned (mine (tells_pod scheduled_pod ∷ told_ready)) l.1 scheduled_pod n1 refl refl).unscheduled) refl refl;
  pod_never_told_is_refused = λ l. differ is_none l.1.newest refl refl;
  pod_told_gone_is_refused = λ l. differ is_none l.1.newest refl refl;
  key_of_other_kind_is_refused = λ l. differ is_a_claim l.1.newest refl refl;
  node_never_told_is_refused = λ l. differ is_none l.1.node_newest refl refl;
  node_told_gone_is_refused = λ l. differ is_none l.1.node_newest refl refl;
  claim_never_told_is_refused = λ l. differ is_none (assigned (mine (tells_volume bound_a ∷ tells_node n1 ∷ tells_pod waiting_p ∷ [])) l.1 waiting_p n1 refl refl).ready.0.newest refl refl;
  claim_before_completion_is_refused = λ l. true≢false (sym (ready_on (tells_four bound_a (naming (codes "a") c) n1 waiting_p) l.1 (naming (codes "a") c) bound_a refl refl refl refl refl).completed);
  older_telling_of_the_claim_is_refused = λ l. true≢false (sym (ready_on (tells_claim uncompleted_c ∷ told_ready) l.1 uncompleted_c bound_a refl refl refl refl refl).completed);
  second_claim_never_told_is_refused = λ l. differ is_none (assigned (mine (tells_four bound_a bound_c n1 pod_of_two)) l.1 pod_of_two n1 refl refl).ready.1.0.newest refl refl;
  volume_never_told_is_refused = λ l. unadmitted (mine (tells_claim bound_c ∷ tells_node n1 ∷ tells_pod waiting_p ∷ [])) n1 (assigned
      (mine (tells_claim bound_c ∷ tells_node n1 ∷ tells_pod waiting_p ∷ [])) l.1 waiting_p n1 refl refl).ready.0 bound_c refl refl refl;
  volume_told_gone_is_refused = λ l. unadmitted (mine (lists kinds.PersistentVolume [] 10 ∷ told_ready)) n1 (assigned
      (mine (lists kinds.PersistentVolume [] 10 ∷ told_ready)) l.1 waiting_p n1 refl refl).ready.0 bound_c refl refl refl;
  volume_far_from_the_node_is_refused = λ l. true≢false (sym (ready_on (tells_four far_a bound_c n1 waiting_p) l.1 bound_c far_a refl refl refl refl refl).admitted);
  older_telling_of_the_volume_is_refused = λ l. true≢false (sym (ready_on (tells_volume (volume_at 9 far_a) ∷ told_ready) l.1 bound_c (volume_at 9 far_a) refl refl refl refl refl).admitted);
}
