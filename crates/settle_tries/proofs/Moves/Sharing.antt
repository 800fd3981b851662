-- A call of an actor keeps how claims are shared, and so do rounds.
use Rattle.std.proofs.Common.{◌≡◌, ◌∙◌, ◌⊎◌, ℕ, List, [], ◌∷◌, Bool, true, false, true≢false, Option, Some, None, inl, inr, refl, sym, ap, subst}
use Rattle.std.specs.Prelude.{is_none, is_some, not, ◌&&◌, unwrap_or}
use Rattle.plain_data.specs.Pairs.{value_at}
use Rattle.kube_objects.specs.declared.key.Key.{Key}
use Rattle.kube_parts.specs.declared.parts.Kind.{Kind}
use Rattle.kube_parts.specs.declared.parts.Kind.TheVariants as kinds
use Rattle.kube_objects.specs.declared.objects.Claim.{Claim as ClaimData}
use Rattle.kube_objects.specs.declared.objects.Class.{Class as ClassData}
use Rattle.kube_objects.specs.declared.objects.Meta.{Meta}
use Rattle.kube_objects.specs.declared.objects.Object.{Object}
use Rattle.kube_objects.specs.declared.objects.Object.TheVariants.{Class, Node, Volume, Claim, Pod}
use Rattle.kube_objects.specs.declared.objects.Pod.{Pod as PodData}
use Rattle.kube_objects.specs.declared.objects.Volume.{Volume as VolumeData}
use Rattle.kube_objects.specs.Bindings.{
  beta_class,
  bind_completed,
  bound_by_controller,
  class_of_claim,
  has_key,
  is_completed,
  is_empty,
  is_protected_claim,
  is_scheduled,
  lacks_class,
  selected_node,
  yes,
}
use Rattle.kube_objects.specs.Keys.{key_of, kind_of, put_row, row_at, without_row}
use Rattle.kube_objects.proofs.KeyOrder.{row_at-put_row, row_at-put_row_other, row_at-without_row, row_at-without_row_other, row_at_key}
use Rattle.kube_objects.proofs.SameKeys.{key_tells}
use Rattle.call_types.specs.declared.entry.Entry.{Entry}
use Rattle.call_types.specs.declared.reply.Reply.{Reply}
use Rattle.call_types.specs.declared.request.NewStatus.TheVariants as statuses
use Rattle.call_types.specs.declared.request.Request.{Request}
use Rattle.call_types.specs.declared.request.Request.TheVariants as requests
use Rattle.call_types.specs.declared.request.SeatKind.{SeatKind}
use Rattle.call_types.specs.declared.request.SeatKind.TheVariants as seats
use Rattle.call_types.specs.declared.setup.Setup.{Setup}
use Rattle.binder_model.specs.Answers.{with_status}
use Rattle.binder_model.specs.BinderLicence.{IsBoundFor}
use Rattle.binder_model.specs.BindWrites.{annotated_meta_if, completed_with}
use Rattle.binder_model.specs.Licence.{ClaimMay, Licensed, binder_claim, claim_guard}
use Rattle.binder_model.specs.ObjectKeys.{class_key, claim_key}
use Rattle.binder_model.specs.OpsLicence.{MayClearNode}
use Rattle.binder_model.specs.Promises.{IsRunOf}
use Rattle.binder_model.specs.SchedulerLicence.{MaySelectNode}
use Rattle.binder_model.specs.Store.{at_version, updated_object, with_meta, with_status_of}
use Rattle.binder_model.specs.Told.{IsVolumeWith, ToldObject, own}
use Rattle.binder_model.specs.World.{IsHistory, World, effect, world}
use Rattle.model_laws.proofs.Growing.{runs_are_histories}
use Rattle.model_laws.proofs.Histories.{rows_stand_in_order}
use Rattle.model_laws.proofs.Identity.{key-created, key-marked, key-updated}
use Rattle.model_laws.proofs.Lists.{none_some, one}
use Rattle.safety_law.specs.Invariant.Writes.{Writes}
use Rattle.safety_law.proofs.Invariant.Effects.{effect_form}
use Rattle.settle_measure.proofs.Left.Words.{annotated_beta, value_other, value_put, value_without}
use Rattle.worker_core.specs.declared.role.Role.{Role}
use Rattle.worker_core.specs.Absorbs.{woken}
use Rattle.worker_core.specs.Roles.{IsBuiltKind}
use Rattle.worker_core.specs.States.{ActorState}
use Rattle.actor_rounds.specs.declared.drainers.Drainer.{Drainer}
use Rattle.actor_rounds.specs.Drainers.{roles_of}
use Rattle.actor_rounds.specs.Rounds.{Ends, IsRound, Lets, Runs, Turns, told_entry}
use Rattle.actor_rounds.proofs.RoundFacts.{AreBuilt, roles_built, round_grows}
use Rattle.settle_writes.proofs.Writes.Valid.{rows_are_valid}
use Rattle.settle_writes.proofs.Done.Doing.{told_one, write_asked}
use Rattle.settle_progress.proofs.Epochs.Silent.{older_run}
use Rattle.settle_write_counts.proofs.Rounds.Nodes.{IsMoved}
use Rattle.settle_write_counts.proofs.Rounds.Runs.{IsCalled, run_moves}
use Rattle.settle_write_counts.proofs.Rounds.Slots.{ComesTo, Leaves, Wrote, comes_to}
use Rattle.settle_budget.specs.Drains.Measured.{SharesWell, WaitingPodNames, is_immediate}
use Rattle.settle_tries.specs.Tries.Sharing.{KeepsSharing, RoundsShareWell, StoodOpen, WaitedSo}
use Rattle.settle_tries.proofs.Moves.Moving.{Rewrites, rewrites}
use Rattle.settle_tries.proofs.Moves.Standing.{creates, makes}
use Rattle.settle_write_counts.proofs.Rounds.Made.{no_edit}
use Rattle.settle_writes.specs.Writes.Valid.{IsValid}
use Rattle.binder_model.specs.Fields.{create_fault, faulty, kind_fault}
use Rattle.binder_model.specs.Told.{SomeOf}
use Rattle.binder_model.specs.Choice.{claim_in}
use Rattle.kube_parts.specs.declared.names.Field.{Field}
use Rattle.kube_parts.specs.declared.names.Field.TheVariants as fields
use Rattle.call_types.specs.declared.request.NewStatus.{NewStatus}
use Rattle.kube_objects.specs.Keys.{AreRows}
use Rattle.std.proofs.Common.{◌+◌}
use Rattle.binder_model.specs.Fields.{is_subdomain}
use Rattle.binder_model.specs.Store.{State}
use Rattle.settle_alike.proofs.Near.Near.{claim_or, pod_or}

-- ---- what is written

-- over a pod, over a claim, or a volume
data Keeps (w : World) (o : Object) : Type 0 where
  OverPod : (old p : PodData) → row_at (key_of o) w.store.rows ≡ Some (Pod old) → o ≡ Pod p → is_scheduled old ≡ false
      ⊎ (is_scheduled p ≡ is_scheduled old) → old.meta.namespace ≡ p.meta.namespace → old.claims ≡ p.claims → Keeps w o
  OverClaim : (old c : ClaimData) → row_at (key_of o) w.store.rows ≡ Some (Claim old) → o ≡ Claim c
      → (is_completed old ≡ true → is_completed c ≡ true) → (class_of_claim old ≡ class_of_claim c) ⊎ (class_of_claim old ≡ []) → Keeps w o
  OfVolume : (key_of o).kind ≡ kinds.PersistentVolume → Keeps w o

abbrev is_kind_pod : Kind → Bool
is_kind_pod kinds.Pod = true
is_kind_pod kind = false

abbrev is_kind_claim : Kind → Bool
is_kind_claim kinds.PersistentVolumeClaim = true
is_kind_claim kind = false

abbrev is_kind_class : Kind → Bool
is_kind_class kinds.StorageClass = true
is_kind_class kind = false

-- what stands at its key then, if it stands
module _ (w : World) (o : Object) (keeps : Keeps w o) where
  pod_kept : (p : PodData) → o ≡ Pod p → is_scheduled p ≡ false → WaitedSo w (key_of o) p
  pod_kept p is waits = by keeps
    where
      by : Keeps w o → WaitedSo w (key_of o) p
      by (OverPod old q there same open_ namespace claims) =
          let q_is : q ≡ p = ap (pod_or p) (sym same ∙ is) in
          record {
            pod = old;
            there = there;
            waits = elim open_ [ inl none ↦ none | inr alike ↦ sym alike ∙ (ap is_scheduled q_is ∙ waits) ];
            namespace = namespace ∙ ap (λ (x : PodData). x.meta.namespace) q_is;
            claims = claims ∙ ap (λ (x : PodData). x.claims) q_is;
          }
      by (OverClaim old c there same done class) = absurd (true≢false (sym (ap (λ x. is_kind_pod (kind_of x)) (sym same ∙ is))))
      by (OfVolume kind) = absurd (true≢false (sym (sym (ap is_kind_pod kind) ∙ ap (λ x. is_kind_pod (key_of x).kind) is)))

  claim_kept : (c : ClaimData) → o ≡ Claim c → StoodOpen w (key_of o) c
  claim_kept c is = by keeps
    where
      by : Keeps w o → StoodOpen w (key_of o) c
      by (OverClaim old d there same done class) =
          let d_is : d ≡ c = ap (claim_or c) (sym same ∙ is) in
          record {
            claim = old;
            there = there;
            completed = λ e. subst (λ x. is_completed x ≡ true) d_is (done e);
            class =
                subst (λ x. (class_of_claim old ≡ class_of_claim x) ⊎ (class_of_claim old ≡ [])) d_is class;
          }
      by (OverPod old q there same open_ namespace claims) = absurd (true≢false (sym (ap (λ x. is_kind_claim (kind_of x)) (sym same ∙ is))))
      by (OfVolume kind) = absurd (true≢false (sym (sym (ap is_kind_claim kind) ∙ ap (λ x. is_kind_claim (key_of x).kind) is)))

  -- it is over no class
  no_class : (x : ClassData) → row_at (key_of o) w.store.rows ≡ Some (Class x) → ⊥
  no_class x there = by keeps
    where
      is_class : Object → Bool
      is_class (Class y) = true
      is_class y = false

      by : Keeps w o → ⊥
      by (OverPod old q at same open_ namespace claims) = true≢false (ap is_class (one (Class x) (Pod old) (sym there ∙ at)))
      by (OverClaim old c at same done class) = true≢false (ap is_class (one (Class x) (Claim old) (sym there ∙ at)))
      by (OfVolume kind) = true≢false (ap (λ (k : Key). is_kind_class k.kind) (row_at_key (key_of o) (Class x) w.store.rows there) ∙ ap is_kind_class kind)

  moved_keeps : (order : AreRows w.store.rows) (new : World) → IsMoved w.store.rows new.store.rows o → KeepsSharing w new
  moved_keeps order new (inl put) = record {
    pods = λ key p there waits. elim (key_tells (key_of o) key) [
      | inl same ↦ subst (λ k. WaitedSo w k p) same
          (pod_kept p (one o (Pod p) (sym (row_at-put_row o w.store.rows) ∙ (ap (λ k. row_at k (put_row o w.store.rows)) same ∙ (ap (row_at key) (sym put) ∙ there)))) waits)
      | inr other ↦ record { pod = p; there = sym (row_at-put_row_other key o w.store.rows other) ∙ (ap (row_at key) (sym put) ∙ there); waits = waits; namespace = refl; claims = refl }
    ];
    claims = λ key c there. elim (key_tells (key_of o) key) [
      | inl same ↦ subst (λ k. StoodOpen w k c) same
          (claim_kept c (one o (Claim c) (sym (row_at-put_row o w.store.rows) ∙ (ap (λ k. row_at k (put_row o w.store.rows)) same ∙ (ap (row_at key) (sym put) ∙ there)))))
      | inr other ↦ record { claim = c; there = sym (row_at-put_row_other key o w.store.rows other) ∙ (ap (row_at key) (sym put) ∙ there); completed = λ e. e; class = inl refl }
    ];
    classes = λ key x there. elim (key_tells (key_of o) key) [
      | inl same ↦ absurd (no_class x (ap (λ k. row_at k w.store.rows) same ∙ there))
      | inr other ↦ record { class = x; there = ap (row_at key) put ∙ (row_at-put_row_other key o w.store.rows other ∙ there); delayed = refl }
    ];
  }
  moved_keeps order new (inr gone) = record {
    pods = λ key p there waits. elim (key_tells (key_of o) key) [
      | inl same ↦ none_some (sym (row_at-without_row (key_of o) w.store.rows order) ∙ (ap (λ k. row_at k (without_row (key_of o) w.store.rows)) same ∙ (ap (row_at key) (sym gone) ∙ there)))
      | inr other ↦ record { pod = p; there = sym (row_at-without_row_other (key_of o) key w.store.rows other) ∙ (ap (row_at key) (sym gone) ∙ there); waits = waits; namespace = refl; claims = refl }
    ];
    claims = λ key c there. elim (key_tells (key_of o) key) [
      | inl same ↦ none_some (sym (row_at-without_row (key_of o) w.store.rows order) ∙ (ap (λ k. row_at k (without_row (key_of o) w.store.rows)) same ∙ (ap (row_at key) (sym gone) ∙ there)))
      | inr other ↦ record { claim = c; there = sym (row_at-without_row_other (key_of o) key w.store.rows other) ∙ (ap (row_at key) (sym gone) ∙ there); completed = λ e. e; class = inl refl }
    ];
    classes = λ key x there. elim (key_tells (key_of o) key) [
      | inl same ↦ absurd (no_class x (ap (λ k. row_at k w.store.rows) same ∙ there))
      | inr other ↦ record { class = x; there = ap (row_at key) gone ∙ (row_at-without_row_other (key_of o) key w.store.rows other ∙ there); delayed = refl }
    ];
  }

-- ---- what a write leaves of a claim

record LeavesClaim (old new : ClaimData) : Type 0 where
  completed : is_completed old ≡ true → is_completed new ≡ true
  class : (class_of_claim old ≡ class_of_claim new) ⊎ (class_of_claim old ≡ [])

-- the same class, and it is completed if it was
same_words : (old new : ClaimData) → value_at bind_completed new.meta.annotations ≡ value_at bind_completed old.meta.annotations
    → value_at beta_class new.meta.annotations ≡ value_at beta_class old.meta.annotations → new.class ≡ old.class → LeavesClaim old new
same_words old new completed beta class = record { completed = λ e. ap is_some completed ∙ e; class = inl (λ i. unwrap_or (sym beta i) (unwrap_or (sym class i) [])) }

completed_beta : (c : ClaimData) (v : VolumeData) → value_at beta_class (completed_with c v).meta.annotations ≡ value_at beta_class c.meta.annotations
unfolding completed_with
completed_beta c v = value_other beta_class bind_completed yes (annotated_meta_if (is_empty c.volume_name) bound_by_controller c.meta).annotations refl ∙ annotated_beta (is_empty c.volume_name) c.meta

completed_is : (c : ClaimData) (v : VolumeData) → is_completed (completed_with c v) ≡ true
unfolding completed_with
completed_is c v = ap is_some (value_put bind_completed yes (annotated_meta_if (is_empty c.volume_name) bound_by_controller c.meta).annotations)

completed_class : (c : ClaimData) (v : VolumeData) → (completed_with c v).class ≡ c.class
unfolding completed_with
completed_class c v = refl

-- a claim that names no class has the empty one
classless : (c : ClaimData) → lacks_class c ≡ true → class_of_claim c ≡ []
classless c lacks = by c.class (value_at beta_class c.meta.annotations) lacks
  where
    by : (x y : Option (List ℕ)) → (is_none x && not (is_some y)) ≡ true → unwrap_or y (unwrap_or x []) ≡ []
    by None None e = refl
    by None (Some b) e = absurd (true≢false (sym e))
    by (Some a) y e = absurd (true≢false (sym e))

module _ (mine : List Entry) (new c : ClaimData) where
  binder_leaves : (b : Bool) → ClaimMay (binder_claim b) mine new c → LeavesClaim c new
  binder_leaves true may = by t.0 t.2
    where
      t : (x : Object) × ToldObject (λ y. y ≡ x) mine × IsVolumeWith (IsBoundFor c new) x
      t = told_one (IsVolumeWith (IsBoundFor c new)) mine may

      by : (x : Object) → IsVolumeWith (IsBoundFor c new) x → LeavesClaim c new
      by (Volume v) is = subst (LeavesClaim c) (sym is.change) (record {
        completed = λ e. completed_is c v;
        class = inl (λ i. unwrap_or (sym (completed_beta c v) i) (unwrap_or (sym (completed_class c v) i) []));
      })
      by (Class x) is = absurd is
      by (Node x) is = absurd is
      by (Claim x) is = absurd is
      by (Pod x) is = absurd is
  binder_leaves false may = subst (LeavesClaim c) (sym may.change) (record { completed = λ e. e; class = inr (classless c may.classless) })

  guard_leaves : (b : Bool) → ClaimMay (claim_guard b) mine new c → LeavesClaim c new
  guard_leaves true may =
      let annotations = ap (λ (m : Meta). m.annotations) may.guard.change in
      record {
        completed = λ e. ap (λ ps. has_key bind_completed ps) annotations ∙ e;
        class =
            inl (λ i. unwrap_or (value_at beta_class (sym annotations i)) (unwrap_or (sym (ap (λ (x : ClaimData). x.class) may.rest) i) []));
      }
  guard_leaves false may = subst (LeavesClaim c) (sym may.change) (record { completed = λ e. e; class = inl refl })

  selected_leaves : MaySelectNode mine c new → LeavesClaim c new
  selected_leaves may = subst (LeavesClaim c) (sym may.change) (record {
    completed = λ e. ap is_some (value_other bind_completed selected_node may.node.meta.name c.meta.annotations refl) ∙ e;
    class = inl (ap (λ x. unwrap_or x (unwrap_or c.class [])) (sym (value_other beta_class selected_node may.node.meta.name c.meta.annotations refl)));
  })

  cleared_leaves : MayClearNode mine c new → LeavesClaim c new
  cleared_leaves may = subst (LeavesClaim c) (sym may.change) (record {
    completed = λ e. ap is_some (value_without bind_completed selected_node c.meta.annotations refl) ∙ e;
    class = inl (ap (λ x. unwrap_or x (unwrap_or c.class [])) (sym (value_without beta_class selected_node c.meta.annotations refl)));
  })

-- what is made is a volume
volume_made : (kind : SeatKind) (k : Kind) → makes kind k ≡ true → k ≡ kinds.PersistentVolume
volume_made seats.Ops kinds.PersistentVolume e = refl
volume_made seats.Ops kinds.PersistentVolumeClaim e = absurd (true≢false (sym e))
volume_made seats.Ops kinds.StorageClass e = absurd (true≢false (sym e))
volume_made seats.Ops kinds.Node e = absurd (true≢false (sym e))
volume_made seats.Ops kinds.Pod e = absurd (true≢false (sym e))
volume_made seats.User k e = absurd (true≢false (sym e))
volume_made seats.Binder k e = absurd (true≢false (sym e))
volume_made seats.Scheduler k e = absurd (true≢false (sym e))
volume_made seats.ClaimProtect k e = absurd (true≢false (sym e))
volume_made seats.VolumeProtect k e = absurd (true≢false (sym e))
volume_made seats.Agent k e = absurd (true≢false (sym e))

abbrev is_updated : Object → Bool
is_updated (Volume v) = true
is_updated (Claim c) = true
is_updated o = false

-- nothing else is updated
no_other : (kind : SeatKind) (mine : List Entry) (x : Object) (given : Option ℕ) → IsBuiltKind kind → is_updated x ≡ false → Licensed kind mine (requests.Update x given) → ⊥
no_other kind mine (Volume v) given built none may = true≢false none
no_other kind mine (Claim c) given built none may = true≢false none
no_other seats.User mine x given built none may = built
no_other seats.Binder mine (Class x) given built none may = may.1
no_other seats.Binder mine (Node x) given built none may = may.1
no_other seats.Binder mine (Pod x) given built none may = may.1
no_other seats.Ops mine (Class x) given built none may = may.1
no_other seats.Ops mine (Node x) given built none may = may.1
no_other seats.Ops mine (Pod x) given built none may = may.1
no_other seats.Scheduler mine (Class x) given built none may = may.1
no_other seats.Scheduler mine (Node x) given built none may = may.1
no_other seats.Scheduler mine (Pod x) given built none may = may.1
no_other seats.ClaimProtect mine (Class x) given built none may = may.1
no_other seats.ClaimProtect mine (Node x) given built none may = may.1
no_other seats.ClaimProtect mine (Pod x) given built none may = may.1
no_other seats.VolumeProtect mine (Class x) given built none may = may.1
no_other seats.VolumeProtect mine (Node x) given built none may = may.1
no_other seats.VolumeProtect mine (Pod x) given built none may = may.1
no_other seats.Agent mine (Class x) given built none may = may.1
no_other seats.Agent mine (Node x) given built none may = may.1
no_other seats.Agent mine (Pod x) given built none may = may.1

-- ---- each write

module _ (setup : Setup) (seat : ℕ) (h : List Entry) (history : IsHistory setup h) (o : Object) where
  abbrev w : World
  w = world setup h

  claim_written : (new : ClaimData) (Row : ClaimData → Type 0) → ((c : ClaimData) → Row c → LeavesClaim c new) → Rewrites w new o Row → Keeps w o
  unfolding updated_object with_meta with_status_of
  claim_written new Row leaves r =
      let l = leaves r.on r.row in
      OverClaim r.on (claim_or new o) r.there (r.is ∙ ap (λ x. Claim (claim_or new x)) (sym r.is))
      (λ e. ap (λ x. is_completed (claim_or new x)) r.is ∙ l.completed e) (elim l.class [ inl same ↦ inl (same ∙ sym (ap (λ x. class_of_claim (claim_or new x)) r.is)) | inr none ↦ inr none ])

  volume_written : (kind : SeatKind) (new : VolumeData) (given : Option ℕ) → Writes w kind (requests.Update (Volume new) given) o → Keeps w o
  volume_written kind new given u = OfVolume (ap (λ (k : Key). k.kind) (ap key_of u.is ∙ key-updated u.old (Volume new) (w.store.version + 1)))

  status_written : (kind : SeatKind) (key : Key) (status : NewStatus) (given : Option ℕ) → Writes w kind (requests.UpdateStatus key status given) o → Keeps w o
  unfolding with_status at_version with_meta
  status_written kind key (statuses.Volume phase) given i = by i.old i.fits
    where
      by : (old : Object) → with_status (statuses.Volume phase) old ≡ Some i.new → Keeps w o
      by (Volume v) e = OfVolume (ap (λ x. (key_of x).kind) (i.is ∙ ap (λ x. at_version x (w.store.version + 1)) (sym (one _ i.new e))))
      by (Class x) e = none_some e
      by (Node x) e = none_some e
      by (Claim x) e = none_some e
      by (Pod x) e = none_some e
  status_written kind key (statuses.Claim phase modes amount) given i = by i.old i.there i.fits
    where
      by : (old : Object) → row_at key w.store.rows ≡ Some old → with_status (statuses.Claim phase modes amount) old ≡ Some i.new → Keeps w o
      by (Claim c) there e =
          let is : o ≡ at_version (Claim (record c { phase = phase; got_modes = modes; got = amount })) (w.store.version + 1) = i.is
          ∙ ap (λ x. at_version x (w.store.version + 1)) (sym (one _ i.new e)) in
          OverClaim c (record c { phase = phase; got_modes = modes; got = amount; meta = record c.meta { version = w.store.version + 1 } })
          (ap (λ k. row_at k w.store.rows) (ap key_of is ∙ row_at_key key (Claim c) w.store.rows there) ∙ there) is (λ d. d) (inl refl)
      by (Class x) there e = none_some e
      by (Node x) there e = none_some e
      by (Volume x) there e = none_some e
      by (Pod x) there e = none_some e

  pod_written : (key : Key) (old p : PodData) → row_at key w.store.rows ≡ Some (Pod old) → o ≡ at_version (Pod p) (w.store.version + 1)
      → is_scheduled old ≡ false ⊎ (is_scheduled p ≡ is_scheduled old) → old.meta ≡ p.meta → old.claims ≡ p.claims → Keeps w o
  unfolding at_version with_meta
  pod_written key old p there is open_ meta claims =
      OverPod old (record p { meta = record p.meta { version = w.store.version + 1 } })
      (ap (λ k. row_at k w.store.rows) (ap key_of is ∙
      (ap (λ (m : Meta). key_of (Pod (record old { meta = m }))) (sym meta) ∙ row_at_key key (Pod old) w.store.rows there)) ∙ there) is open_ (ap (λ (m : Meta). m.namespace) meta) claims

  -- by the kind of the actor
  keeps : (kind : SeatKind) (r : Request) → IsBuiltKind kind → Licensed kind (own seat h) r → Writes w kind r o → Keeps w o
  keeps kind (requests.Create x) built may i =
      OfVolume (volume_made kind (key_of o).kind (ap (λ (k : Key). makes kind k.kind) (ap key_of i.is ∙ key-created _ x _ _) ∙ creates kind (own seat h) x built may))
  keeps kind (requests.Update (Volume new) given) built may u = volume_written kind new given u
  keeps seats.Binder (requests.Update (Claim new) given) built may u =
      claim_written new (λ c. ClaimMay (binder_claim (is_completed new)) (own seat h) new c)
      (λ c row. binder_leaves (own seat h) new c (is_completed new) row)
      (rewrites setup seat h history seats.Binder new given o (λ c. ClaimMay (binder_claim (is_completed new)) (own seat h) new c) may.1 u)
  keeps seats.ClaimProtect (requests.Update (Claim new) given) built may u =
      claim_written new (λ c. ClaimMay (claim_guard (is_protected_claim new)) (own seat h) new c) (λ c row. guard_leaves (own seat h) new c (is_protected_claim new) row)
      (rewrites setup seat h history seats.ClaimProtect new given o (λ c. ClaimMay (claim_guard (is_protected_claim new)) (own seat h) new c) may.1 u)
  keeps seats.Scheduler (requests.Update (Claim new) given) built may u =
      claim_written new (λ c. MaySelectNode (own seat h) c new) (λ c row. selected_leaves (own seat h) new c row)
      (rewrites setup seat h history seats.Scheduler new given o (λ c. MaySelectNode (own seat h) c new) may.1 u)
  keeps seats.Ops (requests.Update (Claim new) given) built may u =
      claim_written new (λ c. MayClearNode (own seat h) c new) (λ c row. cleared_leaves (own seat h) new c row)
      (rewrites setup seat h history seats.Ops new given o (λ c. MayClearNode (own seat h) c new) may.1 u)
  keeps seats.VolumeProtect (requests.Update (Claim new) given) built may u = absurd may.1
  keeps seats.Agent (requests.Update (Claim new) given) built may u = absurd may.1
  keeps kind (requests.UpdateStatus key status given) built may i = status_written kind key status given i
  keeps kind (requests.BindPod key uid node) built may i = pod_written key i.pod (record i.pod { node = node }) i.there i.is (inl i.unscheduled) refl refl
  keeps kind (requests.FinishPod key uid node epoch) built may i = pod_written key i.pod i.pod i.there i.is (inr refl) refl refl
  keeps kind (requests.Edit key change) built may i = absurd (no_edit kind (own seat h) key change built may)
  keeps seats.Ops (requests.Delete key (Some uid)) built may i =
      OfVolume (ap (λ (k : Key). k.kind) (ap key_of i.is ∙ (key-marked i.old (w.store.version + 1) w.moment ∙ row_at_key key i.old w.store.rows i.there)) ∙ may.1.0)
  keeps seats.Ops (requests.Delete key None) built may i = absurd may.1
  keeps seats.Binder (requests.Delete key given) built may i = absurd may.1
  keeps seats.Scheduler (requests.Delete key given) built may i = absurd may.1
  keeps seats.ClaimProtect (requests.Delete key given) built may i = absurd may.1
  keeps seats.VolumeProtect (requests.Delete key given) built may i = absurd may.1
  keeps seats.Agent (requests.Delete key given) built may i = absurd may.1
  keeps seats.User r built may i = absurd built
  keeps kind (requests.Update (Class x) given) built may i = absurd (no_other kind (own seat h) (Class x) given built refl may)
  keeps kind (requests.Update (Node x) given) built may i = absurd (no_other kind (own seat h) (Node x) given built refl may)
  keeps kind (requests.Update (Pod x) given) built may i = absurd (no_other kind (own seat h) (Pod x) given built refl may)
  keeps kind _ built may i = absurd i

-- ---- calls, slots and rounds

none_shared : (w : World) → KeepsSharing w w
none_shared w = record {
  pods = λ key p there waits. record { pod = p; there = there; waits = waits; namespace = refl; claims = refl };
  claims = λ key c there. record { claim = c; there = there; completed = λ e. e; class = inl refl };
  classes = λ key x there. record { class = x; there = there; delayed = refl };
}

then_shared : (a b c : World) → KeepsSharing a b → KeepsSharing b c → KeepsSharing a c
then_shared a b c ab bc = record {
  pods = λ key p there waits. (
      let s = bc.pods key p there waits in
      let t = ab.pods key s.pod s.there s.waits in
      record { pod = t.pod; there = t.there; waits = t.waits; namespace = t.namespace ∙ s.namespace; claims = t.claims ∙ s.claims });
  claims = λ key x there. (
      let s = bc.claims key x there in
      let t = ab.claims key s.claim s.there in
      record { claim = t.claim; there = t.there; completed = λ e. s.completed (t.completed e); class = both_classes t.claim s.claim x t.class s.class });
  classes = λ key x there. (
      let s = ab.classes key x there in
      let t = bc.classes key s.class s.there in
      record { class = t.class; there = t.there; delayed = t.delayed ∙ s.delayed });
}
  where
    both_classes : (x y z : ClaimData) → (class_of_claim x ≡ class_of_claim y) ⊎ (class_of_claim x ≡ []) → (class_of_claim y ≡ class_of_claim z)
        ⊎ (class_of_claim y ≡ []) → (class_of_claim x ≡ class_of_claim z) ⊎ (class_of_claim x ≡ [])
    both_classes x y z (inl same) (inl more) = inl (same ∙ more)
    both_classes x y z (inl same) (inr none) = inr (same ∙ none)
    both_classes x y z (inr none) second = inr none

call_shared : (setup : Setup) (seat : ℕ) (x : ActorState) (request : Request) (reply : Reply) (h : List Entry) → IsBuiltKind x.role.kind
    → IsCalled setup seat x request reply h → KeepsSharing (world setup h) (world setup (told_entry seat x request reply ∷ h))
call_shared setup seat x request reply h built called = by (comes_to (world setup h) (effect setup (world setup h) x.role.kind request))
  where
    by : ComesTo (world setup h) (effect setup (world setup h) x.role.kind request) → KeepsSharing (world setup h) (world setup (told_entry seat x request reply ∷ h))
    by (Leaves same) = stays same
      where
        stays : (world setup (told_entry seat x request reply ∷ h)).store ≡ (world setup h).store → KeepsSharing (world setup h) (world setup (told_entry seat x request reply ∷ h))
        stays e = record {
          pods = λ key p there waits. record { pod = p; there = ap (λ (s : State). row_at key s.rows) (sym e) ∙ there; waits = waits; namespace = refl; claims = refl };
          claims = λ key c there. record { claim = c; there = ap (λ (s : State). row_at key s.rows) (sym e) ∙ there; completed = λ d. d; class = inl refl };
          classes = λ key y there. record { class = y; there = ap (λ (s : State). row_at key s.rows) e ∙ there; delayed = refl };
        }
    by (Wrote o written version moved) =
        let asked = write_asked setup (world setup h) x.role.kind request o (effect setup (world setup h) x.role.kind request)
        (effect_form setup (world setup h) x.role.kind request (rows_stand_in_order setup h)) written in
        moved_keeps (world setup h) o (keeps setup seat h (runs_are_histories setup (told_entry seat x request reply ∷ h) called.run.run).0 o
        x.role.kind request built called.may asked) (rows_stand_in_order setup h) (world setup (told_entry seat x request reply ∷ h)) moved

slot_shared : (setup : Setup) (lets : Lets) (seat : ℕ) (old after : ActorState) (h past : List Entry) (b left : ℕ) (idle : Bool)
    → IsBuiltKind old.role.kind → IsRunOf setup past → Runs lets seat after past left idle (woken old) h b → KeepsSharing (world setup h) (world setup past)
slot_shared setup lets seat old after h past b left idle built run runs =
    run_moves setup lets seat after past left idle run old.role built KeepsSharing none_shared then_shared
    (λ x request reply g is called. call_shared setup seat x request reply g (subst (λ (r : Role). IsBuiltKind r.kind) (sym is) built) called) (woken old) h b runs refl

round_shared : (setup : Setup) (lets : Lets) (past : List Entry) (left : ℕ) (run : IsRunOf setup past) (ds : List Drainer) (h : List Entry) (b : ℕ)
    (after : List Drainer) (whole : Bool) → IsRound lets past left ds h b after whole → AreBuilt (roles_of ds) → KeepsSharing (world setup h) (world setup past)
round_shared setup lets past left run _ h b _ _ (Ends entries rest) built = subst (λ es. KeepsSharing (world setup h) (world setup es)) (sym entries) (none_shared (world setup h))
round_shared setup lets past left run _ h b _ _ (Turns {ds = ds} {after = after} {whole = whole} d ran middle rest idle seat runs more) built =
    let g = round_grows lets past left ds middle rest after whole more in
    let here = older_run setup g.longer.added middle (subst (IsRunOf setup) g.longer.are run) in
    then_shared (world setup h) (world setup middle) (world setup past)
    (slot_shared setup lets d.seat d.actor ran.actor h middle b rest idle built.0 here runs) (round_shared setup lets past left run ds middle rest after whole more built.1)

-- ---- so claims stay shared well

abbrev is_fault : Option Field → Bool
is_fault None = false
is_fault (Some field) = true

-- a valid class has a name
class_named : (x : ClassData) → IsValid (Class x) → is_empty x.meta.name ≡ false
unfolding create_fault faulty
class_named x e = by x.meta.name e
  where
    by : (name : List ℕ) → faulty (not (is_subdomain name)) fields.Name (kind_fault false (Class x)) ≡ None → is_empty name ≡ false
    by [] e = absurd (true≢false (ap is_fault e))
    by (y ∷ ys) e = refl

-- no class has the empty name
no_empty_class : (setup : Setup) (past : List Entry) → IsRunOf setup past → is_immediate (row_at (class_key []) (world setup past).store.rows) ≡ true → ⊥
no_empty_class setup past run at_once = by (row_at (class_key []) (world setup past).store.rows) refl at_once
  where
    by : (x : Option Object) → row_at (class_key []) (world setup past).store.rows ≡ x → is_immediate x ≡ true → ⊥
    by (Some (Class x)) there e =
        let valid = rows_are_valid setup past run.imports (class_key []) (Class x) there in
        true≢false (sym (ap (λ (k : Key). is_empty k.name) (row_at_key (class_key []) (Class x) (world setup past).store.rows there)) ∙ class_named x valid)
    by (Some (Node x)) there e = true≢false (sym e)
    by (Some (Volume x)) there e = true≢false (sym e)
    by (Some (Claim x)) there e = true≢false (sym e)
    by (Some (Pod x)) there e = true≢false (sym e)
    by None there e = true≢false (sym e)

shares_stay : (setup : Setup) (h past : List Entry) → IsRunOf setup h → KeepsSharing (world setup h) (world setup past) → SharesWell (world setup h) → SharesWell (world setup past)
shares_stay setup h past run keeps well first second namespace name c one_ other differ named =
    by (keeps.claims (claim_key namespace name) c (claim_there (row_at (claim_key namespace name) (world setup past).store.rows) refl named))
  where
    claim_there : (x : Option Object) → row_at (claim_key namespace name) (world setup past).store.rows ≡ x → claim_in x ≡ Some c
        → row_at (claim_key namespace name) (world setup past).store.rows ≡ Some (Claim c)
    claim_there (Some (Claim d)) e is = e ∙ ap (λ y. Some (Claim y)) (one d c is)
    claim_there (Some (Class x)) e is = none_some is
    claim_there (Some (Node x)) e is = none_some is
    claim_there (Some (Volume x)) e is = none_some is
    claim_there (Some (Pod x)) e is = none_some is
    claim_there None e is = none_some is

    waited : (key : Key) → WaitingPodNames (world setup past) key namespace name → WaitingPodNames (world setup h) key namespace name
    waited key p =
        let s = keeps.pods key p.pod p.there p.waits in
        record { pod = s.pod; there = s.there; waits = s.waits; same = s.namespace ∙ p.same; names = subst (SomeOf (λ n. n ≡ name)) (sym s.claims) p.names }

    -- a class that binds at once does so still
    at_once : (key : Key) → is_immediate (row_at key (world setup h).store.rows) ≡ true → is_immediate (row_at key (world setup past).store.rows) ≡ true
    at_once key e = test (row_at key (world setup h).store.rows) refl e
      where
        test : (x : Option Object) → row_at key (world setup h).store.rows ≡ x → is_immediate x ≡ true → is_immediate (row_at key (world setup past).store.rows) ≡ true
        test (Some (Class x)) there i = let s = keeps.classes key x there in ap is_immediate s.there ∙ (ap not s.delayed ∙ i)
        test (Some (Node x)) there i = absurd (true≢false (sym i))
        test (Some (Volume x)) there i = absurd (true≢false (sym i))
        test (Some (Claim x)) there i = absurd (true≢false (sym i))
        test (Some (Pod x)) there i = absurd (true≢false (sym i))
        test None there i = absurd (true≢false (sym i))

    by : StoodOpen (world setup h) (claim_key namespace name) c → (is_completed c ≡ true) ⊎ (is_immediate (row_at (class_key (class_of_claim c)) (world setup past).store.rows) ≡ true)
    by s = elim (well first second namespace name s.claim (waited first one_) (waited second other) differ (ap claim_in s.there)) [
      | inl done ↦ inl (s.completed done)
      | inr immediate ↦ elim s.class [
        | inl same ↦ inr (at_once (class_key (class_of_claim c)) (ap (λ n. is_immediate (row_at (class_key n) (world setup h).store.rows)) (sym same) ∙ immediate))
        | inr none ↦ absurd (no_empty_class setup h run (ap (λ n. is_immediate (row_at (class_key n) (world setup h).store.rows)) (sym none) ∙ immediate))
      ]
    ]

pub rounds_share_well : RoundsShareWell
rounds_share_well setup lets ds after h past b left whole roles run round well =
    let g = round_grows lets past left ds h b after whole round in
    shares_stay setup h past (older_run setup g.longer.added h (subst (IsRunOf setup) g.longer.are run))
    (round_shared setup lets past left run ds h b after whole round (roles_built (roles_of ds) roles)) well
