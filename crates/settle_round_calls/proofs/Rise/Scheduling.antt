-- What a scheduler writes: a volume that carried no claim, for a claim that may need it no more; the node of a claim, and that of a pod.
use Rattle.std.proofs.Common.{◌≡◌, ◌∙◌, ◌⊎◌, ℕ, ◌+◌, ◌*◌, ◌≤◌, List, Bool, true, false, true≢false, Option, Some, None, inl, inr, refl, sym, ap, subst, arith}
use Rattle.std.specs.Prelude.{◌&&◌, is_none, is_some}
use Rattle.std.proofs.lemmas.Bool.{and_parts}
use Rattle.plain_data.specs.Pairs.{put_pair}
use Rattle.kube_objects.specs.declared.key.Key.{Key}
use Rattle.kube_parts.specs.declared.parts.Kind.TheVariants as kinds
use Rattle.kube_parts.specs.declared.parts.VolumePhase.{VolumePhase}
use Rattle.kube_parts.specs.declared.parts.VolumePhase.TheVariants as volumes
use Rattle.kube_objects.specs.declared.objects.Claim.{Claim as ClaimData}
use Rattle.kube_objects.specs.declared.objects.Meta.{Meta}
use Rattle.kube_objects.specs.declared.objects.Pod.{Pod as PodData}
use Rattle.kube_objects.specs.declared.objects.Ref.{Ref}
use Rattle.kube_objects.specs.declared.objects.Volume.{Volume as VolumeData}
use Rattle.kube_objects.specs.declared.objects.Object.{Object}
use Rattle.kube_objects.specs.declared.objects.Object.TheVariants.{Class, Node, Volume, Claim, Pod}
use Rattle.kube_parts.specs.declared.uid.Uid.{Uid}
use Rattle.kube_objects.specs.Bindings.{beta_class, bind_completed, bound_by_controller, carries, is_deleting, ref_uid, selected_node}
use Rattle.kube_objects.specs.Keys.{AreRows, key_of, meta_of, put_row, row_at, without_row}
use Rattle.kube_objects.specs.Sources.{data_id_of}
use Rattle.kube_objects.proofs.KeyOrder.{row_at_key}
use Rattle.call_types.specs.declared.entry.Entry.{Entry}
use Rattle.call_types.specs.declared.request.Request.{Request}
use Rattle.call_types.specs.declared.request.Request.TheVariants as requests
use Rattle.call_types.specs.declared.request.SeatKind.TheVariants as seats
use Rattle.call_types.specs.declared.setup.Setup.{Setup}
use Rattle.binder_model.specs.Answers.{is_other_version}
use Rattle.binder_model.specs.At.{IsWrittenAt}
use Rattle.binder_model.specs.BinderLicence.{IsFreeFor, IsTaken, MayTake}
use Rattle.binder_model.specs.BindWrites.{annotated_meta_if, ref_to, taken_for}
use Rattle.binder_model.specs.Devices.{Devices}
use Rattle.binder_model.specs.Licence.{Licensed}
use Rattle.binder_model.specs.SchedulerLicence.{MaySelectNode}
use Rattle.binder_model.specs.Store.{at_version, leaves, updated_object, with_meta, with_status_of}
use Rattle.binder_model.specs.Told.{IsClaimWith, IsVolumeWith, ToldObject, own}
use Rattle.binder_model.specs.World.{Effect, IsHistory, World, world, world_after}
use Rattle.model_laws.proofs.Histories.{rows_stand_in_order}
use Rattle.model_laws.proofs.Truths.{told_is_true}
use Rattle.safety_law.specs.Invariant.Writes.{IsBind, IsLeaving, IsUpdate, Writes}
use Rattle.settle_measure.specs.Left.Measure.{completed_left, is_awaited, is_lost, is_over, left_of, pod_left, stage_left, unless, volume_left, was_erased}
use Rattle.settle_measure.proofs.Left.Aside.{claim_gone, claim_put, pod_put}
use Rattle.settle_measure.proofs.Left.Bounds.{pod_most}
use Rattle.settle_measure.proofs.Left.Entries.{Put, Took}
use Rattle.settle_measure.proofs.Left.Others.{Harmless, away_most}
use Rattle.settle_measure.proofs.Left.Sums.{gone_falls, none_paid, none_pays, put_falls}
use Rattle.settle_measure.proofs.Left.Volumes.{volume_put}
use Rattle.settle_measure.proofs.Left.Words.{value_other}
use Rattle.settle_measure.proofs.Binding.Alike.{MetaAlike, binding_same, seeking_same}
use Rattle.settle_measure.proofs.Binding.Claims.{rewritten_claim}
use Rattle.settle_measure.proofs.Binding.Stages.{false_not, life_kept, no_carrier, not_over, rewritten}
use Rattle.settle_writes.proofs.Done.Doing.{stands_it, told_one}
use Rattle.settle_pays.proofs.Actors.Standing.{none_has_left}
use Rattle.settle_round_calls.specs.Rise.Rises.{is_untaken, one_if_none, untaken_in}
use Rattle.settle_round_calls.proofs.Rise.Writes.{Rewrites, after_put, after_took, rewrites}

-- ---- volumes that carry no claim, where one object is written

module _ (rows : List Object) (order : AreRows rows) (old : Object) where
  put_untaken : (new : Object) → row_at (key_of new) rows ≡ Some old → untaken_in (put_row new rows) + is_untaken old ≤ untaken_in rows + is_untaken new
  put_untaken new there =
      let sums = put_falls is_untaken is_untaken none_paid new old rows order there (λ o i differs. omega arith) in
      let none = none_pays rows in
      omega (arith, sums, none)

  gone_untaken : (k : Key) → row_at k rows ≡ Some old → untaken_in (without_row k rows) ≤ untaken_in rows
  gone_untaken k there =
      let sums = gone_falls is_untaken is_untaken none_paid k old rows order there (λ o i differs. omega arith) in
      let none = none_pays rows in
      omega (arith, sums, none)

-- ---- a volume is taken

-- as it is then written, marked as the controller's work or not
abbrev taken_as : Bool → VolumeData → ClaimData → ℕ → VolumeData
taken_as b v c n = rewritten v (record v { claim_ref = Some (ref_to c); meta = annotated_meta_if b bound_by_controller v.meta }) n

taken_key : (b : Bool) (v : VolumeData) (c : ClaimData) (n : ℕ) → key_of (Volume (taken_as b v c n)) ≡ key_of (Volume v)
taken_key true v c n = refl
taken_key false v c n = refl

taken_leaves : (b : Bool) (v : VolumeData) (c : ClaimData) (n : ℕ) → leaves (Volume (taken_as b v c n)) ≡ leaves (Volume v)
unfolding leaves
taken_leaves true v c n = refl
taken_leaves false v c n = refl

few_stages : (a : Bool) (u : Option Uid) (p : VolumePhase) → is_some u ≡ true → stage_left a u p ≤ 3
few_stages a None p e = absurd (true≢false (sym e))
few_stages a (Some uid) volumes.Bound e = omega arith
few_stages a (Some uid) volumes.Released e = omega arith
few_stages a (Some uid) volumes.Failed e = omega arith
few_stages a (Some uid) volumes.Pending e = omega arith
few_stages a (Some uid) volumes.Available e = omega arith

module _ (rows : List Object) (d : Devices) (v : VolumeData) (c : ClaimData) (n : ℕ) (free : ref_uid v.claim_ref ≡ None) (known : is_some c.meta.uid ≡ true) where
  taken_weight : (b : Bool) → volume_left rows d (taken_as b v c n) ≤ volume_left rows d v + 3
  taken_weight true =
      let stage = few_stages (is_awaited rows (Some (ref_to c))) c.meta.uid v.phase known in
      let life = life_kept (is_deleting v.meta) (is_over (ref_uid v.claim_ref) v.phase) (is_over c.meta.uid v.phase)
      (was_erased (data_id_of v.source) d.stored) (not_over (ref_uid v.claim_ref) v.phase (inl free)) in
      omega (arith, stage, life)
  taken_weight false =
      let stage = few_stages (is_awaited rows (Some (ref_to c))) c.meta.uid v.phase known in
      let life = life_kept (is_deleting v.meta) (is_over (ref_uid v.claim_ref) v.phase) (is_over c.meta.uid v.phase)
      (was_erased (data_id_of v.source) d.stored) (not_over (ref_uid v.claim_ref) v.phase (inl free)) in
      omega (arith, stage, life)

  untaken_before : is_untaken (Volume v) ≡ 1
  untaken_before = ap one_if_none free

  untaken_after : (b : Bool) → is_untaken (Volume (taken_as b v c n)) ≡ 0
  untaken_after b = by c.meta.uid known
    where
      by : (u : Option Uid) → is_some u ≡ true → one_if_none u ≡ 0
      by None e = absurd (true≢false (sym e))
      by (Some uid) e = refl

  harmless : (b : Bool) (e : ClaimData) → Harmless v (taken_as b v c n) e
  harmless b e =
      let before : carries v e ≡ false = no_carrier v.claim_ref e free in
      record {
        held = λ open_ staying which h. false_not _ before (and_parts (carries v e) _ (and_parts (carries v e && _) _ h).0).0;
        offered = λ open_ staying empty h. false_not _ before (and_parts (carries v e) _ h).0;
        done = λ completed named. let was : completed_left e (Some (Volume v)) ≡ 5 + unless (is_lost e.phase) 1 = rw before refl in let most =
            away_most e (taken_as b v c n) in omega (arith, was, most);
      }

-- ---- what a write of a scheduler costs

-- it raises what is left to do by 3 at most, and only where fewer volumes then carry no claim
pub record Spends (left untaken left_after untaken_after : ℕ) : Type 0 where
  pub rise : left_after ≤ left + 3
  pub paid : left_after + 3 * untaken_after ≤ left + 3 * untaken

-- the volume that was told is taken for a claim that was told
record Takes (w : World) (o : Object) : Type 0 where
  on : VolumeData
  claim : ClaimData
  mark : Bool
  there : row_at (key_of (Volume on)) w.store.rows ≡ Some (Volume on)
  free : ref_uid on.claim_ref ≡ None
  known : is_some claim.meta.uid ≡ true
  is : o ≡ Volume (taken_as mark on claim (w.store.version + 1))

no_uid : (r : Option Ref) (c : ClaimData) → IsFreeFor r c → ref_uid r ≡ None
no_uid None c free = refl
no_uid (Some r) c free = free.1

module _ (setup : Setup) (seat : ℕ) (h : List Entry) (history : IsHistory setup h) (o : Object) where
  abbrev w : World
  w = world setup h

  abbrev order : AreRows w.store.rows
  order = rows_stand_in_order setup h

  takes : (new : VolumeData) (given : Option ℕ) → Licensed seats.Scheduler (own seat h) (requests.Update (Volume new) given) → IsUpdate w.store seats.Scheduler (Volume new) given o → Takes w o
  unfolding updated_object with_meta with_status_of taken_for
  takes new given may u = by t.0 t.1 t.2
    where
      t : (x : Object) × ToldObject (λ y. y ≡ x) (own seat h) × IsVolumeWith (λ v. IsWrittenAt given new.meta.namespace new.meta.name v.meta × MayTake (own seat h) v new) x
      t = told_one (IsVolumeWith (λ v. IsWrittenAt given new.meta.namespace new.meta.name v.meta × MayTake (own seat h) v new)) (own seat h) may.1

      taken : (v : VolumeData) → ToldObject (λ y. y ≡ Volume v) (own seat h) → IsWrittenAt given new.meta.namespace new.meta.name v.meta → MayTake (own seat h) v new → Takes w o
      taken v it at take = of_claim c.0 c.2
        where
          c : (x : Object) × ToldObject (λ y. y ≡ x) (own seat h) × IsClaimWith (IsTaken v new) x
          c = told_one (IsClaimWith (IsTaken v new)) (own seat h) take.told

          keyed : key_of (Volume v) ≡ key_of (Volume new)
          keyed = λ i. record { kind = kinds.PersistentVolume; namespace = at.placed i; name = at.named i }

          same : u.old ≡ Volume v
          same = stands_it setup h (Volume v) u.old (key_of (Volume new)) (told_is_true setup h seat (Volume v) history it) keyed u.there
              (subst (λ g. is_other_version g (meta_of u.old).version ≡ false) at.version u.version)

          of_claim : (x : Object) → IsClaimWith (IsTaken v new) x → Takes w o
          of_claim (Claim d) is = record {
            on = v;
            claim = d;
            mark = is_none v.claim_ref;
            there = ap (λ k. row_at k w.store.rows) keyed ∙ (u.there ∙ ap Some same);
            free = no_uid v.claim_ref d is.free;
            known = is.known;
            is = u.is ∙ (ap (λ y. updated_object y (Volume new) (w.store.version + 1)) same ∙ ap (λ y. updated_object (Volume v) (Volume y) (w.store.version + 1)) is.change);
          }
          of_claim (Class x) is = absurd is
          of_claim (Node x) is = absurd is
          of_claim (Volume x) is = absurd is
          of_claim (Pod x) is = absurd is

      by : (x : Object) → ToldObject (λ y. y ≡ x) (own seat h) → IsVolumeWith (λ v. IsWrittenAt given new.meta.namespace new.meta.name v.meta × MayTake (own seat h) v new) x → Takes w o
      by (Volume v) it is = taken v it is.0 is.1
      by (Class x) it is = absurd is
      by (Node x) it is = absurd is
      by (Claim x) it is = absurd is
      by (Pod x) it is = absurd is

  module _ (x : Effect) (request : Request) where
    abbrev SpendsBy : Type 0
    SpendsBy = Spends (left_of w) (untaken_in w.store.rows) (left_of (world_after w x)) (untaken_in (world_after w x).store.rows)

    by_volume : Takes w o → Put w x o ⊎ Took w x request o → SpendsBy
    by_volume t (inl put) =
        let new : VolumeData = taken_as t.mark t.on t.claim (w.store.version + 1) in
        let p : Put w x (Volume new) = subst (Put w x) t.is put in
        let now = after_put w x request (Volume new) p in
        let same = taken_key t.mark t.on t.claim (w.store.version + 1) in
        let costs = volume_put w.store.rows w.devices order t.on new same t.there (λ e i. harmless w.store.rows w.devices t.on t.claim (w.store.version + 1) t.free t.known t.mark e) in
        let weight = taken_weight w.store.rows w.devices t.on t.claim (w.store.version + 1) t.free t.known t.mark in
        let few = put_untaken w.store.rows order (Volume t.on) (Volume new) (ap (λ k. row_at k w.store.rows) same ∙ t.there) in
        let before = untaken_before w.store.rows w.devices t.on t.claim (w.store.version + 1) t.free t.known in
        let after = untaken_after w.store.rows w.devices t.on t.claim (w.store.version + 1) t.free t.known t.mark in
        let rows : untaken_in (world_after w x).store.rows ≡ untaken_in (put_row (Volume new) w.store.rows) = ap untaken_in p.rows in
        record { rise = omega (arith, now, costs, weight); paid = omega (arith, now, costs, weight, few, before, after, rows) }
    by_volume t (inr took) =
        let gone : leaves (Volume (taken_as t.mark t.on t.claim (w.store.version + 1))) ≡ true = subst (IsLeaving request) t.is took.leaves in
        absurd (true≢false (sym gone ∙ (taken_leaves t.mark t.on t.claim (w.store.version + 1) ∙ none_has_left setup h (key_of (Volume t.on)) (Volume t.on) t.there)))

    by_claim : (new : ClaimData) → Rewrites w new o (λ c. MaySelectNode (own seat h) c new) → Put w x o ⊎ Took w x request o → SpendsBy
    by_claim new r = by
      where
        m : Meta
        m = record r.on.meta { annotations = put_pair selected_node r.row.node.meta.name r.on.meta.annotations; version = w.store.version + 1 }

        alike : MetaAlike r.on.meta m
        alike = record {
          namespace = refl;
          name = refl;
          uid = refl;
          deleted = refl;
          completed =
              value_other bind_completed selected_node r.row.node.meta.name r.on.meta.annotations refl;
          beta = value_other beta_class selected_node r.row.node.meta.name r.on.meta.annotations refl;
        }

        is_o : o ≡ Claim (record r.on { meta = m })
        is_o = r.is ∙ ap (λ y. Claim (rewritten_claim r.on y (w.store.version + 1))) r.row.change

        at : row_at (key_of (Claim r.on)) w.store.rows ≡ Some (Claim r.on)
        at = ap (λ y. row_at (key_of y) w.store.rows) (sym is_o) ∙ r.there

        by : Put w x o ⊎ Took w x request o → SpendsBy
        by (inl put) =
            let p = subst (Put w x) is_o put in
            let now = after_put w x request (Claim (record r.on { meta = m })) p in
            let costs = claim_put w.store.rows w.devices r.on (record r.on { meta = m }) order refl at (λ e. sym (seeking_same r.on m alike) ∙ e) in
            let same = binding_same r.on m alike w.store.rows w.devices in
            let few = put_untaken w.store.rows order (Claim r.on) (Claim (record r.on { meta = m })) at in
            let rows : untaken_in (world_after w x).store.rows ≡ untaken_in (put_row (Claim (record r.on { meta = m })) w.store.rows) = ap untaken_in p.rows in
            record { rise = omega (arith, now, costs, same); paid = omega (arith, now, costs, same, few, rows) }
        by (inr took) =
            let p = subst (Took w x request) is_o took in
            let now = after_took w x request (Claim (record r.on { meta = m })) p in
            let costs = claim_gone w.store.rows w.devices r.on order at in
            let few = gone_untaken w.store.rows order (Claim r.on) (key_of (Claim r.on)) at in
            let rows : untaken_in (world_after w x).store.rows ≡ untaken_in (without_row (key_of (Claim r.on)) w.store.rows) = ap untaken_in p.rows in
            record { rise = omega (arith, now, costs); paid = omega (arith, now, costs, few, rows) }

    by_pod : (key : Key) (uid : Uid) (node : List ℕ) → request ≡ requests.BindPod key uid node → IsBind w.store seats.Scheduler key uid node o → Put w x o ⊎ Took w x request o → SpendsBy
    unfolding at_version with_meta
    by_pod key uid node is i (inl put) =
        let new : PodData = record i.pod { node = node; meta = record i.pod.meta { version = w.store.version + 1 } } in
        let p : Put w x (Pod new) = subst (Put w x) i.is put in
        let now = after_put w x request (Pod new) p in
        let at : row_at (key_of (Pod i.pod)) w.store.rows ≡ Some (Pod i.pod) = ap (λ k. row_at k w.store.rows) (row_at_key key (Pod i.pod) w.store.rows i.there) ∙ i.there in
        let costs = pod_put w.store.rows w.devices i.pod new order refl at in
        let unscheduled = i.unscheduled in
        let was : pod_left w.devices i.pod ≡ 4 = rw unscheduled refl in
        let most = pod_most w.devices new in
        let few = put_untaken w.store.rows order (Pod i.pod) (Pod new) at in
        let rows : untaken_in (world_after w x).store.rows ≡ untaken_in (put_row (Pod new) w.store.rows) = ap untaken_in p.rows in
        record { rise = omega (arith, now, costs, was, most); paid = omega (arith, now, costs, was, most, few, rows) }
    by_pod key uid node is i (inr took) = absurd (subst
        (λ r. IsLeaving r (Pod (record i.pod { node = node; meta = record i.pod.meta { version = w.store.version + 1 } }))) is (subst (IsLeaving request) i.is took.leaves))

    pub scheduler_spends : (r : Request) → request ≡ r → Licensed seats.Scheduler (own seat h) r → Writes w seats.Scheduler r o → Put w x o ⊎ Took w x request o → SpendsBy
    scheduler_spends (requests.Update (Volume new) given) is may u came = by_volume (takes new given may u) came
    scheduler_spends (requests.Update (Claim new) given) is may u came = by_claim new (rewrites setup seat h history seats.Scheduler new given o (λ c. MaySelectNode (own seat h) c new) may.1 u) came
    scheduler_spends (requests.BindPod key uid node) is may i came = by_pod key uid node is i came
    scheduler_spends (requests.Update (Class y) given) is may i came = absurd may.1
    scheduler_spends (requests.Update (Node y) given) is may i came = absurd may.1
    scheduler_spends (requests.Update (Pod y) given) is may i came = absurd may.1
    scheduler_spends (requests.Create y) is may i came = absurd may.1
    scheduler_spends (requests.UpdateStatus key status given) is may i came = absurd may.1
    scheduler_spends (requests.Edit key change) is may i came = absurd may.1
    scheduler_spends (requests.Delete key given) is may i came = absurd may.1
    scheduler_spends (requests.FinishPod key uid node epoch) is may i came = absurd may.1
    scheduler_spends _ is may i came = absurd i
