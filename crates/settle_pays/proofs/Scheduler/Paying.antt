-- Each call of a scheduler's machine pays: the binding of a pod, the volumes that are taken, and the nodes that are written.
use Rattle.std.proofs.Common.{◌≡◌, ◌≢◌, ◌∙◌, ℕ, ◌+◌, List, [], ◌∷◌, ◌++◌, Bool, true, false, true≢false, Option, Some, None, refl, sym, ap, subst, arith, length, if◌then◌else◌}
use Rattle.std.specs.Prelude.{◌==◌, ◌&&◌, is_some, map, nat_lt, not, slice_get}
use Rattle.std.proofs.lemmas.Bool.{or_parts}
use Rattle.std.proofs.lemmas.Bool.Decides.{Decides-eqb}
use Rattle.kube_objects.specs.declared.key.Key.{Key}
use Rattle.kube_parts.specs.declared.parts.Kind.TheVariants as kinds
use Rattle.kube_objects.specs.declared.objects.Claim.{Claim as ClaimData}
use Rattle.kube_objects.specs.declared.objects.Node.{Node as NodeData}
use Rattle.kube_objects.specs.declared.objects.Pod.{Pod as PodData}
use Rattle.kube_objects.specs.declared.objects.Volume.{Volume as VolumeData}
use Rattle.kube_objects.specs.declared.objects.Object.{Object}
use Rattle.kube_objects.specs.declared.objects.Object.TheVariants.{Claim, Node, Pod, Volume}
use Rattle.kube_objects.specs.Bindings.{has_name, is_deleting, is_empty, is_scheduled, pv_protection}
use Rattle.kube_objects.specs.Keys.{AreRows, key_of, kind_index, put_row, row_at, rows_of}
use Rattle.kube_objects.proofs.KeyOrder.{row_at-put_row_other}
use Rattle.kube_objects.proofs.RowPlaces.{row_at_place}
use Rattle.call_types.specs.declared.entry.Entry.{Entry}
use Rattle.call_types.specs.declared.reply.Reply.{Reply}
use Rattle.call_types.specs.declared.request.Request.{Request}
use Rattle.call_types.specs.declared.request.Request.TheVariants.{BindPod}
use Rattle.call_types.specs.declared.request.SeatKind.TheVariants as seats
use Rattle.call_types.specs.declared.setup.Setup.{Setup}
use Rattle.binder_model.specs.Answers.{after}
use Rattle.binder_model.specs.BindWrites.{write_reference}
use Rattle.binder_model.specs.Choice.{AreShares, IsProvisioned, Share, TakesVolume, claim_in, claims_of, has_carrier}
use Rattle.binder_model.specs.Imports.{ImportsPass}
use Rattle.binder_model.specs.Matching.{eligible, fits, is_admitted_on, is_excluded, is_selected, may_serve}
use Rattle.binder_model.specs.ObjectKeys.{node_key, volume_key}
use Rattle.binder_model.specs.Store.{has_no_names, leaves, updated_object, with_meta, with_status_of}
use Rattle.binder_model.specs.World.{Effect, World, log_after, world, world_after}
use Rattle.volume_index.specs.VolumeIndex.{as_volume}
use Rattle.volume_match.specs.Volumes.{volume_at}
use Rattle.model_laws.proofs.Histories.{rows_stand_in_order}
use Rattle.model_laws.proofs.Lists.{none_some, one}
use Rattle.delayed_binding.specs.declared.choice.Choice.{Choice}
use Rattle.delayed_binding.specs.declared.choice.Choice.TheVariants.{Assign, Prepare, Wait, NoNode}
use Rattle.delayed_binding.specs.Choices.{IsChoice, binds_of, others_in, pair_of, set_aside, stage_of}
use Rattle.delayed_binding.specs.Writes.{bind_write, node_write, reference_write}
use Rattle.delayed_binding.proofs.Bests.{one_place}
use Rattle.delayed_binding.proofs.Known.{AreApart, Differ, Each, IsStored as Stands, IsSought, others_apart, others_sought, others_stored}
use Rattle.pod_scheduler.specs.declared.schedule.ScheduleOp.{ScheduleOp}
use Rattle.pod_scheduler.specs.declared.schedule.ScheduleStep.TheVariants as steps
use Rattle.pod_scheduler.specs.Decisions.{BeginsIf, are_known, begun_with, binding, last_refused, present, writes_for}
use Rattle.pod_scheduler.specs.Schedules.{is_refused, is_write, is_written, only_write, schedule_call, schedule_call_at, schedule_moved}
use Rattle.pod_scheduler.proofs.Allowed.{write_of_is}
use Rattle.pod_scheduler.proofs.Begun.{all_known}
use Rattle.settle_measure.specs.Left.Lowers.{Lowers, StandsVolume, StandsClaim}
use Rattle.settle_measure.specs.Left.Measure.{is_seeking}
use Rattle.settle_measure.proofs.Binding.Binding.{prepare_pays, seeking_parts}
use Rattle.settle_measure.proofs.Binding.Alike.{node_stays}
use Rattle.settle_measure.proofs.Upkeep.Pods.{assign_pays}
use Rattle.worker_core.specs.declared.task.Task.TheVariants as tasks
use Rattle.worker_core.specs.declared.task.Under.{Under}
use Rattle.worker_core.specs.Tasks.{under_after, with_call}
use Rattle.settle_writes.specs.Writes.Writes.{IsStored}
use Rattle.settle_writes.proofs.Writes.Fitting.{no_namespace}
use Rattle.settle_writes.proofs.Writes.Pods.{claims_once, node_named}
use Rattle.settle_writes.proofs.Writes.Valid.{rows_are_valid}
use Rattle.settle_due.proofs.Upkeep.Deciding.{stored}
use Rattle.settle_due.proofs.Upkeep.Known.{rows_known}
use Rattle.settle_due.proofs.Upkeep.Reclaims.{has_uid}
use Rattle.settle_slot.specs.Slot.Slots.{own_entry}
use Rattle.settle_due.specs.Scheduling.Writes.{placing}
use Rattle.settle_due.proofs.Scheduling.Choosing.{assigned_of, claims_known, node_writes, search_of, written}
use Rattle.settle_due.proofs.Scheduling.Placing.{AreFrom, all_from, at_from, later_from, others_stay, placed, still_stand}
use Rattle.settle_pays.specs.Pays.Pays.{EachPays, WillPay}
use Rattle.settle_pays.specs.Scheduler.Pays.{SchedulersPay}
use Rattle.settle_pays.proofs.Pays.Calls.{lowering_pays}
use Rattle.settle_pays.proofs.Scheduler.Open.{each_placed, others_seek, placed_apart, placed_of, provisions_are}
use Rattle.settle_pays.proofs.Scheduler.Taking.{IsTaken, is_taken, still_uncarried}

-- an eligible volume stays
pub eligible_stays : (v : VolumeData) (c : ClaimData) (n : NodeData) → eligible v c (Some n) ≡ true → is_deleting v.meta ≡ false
eligible_stays v c n e = by (is_deleting v.meta) e
  where
    by : (b : Bool) → (not b && has_name pv_protection v.meta.finalizers && fits v c && is_selected c.selector v.meta.labels && is_admitted_on v (Some n) && may_serve v c) ≡ true → b ≡ false
    by true e = absurd (true≢false (sym e))
    by false e = refl

-- a claim of the pod that seeks a volume
pub record IsOpen (c : ClaimData) : Type 0 where
  pub seeks : is_seeking c ≡ true
  pub known : is_some c.meta.uid ≡ true

-- the references that are written, by the shares
module _ (rows : List Object) (n : NodeData) where
  abbrev pub refs_in : (cs : List ClaimData) (shares : List Share) (taken : List ℕ) → AreShares rows n taken cs shares → List Request
  refs_in (c ∷ cs) (TakesVolume place ∷ shares) taken are = write_reference are.0.volume c ∷ refs_in cs shares (place ∷ taken) are.1
  refs_in (c ∷ cs) (IsProvisioned ∷ shares) taken are = refs_in cs shares taken are.2
  refs_in (c ∷ cs) [] taken are = []
  refs_in [] shares taken are = []

module _ (rows : List Object) (order : AreRows rows) (n : NodeData) where
  -- these are the writes of the choice
  pub refs_are : (cs : List ClaimData) (shares : List Share) (taken : List ℕ) (are : AreShares rows n taken cs shares) → Each (Stands rows) cs
      → present (map (bind_write rows) (binds_of rows cs shares)) ≡ refs_in rows n cs shares taken are
  refs_are [] [] taken are stand = refl
  refs_are [] (TakesVolume p ∷ shares) taken are stand = absurd are
  refs_are [] (IsProvisioned ∷ shares) taken are stand = absurd are
  refs_are (c ∷ cs) [] taken are stand = absurd are
  refs_are (c ∷ cs) (IsProvisioned ∷ shares) taken are stand = refs_are cs shares taken are.2 stand.1
  refs_are (c ∷ cs) (TakesVolume p ∷ shares) taken are stand =
      let v = are.0.volume in
      let there = row_at_place kinds.PersistentVolume p (Volume v) rows order are.0.candidate.there in
      let pair : pair_of c (volume_at rows p) ≡ (key_of (Claim c), key_of (Volume v)) ∷ [] = ap (λ o. pair_of c (as_volume o)) are.0.candidate.there in
      let write : bind_write rows (key_of (Claim c), key_of (Volume v)) ≡ Some (write_reference v c) =
      ap (λ x. reference_write x (as_volume (row_at (key_of (Volume v)) rows))) (ap claim_in stand.0) ∙ ap (λ x. reference_write (Some c) x) (ap as_volume there) in
      ap (λ ps. present (map (bind_write rows) (ps ++ binds_of rows cs shares))) pair
      ∙ (ap (λ o. present (o ∷ map (bind_write rows) (binds_of rows cs shares))) write ∙ ap (λ ws. write_reference v c ∷ ws) (refs_are cs shares (p ∷ taken) are.1 stand.1))

module _ (setup : Setup) (seat : ℕ) (key : Key) (writes : List Request) where
  -- the machine before this write
  abbrev pub at_call : ℕ → Request → Under
  at_call place call = record { key = key; task = tasks.Schedule (record { writes = writes; step = steps.Writes place }); call = call }

  abbrev pub next_entry : List Entry → Request → List Entry
  next_entry h call = own_entry setup seat seats.Scheduler h call ∷ h

  -- where the machine goes on, it makes the next write
  pub record IsNext (place : ℕ) (next : Under) : Type 0 where
    pub there : slice_get writes (place + 1) ≡ Some next.call
    pub is : next ≡ at_call (place + 1) next.call

  pub next_of : (place : ℕ) (call : Request) (reply : Reply) (next : Under) → under_after (at_call place call) reply ≡ Some next → IsNext place next
  unfolding schedule_moved schedule_call
  next_of place call reply next e = by (is_refused reply) (is_written reply && nat_lt place (length writes)) e
    where
      found : (o : Option Request) → slice_get writes (place + 1) ≡ o
          → with_call key (tasks.Schedule (record { writes = writes; step = steps.Writes (place + 1) })) (only_write o) ≡ Some next → IsNext place next
      found None at e = none_some e
      found (Some r) at e = write_is (is_write r) e
        where
          write_is : (b : Bool) → with_call key (tasks.Schedule (record { writes = writes; step = steps.Writes (place + 1) })) (if b then Some r else None) ≡ Some next → IsNext place next
          write_is true e =
              let same : at_call (place + 1) r ≡ next = one (at_call (place + 1) r) next e in
              record { there = at ∙ ap (λ (u : Under). Some u.call) same; is = sym same ∙ ap (λ (u : Under). at_call (place + 1) u.call) same }
          write_is false e = none_some e

      by : (a b : Bool) → with_call key (tasks.Schedule
          (record { writes = writes; step = if a then steps.Parked else if b then steps.Writes (place + 1) else steps.Done }))
          (schedule_call_at writes (if a then steps.Parked else if b then steps.Writes (place + 1) else steps.Done)) ≡ Some next → IsNext place next
      by true b e = none_some e
      by false true e = found (slice_get writes (place + 1)) refl e
      by false false e = none_some e

  stands_claim : (h : List Entry) (c : ClaimData) → Stands (world setup h).store.rows c → IsOpen c → StandsClaim (world setup h) c
  unfolding leaves
  stands_claim h c there open_ =
      let uid = has_uid c.meta.uid open_.known in
      record { order = rows_stand_in_order setup h; there = there; stays = ap (λ b. b && has_no_names c.meta.finalizers) (seeking_parts c open_.seeks).staying; uid = uid.uid; has = uid.is }

  module _ (pass : ImportsPass setup.imports) (name : List ℕ) where
    pub stays_there : (w : World) (c : ClaimData) (s : IsStored w (Claim c)) → is_deleting c.meta ≡ false → leaves (placed setup w name c s) ≡ false
    unfolding leaves updated_object with_meta with_status_of
    stays_there w c s staying = ap (λ b. b && has_no_names c.meta.finalizers) staying

    -- claims that get the node one after the other
    places_pay : (c : ClaimData) (cs : List ClaimData) (place : ℕ) (h : List Entry) → AreFrom writes place (map (placing name) (c ∷ cs))
        → Each (Stands (world setup h).store.rows) (c ∷ cs) → Each IsOpen (c ∷ cs) → AreApart (c ∷ cs)
        → WillPay setup seat seats.Scheduler h (at_call place (placing name c))
    places_pay c [] place h are stand open_ apart =
        EachPays (lowering_pays setup (world setup h) seats.Scheduler (placing name c) refl (node_stays setup (world setup h) seats.Scheduler c name (stands_claim h c stand.0 open_.0)))
        (λ next e. let n = next_of place (placing name c) _ next e in none_some (sym (at_from writes (place + 1) [] (later_from writes place (placing name c) [] are)) ∙ n.there))
    places_pay c (d ∷ ds) place h are stand open_ apart =
        EachPays (lowering_pays setup (world setup h) seats.Scheduler (placing name c) refl (node_stays setup (world setup h) seats.Scheduler c name (stands_claim h c stand.0 open_.0)))
        (λ next e. let n = next_of place (placing name c) _ next e in
        let later = later_from writes place (placing name c) (map (placing name) (d ∷ ds)) are in
        let call = one next.call (placing name d) (sym n.there ∙ at_from writes (place + 1) (map (placing name) (d ∷ ds)) later) in
        subst (λ u. WillPay setup seat seats.Scheduler (next_entry h (placing name c)) u) (sym (n.is ∙ ap (at_call (place + 1)) call))
        (places_pay d ds (place + 1) (next_entry h (placing name c)) later
        (still_stand (world setup h).store.rows (world setup (next_entry h (placing name c))).store.rows c (d ∷ ds) kept apart.0 stand.1) open_.1 apart.1))
      where
        on_store : IsStored (world setup h) (Claim c)
        on_store = stored setup h (key_of (Claim c)) (Claim c) pass stand.0

        kept : (k : Key) → key_of (Claim c) ≢ k → row_at k (world setup (next_entry h (placing name c))).store.rows ≡ row_at k (world setup h).store.rows
        kept = others_stay setup (world setup h) name c on_store seats.Scheduler refl (stays_there (world setup h) c on_store (seeking_parts c open_.0.seeks).staying)

    module _ (rows : List Object) (order : AreRows rows) (n : NodeData) (nodes : List ClaimData) (nodes_stand : Each (Stands rows) nodes)
        (nodes_open : Each IsOpen nodes) (nodes_apart : AreApart nodes) where
      -- the world after some of the writes: its claims are those of the choice, as are the volumes that were not taken yet
      pub record IsBehind (h : List Entry) (taken : List ℕ) (cs : List ClaimData) : Type 0 where
        pub claims : (c : ClaimData) → row_at (key_of (Claim c)) (world setup h).store.rows ≡ row_at (key_of (Claim c)) rows
        pub volumes : (place : ℕ) (v : VolumeData) → slice_get (rows_of kinds.PersistentVolume rows) place ≡ Some (Volume v)
            → is_excluded taken place ≡ false → row_at (key_of (Volume v)) (world setup h).store.rows ≡ Some (Volume v)
        pub uncarried : Each (λ c. has_carrier (world setup h).store.rows c ≡ false) cs

      all_uncarried : (old new : List Object) (c : ClaimData) (cs : List ClaimData)
          → ((d : ClaimData) → key_of (Claim c) ≢ key_of (Claim d) → has_carrier old d ≡ false → has_carrier new d ≡ false) → Each (Differ c) cs → Each (λ d. has_carrier old d ≡ false) cs
          → Each (λ d. has_carrier new d ≡ false) cs
      all_uncarried old new c [] kept apart none = tt
      all_uncarried old new c (d ∷ ds) kept apart none = (kept d apart.0 none.0, all_uncarried old new c ds kept apart.1 none.1)

      -- then the nodes are written
      ends : (place : ℕ) (h : List Entry) → ((c : ClaimData) → row_at (key_of (Claim c)) (world setup h).store.rows ≡ row_at (key_of (Claim c)) rows)
          → AreFrom writes place (map (placing name) nodes) → (call : Request) → slice_get writes place ≡ Some call
          → WillPay setup seat seats.Scheduler h (at_call place call)
      ends place h claims are call at = by nodes nodes_stand nodes_open nodes_apart are
        where
          stand_here : (cs : List ClaimData) → Each (Stands rows) cs → Each (Stands (world setup h).store.rows) cs
          stand_here [] each = tt
          stand_here (c ∷ cs) each = (claims c ∙ each.0, stand_here cs each.1)

          by : (cs : List ClaimData) → Each (Stands rows) cs → Each IsOpen cs → AreApart cs → AreFrom writes place (map (placing name) cs) → WillPay setup seat seats.Scheduler h (at_call place call)
          by [] stand open_ apart from = none_some (sym (at_from writes place [] from) ∙ at)
          by (c ∷ cs) stand open_ apart from =
              let same = one call (placing name c) (sym at ∙ at_from writes place (map (placing name) (c ∷ cs)) from) in
              subst (λ r. WillPay setup seat seats.Scheduler h (at_call place r)) (sym same) (places_pay c cs place h from (stand_here (c ∷ cs) stand) open_ apart)

      -- one volume is taken
      module _ (c : ClaimData) (v : VolumeData) (place_of : ℕ) (taken_before : List ℕ)
          (at : slice_get (rows_of kinds.PersistentVolume rows) place_of ≡ Some (Volume v)) (fit : eligible v c (Some n) ≡ true) (h : List Entry)
          (there : row_at (key_of (Volume v)) (world setup h).store.rows ≡ Some (Volume v)) (claim_there : Stands (world setup h).store.rows c)
          (open_ : IsOpen c) (none : has_carrier (world setup h).store.rows c ≡ false) where
        on_store : IsStored (world setup h) (Volume v)
        on_store = stored setup h (key_of (Volume v)) (Volume v) pass there

        staying : is_deleting v.meta ≡ false
        staying = eligible_stays v c n fit

        stands_volume : StandsVolume (world setup h) v
        unfolding leaves
        stands_volume =
            let own : key_of (Volume v) ≡ volume_key v.meta.name = rw (no_namespace v on_store.valid) refl in
            record { order = rows_stand_in_order setup h; there = ap (λ k. row_at k (world setup h).store.rows) (sym own) ∙ there; stays = ap (λ b. b && has_no_names v.meta.finalizers) staying }

        lowers : Lowers setup (world setup h) seats.Scheduler (write_reference v c) 1
        lowers = prepare_pays setup (world setup h) seats.Scheduler v c n stands_volume (stands_claim h c claim_there open_) open_.seeks fit none

        pub took : IsTaken setup (world setup h) v c
        took = is_taken setup (world setup h) v c on_store (rows_are_valid setup h pass (key_of (Claim c)) (Claim c) claim_there) staying

        abbrev next : List Entry
        next = next_entry h (write_reference v c)

        pub rows_next : (world setup next).store.rows ≡ put_row (Volume took.new) (world setup h).store.rows
        unfolding world_after after log_after
        rows_next = ap (λ (x : Effect). (world_after (world setup h) x).store.rows) took.is

        pub behind : (cs : List ClaimData) → Each (Differ c) cs → IsBehind h taken_before (c ∷ cs) → IsBehind next (place_of ∷ taken_before) cs
        behind cs apart b = record { claims = claims; volumes = volumes; uncarried = all_uncarried (world setup h).store.rows (world setup next).store.rows c cs uncarried apart b.uncarried.1 }
          where
            claims : (d : ClaimData) → row_at (key_of (Claim d)) (world setup next).store.rows ≡ row_at (key_of (Claim d)) rows
            claims d = ap (row_at (key_of (Claim d))) rows_next
                ∙ (row_at-put_row_other (key_of (Claim d)) (Volume took.new) (world setup h).store.rows (λ e. let k = ap (λ (j : Key). kind_index j.kind) e in omega (arith, k)) ∙ b.claims d)

            volumes : (place : ℕ) (u : VolumeData) → slice_get (rows_of kinds.PersistentVolume rows) place ≡ Some (Volume u)
                → is_excluded (place_of ∷ taken_before) place ≡ false → row_at (key_of (Volume u)) (world setup next).store.rows ≡ Some (Volume u)
            volumes place u there_ out =
                let parts = or_parts (place_of == place) (is_excluded taken_before place) out in
                let differs : key_of (Volume took.new) ≢ key_of (Volume u) =
                λ e. true≢false (sym ((Decides-eqb place_of place).1 (one_place rows order place_of place (Volume v) (Volume u) at there_ (sym took.key ∙ e))) ∙ parts.0) in
                ap (row_at (key_of (Volume u))) rows_next ∙ (row_at-put_row_other (key_of (Volume u)) (Volume took.new) (world setup h).store.rows differs ∙ b.volumes place u there_ parts.1)

            uncarried : (d : ClaimData) → key_of (Claim c) ≢ key_of (Claim d) → has_carrier (world setup h).store.rows d ≡ false → has_carrier (world setup next).store.rows d ≡ false
            uncarried d differs free =
                let in_order : AreRows (put_row (Volume took.new) (world setup h).store.rows) = subst AreRows rows_next (rows_stand_in_order setup next) in
                ap (λ rs. has_carrier rs d) rows_next ∙ still_uncarried (world setup h).store.rows took.new c d in_order took.refers differs free

      takes_pay : (cs : List ClaimData) (shares : List Share) (taken : List ℕ) (are : AreShares rows n taken cs shares) (place : ℕ) (h : List Entry)
          → IsBehind h taken cs → Each (Stands rows) cs → Each IsOpen cs → AreApart cs
          → AreFrom writes place (refs_in rows n cs shares taken are ++ map (placing name) nodes) → (call : Request)
          → slice_get writes place ≡ Some call → WillPay setup seat seats.Scheduler h (at_call place call)
      takes_pay [] [] taken are place h b stand open_ apart from call at = ends place h b.claims from call at
      takes_pay [] (TakesVolume p ∷ shares) taken are place h b stand open_ apart from call at = absurd are
      takes_pay [] (IsProvisioned ∷ shares) taken are place h b stand open_ apart from call at = absurd are
      takes_pay (c ∷ cs) [] taken are place h b stand open_ apart from call at = absurd are
      takes_pay (c ∷ cs) (IsProvisioned ∷ shares) taken are place h b stand open_ apart from call at =
          takes_pay cs shares taken are.2 place h (record { claims = b.claims; volumes = b.volumes; uncarried = b.uncarried.1 }) stand.1 open_.1 apart.1 from call at
      takes_pay (c ∷ cs) (TakesVolume p ∷ shares) taken are place h b stand open_ apart from call at =
          let v = are.0.volume in
          let spot = are.0.candidate.there in
          let fit = are.0.candidate.eligible in
          let there = b.volumes p v spot are.0.candidate.open_to in
          let claim_there = b.claims c ∙ stand.0 in
          let rest = refs_in rows n cs shares (p ∷ taken) are.1 ++ map (placing name) nodes in
          let same = one call (write_reference v c) (sym at ∙ at_from writes place (write_reference v c ∷ rest) from) in
          let after_it = behind c v p taken spot fit h there claim_there open_.0 b.uncarried.0 cs apart.0 b in
          subst (λ r. WillPay setup seat seats.Scheduler h (at_call place r)) (sym same)
          (EachPays (lowering_pays setup (world setup h) seats.Scheduler (write_reference v c) refl (lowers c v p taken spot fit h there claim_there open_.0 b.uncarried.0))
          (λ next e. let m = next_of place (write_reference v c) _ next e in
          subst (λ u. WillPay setup seat seats.Scheduler (next_entry h (write_reference v c)) u) (sym m.is)
          (takes_pay cs shares (p ∷ taken) are.1 (place + 1) (next_entry h (write_reference v c)) after_it stand.1 open_.1 apart.1
          (later_from writes place (write_reference v c) rest from) next.call m.there)))

pub all_open : (rows : List Object) (cs : List ClaimData) → Each (λ c. is_seeking c ≡ true) cs → Each (IsSought rows) cs → Each IsOpen cs
all_open rows [] seeks sought = tt
all_open rows (c ∷ cs) seeks sought = (record { seeks = seeks.0; known = sought.0.known }, all_open rows cs seeks.1 sought.1)

pub all_free : (rows : List Object) (cs : List ClaimData) → Each (IsSought rows) cs → Each (λ c. has_carrier rows c ≡ false) cs
all_free rows [] sought = tt
all_free rows (c ∷ cs) sought = (sought.0.uncarried, all_free rows cs sought.1)

pub present_both : (xs ys : List (Option Request)) → present (xs ++ ys) ≡ present xs ++ present ys
present_both [] ys = refl
present_both (None ∷ xs) ys = present_both xs ys
present_both (Some x ∷ xs) ys = ap (λ zs. x ∷ zs) (present_both xs ys)

-- what begins with writes makes the first of them
pub from_begun : (setup : Setup) (seat : ℕ) (key : Key) (P : Under → Type 0) (op : ScheduleOp) (call : Request) (writes : List Request) → Some op ≡ begun_with writes → schedule_call op ≡ Some call
    → (slice_get writes 0 ≡ Some call → P (at_call setup seat key writes 0 call)) → P (record { key = key; task = tasks.Schedule op; call = call })
unfolding schedule_call
from_begun setup seat key P op call [] begins asks holds = none_some (sym begins)
from_begun setup seat key P op call (w ∷ writes) begins asks holds =
    let same : op ≡ record { writes = w ∷ writes; step = steps.Writes 0 } = one op _ begins in
    let first = write_of_is (Some w) call (ap (λ (x : ScheduleOp). schedule_call_at x.writes x.step) (sym same) ∙ asks) in
    subst (λ (x : ScheduleOp). P (record { key = key; task = tasks.Schedule x; call = call })) (sym same) (holds first.is)

module _ (setup : Setup) (past : List Entry) (seat : ℕ) (p : PodData) (pass : ImportsPass setup.imports)
    (there : row_at (key_of (Pod p)) (world setup past).store.rows ≡ Some (Pod p)) (unscheduled : is_scheduled p ≡ false) (last : Option (List ℕ)) (op : ScheduleOp) (call : Request)
    (asks : schedule_call op ≡ Some call) where
  abbrev rows : List Object
  rows = (world setup past).store.rows

  order : AreRows rows
  order = rows_stand_in_order setup past

  known : are_known rows p ≡ true
  known = claims_known rows (rows_known setup past pass) p

  abbrev at_pod : ScheduleOp → Under
  at_pod x = record { key = key_of (Pod p); task = tasks.Schedule x; call = call }

  assigns : (name : List ℕ) → IsChoice rows p last (Assign name) → Some op ≡ begun_with (writes_for rows p (Assign name)) → WillPay setup seat seats.Scheduler past (at_pod op)
  assigns name f begins =
      let a = assigned_of (stage_of rows p) rows (claims_of rows p) last name f in
      let uid = has_uid p.meta.uid (rows_known setup past pass (key_of (Pod p)) (Pod p) there) in
      let named : is_empty name ≡ false = ap is_empty a.named ∙ node_named a.node (rows_are_valid setup past pass (node_key a.node.meta.name) (Node a.node) a.first.there) in
      let bind = BindPod (key_of (Pod p)) uid.uid name in
      let lowers = assign_pays setup (world setup past) seats.Scheduler p uid.uid name order there unscheduled named in
      from_begun setup seat (key_of (Pod p)) (WillPay setup seat seats.Scheduler past) op call (bind ∷ []) (begins ∙ ap (λ u. begun_with (binding p u name)) uid.is) asks
      (λ at. subst (λ r. WillPay setup seat seats.Scheduler past (at_call setup seat (key_of (Pod p)) (bind ∷ []) 0 r)) (one bind call at)
      (EachPays (lowering_pays setup (world setup past) seats.Scheduler bind refl lowers) (λ next e. let m = next_of setup seat (key_of (Pod p)) (bind ∷ []) 0 bind _ next e in none_some m.there)))

  prepares : (name : List ℕ) (binds : List (Key × Key)) (provisions : List Key) → IsChoice rows p last (Prepare name binds provisions)
      → Some op ≡ begun_with (writes_for rows p (Prepare name binds provisions)) → WillPay setup seat seats.Scheduler past (at_pod op)
  prepares name binds provisions f begins =
      let search = search_of rows p last name binds provisions f in
      let n = search.prepared.node in
      let shares = search.prepared.prepares.shares in
      let are = search.prepared.prepares.serves.shared in
      let others = others_in rows (claims_of rows p) in
      let nodes = placed_of others shares in
      let stand = others_stored rows p in
      let sought = others_sought rows p (all_known rows p known) search.here in
      let open_ = all_open rows others (others_seek rows p search.whole search.here) sought in
      let apart = others_apart rows p (claims_once p (rows_are_valid setup past pass (key_of (Pod p)) (Pod p) there)) in
      let writes = refs_in rows n others shares (set_aside rows) are ++ map (placing name) nodes in
      let provided : provisions ≡ map (λ c. key_of (Claim c)) nodes = search.prepared.prepares.provisions_are ∙ provisions_are others shares in
      let taken_are : present (map (bind_write rows) binds) ≡ refs_in rows n others shares (set_aside rows) are =
      ap (λ bs. present (map (bind_write rows) bs)) search.prepared.prepares.binds_are ∙ refs_are rows order n others shares (set_aside rows) are stand in
      let placed_are : present (map (node_write rows name) provisions) ≡ map (placing name) nodes =
      ap (λ ks. present (map (node_write rows name) ks)) provided ∙ node_writes rows name nodes (each_placed (Stands rows) others shares stand) in
      let writes_are : writes_for rows p (Prepare name binds provisions) ≡ writes =
      written rows order p known last name binds provisions ∙ (present_both (map (bind_write rows) binds) (map (node_write rows name) provisions) ∙ (λ i. taken_are i ++ placed_are i)) in
      from_begun setup seat (key_of (Pod p)) (WillPay setup seat seats.Scheduler past) op call writes (begins ∙ ap begun_with writes_are) asks
      (λ at. takes_pay setup seat (key_of (Pod p)) writes pass name rows order n nodes (each_placed (Stands rows) others shares stand)
      (each_placed IsOpen others shares open_) (placed_apart others shares apart) others shares (set_aside rows) are 0 past
      (record {
        claims = λ c. refl;
        volumes = λ place v spot out. row_at_place kinds.PersistentVolume place (Volume v) rows order spot;
        uncarried =
            all_free rows others sought;
      }) stand open_ apart (all_from writes) call at)

  begins_by : (choice : Choice) → IsChoice rows p last choice → Some op ≡ begun_with (writes_for rows p choice) → WillPay setup seat seats.Scheduler past (at_pod op)
  begins_by (Assign name) f begins = assigns name f begins
  begins_by (Prepare name binds provisions) f begins = prepares name binds provisions f begins
  begins_by Wait f begins = none_some (sym begins)
  begins_by NoNode f begins = none_some (sym begins)

pub schedulers_pay : SchedulersPay
schedulers_pay setup past seat p refused op call pass there begins asks = by (is_scheduled p) refl begins
  where
    by : (b : Bool) → is_scheduled p ≡ b → BeginsIf b (world setup past).store.rows refused p (Some op)
        → WillPay setup seat seats.Scheduler past (record { key = key_of (Pod p); task = tasks.Schedule op; call = call })
    by true e b = none_some (sym b)
    by false e b = begins_by setup past seat p pass there e (last_refused (world setup past).store.rows p refused) op call asks b.choice b.chosen b.begins
