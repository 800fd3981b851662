-- A node is written on claims one by one: a write that does not last leaves the others to be written, and one on a claim without a node lasts.
use Rattle.std.proofs.Common.{◌≡◌, ◌≢◌, ◌∙◌, ◌⊎◌, ℕ, suc, ◌+◌, List, [], ◌∷◌, Bool, true, false, Some, None, inl, inr, refl, sym, ap, subst, arith, length}
use Rattle.std.specs.Prelude.{◌==◌, ◌&&◌, bytes_eq, map, nat_lt, not, slice_get}
use Rattle.std.proofs.lemmas.Bool.Decides.{nat_tests}
use Rattle.std.proofs.lemmas.Option.{slice_get_within}
use Rattle.std.proofs.lemmas.Slice.Eq.{bytes_eq-Decides}
use Rattle.std.proofs.lemmas.Bool.{and_right}
use Rattle.plain_data.specs.Pairs.{put_pair, value_at}
use Rattle.kube_objects.specs.declared.key.Key.{Key}
use Rattle.kube_objects.specs.declared.objects.Meta.{Meta}
use Rattle.kube_objects.specs.declared.objects.Claim.{Claim as ClaimData}
use Rattle.kube_objects.specs.declared.objects.Object.{Object}
use Rattle.kube_objects.specs.declared.objects.Object.TheVariants.{Claim}
use Rattle.kube_objects.specs.Bindings.{is_deleting, is_empty, selected_node}
use Rattle.kube_objects.specs.Keys.{key_of, row_at}
use Rattle.kube_objects.proofs.KeyOrder.{row_at-put_row_other}
use Rattle.call_types.specs.declared.entry.Entry.{Entry}
use Rattle.call_types.specs.declared.reply.Reply.TheVariants.{Done}
use Rattle.call_types.specs.declared.request.Request.{Request}
use Rattle.call_types.specs.declared.request.SeatKind.{SeatKind}
use Rattle.call_types.specs.declared.request.SeatKind.TheVariants as seats
use Rattle.call_types.specs.declared.setup.Setup.{Setup}
use Rattle.binder_model.specs.Answers.{after, guard_on, is_other_version, is_user, outcome, refuse, refuse_field, refuse_rule, reply_of, update, write_of, write_outcome}
use Rattle.binder_model.specs.Devices.{device_answer}
use Rattle.binder_model.specs.Fields.{update_fault}
use Rattle.binder_model.specs.Imports.{ImportsPass}
use Rattle.binder_model.specs.Store.{leaves, updated_object, with_meta, with_status_of}
use Rattle.binder_model.specs.World.{Effect, OnStore, World, effect, log_after, on_devices, reply_to, world, world_after}
use Rattle.model_laws.proofs.Histories.{rows_stand_in_order}
use Rattle.model_laws.proofs.Lists.{none_some}
use Rattle.delayed_binding.specs.Writes.{placed_on}
use Rattle.delayed_binding.proofs.Known.{AreApart, Differ, Each, IsStored as Stands}
use Rattle.pod_scheduler.specs.Schedules.{schedule_call, schedule_moved}
use Rattle.pod_scheduler.specs.declared.schedule.ScheduleStep.TheVariants as steps
use Rattle.worker_core.specs.declared.role.Role.{Role}
use Rattle.worker_core.specs.declared.task.Task.TheVariants as tasks
use Rattle.worker_core.specs.declared.task.Under.{Under}
use Rattle.worker_core.specs.Tasks.{under_after}
use Rattle.settle_writes.specs.Writes.Lasting.{IsLastingWrite}
use Rattle.settle_writes.specs.Writes.Writes.{IsStored}
use Rattle.settle_writes.proofs.Writes.Claims.{node_lasts}
use Rattle.settle_writes.proofs.Writes.Fitting.{adds_none, claim_facts, claim_fits, class_kept}
use Rattle.settle_alike.specs.Alike.Alike.{AreAlike}
use Rattle.settle_alike.proofs.Alike.Calls.{LastsOrAlike, calls_last_or_leave_alike, then_alike}
use Rattle.settle_slot.specs.Slot.Slots.{own_entry}
use Rattle.settle_slot.specs.Slot.Would.{AtOnce, Later, WouldLast}
use Rattle.settle_due.proofs.Upkeep.Deciding.{stored}
use Rattle.settle_due.specs.Scheduling.Writes.{placing}

-- one of the claims has no node
abbrev pub SomeOpen : List ClaimData → Type 0
SomeOpen [] = ⊥
SomeOpen (c ∷ cs) = (value_at selected_node c.meta.annotations ≡ None) ⊎ SomeOpen cs

same_version : (n : ℕ) → is_other_version (Some n) n ≡ false
same_version n = let e : (n == n) ≡ true = grind (arith, nat_tests) in ap not e

-- what the write comes to
module _ (setup : Setup) (w : World) (name : List ℕ) (c : ClaimData) (s : IsStored w (Claim c)) where
  abbrev pub placed : Object
  placed = updated_object (Claim c) (Claim (placed_on name c)) (w.store.version + 1)

  fits : update_fault (Claim c) (Claim (placed_on name c)) ≡ None
  fits =
      let m : Meta = record c.meta { annotations = put_pair selected_node name c.meta.annotations } in
      claim_fits c m c.volume_name c.class s.valid refl refl (class_kept c m c.volume_name) named_alike (claim_facts c s.valid).once (and_right (is_deleting c.meta) _ (adds_none c.meta.finalizers))
    where
      named_alike : (not (is_empty c.volume_name) && not (bytes_eq c.volume_name c.volume_name)) ≡ false
      named_alike = let e : bytes_eq c.volume_name c.volume_name ≡ true = (bytes_eq-Decides c.volume_name c.volume_name).1 refl in and_right (not (is_empty c.volume_name)) _ (ap not e)

  by_scheduler : effect setup w seats.Scheduler (placing name c) ≡ OnStore (write_outcome placed)
  unfolding effect on_devices device_answer outcome update refuse refuse_rule refuse_field guard_on
  by_scheduler = rw (s.there, same_version c.meta.version, fits) refl

  module _ (kind : SeatKind) (is : kind ≡ seats.Scheduler) where
    pub comes_to : (b : Bool) → leaves placed ≡ b → effect setup w kind (placing name c) ≡ OnStore (write_of placed b)
    comes_to b e = subst (λ k. effect setup w k (placing name c) ≡ OnStore (write_of placed b)) (sym is) (by_scheduler ∙ ap (λ x. OnStore (write_of placed x)) e)

    -- the claim leaves, which lasts
    pub leaving : leaves placed ≡ true → IsLastingWrite w.store.rows (reply_to (effect setup w kind (placing name c)))
    unfolding reply_to reply_of
    leaving e = subst (λ x. IsLastingWrite w.store.rows (reply_to x)) (sym (comes_to true e)) tt

    -- or it stays, and the others are as they were
    pub staying : leaves placed ≡ false → (new : ClaimData) × (reply_to (effect setup w kind (placing name c)) ≡ Done (Claim new))
    unfolding reply_to reply_of updated_object with_meta with_status_of
    staying e = (_, ap reply_to (comes_to false e))

    pub others_stay : leaves placed ≡ false → (k : Key) → key_of (Claim c) ≢ k → row_at k (world_after w (effect setup w kind (placing name c))).store.rows ≡ row_at k w.store.rows
    unfolding world_after after log_after updated_object with_meta with_status_of
    others_stay e k differs = ap (λ (x : Effect). row_at k (world_after w x).store.rows) (comes_to false e) ∙ row_at-put_row_other k placed w.store.rows differs

-- the writes from a place on
module _ (writes : List Request) where
  abbrev pub AreFrom : ℕ → List Request → Type 0
  AreFrom place rest = (i : ℕ) → slice_get writes (place + i) ≡ slice_get rest i

  pub later_from : (place : ℕ) (r : Request) (rest : List Request) → AreFrom place (r ∷ rest) → AreFrom (place + 1) rest
  later_from place r rest are i = let same : place + 1 + i ≡ place + suc i = omega arith in ap (slice_get writes) same ∙ are (suc i)

  pub at_from : (place : ℕ) (rest : List Request) → AreFrom place rest → slice_get writes place ≡ slice_get rest 0
  at_from place rest are = let same : place ≡ place + 0 = omega arith in ap (slice_get writes) same ∙ are 0

  pub all_from : AreFrom 0 writes
  all_from i = let same : 0 + i ≡ i = omega arith in ap (slice_get writes) same

-- claims stand where one with another key was written
pub still_stand : (old new : List Object) (c : ClaimData) (cs : List ClaimData) → ((k : Key) → key_of (Claim c) ≢ k → row_at k new ≡ row_at k old)
    → Each (Differ c) cs → Each (Stands old) cs → Each (Stands new) cs
still_stand old new c [] kept apart stand = tt
still_stand old new c (d ∷ ds) kept apart stand = (kept (key_of (Claim d)) apart.0 ∙ stand.0, still_stand old new c ds kept apart.1 stand.1)

module _ (key : Key) (name : List ℕ) (writes : List Request) where
  -- the machine of the pod, before the write of this claim
  abbrev pub at_place : ℕ → ClaimData → Under
  at_place place c = record { key = key; task = tasks.Schedule (record { writes = writes; step = steps.Writes place }); call = placing name c }

  -- a write that was done leads to the next
  pub goes_on : (place : ℕ) (c d new : ClaimData) → slice_get writes place ≡ Some (placing name c)
      → slice_get writes (place + 1) ≡ Some (placing name d) → under_after (at_place place c) (Done (Claim new)) ≡ Some (at_place (place + 1) d)
  unfolding schedule_call schedule_moved
  goes_on place c d new here next =
      let within = slice_get_within writes place (placing name c) here in
      let below : nat_lt place (length writes) ≡ true = grind (arith, nat_tests, within) in
      rw (below, next) refl

module _ (setup : Setup) (seat : ℕ) (role : Role) (start : List Entry) (key : Key) (pass : ImportsPass setup.imports) (kind : role.kind ≡ seats.Scheduler)
    (name : List ℕ) (writes : List Request) where
  controller : is_user role.kind ≡ false
  controller = ap is_user kind

  pub places_last : (c : ClaimData) (cs : List ClaimData) (place : ℕ) (h : List Entry) → AreAlike (world setup start) (world setup h)
      → AreFrom writes place (map (placing name) (c ∷ cs)) → Each (Stands (world setup h).store.rows) (c ∷ cs) → AreApart (c ∷ cs)
      → SomeOpen (c ∷ cs) → WouldLast setup seat role.kind start h (at_place key name writes place c)
  places_last c cs place h alike are stand apart (inl open_) =
      AtOnce alike (node_lasts setup (world setup h) role.kind c name controller (stored setup h (key_of (Claim c)) (Claim c) pass stand.0) (λ e. none_some (sym open_ ∙ e)))
  places_last c [] place h alike are stand apart (inr none) = absurd none
  places_last c (d ∷ ds) place h alike are stand apart (inr more) =
      by_leaving (leaves (placed setup (world setup h) name c on_store)) refl
      (λ alike_next stand_next. places_last d ds (place + 1) (own_entry setup seat role.kind h (placing name c) ∷ h) alike_next
      (later_from writes place (placing name c) (map (placing name) (d ∷ ds)) are) stand_next apart.1 more)
    where
      on_store : IsStored (world setup h) (Claim c)
      on_store = stored setup h (key_of (Claim c)) (Claim c) pass stand.0

      by_leaving : (b : Bool) → leaves (placed setup (world setup h) name c on_store) ≡ b
          → (AreAlike (world setup start) (world setup (own_entry setup seat role.kind h (placing name c) ∷ h))
          → Each (Stands (world setup (own_entry setup seat role.kind h (placing name c) ∷ h)).store.rows) (d ∷ ds)
          → WouldLast setup seat role.kind start (own_entry setup seat role.kind h (placing name c) ∷ h) (at_place key name writes (place + 1) d))
          → WouldLast setup seat role.kind start h (at_place key name writes place c)
      by_leaving true e rest = AtOnce alike (inl (leaving setup (world setup h) name c on_store role.kind kind e))
      by_leaving false e rest = by (calls_last_or_leave_alike setup (world setup h) role.kind (placing name c) (rows_stand_in_order setup h))
        where
          by : LastsOrAlike (world setup h) (effect setup (world setup h) role.kind (placing name c)) → WouldLast setup seat role.kind start h (at_place key name writes place c)
          by (inl lasts) = AtOnce alike lasts
          by (inr same) =
              let said = staying setup (world setup h) name c on_store role.kind kind e in
              let here = at_from writes place (map (placing name) (c ∷ d ∷ ds)) are in
              let after_it = at_from writes (place + 1) (map (placing name) (d ∷ ds)) (later_from writes place (placing name c) (map (placing name) (d ∷ ds)) are) in
              Later alike (at_place key name writes (place + 1) d) (ap (under_after (at_place key name writes place c)) said.1 ∙ goes_on key name writes place c d said.0 here after_it)
              (rest (then_alike _ _ _ alike same) (still_stand (world setup h).store.rows
              (world setup (own_entry setup seat role.kind h (placing name c) ∷ h)).store.rows c (d ∷ ds) (others_stay setup (world setup h) name c on_store role.kind kind e) apart.0 stand.1))
