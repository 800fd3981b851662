-- Behind the scheduler's slot of a quiet round: what it remembers of the claims that it wrote.
use Rattle.std.proofs.Common.{◌≡◌, ◌∙◌, ℕ, ◌-◌, List, [], ◌∷◌, ◌++◌, append_assoc, Bool, true, false, Some, inl, inr, refl, sym, ap, subst}
use Rattle.std.proofs.lemmas.List.{append_cancel_right}
use Rattle.std.specs.Prelude.{is_some, slice_get}
use Rattle.std.proofs.lemmas.Bool.{and_parts}
use Rattle.kube_objects.specs.declared.key.Key.{Key}
use Rattle.kube_parts.specs.declared.uid.Uid.{Uid}
use Rattle.kube_parts.specs.declared.names.Due.TheVariants as dues
use Rattle.kube_objects.specs.declared.objects.Claim.{Claim as ClaimData}
use Rattle.kube_objects.specs.declared.objects.Object.TheVariants.{Claim}
use Rattle.kube_objects.specs.Bindings.{has_key, selected_node}
use Rattle.kube_objects.specs.Keys.{key_of, row_at}
use Rattle.kube_objects.proofs.KeyOrder.{row_at_key}
use Rattle.call_types.specs.declared.entry.Entry.{Entry}
use Rattle.call_types.specs.declared.request.SeatKind.{SeatKind}
use Rattle.call_types.specs.declared.request.SeatKind.TheVariants as seats
use Rattle.call_types.specs.declared.setup.Setup.{Setup}
use Rattle.binder_model.specs.Due.{provision_due}
use Rattle.binder_model.specs.Promises.{IsRunOf}
use Rattle.binder_model.specs.Reading.{follows}
use Rattle.binder_model.specs.Told.{ToldObject, newest, object_of, own}
use Rattle.binder_model.specs.World.{world}
use Rattle.model_laws.proofs.Growing.{runs_are_histories}
use Rattle.model_laws.proofs.Lists.{one}
use Rattle.model_laws.proofs.Newest.{newest_told}
use Rattle.pod_scheduler.specs.Tries.{node_selected_for, tries_of}
use Rattle.worker_core.specs.declared.role.Role.{Role}
use Rattle.worker_core.specs.Absorbs.{woken}
use Rattle.worker_core.specs.Roles.{IsBuiltKind}
use Rattle.actor_rounds.specs.declared.drainers.Drainer.{Drainer}
use Rattle.actor_rounds.specs.Drainers.{AreRoles, StandsWhole, of_kind, roles_of, seats_of}
use Rattle.actor_rounds.specs.Longer.{AreToldOf, GrowsWithin, HasGrown}
use Rattle.actor_rounds.specs.Rounds.{Ends, IsRound, Runs, Turns, all_pass}
use Rattle.actor_rounds.proofs.Entries.{grown_others}
use Rattle.actor_rounds.proofs.RoundFacts.{round_grows}
use Rattle.actor_rounds.proofs.RunFacts.{run_grows, run_role}
use Rattle.settle_writes.specs.Writes.Lasting.{content_of}
use Rattle.settle_slot.specs.Slot.Slots.{SeesStore}
use Rattle.settle_slot.proofs.Slot.Slots.{others_stay_awake}
use Rattle.settle_alike.specs.Near.Near.{AreNear}
use Rattle.settle_alike.proofs.Near.Near.{claim_near, near_provisions}
use Rattle.settle_progress.proofs.Epochs.Silent.{Differ, not_again}
use Rattle.settle_progress.proofs.Drains.Rounds.{is_agent, not_agent}
use Rattle.settle_budget.proofs.Drains.Counting.{settles_next}
use Rattle.settle_tries.specs.Tries.Deciding.{IsWithin}
use Rattle.settle_tries.specs.Tries.Quiet.{AreCached, IsQuietRound, OnlyPrepares}
use Rattle.settle_tries.proofs.Slots.Caching.{sees_at_end}
use Rattle.settle_tries.proofs.Moves.Moving.{AreOfKind, one_node_so}
use Rattle.settle_tries.proofs.Moves.Parts.{HasParts, HasSlot, IsAny, rest_of_roles, role_or, roles_behind}
use Rattle.settle_tries.proofs.Moves.Points.{near_ahead, near_behind, run_kinds, run_within}
use Rattle.settle_tries.proofs.Quiet.Quiet.{all_paid, at_first, at_second, near_first, ops_idle, ops_paid, ops_stays, second_order, second_run, stands_alike, stays_up, tail_alike}
use Rattle.settle_tries.proofs.Quiet.Giving.{none_due}
use Rattle.settle_tries.proofs.Quiet.Taking.{taken_were_due}
use Rattle.settle_tries.specs.Tries.Waiting.{IsSlotOf}
use Rattle.settle_tries.proofs.Memory.Memory.{Stands}
use Rattle.settle_tries.proofs.Memory.Selected.{WasPut, stands_selected, was_put}

-- ---- the parts of a round whose first slot is known

pub slot_first : (past : List Entry) (left : ℕ) (ds : List Drainer) (h : List Entry) (b : ℕ) (after : List Drainer) (whole : Bool)
    → IsRound all_pass past left ds h b after whole → whole ≡ true → IsAny (roles_of ds) → HasSlot all_pass past left ds h b after
slot_first past left _ h b _ _ (Ends entries rest) is_whole any = absurd any
slot_first past left _ h b _ _ (Turns {ds = ds} {after = after} {whole = whole} d ran middle rest idle seat runs more) is_whole any =
    let parts = and_parts idle whole is_whole in
    record {
      drainer = d;
      ran = ran;
      behind = ds;
      later = after;
      middle = middle;
      rest = rest;
      ds_are = refl;
      after_are = refl;
      seat = seat;
      runs = subst (λ i. Runs all_pass d.seat ran.actor middle rest i (woken d.actor) h b) parts.0 runs;
      round = subst (λ w. IsRound all_pass past left ds middle rest after w) parts.1 more;
    }

abbrev pub parts_with : (ds after : List Drainer) (h past : List Entry) (b left : ℕ) (first : Drainer) (slot : List Entry) → AreRoles (roles_of ds)
    → IsSlotOf ds after h past b left first slot → HasParts all_pass past left ds h b after
parts_with ds after h past b left first slot roles s =
    let front : HasSlot all_pass past left ds h b after =
    record {
      drainer = first;
      ran = s.ran;
      behind = s.others;
      later = s.later;
      middle = slot;
      rest = s.rest;
      ds_are = s.ds_are;
      after_are =
          s.after_are;
      seat = s.seat;
      runs = s.runs;
      round = s.round;
    } in
    let split : first.actor.role ∷ roles_of s.others ≡ of_kind seats.Scheduler ∷ of_kind seats.Ops ∷ roles_behind roles.nodes = sym (ap roles_of s.ds_are) ∙ roles.are in
    let behind : roles_of s.others ≡ of_kind seats.Ops ∷ roles_behind roles.nodes = ap rest_of_roles split in
    let second = slot_first past left s.others slot s.rest s.later true s.round refl (subst IsAny (sym behind) tt) in
    let again : second.drainer.actor.role ∷ roles_of second.behind ≡ of_kind seats.Ops ∷ roles_behind roles.nodes = sym (ap roles_of second.ds_are) ∙ behind in
    record { first = front; second = second; nodes = roles.nodes; scheduler = ap (role_or first.actor.role) split; ops = ap (role_or second.drainer.actor.role) again; others = ap rest_of_roles again }

-- ---- who calls

record ToldBy (seat : ℕ) (e : Entry) : Type 0 where
  of_seat : e.seat ≡ seat
  told : e.told ≡ true

told_by : (seat : ℕ) (ahead : List Entry) (e : Entry) (behind : List Entry) → AreToldOf (seat ∷ []) (ahead ++ (e ∷ behind)) → ToldBy seat e
told_by seat [] e behind t = record { of_seat = elim t.0 [ inl is ↦ sym is | inr none ↦ absurd none ]; told = t.1 }
told_by seat (x ∷ ahead) e behind t = told_by seat ahead e behind t.2

kind_at : (kind : SeatKind) (ahead : List Entry) (e : Entry) (behind : List Entry) → AreOfKind kind (ahead ++ (e ∷ behind)) → e.kind ≡ kind
kind_at kind [] e behind k = k.0
kind_at kind (x ∷ ahead) e behind k = kind_at kind ahead e behind k.1

-- ---- a quiet round

module _ (setup : Setup) (ds after : List Drainer) (h past : List Entry) (b left : ℕ) (q : IsQuietRound setup ds after h past b left)
    (cached : AreCached setup ds h) (first : Drainer) (slot : List Entry) (s : IsSlotOf ds after h past b left first slot) where
  abbrev parts : HasParts all_pass past left ds h b after
  parts = parts_with ds after h past b left first slot q.may.may.stand.roles s

  pub slot_within : IsWithin h slot past
  slot_within = at_first setup ds after h past b left q parts

  pub slot_run : IsRunOf setup slot
  slot_run = run_within setup h past q.run q.order (all_paid setup ds after h past b left q parts) (stays_up setup ds after h past b left q parts) slot slot_within

  -- worlds of the round are near
  pub slot_ahead : (x : List Entry) → IsWithin h x past → AreNear (world setup x) (world setup past)
  slot_ahead x w = near_ahead setup h past q.run q.order (all_paid setup ds after h past b left q parts) (stays_up setup ds after h past b left q parts) x w

  pub slot_behind : (x : List Entry) → IsWithin h x past → AreNear (world setup h) (world setup x)
  slot_behind x w = near_behind setup h past q.run q.order (all_paid setup ds after h past b left q parts) (stays_up setup ds after h past b left q parts) x w

  pub point_run : (x : List Entry) → IsWithin h x past → IsRunOf setup x
  point_run x w = run_within setup h past q.run q.order (all_paid setup ds after h past b left q parts) (stays_up setup ds after h past b left q parts) x w

  pub first_kind : first.actor.role.kind ≡ seats.Scheduler
  first_kind = ap (λ (r : Role). r.kind) parts.scheduler

  -- behind its slot the scheduler calls no more
  pub own_same : own first.seat past ≡ own first.seat slot
  own_same = grown_others (seats_of s.others) slot past grown first.seat (not_again first.seat (seats_of s.others) (subst Differ (ap seats_of s.ds_are) q.may.may.seats.differ))
    where
      grown : HasGrown (seats_of s.others) slot past
      grown = let g = round_grows all_pass past left s.others slot s.rest s.later true s.round in record { made = g.made; longer = g.longer }

  -- it stands for its entries, and sees the store there
  pub slot_told : (k : Key) (c : ClaimData) → row_at k (world setup slot).store.rows ≡ Some (Claim c) → ToldObject (λ o. o ≡ Claim c) (own first.seat slot)
  slot_told k c there =
      let next = settles_next setup ds after h past b left q.may q.run q.round in
      let stands : StandsWhole s.ran.actor (own s.ran.seat past) = next.may.stand.each 0 s.ran (ap (λ xs. slice_get xs 0) s.after_are) in
      let sees : SeesStore setup s.ran.actor slot =
      sees_at_end setup all_pass first.seat first.actor s.ran.actor h slot b s.rest (subst IsBuiltKind (sym first_kind) tt) (runs_are_histories setup slot slot_run.run)
      (others_stay_awake all_pass first.seat (woken first.actor) s.ran.actor h slot b s.rest (not_agent _ (ap is_agent first_kind)) s.runs) s.runs in
      let mine : own s.ran.seat past ≡ own first.seat slot = ap (λ n. own n past) s.seat ∙ own_same in
      let newest_is : object_of (newest (own first.seat slot) k) ≡ Some (Claim c) = ap (λ m. object_of (newest m k)) (sym mine) ∙ (sym (stands.told.caches.rows k) ∙ (sees k follows_it ∙ there)) in
      newest_told (own first.seat slot) k (Claim c) newest_is
    where
      follows_it : follows s.ran.actor.role.kind k.kind ≡ true
      follows_it = ap (λ kind. follows kind k.kind) (ap (λ (r : Role). r.kind) (run_role all_pass first.seat s.ran.actor slot s.rest true (woken first.actor) h b s.runs) ∙ first_kind)

  -- a claim from which ops takes a node back was written in the scheduler's slot
  module _ (only : OnlyPrepares setup (world setup h)) (k : Key) (c d : ClaimData) (there : row_at k (world setup slot).store.rows ≡ Some (Claim c))
      (has : has_key selected_node c.meta.annotations ≡ true) (taken : row_at k (world setup past).store.rows ≡ Some (Claim d)) (none : has_key selected_node d.meta.annotations ≡ false) where
    was_due : provision_due setup (world setup slot) c ≡ Some dues.ClearNode
    was_due =
        let alike = tail_alike setup ds after h past b left q parts in
        let a = stands_alike setup parts.second.middle past k (Claim d) alike taken in
        let n =
        claim_near (world setup parts.second.middle) (world setup past) k d
        (near_ahead setup h past q.run q.order (all_paid setup ds after h past b left q parts)
        (stays_up setup ds after h past b left q parts) parts.second.middle (at_second setup ds after h past b left q parts)) taken in
        let same : content_of (Claim n.claim) ≡ content_of (Claim d) = sym (ap content_of (one a.object (Claim n.claim) (sym a.there ∙ n.there))) ∙ a.same in
        taken_were_due setup parts.second.drainer.seat parts.second.drainer.actor parts.second.ran.actor slot parts.second.middle s.rest
        parts.second.rest true k c n.claim (ap (λ (r : Role). r.kind) parts.ops) (second_run setup ds after h past b left q parts)
        (second_order setup ds after h past b left q parts) (ops_idle setup ds after h past b left q parts cached) parts.second.runs
        (ops_paid setup ds after h past b left q parts) (ops_stays setup ds after h past b left q parts) there n.there has (ap is_some (one_node_so n.claim d same) ∙ none)

    pub not_so : (x : ClaimData) → row_at k (world setup h).store.rows ≡ Some (Claim x) → content_of (Claim x) ≡ content_of (Claim c) → ⊥
    not_so x before same = none_due setup h k x dues.ClearNode only before (near_provisions setup (world setup h) (world setup slot) x c
        (near_first setup ds after h past b left q parts cached) same ∙ was_due)

    pub slot_stands : (uid : Uid) (node : List ℕ) → c.meta.uid ≡ Some uid → node_selected_for c ≡ Some node → Stands uid (tries_of (own first.seat slot))
    slot_stands uid node known on = elim (was_put setup k c grown.longer.added h (ap (λ es. row_at k (world setup es).store.rows) (sym grown.longer.are) ∙ there)) [
      | inl before ↦ absurd (not_so c before refl)
      | inr w ↦ put w
    ]
      where
        grown : GrowsWithin (first.seat ∷ []) (b - s.rest) h slot
        grown = run_grows all_pass first.seat s.ran.actor slot s.rest true (woken first.actor) h b s.runs

        kinds : AreOfKind seats.Scheduler grown.longer.added
        kinds =
            let of_kind_ = run_kinds all_pass first.seat seats.Scheduler s.ran.actor slot s.rest true (woken first.actor) h b s.runs first_kind in
            subst (AreOfKind seats.Scheduler) (append_cancel_right of_kind_.newer grown.longer.added h (sym of_kind_.are ∙ grown.longer.are)) of_kind_.kinds

        put : WasPut setup grown.longer.added h c → Stands uid (tries_of (own first.seat slot))
        put w =
            let by = told_by first.seat w.ahead w.entry w.behind (subst (AreToldOf (first.seat ∷ [])) w.are grown.longer.of_seats) in
            let are : slot ≡ w.ahead ++ (w.entry ∷ w.behind ++ h) = grown.longer.are ∙ (ap (λ es. es ++ h) w.are ∙ append_assoc w.ahead (w.entry ∷ w.behind) h) in
            let stands : row_at (key_of (Claim c)) (world setup slot).store.rows ≡ Some (Claim c) =
            ap (λ j. row_at j (world setup slot).store.rows) (row_at_key k (Claim c) (world setup slot).store.rows there) ∙ there in
            stands_selected setup first.seat uid c known slot slot_run stands w.ahead (w.behind ++ h) w.entry are by.of_seat by.told
            (kind_at seats.Scheduler w.ahead w.entry w.behind (subst (AreOfKind seats.Scheduler) w.are kinds)) w.put node on
