-- A claim that needs no volume keeps its node in a quiet round.
use Rattle.std.proofs.Common.{◌≡◌, ◌≢◌, ◌∙◌, ◌⊎◌, ℕ, ◌≤◌, ◌+◌, List, [], ◌∷◌, ◌++◌, append_assoc, Bool, true, false, true≢false, Some, inl, inr, refl, sym, ap, subst, arith}
use Rattle.std.proofs.lemmas.List.{append_cancel_right}
use Rattle.std.specs.Prelude.{is_some, map, ⊤}
use Rattle.kube_objects.specs.declared.key.Key.{Key}
use Rattle.kube_objects.specs.declared.objects.Claim.{Claim as ClaimData}
use Rattle.kube_objects.specs.declared.objects.Object.TheVariants.{Claim}
use Rattle.kube_objects.specs.Bindings.{has_key, selected_node}
use Rattle.kube_objects.specs.Keys.{key_of, row_at}
use Rattle.kube_objects.proofs.KeyOrder.{row_at_key}
use Rattle.call_types.specs.declared.entry.Entry.{Entry}
use Rattle.call_types.specs.declared.request.Request.{Request}
use Rattle.call_types.specs.declared.request.Request.TheVariants.{BindPod, Update}
use Rattle.call_types.specs.declared.request.SeatKind.{SeatKind}
use Rattle.call_types.specs.declared.request.SeatKind.TheVariants as seats
use Rattle.call_types.specs.declared.setup.Setup.{Setup}
use Rattle.binder_model.specs.Choice.{is_other, others_of}
use Rattle.binder_model.specs.Licence.{Licensed}
use Rattle.binder_model.specs.Promises.{IsRunOf}
use Rattle.binder_model.specs.Run.{Run}
use Rattle.binder_model.specs.Told.{own}
use Rattle.binder_model.specs.World.{effect, world}
use Rattle.delayed_binding.specs.Writes.{placed_on}
use Rattle.delayed_binding.proofs.Known.{IsSought, others_sought}
use Rattle.settle_due.proofs.Upkeep.Known.{rows_known}
use Rattle.model_laws.proofs.Identity.{key-updated}
use Rattle.pod_scheduler.proofs.Begun.{all_known}
use Rattle.settle_due.proofs.Scheduling.Choosing.{claims_known}
use Rattle.model_laws.proofs.Growing.{older_parts_are_runs, runs_are_histories}
use Rattle.model_laws.proofs.Histories.{rows_stand_in_order}
use Rattle.model_laws.proofs.Lists.{one}
use Rattle.safety_law.specs.Invariant.Writes.{EffectOf, Writes}
use Rattle.safety_law.proofs.Invariant.Effects.{effect_form}
use Rattle.settle_measure.specs.Left.Measure.{work_left}
use Rattle.worker_core.specs.declared.role.Role.{Role}
use Rattle.worker_core.specs.Absorbs.{woken}
use Rattle.worker_core.specs.Roles.{IsBuiltKind}
use Rattle.actor_rounds.specs.declared.drainers.Drainer.{Drainer}
use Rattle.actor_rounds.specs.Drainers.{agent_of, roles_of}
use Rattle.actor_rounds.specs.Rounds.{Ends, IsRound, Turns, all_pass}
use Rattle.settle_writes.specs.Writes.Lasting.{Lasts, content_of}
use Rattle.settle_alike.proofs.Alike.Calls.{LastsOrAlike, calls_last_or_leave_alike}
use Rattle.settle_alike.proofs.Alike.Equal.{object_known}
use Rattle.settle_pays.specs.Pays.Pays.{HavePaid}
use Rattle.settle_pays.proofs.Pays.Entries.{paid_is_less}
use Rattle.settle_budget.specs.Drains.Budget.{AreAlwaysInOrder}
use Rattle.settle_alike.specs.Near.Near.{AreNear}
use Rattle.settle_alike.proofs.Near.Near.{ClaimNear, claim_near, claim_or}
use Rattle.settle_slot.specs.Slot.Slots.{own_entry}
use Rattle.settle_tries.specs.Tries.Coming.{IsCallOf}
use Rattle.settle_tries.specs.Tries.Deciding.{IsWithin}
use Rattle.settle_tries.specs.Tries.Moving.{MovesBy, StoodSo}
use Rattle.settle_tries.specs.Tries.Quiet.{AreCached, IsQuietRound, OnlyPrepares}
use Rattle.settle_tries.proofs.Slots.Coming.{lasting_are_decided}
use Rattle.settle_tries.proofs.Moves.Moving.{AreOfKind, entries_move_nodes, one_node_so, paid_split, stood_alike}
use Rattle.settle_tries.proofs.Moves.Parts.{HasParts, rest_of_roles}
use Rattle.settle_tries.proofs.Moves.Points.{IsQuietAt, near_ahead, order_within, quiet_at, run_kinds, run_within}
use Rattle.settle_tries.proofs.Quiet.Quiet.{all_paid, is_scheduler, scheduler_idle, stands_alike, stays_up}
use Rattle.settle_tries.proofs.Search.Calling.{IsPlacing, calls_are, decided_within}
use Rattle.settle_tries.proofs.Search.Open.{each_in, open_is_other}
use Rattle.settle_tries.specs.Tries.Waiting.{IsSlotOf}
use Rattle.settle_tries.proofs.Moves.Near.{other_near}
use Rattle.settle_tries.proofs.Memory.Selected.{Updates, scheduler_updates}
use Rattle.settle_tries.proofs.Memory.Slot.{first_kind, not_so, parts_with, slot_run, slot_within}
use Rattle.settle_tries.proofs.Memory.Told.{IsPut, row_step}

-- ---- the kinds of those behind the scheduler

abbrev AreOthers : List Entry → Type 0
AreOthers [] = ⊤
AreOthers (e ∷ es) = (is_scheduler e.kind ≡ false) × AreOthers es

record HaveOthers (h past : List Entry) : Type 0 where
  newer : List Entry
  are : past ≡ newer ++ h
  others : AreOthers newer

others_both : (newer older : List Entry) → AreOthers newer → AreOthers older → AreOthers (newer ++ older)
others_both [] older new old = old
others_both (e ∷ newer) older new old = (new.0, others_both newer older new.1 old)

other_at : (newer : List Entry) (e : Entry) (older : List Entry) → AreOthers (newer ++ (e ∷ older)) → is_scheduler e.kind ≡ false
other_at [] e older are = are.0
other_at (x ∷ newer) e older are = other_at newer e older are.1

of_kind_others : (kind : SeatKind) (es : List Entry) → is_scheduler kind ≡ false → AreOfKind kind es → AreOthers es
of_kind_others kind [] other are = tt
of_kind_others kind (e ∷ es) other are = (ap is_scheduler are.0 ∙ other, of_kind_others kind es other are.1)

abbrev RolesOthers : List Role → Type 0
RolesOthers [] = ⊤
RolesOthers (role ∷ roles) = (is_scheduler role.kind ≡ false) × RolesOthers roles

agents_others : (nodes : List (List ℕ)) → RolesOthers (map agent_of nodes)
agents_others [] = tt
agents_others (node ∷ nodes) = (refl, agents_others nodes)

round_others : (past : List Entry) (left : ℕ) (ds : List Drainer) (h : List Entry) (b : ℕ) (after : List Drainer) (whole : Bool)
    → IsRound all_pass past left ds h b after whole → RolesOthers (roles_of ds) → HaveOthers h past
round_others past left _ h b _ _ (Ends entries rest) other = record { newer = []; are = entries; others = tt }
round_others past left _ h b _ _ (Turns {ds = ds} {after = after} {whole = whole} d ran middle rest idle seat runs more) other =
    let later = round_others past left ds middle rest after whole more other.1 in
    let slot = run_kinds all_pass d.seat d.actor.role.kind ran.actor middle rest idle (woken d.actor) h b runs refl in
    record {
      newer = later.newer ++ slot.newer;
      are = later.are ∙ (ap (λ es. later.newer ++ es) slot.are ∙ sym (append_assoc later.newer slot.newer h));
      others = others_both later.newer slot.newer later.others (of_kind_others d.actor.role.kind slot.newer other.0 slot.kinds);
    }

-- ---- a claim that needs no volume

module _ (setup : Setup) (ds after : List Drainer) (h past : List Entry) (b left : ℕ) (q : IsQuietRound setup ds after h past b left)
    (cached : AreCached setup ds h) (only : OnlyPrepares setup (world setup h)) (first : Drainer) (slot : List Entry) (s : IsSlotOf ds after h past b left first slot)
    (k : Key) (c : ClaimData) (there : row_at k (world setup slot).store.rows ≡ Some (Claim c)) (aside : is_other (world setup slot).store.rows c ≡ false) where
  abbrev parts : HasParts all_pass past left ds h b after
  parts = parts_with ds after h past b left first slot q.may.may.stand.roles s

  paid : HavePaid setup h past
  paid = all_paid setup ds after h past b left q parts

  up : work_left setup (world setup h) ≤ work_left setup (world setup past)
  up = stays_up setup ds after h past b left q parts

  at_slot : IsWithin h slot past
  at_slot = slot_within setup ds after h past b left q cached first slot s

  quiet_slot : IsQuietAt setup h slot past
  quiet_slot = quiet_at setup h past q.run q.order paid up slot at_slot

  order_slot : AreAlwaysInOrder setup slot
  order_slot = order_within setup h past q.run q.order paid up slot at_slot

  run_slot : IsRunOf setup slot
  run_slot = slot_run setup ds after h past b left q cached first slot s

  kind : first.actor.role.kind ≡ seats.Scheduler
  kind = first_kind setup ds after h past b left q cached first slot s

  near_slot : (x : List Entry) → IsWithin h x slot → AreNear (world setup x) (world setup slot)
  near_slot x w = near_ahead setup h slot run_slot order_slot quiet_slot.behind quiet_slot.down x w

  -- ---- in the scheduler's slot

  -- no entry of the slot changes it
  module _ (newer older : List Entry) (e : Entry) (are : slot ≡ newer ++ (e ∷ older ++ h)) (x y : ClaimData)
      (was : row_at k (world setup (older ++ h)).store.rows ≡ Some (Claim x))
      (is : row_at k (world setup (e ∷ older ++ h)).store.rows ≡ Some (Claim y)) (differs : content_of (Claim x) ≢ content_of (Claim y)) where
    lasts : Lasts setup (world setup (older ++ h)) e.kind e.request
    lasts = by (calls_last_or_leave_alike setup (world setup (older ++ h)) e.kind e.request (rows_stand_in_order setup (older ++ h)))
      where
        by : LastsOrAlike (world setup (older ++ h)) (effect setup (world setup (older ++ h)) e.kind e.request) → Lasts setup (world setup (older ++ h)) e.kind e.request
        by (inl l) = l
        by (inr alike) =
            let a = stands_alike setup (older ++ h) (e ∷ older ++ h) k (Claim y) alike is in
            absurd (differs (sym (ap content_of (one a.object (Claim x) (sym a.there ∙ was))) ∙ a.same))

    call : IsCallOf setup first.seat first.actor.role h e (older ++ h)
    call =
        lasting_are_decided setup first.seat first.actor s.ran.actor h slot b s.rest true newer older e (subst IsBuiltKind (sym kind) tt) run_slot
        (scheduler_idle setup ds after h past b left q parts cached) s.runs are lasts

    made : slot ≡ newer ++ (own_entry setup first.seat first.actor.role.kind (older ++ h) call.under.call ∷ older ++ h)
    made = are ∙ ap (λ z. newer ++ (z ∷ older ++ h)) (sym call.is)

    run_e : Run setup (e ∷ older ++ h)
    run_e = older_parts_are_runs setup newer (e ∷ older ++ h) (subst (Run setup) are run_slot.run)

    e_kind : e.kind ≡ seats.Scheduler
    e_kind = sym (ap (λ (z : Entry). z.kind) call.is) ∙ kind

    e_call : e.request ≡ call.under.call
    e_call = sym (ap (λ (z : Entry). z.request) call.is)

    put : IsPut (world setup (older ++ h)) (effect setup (world setup (older ++ h)) e.kind e.request) (Claim y)
    put = elim (row_step setup e (older ++ h) k (Claim y) is) [
      | inl same ↦ absurd (differs (ap (λ z. content_of (Claim (claim_or y z))) (one (Claim x) (Claim y) (sym was ∙ same))))
      | inr p ↦ p
    ]

    written : Writes (world setup (older ++ h)) seats.Scheduler e.request (Claim y)
    written =
        subst (λ n. Writes (world setup (older ++ h)) n e.request (Claim y)) e_kind
        (subst (EffectOf setup (world setup (older ++ h)) e.kind e.request) put.is (effect_form setup (world setup (older ++ h)) e.kind e.request (rows_stand_in_order setup (older ++ h))))

    update : Updates e.request
    update = scheduler_updates (world setup (older ++ h)) (own e.seat (older ++ h)) e.request y (subst (λ n. Licensed n (own e.seat (older ++ h)) e.request) e_kind run_e.2) written

    abbrev is_bind : Request → Bool
    is_bind (BindPod key uid node) = true
    is_bind r = false

    abbrev asked_or : ClaimData → Request → ClaimData
    asked_or d (Update (Claim z) given) = z
    asked_or d r = d

    never : ⊥
    never = elim (calls_are setup first.seat first.actor.role kind h slot run_slot order_slot quiet_slot.behind quiet_slot.down h (older ++ h) newer [] call.under refl call.decided made) [
      | inl binds ↦ true≢false (sym (ap is_bind binds.is) ∙ (ap is_bind (sym e_call) ∙ ap is_bind update.is))
      | inr places ↦ placed places
    ]
      where
        placed : IsPlacing setup call.decided.point call.decided.state call.decided.first.key call.under.call → ⊥
        placed p =
            let w = decided_within setup first.seat first.actor.role kind h slot run_slot order_slot quiet_slot.behind quiet_slot.down h (older ++ h) newer [] call.under refl call.decided made in
            let run_i = run_within setup h slot run_slot order_slot quiet_slot.behind quiet_slot.down call.decided.point w in
            let rows = (world setup call.decided.point).store.rows in
            let sought : IsSought rows p.claim = each_in (IsSought rows) p.claim (others_of rows p.pod) (others_sought rows p.pod
            (all_known rows p.pod (claims_known rows (rows_known setup call.decided.point run_i.imports) p.pod)) p.searched.search.here) p.among in
            let asked : update.asked ≡ placed_on p.searched.name p.claim = ap (asked_or y) (sym update.is ∙ (e_call ∙ p.is)) in
            let u : Writes (world setup (older ++ h)) seats.Scheduler (Update (Claim update.asked) update.given) (Claim y) =
            subst (λ r. Writes (world setup (older ++ h)) seats.Scheduler r (Claim y)) update.is written in
            let keyed : key_of (Claim y) ≡ key_of (Claim p.claim) = ap key_of u.is
            ∙ (key-updated u.old (Claim update.asked) ((world setup (older ++ h)).store.version + 1) ∙ ap (λ z. key_of (Claim z)) asked) in
            let same_key : key_of (Claim p.claim) ≡ k = sym keyed ∙ row_at_key k (Claim y) (world setup (e ∷ older ++ h)).store.rows is in
            let near = near_slot call.decided.point w in
            let n = claim_near (world setup call.decided.point) (world setup slot) k c near there in
            let it : n.claim ≡ p.claim = ap (claim_or c) (one (Claim n.claim) (Claim p.claim) (sym n.there ∙ (ap (λ j. row_at j rows) (sym same_key) ∙ sought.stored))) in
            true≢false (sym (open_is_other rows p.claim sought.undone sought.uncarried)
            ∙ (ap (is_other rows) (sym it) ∙ (other_near (world setup call.decided.point) (world setup slot) n.claim c near n.same ∙ aside)))

  -- so in it the claim stands so
  stands_so : (newer older ahead : List Entry) → slot ≡ ahead ++ (newer ++ (older ++ h)) → (x y : ClaimData)
      → row_at k (world setup (older ++ h)).store.rows ≡ Some (Claim x) → row_at k (world setup (newer ++ (older ++ h))).store.rows ≡ Some (Claim y) → content_of (Claim x) ≡ content_of (Claim y)
  stands_so [] older ahead are x y was is = ap (λ z. content_of (Claim (claim_or x z))) (one (Claim x) (Claim y) (sym was ∙ is))
  stands_so (e ∷ newer) older ahead are x y was is = by (stands_so newer older (ahead ++ (e ∷ [])) (are ∙ sym (append_assoc ahead (e ∷ []) (newer ++ (older ++ h)))) x)
    where
      w : IsWithin h (newer ++ (older ++ h)) slot
      w = record { newer = ahead ++ (e ∷ []); older = newer ++ older; ahead = are ∙ sym (append_assoc ahead (e ∷ []) (newer ++ (older ++ h))); behind = sym (append_assoc newer older h) }

      by : ((z : ClaimData) → row_at k (world setup (older ++ h)).store.rows ≡ Some (Claim x)
          → row_at k (world setup (newer ++ (older ++ h))).store.rows ≡ Some (Claim z) → content_of (Claim x) ≡ content_of (Claim z)) → content_of (Claim x) ≡ content_of (Claim y)
      by before =
          let n = claim_near (world setup (newer ++ (older ++ h))) (world setup slot) k c (near_slot (newer ++ (older ++ h)) w) there in
          elim (object_known (content_of (Claim n.claim)) (content_of (Claim y))) [
            | inl same ↦ before n.claim was n.there ∙ same
            | inr differs ↦
                let assoc : newer ++ (older ++ h) ≡ (newer ++ older) ++ h = sym (append_assoc newer older h) in
                absurd (never ahead (newer ++ older) e (are ∙ ap (λ es. ahead ++ (e ∷ es)) assoc) n.claim y
                (ap (λ es. row_at k (world setup es).store.rows) (sym assoc) ∙ n.there) (ap (λ es. row_at k (world setup (e ∷ es)).store.rows) (sym assoc) ∙ is) differs)
          ]

  pub slot_so : (x : List Entry) (w : IsWithin h x slot) (y : ClaimData) → row_at k (world setup x).store.rows ≡ Some (Claim y) → content_of (Claim y) ≡ content_of (Claim c)
  slot_so x w y at =
      stands_so w.newer w.older [] (w.ahead ∙ ap (λ es. w.newer ++ es) w.behind) y c (ap (λ es. row_at k (world setup es).store.rows) (sym w.behind) ∙ at)
      (ap (λ es. row_at k (world setup es).store.rows) (sym (w.ahead ∙ ap (λ es. w.newer ++ es) w.behind)) ∙ there)

  -- ---- behind it

  behind : HaveOthers slot past
  behind = round_others past left s.others slot s.rest s.later true s.round roles
    where
      roles : RolesOthers (roles_of s.others)
      roles = subst RolesOthers (sym (ap rest_of_roles (sym (ap roles_of s.ds_are) ∙ q.may.may.stand.roles.are))) (refl, (refl, (refl, (refl, agents_others q.may.may.stand.roles.nodes))))

  -- an entry leaves the claim as it stood, or without a node
  module _ (newer older : List Entry) (e : Entry) (are : past ≡ newer ++ (e ∷ older ++ slot)) (y : ClaimData) (is : row_at k (world setup (e ∷ older ++ slot)).store.rows ≡ Some (Claim y)) where
    abbrev within : IsWithin h (older ++ slot) past
    within = record {
      newer = newer ++ (e ∷ []);
      older = older ++ at_slot.older;
      ahead = are
          ∙ sym (append_assoc newer (e ∷ []) (older ++ slot));
      behind = ap (λ es. older ++ es) at_slot.behind ∙ sym (append_assoc older at_slot.older h);
    }

    abbrev then_ : IsWithin h (e ∷ older ++ slot) past
    then_ = record { newer = newer; older = e ∷ older ++ at_slot.older; ahead = are; behind = ap (λ es. e ∷ es) within.behind }

    moved : MovesBy e.kind (world setup (older ++ slot)) (world setup (e ∷ older ++ slot))
    moved =
        let a = quiet_at setup h past q.run q.order paid up (older ++ slot) within in
        let z = quiet_at setup h past q.run q.order paid up (e ∷ older ++ slot) then_ in
        let split = paid_split setup (older ++ slot) (e ∷ older ++ slot) past newer (e ∷ []) are refl a.ahead in
        let stays = (paid_is_less setup (e ∷ older ++ slot) past (runs_are_histories setup past q.run.run) z.ahead).stays in
        let low = a.up in
        entries_move_nodes setup e (older ++ slot) (run_within setup h past q.run q.order paid up (e ∷ older ++ slot) then_)
        (order_within setup h past q.run q.order paid up (older ++ slot) within) split.1 (omega (arith, stays, low))

    not_scheduler : is_scheduler e.kind ≡ false
    not_scheduler = other_at newer e older (subst AreOthers
        (append_cancel_right behind.newer (newer ++ (e ∷ older)) slot (sym behind.are ∙ (are ∙ sym (append_assoc newer (e ∷ older) slot)))) behind.others)

    step : StoodSo (world setup (older ++ slot)) k y ⊎ (has_key selected_node y.meta.annotations ≡ false)
    step = by e.kind moved not_scheduler
      where
        by : (n : SeatKind) → MovesBy n (world setup (older ++ slot)) (world setup (e ∷ older ++ slot)) → is_scheduler n ≡ false
            → StoodSo (world setup (older ++ slot)) k y ⊎ (has_key selected_node y.meta.annotations ≡ false)
        by seats.Scheduler m none = absurd (true≢false none)
        by seats.Ops m none = m.claims k y is
        by seats.User m none = inl (stood_alike (world setup (older ++ slot)) (world setup (e ∷ older ++ slot)) k y m is)
        by seats.Binder m none = inl (stood_alike (world setup (older ++ slot)) (world setup (e ∷ older ++ slot)) k y m is)
        by seats.ClaimProtect m none = inl (stood_alike (world setup (older ++ slot)) (world setup (e ∷ older ++ slot)) k y m is)
        by seats.VolumeProtect m none = inl (stood_alike (world setup (older ++ slot)) (world setup (e ∷ older ++ slot)) k y m is)
        by seats.Agent m none = inl (stood_alike (world setup (older ++ slot)) (world setup (e ∷ older ++ slot)) k y m is)

  -- a claim at a point behind the slot stands as it did there, or has no node
  back : (newer older : List Entry) → past ≡ newer ++ (older ++ slot) → (y : ClaimData)
      → row_at k (world setup (older ++ slot)).store.rows ≡ Some (Claim y) → (content_of (Claim y) ≡ content_of (Claim c)) ⊎ (has_key selected_node y.meta.annotations ≡ false)
  back newer [] are y is = inl (ap (λ z. content_of (Claim (claim_or c z))) (one (Claim y) (Claim c) (sym is ∙ there)))
  back newer (e ∷ older) are y is = by (step newer older e are y is) (back (newer ++ (e ∷ [])) older (are ∙ sym (append_assoc newer (e ∷ []) (older ++ slot))))
    where
      by : StoodSo (world setup (older ++ slot)) k y ⊎ (has_key selected_node y.meta.annotations ≡ false)
          → ((z : ClaimData) → row_at k (world setup (older ++ slot)).store.rows ≡ Some (Claim z) → (content_of (Claim z) ≡ content_of (Claim c)) ⊎ (has_key selected_node z.meta.annotations ≡ false))
          → (content_of (Claim y) ≡ content_of (Claim c)) ⊎ (has_key selected_node y.meta.annotations ≡ false)
      by (inr none) before = inr none
      by (inl so) before = elim (before so.claim so.there) [
        | inl same ↦ inl (sym so.same ∙ same)
        | inr none ↦ inr (ap is_some (sym (one_node_so so.claim y so.same)) ∙ none)
      ]

  -- and has none later
  ahead_none : (newer older : List Entry) → past ≡ newer ++ (older ++ slot) → (y : ClaimData)
      → row_at k (world setup (older ++ slot)).store.rows ≡ Some (Claim y) → has_key selected_node y.meta.annotations ≡ false
      → (front : List Entry) (later : List Entry) → newer ≡ front ++ later → (z : ClaimData)
      → row_at k (world setup (later ++ (older ++ slot))).store.rows ≡ Some (Claim z) → has_key selected_node z.meta.annotations ≡ false
  ahead_none newer older are y is none front [] split z at = ap (λ (x : ClaimData). has_key selected_node x.meta.annotations) (ap (claim_or y) (one (Claim z) (Claim y) (sym at ∙ is))) ∙ none
  ahead_none newer older are y is none front (e ∷ later) split z at =
      by (step front (later ++ older) e whole z (ap (λ es. row_at k (world setup (e ∷ es)).store.rows) (append_assoc later older slot) ∙ at))
      (ahead_none newer older are y is none (front ++ (e ∷ [])) later (split ∙ sym (append_assoc front (e ∷ []) later)))
    where
      whole : past ≡ front ++ (e ∷ (later ++ older) ++ slot)
      whole = are ∙ (ap (λ es. es ++ (older ++ slot)) split ∙ (append_assoc front (e ∷ later) (older ++ slot) ∙ ap (λ es. front ++ (e ∷ es)) (sym (append_assoc later older slot))))

      by : StoodSo (world setup ((later ++ older) ++ slot)) k z ⊎ (has_key selected_node z.meta.annotations ≡ false)
          → ((x : ClaimData) → row_at k (world setup (later ++ (older ++ slot))).store.rows ≡ Some (Claim x)
          → has_key selected_node x.meta.annotations ≡ false) → has_key selected_node z.meta.annotations ≡ false
      by (inr lacks) before = lacks
      by (inl so) before = ap is_some (sym (one_node_so so.claim z so.same)) ∙ before so.claim (ap (λ es. row_at k (world setup es).store.rows) (sym (append_assoc later older slot)) ∙ so.there)

  -- so one that had a node keeps it
  module _ (has : has_key selected_node c.meta.annotations ≡ true) (d : ClaimData) (last : row_at k (world setup past).store.rows ≡ Some (Claim d)) where
    at_start : ClaimNear (world setup h) k c
    at_start = claim_near (world setup h) (world setup slot) k c (near_slot h (record { newer = at_slot.older; older = []; ahead = at_slot.behind; behind = refl })) there

    pub keeps : (newer older : List Entry) → past ≡ newer ++ (older ++ slot) → (y : ClaimData)
        → row_at k (world setup (older ++ slot)).store.rows ≡ Some (Claim y) → content_of (Claim y) ≡ content_of (Claim c)
    keeps newer older are y is = elim (back newer older are y is) [
      | inl same ↦ same
      | inr none ↦
          let lacks = ahead_none newer older are y is none [] newer refl d (ap (λ es. row_at k (world setup es).store.rows) (sym are) ∙ last) in
          let start_so = slot_so h (record { newer = at_slot.older; older = []; ahead = at_slot.behind; behind = refl }) at_start.claim at_start.there in
          absurd (not_so setup ds after h past b left q cached first slot s only k c d there has last lacks at_start.claim at_start.there start_so)
    ]
