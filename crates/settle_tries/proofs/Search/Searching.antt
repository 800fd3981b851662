-- In a slot of the scheduler that leaves as much to do a pod that is to be prepared is decided: before that its claims stand as they stood, and when the slot
-- ends each of them that needs a volume has the node that was found.
use Rattle.std.proofs.Common.{◌≡◌, ◌∙◌, ℕ, ◌≤◌, List, [], ◌∷◌, ◌++◌, append_assoc, Bool, true, false, true≢false, Option, Some, None, inl, inr, refl, sym, ap, subst, if◌then◌else◌}
use Rattle.std.specs.Prelude.{is_some, map, slice_get}
use Rattle.std.specs.List.{list_all, list_any}
use Rattle.plain_data.specs.Pairs.{value_at}
use Rattle.kube_objects.specs.declared.key.Key.{Key}
use Rattle.kube_parts.specs.declared.names.Due.TheVariants as dues
use Rattle.kube_objects.specs.declared.objects.Claim.{Claim as ClaimData}
use Rattle.kube_objects.specs.declared.objects.Node.{Node as NodeData}
use Rattle.kube_objects.specs.declared.objects.Object.{Object}
use Rattle.kube_objects.specs.declared.objects.Object.TheVariants.{Claim, Pod}
use Rattle.kube_objects.specs.declared.objects.Pod.{Pod as PodData}
use Rattle.kube_objects.specs.Bindings.{is_completed, is_scheduled, selected_node}
use Rattle.kube_parts.specs.declared.parts.Kind.TheVariants as kinds
use Rattle.kube_objects.specs.Keys.{key_of, row_at, rows_of}
use Rattle.kube_objects.proofs.KeyOrder.{row_at_key}
use Rattle.call_types.specs.declared.entry.Entry.{Entry}
use Rattle.call_types.specs.declared.request.Request.{Request}
use Rattle.call_types.specs.declared.request.SeatKind.TheVariants as seats
use Rattle.call_types.specs.declared.setup.Setup.{Setup}
use Rattle.binder_model.specs.Choice.{
  GoesNowhere,
  Searches,
  Waits,
  are_completed,
  assigned_node,
  claims_of,
  first_taking,
  has_carrier,
  is_other,
  is_served_elsewhere,
  is_under_way,
  lacks_claim,
  others_of,
  step_of,
}
use Rattle.binder_model.specs.Due.{IsDue}
use Rattle.binder_model.specs.ObjectKeys.{claim_key}
use Rattle.binder_model.specs.Promises.{IsRunOf}
use Rattle.binder_model.specs.Reading.{follows}
use Rattle.binder_model.specs.Told.{SomeOf}
use Rattle.binder_model.specs.World.{IsHistory, World, world}
use Rattle.delayed_binding.proofs.Known.{AreApart, Each, IsStored as Stands, others_apart, others_stored}
use Rattle.informer_cache.specs.All.{all_objects}
use Rattle.model_laws.proofs.Growing.{runs_are_histories}
use Rattle.model_laws.proofs.Lists.{none_some, one}
use Rattle.pod_scheduler.specs.declared.schedule.ScheduleStep.TheVariants as steps
use Rattle.pod_scheduler.specs.Decisions.{last_refused}
use Rattle.settle_measure.specs.Left.Measure.{work_left}
use Rattle.worker_core.specs.declared.role.Role.{Role}
use Rattle.worker_core.specs.declared.task.Task.TheVariants as tasks
use Rattle.worker_core.specs.declared.task.Under.{Under}
use Rattle.worker_core.specs.Absorbs.{woken}
use Rattle.worker_core.specs.States.{ActorState, waits as waits_in}
use Rattle.worker_core.specs.Tasks.{GivesCall}
use Rattle.actor_rounds.specs.Rounds.{Runs, all_pass}
use Rattle.actor_rounds.proofs.RunFacts.{run_grows}
use Rattle.settle_writes.specs.Writes.Lasting.{content_of}
use Rattle.settle_writes.proofs.Writes.Pods.{claims_once}
use Rattle.settle_due.proofs.Upkeep.Deciding.{stored}
use Rattle.settle_slot.specs.Slot.Slots.{IsDecisionPoint, own_entry}
use Rattle.settle_slot.proofs.Slot.Slots.{nothing_behind, others_stay_awake}
use Rattle.settle_due.specs.Scheduling.Writes.{placing}
use Rattle.settle_due.proofs.Scheduling.Acts.{pods_act}
use Rattle.settle_due.proofs.Scheduling.Placing.{AreFrom, all_from, at_place}
use Rattle.settle_pays.specs.Pays.Pays.{HavePaid}
use Rattle.settle_budget.specs.Drains.Budget.{AreAlwaysInOrder}
use Rattle.settle_budget.specs.Drains.Measured.{SharesWell}
use Rattle.settle_alike.specs.Near.Near.{AreNear, rest_of}
use Rattle.settle_alike.proofs.Near.Annotations.{completed_rest}
use Rattle.settle_alike.proofs.Near.Near.{ClaimNear, PodNear, back_near, claim_near, near_searches, no_nearer, one_rest_claim, pod_near, prepare_due, then_near, waiting_due}
use Rattle.settle_alike.proofs.Near.Serving.{carrier_rest}
use Rattle.settle_alike.proofs.Near.Steps.{is_searching}
use Rattle.settle_progress.proofs.Drains.Rounds.{is_agent, not_agent}
use Rattle.settle_tries.specs.Tries.Deciding.{IsWithin}
use Rattle.settle_tries.proofs.Moves.Points.{near_behind, run_within}
use Rattle.settle_tries.proofs.Search.Calling.{IsChosen, is_chosen, pods_claims, pods_namespace, pods_waiting, takes_none}
use Rattle.settle_tries.proofs.Search.Choosing.{Binds, BindsPod, Chosen, IsSearched, TakesVolumes}
use Rattle.settle_tries.proofs.Search.Choosing.{Searches as SearchesOne}
use Rattle.settle_tries.proofs.Search.Keeping.{RowsStay, StayUpTo, keep, stay_here}
use Rattle.settle_tries.proofs.Search.Open.{HasOpen, IsNamed, all_at, named_in, open_is_other, open_of, open_waits, other_of}
use Rattle.settle_tries.proofs.Slots.Walking.{Asked, EntrySo, IsDropped, IsTakenUp, OnRun, walks}
use Rattle.settle_tries.proofs.Search.Writing.{EndsAt, NodeAt, through}
use Rattle.settle_tries.proofs.Slots.Deciding.{cached_waits}

-- ---- words that are the same in worlds that are near

pub carrier_near : (old new : World) (c d : ClaimData) → AreNear old new → rest_of (Claim c) ≡ rest_of (Claim d) → has_carrier old.store.rows c ≡ has_carrier new.store.rows d
carrier_near old new c d near same =
    let rows = near.rows in
    let claim = one_rest_claim c d same in
    sym (carrier_rest old.store.rows c) ∙ ((λ i. has_carrier (rows i) (claim i)) ∙ carrier_rest new.store.rows d)

pub completed_near : (c d : ClaimData) → rest_of (Claim c) ≡ rest_of (Claim d) → is_completed c ≡ is_completed d
completed_near c d same = sym (completed_rest c) ∙ (ap is_completed (one_rest_claim c d same) ∙ completed_rest d)

-- a pod that is searched for has a claim that is not under way
searched_waits : (rows : List Object) (p : PodData) → is_searching (step_of rows p) ≡ true → list_all (is_under_way rows) (claims_of rows p) ≡ false
searched_waits rows p e = by (lacks_claim rows p) (are_completed rows p) (list_any (is_served_elsewhere rows) (claims_of rows p)) (list_all (is_under_way rows) (claims_of rows p)) e
  where
    never : (x : Option NodeData) → is_searching (assigned_node x) ≡ true → ⊥
    never None f = true≢false (sym f)
    never (Some n) f = true≢false (sym f)

    by : (l d s u : Bool) → is_searching (if l then GoesNowhere else if d then assigned_node (first_taking rows p (rows_of kinds.Node rows)) else if
        s then Waits else if u then Waits else Searches) ≡ true → u ≡ false
    by true d s u f = absurd (true≢false (sym f))
    by false true s u f = absurd (never (first_taking rows p (rows_of kinds.Node rows)) f)
    by false false true u f = absurd (true≢false (sym f))
    by false false false true f = absurd (true≢false (sym f))
    by false false false false f = refl

pub due_open : (setup : Setup) (w : World) (p : PodData) → is_scheduled p ≡ false → IsDue setup w (Pod p) (Some dues.Prepare) → HasOpen w.store.rows p
due_open setup w p waits due = open_of w.store.rows p (searched_waits w.store.rows p (prepare_due setup w p (step_of w.store.rows p) (waiting_due setup w p (Some dues.Prepare) waits due)).0)

-- a claim that a pod names in one world it names in another where it stands so
pub named_there : (rows : List Object) (p q : PodData) (c d : ClaimData) → content_of (Pod p) ≡ content_of (Pod q) → (n : IsNamed rows p c)
    → (others : List Object) → row_at (claim_key p.meta.namespace n.name) others ≡ Some (Claim d) → IsNamed others q d
named_there rows p q c d same n others there = record {
  name = n.name;
  among = subst (SomeOf (λ m. m ≡ n.name)) (ap pods_claims same) n.among;
  there = ap (λ s. row_at (claim_key s n.name) others) (sym (ap pods_namespace same)) ∙ there;
}

abbrev pod_or : PodData → Object → PodData
pod_or p (Pod q) = q
pod_or p x = p

abbrev node_in : Object → Option (List ℕ)
node_in (Claim c) = value_at selected_node c.meta.annotations
node_in x = None

-- a pod with a claim that is not completed does not go to a node
completed_never : (rows : List Object) (p : PodData) (c : ClaimData) → IsNamed rows p c → is_completed c ≡ false → are_completed rows p ≡ true → ⊥
completed_never rows p c named undone e = true≢false (sym (all_at is_completed c (claims_of rows p) e (named_in rows p c named)) ∙ undone)

-- the pod was decided at a point of the slot, where its claims stand as they stood when it began, and a node was searched for it. When the slot ends each of its
-- claims that needs a volume has this node
pub record HasSearched (setup : Setup) (seat : ℕ) (role : Role) (h past : List Entry) (key : Key) (pod : PodData) : Type 0 where
  pub state : ActorState
  pub point : List Entry
  pub within : IsWithin h point past
  pub sees : IsDecisionPoint setup seat role point state point
  pub under : Under
  pub own : under.key ≡ key
  pub gives : GivesCall state.role state.memory (all_objects state.caches) under
  pub now : PodData
  pub there : row_at key (world setup point).store.rows ≡ Some (Pod now)
  pub same : content_of (Pod now) ≡ content_of (Pod pod)
  pub writes : List Request
  pub searched : IsSearched (world setup point).store.rows now (last_refused (world setup point).store.rows now state.memory.tries.refused) writes
  pub stay : StayUpTo setup pod h point
  pub placed : (name : List ℕ) → SomeOf (λ n. n ≡ name) pod.claims → (c : ClaimData)
      → row_at (claim_key pod.meta.namespace name) (world setup past).store.rows ≡ Some (Claim c) → is_completed c ≡ false → has_carrier (world setup past).store.rows c ≡ false
      → value_at selected_node c.meta.annotations ≡ Some searched.name

module _ (setup : Setup) (seat : ℕ) (old after : ActorState) (h past : List Entry) (b left : ℕ) (kind : old.role.kind ≡ seats.Scheduler)
    (run : IsRunOf setup past) (order : AreAlwaysInOrder setup past) (idle : old.under ≡ None)
    (runs : Runs all_pass seat after past left true (woken old) h b) (paid : HavePaid setup h past)
    (le : work_left setup (world setup h) ≤ work_left setup (world setup past)) (shares : SharesWell (world setup h))
    (key : Key) (pod : PodData) (there : row_at key (world setup h).store.rows ≡ Some (Pod pod)) (waits : is_scheduled pod ≡ false)
    (due : IsDue setup (world setup h) (Pod pod) (Some dues.Prepare)) (o : Object) (cached : row_at key (all_objects old.caches) ≡ Some o) where
  history : IsHistory setup past
  history = runs_are_histories setup past run.run

  fresh : after.memory.stale ≡ false
  fresh = others_stay_awake all_pass seat (woken old) after h past b left (not_agent _ (ap is_agent kind)) runs

  near_at : (x : List Entry) → IsWithin h x past → AreNear (world setup h) (world setup x)
  near_at x w = near_behind setup h past run order paid le x w

  pod_at : (x : List Entry) → AreNear (world setup h) (world setup x) → PodNear (world setup x) key pod
  pod_at x near = pod_near (world setup x) (world setup h) key pod (back_near (world setup h) (world setup x) near) there

  waits_at : (x : List Entry) (near : AreNear (world setup h) (world setup x)) → is_scheduled (pod_at x near).pod ≡ false
  waits_at x near = ap pods_waiting (pod_at x near).same ∙ waits

  open_then : HasOpen (world setup h).store.rows pod
  open_then = due_open setup (world setup h) pod waits due

  -- as long as its claims stand so the pod is to be prepared
  due_at : (x : List Entry) (near : AreNear (world setup h) (world setup x)) → RowsStay setup pod h x → IsDue setup (world setup x) (Pod (pod_at x near).pod) (Some dues.Prepare)
  due_at x near stay =
      let n = pod_at x near in
      let k = open_then in
      let open_ : HasOpen (world setup x).store.rows n.pod = record {
        claim = k.claim;
        named = named_there (world setup h).store.rows pod n.pod k.claim k.claim (sym n.same) k.named (world setup x).store.rows (stay k.named.name k.named.among ∙ k.named.there);
        undone = k.undone;
        uncarried = sym (carrier_near (world setup h) (world setup x) k.claim k.claim near refl) ∙ k.uncarried;
        none = k.none;
      } in
      near_searches setup (world setup h) (world setup x) pod n.pod near (sym n.same) waits due (open_waits (world setup x).store.rows n.pod open_)

  -- ---- up to the decision

  -- what is kept from some point on
  record Kept (start g : List Entry) : Type 0 where
    stay : StayUpTo setup pod start g
    near : AreNear (world setup h) (world setup g)

  keeps : (start before : List Entry) → start ≡ before ++ h → (e : Entry) (g newer older : List Entry) → past ≡ newer ++ (e ∷ g) → g ≡ older ++ start
      → EntrySo setup seat old.role kind key start e g → Kept start g → Kept start (e ∷ g)
  keeps start before since e g newer older are behind so k = record {
    stay = keep setup seat old.role kind h past run order paid le shares key pod there waits start before since e g newer older are behind so k.stay;
    near = near_at (e ∷ g) (record
        { newer = newer; older = e ∷ older ++ before; ahead = are; behind = ap (λ es. e ∷ es) (behind ∙ (ap (λ es. older ++ es) since ∙ sym (append_assoc older before h))) });
  }

  at_start : OnRun setup seat old.role kind key after past left history fresh (woken old) h
  at_start = record { budget = b; runs = runs; role_is = refl; knows = nothing_behind setup seat old h }

  first : IsTakenUp setup seat old.role kind key after past left history fresh h (Kept h)
  first = elim (walks setup seat old.role kind key after past left history fresh h (Kept h) (keeps h [] refl) true drop
      (woken old) h [] at_start refl (λ u e. none_some (sym idle ∙ e)) (record { stay = stay_here setup pod h; near = no_nearer (world setup h) }) waiting) [
        | inl t ↦ t
        | inr x ↦ absurd (true≢false x.0)
      ]
    where
      drop : true ≡ true → (s : ActorState) (g older : List Entry) → g ≡ older ++ h → Kept h g → IsDropped setup seat old.role kind key s g → ⊥
      drop m s g older since k d =
          (pods_act setup seat old.role g key (pod_at g k.near).pod dues.Prepare run.imports kind (pod_at g k.near).there (waits_at g k.near)
          (due_at g k.near (k.stay g (record { newer = []; older = older; ahead = refl; behind = since })))).acts s g d.first d.sees d.none

      waiting : true ≡ true → waits_in key (woken old).work ≡ true
      waiting m = cached_waits all_pass seat key o old after h past b left idle
          (ap (λ k. follows k key.kind) kind ∙ ap (λ (k : Key). follows seats.Scheduler k.kind) (sym (row_at_key key (Pod pod) (world setup h).store.rows there))) cached runs

  -- ---- the decision

  grown : (more : List Entry) × (past ≡ more ++ (own_entry setup seat old.role.kind first.point first.under.call ∷ first.point))
  grown = let on = first.asked.on in let g =
      run_grows all_pass seat after past left true first.asked.next (own_entry setup seat old.role.kind first.point first.under.call ∷ first.point) on.budget on.runs in (g.longer.added, g.longer.are)

  within : IsWithin h first.point past
  within = record {
    newer = grown.0 ++ (own_entry setup seat old.role.kind first.point first.under.call ∷ []);
    older = first.older;
    ahead = grown.1 ∙ sym (append_assoc grown.0 (own_entry setup seat old.role.kind first.point first.under.call ∷ []) first.point);
    behind = first.behind;
  }

  run_x : IsRunOf setup first.point
  run_x = run_within setup h past run order paid le first.point within

  is_one : IsChosen setup first.point first.state key first.under
  is_one =
      let n = pod_at first.point first.holds.near in
      is_chosen setup seat old.role kind first.point run_x first.state first.sees first.under key first.own first.gives n.pod n.there (waits_at first.point first.holds.near)

  -- the pod as it stands there
  pod_is : is_one.pod ≡ (pod_at first.point first.holds.near).pod
  pod_is = let n = pod_at first.point first.holds.near in ap (pod_or is_one.pod) (one (Pod is_one.pod) (Pod n.pod) (sym is_one.there ∙ n.there))

  pod_same : content_of (Pod is_one.pod) ≡ content_of (Pod pod)
  pod_same = ap (λ q. content_of (Pod q)) pod_is ∙ (pod_at first.point first.holds.near).same

  open_x : HasOpen (world setup first.point).store.rows is_one.pod
  open_x =
      let here : IsWithin h first.point first.point = record { newer = []; older = first.older; ahead = refl; behind = first.behind } in
      let due_x = due_at first.point first.holds.near (first.holds.stay first.point here) in
      due_open setup (world setup first.point) is_one.pod is_one.waits (subst (λ q. IsDue setup (world setup first.point) (Pod q) (Some dues.Prepare)) (sym pod_is) due_x)

  searched : IsSearched (world setup first.point).store.rows is_one.pod (last_refused (world setup first.point).store.rows is_one.pod first.state.memory.tries.refused) is_one.writes
  searched = by is_one.chosen
    where
      by : Chosen (world setup first.point).store.rows is_one.pod (last_refused (world setup first.point).store.rows is_one.pod first.state.memory.tries.refused) is_one.writes
          → IsSearched (world setup first.point).store.rows is_one.pod (last_refused (world setup first.point).store.rows is_one.pod first.state.memory.tries.refused) is_one.writes
      by (SearchesOne s) = s
      by (Binds b) = absurd (completed_never (world setup first.point).store.rows is_one.pod open_x.claim open_x.named open_x.undone b.completed)
      by (TakesVolumes t) = absurd (takes_none setup seat old.role kind h past run order paid le first.point grown.0 first.under is_one.writes run_x within grown.1 is_one.first t)

  -- ---- its writes

  abbrev Ends : List ClaimData → Type 0
  Ends cs = EndsAt setup seat old.role kind key run_x.imports searched.name is_one.writes after past left history fresh first.point cs

  ends : (cs : List ClaimData) → is_one.writes ≡ map (placing searched.name) cs → Each (Stands (world setup first.point).store.rows) cs → AreApart cs → Ends cs
  ends [] are stand apart = none_some (sym (ap (λ ws. slice_get ws 0) are) ∙ is_one.first)
  ends (c ∷ cs) are stand apart =
      through setup seat old.role kind key run_x.imports searched.name is_one.writes after past left history fresh c cs 0 first.point
      (subst (Asked setup seat old.role kind key after past left history fresh first.point) under_is first.asked)
      (subst (AreFrom is_one.writes 0) are (all_from is_one.writes)) stand apart
    where
      op_is : is_one.schedules.op ≡ record { writes = is_one.writes; step = steps.Writes 0 }
      op_is = λ i. record { writes = is_one.schedules.are i; step = is_one.step i }

      task_is : first.under.task ≡ tasks.Schedule (record { writes = is_one.writes; step = steps.Writes 0 })
      task_is = is_one.schedules.task ∙ ap tasks.Schedule op_is

      call_is : first.under.call ≡ placing searched.name c
      call_is = sym (one (placing searched.name c) first.under.call (sym (ap (λ ws. slice_get ws 0) are) ∙ is_one.first))

      under_is : first.under ≡ at_place key searched.name is_one.writes 0 c
      under_is = λ i. record { key = first.own i; task = task_is i; call = call_is i }

  end : Ends (others_of (world setup first.point).store.rows is_one.pod)
  end =
      ends (others_of (world setup first.point).store.rows is_one.pod) searched.are (others_stored (world setup first.point).store.rows is_one.pod)
      (others_apart (world setup first.point).store.rows is_one.pod (claims_once is_one.pod (stored setup first.point key (Pod is_one.pod) run_x.imports is_one.there).valid))

  -- ---- behind them

  since_end : end.at ≡ (end.older ++ first.older) ++ h
  since_end = end.behind ∙ (ap (λ es. end.older ++ es) first.behind ∙ sym (append_assoc end.older first.older h))

  end_within : IsWithin h end.at past
  end_within = let on = end.on in let g = run_grows all_pass seat after past left true end.state end.at on.budget on.runs in
      record { newer = g.longer.added; older = end.older ++ first.older; ahead = g.longer.are; behind = since_end }

  near_end : AreNear (world setup h) (world setup end.at)
  near_end = near_at end.at end_within

  near_x_end : AreNear (world setup first.point) (world setup end.at)
  near_x_end = then_near (world setup first.point) (world setup h) (world setup end.at) (back_near (world setup h) (world setup first.point) first.holds.near) near_end

  module _ (name : List ℕ) (among : SomeOf (λ n. n ≡ name) pod.claims) (c : ClaimData)
      (there_c : row_at (claim_key pod.meta.namespace name) (world setup end.at).store.rows ≡ Some (Claim c)) (undone : is_completed c ≡ false)
      (uncarried : has_carrier (world setup end.at).store.rows c ≡ false) where
    -- a claim that needs a volume needed one when the pod was decided
    its_claim : ClaimNear (world setup first.point) (claim_key pod.meta.namespace name) c
    its_claim = claim_near (world setup first.point) (world setup end.at) (claim_key pod.meta.namespace name) c near_x_end there_c

    its_name : IsNamed (world setup first.point).store.rows is_one.pod its_claim.claim
    its_name = record {
      name = name;
      among = subst (SomeOf (λ n. n ≡ name)) (sym (ap pods_claims pod_same)) among;
      there = ap (λ s. row_at (claim_key s name) (world setup first.point).store.rows) (ap pods_namespace pod_same) ∙ its_claim.there;
    }

    it_needs_one : is_other (world setup first.point).store.rows its_claim.claim ≡ true
    it_needs_one = open_is_other (world setup first.point).store.rows its_claim.claim (completed_near its_claim.claim c its_claim.same ∙ undone)
        (carrier_near (world setup first.point) (world setup end.at) its_claim.claim c near_x_end its_claim.same ∙ uncarried)

    its_node : NodeAt setup seat old.role kind key run_x.imports searched.name end.at its_claim.claim
    its_node = other_of (world setup first.point).store.rows is_one.pod (NodeAt setup seat old.role kind key run_x.imports searched.name end.at) end.placed its_claim.claim its_name it_needs_one

    its_key : key_of (Claim its_claim.claim) ≡ claim_key pod.meta.namespace name
    its_key = row_at_key (claim_key pod.meta.namespace name) (Claim its_claim.claim) (world setup first.point).store.rows its_claim.there

    it_is : Claim its_node.claim ≡ Claim c
    it_is = one (Claim its_node.claim) (Claim c) (sym its_node.there ∙ (ap (λ k. row_at k (world setup end.at).store.rows) its_key ∙ there_c))

    -- so it has the node
    placed_end : value_at selected_node c.meta.annotations ≡ Some searched.name
    placed_end = sym (ap node_in it_is) ∙ its_node.node

  -- a claim of the pod that is not completed stands there too
  its_open : SomeOf (λ n. n ≡ open_x.named.name) pod.claims
  its_open = subst (SomeOf (λ n. n ≡ open_x.named.name)) (ap pods_claims pod_same) open_x.named.among

  open_there : row_at (claim_key pod.meta.namespace open_x.named.name) (world setup first.point).store.rows ≡ Some (Claim open_x.claim)
  open_there = ap (λ s. row_at (claim_key s open_x.named.name) (world setup first.point).store.rows) (sym (ap pods_namespace pod_same)) ∙ open_x.named.there

  open_end : ClaimNear (world setup end.at) (claim_key pod.meta.namespace open_x.named.name) open_x.claim
  open_end = claim_near (world setup end.at) (world setup first.point) (claim_key pod.meta.namespace open_x.named.name) open_x.claim
      (back_near (world setup first.point) (world setup end.at) near_x_end) open_there

  -- the pod is not decided with a call again
  module _ (t : IsTakenUp setup seat old.role kind key after past left history fresh end.at (Kept end.at)) where
    made : (more : List Entry) × (past ≡ more ++ (own_entry setup seat old.role.kind t.point t.under.call ∷ t.point))
    made = let on = t.asked.on in let g = run_grows all_pass seat after past left true t.asked.next (own_entry setup seat old.role.kind t.point
        t.under.call ∷ t.point) on.budget on.runs in (g.longer.added, g.longer.are)

    within_y : IsWithin h t.point past
    within_y = record {
      newer = made.0 ++ (own_entry setup seat old.role.kind t.point t.under.call ∷ []);
      older = t.older ++ (end.older ++ first.older);
      ahead = made.1 ∙ sym (append_assoc made.0 (own_entry setup seat old.role.kind t.point t.under.call ∷ []) t.point);
      behind = t.behind ∙ (ap (λ es. t.older ++ es) since_end ∙ sym (append_assoc t.older (end.older ++ first.older) h));
    }

    run_y : IsRunOf setup t.point
    run_y = run_within setup h past run order paid le t.point within_y

    near_y : AreNear (world setup h) (world setup t.point)
    near_y = near_at t.point within_y

    again : IsChosen setup t.point t.state key t.under
    again = let n = pod_at t.point near_y in is_chosen setup seat old.role kind t.point run_y t.state t.sees t.under key t.own t.gives n.pod n.there (waits_at t.point near_y)

    again_same : content_of (Pod again.pod) ≡ content_of (Pod pod)
    again_same = let n = pod_at t.point near_y in ap content_of (one (Pod again.pod) (Pod n.pod) (sym again.there ∙ n.there)) ∙ n.same

    stays_y : RowsStay setup pod end.at t.point
    stays_y = t.holds.stay t.point (record { newer = []; older = t.older; ahead = refl; behind = t.behind })

    near_end_y : AreNear (world setup end.at) (world setup t.point)
    near_end_y = then_near (world setup end.at) (world setup h) (world setup t.point) (back_near (world setup h) (world setup end.at) near_end) near_y

    again_named : IsNamed (world setup t.point).store.rows again.pod open_end.claim
    again_named = record {
      name = open_x.named.name;
      among = subst (SomeOf (λ n. n ≡ open_x.named.name)) (sym (ap pods_claims again_same)) its_open;
      there = ap (λ s. row_at (claim_key s open_x.named.name) (world setup t.point).store.rows) (ap pods_namespace again_same) ∙ (stays_y open_x.named.name its_open ∙ open_end.there);
    }

    -- for one of its claims is not completed
    bound_never : BindsPod (world setup t.point).store.rows again.pod again.writes → ⊥
    bound_never b = completed_never (world setup t.point).store.rows again.pod open_end.claim again_named (completed_near open_end.claim open_x.claim open_end.same ∙ open_x.undone) b.completed

    -- and each that needs a volume has a node
    module _ (k : HasOpen (world setup t.point).store.rows again.pod) where
      among_y : SomeOf (λ n. n ≡ k.named.name) pod.claims
      among_y = subst (SomeOf (λ n. n ≡ k.named.name)) (ap pods_claims again_same) k.named.among

      there_y : row_at (claim_key pod.meta.namespace k.named.name) (world setup t.point).store.rows ≡ Some (Claim k.claim)
      there_y = ap (λ s. row_at (claim_key s k.named.name) (world setup t.point).store.rows) (sym (ap pods_namespace again_same)) ∙ k.named.there

      uncarried_y : has_carrier (world setup end.at).store.rows k.claim ≡ false
      uncarried_y = carrier_near (world setup end.at) (world setup t.point) k.claim k.claim near_end_y refl ∙ k.uncarried

      node_y : value_at selected_node k.claim.meta.annotations ≡ Some searched.name
      node_y = placed_end k.named.name among_y k.claim (sym (stays_y k.named.name among_y) ∙ there_y) k.undone uncarried_y

      open_never : ⊥
      open_never = true≢false (sym (ap is_some node_y) ∙ k.none)

    taken_never : ⊥
    taken_never = by again.chosen
      where
        by : Chosen (world setup t.point).store.rows again.pod (last_refused (world setup t.point).store.rows again.pod t.state.memory.tries.refused) again.writes → ⊥
        by (Binds b) = bound_never b
        by (TakesVolumes v) = takes_none setup seat old.role kind h past run order paid le t.point made.0 t.under again.writes run_y within_y made.1 again.first v
        by (SearchesOne s) = open_never (open_of (world setup t.point).store.rows again.pod s.search.waiting)

  kept_end : Kept end.at past
  kept_end = elim (walks setup seat old.role kind key after past left history fresh end.at (Kept end.at)
      (keeps end.at (end.older ++ first.older) since_end) false (λ m. absurd (true≢false (sym m))) end.state end.at [] end.on refl (λ u e. none_some (sym end.idle ∙ e))
      (record { stay = stay_here setup pod end.at; near = near_end }) (λ m. absurd (true≢false (sym m)))) [
        | inl t ↦ absurd (taken_never t)
        | inr k ↦ k.1
      ]

  placed_past : (name : List ℕ) → SomeOf (λ n. n ≡ name) pod.claims → (c : ClaimData)
      → row_at (claim_key pod.meta.namespace name) (world setup past).store.rows ≡ Some (Claim c) → is_completed c ≡ false → has_carrier (world setup past).store.rows c ≡ false
      → value_at selected_node c.meta.annotations ≡ Some searched.name
  placed_past name among c there_c undone uncarried =
      let here : IsWithin end.at past past = record { newer = []; older = end_within.newer; ahead = refl; behind = end_within.ahead } in
      let near_back = then_near (world setup end.at) (world setup h) (world setup past) (back_near (world setup h) (world setup end.at) near_end) kept_end.near in
      placed_end name among c (sym (kept_end.stay past here name among) ∙ there_c) undone (carrier_near (world setup end.at) (world setup past) c c near_back refl ∙ uncarried)

  pub has_searched : HasSearched setup seat old.role h past key pod
  has_searched = record {
    state = first.state;
    point = first.point;
    within = within;
    sees = first.sees;
    under = first.under;
    own = first.own;
    gives = first.gives;
    now = is_one.pod;
    there = is_one.there;
    same = pod_same;
    writes = is_one.writes;
    searched = searched;
    stay = first.holds.stay;
    placed = placed_past;
  }
