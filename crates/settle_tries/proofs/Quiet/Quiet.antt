-- At the end of a round that leaves as much to do only pods wait, for the scheduler.
use Rattle.std.proofs.Common.{◌≡◌, ◌∙◌, ◌⊎◌, ℕ, zero, suc, ◌≤◌, List, [], ◌∷◌, ◌++◌, append_assoc, Bool, true, false, true≢false, Option, Some, None, inl, inr, refl, sym, ap, subst, arith}
use Rattle.std.proofs.lemmas.List.{append_cancel_right}
use Rattle.std.specs.Prelude.{is_some, option_map, slice_get, ⊤}
use Rattle.kube_objects.specs.declared.key.Key.{Key}
use Rattle.kube_parts.specs.declared.names.Due.{Due}
use Rattle.kube_parts.specs.declared.names.Due.TheVariants as dues
use Rattle.kube_objects.specs.declared.objects.Object.{Object}
use Rattle.kube_objects.specs.declared.objects.Object.TheVariants.{Class, Node, Volume, Claim, Pod}
use Rattle.kube_objects.specs.declared.objects.Pod.{Pod as PodData}
use Rattle.kube_objects.specs.Bindings.{is_scheduled}
use Rattle.kube_objects.specs.Keys.{key_of, row_at}
use Rattle.kube_objects.proofs.KeyOrder.{row_at_key}
use Rattle.call_types.specs.declared.entry.Entry.{Entry}
use Rattle.call_types.specs.declared.request.Request.{Request}
use Rattle.call_types.specs.declared.request.SeatKind.{SeatKind}
use Rattle.call_types.specs.declared.request.SeatKind.TheVariants as seats
use Rattle.call_types.specs.declared.setup.Setup.{Setup}
use Rattle.binder_model.specs.Choice.{Assigns, GoesNowhere, Searches, Step, Waits, step_of}
use Rattle.binder_model.specs.Due.{IsDue, IsStepDue}
use Rattle.binder_model.specs.Promises.{IsRunOf}
use Rattle.binder_model.specs.World.{IsHistory, world}
use Rattle.informer_cache.specs.All.{all_objects}
use Rattle.model_laws.proofs.Growing.{runs_are_histories}
use Rattle.model_laws.proofs.Lists.{none_some, one}
use Rattle.worker_core.specs.declared.role.Role.{Role}
use Rattle.worker_core.specs.Absorbs.{woken}
use Rattle.worker_core.specs.Roles.{IsBuiltKind}
use Rattle.actor_rounds.specs.declared.drainers.Drainer.{Drainer}
use Rattle.actor_rounds.specs.Drainers.{agent_of, of_kind, roles_of}
use Rattle.actor_rounds.specs.Rounds.{Ends, IsRound, Lets, Turns, all_pass, round_of}
use Rattle.actor_rounds.proofs.RoundFacts.{AreBuilt, round_grows}
use Rattle.actor_rounds.proofs.RunFacts.{run_grows}
use Rattle.settle_measure.specs.Left.Measure.{work_left}
use Rattle.settle_writes.specs.Writes.Lasting.{HasLasting, content_of}
use Rattle.settle_alike.specs.Alike.Alike.{AreAlike}
use Rattle.settle_alike.proofs.Alike.Calls.{entries_last_or_leave_alike}
use Rattle.settle_alike.proofs.Alike.Dues.{alike_is_due}
use Rattle.settle_alike.proofs.Alike.Rows.{row_plain}
use Rattle.settle_budget.proofs.Nodes.Nodes.{pods_are_on_given_nodes}
use Rattle.settle_progress.specs.Epochs.Epochs.{IsCurrent}
use Rattle.settle_progress.proofs.Epochs.Epochs.{run_stays}
use Rattle.settle_progress.proofs.Epochs.Silent.{current_are_awake}
use Rattle.settle_progress.specs.Agents.Rounds.{HasAwake}
use Rattle.settle_progress.specs.Drains.Rounds.{
  DueFor,
  for_claim,
  for_volume,
  ForAgent,
  ForBinder,
  ForBinderOfClaims,
  ForClaimProtection,
  ForProvisioner,
  ForReclaimer,
  ForScheduler,
  ForVolumeProtection,
  HasCurrent,
  doer_of,
}
use Rattle.settle_progress.proofs.Drains.Doers.{due_is_for}
use Rattle.settle_progress.proofs.Drains.Rounds.{HasRole, is_agent, not_agent, role_at}
use Rattle.settle_pays.specs.Pays.Pays.{HavePaid, worth}
use Rattle.settle_pays.proofs.Pays.Entries.{paid_is_less}
use Rattle.settle_pays.proofs.Drains.Rounds.{round_paid}
use Rattle.settle_budget.specs.Drains.Budget.{AreAlwaysInOrder}
use Rattle.settle_alike.specs.Near.Near.{AreNear}
use Rattle.settle_alike.proofs.Near.Near.{back_near, near_assigns, pod_near, stands_near, waiting_due}
use Rattle.settle_tries.specs.Tries.Deciding.{IsWithin}
use Rattle.settle_tries.specs.Tries.Quiet.{AreCached, IsQuietRound, OnlyPrepares, PreparesPod, QuietRoundsEnd, QuietRoundsLeaveNear, decides_kind}
use Rattle.settle_tries.proofs.Quiet.Behind.{IsBehind, due_behind}
use Rattle.settle_tries.proofs.Moves.Moving.{AreOfKind, paid_leave_near, paid_split}
use Rattle.settle_tries.proofs.Quiet.Ops.{no_provision, no_reclaim}
use Rattle.settle_tries.proofs.Moves.Parts.{HasParts, parts_of, roles_behind}
use Rattle.settle_tries.proofs.Moves.Points.{order_within, quiet_at, run_kinds, run_within}
use Rattle.settle_tries.proofs.Moves.Points.{near_behind}
use Rattle.settle_progress.specs.Epochs.Awake.{IsAwake}
use Rattle.settle_budget.specs.Nodes.Nodes.{WasGiven}
use Rattle.binder_model.specs.Told.{own}
use Rattle.actor_rounds.specs.Drainers.{IsStanding}
use Rattle.settle_slot.proofs.Slot.Slots.{memory_awake}
use Rattle.std.specs.Prelude.{map}
use Rattle.std.proofs.Common.{if◌then◌else◌}
use Rattle.settle_tries.proofs.Moves.Points.{IsQuietAt, near_ahead}
use Rattle.settle_tries.proofs.Quiet.Assigning.{no_assign}
use Rattle.settle_progress.proofs.Drains.Drained.{no_agent as not_agents}

-- ---- the entries behind ops are worth something where they last

abbrev is_plain : SeatKind → Bool
is_plain seats.Scheduler = false
is_plain seats.Ops = false
is_plain kind = true

abbrev is_ops : SeatKind → Bool
is_ops seats.Ops = true
is_ops kind = false

plain_worth : (kind : SeatKind) (r : Request) → is_plain kind ≡ true → worth kind r ≡ 1
plain_worth seats.Scheduler r plain = absurd (true≢false (sym plain))
plain_worth seats.Ops r plain = absurd (true≢false (sym plain))
plain_worth seats.User r plain = refl
plain_worth seats.Binder r plain = refl
plain_worth seats.ClaimProtect r plain = refl
plain_worth seats.VolumeProtect r plain = refl
plain_worth seats.Agent r plain = refl

abbrev ArePlain : List Entry → Type 0
ArePlain [] = ⊤
ArePlain (e ∷ es) = (is_plain e.kind ≡ true) × ArePlain es

record HavePlain (h past : List Entry) : Type 0 where
  newer : List Entry
  are : past ≡ newer ++ h
  plain : ArePlain newer

plain_both : (newer older : List Entry) → ArePlain newer → ArePlain older → ArePlain (newer ++ older)
plain_both [] older new old = old
plain_both (e ∷ newer) older new old = (new.0, plain_both newer older new.1 old)

plain_at : (newer : List Entry) (e : Entry) (older : List Entry) → ArePlain (newer ++ (e ∷ older)) → is_plain e.kind ≡ true
plain_at [] e older are = are.0
plain_at (x ∷ newer) e older are = plain_at newer e older are.1

of_kind_plain : (kind : SeatKind) (es : List Entry) → is_plain kind ≡ true → AreOfKind kind es → ArePlain es
of_kind_plain kind [] plain are = tt
of_kind_plain kind (e ∷ es) plain are = (ap is_plain are.0 ∙ plain, of_kind_plain kind es plain are.1)

abbrev RolesPlain : List Role → Type 0
RolesPlain [] = ⊤
RolesPlain (role ∷ roles) = (is_plain role.kind ≡ true) × RolesPlain roles

agents_plain : (nodes : List (List ℕ)) → RolesPlain (map agent_of nodes)
agents_plain [] = tt
agents_plain (node ∷ nodes) = (refl, agents_plain nodes)

behind_plain : (nodes : List (List ℕ)) → RolesPlain (roles_behind nodes)
behind_plain nodes = (refl, (refl, (refl, agents_plain nodes)))

agents_built : (nodes : List (List ℕ)) → AreBuilt (map agent_of nodes)
agents_built [] = tt
agents_built (node ∷ nodes) = (tt, agents_built nodes)

behind_built : (nodes : List (List ℕ)) → AreBuilt (roles_behind nodes)
behind_built nodes = (tt, (tt, (tt, agents_built nodes)))

module _ (lets : Lets) (past : List Entry) (left : ℕ) where
  round_plain : (ds : List Drainer) (h : List Entry) (b : ℕ) (after : List Drainer) (whole : Bool) → IsRound lets past left ds h b after whole → RolesPlain (roles_of ds) → HavePlain h past
  round_plain _ h b _ _ (Ends entries rest) plain = record { newer = []; are = entries; plain = tt }
  round_plain _ h b _ _ (Turns {ds = ds} {after = after} {whole = whole} d ran middle rest idle seat runs more) plain =
      let later = round_plain ds middle rest after whole more plain.1 in
      let slot = run_kinds lets d.seat d.actor.role.kind ran.actor middle rest idle (woken d.actor) h b runs refl in
      record {
        newer = later.newer ++ slot.newer;
        are = later.are ∙ (ap (λ es. later.newer ++ es) slot.are ∙ sym (append_assoc later.newer slot.newer h));
        plain = plain_both later.newer slot.newer later.plain (of_kind_plain d.actor.role.kind slot.newer plain.0 slot.kinds);
      }

none_lasts : (setup : Setup) (h past : List Entry) → IsHistory setup past → HavePaid setup h past
    → work_left setup (world setup h) ≤ work_left setup (world setup past) → HavePlain h past → HasLasting setup h past → ⊥
none_lasts setup h past history paid le p l =
    let same : p.newer ≡ l.newer ++ (l.entry ∷ l.older) = append_cancel_right p.newer (l.newer ++ (l.entry ∷ l.older)) h (sym p.are ∙ (l.are ∙ sym (append_assoc l.newer (l.entry ∷ l.older) h))) in
    let plain = plain_at l.newer l.entry l.older (subst ArePlain same p.plain) in
    let less = (paid_is_less setup h past history paid).falls (record { lasting = l; worth_is = plain_worth l.entry.kind l.entry.request plain }) in
    absurd (omega (arith, less, le))

-- ---- what stands in worlds that are alike

pub record StandsAlike (setup : Setup) (h : List Entry) (key : Key) (o : Object) : Type 0 where
  pub object : Object
  pub there : row_at key (world setup h).store.rows ≡ Some object
  pub same : content_of object ≡ content_of o

pub stands_alike : (setup : Setup) (h past : List Entry) (key : Key) (o : Object) → AreAlike (world setup h) (world setup past)
    → row_at key (world setup past).store.rows ≡ Some o → StandsAlike setup h key o
stands_alike setup h past key o alike there = by (row_at key (world setup h).store.rows) refl
  where
    met : option_map content_of (row_at key (world setup h).store.rows) ≡ Some (content_of o)
    met = sym (row_plain key (world setup h).store.rows) ∙ (ap (row_at key) alike.rows ∙ (row_plain key (world setup past).store.rows ∙ ap (option_map content_of) there))

    by : (x : Option Object) → row_at key (world setup h).store.rows ≡ x → StandsAlike setup h key o
    by None e = none_some (sym (ap (option_map content_of) e) ∙ met)
    by (Some p) e = record { object = p; there = e; same = one (content_of p) (content_of o) (sym (ap (option_map content_of) e) ∙ met) }

doer_plain : (o : Object) (action : Due) → doer_of (content_of o) action ≡ doer_of o action
doer_plain (Class x) action = refl
doer_plain (Node x) action = refl
doer_plain (Volume x) action = refl
doer_plain (Claim x) action = refl
doer_plain (Pod x) action = refl

abbrev pub is_scheduler : SeatKind → Bool
is_scheduler seats.Scheduler = true
is_scheduler kind = false

not_volume : (action : Due) → for_volume action ≡ seats.Scheduler → ⊥
not_volume dues.Reclaim is = true≢false (sym (ap is_scheduler is))
not_volume dues.Guard is = true≢false (sym (ap is_scheduler is))
not_volume dues.Unguard is = true≢false (sym (ap is_scheduler is))
not_volume _ is = true≢false (sym (ap is_scheduler is))

not_claim : (action : Due) → for_claim action ≡ seats.Scheduler → ⊥
not_claim dues.Provision is = true≢false (sym (ap is_scheduler is))
not_claim dues.ClearNode is = true≢false (sym (ap is_scheduler is))
not_claim dues.Guard is = true≢false (sym (ap is_scheduler is))
not_claim dues.Unguard is = true≢false (sym (ap is_scheduler is))
not_claim _ is = true≢false (sym (ap is_scheduler is))

-- ---- an agent behind ops is no stale one

module _ (setup : Setup) (ds after : List Drainer) (h past : List Entry) (b left : ℕ) (q : IsQuietRound setup ds after h past b left) (p : HasParts all_pass past left ds h b after) where
  pub all_paid : HavePaid setup h past
  all_paid = round_paid setup all_pass (round_of q.round) q.allow q.may.may.stand.roles q.may.rests q.run

  pub stays_up : work_left setup (world setup h) ≤ work_left setup (world setup past)
  stays_up = let same = q.same in omega (arith, same)

  pub at_first : IsWithin h p.first.middle past
  at_first =
      let g = round_grows all_pass past left p.first.behind p.first.middle p.first.rest p.first.later true p.first.round in
      let s = run_grows all_pass p.first.drainer.seat p.first.ran.actor p.first.middle p.first.rest true (woken p.first.drainer.actor) h b p.first.runs in
      record { newer = g.longer.added; older = s.longer.added; ahead = g.longer.are; behind = s.longer.are }

  pub at_second : IsWithin h p.second.middle past
  at_second =
      let g = round_grows all_pass past left p.second.behind p.second.middle p.second.rest p.second.later true p.second.round in
      let s = run_grows all_pass p.second.drainer.seat p.second.ran.actor p.second.middle p.second.rest true (woken p.second.drainer.actor) p.first.middle p.first.rest p.second.runs in
      record {
        newer = g.longer.added;
        older = s.longer.added ++ at_first.older;
        ahead = g.longer.are;
        behind = s.longer.are
            ∙ (ap (λ es. s.longer.added ++ es) at_first.behind ∙ sym (append_assoc s.longer.added at_first.older h));
      }

  pub second_run : IsRunOf setup p.second.middle
  second_run = run_within setup h past q.run q.order all_paid stays_up p.second.middle at_second

  pub second_order : AreAlwaysInOrder setup p.second.middle
  second_order = order_within setup h past q.run q.order all_paid stays_up p.second.middle at_second

  -- the entries of ops pay, and leave as much to do
  pub ops_paid : HavePaid setup p.first.middle p.second.middle
  ops_paid =
      let s = run_grows all_pass p.second.drainer.seat p.second.ran.actor p.second.middle p.second.rest true (woken p.second.drainer.actor) p.first.middle p.first.rest p.second.runs in
      (paid_split setup h p.first.middle p.second.middle s.longer.added at_first.older s.longer.are at_first.behind
      (quiet_at setup h past q.run q.order all_paid stays_up p.second.middle at_second).behind).0

  pub ops_stays : work_left setup (world setup p.first.middle) ≤ work_left setup (world setup p.second.middle)
  ops_stays =
      let x = quiet_at setup h past q.run q.order all_paid stays_up p.first.middle at_first in
      let y = quiet_at setup h past q.run q.order all_paid stays_up p.second.middle at_second in
      let down = y.down in
      let up = (paid_is_less setup h p.first.middle (runs_are_histories setup p.first.middle (run_within setup h past q.run q.order all_paid stays_up p.first.middle at_first).run) x.behind).stays in
      omega (arith, down, up)

  -- behind ops nothing lasts
  tail_plain : HavePlain p.second.middle past
  tail_plain = round_plain all_pass past left p.second.behind p.second.middle p.second.rest p.second.later true p.second.round (subst RolesPlain (sym p.others) (behind_plain p.nodes))

  tail_lasts : HasLasting setup p.second.middle past → ⊥
  tail_lasts l = let y = quiet_at setup h past q.run q.order all_paid stays_up p.second.middle at_second in
      none_lasts setup p.second.middle past (runs_are_histories setup past q.run.run) y.ahead y.up tail_plain l

  pub tail_alike : AreAlike (world setup p.second.middle) (world setup past)
  tail_alike = by (entries_last_or_leave_alike setup tail_plain.newer p.second.middle (subst (IsHistory setup) tail_plain.are (runs_are_histories setup past q.run.run)))
    where
      by : HasLasting setup p.second.middle (tail_plain.newer ++ p.second.middle)
          ⊎ AreAlike (world setup p.second.middle) (world setup (tail_plain.newer ++ p.second.middle)) → AreAlike (world setup p.second.middle) (world setup past)
      by (inl l) = absurd (tail_lasts (subst (HasLasting setup p.second.middle) (sym tail_plain.are) l))
      by (inr alike) = subst (λ es. AreAlike (world setup p.second.middle) (world setup es)) (sym tail_plain.are) alike

  -- ---- who is behind

  role_behind : (kind : SeatKind) → IsBehind kind → HasRole p.second.behind (of_kind kind)
  role_behind seats.Binder is = role_at p.second.behind 0 (of_kind seats.Binder) (ap (λ roles. slice_get roles 0) p.others)
  role_behind seats.ClaimProtect is = role_at p.second.behind 1 (of_kind seats.ClaimProtect) (ap (λ roles. slice_get roles 1) p.others)
  role_behind seats.VolumeProtect is = role_at p.second.behind 2 (of_kind seats.VolumeProtect) (ap (λ roles. slice_get roles 2) p.others)
  role_behind seats.Scheduler is = absurd is
  role_behind seats.Ops is = absurd is
  role_behind seats.User is = absurd is
  role_behind seats.Agent is = absurd is

  -- the agent of a node that was given
  awake_behind : (node : List ℕ) → HasCurrent setup ds h node → HasAwake setup p.second.behind p.second.middle node
  awake_behind node c = by c.place c.drainer (ap (λ xs. slice_get xs c.place)
      (sym (p.first.ds_are ∙ ap (λ xs. p.first.drainer ∷ xs) p.second.ds_are)) ∙ c.there) c.role (current_are_awake setup ds h c.place c.drainer node q.may.only c.there c.role c.current)
    where
      current_on : (d : Drainer) → IsCurrent setup h node d.seat → IsCurrent setup p.second.middle node d.seat
      current_on d current =
          let on_first = run_stays setup all_pass p.first.drainer.seat d.seat node p.first.ran.actor p.first.middle p.first.rest true
          (runs_are_histories setup p.first.middle (run_within setup h past q.run q.order all_paid stays_up p.first.middle at_first).run) (woken p.first.drainer.actor) h b p.first.runs
          (subst (λ (r : Role). IsBuiltKind r.kind) (sym p.scheduler) tt) (λ same. absurd (not_agents seats.Scheduler node refl (sym p.scheduler ∙ same))) current in
          run_stays setup all_pass p.second.drainer.seat d.seat node p.second.ran.actor p.second.middle p.second.rest true
          (runs_are_histories setup p.second.middle second_run.run) (woken p.second.drainer.actor) p.first.middle p.first.rest p.second.runs
          (subst (λ (r : Role). IsBuiltKind r.kind) (sym p.ops) tt) (λ same. absurd (not_agents seats.Ops node refl (sym p.ops ∙ same))) on_first

      by : (place : ℕ) (d : Drainer) → slice_get (p.first.drainer ∷ p.second.drainer ∷ p.second.behind) place ≡ Some d → d.actor.role ≡ agent_of node
          → IsAwake setup h node d → HasAwake setup p.second.behind p.second.middle node
      by zero d at role awake = absurd (not_agents seats.Scheduler node refl (sym p.scheduler ∙ (ap (λ (x : Drainer). x.actor.role) (one p.first.drainer d at) ∙ role)))
      by (suc zero) d at role awake = absurd (not_agents seats.Ops node refl (sym p.ops ∙ (ap (λ (x : Drainer). x.actor.role) (one p.second.drainer d at) ∙ role)))
      by (suc (suc place)) d at role awake = record { place = place; drainer = d; there = at; role = role; awake = record { fresh = awake.fresh; current = current_on d awake.current } }

  left_near : AreNear (world setup h) (world setup past)
  left_near = paid_leave_near setup h past q.run q.order all_paid stays_up

  near_second : AreNear (world setup h) (world setup p.second.middle)
  near_second = near_behind setup h past q.run q.order all_paid stays_up p.second.middle at_second

  awake_for : (key : Key) (o : Object) (role : Role) → row_at key (world setup p.second.middle).store.rows ≡ Some o
      → DueFor setup (world setup p.second.middle) o role → (node : List ℕ) → role ≡ agent_of node → HasAwake setup p.second.behind p.second.middle node
  awake_for key _ _ there (ForAgent pod action scheduled due) node same =
      let n = pod_near (world setup h) (world setup p.second.middle) key pod near_second there in
      let placed : n.pod.node ≡ node = ap (λ (x : Object). node_of x) n.same ∙ ap (λ (r : Role). r.node) same in
      let on : is_scheduled n.pod ≡ true = ap (λ (x : Object). scheduled_of x) n.same ∙ scheduled in
      awake_behind node (q.may.served node (subst (WasGiven setup h) placed (pods_are_on_given_nodes setup h key n.pod n.there on)))
    where
      node_of : Object → List ℕ
      node_of (Pod x) = x.node
      node_of x = []

      scheduled_of : Object → Bool
      scheduled_of (Pod x) = is_scheduled x
      scheduled_of x = false
  awake_for key _ _ there (ForReclaimer v action due) node same = absurd (not_agents seats.Ops node refl same)
  awake_for key _ _ there (ForProvisioner c action due) node same = absurd (not_agents seats.Ops node refl same)
  awake_for key _ _ there (ForScheduler pod action open_ due) node same = absurd (not_agents seats.Scheduler node refl same)
  awake_for key _ _ there (ForBinder v action due) node same = absurd (not_agents seats.Binder node refl same)
  awake_for key _ _ there (ForBinderOfClaims c action due) node same = absurd (not_agents seats.Binder node refl same)
  awake_for key _ _ there (ForClaimProtection c action due) node same = absurd (not_agents seats.ClaimProtect node refl same)
  awake_for key _ _ there (ForVolumeProtection v action due) node same = absurd (not_agents seats.VolumeProtect node refl same)

  -- ---- ops

  module _ (cached : AreCached setup ds h) where
    second_there : slice_get ds 1 ≡ Some p.second.drainer
    second_there = ap (λ xs. slice_get xs 1) (p.first.ds_are ∙ ap (λ xs. p.first.drainer ∷ xs) p.second.ds_are)

    -- what stands has been cached
    ops_has : (key : Key) (o : Object) → row_at key (world setup p.second.middle).store.rows ≡ Some o → decides_kind seats.Ops (key_of o).kind ≡ true
        → (x : Object) × (row_at key (all_objects p.second.drainer.actor.caches) ≡ Some x)
    ops_has key o there decides = by (row_at key (all_objects p.second.drainer.actor.caches)) refl
        (let s = stands_near (world setup h) (world setup p.second.middle) key o near_second there in
        cached 1 p.second.drainer second_there key s.object s.there
        (ap (λ (r : Role). decides_kind r.kind key.kind) p.ops ∙ (ap (λ (k : Key). decides_kind seats.Ops k.kind) (sym (row_at_key key o (world setup p.second.middle).store.rows there)) ∙ decides)))
      where
        by : (x : Option Object) → row_at key (all_objects p.second.drainer.actor.caches) ≡ x
            → is_some (row_at key (all_objects p.second.drainer.actor.caches)) ≡ true → (y : Object) × (row_at key (all_objects p.second.drainer.actor.caches) ≡ Some y)
        by (Some y) e has = (y, e)
        by None e has = absurd (true≢false (sym has ∙ ap is_some e))

    pub ops_idle : p.second.drainer.actor.under ≡ None
    ops_idle = q.may.rests 1 p.second.drainer second_there (ops_fresh (q.may.may.stand.each 1 p.second.drainer second_there))
      where
        ops_fresh : IsStanding p.second.drainer h → p.second.drainer.actor.memory.stale ≡ false
        ops_fresh stands = ap (λ m. m.stale) stands.told.memory ∙ memory_awake p.second.drainer.actor.role (own p.second.drainer.seat h) (not_agent _ (ap (λ (r : Role). is_agent r.kind) p.ops))

    ops_done : (key : Key) (o : Object) (role : Role) → row_at key (world setup p.second.middle).store.rows ≡ Some o → DueFor setup (world setup p.second.middle) o role → role.kind ≡ seats.Ops → ⊥
    ops_done key _ _ there (ForReclaimer v action due) is =
        let c = ops_has key (Volume v) there refl in
        no_reclaim setup p.second.drainer.seat p.second.drainer.actor p.second.ran.actor p.first.middle p.second.middle p.first.rest p.second.rest
        (ap (λ (r : Role). r.kind) p.ops) second_run second_order ops_idle p.second.runs ops_paid ops_stays key v action c.0 there due c.1
    ops_done key _ _ there (ForProvisioner v action due) is =
        let c = ops_has key (Claim v) there refl in
        no_provision setup p.second.drainer.seat p.second.drainer.actor p.second.ran.actor p.first.middle p.second.middle p.first.rest p.second.rest
        (ap (λ (r : Role). r.kind) p.ops) second_run second_order ops_idle p.second.runs ops_paid ops_stays key v action c.0 there due c.1
    ops_done key _ _ there (ForScheduler pod action open_ due) is = absurd (true≢false (sym (ap is_ops is)))
    ops_done key _ _ there (ForBinder v action due) is = absurd (true≢false (sym (ap is_ops is)))
    ops_done key _ _ there (ForBinderOfClaims c action due) is = absurd (true≢false (sym (ap is_ops is)))
    ops_done key _ _ there (ForClaimProtection c action due) is = absurd (true≢false (sym (ap is_ops is)))
    ops_done key _ _ there (ForVolumeProtection v action due) is = absurd (true≢false (sym (ap is_ops is)))
    ops_done key _ _ there (ForAgent pod action scheduled due) is = absurd (true≢false (sym (ap is_ops is)))

    only_pods : (key : Key) (o : Object) (action : Due) → row_at key (world setup past).store.rows ≡ Some o → IsDue setup (world setup past) o (Some action) → (doer_of o action).kind ≡ seats.Scheduler
    only_pods key o action there due =
        let s = stands_alike setup p.second.middle past key o tail_alike there in
        let due_there : IsDue setup (world setup p.second.middle) s.object (Some action) =
        alike_is_due setup (world setup past) (world setup p.second.middle) o s.object (Some action)
        (record { rows = sym tail_alike.rows; stored = sym tail_alike.stored; mounts = sym tail_alike.mounts }) (sym s.same) due in
        let for_it = due_is_for setup (world setup p.second.middle) action s.object due_there in
        let doer : doer_of s.object action ≡ doer_of o action = sym (doer_plain s.object action) ∙ (ap (λ x. doer_of x action) s.same ∙ doer_plain o action) in
        elim (due_behind setup p.second.behind p.second.later p.second.middle past p.second.rest left key s.object (doer_of s.object action) q.run
        (subst AreBuilt (sym p.others) (behind_built p.nodes)) p.second.round s.there for_it role_behind (awake_for key s.object (doer_of s.object action) s.there for_it)) [
          | inl ops ↦ absurd (ops_done key s.object (doer_of s.object action) s.there for_it ops)
          | inr (inl scheduler) ↦ ap (λ (r : Role). r.kind) (sym doer) ∙ scheduler
          | inr (inr lasts) ↦ absurd (tail_lasts lasts)
        ]

    -- ---- the scheduler

    pub first_there : slice_get ds 0 ≡ Some p.first.drainer
    first_there = ap (λ xs. slice_get xs 0) p.first.ds_are

    pub scheduler_idle : p.first.drainer.actor.under ≡ None
    scheduler_idle = q.may.rests 0 p.first.drainer first_there (scheduler_fresh (q.may.may.stand.each 0 p.first.drainer first_there))
      where
        scheduler_fresh : IsStanding p.first.drainer h → p.first.drainer.actor.memory.stale ≡ false
        scheduler_fresh stands = ap (λ m. m.stale) stands.told.memory
            ∙ memory_awake p.first.drainer.actor.role (own p.first.drainer.seat h) (not_agent _ (ap (λ (r : Role). is_agent r.kind) p.scheduler))

    pub near_first : AreNear (world setup h) (world setup p.first.middle)
    near_first = near_behind setup h past q.run q.order all_paid stays_up p.first.middle at_first

    pod_cached : (key : Key) (pod : PodData) → row_at key (world setup p.first.middle).store.rows ≡ Some (Pod pod) → (x : Object) × (row_at key (all_objects p.first.drainer.actor.caches) ≡ Some x)
    pod_cached key pod there = by (row_at key (all_objects p.first.drainer.actor.caches)) refl
        (let s = stands_near (world setup h) (world setup p.first.middle) key (Pod pod) near_first there in
        cached 0 p.first.drainer first_there key s.object s.there
        (ap (λ (r : Role). decides_kind r.kind key.kind) p.scheduler
        ∙ ap (λ (k : Key). decides_kind seats.Scheduler k.kind) (sym (row_at_key key (Pod pod) (world setup p.first.middle).store.rows there))))
      where
        by : (x : Option Object) → row_at key (all_objects p.first.drainer.actor.caches) ≡ x
            → is_some (row_at key (all_objects p.first.drainer.actor.caches)) ≡ true → (y : Object) × (row_at key (all_objects p.first.drainer.actor.caches) ≡ Some y)
        by (Some y) e has = (y, e)
        by None e has = absurd (true≢false (sym has ∙ ap is_some e))

    pub first_paid : IsQuietAt setup h p.first.middle past
    first_paid = quiet_at setup h past q.run q.order all_paid stays_up p.first.middle at_first

    -- no pod is to be bound to a node
    none_assigned : (key : Key) (pod : PodData) → row_at key (world setup past).store.rows ≡ Some (Pod pod) → is_scheduled pod ≡ false → IsDue setup (world setup past) (Pod pod) (Some dues.Assign) → ⊥
    none_assigned key pod there open_ due =
        let near : AreNear (world setup p.first.middle) (world setup past) = near_ahead setup h past q.run q.order all_paid stays_up p.first.middle at_first in
        let n = pod_near (world setup p.first.middle) (world setup past) key pod near there in
        let c = pod_cached key n.pod n.there in
        no_assign setup p.first.drainer.seat p.first.drainer.actor p.first.ran.actor h p.first.middle b p.first.rest
        (ap (λ (r : Role). r.kind) p.scheduler) (run_within setup h past q.run q.order all_paid stays_up p.first.middle at_first)
        (order_within setup h past q.run q.order all_paid stays_up p.first.middle at_first) scheduler_idle p.first.runs first_paid.behind
        first_paid.down key n.pod c.0 n.there (ap (λ (x : Object). scheduled_of x) n.same ∙ open_)
        (near_assigns setup (world setup past) (world setup p.first.middle) pod n.pod (back_near (world setup p.first.middle) (world setup past) near) (sym n.same) open_ due) c.1
      where
        scheduled_of : Object → Bool
        scheduled_of (Pod x) = is_scheduled x
        scheduled_of x = false

    -- what is due for the scheduler is a pod to be prepared
    only_prepares : OnlyPrepares setup (world setup past)
    only_prepares key (Pod pod) action there due = by (is_scheduled pod) refl
      where
        by_step : (s : Step) → is_scheduled pod ≡ false → IsStepDue setup (world setup past) pod s (Some action) → (action ≡ dues.Assign) ⊎ (action ≡ dues.Prepare)
        by_step (Assigns n) open_ is = inl (one action dues.Assign is)
        by_step Searches open_ is = inr is.0
        by_step GoesNowhere open_ is = none_some (sym is)
        by_step Waits open_ is = none_some (sym is)

        by : (b : Bool) → is_scheduled pod ≡ b → PreparesPod (Pod pod) action
        by true e = absurd (true≢false (sym (ap (λ (c : Bool). is_agent (if c then agent_of pod.node else of_kind seats.Scheduler).kind) e) ∙ ap is_agent (only_pods key (Pod pod) action there due)))
        by false e = elim (by_step (step_of (world setup past).store.rows pod) e (waiting_due setup (world setup past) pod (Some action) e due)) [
          | inl assign ↦ absurd (none_assigned key pod there e (subst (λ a. IsDue setup (world setup past) (Pod pod) (Some a)) assign due))
          | inr prepare ↦ record { pod = pod; is = refl; waits = e; prepares = prepare }
        ]
    only_prepares key (Volume v) action there due = absurd (not_volume action (only_pods key (Volume v) action there due))
    only_prepares key (Claim c) action there due = absurd (not_claim action (only_pods key (Claim c) action there due))
    only_prepares key (Class x) action there due = none_some (sym due)
    only_prepares key (Node x) action there due = none_some (sym due)

pub quiet_rounds_leave_near : QuietRoundsLeaveNear
quiet_rounds_leave_near setup ds after h past b left q = left_near setup ds after h past b left q (parts_of all_pass past left ds h b after q.may.may.stand.roles q.round)

pub quiet_rounds_end : QuietRoundsEnd
quiet_rounds_end setup ds after h past b left q cached = only_prepares setup ds after h past b left q (parts_of all_pass past left ds h b after q.may.may.stand.roles q.round) cached
