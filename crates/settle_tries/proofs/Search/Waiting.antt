-- Each pod that is to be prepared at the end of a quiet round was tried in it.
use Rattle.std.proofs.Common.{◌≡◌, ◌∙◌, ℕ, ◌≤◌, List, ◌++◌, append_assoc, Bool, true, false, true≢false, Option, Some, None, refl, sym, ap, subst}
use Rattle.std.specs.Prelude.{◌&&◌, is_some, not, option_map}
use Rattle.plain_data.specs.Pairs.{value_at}
use Rattle.kube_objects.specs.declared.key.Key.{Key}
use Rattle.kube_parts.specs.declared.names.Due.TheVariants as dues
use Rattle.kube_objects.specs.declared.objects.Claim.{Claim as ClaimData}
use Rattle.kube_objects.specs.declared.objects.Node.{Node as NodeData}
use Rattle.kube_objects.specs.declared.objects.Object.{Object}
use Rattle.kube_objects.specs.declared.objects.Object.TheVariants.{Claim, Node, Pod}
use Rattle.kube_objects.specs.declared.objects.Pod.{Pod as PodData}
use Rattle.kube_objects.specs.Bindings.{is_completed, is_scheduled, selected_node}
use Rattle.kube_objects.specs.Keys.{AreRows, row_at}
use Rattle.kube_objects.proofs.KeyOrder.{row_at_key}
use Rattle.call_types.specs.declared.entry.Entry.{Entry}
use Rattle.call_types.specs.declared.request.SeatKind.TheVariants as seats
use Rattle.call_types.specs.declared.setup.Setup.{Setup}
use Rattle.binder_model.specs.Choice.{has_carrier, is_other, others_of}
use Rattle.binder_model.specs.Due.{IsDue, provision_due, shares_are_served}
use Rattle.binder_model.specs.ObjectKeys.{claim_key, node_key}
use Rattle.binder_model.specs.Promises.{IsRunOf}
use Rattle.binder_model.specs.Told.{SomeOf}
use Rattle.binder_model.specs.World.{world}
use Rattle.delayed_binding.specs.ChoiceLaw.{HaveNoNamespace}
use Rattle.delayed_binding.proofs.Dues.{serves_there}
use Rattle.delayed_binding.proofs.Known.{claim_of_row}
use Rattle.informer_cache.specs.All.{all_objects}
use Rattle.model_laws.proofs.Histories.{rows_stand_in_order}
use Rattle.model_laws.proofs.Lists.{one}
use Rattle.pod_scheduler.specs.Decisions.{last_refused}
use Rattle.settle_check.proofs.Placed.{none_in_a_namespace}
use Rattle.settle_measure.specs.Left.Measure.{work_left}
use Rattle.worker_core.specs.declared.role.Role.{Role}
use Rattle.actor_rounds.specs.declared.drainers.Drainer.{Drainer}
use Rattle.actor_rounds.specs.Rounds.{all_pass}
use Rattle.settle_writes.specs.Writes.Lasting.{content_of}
use Rattle.settle_alike.proofs.Alike.Rows.{plain_node}
use Rattle.settle_due.proofs.Scheduling.Turning.{first_serving}
use Rattle.settle_pays.specs.Pays.Pays.{HavePaid}
use Rattle.settle_budget.specs.Drains.Budget.{AreAlwaysInOrder}
use Rattle.settle_budget.specs.Drains.Measured.{SharesWell}
use Rattle.settle_alike.specs.Near.Near.{AreNear, rest_of}
use Rattle.settle_alike.proofs.Near.Near.{ClaimNear, back_near, claim_near, stands_near}
use Rattle.settle_alike.proofs.Near.Serving.{IsNode, node_back}
use Rattle.settle_tries.specs.Tries.Deciding.{IsWithin}
use Rattle.settle_tries.specs.Tries.Quiet.{AreCached, IsQuietRound, OnlyPrepares, decides_kind}
use Rattle.settle_tries.proofs.Moves.Moving.{one_node_so}
use Rattle.settle_tries.proofs.Moves.Parts.{HasParts, parts_of}
use Rattle.settle_tries.proofs.Moves.Points.{IsQuietAt, near_ahead, order_within, run_within}
use Rattle.settle_tries.proofs.Quiet.Quiet.{
  all_paid,
  at_first,
  at_second,
  first_paid,
  first_there,
  ops_idle,
  ops_paid,
  ops_stays,
  quiet_rounds_leave_near,
  scheduler_idle,
  second_order,
  second_run,
  stands_alike,
  stays_up,
  tail_alike,
}
use Rattle.settle_tries.proofs.Quiet.Taking.{taken_were_due}
use Rattle.settle_tries.specs.Tries.Waiting.{IsTried, WaitingAreTried, WasTried}
use Rattle.settle_tries.proofs.Search.Open.{IsNamed, open_is_other, other_of}
use Rattle.settle_tries.proofs.Search.Searching.{HasSearched, carrier_near, completed_near, has_searched}
use Rattle.settle_tries.proofs.Search.Served.{IsServedOn, each_served, served_near, unserved}
use Rattle.settle_tries.proofs.Search.Starting.{HasWaited, has_waited}
use Rattle.settle_tries.proofs.Search.Calling.{pods_claims, pods_namespace}

-- a claim that needs a volume is neither completed nor carried
other_parts : (rows : List Object) (c : ClaimData) → is_other rows c ≡ true → (is_completed c ≡ false) × (has_carrier rows c ≡ false)
other_parts rows c e = by (is_completed c) (has_carrier rows c) e
  where
    by : (done carried : Bool) → (not done && not carried) ≡ true → (done ≡ false) × (carried ≡ false)
    by false false f = (refl, refl)
    by false true f = absurd (true≢false (sym f))
    by true carried f = absurd (true≢false (sym f))

module _ (setup : Setup) (ds after : List Drainer) (h past : List Entry) (b left : ℕ) (q : IsQuietRound setup ds after h past b left)
    (parts : HasParts all_pass past left ds h b after) (cached : AreCached setup ds h) (only : OnlyPrepares setup (world setup h)) (shares : SharesWell (world setup h))
    (key : Key) (p : PodData) (there : row_at key (world setup past).store.rows ≡ Some (Pod p)) (waits : is_scheduled p ≡ false)
    (due : IsDue setup (world setup past) (Pod p) (Some dues.Prepare)) where
  paid : HavePaid setup h past
  paid = all_paid setup ds after h past b left q parts

  up : work_left setup (world setup h) ≤ work_left setup (world setup past)
  up = stays_up setup ds after h past b left q parts

  left_near : AreNear (world setup h) (world setup past)
  left_near = quiet_rounds_leave_near setup ds after h past b left q

  abbrev middle : List Entry
  middle = parts.first.middle

  within : IsWithin h middle past
  within = at_first setup ds after h past b left q parts

  run_m : IsRunOf setup middle
  run_m = run_within setup h past q.run q.order paid up middle within

  order_m : AreAlwaysInOrder setup middle
  order_m = order_within setup h past q.run q.order paid up middle within

  kind : parts.first.drainer.actor.role.kind ≡ seats.Scheduler
  kind = ap (λ (r : Role). r.kind) parts.scheduler

  -- ---- the pod when the round began

  was : HasWaited setup h past key p
  was = has_waited setup ds after h past b left q cached only shares paid up left_near key p there waits due

  pod_cached : (o : Object) × (row_at key (all_objects parts.first.drainer.actor.caches) ≡ Some o)
  pod_cached = by (row_at key (all_objects parts.first.drainer.actor.caches)) refl
      (cached 0 parts.first.drainer (first_there setup ds after h past b left q parts cached) key (Pod was.pod.pod) was.pod.there
      (ap (λ (r : Role). decides_kind r.kind key.kind) parts.scheduler
      ∙ ap (λ (k : Key). decides_kind seats.Scheduler k.kind) (sym (row_at_key key (Pod was.pod.pod) (world setup h).store.rows was.pod.there))))
    where
      by : (x : Option Object) → row_at key (all_objects parts.first.drainer.actor.caches) ≡ x
          → is_some (row_at key (all_objects parts.first.drainer.actor.caches)) ≡ true → (y : Object) × (row_at key (all_objects parts.first.drainer.actor.caches) ≡ Some y)
      by (Some y) e has = (y, e)
      by None e has = absurd (true≢false (sym has ∙ ap is_some e))

  -- ---- the search for it

  quiet : IsQuietAt setup h middle past
  quiet = first_paid setup ds after h past b left q parts cached

  searched : HasSearched setup parts.first.drainer.seat parts.first.drainer.actor.role h middle key was.pod.pod
  searched =
      has_searched setup parts.first.drainer.seat parts.first.drainer.actor parts.first.ran.actor h middle b parts.first.rest kind run_m order_m
      (scheduler_idle setup ds after h past b left q parts cached) parts.first.runs quiet.behind quiet.down shares
      key was.pod.pod was.pod.there was.waits was.due pod_cached.0 pod_cached.1

  near_point : AreNear (world setup searched.point) (world setup middle)
  near_point = near_ahead setup h middle run_m order_m quiet.behind quiet.down searched.point searched.within

  -- ---- the claim that lost its node

  abbrev claims_key : Key
  claims_key = claim_key p.meta.namespace was.open_.named.name

  near_m : AreNear (world setup middle) (world setup past)
  near_m = near_ahead setup h past q.run q.order paid up middle within

  -- behind the scheduler's slot
  behind : ClaimNear (world setup middle) claims_key was.open_.claim
  behind = claim_near (world setup middle) (world setup past) claims_key was.open_.claim near_m was.open_.named.there

  among : SomeOf (λ n. n ≡ was.open_.named.name) was.pod.pod.claims
  among = subst (SomeOf (λ n. n ≡ was.open_.named.name)) (sym (ap pods_claims was.pod.same)) was.open_.named.among

  keyed : claim_key was.pod.pod.meta.namespace was.open_.named.name ≡ claims_key
  keyed = ap (λ s. claim_key s was.open_.named.name) (ap pods_namespace was.pod.same)

  has_it : value_at selected_node behind.claim.meta.annotations ≡ Some searched.searched.name
  has_it =
      searched.placed was.open_.named.name among behind.claim (ap (λ k. row_at k (world setup middle).store.rows) keyed ∙ behind.there)
      (completed_near behind.claim was.open_.claim behind.same ∙ was.open_.undone)
      (carrier_near (world setup middle) (world setup past) behind.claim was.open_.claim near_m behind.same ∙ was.open_.uncarried)

  -- ops takes it back, since it is not served there
  lost : provision_due setup (world setup middle) behind.claim ≡ Some dues.ClearNode
  lost =
      let alike = tail_alike setup ds after h past b left q parts in
      let s = stands_alike setup parts.second.middle past claims_key (Claim was.open_.claim) alike was.open_.named.there in
      let n = claim_near (world setup parts.second.middle) (world setup past) claims_key was.open_.claim
      (near_ahead setup h past q.run q.order paid up parts.second.middle (at_second setup ds after h past b left q parts)) was.open_.named.there in
      let same : content_of (Claim n.claim) ≡ content_of (Claim was.open_.claim) = sym (ap content_of (one s.object (Claim n.claim) (sym s.there ∙ n.there))) ∙ s.same in
      taken_were_due setup parts.second.drainer.seat parts.second.drainer.actor parts.second.ran.actor middle parts.second.middle parts.first.rest
      parts.second.rest true claims_key behind.claim n.claim (ap (λ (r : Role). r.kind) parts.ops)
      (second_run setup ds after h past b left q parts) (second_order setup ds after h past b left q parts)
      (ops_idle setup ds after h past b left q parts cached) parts.second.runs (ops_paid setup ds after h past b left q parts) (ops_stays setup ds after h past b left q parts)
      behind.there n.there (ap is_some has_it) (ap is_some (one_node_so n.claim was.open_.claim same) ∙ was.open_.none)

  -- the node behind the slot
  node_m : IsNode (row_at (node_key searched.searched.search.prepared.node.meta.name) (world setup middle).store.rows) (plain_node searched.searched.search.prepared.node)
  node_m =
      let s = stands_near (world setup middle) (world setup searched.point) (node_key searched.searched.search.prepared.node.meta.name)
      (Node searched.searched.search.prepared.node) (back_near (world setup searched.point) (world setup middle) near_point) searched.searched.search.prepared.first.there in
      node_back (row_at (node_key searched.searched.search.prepared.node.meta.name) (world setup middle).store.rows)
      (plain_node searched.searched.search.prepared.node) (ap (option_map rest_of) s.there ∙ ap Some s.same)

  unserved_m : IsServedOn setup (world setup middle) node_m.node behind.claim false
  unserved_m =
      let name : node_m.node.meta.name ≡ searched.searched.search.prepared.node.meta.name = ap (λ (x : NodeData). x.meta.name) node_m.same in
      unserved setup (world setup middle) behind.claim node_m.node (ap (λ n. row_at (node_key n) (world setup middle).store.rows) name ∙ node_m.is)
      (has_it ∙ ap Some (searched.searched.search.prepared.named ∙ sym name)) lost

  -- where the pod was decided
  at_point : ClaimNear (world setup searched.point) claims_key behind.claim
  at_point = claim_near (world setup searched.point) (world setup middle) claims_key behind.claim near_point behind.there

  unserved_x : IsServedOn setup (world setup searched.point) searched.searched.search.prepared.node at_point.claim false
  unserved_x = served_near setup (world setup middle)
      (world setup searched.point) node_m.node searched.searched.search.prepared.node behind.claim at_point.claim false
      (back_near (world setup searched.point) (world setup middle) near_point) node_m.same (sym at_point.same) unserved_m

  now_named : IsNamed (world setup searched.point).store.rows searched.now at_point.claim
  now_named = record {
    name = was.open_.named.name;
    among = subst (SomeOf (λ n. n ≡ was.open_.named.name)) (sym (ap pods_claims searched.same)) among;
    there = ap (λ s. row_at (claim_key s was.open_.named.name) (world setup searched.point).store.rows) (ap pods_namespace searched.same ∙ ap pods_namespace was.pod.same) ∙ at_point.there;
  }

  now_other : is_other (world setup searched.point).store.rows at_point.claim ≡ true
  now_other =
      open_is_other (world setup searched.point).store.rows at_point.claim
      (completed_near at_point.claim behind.claim at_point.same ∙ (completed_near behind.claim was.open_.claim behind.same ∙ was.open_.undone))
      (carrier_near (world setup searched.point) (world setup middle) at_point.claim behind.claim near_point at_point.same
      ∙ (carrier_near (world setup middle) (world setup past) behind.claim was.open_.claim near_m behind.same ∙ was.open_.uncarried))

  -- so what is to be provisioned there cannot be given
  not_given : shares_are_served setup (world setup searched.point) searched.searched.search.prepared.node
      (others_of (world setup searched.point).store.rows searched.now) searched.searched.search.prepared.prepares.shares ≡ false
  not_given = by (shares_are_served setup (world setup searched.point) searched.searched.search.prepared.node
      (others_of (world setup searched.point).store.rows searched.now) searched.searched.search.prepared.prepares.shares) refl
    where
      by : (given : Bool) → shares_are_served setup (world setup searched.point) searched.searched.search.prepared.node
          (others_of (world setup searched.point).store.rows searched.now) searched.searched.search.prepared.prepares.shares ≡ given → given ≡ false
      by false e = refl
      by true e =
          let each = each_served setup (world setup searched.point) searched.searched.search.prepared.node
          (others_of (world setup searched.point).store.rows searched.now) searched.searched.search.prepared.prepares.shares searched.searched.provisioned e in
          absurd (true≢false (sym (other_of (world setup searched.point).store.rows searched.now
          (λ c. IsServedOn setup (world setup searched.point) searched.searched.search.prepared.node c true) each at_point.claim now_named now_other) ∙ unserved_x))

  -- ---- the try

  order_x : AreRows (world setup searched.point).store.rows
  order_x = rows_stand_in_order setup searched.point

  plain_x : HaveNoNamespace (world setup searched.point).store.rows
  plain_x = none_in_a_namespace setup q.run.imports searched.point

  tried : IsTried setup ds h past key (last_refused (world setup searched.point).store.rows searched.now searched.state.memory.tries.refused) searched.searched.search.prepared.node
  tried = record {
    scheduler = parts.first.drainer;
    there = first_there setup ds after h past b left q parts cached;
    state = searched.state;
    point = searched.point;
    within = record {
      newer = within.newer ++ searched.within.newer;
      older = searched.within.older;
      ahead = within.ahead ∙ (ap (λ es. within.newer ++ es) searched.within.ahead ∙ sym (append_assoc within.newer searched.within.newer searched.point));
      behind = searched.within.behind;
    };
    sees = searched.sees;
    under = searched.under;
    own = searched.own;
    gives = searched.gives;
    pod = searched.now;
    stands = searched.there;
    refused = refl;
    first = first_serving (world setup searched.point) order_x plain_x searched.now
        (last_refused (world setup searched.point).store.rows searched.now searched.state.memory.tries.refused) searched.searched.search.prepared.node searched.searched.search.prepared.first;
    fails = record {
      shares = searched.searched.search.prepared.prepares.shares;
      serves = serves_there (world setup searched.point).store.rows order_x plain_x searched.now searched.searched.search.prepared.node
          searched.searched.search.prepared.prepares.shares searched.searched.search.prepared.prepares.serves;
      given_is = not_given;
    };
  }

  pub was_tried : WasTried setup ds after h past b left key
  unfolding tried
  was_tried = record {
    pod = was.pod.pod;
    there = was.pod.there;
    waits = was.waits;
    due = was.due;
    from = last_refused (world setup searched.point).store.rows searched.now searched.state.memory.tries.refused;
    node = searched.searched.search.prepared.node;
    tried = tried;
    still = λ x w name i. searched.stay x w name i;
    slot = middle;
    at = record {
      ran = parts.first.ran;
      others = parts.first.behind;
      later = parts.first.later;
      rest = parts.first.rest;
      ds_are = parts.first.ds_are;
      after_are = parts.first.after_are;
      seat = parts.first.seat;
      runs = parts.first.runs;
      round = parts.first.round;
    };
    reached = searched.within;
    placed = λ name i c there_c other.
        let o = other_parts (world setup middle).store.rows c other in
        searched.placed name i c (claim_of_row (row_at (claim_key was.pod.pod.meta.namespace name) (world setup middle).store.rows) c there_c) o.0
        o.1 ∙ ap Some searched.searched.search.prepared.named;
  }

pub waiting_are_tried : WaitingAreTried
waiting_are_tried setup ds after h past b left key p q cached only shares there waits due =
    was_tried setup ds after h past b left q (parts_of all_pass past left ds h b after q.may.may.stand.roles q.round) cached only shares key p there waits due
