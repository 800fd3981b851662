-- Rounds that leave as much to do are few, since each tries one node less.
use Rattle.std.proofs.Common.{◌≡◌, ◌∙◌, ◌⊎◌, ℕ, zero, suc, ◌+◌, ◌≤◌, List, [], ◌∷◌, ◌++◌, append_assoc, true, false, Option, Some, inl, inr, refl, sym, ap, subst, arith}
use Rattle.std.specs.Prelude.{length, option_map, slice_get}
use Rattle.kube_objects.specs.declared.key.Key.{Key}
use Rattle.kube_parts.specs.declared.names.Due.{Due}
use Rattle.kube_parts.specs.declared.names.Due.TheVariants as dues
use Rattle.kube_objects.specs.declared.objects.Node.{Node as NodeData}
use Rattle.kube_objects.specs.declared.objects.Object.{Object}
use Rattle.kube_objects.specs.declared.objects.Object.TheVariants.{Class, Node, Volume, Claim, Pod}
use Rattle.kube_objects.specs.declared.objects.Pod.{Pod as PodData}
use Rattle.kube_objects.specs.Bindings.{is_scheduled}
use Rattle.kube_objects.specs.Keys.{key_of, row_at}
use Rattle.call_types.specs.declared.entry.Entry.{Entry}
use Rattle.call_types.specs.declared.setup.Setup.{Setup}
use Rattle.binder_model.specs.Choice.{nodes_of, step_of}
use Rattle.binder_model.specs.Due.{IsDue}
use Rattle.binder_model.specs.ObjectKeys.{node_key}
use Rattle.binder_model.specs.Promises.{IsRunOf}
use Rattle.binder_model.specs.World.{World, world}
use Rattle.model_laws.proofs.Histories.{rows_stand_in_order}
use Rattle.model_laws.proofs.Lists.{IsIn, one}
use Rattle.model_laws.proofs.Readings.{found_stands, member_stands}
use Rattle.settle_check.proofs.Placed.{none_in_a_namespace}
use Rattle.settle_measure.specs.Left.Measure.{work_left}
use Rattle.settle_measure.specs.Left.Tries.{TriesLeft, in_turn}
use Rattle.settle_measure.proofs.Left.Trying.{tries_are_few}
use Rattle.actor_rounds.specs.declared.drainers.Drainer.{Drainer}
use Rattle.actor_rounds.specs.Drainers.{agent_of, roles_for, roles_of}
use Rattle.actor_rounds.specs.Rounds.{IsRound, all_pass, round_of}
use Rattle.actor_rounds.proofs.RoundFacts.{round_grows, round_seats, same_length}
use Rattle.settle_alike.proofs.Alike.Rows.{get_mapped, plain_node}
use Rattle.settle_writes.specs.Writes.Lasting.{content_of}
use Rattle.settle_alike.proofs.Near.Trying.{nodes_rest}
use Rattle.settle_budget.proofs.Nodes.Nodes.{nodes_were_given}
use Rattle.settle_due.proofs.Scheduling.Fewer.{all_in_turn, one_node_less}
use Rattle.settle_due.proofs.Scheduling.Turning.{in_nodes, rising_nodes}
use Rattle.settle_pays.specs.Pays.Pays.{HavePaid}
use Rattle.settle_progress.proofs.Epochs.Silent.{older_run}
use Rattle.settle_pays.specs.Drains.All.{ImportsAllow}
use Rattle.settle_pays.proofs.Drains.Rounds.{round_paid}
use Rattle.settle_budget.specs.Drains.Budget.{AreAlwaysInOrder}
use Rattle.settle_budget.specs.Drains.Measured.{AreFew, AreQuiet, NoRound, OneMore, SharesWell}
use Rattle.settle_budget.specs.Drains.Rounds.{MaySettle}
use Rattle.settle_budget.proofs.Drains.Counting.{settles_next}
use Rattle.settle_alike.specs.Near.Near.{AreNear}
use Rattle.settle_alike.proofs.Near.Near.{back_near, near_prepares, near_tries, pod_near, prepare_due, waiting_due}
use Rattle.settle_tries.specs.Tries.Deciding.{IsWithin}
use Rattle.settle_tries.specs.Tries.Quiet.{AreCached, IsQuietRound, OnlyPrepares}
use Rattle.settle_tries.specs.Tries.Waiting.{IsTried, WaitingAreTried, WasTried}
use Rattle.settle_tries.specs.Tries.Going.{SearchesGoOn}
use Rattle.settle_tries.specs.Tries.Trying.{QuietRoundsAreFew, SharedDrainsSettle}
use Rattle.settle_tries.proofs.Search.Waiting.{waiting_are_tried}
use Rattle.settle_budget.proofs.Drains.Measured.{measured_drains_settle}
use Rattle.settle_tries.proofs.Few.Going.{searches_go_on}
use Rattle.settle_tries.proofs.Slots.Caching.{rounds_cache}
use Rattle.settle_tries.proofs.Few.Counting.{at_most, few_nodes, one_tried, roles_have, tries_there, turn_length}
use Rattle.settle_write_counts.proofs.Scheduler.Begun.{counted as mapped_length}
use Rattle.settle_tries.proofs.Moves.Moving.{in_order_before}
use Rattle.settle_tries.proofs.Moves.Points.{near_ahead, near_behind}
use Rattle.settle_tries.proofs.Quiet.Quiet.{quiet_rounds_end}
use Rattle.settle_tries.proofs.Moves.Sharing.{rounds_share_well}

-- ---- nodes

node_in_rows : (m : NodeData) (xs : List Object) → IsIn m (nodes_of xs) → IsIn (Node m) xs
node_in_rows m [] there = absurd there
node_in_rows m (Node n ∷ xs) (inl is) = inl (ap (λ x. Node x) is)
node_in_rows m (Node n ∷ xs) (inr more) = inr (node_in_rows m xs more)
node_in_rows m (Class x ∷ xs) there = inr (node_in_rows m xs there)
node_in_rows m (Volume x ∷ xs) there = inr (node_in_rows m xs there)
node_in_rows m (Claim x ∷ xs) there = inr (node_in_rows m xs there)
node_in_rows m (Pod x ∷ xs) there = inr (node_in_rows m xs there)

-- worlds that are near have as many
nodes_near : (old new : World) → AreNear old new → length (nodes_of old.store.rows) ≡ length (nodes_of new.store.rows)
nodes_near old new near =
    let a = mapped_length plain_node (nodes_of old.store.rows) in
    let b = mapped_length plain_node (nodes_of new.store.rows) in
    let same = ap length (sym (nodes_rest old.store.rows) ∙ (ap nodes_of near.rows ∙ nodes_rest new.store.rows)) in
    omega (arith, a, b, same)

-- each node that stands has an agent among at most eight
nodes_few : (setup : Setup) (ds : List Drainer) (h : List Entry) → MaySettle setup ds h → length ds ≤ 13 → length (nodes_of (world setup h).store.rows) ≤ 8
nodes_few setup ds h at small =
    let roles = at.may.stand.roles in
    let plain = none_in_a_namespace setup at.may.run.imports h in
    let order = rows_stand_in_order setup h in
    let few = few_nodes (nodes_of (world setup h).store.rows) roles.nodes
    (rising_nodes (world setup h).store.rows (λ n i. plain.nodes (key_of (Node n)) n (member_stands (Node n) (world setup h).store.rows order i)) order) has_agent in
    let counted : length (roles_of ds) ≡ length (roles_for roles.nodes) = ap length roles.are in
    let drainers = mapped_length (λ (d : Drainer). d.actor.role) ds in
    let agents = mapped_length agent_of roles.nodes in
    omega (arith, few, counted, drainers, agents, small)
  where
    has_agent : (n : NodeData) → IsIn n (nodes_of (world setup h).store.rows) → IsIn n.meta.name at.may.stand.roles.nodes
    has_agent n i =
        let stands = nodes_stand n i in
        let c = at.served n.meta.name (nodes_were_given setup h (key_of (Node n)) n stands) in
        roles_have at.may.stand.roles.nodes c.place n.meta.name
        (ap (λ roles. slice_get roles c.place) (sym at.may.stand.roles.are)
        ∙ (get_mapped (λ (d : Drainer). d.actor.role) ds c.place ∙ (ap (option_map (λ (d : Drainer). d.actor.role)) c.there ∙ ap Some c.role)))
      where
        nodes_stand : (m : NodeData) → IsIn m (nodes_of (world setup h).store.rows) → row_at (key_of (Node m)) (world setup h).store.rows ≡ Some (Node m)
        nodes_stand m j = member_stands (Node m) (world setup h).store.rows (rows_stand_in_order setup h) (node_in_rows m (world setup h).store.rows j)

-- ---- a round

module _ (setup : Setup) (ds after : List Drainer) (h past : List Entry) (b left : ℕ) (q : IsQuietRound setup ds after h past b left) where
  quiet_paid : HavePaid setup h past
  quiet_paid = round_paid setup all_pass (round_of q.round) q.allow q.may.may.stand.roles q.may.rests q.run

  quiet_up : work_left setup (world setup h) ≤ work_left setup (world setup past)
  quiet_up = let same = q.same in omega (arith, same)

  point_near : (x : List Entry) → IsWithin h x past → AreNear (world setup h) (world setup x)
  point_near x w = near_behind setup h past q.run q.order quiet_paid quiet_up x w

  point_ahead : (x : List Entry) → IsWithin h x past → AreNear (world setup x) (world setup past)
  point_ahead x w = near_ahead setup h past q.run q.order quiet_paid quiet_up x w

  -- the node that was tried is behind: one less is left
  record OneBehind (key : Key) (p : PodData) (node : NodeData) (k : ℕ) : Type 0 where
    tries : ℕ
    less : tries + 1 ≡ k
    are : TriesLeft setup (world setup past) p (Some node.meta.name) tries

  one_behind : (key : Key) (p : PodData) (from : Option (List ℕ)) (node : NodeData) (k : ℕ) → row_at key (world setup past).store.rows ≡ Some (Pod p)
      → is_scheduled p ≡ false → IsDue setup (world setup past) (Pod p) (Some dues.Prepare)
      → (t : IsTried setup ds h past key from node) → TriesLeft setup (world setup t.point) t.pod from k → OneBehind key p node k
  one_behind key p from node k there open_ due t tries =
      let ahead = point_ahead t.point t.within in
      let n = pod_near (world setup t.point) (world setup past) key p ahead there in
      let same : content_of (Pod t.pod) ≡ content_of (Pod p) = ap content_of (one (Pod t.pod) (Pod n.pod) (sym t.stands ∙ n.there)) ∙ n.same in
      let can = (prepare_due setup (world setup past) p (step_of (world setup past).store.rows p) (waiting_due setup (world setup past) p (Some dues.Prepare) open_ due)).1 in
      let can_there = near_prepares setup (world setup past) (world setup t.point) p t.pod (back_near (world setup t.point) (world setup past) ahead) (sym same) can in
      let less = one_node_less setup t.point t.pod from node k q.run.imports can_there t.first t.fails tries in
      record { tries = less.tries; less = less.less; are = near_tries setup (world setup t.point) (world setup past) t.pod p (Some node.meta.name) less.tries ahead same less.are }

  point_length : (x : List Entry) → IsWithin h x past → length (nodes_of (world setup x).store.rows) ≡ length (nodes_of (world setup h).store.rows)
  point_length x w = sym (nodes_near (world setup h) (world setup x) (point_near x w))

-- ---- rounds, one after the other

-- the pod under the key was tried in the last round, and so many tries are left
record HasTried (setup : Setup) (after : List Drainer) (past : List Entry) (key : Key) (p : PodData) (rounds : ℕ) : Type 0 where
  ds : List Drainer
  h : List Entry
  b : ℕ
  left : ℕ
  quiet : IsQuietRound setup ds after h past b left
  cached : AreCached setup ds h
  only : OnlyPrepares setup (world setup h)
  was : WasTried setup ds after h past b left key
  tries : ℕ
  are : TriesLeft setup (world setup past) p (Some was.node.meta.name) tries
  few : tries + rounds ≤ 9

-- how far the rounds have come
record HaveGone (setup : Setup) (after : List Drainer) (past : List Entry) (rounds : ℕ) : Type 0 where
  may : MaySettle setup after past
  cached : AreCached setup after past
  shares : SharesWell (world setup past)
  small : length after ≤ 13
  only : 1 ≤ rounds → OnlyPrepares setup (world setup past)
  tried : 2 ≤ rounds → (key : Key) (p : PodData) → row_at key (world setup past).store.rows ≡ Some (Pod p) → is_scheduled p ≡ false
      → IsDue setup (world setup past) (Pod p) (Some dues.Prepare) → (HasTried setup after past key p rounds → ⊥) → ⊥

module _ (waiting : WaitingAreTried) (go_on : SearchesGoOn) (setup : Setup) (allow : ImportsAllow setup) where
  -- a round more
  module _ (ds after : List Drainer) (h past : List Entry) (b left before : ℕ) (gone : HaveGone setup ds h before) (run : IsRunOf setup past)
      (order : AreAlwaysInOrder setup past) (round : IsRound all_pass past left ds h b after true) (same : work_left setup (world setup past) ≡ work_left setup (world setup h)) where
    quiet : IsQuietRound setup ds after h past b left
    quiet = record { allow = allow; may = gone.may; run = run; order = order; round = round; same = same }

    -- a pod that waits was tried, and as many nodes are left as before but one
    tried_on : 1 ≤ before → (key : Key) (p : PodData) → row_at key (world setup past).store.rows ≡ Some (Pod p) → is_scheduled p ≡ false
        → IsDue setup (world setup past) (Pod p) (Some dues.Prepare) → (HasTried setup after past key p (before + 1) → ⊥) → ⊥
    tried_on some key p there open_ due never = by (same_or_more before) (waiting setup ds after h past b left key p quiet gone.cached (gone.only some) gone.shares there open_ due)
      where
        same_or_more : (n : ℕ) → (n ≤ 1) ⊎ (2 ≤ n)
        same_or_more zero = inl (omega arith)
        same_or_more (suc zero) = inl (omega arith)
        same_or_more (suc (suc n)) = inr (omega arith)

        done : (t : WasTried setup ds after h past b left key) (k : ℕ) → TriesLeft setup (world setup t.tried.point) t.tried.pod t.from k → k + before ≤ 9 → ⊥
        done t k tries few =
            let o = one_behind setup ds after h past b left quiet key p t.from t.node k there open_ due t.tried tries in
            let less = o.less in
            never (record {
              ds = ds;
              h = h;
              b = b;
              left = left;
              quiet = quiet;
              cached = gone.cached;
              only = gone.only some;
              was = t;
              tries = o.tries;
              are = o.are;
              few = omega (arith, less, few);
            })

        -- the first time each node may be left
        first_time : before ≤ 1 → (t : WasTried setup ds after h past b left key) (k : ℕ) → TriesLeft setup (world setup t.tried.point) t.tried.pod t.from k → ⊥
        first_time low t k tries =
            let most = tries_are_few setup (world setup t.tried.point) t.tried.pod (in_turn t.from (nodes_of (world setup t.tried.point).store.rows)) k tries in
            let turn = turn_length t.from (nodes_of (world setup t.tried.point).store.rows) in
            let there_ = point_length setup ds after h past b left quiet t.tried.point t.tried.within in
            let nodes = nodes_few setup ds h gone.may gone.small in
            done t k tries (omega (arith, most, turn, there_, nodes, low))

        by : (before ≤ 1) ⊎ (2 ≤ before) → WasTried setup ds after h past b left key → ⊥
        by (inl low) t = tries_there setup (world setup t.tried.point) t.tried.pod (in_turn t.from (nodes_of (world setup t.tried.point).store.rows)) (first_time low t)
        by (inr high) t = gone.tried high key t.pod t.there t.waits t.due (λ was.
            let behind : t.from ≡ Some was.was.node.meta.name =
            go_on setup was.ds ds after was.h h past was.b was.left b left key t.pod was.quiet quiet was.cached was.only gone.cached t.there t.waits t.due was.was t in
            let near = point_near setup ds after h past b left quiet t.tried.point t.tried.within in
            let n = pod_near (world setup h) (world setup t.tried.point) key t.tried.pod near t.tried.stands in
            let pod : content_of (Pod t.pod) ≡ content_of (Pod t.tried.pod) = ap content_of (one (Pod t.pod) (Pod n.pod) (sym t.there ∙ n.there)) ∙ n.same in
            let tries = near_tries setup (world setup h) (world setup t.tried.point) t.pod t.tried.pod (Some was.was.node.meta.name) was.tries near pod was.are in
            let few = was.few in
            done t was.tries (subst (λ f. TriesLeft setup (world setup t.tried.point) t.tried.pod f was.tries) (sym behind) tries) (omega (arith, few)))

    gone_on : HaveGone setup after past (before + 1)
    gone_on = record {
      may = settles_next setup ds after h past b left gone.may run round;
      cached = rounds_cache setup ds after h past b left gone.may run round;
      shares = rounds_share_well setup all_pass ds after h past b left true gone.may.may.stand.roles run round gone.shares;
      small = (let s = same_length after ds (round_seats all_pass past left ds h b after true round) in let small = gone.small in omega (arith, s, small));
      only = λ some. quiet_rounds_end setup ds after h past b left quiet gone.cached;
      tried = λ some key p there open_ due never. tried_on (omega (arith, some)) key p there open_ due never;
    }

  -- ---- all of them, behind a whole round

  module _ (ds : List Drainer) (h : List Entry) (start : HaveGone setup ds h 0) where
    goes : (rounds : ℕ) (after : List Drainer) (past : List Entry) → IsRunOf setup past → AreAlwaysInOrder setup past → AreQuiet setup ds h rounds after past → HaveGone setup after past rounds
    goes rounds after past run order (NoRound none same entries) =
        subst (λ n. HaveGone setup after past n) (sym none) (subst (λ d. HaveGone setup d past 0) (sym same) (subst (λ es. HaveGone setup ds es 0) (sym entries) start))
    goes rounds after past run order (OneMore before between middle b left first count quiet due round same) =
        let g = round_grows all_pass past left between middle b after true round in
        let here = older_run setup g.longer.added middle (subst (IsRunOf setup) g.longer.are run) in
        let ordered = in_order_before setup g.longer.added middle (subst (AreAlwaysInOrder setup) g.longer.are order) in
        subst (λ n. HaveGone setup after past n) (sym count) (gone_on between after middle past b left before (goes before between middle here ordered quiet) run order round same)

    few_behind : AreFew setup ds h 9
    few_behind after past rounds run order (NoRound none same entries) = omega (arith, none)
    few_behind after past rounds run order (OneMore before between middle b left first count quiet due round same) = at_most rounds 9 (λ more. bounded (at_two before) more)
      where
        at_two : (n : ℕ) → (n ≤ 1) ⊎ (2 ≤ n)
        at_two zero = inl (omega arith)
        at_two (suc zero) = inl (omega arith)
        at_two (suc (suc n)) = inr (omega arith)

        here : IsRunOf setup middle
        here = let g = round_grows all_pass past left between middle b after true round in older_run setup g.longer.added middle (subst (IsRunOf setup) g.longer.are run)

        gone : HaveGone setup between middle before
        gone = let g = round_grows all_pass past left between middle b after true round in
            goes before between middle here (in_order_before setup g.longer.added middle (subst (AreAlwaysInOrder setup) g.longer.are order)) quiet

        bounded : (before ≤ 1) ⊎ (2 ≤ before) → (rounds ≤ 9 → ⊥) → ⊥
        bounded (inl low) more = more (omega (arith, low, count))
        bounded (inr high) more =
            let o = gone.only (omega (arith, high)) first.0 due.object first.1 due.there due.due in
            let there = due.there ∙ ap Some o.is in
            let prepare = subst (λ (x : Object × Due). IsDue setup (world setup middle) x.0 (Some x.1)) (λ i. (o.is i, o.prepares i)) due.due in
            let can = (prepare_due setup (world setup middle) o.pod (step_of (world setup middle).store.rows o.pod)
            (waiting_due setup (world setup middle) o.pod (Some dues.Prepare) o.waits prepare)).1 in
            gone.tried high first.0 o.pod there o.waits prepare (λ was.
            let in_turn_ = all_in_turn (Some was.was.node.meta.name) can.node (nodes_of (world setup middle).store.rows)
            (in_nodes can.node (world setup middle).store.rows (found_stands (node_key can.node.meta.name) (Node can.node) (world setup middle).store.rows can.there)) in
            let some = one_tried setup (world setup middle) o.pod
            (in_turn (Some was.was.node.meta.name) (nodes_of (world setup middle).store.rows)) can.node was.tries in_turn_
            (record { shares = can.shares; serves = can.serves; given_is = can.given }) was.are in
            let few = was.few in
            more (omega (arith, some, few, count)))

  -- ---- from the beginning on

  -- the first of some rounds, and those behind it
  record HasFirst (ds : List Drainer) (h : List Entry) (rounds : ℕ) (after : List Drainer) (past : List Entry) : Type 0 where
    next : List Drainer
    middle : List Entry
    b : ℕ
    left : ℕ
    round : IsRound all_pass middle left ds h b next true
    later : ℕ
    count : rounds ≡ later + 1
    quiet : AreQuiet setup next middle later after past
    newer : List Entry
    are : past ≡ newer ++ middle

  first_of : (ds : List Drainer) (h : List Entry) (rounds : ℕ) (after : List Drainer) (past : List Entry) → AreQuiet setup ds h rounds after past → (rounds ≡ 0) ⊎ HasFirst ds h rounds after past
  first_of ds h rounds after past (NoRound none same entries) = inl none
  first_of ds h rounds after past (OneMore before between middle b left first count quiet due round same) = by quiet (first_of ds h before between middle quiet)
    where
      by : AreQuiet setup ds h before between middle → (before ≡ 0) ⊎ HasFirst ds h before between middle → (rounds ≡ 0) ⊎ HasFirst ds h rounds after past
      by (NoRound none still entries) (inl zero_) = inr (record {
        next = after;
        middle = past;
        b = b;
        left = left;
        round = subst (λ d. IsRound all_pass past left d h b after true) still (subst (λ es. IsRound all_pass past left between es b after true) entries round);
        later = 0;
        count = omega (arith, count, zero_);
        quiet = NoRound refl refl refl;
        newer = [];
        are = refl;
      })
      by (OneMore n d m b_ l f c q u r s) (inl zero_) = absurd (omega (arith, c, zero_))
      by q (inr f) =
          let g = round_grows all_pass past left between middle b after true round in
          let c = f.count in
          inr (record {
            next = f.next;
            middle = f.middle;
            b = f.b;
            left = f.left;
            round = f.round;
            later = f.later + 1;
            count = omega (arith, count, c);
            quiet = OneMore f.later between middle b left first refl f.quiet due round same;
            newer = g.longer.added ++ f.newer;
            are = g.longer.are ∙ (ap (λ es. g.longer.added ++ es) f.are ∙ sym (append_assoc g.longer.added f.newer f.middle));
          })

  -- where a whole round came before
  behind_round : (ds after : List Drainer) (h past : List Entry) (b left : ℕ) → MaySettle setup ds h → length ds ≤ 13 → IsRunOf setup past
      → IsRound all_pass past left ds h b after true → SharesWell (world setup past) → AreFew setup after past 9
  behind_round ds after h past b left at small run round shares =
      few_behind after past (record {
        may = settles_next setup ds after h past b left at run round;
        cached = rounds_cache setup ds after h past b left at run round;
        shares = shares;
        small = (let s = same_length after ds (round_seats all_pass past left ds h b after true round) in omega (arith, s, small));
        only = λ some. absurd (omega (arith, some));
        tried = λ some key p there open_ due never. absurd (omega (arith, some));
      })

  from_start : (ds : List Drainer) (h : List Entry) → MaySettle setup ds h → length ds ≤ 13 → SharesWell (world setup h) → AreFew setup ds h 10
  from_start ds h at small shares after past rounds run order quiet = by (first_of ds h rounds after past quiet)
    where
      by : (rounds ≡ 0) ⊎ HasFirst ds h rounds after past → rounds ≤ 10
      by (inl none) = omega (arith, none)
      by (inr f) =
          let here = older_run setup f.newer f.middle (subst (IsRunOf setup) f.are run) in
          let few = behind_round ds f.next h f.middle f.b f.left at small here f.round
          (rounds_share_well setup all_pass ds f.next h f.middle f.b f.left true at.may.stand.roles here f.round shares) after past f.later run order f.quiet in
          let count = f.count in
          omega (arith, few, count)

pub quiet_rounds_are_few : QuietRoundsAreFew
quiet_rounds_are_few setup = record {
  first = λ ds h allow at small shares. from_start waiting_are_tried searches_go_on setup allow ds h at small shares;
  next = λ ds after h past b left allow at small run round shares. behind_round waiting_are_tried searches_go_on setup allow ds after h past b left at small run round shares;
  shares = λ ds after h past b left at run round shares. rounds_share_well setup all_pass ds after h past b left true at.may.stand.roles run round shares;
}

pub shared_drains_settle : SharedDrainsSettle
shared_drains_settle setup ds after h past b left allow at shares has run order drained =
    measured_drains_settle setup (quiet_rounds_are_few setup) ds after h past b left allow at shares has run order drained
