-- A pod that waits at the end of a quiet round, with one of its claims without a node, was to be prepared when the round began.
use Rattle.std.proofs.Common.{◌≡◌, ◌∙◌, ◌⊎◌, ℕ, ◌≤◌, List, [], ◌∷◌, ◌++◌, Bool, true, false, true≢false, Some, inl, inr, refl, sym, ap, subst}
use Rattle.std.specs.Prelude.{is_some}
use Rattle.kube_objects.specs.declared.key.Key.{Key}
use Rattle.kube_parts.specs.declared.names.Due.TheVariants as dues
use Rattle.kube_objects.specs.declared.objects.Object.{Object}
use Rattle.kube_objects.specs.declared.objects.Object.TheVariants.{Claim, Pod}
use Rattle.kube_objects.specs.declared.objects.Pod.{Pod as PodData}
use Rattle.kube_objects.specs.Bindings.{has_key, is_scheduled, selected_node}
use Rattle.kube_objects.specs.Keys.{key_of, row_at}
use Rattle.kube_objects.proofs.SameKeys.{key_tells}
use Rattle.call_types.specs.declared.entry.Entry.{Entry}
use Rattle.call_types.specs.declared.request.SeatKind.TheVariants as seats
use Rattle.call_types.specs.declared.setup.Setup.{Setup}
use Rattle.binder_model.specs.Due.{IsDue}
use Rattle.binder_model.specs.ObjectKeys.{claim_key}
use Rattle.binder_model.specs.Promises.{IsRunOf}
use Rattle.binder_model.specs.Told.{SomeOf}
use Rattle.binder_model.specs.World.{world}
use Rattle.model_laws.proofs.Lists.{one}
use Rattle.settle_measure.specs.Left.Measure.{work_left}
use Rattle.worker_core.specs.Absorbs.{woken}
use Rattle.actor_rounds.specs.declared.drainers.Drainer.{Drainer}
use Rattle.actor_rounds.specs.Rounds.{all_pass}
use Rattle.settle_writes.specs.Writes.Lasting.{content_of}
use Rattle.settle_slot.specs.Slot.Slots.{own_entry}
use Rattle.settle_pays.specs.Pays.Pays.{HavePaid}
use Rattle.settle_budget.specs.Drains.Budget.{AreAlwaysInOrder}
use Rattle.settle_budget.specs.Drains.Measured.{SharesWell}
use Rattle.settle_alike.specs.Near.Near.{AreNear, rest_of}
use Rattle.settle_alike.proofs.Near.Near.{PodNear, back_near, claim_near, near_searches, pod_near, rest_content}
use Rattle.settle_tries.specs.Tries.Deciding.{IsWithin}
use Rattle.settle_tries.specs.Tries.Moving.{MovesNodes, StoodSo}
use Rattle.settle_tries.specs.Tries.Quiet.{AreCached, IsQuietRound, OnlyPrepares}
use Rattle.settle_tries.specs.Tries.Taking.{HasNone, IsGiven, IsWritten}
use Rattle.settle_tries.proofs.Quiet.Giving.{taken_were_given}
use Rattle.settle_tries.proofs.Moves.Moving.{one_node_so}
use Rattle.settle_tries.proofs.Moves.Points.{HaveKind, IsQuietAt, moves_behind, near_ahead, near_behind, order_within, quiet_at, run_kinds, run_within}
use Rattle.settle_tries.proofs.Search.Calling.{IsPlacing, calls_are, decided_within, own_claim, pods_claims, pods_namespace, pods_waiting}
use Rattle.settle_tries.proofs.Search.Keeping.{bind_keeps, place_keeps}
use Rattle.settle_tries.proofs.Search.Open.{HasOpen, open_of, open_waits}
use Rattle.settle_tries.proofs.Search.Searching.{carrier_near, completed_near, due_open, named_there}

-- ---- a claim that has no node behind some writes of the scheduler had none before

back_open : (setup : Setup) (h x : List Entry) (key : Key) (pod q : PodData) → MovesNodes true (world setup h) (world setup x)
    → row_at key (world setup h).store.rows ≡ Some (Pod pod) → row_at key (world setup x).store.rows ≡ Some (Pod q) → HasOpen (world setup x).store.rows q → HasOpen (world setup h).store.rows pod
back_open setup h x key pod q moves there there_x k = by (moves.claims (claim_key q.meta.namespace k.named.name) k.claim k.named.there)
  where
    same : content_of (Pod q) ≡ content_of (Pod pod)
    same = let n = pod_near (world setup h) (world setup x) key q moves.near there_x in sym n.same ∙ ap content_of (one (Pod n.pod) (Pod pod) (sym n.there ∙ there))

    by : StoodSo (world setup h) (claim_key q.meta.namespace k.named.name) k.claim ⊎ (has_key selected_node k.claim.meta.annotations ≡ true) → HasOpen (world setup h).store.rows pod
    by (inr has) = absurd (true≢false (sym has ∙ k.none))
    by (inl s) =
        let rest : rest_of (Claim s.claim) ≡ rest_of (Claim k.claim) = sym (rest_content (Claim s.claim)) ∙ (ap rest_of s.same ∙ rest_content (Claim k.claim)) in
        record {
          claim = s.claim;
          named = named_there (world setup x).store.rows q pod k.claim s.claim same k.named (world setup h).store.rows s.there;
          undone = completed_near s.claim k.claim rest ∙ k.undone;
          uncarried = carrier_near (world setup h) (world setup x) s.claim k.claim moves.near rest ∙ k.uncarried;
          none = ap is_some (one_node_so s.claim k.claim s.same) ∙ k.none;
        }

-- the pod waited when the round began, and one of its claims has no node now
pub record HasWaited (setup : Setup) (h past : List Entry) (key : Key) (p : PodData) : Type 0 where
  pub pod : PodNear (world setup h) key p
  pub waits : is_scheduled pod.pod ≡ false
  pub due : IsDue setup (world setup h) (Pod pod.pod) (Some dues.Prepare)
  pub open_ : HasOpen (world setup past).store.rows p

module _ (setup : Setup) (ds after : List Drainer) (h past : List Entry) (b left : ℕ) (q : IsQuietRound setup ds after h past b left)
    (cached : AreCached setup ds h) (only : OnlyPrepares setup (world setup h)) (shares : SharesWell (world setup h))
    (paid : HavePaid setup h past) (up : work_left setup (world setup h) ≤ work_left setup (world setup past)) (left_near : AreNear (world setup h) (world setup past))
    (key : Key) (p : PodData) (there : row_at key (world setup past).store.rows ≡ Some (Pod p)) (waits : is_scheduled p ≡ false)
    (due : IsDue setup (world setup past) (Pod p) (Some dues.Prepare)) where
  then_pod : PodNear (world setup h) key p
  then_pod = pod_near (world setup h) (world setup past) key p left_near there

  then_waits : is_scheduled then_pod.pod ≡ false
  then_waits = ap pods_waiting then_pod.same ∙ waits

  open_now : HasOpen (world setup past).store.rows p
  open_now = due_open setup (world setup past) p waits due

  abbrev claims_key : Key
  claims_key = claim_key p.meta.namespace open_now.named.name

  given : IsGiven setup ds h past claims_key
  given = taken_were_given setup ds after h past b left claims_key open_now.claim q cached only open_now.named.there open_now.none

  run_m : IsRunOf setup given.middle
  run_m = run_within setup h past q.run q.order paid up given.middle given.within

  order_m : AreAlwaysInOrder setup given.middle
  order_m = order_within setup h past q.run q.order paid up given.middle given.within

  quiet_m : IsQuietAt setup h given.middle past
  quiet_m = quiet_at setup h past q.run q.order paid up given.middle given.within

  kinds_m : HaveKind seats.Scheduler h given.middle
  kinds_m = run_kinds all_pass given.first.seat seats.Scheduler given.slot.after given.middle given.slot.left true (woken given.first.actor) h given.slot.before given.slot.runs given.scheduler

  moves : (x : List Entry) → IsWithin h x given.middle → MovesNodes true (world setup h) (world setup x)
  moves x w = moves_behind setup h given.middle run_m order_m quiet_m.behind quiet_m.down seats.Scheduler kinds_m x w

  -- where it has none behind the scheduler's slot
  without : HasNone setup given.middle claims_key → HasOpen (world setup h).store.rows then_pod.pod
  without n = back_open setup h given.middle key then_pod.pod m.pod (moves given.middle here) then_pod.there m.there open_m
    where
      here : IsWithin h given.middle given.middle
      here = record { newer = []; older = given.within.older; ahead = refl; behind = given.within.behind }

      near_m : AreNear (world setup given.middle) (world setup past)
      near_m = near_ahead setup h past q.run q.order paid up given.middle given.within

      m : PodNear (world setup given.middle) key p
      m = pod_near (world setup given.middle) (world setup past) key p near_m there

      open_m : HasOpen (world setup given.middle).store.rows m.pod
      open_m =
          let d = claim_near (world setup given.middle) (world setup past) claims_key open_now.claim near_m open_now.named.there in
          record {
            claim = d.claim;
            named = named_there (world setup past).store.rows p m.pod open_now.claim d.claim (sym m.same) open_now.named (world setup given.middle).store.rows d.there;
            undone = completed_near d.claim open_now.claim d.same ∙ open_now.undone;
            uncarried = carrier_near (world setup given.middle) (world setup past) d.claim open_now.claim near_m d.same ∙ open_now.uncarried;
            none = ap (λ (x : Object). has_node x) (one (Claim d.claim) (Claim n.claim) (sym d.there ∙ n.there)) ∙ n.none;
          }
        where
          has_node : Object → Bool
          has_node (Claim c) = has_key selected_node c.meta.annotations
          has_node x = false

  -- where it was written in it
  module _ (w : IsWritten setup given.first h given.middle claims_key) where
    made : given.middle ≡ w.newer ++ (own_entry setup given.first.seat given.first.actor.role.kind (w.older ++ h) w.call.under.call ∷ w.older ++ h)
    made = w.are ∙ ap (λ x. w.newer ++ (x ∷ w.older ++ h)) (sym w.call.is)

    asked : w.entry.request ≡ w.call.under.call
    asked = ap (λ (x : Entry). x.request) (sym w.call.is)

    -- the write is of this claim
    kept_never : row_at claims_key (world setup (w.entry ∷ w.older ++ h)).store.rows ≡ row_at claims_key (world setup (w.older ++ h)).store.rows → ⊥
    kept_never same = w.changes (ap content_of (one (Claim w.before) (Claim w.now) (sym w.stood ∙ (sym same ∙ w.stands))))

    decided_in : IsWithin h w.call.decided.point given.middle
    decided_in = decided_within setup given.first.seat given.first.actor.role given.scheduler h given.middle run_m order_m quiet_m.behind
        quiet_m.down h (w.older ++ h) w.newer [] w.call.under refl w.call.decided made

    -- so it was made for this pod
    by_placing : IsPlacing setup w.call.decided.point w.call.decided.state w.call.decided.first.key w.call.under.call → HasOpen (world setup h).store.rows then_pod.pod
    by_placing x = elim (key_tells (key_of (Claim x.claim)) claims_key) [
      | inr other ↦ absurd (kept_never (place_keeps setup w.entry (w.older ++ h) claims_key x.searched.name x.claim (asked ∙ x.is) other))
      | inl keyed ↦ ours keyed
    ]
      where
        ours : key_of (Claim x.claim) ≡ claims_key → HasOpen (world setup h).store.rows then_pod.pod
        ours keyed =
            let y = w.call.decided.point in
            let named = open_now.named in
            let among : SomeOf (λ n. n ≡ named.name) then_pod.pod.claims = subst (SomeOf (λ n. n ≡ named.name)) (sym (ap pods_claims then_pod.same)) named.among in
            let own : w.call.decided.first.key ≡ key =
            own_claim setup h y (run_within setup h given.middle run_m order_m quiet_m.behind quiet_m.down y decided_in) shares
            (near_behind setup h given.middle run_m order_m quiet_m.behind quiet_m.down y decided_in) key then_pod.pod then_pod.there then_waits
            w.call.decided.state w.call.decided.first.key w.call.under.call x named.name among (keyed ∙ ap (λ s. claim_key s named.name) (sym (ap pods_namespace then_pod.same))) in
            back_open setup h y key then_pod.pod x.pod (moves y decided_in) then_pod.there
            (ap (λ k. row_at k (world setup y).store.rows) (sym own) ∙ x.there) (open_of (world setup y).store.rows x.pod x.searched.search.waiting)

    written : HasOpen (world setup h).store.rows then_pod.pod
    written = elim (calls_are setup given.first.seat given.first.actor.role given.scheduler h given.middle run_m order_m quiet_m.behind quiet_m.down
        h (w.older ++ h) w.newer [] w.call.under refl w.call.decided made) [
          | inl binds ↦ absurd (kept_never (bind_keeps setup w.entry (w.older ++ h) claims_key binds.key binds.uid binds.name (asked ∙ binds.is) refl))
          | inr places ↦ by_placing places
        ]

  open_then : HasOpen (world setup h).store.rows then_pod.pod
  open_then = elim given.either [ inl none ↦ without none | inr w ↦ written w ]

  then_due : IsDue setup (world setup h) (Pod then_pod.pod) (Some dues.Prepare)
  then_due = near_searches setup (world setup past) (world setup h) p then_pod.pod (back_near (world setup h) (world setup past) left_near)
      (sym then_pod.same) waits due (open_waits (world setup h).store.rows then_pod.pod open_then)

  pub has_waited : HasWaited setup h past key p
  has_waited = record { pod = then_pod; waits = then_waits; due = then_due; open_ = open_now }
