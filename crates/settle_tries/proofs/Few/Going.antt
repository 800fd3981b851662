-- The search of a quiet round begins behind the node that was tried in the round before.
use Rattle.std.proofs.Common.{◌≡◌, ◌∙◌, ◌⊎◌, ℕ, ◌≤◌, ◌<◌, List, [], ◌∷◌, ◌++◌, append_assoc, Bool, true, false, true≢false, Option, Some, None, inl, inr, refl, sym, ap, subst, arith, if◌then◌else◌}
use Rattle.std.specs.Prelude.{◌&&◌, ◌||◌, is_some, nat_lt, not, slice_get}
use Rattle.std.specs.List.{list_all, list_any}
use Rattle.std.proofs.lemmas.Bool.Decides.{Decides-eqb}
use Rattle.plain_data.specs.Pairs.{value_at}
use Rattle.kube_objects.specs.declared.key.Key.{Key}
use Rattle.kube_parts.specs.declared.uid.Uid.{Uid}
use Rattle.kube_parts.specs.declared.names.Due.TheVariants as dues
use Rattle.kube_objects.specs.declared.objects.Claim.{Claim as ClaimData}
use Rattle.kube_objects.specs.declared.objects.Object.{Object}
use Rattle.kube_objects.specs.declared.objects.Object.TheVariants.{Claim, Pod}
use Rattle.kube_objects.specs.declared.objects.Node.{Node as NodeData}
use Rattle.kube_objects.specs.declared.objects.Pod.{Pod as PodData}
use Rattle.kube_parts.specs.declared.parts.Kind.TheVariants as kinds
use Rattle.kube_objects.specs.Bindings.{has_key, is_completed, is_scheduled, is_uid, selected_node}
use Rattle.kube_objects.specs.Keys.{key_of, row_at, rows_of}
use Rattle.kube_objects.proofs.KeyOrder.{row_at_key}
use Rattle.call_types.specs.declared.entry.Entry.{Entry}
use Rattle.call_types.specs.declared.request.Request.{Request}
use Rattle.call_types.specs.declared.request.Request.TheVariants.{Update}
use Rattle.call_types.specs.declared.request.SeatKind.TheVariants as seats
use Rattle.call_types.specs.declared.reply.Reply.{Reply}
use Rattle.call_types.specs.declared.reply.Reply.TheVariants.{Done}
use Rattle.call_types.specs.declared.setup.Setup.{Setup}
use Rattle.binder_model.specs.Choice.{
  GoesNowhere,
  Searches,
  Waits,
  are_completed,
  assigned_node,
  claim_in,
  claim_named,
  claims_of,
  first_taking,
  has_carrier,
  is_other,
  is_served_elsewhere,
  is_under_way,
  lacks_claim,
  step_of,
}
use Rattle.binder_model.specs.Due.{IsDue}
use Rattle.binder_model.specs.ObjectKeys.{claim_key}
use Rattle.binder_model.specs.At.{HasUid}
use Rattle.binder_model.specs.Promises.{IsRunOf}
use Rattle.binder_model.specs.Reading.{follows, following_of}
use Rattle.binder_model.specs.Told.{SomeOf, ToldObject, newest, object_of, objects_in, own}
use Rattle.binder_model.specs.World.{IsHistory, effect, reply_to, world, world_after}
use Rattle.model_laws.proofs.Growing.{runs_are_histories}
use Rattle.model_laws.proofs.Lists.{IsIn, one}
use Rattle.model_laws.proofs.Newest.{newest_told}
use Rattle.model_laws.proofs.Replies.{done_stands}
use Rattle.model_laws.specs.Stood.{Stood}
use Rattle.model_laws.proofs.Stood.{one_uid_one_key, stood, version_stood}
use Rattle.pod_scheduler.specs.declared.tries.Tried.{Tried}
use Rattle.pod_scheduler.specs.declared.tries.Tries.{Tries}
use Rattle.pod_scheduler.specs.Decisions.{is_claim_of, is_tried_for, last_refused}
use Rattle.pod_scheduler.specs.Tries.{is_other_node, is_refusal, node_selected_for, tried_of, tries_of}
use Rattle.pod_scheduler.specs.TryLaw.{Selecting}
use Rattle.worker_core.specs.declared.role.Role.{Role}
use Rattle.worker_core.specs.Memories.{Memory}
use Rattle.worker_core.proofs.ByKind.{tries_are_told}
use Rattle.worker_core.specs.Absorbs.{woken}
use Rattle.worker_core.specs.Roles.{IsBuiltKind}
use Rattle.actor_rounds.specs.declared.drainers.Drainer.{Drainer}
use Rattle.actor_rounds.specs.Drainers.{seats_of}
use Rattle.actor_rounds.specs.Rounds.{all_pass}
use Rattle.actor_rounds.proofs.RoundFacts.{round_seats}
use Rattle.settle_due.proofs.Upkeep.Known.{rows_known}
use Rattle.settle_slot.proofs.Slot.Slots.{others_stay_awake}
use Rattle.settle_calls.specs.Passes.Passes.{KindsHaveReached}
use Rattle.informer_cache.specs.Cache.{watch_from}
use Rattle.model_laws.proofs.Uids.{rises}
use Rattle.model_laws.proofs.Truths.{entry_stood}
use Rattle.settle_tries.proofs.Moves.Moving.{one_node_so}
use Rattle.std.proofs.lemmas.List.{append_cancel_right}
use Rattle.std.proofs.lemmas.Slice.Eq.{bytes_eq-Decides}
use Rattle.settle_writes.specs.Writes.Lasting.{content_of}
use Rattle.settle_alike.specs.Near.Near.{AreNear}
use Rattle.settle_alike.proofs.Near.Annotations.{completed_rest}
use Rattle.settle_alike.proofs.Near.Near.{ClaimNear, back_near, claim_near, claim_or, one_rest_claim, pod_near, prepare_due, then_near, waiting_due}
use Rattle.settle_alike.proofs.Near.Steps.{is_searching}
use Rattle.settle_progress.proofs.Drains.Rounds.{is_agent, not_agent}
use Rattle.settle_tries.specs.Tries.Deciding.{IsWithin}
use Rattle.settle_tries.specs.Tries.Quiet.{AreCached, IsQuietRound, OnlyPrepares}
use Rattle.settle_tries.specs.Tries.Waiting.{IsSlotOf, WasTried}
use Rattle.settle_tries.proofs.Search.Open.{HasOpen, open_is_other, open_of}
use Rattle.settle_tries.specs.Tries.Going.{SearchesGoOn}
use Rattle.settle_tries.proofs.Memory.Memory.{Holds, Stands}
use Rattle.settle_tries.proofs.Memory.Aside.{keeps, slot_so}
use Rattle.settle_tries.proofs.Moves.Near.{other_near}
use Rattle.settle_tries.proofs.Memory.Reaching.{AllLate, HaveLate, TellsLate, late_at, slot_late, slot_reaches}
use Rattle.settle_tries.proofs.Memory.Slot.{first_kind, own_same, point_run, slot_ahead, slot_behind, slot_run, slot_stands, slot_told, slot_within}
use Rattle.settle_slot.proofs.Slot.Slots.{older as older_history}
use Rattle.settle_tries.proofs.Memory.Told.{Passes, done_version, run_holds, sees_node, stood_where, tried_back}
use Rattle.settle_budget.proofs.Drains.Static.{stood_still as stood_grows}
use Rattle.delayed_binding.proofs.Known.{claim_of_row as row_of_claim}
use Rattle.safety_law.proofs.Invariant.Tests.{uid_is as uid_found}

-- ---- the claims of a pod

pub record ClaimsUid (rows : List Object) (p : PodData) (uid : Uid) : Type 0 where
  pub name : List ℕ
  pub among : SomeOf (λ n. n ≡ name) p.claims
  pub claim : ClaimData
  pub there : row_at (claim_key p.meta.namespace name) rows ≡ Some (Claim claim)
  pub known : claim.meta.uid ≡ Some uid

module _ (rows : List Object) (p : PodData) (uid : Uid) where
  abbrev is_it : List ℕ → Bool
  is_it name = is_claim_of uid (claim_named rows p.meta.namespace name)

  claimed_in : (names : List (List ℕ)) → ((name : List ℕ) → SomeOf (λ n. n ≡ name) names → SomeOf (λ n. n ≡ name) p.claims) → list_any is_it names ≡ true → ClaimsUid rows p uid
  claimed_in [] all e = absurd (true≢false (sym e))
  claimed_in (name ∷ names) all e = by (claim_named rows p.meta.namespace name) refl e (claimed_in names (λ n i. all n (inr i)))
    where
      by : (o : Option ClaimData) → claim_named rows p.meta.namespace name ≡ o → (is_claim_of uid o || list_any is_it names) ≡ true
          → (list_any is_it names ≡ true → ClaimsUid rows p uid) → ClaimsUid rows p uid
      by None at f more = more f
      by (Some c) at f more = test (is_uid c.meta.uid uid) refl f
        where
          test : (b : Bool) → is_uid c.meta.uid uid ≡ b → (b || list_any is_it names) ≡ true → ClaimsUid rows p uid
          test true is g = record {
            name = name;
            among = all name (inl refl);
            claim = c;
            there = row_of_claim
                (row_at (claim_key p.meta.namespace name) rows) c at;
            known = uid_found c.meta.uid uid is;
          }
          test false is g = more g

  pub claimed : is_tried_for rows p uid ≡ true → ClaimsUid rows p uid
  claimed e = claimed_in p.claims (λ name i. i) e

  tried_in : (names : List (List ℕ)) (name : List ℕ) → SomeOf (λ n. n ≡ name) names → is_it name ≡ true → list_any is_it names ≡ true
  tried_in [] name among is = absurd among
  tried_in (n ∷ names) name (inl same) is = ap (λ b. b || list_any is_it names) (ap is_it same ∙ is)
  tried_in (n ∷ names) name (inr more) is = by (is_it n) (tried_in names name more is)
    where
      by : (b : Bool) → list_any is_it names ≡ true → (b || list_any is_it names) ≡ true
      by true e = refl
      by false e = e

  pub tried_here : ClaimsUid rows p uid → is_tried_for rows p uid ≡ true
  tried_here c = tried_in p.claims c.name c.among (ap (λ o. is_claim_of uid (claim_in o)) c.there ∙ (ap (λ u. is_uid u uid) c.known ∙ (Decides-eqb uid.0 uid.0).1 refl))

-- ---- worlds that are near

abbrev uid_of : Object → Option Uid
uid_of (Claim x) = x.meta.uid
uid_of o = None

abbrev claims_in_pod : Object → List (List ℕ)
claims_in_pod (Pod x) = x.claims
claims_in_pod o = []

abbrev space_of : Object → List ℕ
space_of (Pod x) = x.meta.namespace
space_of o = []

under_false : (rows : List Object) (p : PodData) → is_searching (step_of rows p) ≡ true → list_all (is_under_way rows) (claims_of rows p) ≡ false
under_false rows p e = by (lacks_claim rows p) (are_completed rows p) (list_any (is_served_elsewhere rows) (claims_of rows p)) (list_all (is_under_way rows) (claims_of rows p)) e
  where
    assigned : (n : Option NodeData) → is_searching (assigned_node n) ≡ false
    assigned None = refl
    assigned (Some n) = refl

    by : (a b c d : Bool) → is_searching (if a then GoesNowhere else if b then assigned_node (first_taking rows p (rows_of kinds.Node rows)) else if
        c then Waits else if d then Waits else Searches) ≡ true → d ≡ false
    by true b c d e = absurd (true≢false (sym e))
    by false true c d e = absurd (true≢false (sym e ∙ assigned (first_taking rows p (rows_of kinds.Node rows))))
    by false false true d e = absurd (true≢false (sym e))
    by false false false true e = absurd (true≢false (sym e))
    by false false false false e = refl

not_completed : (a b : Bool) → (not a && not b) ≡ true → a ≡ false
not_completed true b e = absurd (true≢false (sym e))
not_completed false b e = refl

-- ---- two rounds

module _ (setup : Setup) (ds mid between after : List Drainer) (h middle past : List Entry) (b left c rest : ℕ) (key : Key) (p : PodData)
    (q : IsQuietRound setup ds mid h middle b left) (r : IsQuietRound setup between after middle past c rest)
    (cached : AreCached setup ds h) (only : OnlyPrepares setup (world setup h)) (again : AreCached setup between middle)
    (there : row_at key (world setup middle).store.rows ≡ Some (Pod p)) (open_ : is_scheduled p ≡ false) (due : IsDue setup (world setup middle) (Pod p) (Some dues.Prepare))
    (first : WasTried setup ds mid h middle b left key) (second : WasTried setup between after middle past c rest key)
    (same_seat : second.tried.scheduler.seat ≡ first.tried.scheduler.seat) where
  abbrev front : IsSlotOf ds mid h middle b left first.tried.scheduler first.slot
  front = first.at

  abbrev back : IsSlotOf between after middle past c rest second.tried.scheduler second.slot
  back = second.at

  abbrev slot : List Entry
  slot = first.slot

  abbrev seat : ℕ
  seat = first.tried.scheduler.seat

  abbrev point : List Entry
  point = second.tried.point

  abbrev rows : List Object
  rows = (world setup point).store.rows

  abbrev pod : PodData
  pod = second.tried.pod

  abbrev node : List ℕ
  node = first.node.meta.name

  -- the points
  at_slot : IsWithin h slot middle
  at_slot = slot_within setup ds mid h middle b left q cached first.tried.scheduler slot front

  near_slot : AreNear (world setup slot) (world setup middle)
  near_slot = slot_ahead setup ds mid h middle b left q cached first.tried.scheduler slot front slot at_slot

  near_point : (x : List Entry) → IsWithin middle x past → AreNear (world setup middle) (world setup x)
  near_point x w = slot_behind setup between after middle past c rest r again second.tried.scheduler second.slot back x w

  near_on : AreNear (world setup slot) (world setup point)
  near_on = then_near (world setup slot) (world setup middle) (world setup point) near_slot (near_point point second.tried.within)

  run_point : IsRunOf setup point
  run_point = point_run setup between after middle past c rest r again second.tried.scheduler second.slot back point second.tried.within

  history_point : IsHistory setup point
  history_point = runs_are_histories setup point run_point.run

  run_slot : IsRunOf setup slot
  run_slot = slot_run setup ds mid h middle b left q cached first.tried.scheduler slot front

  mine_same : own seat middle ≡ own seat slot
  mine_same = own_same setup ds mid h middle b left q cached first.tried.scheduler slot front

  -- the pod is the same
  second_pod : content_of (Pod second.pod) ≡ content_of (Pod pod)
  second_pod =
      let n = pod_near (world setup middle) (world setup point) key pod (near_point point second.tried.within) second.tried.stands in
      ap content_of (one (Pod second.pod) (Pod n.pod) (sym second.there ∙ n.there)) ∙ n.same

  middle_pod : content_of (Pod p) ≡ content_of (Pod pod)
  middle_pod = ap content_of (one (Pod p) (Pod second.pod) (sym there ∙ second.there)) ∙ second_pod

  first_pod : content_of (Pod first.pod) ≡ content_of (Pod pod)
  first_pod =
      let near = then_near (world setup h) (world setup middle) (world setup point)
      (slot_behind setup ds mid h middle b left q cached first.tried.scheduler slot front middle
      (record { newer = []; older = (at_end.0); ahead = refl; behind = at_end.1 })) (near_point point second.tried.within) in
      let n = pod_near (world setup h) (world setup point) key pod near second.tried.stands in
      ap content_of (one (Pod first.pod) (Pod n.pod) (sym first.there ∙ n.there)) ∙ n.same
    where
      at_end : (older : List Entry) × (middle ≡ older ++ h)
      at_end = (at_slot.newer ++ at_slot.older, at_slot.ahead ∙ (ap (λ es. at_slot.newer ++ es) at_slot.behind ∙ sym (append_assoc at_slot.newer at_slot.older h)))

  named : (x : PodData) → content_of (Pod x) ≡ content_of (Pod pod) → (name : List ℕ) → SomeOf (λ n. n ≡ name) pod.claims → SomeOf (λ n. n ≡ name) x.claims
  named x same name among = subst (λ names. SomeOf (λ n. n ≡ name) names) (sym (ap claims_in_pod same)) among

  spaced : (x : PodData) → content_of (Pod x) ≡ content_of (Pod pod) → x.meta.namespace ≡ pod.meta.namespace
  spaced x same = ap space_of same

  -- up to the second decision nobody wrote the claims
  stands_still : (x : List Entry) → IsWithin middle x point → (name : List ℕ) → SomeOf (λ n. n ≡ name) pod.claims
      → row_at (claim_key pod.meta.namespace name) (world setup x).store.rows ≡ row_at (claim_key pod.meta.namespace name) (world setup middle).store.rows
  stands_still x w name among =
      subst (λ space. row_at (claim_key space name) (world setup x).store.rows ≡ row_at (claim_key space name) (world setup middle).store.rows)
      (spaced second.pod second_pod) (second.still x w name (named second.pod second_pod name among))

  at_middle : IsWithin middle middle point
  at_middle = record { newer = second.tried.within.older; older = []; ahead = second.tried.within.behind; behind = refl }

  at_point : IsWithin middle point point
  at_point = record { newer = []; older = second.tried.within.older; ahead = refl; behind = second.tried.within.behind }

  -- each claim of the pod as it stood behind the slot
  record AtSlot (uid : Uid) : Type 0 where
    name : List ℕ
    among : SomeOf (λ n. n ≡ name) pod.claims
    claim : ClaimData
    stood_there : row_at (claim_key pod.meta.namespace name) (world setup slot).store.rows ≡ Some (Claim claim)
    known : claim.meta.uid ≡ Some uid

  at_slot_of : (uid : Uid) → is_tried_for rows pod uid ≡ true → AtSlot uid
  at_slot_of uid ours =
      let x = claimed rows pod uid ours in
      let n = claim_near (world setup slot) (world setup point) (claim_key pod.meta.namespace x.name) x.claim near_on x.there in
      record { name = x.name; among = x.among; claim = n.claim; stood_there = n.there; known = ap uid_of n.same ∙ x.known }

  -- one that is not to be given a node
  record IsAside (uid : Uid) : Type 0 where
    it : AtSlot uid
    mine : is_tried_for rows pod uid ≡ true
    not_other : is_other (world setup slot).store.rows it.claim ≡ false

  placed_there : (name : List ℕ) → SomeOf (λ n. n ≡ name) pod.claims → (x : ClaimData)
      → row_at (claim_key pod.meta.namespace name) (world setup slot).store.rows ≡ Some (Claim x) → is_other (world setup slot).store.rows x ≡ true
      → value_at selected_node x.meta.annotations ≡ Some node
  placed_there name among x at other =
      first.placed name (named first.pod first_pod name among) x (ap claim_in (ap (λ space. row_at (claim_key space name) (world setup slot).store.rows) (spaced first.pod first_pod) ∙ at)) other

  told_slot : (k : Key) (x : ClaimData) → row_at k (world setup slot).store.rows ≡ Some (Claim x) → ToldObject (λ o. o ≡ Claim x) (own seat slot)
  told_slot k x at = slot_told setup ds mid h middle b left q cached first.tried.scheduler slot front k x at

  marked : (uid : Uid) (t : Tried) → is_tried_for rows pod uid ≡ true → tried_of uid (tries_of (own seat slot)).selected ≡ Some t → (t.node ≡ node) ⊎ IsAside uid
  marked uid t ours at = by (at_slot_of uid ours)
    where
      by : AtSlot uid → (t.node ≡ node) ⊎ IsAside uid
      by x = test (is_other (world setup slot).store.rows x.claim) refl
        where
          test : (o : Bool) → is_other (world setup slot).store.rows x.claim ≡ o → (t.node ≡ node) ⊎ IsAside uid
          test false not_other = inr (record { it = x; mine = ours; not_other = not_other })
          test true other =
              let k = claim_key pod.meta.namespace x.name in
              let keyed : row_at (key_of (Claim x.claim)) (world setup slot).store.rows ≡ Some (Claim x.claim) =
              ap (λ j. row_at j (world setup slot).store.rows) (row_at_key k (Claim x.claim) (world setup slot).store.rows x.stood_there) ∙ x.stood_there in
              let sees = sees_node setup seat slot run_slot uid t at x.claim keyed (told_slot k x.claim x.stood_there) x.known
              (not_completed (is_completed x.claim) (has_carrier (world setup slot).store.rows x.claim) other) in
              inl (one t.node node (sym sees ∙ placed_there x.name x.among x.claim x.stood_there other))

  -- a claim of the pod that has no node again
  open_claim : HasOpen (world setup middle).store.rows p
  open_claim = open_of (world setup middle).store.rows p
      (under_false (world setup middle).store.rows p
      (prepare_due setup (world setup middle) p (step_of (world setup middle).store.rows p) (waiting_due setup (world setup middle) p (Some dues.Prepare) open_ due)).0)

  abbrev name : List ℕ
  name = open_claim.named.name

  among : SomeOf (λ n. n ≡ name) pod.claims
  among = subst (λ names. SomeOf (λ n. n ≡ name) names) (ap claims_in_pod middle_pod) open_claim.named.among

  abbrev claim_at : Key
  claim_at = claim_key pod.meta.namespace name

  abbrev again_open : ClaimData
  again_open = open_claim.claim

  in_middle : row_at claim_at (world setup middle).store.rows ≡ Some (Claim again_open)
  in_middle = ap (λ space. row_at (claim_key space name) (world setup middle).store.rows) (sym (spaced p middle_pod)) ∙ open_claim.named.there

  in_point : row_at claim_at rows ≡ Some (Claim again_open)
  in_point = stands_still point at_point name among ∙ in_middle

  was : ClaimNear (world setup slot) claim_at again_open
  was = claim_near (world setup slot) (world setup middle) claim_at again_open near_slot in_middle

  was_other : is_other (world setup slot).store.rows was.claim ≡ true
  was_other = other_near (world setup slot) (world setup middle) was.claim again_open near_slot was.same
      ∙ open_is_other (world setup middle).store.rows again_open open_claim.undone open_claim.uncarried

  had : value_at selected_node was.claim.meta.annotations ≡ Some node
  had = placed_there name among was.claim was.there was_other

  -- the decision of the second round rests on the store
  second_kind : second.tried.state.role.kind ≡ seats.Scheduler
  second_kind = ap (λ (x : Role). x.kind) second.tried.sees.role_is ∙ first_kind setup between after middle past c rest r again second.tried.scheduler second.slot back

  told_point : (k : Key) (x : ClaimData) → row_at k rows ≡ Some (Claim x) → ToldObject (λ o. o ≡ Claim x) (own seat point)
  told_point k x at =
      let newest_is : object_of (newest (own second.tried.scheduler.seat point) k) ≡ Some (Claim x) =
      sym (second.tried.sees.ready.stands.told.caches.rows k) ∙ (second.tried.sees.sees k (ap (λ kind. follows kind k.kind) second_kind) ∙ at) in
      subst (λ n. ToldObject (λ o. o ≡ Claim x) (own n point)) same_seat (newest_told (own second.tried.scheduler.seat point) k (Claim x) newest_is)

  -- what the scheduler is told in the second slot
  abbrev base : ℕ
  base = (world setup h).store.version

  kind_first : first.tried.scheduler.actor.role.kind ≡ seats.Scheduler
  kind_first = first_kind setup ds mid h middle b left q cached first.tried.scheduler slot front

  kind_second : second.tried.scheduler.actor.role.kind ≡ seats.Scheduler
  kind_second = first_kind setup between after middle past c rest r again second.tried.scheduler second.slot back

  reached_slot : KindsHaveReached base seat first.tried.scheduler.actor.role.kind slot
  reached_slot =
      slot_reaches setup seat first.tried.scheduler.actor front.ran.actor h slot b front.rest (runs_are_histories setup slot run_slot.run)
      (others_stay_awake all_pass seat (woken first.tried.scheduler.actor) front.ran.actor h slot b front.rest
      (not_agent _ (ap is_agent kind_first)) front.runs) (subst IsBuiltKind (sym kind_first) tt) front.runs

  reached_middle : KindsHaveReached base second.tried.scheduler.seat second.tried.scheduler.actor.role.kind middle
  reached_middle kind from f is =
      reached_slot kind from (ap (λ n. follows n kind) (kind_first ∙ sym kind_second) ∙ f) (ap (λ m. watch_from (following_of m kind)) (sym mine_same ∙ ap (λ n. own n middle) (sym same_seat)) ∙ is)

  begun : base ≤ (world setup middle).store.version
  begun =
      let up = rises setup (at_slot.newer ++ at_slot.older) h in
      subst (λ es. base ≤ (world setup es).store.version) (sym (at_slot.ahead ∙ (ap (λ es. at_slot.newer ++ es) at_slot.behind ∙ sym (append_assoc at_slot.newer at_slot.older h)))) up

  late_slot : HaveLate setup second.tried.scheduler.seat base middle second.slot
  late_slot =
      let run_second = slot_run setup between after middle past c rest r again second.tried.scheduler second.slot back in
      slot_late setup second.tried.scheduler.seat base second.tried.scheduler.actor back.ran.actor middle second.slot c back.rest
      (runs_are_histories setup second.slot run_second.run) kind_second begun reached_middle back.runs

  module _ (uid : Uid) (known : again_open.meta.uid ≡ Some uid) where
    ours : is_tried_for rows pod uid ≡ true
    ours = tried_here rows pod uid (record { name = name; among = among; claim = again_open; there = in_point; known = known })

    selected : Stands uid (tries_of (own seat slot))
    selected =
        slot_stands setup ds mid h middle b left q cached first.tried.scheduler slot front only claim_at was.claim again_open was.there
        (ap is_some had) in_middle open_claim.none uid node (ap uid_of was.same ∙ known) had

    -- an entry of the second slot before the decision
    module _ (ahead behind : List Entry) (e : Entry) (are : second.tried.within.older ≡ ahead ++ (e ∷ behind)) where
      abbrev before : List Entry
      before = behind ++ middle

      whole : point ≡ ahead ++ (e ∷ before)
      whole = second.tried.within.behind ∙ (ap (λ es. es ++ middle) are ∙ append_assoc ahead (e ∷ behind) middle)

      after_it : IsWithin middle (e ∷ before) point
      after_it = record { newer = ahead; older = e ∷ behind; ahead = whole; behind = refl }

      before_it : IsWithin middle before point
      before_it = record { newer = ahead ++ (e ∷ []); older = behind; ahead = whole ∙ sym (append_assoc ahead (e ∷ []) before); behind = refl }

      history_it : IsHistory setup (e ∷ before)
      history_it = older_history setup ahead (e ∷ before) (subst (IsHistory setup) whole history_point)

      late_entry : TellsLate setup second.tried.scheduler.seat base e before
      late_entry =
          let x = second.reached in
          let split : second.slot ≡ (x.newer ++ (ahead ++ (e ∷ behind))) ++ middle = x.ahead
          ∙ (ap (λ es. x.newer ++ es) (second.tried.within.behind ∙ ap (λ es. es ++ middle) are) ∙ sym (append_assoc x.newer (ahead ++ (e ∷ behind)) middle)) in
          let same : late_slot.newer ≡ (x.newer ++ ahead) ++ (e ∷ behind) =
          append_cancel_right late_slot.newer (x.newer ++ (ahead ++ (e ∷ behind))) middle (sym late_slot.are ∙ split) ∙ sym (append_assoc x.newer ahead (e ∷ behind)) in
          late_at setup second.tried.scheduler.seat base (x.newer ++ ahead) e behind middle (subst (λ es. AllLate setup second.tried.scheduler.seat base es middle) same late_slot.all)

      -- it writes no claim of the pod
      none_selected : (t : Tried) → Selecting t e.request e.reply → is_tried_for rows pod t.claim ≡ true → ⊥
      none_selected t s mine = by e.request e.reply refl refl s
        where
          done : (asked d : ClaimData) (given : Option ℕ) → e.request ≡ Update (Claim asked) given → e.reply ≡ Done (Claim d) → HasUid t.claim d → ⊥
          done asked d given er ea is =
              let said : reply_to (effect setup (world setup before) e.kind (Update (Claim asked) given)) ≡ Done (Claim d) =
              sym (ap (λ r. reply_to (effect setup (world setup before) e.kind r)) er) ∙ (sym history_it.1 ∙ ea) in
              let x = claimed rows pod t.claim mine in
              let k = claim_key pod.meta.namespace x.name in
              let stands_ : row_at (key_of (Claim d)) (world setup (e ∷ before)).store.rows ≡ Some (Claim d) =
              ap (λ r. row_at (key_of (Claim d)) (world_after (world setup before) (effect setup (world setup before) e.kind r)).store.rows) er
              ∙ done_stands setup (world setup before) e.kind (Update (Claim asked) given) (Claim d) said in
              let stood_ = subst (λ es. Stood setup es (Claim d)) (sym whole) (stood_grows setup ahead (e ∷ before) (Claim d) (stood setup (e ∷ before) (Claim d) stands_)) in
              let keyed = row_at_key k (Claim x.claim) rows x.there in
              let same_key = one_uid_one_key setup point run_point.imports run_point.short (Claim d) (Claim x.claim) t.claim stood_
              (stood setup point (Claim x.claim) (ap (λ j. row_at j rows) keyed ∙ x.there)) is x.known ∙ keyed in
              let there_ : row_at k (world setup (e ∷ before)).store.rows ≡ Some (Claim d) = ap (λ j. row_at j (world setup (e ∷ before)).store.rows) (sym same_key) ∙ stands_ in
              let was_there : row_at k (world setup before).store.rows ≡ Some (Claim d) = stands_still before before_it x.name x.among
              ∙ (sym (stands_still (e ∷ before) after_it x.name x.among) ∙ there_) in
              let low = version_stood setup before (Claim d) (stood setup before (Claim d) (ap (λ j. row_at j (world setup before).store.rows) same_key ∙ was_there)) in
              let version = (done_version setup (world setup before) e.kind (Claim asked) given (Claim d) said).0 in
              omega (arith, low, version)

          by : (request : Request) (reply : Reply) → e.request ≡ request → e.reply ≡ reply → Selecting t request reply → ⊥
          by (Update (Claim asked) given) (Done (Claim d)) er ea x = done asked d given er ea x.claim
          by _ _ er ea x = absurd x

      -- what it tells of a claim that was set aside refuses no node
      module _ (x : ClaimData) (told_x : IsIn (Claim x) (objects_in e.reply)) (u : Uid) (its : x.meta.uid ≡ Some u) (a : IsAside u) (t : Tried)
          (at : tried_of u (tries_of (own seat before)).selected ≡ Some t)
          (never : (a2 b2 : List Entry) (y : Entry) → second.tried.within.older ≡ a2 ++ (y ∷ b2) → (v : Tried) → Selecting v y.request y.reply → is_tried_for rows pod v.claim ≡ true → ⊥) where
        abbrev k : Key
        k = claim_key pod.meta.namespace a.it.name

        abbrev was_it : ClaimData
        was_it = a.it.claim

        stood_x : Stood setup point (Claim x)
        stood_x = subst (λ es. Stood setup es (Claim x)) (sym whole)
            (stood_grows setup ahead (e ∷ before) (Claim x) (entry_stood setup e before (Claim x) (subst (λ rr. IsIn (Claim x) (objects_in rr)) history_it.1 told_x)))

        to_point : point ≡ (second.tried.within.older ++ at_slot.newer) ++ slot
        to_point = second.tried.within.behind ∙ (ap (λ es. second.tried.within.older ++ es) at_slot.ahead ∙ sym (append_assoc second.tried.within.older at_slot.newer slot))

        it_keyed : key_of (Claim was_it) ≡ k
        it_keyed = row_at_key k (Claim was_it) (world setup slot).store.rows a.it.stood_there

        keyed_x : key_of (Claim x) ≡ k
        keyed_x =
            let stood_it = subst (λ es. Stood setup es (Claim was_it)) (sym to_point)
            (stood_grows setup (second.tried.within.older ++ at_slot.newer) slot (Claim was_it)
            (stood setup slot (Claim was_it) (ap (λ j. row_at j (world setup slot).store.rows) it_keyed ∙ a.it.stood_there))) in
            one_uid_one_key setup point run_point.imports run_point.short (Claim x) (Claim was_it) u stood_x stood_it its a.it.known ∙ it_keyed

        -- it stood so at a point of the first round
        record Stood_ : Type 0 where
          z : List Entry
          within_z : IsWithin h z middle
          there_z : row_at k (world setup z).store.rows ≡ Some (Claim x)
          same_z : has_key selected_node was_it.meta.annotations ≡ true → content_of (Claim x) ≡ content_of (Claim was_it)

        last_it : ClaimNear (world setup middle) k was_it
        last_it = claim_near (world setup middle) (world setup slot) k was_it (back_near (world setup slot) (world setup middle) near_slot) a.it.stood_there

        behind_slot : (newer_z older_z : List Entry) → middle ≡ newer_z ++ (older_z ++ slot) → row_at k (world setup (older_z ++ slot)).store.rows ≡ Some (Claim x) → Stood_
        behind_slot newer_z older_z split is = record {
          z = older_z ++ slot;
          within_z = record { newer = newer_z; older = older_z ++ at_slot.older; ahead = split; behind = ap (λ es. older_z ++ es) at_slot.behind ∙ sym (append_assoc older_z at_slot.older h) };
          there_z = is;
          same_z = λ has. keeps setup ds mid h middle b left q cached only first.tried.scheduler slot front k was_it a.it.stood_there a.not_other has
              last_it.claim last_it.there newer_z older_z split x is;
        }

        in_middle_so : row_at k (world setup middle).store.rows ≡ Some (Claim x) → Stood_
        in_middle_so is = behind_slot [] at_slot.newer at_slot.ahead (ap (λ es. row_at k (world setup es).store.rows) (sym at_slot.ahead) ∙ is)

        still_so : (es : List Entry) → IsWithin middle es point → row_at (key_of (Claim x)) (world setup es).store.rows ≡ Some (Claim x) → Stood_
        still_so es w is = in_middle_so (sym (stands_still es w a.it.name a.it.among) ∙ (ap (λ j. row_at j (world setup es).store.rows) (sym keyed_x) ∙ is))

        late_so : (world setup h).store.version < x.meta.version → Stood_
        late_so up = elim (stood_where setup second.tried.within.older middle (Claim x) (subst (λ es. Stood setup es (Claim x)) second.tried.within.behind stood_x)) [
          | inl s ↦
              still_so (s.behind ++ middle)
              (record { newer = s.ahead; older = s.behind; ahead = second.tried.within.behind ∙ (ap (λ es. es ++ middle) s.are ∙ append_assoc s.ahead s.behind middle); behind = refl }) s.there
          | inr first_ ↦ elim (stood_where setup at_slot.newer slot (Claim x) (subst (λ es. Stood setup es (Claim x)) at_slot.ahead first_)) [
            | inl s ↦ behind_slot s.ahead s.behind (at_slot.ahead ∙ (ap (λ es. es ++ slot) s.are ∙ append_assoc s.ahead s.behind slot))
                (ap (λ j. row_at j (world setup (s.behind ++ slot)).store.rows) (sym keyed_x) ∙ s.there)
            | inr second_ ↦ elim (stood_where setup at_slot.older h (Claim x) (subst (λ es. Stood setup es (Claim x)) at_slot.behind second_)) [
              | inl s ↦
                  let w : IsWithin h (s.behind ++ h) slot =
                  record { newer = s.ahead; older = s.behind; ahead = at_slot.behind ∙ (ap (λ es. es ++ h) s.are ∙ append_assoc s.ahead s.behind h); behind = refl } in
                  let is : row_at k (world setup (s.behind ++ h)).store.rows ≡ Some (Claim x) = ap (λ j. row_at j (world setup (s.behind ++ h)).store.rows) (sym keyed_x) ∙ s.there in
                  record {
                    z = s.behind ++ h;
                    within_z = record {
                      newer = at_slot.newer ++ s.ahead;
                      older = s.behind;
                      ahead = at_slot.ahead
                          ∙ (ap (λ es. at_slot.newer ++ es) w.ahead ∙ sym (append_assoc at_slot.newer s.ahead (s.behind ++ h)));
                      behind = refl;
                    };
                    there_z = is;
                    same_z = λ has. slot_so setup ds mid h middle b left q cached only first.tried.scheduler slot front k was_it a.it.stood_there a.not_other (s.behind ++ h) w x is;
                  }
              | inr third ↦ let low = version_stood setup h (Claim x) third in absurd (omega (arith, low, up))
            ]
          ]
        ]

        stood_so : Stood_
        stood_so = elim (late_entry x told_x) [
          | inl now ↦ elim now [ inl is ↦ still_so before before_it is | inr is ↦ still_so (e ∷ before) after_it is ]
          | inr late_x ↦ late_so late_x
        ]

        spared_x : is_refusal t x ≡ false
        spared_x = by (is_completed was_it) refl
          where
            near_z : AreNear (world setup stood_so.z) (world setup slot)
            near_z = then_near (world setup stood_so.z) (world setup middle) (world setup slot)
                (slot_ahead setup ds mid h middle b left q cached first.tried.scheduler slot front stood_so.z stood_so.within_z) (back_near (world setup slot) (world setup middle) near_slot)

            completed_same : is_completed x ≡ is_completed was_it
            completed_same =
                let n = claim_near (world setup stood_so.z) (world setup slot) k was_it near_z a.it.stood_there in
                let it : n.claim ≡ x = ap (claim_or x) (one (Claim n.claim) (Claim x) (sym n.there ∙ stood_so.there_z)) in
                ap is_completed (sym it) ∙ (sym (completed_rest n.claim) ∙ (ap is_completed (one_rest_claim n.claim was_it n.same) ∙ completed_rest was_it))

            first_false : (p q_ r_ : Bool) → p ≡ true → (not p && q_ && r_) ≡ false
            first_false p q_ r_ e = rw e refl

            last_false : (p q_ r_ : Bool) → r_ ≡ false → (p && q_ && r_) ≡ false
            last_false true true r_ e = e
            last_false true false r_ e = refl
            last_false false q_ r_ e = refl

            by : (o : Bool) → is_completed was_it ≡ o → is_refusal t x ≡ false
            by true done = first_false (is_completed x) (nat_lt t.version x.meta.version) (is_other_node t.node (node_selected_for x)) (completed_same ∙ done)
            by false open_it =
                let at_middle_ = tried_back seat u t behind middle
                (λ a2 b2 y is v s claims. never (ahead ++ (e ∷ a2)) b2 y
                (are ∙ (ap (λ es. ahead ++ (e ∷ es)) is ∙ sym (append_assoc ahead (e ∷ a2) (y ∷ b2)))) v s (ap (is_tried_for rows pod) claims ∙ a.mine)) at in
                let at_slot_ = subst (λ m. tried_of u (tries_of m).selected ≡ Some t) mine_same at_middle_ in
                let sees : node_selected_for was_it ≡ Some t.node =
                sees_node setup seat slot run_slot u t at_slot_ was_it (ap (λ j. row_at j (world setup slot).store.rows) it_keyed ∙ a.it.stood_there)
                (told_slot k was_it a.it.stood_there) a.it.known open_it in
                let same : node_selected_for x ≡ Some t.node = one_node_so x was_it (stood_so.same_z (ap is_some sees)) ∙ sees in
                last_false (not (is_completed x)) (nat_lt t.version x.meta.version) (is_other_node t.node (node_selected_for x))
                (ap (is_other_node t.node) same ∙ ap not ((bytes_eq-Decides t.node t.node).1 refl))

      passes : ((a2 b2 : List Entry) (y : Entry) → second.tried.within.older ≡ a2 ++ (y ∷ b2) → (v : Tried) → Selecting v y.request y.reply
          → is_tried_for rows pod v.claim ≡ true → ⊥) → Passes setup seat rows pod node IsAside uid ours e before
      passes never = record { spares = λ o i x is u its aside t at. spared_x x (subst (λ y. IsIn y (objects_in e.reply)) is i) u its aside t at never; none = none_selected }

    holds : Holds rows pod node IsAside uid ours (tries_of (own seat point))
    holds =
        subst (λ es. Holds rows pod node IsAside uid ours (tries_of (own seat es))) (sym second.tried.within.behind)
        (run_holds setup seat rows pod node IsAside uid ours second.tried.within.older middle (λ ahead behind e are of_seat told. passes ahead behind e are (λ a2 b2 y w. none_selected a2 b2 y w))
        (subst (λ m. Holds rows pod node IsAside uid ours (tries_of m)) (sym mine_same) (record { marks = marked; waits = inl selected })))

    last : last_refused rows pod (tries_of (own seat point)).refused ≡ Some node
    last = elim holds.waits [
      | inl s ↦
          let keyed : row_at (key_of (Claim again_open)) rows ≡ Some (Claim again_open) = ap (λ j. row_at j rows) (row_at_key claim_at (Claim again_open) rows in_point) ∙ in_point in
          let sees = sees_node setup seat point run_point uid s.0 s.1 again_open keyed (told_point claim_at again_open in_point) known open_claim.undone in
          absurd (true≢false (sym (ap is_some sees) ∙ open_claim.none))
      | inr is ↦ is
    ]

    follows_on : second.from ≡ Some node
    follows_on =
        let remembered : second.tried.state.memory.tries ≡ tries_of (own seat point) =
        ap (λ (m : Memory). m.tries) second.tried.sees.ready.stands.told.memory
        ∙ (tries_are_told second.tried.state.role (own second.tried.scheduler.seat point) second_kind ∙ ap (λ n. tries_of (own n point)) same_seat) in
        sym second.tried.refused ∙ (ap (λ (m : Tries). last_refused rows pod m.refused) remembered ∙ last)

  goes_on : second.from ≡ Some node
  goes_on = by again_open.meta.uid refl (rows_known setup middle q.run.imports claim_at (Claim again_open) in_middle)
    where
      by : (u : Option Uid) → again_open.meta.uid ≡ u → is_some again_open.meta.uid ≡ true → second.from ≡ Some node
      by None known some = absurd (true≢false (sym some ∙ ap is_some known))
      by (Some u) known some = follows_on u known

pub searches_go_on : SearchesGoOn
searches_go_on setup ds between after h middle past b left c rest key p q r cached only again there open_ due first second =
    let seats_ : first.tried.scheduler.seat ≡ second.tried.scheduler.seat =
    one first.tried.scheduler.seat second.tried.scheduler.seat
    (ap (λ ds_. slice_get (seats_of ds_) 0) (sym first.at.ds_are)
    ∙ (ap (λ ns. slice_get ns 0) (sym (round_seats all_pass middle left ds h b between true q.round)) ∙ ap (λ ds_. slice_get (seats_of ds_) 0) second.at.ds_are)) in
    goes_on setup ds between between after h middle past b left c rest key p q r cached only again there open_ due first second (sym seats_)
