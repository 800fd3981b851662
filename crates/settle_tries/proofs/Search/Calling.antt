-- In a slot of the scheduler that leaves as much to do a call binds a pod, or gives a claim its node: one that a pod names for which a node was searched.
use Rattle.std.proofs.Common.{◌≡◌, ◌∙◌, ◌⊎◌, ℕ, zero, suc, ◌≤◌, List, [], ◌∷◌, ◌++◌, append_assoc, Bool, true, false, true≢false, Option, Some, None, inl, inr, refl, sym, ap, subst}
use Rattle.std.specs.Prelude.{not, slice_get}
use Rattle.kube_objects.specs.declared.key.Key.{Key}
use Rattle.kube_parts.specs.declared.uid.Uid.{Uid}
use Rattle.kube_objects.specs.declared.objects.Claim.{Claim as ClaimData}
use Rattle.kube_objects.specs.declared.objects.Object.{Object}
use Rattle.kube_objects.specs.declared.objects.Object.TheVariants.{Claim, Class, Node, Pod, Volume}
use Rattle.kube_objects.specs.declared.objects.Pod.{Pod as PodData}
use Rattle.kube_objects.specs.Bindings.{class_of_claim, is_completed, is_scheduled}
use Rattle.kube_objects.specs.Keys.{key_of, row_at}
use Rattle.kube_objects.proofs.KeyOrder.{row_at_key}
use Rattle.kube_objects.proofs.SameKeys.{key_tells}
use Rattle.call_types.specs.declared.entry.Entry.{Entry}
use Rattle.call_types.specs.declared.request.Request.{Request}
use Rattle.call_types.specs.declared.request.Request.TheVariants.{BindPod}
use Rattle.call_types.specs.declared.request.SeatKind.{SeatKind}
use Rattle.call_types.specs.declared.request.SeatKind.TheVariants as seats
use Rattle.call_types.specs.declared.setup.Setup.{Setup}
use Rattle.binder_model.specs.Answers.{is_user}
use Rattle.binder_model.specs.BindWrites.{write_reference}
use Rattle.binder_model.specs.Choice.{claim_in, others_of}
use Rattle.binder_model.specs.Matching.{is_delayed}
use Rattle.binder_model.specs.ObjectKeys.{claim_key, class_key}
use Rattle.binder_model.specs.Promises.{IsRunOf}
use Rattle.binder_model.specs.Told.{SomeOf}
use Rattle.binder_model.specs.World.{world}
use Rattle.delayed_binding.proofs.Allowed.{made_of}
use Rattle.delayed_binding.proofs.Known.{IsSought, others_sought}
use Rattle.informer_cache.specs.All.{all_objects}
use Rattle.model_laws.proofs.Histories.{rows_stand_in_order}
use Rattle.model_laws.proofs.Lists.{IsIn, none_some, one}
use Rattle.pod_scheduler.specs.declared.schedule.ScheduleStep.TheVariants as steps
use Rattle.pod_scheduler.specs.Decisions.{are_known, last_refused}
use Rattle.pod_scheduler.proofs.Begun.{all_known}
use Rattle.settle_due.proofs.Upkeep.Deciding.{stored}
use Rattle.settle_due.proofs.Upkeep.Known.{rows_known}
use Rattle.settle_due.proofs.Upkeep.Reclaims.{has_uid}
use Rattle.settle_measure.specs.Left.Measure.{work_left}
use Rattle.worker_core.specs.declared.role.Role.{Role}
use Rattle.worker_core.specs.declared.task.Under.{Under}
use Rattle.worker_core.specs.States.{ActorState}
use Rattle.worker_core.specs.Tasks.{GivesCall, task_call}
use Rattle.settle_writes.specs.Writes.Lasting.{Lasts}
use Rattle.settle_writes.proofs.Writes.Valid.{rows_are_valid}
use Rattle.settle_writes.proofs.Writes.Volumes.{reference_lasts}
use Rattle.settle_slot.specs.Slot.Slots.{IsDecisionPoint, own_entry}
use Rattle.settle_slot.specs.Slot.Would.{Here, Leads, On}
use Rattle.settle_due.specs.Scheduling.Writes.{placing}
use Rattle.settle_due.proofs.Scheduling.Choosing.{TakesFirst, claims_known}
use Rattle.settle_pays.specs.Pays.Pays.{HavePaid, worth}
use Rattle.settle_budget.specs.Drains.Budget.{AreAlwaysInOrder}
use Rattle.settle_budget.specs.Drains.Measured.{SharesWell, WaitingPodNames, is_immediate}
use Rattle.settle_alike.specs.Near.Near.{AreNear}
use Rattle.settle_alike.proofs.Near.Annotations.{class_rest, completed_rest}
use Rattle.settle_alike.proofs.Near.Near.{ClaimNear, PodNear, claim_near, one_rest_claim, pod_near}
use Rattle.settle_alike.proofs.Near.Rows.{delayed_at_rest}
use Rattle.settle_tries.specs.Tries.Coming.{IsDecidedIn}
use Rattle.settle_tries.specs.Tries.Deciding.{IsWithin}
use Rattle.settle_tries.proofs.Quiet.Assigning.{begins_schedule}
use Rattle.settle_tries.proofs.Slots.ForPods.{decided_are_for_pods}
use Rattle.settle_tries.proofs.Slots.Leading.{leads_keep, leads_more}
use Rattle.settle_tries.proofs.Moves.Points.{run_within, worth_none}
use Rattle.settle_tries.proofs.Search.Choosing.{Binds, Chosen, IsSearched, Schedules, Searches, TakesVolumes, among_writes, begun_first, chosen, first_write, schedules_on}
use Rattle.settle_tries.proofs.Search.Open.{IsNamed, each_in, others_named}

-- ---- lists

at_in : {X : Type 0} (xs : List X) (place : ℕ) (x : X) → slice_get xs place ≡ Some x → IsIn x xs
at_in [] place x e = none_some e
at_in (y ∷ ys) zero x e = inl (one y x e)
at_in (y ∷ ys) (suc place) x e = inr (at_in ys place x e)

only_at : {X : Type 0} (x y : X) (place : ℕ) → slice_get (x ∷ []) place ≡ Some y → x ≡ y
only_at x y zero e = one x y e
only_at x y (suc place) e = none_some e

-- ---- what was decided

-- of a decision for a pod that no node runs
pub record IsChosen (setup : Setup) (y : List Entry) (s : ActorState) (key : Key) (u : Under) : Type 0 where
  pub pod : PodData
  pub there : row_at key (world setup y).store.rows ≡ Some (Pod pod)
  pub waits : is_scheduled pod ≡ false
  pub writes : List Request
  pub schedules : Schedules writes u
  pub step : schedules.op.step ≡ steps.Writes 0
  pub first : slice_get writes 0 ≡ Some u.call
  pub chosen : Chosen (world setup y).store.rows pod (last_refused (world setup y).store.rows pod s.memory.tries.refused) writes

-- a claim gets its node
pub record IsPlacing (setup : Setup) (y : List Entry) (s : ActorState) (key : Key) (call : Request) : Type 0 where
  pub pod : PodData
  pub there : row_at key (world setup y).store.rows ≡ Some (Pod pod)
  pub waits : is_scheduled pod ≡ false
  pub writes : List Request
  pub searched : IsSearched (world setup y).store.rows pod (last_refused (world setup y).store.rows pod s.memory.tries.refused) writes
  pub claim : ClaimData
  pub among : IsIn claim (others_of (world setup y).store.rows pod)
  pub is : call ≡ placing searched.name claim

pub record IsBinding (call : Request) : Type 0 where
  pub key : Key
  pub uid : Uid
  pub name : List ℕ
  pub is : call ≡ BindPod key uid name

module _ (setup : Setup) (seat : ℕ) (role : Role) (kind : role.kind ≡ seats.Scheduler) where
  module _ (y : List Entry) (run : IsRunOf setup y) (s : ActorState) (p : IsDecisionPoint setup seat role y s y) (u : Under) (key : Key)
      (own : u.key ≡ key) (gives : GivesCall s.role s.memory (all_objects s.caches) u) (pod : PodData)
      (there : row_at key (world setup y).store.rows ≡ Some (Pod pod)) (waits : is_scheduled pod ≡ false) where
    known : are_known (world setup y).store.rows pod ≡ true
    known = claims_known (world setup y).store.rows (rows_known setup y run.imports) pod

    pub is_chosen : IsChosen setup y s key u
    is_chosen =
        let b = begins_schedule setup seat role kind key s y p u own gives pod there waits in
        let schedules : Schedules b.op.writes u = record { op = b.op; task = b.task; are = refl; call = sym (ap task_call b.task) ∙ gives.call } in
        record {
          pod = pod;
          there = there;
          waits = waits;
          writes = b.op.writes;
          schedules = schedules;
          step = begun_first _ b.op b.begins.begins;
          first = first_write b.op.writes u schedules (begun_first _ b.op b.begins.begins);
          chosen = chosen (world setup y).store.rows (rows_stand_in_order setup y) pod known
              (last_refused (world setup y).store.rows pod s.memory.tries.refused) b.begins.choice b.op b.begins.chosen b.begins.begins;
        }

  -- the first call of what leads to a call that was made was made
  first_called : (past newer : List Entry) {h g : List Entry} {u v : Under} → Leads setup seat role.kind h u g v
      → past ≡ newer ++ (own_entry setup seat role.kind g v.call ∷ g) → (more : List Entry) × (past ≡ more ++ (own_entry setup seat role.kind h u.call ∷ h))
  first_called past newer Here are = (newer, are)
  first_called past newer {h = h} {g = g} {u = u} {v = v} (On next follows more) are =
      let m = leads_more setup seat role.kind more in
      let e = own_entry setup seat role.kind g v.call in
      (newer ++ (e ∷ m.newer), are ∙ (ap (λ es. newer ++ (e ∷ es)) m.are ∙ sym (append_assoc newer (e ∷ m.newer) (own_entry setup seat role.kind h u.call ∷ h))))

  -- ---- a slot that leaves as much to do

  module _ (h past : List Entry) (run : IsRunOf setup past) (order : AreAlwaysInOrder setup past) (paid : HavePaid setup h past)
      (le : work_left setup (world setup h) ≤ work_left setup (world setup past)) where
    -- no volume is taken in it
    pub takes_none : (y newer : List Entry) (u : Under) (writes : List Request) → IsRunOf setup y → IsWithin h y past
        → past ≡ newer ++ (own_entry setup seat role.kind y u.call ∷ y) → slice_get writes 0 ≡ Some u.call → TakesFirst (world setup y).store.rows writes → ⊥
    takes_none y newer u writes here w are first t =
        let uid = has_uid t.claim.meta.uid t.apart.known in
        let call : write_reference t.volume t.claim ≡ u.call = one (write_reference t.volume t.claim) u.call (ap (λ ws. slice_get ws 0) (sym t.are) ∙ first) in
        let lasts = reference_lasts setup (world setup y) role.kind t.volume t.claim uid.uid (ap is_user kind)
        (stored setup y (key_of (Volume t.volume)) (Volume t.volume) here.imports t.apart.volume)
        (rows_are_valid setup y here.imports (key_of (Claim t.claim)) (Claim t.claim) t.apart.claim) uid.is t.apart.uncarried in
        worth_none setup h past run order paid le (own_entry setup seat role.kind y u.call) y newer are w
        (subst (Lasts setup (world setup y) role.kind) call lasts) (ap (λ (x : SeatKind × Request). worth x.0 x.1) (λ i. (kind i, (sym call) i)))

    module _ (start g newer older : List Entry) (u : Under) (since : start ≡ older ++ h) (i : IsDecidedIn setup seat role start g u)
        (are : past ≡ newer ++ (own_entry setup seat role.kind g u.call ∷ g)) where
      first_made : (more : List Entry) × (past ≡ more ++ (own_entry setup seat role.kind i.point i.first.call ∷ i.point))
      first_made = first_called past newer i.leads are

      -- it was decided in the slot
      pub decided_within : IsWithin h i.point past
      decided_within = record {
        newer = first_made.0 ++ (own_entry setup seat role.kind i.point i.first.call ∷ []);
        older = i.older ++ older;
        ahead = first_made.1 ∙ sym (append_assoc first_made.0 (own_entry setup seat role.kind i.point i.first.call ∷ []) i.point);
        behind = i.behind ∙ (ap (λ es. i.older ++ es) since ∙ sym (append_assoc i.older older h));
      }

      here : IsRunOf setup i.point
      here = run_within setup h past run order paid le i.point decided_within

      of_pod : (pod : PodData) × ((row_at i.first.key (world setup i.point).store.rows ≡ Some (Pod pod)) × (is_scheduled pod ≡ false))
      of_pod = let x = decided_are_for_pods setup seat role start g u kind i in (x.pod, (x.there, x.waits))

      decided_so : IsChosen setup i.point i.state i.first.key i.first
      decided_so = is_chosen i.point here i.state i.sees i.first i.first.key refl i.gives of_pod.0 of_pod.1.0 of_pod.1.1

      among_them : (place : ℕ) × (slice_get decided_so.writes place ≡ Some u.call)
      among_them = among_writes decided_so.writes u (leads_keep setup seat role.kind (Schedules decided_so.writes) (schedules_on decided_so.writes) i.leads decided_so.schedules)

      -- so each call binds a pod or gives a claim its node
      pub calls_are : IsBinding u.call ⊎ IsPlacing setup i.point i.state i.first.key u.call
      calls_are = by decided_so.chosen
        where
          by : Chosen (world setup i.point).store.rows decided_so.pod
              (last_refused (world setup i.point).store.rows decided_so.pod i.state.memory.tries.refused) decided_so.writes → IsBinding u.call ⊎ IsPlacing setup i.point i.state i.first.key u.call
          by (Binds b) = inl (record {
            key = key_of (Pod decided_so.pod);
            uid = b.uid;
            name = b.name;
            is = sym
                (only_at (BindPod (key_of (Pod decided_so.pod)) b.uid b.name) u.call among_them.0 (ap (λ ws. slice_get ws among_them.0) (sym b.are) ∙ among_them.1));
          })
          by (TakesVolumes t) = absurd (takes_none i.point first_made.0 i.first decided_so.writes here decided_within first_made.1 decided_so.first t)
          by (Searches s) =
              let m = made_of (placing s.name) (others_of (world setup i.point).store.rows decided_so.pod) among_them.0 u.call (ap (λ ws. slice_get ws among_them.0) (sym s.are) ∙ among_them.1) in
              inr (record {
                pod = decided_so.pod;
                there = decided_so.there;
                waits = decided_so.waits;
                writes = decided_so.writes;
                searched =
                    s;
                claim = m.item;
                among = at_in (others_of (world setup i.point).store.rows decided_so.pod) among_them.0 m.item m.at;
                is = sym m.is;
              })

-- ---- whose claim it is

not_both : (o : Option Object) → is_immediate o ≡ true → is_delayed o ≡ true → ⊥
not_both None i d = true≢false (sym i)
not_both (Some (Class x)) i d = by x.delayed i d
  where
    by : (b : Bool) → not b ≡ true → b ≡ true → ⊥
    by true f g = true≢false (sym f)
    by false f g = true≢false (sym g)
not_both (Some (Node x)) i d = true≢false (sym i)
not_both (Some (Volume x)) i d = true≢false (sym i)
not_both (Some (Claim x)) i d = true≢false (sym i)
not_both (Some (Pod x)) i d = true≢false (sym i)

abbrev pub pods_namespace : Object → List ℕ
pods_namespace (Pod p) = p.meta.namespace
pods_namespace o = []

abbrev pub pods_claims : Object → List (List ℕ)
pods_claims (Pod p) = p.claims
pods_claims o = []

abbrev pub pods_waiting : Object → Bool
pods_waiting (Pod p) = is_scheduled p
pods_waiting o = false

module _ (setup : Setup) (h y : List Entry) (run : IsRunOf setup y) (shares : SharesWell (world setup h))
    (near : AreNear (world setup h) (world setup y)) (key : Key) (pod : PodData) (there : row_at key (world setup h).store.rows ≡ Some (Pod pod)) (waits : is_scheduled pod ≡ false) where
  -- a claim of a waiting pod that gets its node gets it for this pod
  pub own_claim : (s : ActorState) (other : Key) (call : Request) (x : IsPlacing setup y s other call) (name : List ℕ)
      → SomeOf (λ n. n ≡ name) pod.claims → key_of (Claim x.claim) ≡ claim_key pod.meta.namespace name → other ≡ key
  own_claim s other call x name among keyed = elim (key_tells other key) [
    | inl same ↦ same
    | inr apart ↦ absurd (elim (shares other key pod.meta.namespace name d.claim theirs ours apart (ap claim_in there_h)) [
      | inl done ↦ true≢false (sym done ∙ (done_same ∙ sought.undone))
      | inr at_once ↦ not_both (row_at (class_key (class_of_claim d.claim)) (world setup h).store.rows) at_once late
    ])
  ]
    where
      rows : List Object
      rows = (world setup y).store.rows

      sought : IsSought rows x.claim
      sought = each_in (IsSought rows) x.claim (others_of rows x.pod)
          (others_sought rows x.pod (all_known rows x.pod (claims_known rows (rows_known setup y run.imports) x.pod)) x.searched.search.here) x.among

      named : IsNamed rows x.pod x.claim
      named = each_in (IsNamed rows x.pod) x.claim (others_of rows x.pod) (others_named rows x.pod) x.among

      keys : claim_key x.pod.meta.namespace named.name ≡ claim_key pod.meta.namespace name
      keys = sym (row_at_key (claim_key x.pod.meta.namespace named.name) (Claim x.claim) rows named.there) ∙ keyed

      names : named.name ≡ name
      names = ap (λ (k : Key). k.name) keys

      p : PodNear (world setup h) other x.pod
      p = pod_near (world setup h) (world setup y) other x.pod near x.there

      d : ClaimNear (world setup h) (claim_key pod.meta.namespace name) x.claim
      d = claim_near (world setup h) (world setup y) (claim_key pod.meta.namespace name) x.claim near (ap (λ k. row_at k rows) (sym keys) ∙ named.there)

      there_h : row_at (claim_key pod.meta.namespace name) (world setup h).store.rows ≡ Some (Claim d.claim)
      there_h = d.there

      theirs : WaitingPodNames (world setup h) other pod.meta.namespace name
      theirs = record {
        pod = p.pod;
        there = p.there;
        waits = ap pods_waiting p.same ∙ x.waits;
        same = ap pods_namespace p.same ∙ ap (λ (k : Key). k.namespace) keys;
        names = subst (SomeOf (λ n. n ≡ name)) (sym (ap pods_claims p.same)) (subst (λ m. SomeOf (λ n. n ≡ m) x.pod.claims) names named.among);
      }

      ours : WaitingPodNames (world setup h) key pod.meta.namespace name
      ours = record { pod = pod; there = there; waits = waits; same = refl; names = among }

      done_same : is_completed d.claim ≡ is_completed x.claim
      done_same = sym (completed_rest d.claim) ∙ (ap is_completed (one_rest_claim d.claim x.claim d.same) ∙ completed_rest x.claim)

      class_same : class_of_claim d.claim ≡ class_of_claim x.claim
      class_same = sym (class_rest d.claim) ∙ (ap class_of_claim (one_rest_claim d.claim x.claim d.same) ∙ class_rest x.claim)

      late : is_delayed (row_at (class_key (class_of_claim d.claim)) (world setup h).store.rows) ≡ true
      late =
          ap (λ n. is_delayed (row_at (class_key n) (world setup h).store.rows)) class_same
          ∙ (sym (delayed_at_rest (world setup h).store.rows (class_of_claim x.claim))
          ∙ (ap (λ rs. is_delayed (row_at (class_key (class_of_claim x.claim)) rs)) near.rows ∙ (delayed_at_rest rows (class_of_claim x.claim) ∙ sought.delayed)))
