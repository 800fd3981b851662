-- Where a gate holds Mounts alone, each call for what is due passes that is no Mount that it holds. So a whole round has an entry that lasts.
use Rattle.std.proofs.Common.{◌≡◌, ◌∙◌, ℕ, List, [], ◌∷◌, Bool, true, false, true≢false, Option, Some, None, inl, inr, refl, sym, ap, subst, if◌then◌else◌}
use Rattle.kube_objects.specs.declared.key.Key.{Key}
use Rattle.kube_parts.specs.declared.uid.Uid.{Uid}
use Rattle.kube_parts.specs.declared.names.Due.{Due}
use Rattle.kube_parts.specs.declared.names.Due.TheVariants as dues
use Rattle.kube_objects.specs.declared.objects.Pod.{Pod as PodData}
use Rattle.kube_objects.specs.declared.objects.Claim.{Claim as ClaimData}
use Rattle.kube_objects.specs.declared.objects.Object.{Object}
use Rattle.kube_objects.specs.declared.objects.Object.TheVariants.{Class, Node, Volume, Claim, Pod}
use Rattle.kube_objects.specs.Bindings.{is_deleting, is_scheduled}
use Rattle.kube_objects.specs.Keys.{row_at}
use Rattle.kube_objects.proofs.KeyOrder.{row_at_key}
use Rattle.call_types.specs.declared.entry.Entry.{Entry}
use Rattle.call_types.specs.declared.request.Request.{Request}
use Rattle.call_types.specs.declared.request.SeatKind.TheVariants as seats
use Rattle.call_types.specs.declared.setup.Setup.{Setup}
use Rattle.binder_model.specs.Choice.{claim_in, claim_named}
use Rattle.binder_model.specs.Due.{IsDue, IsPodDue, agent_due}
use Rattle.binder_model.specs.ObjectKeys.{claim_key}
use Rattle.binder_model.specs.Reading.{follows}
use Rattle.binder_model.specs.World.{World, world}
use Rattle.informer_cache.specs.All.{all_objects}
use Rattle.model_laws.proofs.Lists.{none_some}
use Rattle.worker_core.specs.declared.role.Role.{Role}
use Rattle.worker_core.specs.declared.task.First.TheVariants as firsts
use Rattle.worker_core.specs.Tasks.{IsAgentFirst, IsDecision, task_call}
use Rattle.actor_rounds.specs.Drainers.{agent_of, of_kind}
use Rattle.actor_rounds.specs.Rounds.{Lets}
use Rattle.settle_alike.specs.Alike.Alike.{AreAlike}
use Rattle.settle_slot.specs.Slot.Gates.{HoldsMountsAlone, is_mount}
use Rattle.settle_slot.specs.Slot.Would.{CallsPass}
use Rattle.settle_due.proofs.Upkeep.Deciding.{IsPodAt, claim_alike, pod_alike}
use Rattle.settle_progress.proofs.Agents.Points.{finish_due, mount_or_finish}
use Rattle.settle_progress.specs.Drains.Held.{AreUidsOf, HeldRoundsLast, LetsMountPass, MountsPass, uid_in}
use Rattle.settle_progress.specs.Drains.Rounds.{doer_of, for_claim, for_volume}
use Rattle.settle_progress.proofs.Drains.Controllers.{controllers_pass}
use Rattle.settle_progress.proofs.Drains.Drained.{claims_not, volumes_not}
use Rattle.settle_progress.proofs.Drains.Leading.{leads_keep}
use Rattle.settle_progress.proofs.Drains.Mounts.{IsMountOf, IsOnWay, begun, come_to, moves}
use Rattle.settle_progress.proofs.Drains.Rounds.{unsettled_rounds_last}

-- ---- what stands in a world that is alike

alike_back : (old new : World) → AreAlike old new → AreAlike new old
alike_back old new a = record { rows = sym a.rows; stored = sym a.stored; mounts = sym a.mounts }

uid_alike : (old new : World) (namespace name : List ℕ) (uid : Uid) → AreAlike old new
    → uid_in (claim_named old.store.rows namespace name) ≡ Some uid → uid_in (claim_named new.store.rows namespace name) ≡ Some uid
uid_alike old new namespace name uid alike e = by (row_at (claim_key namespace name) old.store.rows) refl e
  where
    by : (x : Option Object) → row_at (claim_key namespace name) old.store.rows ≡ x → uid_in (claim_in x) ≡ Some uid → uid_in (claim_named new.store.rows namespace name) ≡ Some uid
    by (Some (Claim c)) there is =
        let at = claim_alike old new (claim_key namespace name) c alike there in
        ap (λ x. uid_in (claim_in x)) at.is ∙ (ap (λ (x : ClaimData). x.meta.uid) at.same ∙ is)
    by None there is = none_some is
    by (Some (Class o)) there is = none_some is
    by (Some (Node o)) there is = none_some is
    by (Some (Volume o)) there is = none_some is
    by (Some (Pod o)) there is = none_some is

uids_alike : (old new : World) (namespace : List ℕ) (names : List (List ℕ)) (uids : List Uid) → AreAlike old new
    → AreUidsOf old.store.rows namespace names uids → AreUidsOf new.store.rows namespace names uids
uids_alike old new namespace [] [] alike are = tt
uids_alike old new namespace [] (uid ∷ uids) alike are = absurd are
uids_alike old new namespace (name ∷ names) [] alike are = absurd are
uids_alike old new namespace (name ∷ names) (uid ∷ uids) alike are = (uid_alike old new namespace name uid alike are.0, uids_alike old new namespace names uids alike are.1)

-- ---- the calls of an agent for a pod

module _ (setup : Setup) (lets : Lets) (seat : ℕ) (start : List Entry) (key : Key) (p : PodData) (action : Due)
    (there : row_at key (world setup start).store.rows ≡ Some (Pod p)) (scheduled : is_scheduled p ≡ true)
    (due : agent_due (world setup start) p ≡ Some action) (holds : HoldsMountsAlone lets) (passes : LetsMountPass setup lets start (Pod p)) where
  -- what stays is not finished
  mount_is_due : is_deleting p.meta ≡ false → agent_due (world setup start) p ≡ Some dues.Mount
  mount_is_due staying = elim (mount_or_finish (world setup start) p action due) [
    | inl mount ↦ mount
    | inr finish ↦ absurd (true≢false (sym (finish_due (world setup start) p finish) ∙ staying))
  ]

  mounts_pass : is_deleting p.meta ≡ false → MountsPass setup lets start p
  mounts_pass staying = passes (subst (λ b. IsPodDue setup (world setup start) p b (Some dues.Mount)) (sym scheduled) (sym (mount_is_due staying)))

  -- a Mount of the pod as it stands where the agent decides
  passed : (h g : List Entry) (at : IsPodAt (row_at key (world setup h).store.rows) p) → AreAlike (world setup start) (world setup h)
      → AreAlike (world setup start) (world setup g) → (call : Request) → IsMountOf setup seat p.node (world setup h) at.pod g call → lets g call ≡ true
  passed h g at alike same call m =
      let staying : is_deleting p.meta ≡ false = ap (λ (x : PodData). is_deleting x.meta) (sym at.same) ∙ m.staying in
      let known : p.meta.uid ≡ Some m.uid = ap (λ (x : PodData). x.meta.uid) (sym at.same) ∙ m.known in
      let here : AreUidsOf (world setup start).store.rows at.pod.meta.namespace at.pod.claims m.claims =
      uids_alike (world setup h) (world setup start) at.pod.meta.namespace at.pod.claims m.claims (alike_back (world setup start) (world setup h) alike) m.are in
      let are : AreUidsOf (world setup start).store.rows p.meta.namespace p.claims m.claims =
      subst (λ (x : PodData). AreUidsOf (world setup start).store.rows x.meta.namespace x.claims m.claims) at.same here in
      subst (λ r. lets g r ≡ true) (sym m.is) (mounts_pass staying g m.epoch m.uid m.claims m.history same known are)

  pub agents_pass : CallsPass setup lets seat (agent_of p.node) start key
  agents_pass s h g u v point own gives leads alike = by (is_mount v.call) refl
    where
      at : IsPodAt (row_at key (world setup h).store.rows) p
      at = pod_alike (world setup start) (world setup h) key p point.alike there

      seen : row_at key (all_objects s.caches) ≡ Some (Pod at.pod)
      seen =
          point.sees key (ap (λ (r : Role). follows r.kind key.kind) point.role_is
          ∙ ap (λ (k : Key). follows seats.Agent k.kind) (sym (row_at_key key (Pod at.pod) (world setup h).store.rows at.is))) ∙ at.is

      decided : IsAgentFirst p.node s.memory.epoch s.memory.mounts (Some (Pod at.pod)) (firsts.Begins u.task)
      decided =
          subst (λ x. IsAgentFirst p.node s.memory.epoch s.memory.mounts x (firsts.Begins u.task)) (ap (λ k. row_at k (all_objects s.caches)) own ∙ seen)
          (subst (λ r. IsDecision r s.memory (all_objects s.caches) u.key (firsts.Begins u.task)) point.role_is gives.decided)

      way : IsOnWay setup seat p.node (world setup h) at.pod g v.task × (task_call v.task ≡ Some v.call)
      way =
          leads_keep setup seat seats.Agent (IsOnWay setup seat p.node (world setup h) at.pod) (moves setup seat p.node (world setup h) at.pod) h g u v leads
          (begun setup seat p.node (world setup h) at.pod h s.memory.epoch s.memory.mounts u.task point.history refl decided) gives.call

      by : (b : Bool) → is_mount v.call ≡ b → lets g v.call ≡ true
      by false none = holds g v.call none
      by true mount = passed h g at point.alike alike v.call (come_to setup seat p.node (world setup h) at.pod g v.task v.call way.0 way.1 mount)

-- ---- so what is due is done

calls_pass : (setup : Setup) (lets : Lets) (seat : ℕ) (start : List Entry) (key : Key) (o : Object) (action : Due)
    → row_at key (world setup start).store.rows ≡ Some o → IsDue setup (world setup start) o (Some action) → HoldsMountsAlone lets
    → LetsMountPass setup lets start o → CallsPass setup lets seat (doer_of o action) start key
calls_pass setup lets seat start key (Volume v) action there due holds passes = controllers_pass setup lets seat (of_kind (for_volume action)) start key (volumes_not action) holds
calls_pass setup lets seat start key (Claim c) action there due holds passes = controllers_pass setup lets seat (of_kind (for_claim action)) start key (claims_not action) holds
calls_pass setup lets seat start key (Class x) action there due holds passes = none_some (sym due)
calls_pass setup lets seat start key (Node x) action there due holds passes = none_some (sym due)
calls_pass setup lets seat start key (Pod p) action there due holds passes = by (is_scheduled p) refl due
  where
    by : (b : Bool) → is_scheduled p ≡ b → IsPodDue setup (world setup start) p b (Some action) → CallsPass setup lets seat (if b then agent_of p.node else of_kind seats.Scheduler) start key
    by true scheduled is = agents_pass setup lets seat start key p action there scheduled (sym is) holds passes
    by false open_ is = controllers_pass setup lets seat (of_kind seats.Scheduler) start key refl holds

pub held_rounds_last : HeldRoundsLast
held_rounds_last setup lets ds after h past b left may only run round holds x passes =
    unsettled_rounds_last setup lets ds after h past b left may only run round x (λ seat. calls_pass setup lets seat h x.key x.object x.action x.stands x.due holds passes)
