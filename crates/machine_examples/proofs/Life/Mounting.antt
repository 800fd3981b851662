-- The examples of node agents compute.
use Rattle.std.proofs.Common.{◌≡◌, ◌≤◌, List, [], ◌∷◌, Bool, true, false, true≢false, Option, Some, None, inl, inr, refl, sym, ◌∙◌, ap, subst, arith, if◌then◌else◌}
use Rattle.std.specs.Prelude.{codes}
use Rattle.kube_objects.specs.declared.key.Key.{Key}
use Rattle.kube_parts.specs.declared.parts.Kind.{Kind}
use Rattle.kube_parts.specs.declared.parts.Kind.TheVariants as kinds
use Rattle.kube_objects.specs.declared.objects.Object.{Object}
use Rattle.kube_objects.specs.declared.objects.Object.TheVariants.{Pod}
use Rattle.kube_objects.specs.declared.objects.Pod.{Pod as PodData}
use Rattle.kube_objects.specs.Keys.{key_of, row_at, same_key}
use Rattle.call_types.specs.declared.entry.Entry.{Entry}
use Rattle.call_types.specs.declared.request.Request.{Request}
use Rattle.call_types.specs.declared.request.Request.TheVariants as requests
use Rattle.call_types.specs.declared.request.SeatKind.TheVariants as seats
use Rattle.call_types.specs.declared.reply.MountRow.{MountRow}
use Rattle.binder_model.specs.Told.{newest, object_of}
use Rattle.informer_cache.proofs.Found.{row_at-put}
use Rattle.model_laws.proofs.Lists.{none_some}
use Rattle.model_examples.specs.AgentRows.{elsewhere_pod, mounted, row_of}
use Rattle.model_examples.specs.Samples.{Exchange, ending_p, entry_of, finds_none, key_c, key_p, node_1, p, seat_of, takes, tells_pod, uid_p, waiting_p}
use Rattle.node_agent.specs.declared.agent.AgentOp.{AgentOp}
use Rattle.node_agent.specs.declared.step.AgentStep.TheVariants as steps
use Rattle.node_agent.specs.Agents.{agent_begins, agent_call, at_start}
use Rattle.worker_core.specs.declared.role.Role.{Role}
use Rattle.worker_core.specs.declared.task.First.{First}
use Rattle.worker_core.specs.declared.task.First.TheVariants as firsts
use Rattle.worker_core.specs.declared.task.Task.TheVariants as tasks
use Rattle.worker_core.specs.declared.task.Under.{Under}
use Rattle.worker_core.specs.declared.turn.Outcome.{Outcome}
use Rattle.worker_core.specs.Memories.{Memory, memory_of}
use Rattle.worker_core.specs.Stands.{StartsSo}
use Rattle.worker_core.specs.States.{ActorState}
use Rattle.worker_core.specs.Tasks.{GivesCall, IsAgentFirst, IsDecision, agent_first}
use Rattle.worker_core.proofs.Begins.{begins}
use Rattle.worker_core.proofs.KeyMoves.{is_key}
use Rattle.attention_law.specs.Diligence.{AreFourWatches, Call, IsAskedFor, IsDiligent, IsKeyDue, IsQuiet, Shows, WasAskedSince, entries, watches}
use Rattle.attention_law.specs.Played.{Begins, PlaysCall, IsPlayed, LostAfter, LostBefore, Told, Wakes}
use Rattle.attention_law.specs.Showing.{IsDiligentInOrder, IsDueInOrder}
use Rattle.attention_law.proofs.Dues.{asked_no_watch}
use Rattle.attention_law.proofs.Following.{played_is_diligent, same_role, stands_now}
use Rattle.attention_law.proofs.Ordered.{rows_in_order}
use Rattle.attention_law.proofs.Turned.{calls_fresh}
use Rattle.machine_examples.proofs.Life.Computed.{NeverDue, diligent_where_none, listed_object}
use Rattle.machine_examples.proofs.Life.Counted.{head_in, read_in_time, tail_in}
use Rattle.machine_examples.proofs.Life.Protected.{is_binder, not_due}
use Rattle.machine_examples.specs.Life.Agents.{AgentDueExamples, AgentLifeExamples, AgentPlayedExamples, agent, agent_calls, pod_called_for, pod_left, started, watch_of_pods}

-- the rows of one told pod

shown_pod : (q : PodData) (key : Key) → row_at key (Pod q ∷ []) ≡ object_of (newest (seat_of seats.Agent (tells_pod q ∷ [])) key)
shown_pod q key = by key.kind
  where
    by : (k : Kind) → row_at (record key { kind = k }) (Pod q ∷ []) ≡ object_of (newest (seat_of seats.Agent (tells_pod q ∷ [])) (record key { kind = k }))
    by kinds.StorageClass = refl
    by kinds.Node = refl
    by kinds.PersistentVolume = refl
    by kinds.PersistentVolumeClaim = refl
    by kinds.Pod = sym (listed_object q.meta.version (row_at (record key { kind = kinds.Pod }) (Pod q ∷ [])))

-- a node that was taken, whose mounts were told, and one pod
module _ (q : PodData) (rows : List MountRow) (mine : List Entry) (took : (memory_of agent mine).epoch ≡ Some 1) (told : (memory_of agent mine).mounts ≡ Some rows)
    (shown : (key : Key) → row_at key (Pod q ∷ []) ≡ object_of (newest mine key)) where
  showing : Shows mine (Pod q ∷ [])
  showing = record { order = (tt, tt); shown = shown }

  decided : (key : Key) (row : Option Object) (first : First) → row_at key (Pod q ∷ []) ≡ row → first ≡ agent_first (agent_begins node_1 1 rows row)
      → IsDecision agent (memory_of agent mine) (Pod q ∷ []) key first
  decided key row first there is =
      subst (λ epoch. IsAgentFirst node_1 epoch (memory_of agent mine).mounts (row_at key (Pod q ∷ [])) first) (sym took)
      (subst (λ mounts. IsAgentFirst node_1 (Some 1) mounts (row_at key (Pod q ∷ [])) first) (sym told)
      (subst (λ r. IsAgentFirst node_1 (Some 1) (Some rows) r first) (sym there) is))

  -- the machine that begins on it
  module _ (op : AgentOp) (call : Request) (begun : agent_begins node_1 1 rows (row_at key_p (Pod q ∷ [])) ≡ Some op) (asks : agent_call op ≡ Some call) where
    abbrev under : Under
    under = record { key = key_p; task = tasks.Agent op; call = call }

    gives : GivesCall agent (memory_of agent mine) (Pod q ∷ []) under
    gives = record { decided = decided key_p (row_at key_p (Pod q ∷ [])) (firsts.Begins (tasks.Agent op)) refl (ap agent_first (sym begun)); call = asks }

    pod_in_order : IsDueInOrder agent key_p mine
    pod_in_order = record {
      rows = Pod q ∷ [];
      shows = showing;
      spaceless = λ is. absurd (true≢false (sym (ap is_binder is)));
      under = under;
      own = refl;
      gives = gives;
    }

    pod_due : IsKeyDue agent key_p mine
    pod_due = rows_in_order agent key_p mine tt pod_in_order

    pod_asked : IsAskedFor agent key_p mine call
    pod_asked = record { rows = Pod q ∷ []; shows = showing; under = under; own = refl; gives = gives; call = refl }

  -- no other key has a row
  row_of_key : (key : Key) (b : Bool) → same_key (key_of (Pod q)) key ≡ b → row_at key (Pod q ∷ []) ≡ (if b then Some (Pod q) else None)
  row_of_key key b e = row_at-put (Pod q) [] key ∙ ap (λ x. if x then Some (Pod q) else None) e

  other_drops : (key : Key) → same_key (key_of (Pod q)) key ≡ false → IsKeyDue agent key mine → ⊥
  other_drops key other = not_due agent key mine (Pod q ∷ []) showing (decided key None firsts.Drops (row_of_key key false other) refl)

  due_is_its_key : (key : Key) → IsKeyDue agent key mine → key_of (Pod q) ≡ key
  due_is_its_key key due = by (same_key (key_of (Pod q)) key) refl
    where
      by : (b : Bool) → same_key (key_of (Pod q)) key ≡ b → key_of (Pod q) ≡ key
      by true e = is_key (key_of (Pod q)) key e
      by false e = absurd (other_drops key e due)

  -- where nothing begins on the pod, nothing is due
  none_due : agent_begins node_1 1 rows (Some (Pod q)) ≡ None → (key : Key) → IsKeyDue agent key mine → ⊥
  none_due none key = by (same_key (key_of (Pod q)) key) refl
    where
      by : (b : Bool) → same_key (key_of (Pod q)) key ≡ b → IsKeyDue agent key mine → ⊥
      by true e = not_due agent key mine (Pod q ∷ []) showing (decided key (Some (Pod q)) firsts.Drops (row_of_key key true e) (ap agent_first (sym none)))
      by false e = other_drops key e

-- the machine that reads the claim of the pod, and the one that unmounts the pod that is to go
reads_claim : AgentOp
reads_claim = at_start node_1 1 p uid_p (steps.ReadsClaim (codes "c"))

unmounts : AgentOp
unmounts = at_start node_1 1 ending_p uid_p steps.Unmounts

module _ (mine : List Entry) (took : (memory_of agent mine).epoch ≡ Some 1) (told : (memory_of agent mine).mounts ≡ Some [])
    (shown : (key : Key) → row_at key (Pod p ∷ []) ≡ object_of (newest mine key)) where
  p_in_order : IsDueInOrder agent key_p mine
  unfolding agent_call reads_claim
  p_in_order = pod_in_order p [] mine took told shown reads_claim (requests.Get key_c) refl refl

  p_due : IsKeyDue agent key_p mine
  unfolding agent_call reads_claim
  p_due = pod_due p [] mine took told shown reads_claim (requests.Get key_c) refl refl

  p_asked : IsAskedFor agent key_p mine (requests.Get key_c)
  unfolding agent_call reads_claim
  p_asked = pod_asked p [] mine took told shown reads_claim (requests.Get key_c) refl refl

pub due_examples : AgentDueExamples
unfolding agent_call unmounts
due_examples = record {
  pod_to_be_mounted = p_due _ refl refl (shown_pod p);
  still_once_its_claim_was_not_found = p_due _ refl refl (shown_pod p);
  leaving_pod = pod_due ending_p (row_of uid_p ∷ []) _ refl refl (shown_pod ending_p) unmounts (requests.Unmount node_1 1 uid_p) refl refl;
  not_a_mounted_pod = none_due p (row_of uid_p ∷ []) _ refl refl (shown_pod p) refl key_p;
  not_a_pod_without_a_node = none_due waiting_p [] _ refl refl (shown_pod waiting_p) refl key_p;
  not_a_leaving_pod_of_another_node = none_due elsewhere_pod [] _ refl refl (shown_pod elsewhere_pod) refl key_p;
  not_another_key = other_drops p [] _ refl refl (shown_pod p) key_c refl;
  not_before_the_mounts_were_told = λ due. due.gives.decided;
  not_once_the_node_was_taken_anew = λ due. due.gives.decided;
}

-- the life that reads the claim

-- the calls before the read that came before the fourth watch
abbrev before_read : List Call
before_read = agent_calls (watch_of_pods ∷ finds_none key_c ∷ watch_of_pods ∷ watch_of_pods ∷ finds_none key_c ∷ tells_pod p ∷ started [])

few_before : (kind : Kind) → watches kind (Some (entry_of seats.Agent (finds_none key_c)) ∷ before_read) ≤ 3
few_before kinds.Pod = omega arith
few_before kinds.StorageClass = omega arith
few_before kinds.Node = omega arith
few_before kinds.PersistentVolume = omega arith
few_before kinds.PersistentVolumeClaim = omega arith

-- a key that is due before the read is that of the pod, and the read is a call for it
reads_its_claim : (key : Key) → IsKeyDue agent key (entries before_read) → IsAskedFor agent key (entries before_read) (requests.Get key_c)
reads_its_claim key due = subst (λ k. IsAskedFor agent k (entries before_read) (requests.Get key_c)) (due_is_its_key p [] (entries before_read) refl
    refl (shown_pod p) key due) (p_asked (entries before_read) refl refl (shown_pod p))

reading_is_diligent : IsDiligent agent (agent_calls pod_called_for)
reading_is_diligent = read_in_time agent (entry_of seats.Agent watch_of_pods) (entry_of seats.Agent (finds_none key_c)) before_read few_before reads_its_claim

-- the lives in which nothing is read

watches_none : (mine : List Entry) → IsAskedFor agent key_p mine watch_of_pods.request → ⊥
watches_none mine = asked_no_watch agent key_p mine kinds.Pod 9

abbrev told_pod : List Exchange
told_pod = tells_pod p ∷ started []

four_watches : AreFourWatches kinds.Pod (entry_of seats.Agent watch_of_pods) (entry_of seats.Agent watch_of_pods) (agent_calls (watch_of_pods ∷ watch_of_pods ∷ []))
four_watches = record { opens = refl; closes = refl; many = omega arith; quiet = (ok, (ok, (ok, (ok, tt)))) }
  where
    ok : IsQuiet (entry_of seats.Agent watch_of_pods)
    ok = record { told = refl; reads = refl; no_news = refl }

none_asked : WasAskedSince agent key_p (agent_calls (watch_of_pods ∷ told_pod)) (agent_calls (watch_of_pods ∷ watch_of_pods ∷ [])) → ⊥
none_asked (inl asked) = watches_none _ asked
none_asked (inr (inl asked)) = watches_none _ asked
none_asked (inr (inr h)) = h

left : IsDiligent agent (agent_calls (pod_left [])) → ⊥
left diligent = none_asked (diligent kinds.Pod (entry_of seats.Agent watch_of_pods) (entry_of seats.Agent watch_of_pods) (agent_calls told_pod)
    (agent_calls (watch_of_pods ∷ watch_of_pods ∷ [])) [] refl four_watches key_p
    (p_due _ refl refl (shown_pod p), (p_due _ refl refl (shown_pod p), p_due _ refl refl (shown_pod p))))

left_in_order : IsDiligentInOrder agent (agent_calls (pod_left [])) → ⊥
left_in_order diligent = none_asked (diligent kinds.Pod (entry_of seats.Agent watch_of_pods) (entry_of seats.Agent watch_of_pods)
    (agent_calls told_pod) (agent_calls (watch_of_pods ∷ watch_of_pods ∷ [])) [] refl four_watches key_p
    (p_in_order _ refl refl (shown_pod p), (p_in_order _ refl refl (shown_pod p), p_in_order _ refl refl (shown_pod p))))

pub life_examples : AgentLifeExamples
life_examples = record {
  its_claim_is_read = reading_is_diligent;
  nothing_is_due_of_a_mounted_pod = diligent_where_none agent _ nothing;
  not_where_its_claim_is_not_read = left;
  nor_in_order = left_in_order;
}
  where
    mounted_none : (mine : List Entry) → (memory_of agent mine).epoch ≡ Some 1 → (memory_of agent mine).mounts ≡ Some (row_of uid_p ∷ [])
        → ((key : Key) → row_at key (Pod p ∷ []) ≡ object_of (newest mine key)) → (key : Key) → IsKeyDue agent key mine → ⊥
    mounted_none mine took told shown = none_due p (row_of uid_p ∷ []) mine took told shown refl

    now : (key : Key) → row_at key (Pod p ∷ []) ≡ object_of (newest (seat_of seats.Agent (tells_pod p ∷ [])) key)
    now = shown_pod p

    no_pod : (key : Key) → IsKeyDue agent key (seat_of seats.Agent (mounted node_1 1 (row_of uid_p ∷ []) ∷ takes node_1 1 ∷ [])) → ⊥
    no_pod key = not_due agent key _ [] (record { order = tt; shown = λ k. refl }) refl

    nothing : NeverDue agent (agent_calls (pod_left (row_of uid_p ∷ [])))
    nothing = (
      mounted_none _ refl refl now,
      (
        mounted_none _ refl refl now,
        (
          mounted_none _ refl refl now,
          (mounted_none _ refl refl now, (mounted_none _ refl refl now, (no_pod, ((λ key due. due.gives.decided), (λ key due. due.gives.decided))))),
        ),
      ),
    )

-- no call of a life comes after an answer StaleEpoch

module _ (role : Role) where
  abbrev stale_in : Memory → Bool
  stale_in m = m.stale

  fresh_then : (s new : ActorState) (calls : List Call) (request : Request) (outcome : Outcome) → IsPlayed role s calls
      → PlaysCall s new request outcome (entries calls) → (memory_of role (entries calls)).stale ≡ false
  fresh_then s new calls request outcome played gives =
      let own : memory_of s.role (entries calls) ≡ memory_of role (entries calls) = ap (λ r. memory_of r (entries calls)) (same_role role s calls played) in
      ap stale_in (sym ((stands_now role s calls played).memory ∙ own)) ∙ calls_fresh s gives.turned request gives.turns.turn

  fresh_before : (s : ActorState) (calls : List Call) → IsPlayed role s calls → (c : Call) (before : List Call) → calls ≡ c ∷ before → (memory_of role (entries before)).stale ≡ false
  fresh_before s calls (Begins none new stands) c before e = none_some (ap head_in (sym none ∙ e))
  fresh_before s calls (Told old b x request reply played is told gives stands) c before e =
      subst (λ y. (memory_of role (entries y)).stale ≡ false) (ap tail_in (sym is ∙ e)) (fresh_then old s b request _ played gives)
  fresh_before s calls (LostBefore old b request played is gives stands) c before e =
      subst (λ y. (memory_of role (entries y)).stale ≡ false) (ap tail_in (sym is ∙ e)) (fresh_then old s b request _ played gives)
  fresh_before s calls (LostAfter old b x request played is lost own gives stands) c before e =
      subst (λ y. (memory_of role (entries y)).stale ≡ false) (ap tail_in (sym is ∙ e)) (fresh_then old s b request _ played gives)
  fresh_before s calls (Wakes old turned played turns wakes stands) c before e = fresh_before old calls played c before e

pub played_examples : AgentPlayedExamples
played_examples = record {
  a_new_life = λ s new. Begins refl new (begins agent s new);
  not_with_a_list_before_its_node = λ s played. true≢false (sym (takes_first s (agent_calls (tells_pod p ∷ [])) played).0);
  not_with_a_call_after_a_stale_epoch = λ s played. true≢false (fresh_before agent s _ played _ _ refl);
  not_where_a_pod_is_left = λ s played. left (played_is_diligent agent s (agent_calls (pod_left [])) tt played);
}
  where
    takes_first : (s : ActorState) (calls : List Call) → IsPlayed agent s calls → StartsSo seats.Agent node_1 (entries calls)
    takes_first s calls played = subst (λ (r : Role). StartsSo r.kind r.node (entries calls)) (same_role agent s calls played) (stands_now agent s calls played).start
