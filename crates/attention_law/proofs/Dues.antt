-- A key that is due has a row, and no decision drops it; and the rules give no watch.
use Rattle.std.proofs.Common.{◌≡◌, ◌⊎◌, ℕ, List, [], true, true≢false, Option, Some, None, inl, inr, refl, sym, ◌∙◌, ap, subst}
use Rattle.std.specs.Prelude.{map, option_map}
use Rattle.std.specs.List.{list_any}
use Rattle.kube_objects.specs.declared.key.Key.{Key}
use Rattle.kube_parts.specs.declared.parts.Kind.{Kind}
use Rattle.kube_objects.specs.declared.objects.Object.{Object}
use Rattle.kube_objects.specs.declared.objects.Object.TheVariants.{Class, Node, Volume, Claim, Pod}
use Rattle.kube_objects.specs.Keys.{AreRows, key_of, kind_of, row_at, same_key}
use Rattle.kube_objects.proofs.KeyOrder.{row_at_key}
use Rattle.call_types.specs.declared.entry.Entry.{Entry}
use Rattle.call_types.specs.declared.request.Request.{Request}
use Rattle.call_types.specs.declared.request.Request.TheVariants as requests
use Rattle.call_types.specs.declared.request.SeatKind.{SeatKind}
use Rattle.call_types.specs.declared.request.SeatKind.TheVariants as seats
use Rattle.call_types.specs.declared.reply.MountRow.{MountRow}
use Rattle.call_types.specs.Kinds.{reads_kind}
use Rattle.informer_cache.specs.Cache.{objects_of}
use Rattle.informer_cache.specs.All.{AllKnown, AllStandFor, all_objects, cache_of}
use Rattle.model_laws.proofs.Lists.{IsIn, none_some, one}
use Rattle.node_agent.specs.Agents.{agent_begins}
use Rattle.worker_core.specs.declared.role.Role.{Role}
use Rattle.worker_core.specs.declared.task.First.{First}
use Rattle.worker_core.specs.declared.task.First.TheVariants as firsts
use Rattle.worker_core.specs.declared.task.Task.{Task}
use Rattle.worker_core.specs.declared.task.Under.{Under}
use Rattle.worker_core.specs.declared.turn.Next.{Next}
use Rattle.worker_core.specs.declared.turn.Next.TheVariants as nexts
use Rattle.worker_core.specs.Memories.{Memory, memory_of}
use Rattle.worker_core.specs.Roles.{IsBuiltKind, kinds_of}
use Rattle.worker_core.specs.Rules.{WasCalled, WasDropped}
use Rattle.worker_core.specs.Stands.{AnyIsUnderWay, StandsFor}
use Rattle.worker_core.specs.States.{ActorState, call_under}
use Rattle.worker_core.specs.Tasks.{GivesCall, IsAgentFirst, IsDecision, IsFirstOf, agent_first, task_call}
use Rattle.worker_core.proofs.Machines.{task_reads_none, under_calls}
use Rattle.worker_core.proofs.Quiet.{itself}
use Rattle.attention_law.specs.Diligence.{BeginsCall, IsAskedFor, IsKeyDue, Shows}

abbrev task_in : First → Option Task
task_in (firsts.Begins task) = Some task
task_in first = None

-- to drop a key is not to begin a call
no_drop : BeginsCall firsts.Drops → ⊥
no_drop b = none_some (ap task_in b.begins)

-- an agent that has what its decisions need drops a key on whose row it begins nothing
agent_drops : (node : List ℕ) (epoch : Option ℕ) (mounts : Option (List MountRow)) (row other : Option Object) (first : First)
    → IsAgentFirst node epoch mounts row first → ((n : ℕ) (ms : List MountRow) → agent_begins node n ms other ≡ None)
    → IsAgentFirst node epoch mounts other firsts.Drops
agent_drops node (Some n) (Some ms) row other first d none = sym (ap agent_first (none n ms))
agent_drops node (Some n) None row other first d none = absurd d
agent_drops node None mounts row other first d none = absurd d

-- an actor that decides some key
module _ (node : List ℕ) (m : Memory) (rows decided : List Object) (key other : Key) (first : First) where
  agent_none : (row : Option Object) → IsFirstOf seats.Agent node m decided other first → row_at key rows ≡ row
      → ((n : ℕ) (ms : List MountRow) → agent_begins node n ms row ≡ None) → IsFirstOf seats.Agent node m rows key firsts.Drops
  agent_none row d e none = subst (λ r. IsAgentFirst node m.epoch m.mounts r firsts.Drops) (sym e) (agent_drops node m.epoch m.mounts (row_at other decided) row first d none)

  -- without a row a key is dropped
  none_dropped : (seat : SeatKind) → IsBuiltKind seat → IsFirstOf seat node m decided other first → row_at key rows ≡ None → IsFirstOf seat node m rows key firsts.Drops
  none_dropped seats.Binder built d e = rw e refl
  none_dropped seats.ClaimProtect built d e = rw e refl
  none_dropped seats.VolumeProtect built d e = rw e refl
  none_dropped seats.Agent built d e = agent_none None d e (λ n ms. refl)
  none_dropped seats.Ops built d e = rw e refl
  none_dropped seats.User built d e = absurd built
  none_dropped seats.Scheduler built d e = rw e refl

  -- a row is of a kind that the actor follows, or its key is dropped
  followed_or_dropped : (seat : SeatKind) (o : Object) → IsBuiltKind seat → IsFirstOf seat node m decided other first → row_at key rows ≡ Some o
      → IsIn (kind_of o) (kinds_of seat) ⊎ IsFirstOf seat node m rows key firsts.Drops
  followed_or_dropped seats.Binder (Volume v) built d e = inl (inl refl)
  followed_or_dropped seats.Binder (Claim c) built d e = inl (inr (inl refl))
  followed_or_dropped seats.Binder (Class x) built d e = inr (rw e refl)
  followed_or_dropped seats.Binder (Node n) built d e = inr (rw e refl)
  followed_or_dropped seats.Binder (Pod p) built d e = inr (rw e refl)
  followed_or_dropped seats.ClaimProtect (Claim c) built d e = inl (inl refl)
  followed_or_dropped seats.ClaimProtect (Volume v) built d e = inr (rw e refl)
  followed_or_dropped seats.ClaimProtect (Class x) built d e = inr (rw e refl)
  followed_or_dropped seats.ClaimProtect (Node n) built d e = inr (rw e refl)
  followed_or_dropped seats.ClaimProtect (Pod p) built d e = inr (rw e refl)
  followed_or_dropped seats.VolumeProtect (Volume v) built d e = inl (inl refl)
  followed_or_dropped seats.VolumeProtect (Claim c) built d e = inr (rw e refl)
  followed_or_dropped seats.VolumeProtect (Class x) built d e = inr (rw e refl)
  followed_or_dropped seats.VolumeProtect (Node n) built d e = inr (rw e refl)
  followed_or_dropped seats.VolumeProtect (Pod p) built d e = inr (rw e refl)
  followed_or_dropped seats.Agent (Pod p) built d e = inl (inl refl)
  followed_or_dropped seats.Agent (Volume v) built d e = inr (agent_none (Some (Volume v)) d e (λ n ms. refl))
  followed_or_dropped seats.Agent (Claim c) built d e = inr (agent_none (Some (Claim c)) d e (λ n ms. refl))
  followed_or_dropped seats.Agent (Class x) built d e = inr (agent_none (Some (Class x)) d e (λ n ms. refl))
  followed_or_dropped seats.Agent (Node n) built d e = inr (agent_none (Some (Node n)) d e (λ n ms. refl))
  followed_or_dropped seats.Ops (Volume v) built d e = inl (inl refl)
  followed_or_dropped seats.Ops (Claim c) built d e = inl (inr (inl refl))
  followed_or_dropped seats.Ops (Class x) built d e = inr (rw e refl)
  followed_or_dropped seats.Ops (Node n) built d e = inr (rw e refl)
  followed_or_dropped seats.Ops (Pod p) built d e = inr (rw e refl)
  followed_or_dropped seats.User o built d e = absurd built
  followed_or_dropped seats.Scheduler (Volume v) built d e = inl (inl refl)
  followed_or_dropped seats.Scheduler (Claim c) built d e = inl (inr (inl refl))
  followed_or_dropped seats.Scheduler (Class x) built d e = inl (inr (inr (inl refl)))
  followed_or_dropped seats.Scheduler (Node n) built d e = inl (inr (inr (inr (inl refl))))
  followed_or_dropped seats.Scheduler (Pod p) built d e = inl (inr (inr (inr (inr (inl refl)))))

-- a key that is due has a row of a kind that the actor follows
pub record IsCached (seat : SeatKind) (key : Key) (c : AllKnown) : Type 0 where
  pub followed : IsIn key.kind (kinds_of seat)
  pub there : list_any (same_key key) (map key_of (objects_of (cache_of key.kind c))) ≡ true

module _ (role : Role) (mine : List Entry) (key : Key) (built : IsBuiltKind role.kind) (due : IsKeyDue role key mine) where
  pub due_cached : (c : AllKnown) → AllStandFor c mine → AreRows (all_objects c)
      → ((k : Key) (o : Object) → row_at k (objects_of (cache_of k.kind c)) ≡ Some o → list_any (same_key k) (map key_of (objects_of (cache_of k.kind c))) ≡ true) → IsCached role.kind key c
  due_cached c stand order there = by (row_at key (all_objects c)) refl
    where
      cached : (o : Object) → row_at key (all_objects c) ≡ Some o → list_any (same_key key) (map key_of (objects_of (cache_of key.kind c))) ≡ true
      cached o e = there key o ((stand.each key.kind).rows key (sym (stand.kinds key.kind)) ∙ sym (stand.rows key) ∙ e)

      own_kind : (o : Object) → row_at key (all_objects c) ≡ Some o → kind_of o ≡ key.kind
      own_kind o e = ap (λ (k : Key). k.kind) (row_at_key key o (all_objects c) e)

      drops : IsFirstOf role.kind role.node (memory_of role mine) (all_objects c) key firsts.Drops → ⊥
      drops d = no_drop (due.only (all_objects c) (record { order = order; shown = stand.rows }) firsts.Drops d)

      by : (row : Option Object) → row_at key (all_objects c) ≡ row → IsCached role.kind key c
      by None e = absurd (drops (none_dropped role.node (memory_of role mine) (all_objects c) due.rows key due.under.key (firsts.Begins due.under.task) role.kind built due.gives.decided e))
      by (Some o) e = elim (followed_or_dropped role.node (memory_of role mine) (all_objects c) due.rows key due.under.key (firsts.Begins due.under.task) role.kind o built due.gives.decided e) [
        | inl follows ↦ record { followed = subst (λ k. IsIn k (kinds_of role.kind)) (own_kind o e) follows; there = cached o e }
        | inr d ↦ absurd (drops d)
      ]

-- before anything was told nothing is due
pub never_due : (role : Role) (key : Key) → IsBuiltKind role.kind → IsKeyDue role key [] → ⊥
never_due role key built due = no_drop (due.only due.rows due.shows firsts.Drops
    (none_dropped role.node (memory_of role []) due.rows due.rows key due.under.key (firsts.Begins due.under.task) role.kind built due.gives.decided (due.shows.shown key)))

-- in an actor that stands for the entries

module _ (s : ActorState) (mine : List Entry) (key : Key) (stands : StandsFor s mine) (order : AreRows (all_objects s.caches)) where
  shows : Shows mine (all_objects s.caches)
  shows = record { order = order; shown = stands.caches.rows }

  pub not_dropped : IsKeyDue s.role key mine → WasDropped s key → ⊥
  not_dropped due dropped =
      let b = due.only (all_objects s.caches) shows dropped.first (subst (λ m. IsDecision s.role m (all_objects s.caches) key dropped.first) stands.memory dropped.none.decided) in
      none_some (sym (dropped.none.none b.task b.begins) ∙ b.call)

  pub was_asked : (request : Request) → WasCalled s (nexts.Call request) key → IsAskedFor s.role key mine request
  was_asked request called = record {
    rows = all_objects s.caches;
    shows = shows;
    under = called.under;
    own = called.own;
    gives = subst (λ m. GivesCall s.role m (all_objects s.caches) called.under) stands.memory called.decided;
    call = asked called.call;
  }
    where
      asked : nexts.Call request ≡ nexts.Call called.under.call → request ≡ called.under.call
      asked e = one _ _ (ap call_of e)
        where
          call_of : Next → Option Request
          call_of (nexts.Call r) = Some r
          call_of nexts.Idle = None

-- no machine watches

task_watches : (t : Task) (kind : Kind) (from : ℕ) → task_call t ≡ Some (requests.Watch kind from) → ⊥
task_watches t kind from e = true≢false (sym (itself kind) ∙ task_reads_none t (requests.Watch kind from) kind e)

-- nor do they list or watch a whole kind
pub asked_no_read : (role : Role) (key : Key) (mine : List Entry) (request : Request) (kind : Kind) → reads_kind kind request ≡ true → IsAskedFor role key mine request → ⊥
asked_no_read role key mine request kind reads a = true≢false (sym reads ∙ task_reads_none a.under.task request kind (a.gives.call ∙ ap Some (sym a.call)))

pub asked_no_watch : (role : Role) (key : Key) (mine : List Entry) (kind : Kind) (from : ℕ) → IsAskedFor role key mine (requests.Watch kind from) → ⊥
asked_no_watch role key mine kind from a = asked_no_read role key mine (requests.Watch kind from) kind (itself kind) a

pub under_no_watch : (role : Role) (under : Option Under) (mine : List Entry) (kind : Kind) (from : ℕ) → AnyIsUnderWay role under mine
    → option_map call_under under ≡ Some (requests.Watch kind from) → ⊥
under_no_watch role None mine kind from way e = none_some e
under_no_watch role (Some u) mine kind from way e = task_watches u.task kind from (under_calls role u mine way ∙ e)
