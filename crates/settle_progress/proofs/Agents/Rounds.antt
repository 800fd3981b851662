-- A round with an agent for which something is due has an entry that lasts.
use Rattle.std.proofs.Common.{◌≡◌, ◌∙◌, ℕ, zero, suc, ◌-◌, List, [], ◌∷◌, ◌++◌, append_assoc, Bool, true, false, Some, inr, refl, sym, ap, subst}
use Rattle.std.specs.Prelude.{slice_get, ⊤}
use Rattle.kube_objects.specs.declared.key.Key.{Key}
use Rattle.kube_objects.specs.declared.objects.Object.{Object}
use Rattle.kube_objects.specs.Keys.{row_at}
use Rattle.call_types.specs.declared.entry.Entry.{Entry}
use Rattle.call_types.specs.declared.reply.Reply.{Reply}
use Rattle.call_types.specs.declared.request.Request.{Request}
use Rattle.call_types.specs.declared.request.SeatKind.TheVariants as seats
use Rattle.call_types.specs.declared.setup.Setup.{Setup}
use Rattle.binder_model.specs.Promises.{IsRunOf}
use Rattle.binder_model.specs.Reading.{follows}
use Rattle.binder_model.specs.World.{IsHistory, world}
use Rattle.model_laws.proofs.Growing.{runs_are_histories}
use Rattle.model_laws.proofs.Lists.{none_some, one}
use Rattle.worker_core.specs.declared.role.Role.{Role}
use Rattle.worker_core.specs.Absorbs.{woken}
use Rattle.worker_core.specs.Roles.{IsBuiltKind}
use Rattle.worker_core.specs.States.{ActorState}
use Rattle.actor_rounds.specs.declared.drainers.Drainer.{Drainer}
use Rattle.actor_rounds.specs.Drainers.{agent_of, roles_of}
use Rattle.actor_rounds.specs.Longer.{GrowsWithin}
use Rattle.actor_rounds.specs.Rounds.{IsRound, Lets, Runs, told_entry}
use Rattle.actor_rounds.proofs.RoundFacts.{AreBuilt, roles_built, round_grows}
use Rattle.actor_rounds.proofs.RunFacts.{run_grows}
use Rattle.settle_writes.specs.Writes.Lasting.{HasLasting}
use Rattle.settle_alike.specs.Alike.Alike.{AreAlike}
use Rattle.settle_slot.specs.Slot.Would.{CallsPass}
use Rattle.settle_slot.proofs.Slot.Slots.{last_kept}
use Rattle.settle_slot.proofs.Slot.Would.{will_last}
use Rattle.settle_progress.proofs.Wakes.Decided.{keys_kept}
use Rattle.settle_progress.proofs.Wakes.Wakes.{LastsWhereWaiting, StaysKept}
use Rattle.settle_progress.proofs.Rounds.Rounds.{rounds_kept}
use Rattle.settle_progress.specs.Agents.Acts.{AgentWouldActOn, IsHolding}
use Rattle.settle_progress.specs.Agents.Rounds.{AgentRoundsLast, HasAgent}
use Rattle.settle_progress.proofs.Epochs.Awake.{run_awake}
use Rattle.settle_progress.specs.Epochs.Epochs.{IsCurrent, TakesNoMore}
use Rattle.settle_progress.proofs.Epochs.Epochs.{entry_stays, run_stays, takes_none_later}
use Rattle.settle_progress.proofs.Epochs.Silent.{older_run}
use Rattle.settle_progress.proofs.Agents.First.{IsFirstAwake, first_awake}

-- the entries are those of the start and more
record HasMore (start h : List Entry) : Type 0 where
  newer : List Entry
  are : h ≡ newer ++ start

module _ (setup : Setup) (lets : Lets) (start : List Entry) (d : Drainer) (node : List ℕ) (role : d.actor.role ≡ agent_of node) (key : Key)
    (o : Object) (there : row_at key (world setup start).store.rows ≡ Some o) (followed : follows seats.Agent key.kind ≡ true)
    (would : AgentWouldActOn setup d.seat (agent_of node) start key) (passes : CallsPass setup lets d.seat (agent_of node) start key) (past : List Entry) (run : IsRunOf setup past) where
  -- an own call keeps that the agent holds its node
  stays : (s given : ActorState) (request : Request) (reply : Reply) (h newer : List Entry)
      → past ≡ newer ++ (told_entry d.seat given request reply ∷ h) → IsHolding setup h node d.seat → IsHolding setup (told_entry d.seat given request reply ∷ h) node d.seat
  stays s given request reply h newer are holding =
      let whole : IsRunOf setup (told_entry d.seat given request reply ∷ h) = older_run setup newer _ (subst (IsRunOf setup) are run) in
      record { run = whole; current = entry_stays setup (told_entry d.seat given request reply) h d.seat node whole.run.1 holding.current (λ takes. (refl, refl)) }

  -- so does the slot of another, where it takes the node no more
  passed : (other : Drainer) (ran : ActorState) (h middle newer : List Entry) (lower rest : ℕ) (idle : Bool) → IsBuiltKind other.actor.role.kind
      × (other.actor.role ≡ agent_of node → TakesNoMore node other.seat other.actor start)
      → Runs lets other.seat ran middle rest idle (woken other.actor) h lower → past ≡ newer ++ middle → IsHolding setup h node d.seat
      × HasMore start h → IsHolding setup middle node d.seat × HasMore start middle
  passed other ran h middle newer lower rest idle is runs are kept = (record { run = whole; current = current }, record { newer = slot.longer.added ++ kept.1.newer; are = more })
    where
      whole : IsRunOf setup middle
      whole = older_run setup newer middle (subst (IsRunOf setup) are run)

      slot : GrowsWithin (other.seat ∷ []) (lower - rest) h middle
      slot = run_grows lets other.seat ran middle rest idle (woken other.actor) h lower runs

      more : middle ≡ (slot.longer.added ++ kept.1.newer) ++ start
      more = slot.longer.are ∙ (ap (λ es. slot.longer.added ++ es) kept.1.are ∙ sym (append_assoc slot.longer.added kept.1.newer start))

      takes_none : other.actor.role ≡ agent_of node → TakesNoMore node other.seat (woken other.actor) h
      takes_none same = subst (TakesNoMore node other.seat (woken other.actor)) (sym kept.1.are) (takes_none_later node other.seat (woken other.actor) kept.1.newer start (is.1 same))

      current : IsCurrent setup middle node d.seat
      current = run_stays setup lets other.seat d.seat node ran middle rest idle (runs_are_histories setup middle whole.run)
          (woken other.actor) h lower runs is.0 (λ same. inr (takes_none same)) kept.0.current

  acts : AgentWouldActOn setup d.seat d.actor.role start key
  acts = subst (λ r. AgentWouldActOn setup d.seat r start key) (sym role) would

  passes_on : CallsPass setup lets d.seat d.actor.role start key
  passes_on = subst (λ r. CallsPass setup lets d.seat r start key) (sym role) passes

  on : (h : List Entry) → IsHolding setup h node d.seat → IsHolding setup h d.actor.role.node d.seat
  on h holding = subst (λ n. IsHolding setup h n d.seat) (ap (λ (r : Role). r.node) (sym role)) holding

  -- in its slot it decides the key
  decided : (ran : Drainer) (h middle newer : List Entry) (b rest : ℕ) → d.actor.memory.stale ≡ false → past ≡ newer ++ middle
      → AreAlike (world setup start) (world setup h) → IsHolding setup h node d.seat → Runs lets d.seat ran.actor middle rest true (woken d.actor) h b → HasLasting setup h middle
  decided ran h middle newer b rest fresh are alike holding runs =
      keys_kept setup lets d.seat start key o d.actor ran.actor h middle b rest
      (λ x. IsHolding setup x node d.seat) keeps waiting_last built before alike runs awake (ap (λ (r : Role). follows r.kind key.kind) role ∙ followed) there holding
    where
      whole : IsRunOf setup middle
      whole = older_run setup newer middle (subst (IsRunOf setup) are run)

      before : IsHistory setup middle
      before = runs_are_histories setup middle whole.run

      awake : ran.actor.memory.stale ≡ false
      awake = run_awake setup lets d.seat node ran.actor middle rest true before (woken d.actor) h b runs role holding.current fresh

      built : IsBuiltKind d.actor.role.kind
      built = subst (λ (r : Role). IsBuiltKind r.kind) (sym role) tt

      keeps : StaysKept d.seat d.actor.role middle (λ x. IsHolding setup x node d.seat)
      keeps s given request reply x more is ready turn parts k =
          stays s given request reply x (newer ++ more) (are ∙ (ap (λ es. newer ++ es) parts ∙ sym (append_assoc newer more (told_entry d.seat given request reply ∷ x)))) k

      waiting_last : LastsWhereWaiting setup lets d.seat d.actor.role start key ran.actor middle rest (λ x. IsHolding setup x node d.seat)
      waiting_last =
          last_kept setup lets d.seat d.actor.role start key (λ x. IsHolding setup x node d.seat)
          (λ s x u p k own_key gives. will_last setup lets d.seat d.actor.role.kind start x u
          (λ g v leads same. passes_on s x g u v p own_key gives leads same) (acts.lasts s x u p (on x k) own_key gives))
          (λ s x first p k none. acts.acts s x first p (on x k) none) built ran.actor middle rest before awake keeps

-- the kind of each is built
built_at : (ds : List Drainer) (i : ℕ) (d : Drainer) → AreBuilt (roles_of ds) → slice_get ds i ≡ Some d → IsBuiltKind d.actor.role.kind
built_at [] i d built at = none_some at
built_at (x ∷ xs) zero d built at = subst (λ (y : Drainer). IsBuiltKind y.actor.role.kind) (one x d at) built.0
built_at (x ∷ xs) (suc i) d built at = built_at xs i d built.1 at

-- so a whole round of actors that were built has an entry that lasts where such an agent is among them
pub built_rounds_last : (setup : Setup) (lets : Lets) (ds after : List Drainer) (h past : List Entry) (b left : ℕ) → IsRunOf setup past
    → AreBuilt (roles_of ds) → IsRound lets past left ds h b after true → HasAgent setup lets ds h → HasLasting setup h past
built_rounds_last setup lets ds after h past b left run built round a =
    rounds_kept setup lets past left (runs_are_histories setup past run.run) h first.drainer
    (λ x. IsHolding setup x a.node first.drainer.seat × HasMore h x) (λ x. IsBuiltKind x.actor.role.kind × (x.actor.role ≡ agent_of a.node → TakesNoMore a.node x.seat x.actor h)) (λ x. ⊤)
    (λ other ran x middle newer n rest idle is runs are k. passed setup lets h first.drainer a.node first.role a.key a.object a.stands a.followed
    (a.acts first.drainer.seat) (a.passes first.drainer.seat) past run other ran x middle newer n rest idle is runs are k)
    (λ ran x middle newer n rest are alike k runs awake. decided setup lets h first.drainer a.node first.role a.key a.object a.stands a.followed
    (a.acts first.drainer.seat) (a.passes first.drainer.seat) past run ran x middle newer n rest first.awake.fresh are alike k.0 runs)
    ds h b after true round refl (record { rows = refl; stored = refl; mounts = refl })
    (record { run = start_run; current = first.awake.current }, record { newer = []; are = refl }) first.place first.there
    (λ i other lt at. (built_at ds i other built at, first.before i other lt at)) (λ x at. tt)
  where
    first : IsFirstAwake setup h a.node ds
    first = first_awake setup h a.node ds a.agent.place a.agent.drainer a.agent.there a.agent.role a.agent.awake

    start_run : IsRunOf setup h
    start_run = let g = round_grows lets past left ds h b after true round in older_run setup g.longer.added h (subst (IsRunOf setup) g.longer.are run)

pub agent_rounds_last : AgentRoundsLast
agent_rounds_last setup lets ds after h past b left run roles round a = built_rounds_last setup lets ds after h past b left run (roles_built (roles_of ds) roles) round a
