-- A whole round tells its actors what stands: behind its slot an actor has each object of a kind that it follows, and those behind create nothing that it decides.
use Rattle.std.proofs.Common.{◌≡◌, ◌∙◌, ℕ, zero, suc, ◌-◌, List, [], ◌∷◌, true, false, true≢false, Some, None, refl, sym, ap, subst}
use Rattle.std.specs.Prelude.{is_some, slice_get}
use Rattle.kube_objects.specs.declared.key.Key.{Key}
use Rattle.kube_parts.specs.declared.parts.Kind.{Kind}
use Rattle.kube_objects.specs.declared.objects.Object.{Object}
use Rattle.kube_objects.specs.Keys.{AreRows, row_at}
use Rattle.call_types.specs.declared.entry.Entry.{Entry}
use Rattle.call_types.specs.declared.request.SeatKind.{SeatKind}
use Rattle.call_types.specs.declared.request.SeatKind.TheVariants as seats
use Rattle.call_types.specs.declared.setup.Setup.{Setup}
use Rattle.binder_model.specs.Promises.{IsRunOf}
use Rattle.binder_model.specs.Reading.{follows}
use Rattle.binder_model.specs.Told.{own}
use Rattle.binder_model.specs.World.{IsHistory, world}
use Rattle.informer_cache.specs.All.{all_objects}
use Rattle.attention_law.proofs.Turned.{idle_rests}
use Rattle.worker_core.specs.declared.turn.Next.TheVariants.{Idle}
use Rattle.worker_core.specs.Absorbs.{woken}
use Rattle.worker_core.specs.Roles.{IsBuiltKind}
use Rattle.worker_core.specs.States.{ActorState}
use Rattle.worker_core.specs.Turns.{passing}
use Rattle.worker_core.proofs.Turning.{turn_stands}
use Rattle.actor_rounds.specs.Rounds.{Asks, IsHeld, IsIdle, IsReady, IsSpent, Lets, Runs, told_entry}
use Rattle.actor_rounds.proofs.RunFacts.{turn_memory, turned_whole}
use Rattle.worker_core.proofs.Answered.{turn_role}
use Rattle.settle_slot.specs.Slot.Slots.{SeesStore}
use Rattle.settle_slot.proofs.Slot.Slots.{passed_see_the_store}
use Rattle.settle_tries.proofs.Moves.Standing.{MakeNone, StandsIn, makes, round_stood, slot_stood}
use Rattle.settle_tries.proofs.Moves.Parts.{HasParts, parts_of, roles_behind}
use Rattle.settle_tries.specs.Tries.Quiet.{RoundsCache, decides_kind}
use Rattle.settle_alike.proofs.Alike.Rows.{get_mapped}
use Rattle.settle_progress.proofs.Epochs.Silent.{older_run}
use Rattle.settle_slot.proofs.Slot.Slots.{others_stay_awake}
use Rattle.actor_rounds.proofs.RunFacts.{run_role}
use Rattle.actor_rounds.proofs.RoundFacts.{round_grows, round_roles}
use Rattle.actor_rounds.specs.Rounds.{all_pass}
use Rattle.actor_rounds.specs.Drainers.{StandsWhole, agent_of, of_kind}
use Rattle.actor_rounds.specs.declared.drainers.Drainer.{Drainer}
use Rattle.worker_core.specs.Roles.{kind_in_order}
use Rattle.worker_core.specs.declared.role.Role.{Role}
use Rattle.model_laws.proofs.Lists.{none_some, one}
use Rattle.model_laws.proofs.Growing.{runs_are_histories}
use Rattle.kube_parts.specs.declared.parts.Kind.TheVariants as kinds
use Rattle.settle_progress.proofs.Drains.Rounds.{is_agent, not_agent}
use Rattle.std.specs.Prelude.{map, option_map}

-- an actor that was run until it was idle is ready at the end, past its pass
record EndsReady (seat : ℕ) (after : ActorState) (past : List Entry) : Type 0 where
  ready : IsReady seat after past
  passed : passing after ≡ None

module _ (lets : Lets) (seat : ℕ) (after : ActorState) (past : List Entry) (left : ℕ) (awake : after.memory.stale ≡ false) where
  ends_ready : (s : ActorState) (h : List Entry) (b : ℕ) → Runs lets seat after past left true s h b → EndsReady seat after past
  ends_ready s h b (IsSpent none state entries rest busy) = absurd (true≢false busy)
  ends_ready s h b (IsIdle some ready turn entries rest calm) =
      let fresh : s.memory.stale ≡ false = ap (λ m. m.stale) (sym (turn_memory s after Idle turn)) ∙ awake in
      let rests = idle_rests s after turn fresh in
      record {
        ready = record {
          rows = subst (λ c. AreRows (all_objects c)) (sym rests.caches) ready.rows;
          stands = subst (λ es. StandsWhole after (own seat es)) (sym entries)
              (turned_whole s after Idle (own seat h) turn (turn_stands s after Idle (own seat h) ready.rows ready.stands.told turn) ready.stands);
        };
        passed = (λ i. kind_in_order (turn_role s after Idle turn i) (rests.pass i).behind) ∙ rests.passed;
      }
  ends_ready s h b (Asks given next request reply some ready turn passes absorbs more) = ends_ready next (told_entry seat given request reply ∷ h) (b - 1) more
  ends_ready s h b (IsHeld given next request some ready turn held absorbs more) = ends_ready next h (b - 1) more

-- so it sees the store
pub sees_at_end : (setup : Setup) (lets : Lets) (seat : ℕ) (old after : ActorState) (h past : List Entry) (b left : ℕ) → IsBuiltKind old.role.kind
    → IsHistory setup past → after.memory.stale ≡ false → Runs lets seat after past left true (woken old) h b → SeesStore setup after past
sees_at_end setup lets seat old after h past b left built history awake runs =
    let e = ends_ready lets seat after past left awake (woken old) h b runs in
    passed_see_the_store setup lets seat old after h past b left true built history runs e.ready e.passed

-- ---- a whole round

-- what an actor sees it has among its caches
cached_by : (setup : Setup) (s : ActorState) (h : List Entry) (key : Key) (o : Object) → SeesStore setup s h → follows s.role.kind key.kind ≡ true
    → row_at key (world setup h).store.rows ≡ Some o → is_some (row_at key (all_objects s.caches)) ≡ true
cached_by setup s h key o sees follows_ there = ap is_some (sees key follows_ ∙ there)

-- what it decides it follows
decided_followed : (kind : SeatKind) (k : Kind) → decides_kind kind k ≡ true → follows kind k ≡ true
decided_followed seats.Ops kinds.PersistentVolume e = refl
decided_followed seats.Ops kinds.PersistentVolumeClaim e = refl
decided_followed seats.Ops kinds.StorageClass e = absurd (true≢false (sym e))
decided_followed seats.Ops kinds.Node e = absurd (true≢false (sym e))
decided_followed seats.Ops kinds.Pod e = absurd (true≢false (sym e))
decided_followed seats.Scheduler kinds.Pod e = refl
decided_followed seats.Scheduler kinds.PersistentVolume e = absurd (true≢false (sym e))
decided_followed seats.Scheduler kinds.PersistentVolumeClaim e = absurd (true≢false (sym e))
decided_followed seats.Scheduler kinds.StorageClass e = absurd (true≢false (sym e))
decided_followed seats.Scheduler kinds.Node e = absurd (true≢false (sym e))
decided_followed seats.User k e = absurd (true≢false (sym e))
decided_followed seats.Binder k e = absurd (true≢false (sym e))
decided_followed seats.ClaimProtect k e = absurd (true≢false (sym e))
decided_followed seats.VolumeProtect k e = absurd (true≢false (sym e))
decided_followed seats.Agent k e = absurd (true≢false (sym e))

-- a scheduler decides no volume
decided_unmade : (k : Kind) → decides_kind seats.Scheduler k ≡ true → makes seats.Ops k ≡ false
decided_unmade kinds.Pod e = refl
decided_unmade kinds.PersistentVolume e = absurd (true≢false (sym e))
decided_unmade kinds.PersistentVolumeClaim e = refl
decided_unmade kinds.StorageClass e = refl
decided_unmade kinds.Node e = refl

agents_none : (nodes : List (List ℕ)) → MakeNone (map agent_of nodes)
agents_none [] = tt
agents_none (node ∷ nodes) = ((tt, λ kind. refl), agents_none nodes)

pub behind_none : (nodes : List (List ℕ)) → MakeNone (roles_behind nodes)
behind_none nodes = ((tt, λ kind. refl), ((tt, λ kind. refl), ((tt, λ kind. refl), agents_none nodes)))

-- those behind decide none of these kinds
agents_decide : (nodes : List (List ℕ)) (place : ℕ) (role : Role) (k : Kind) → slice_get (map agent_of nodes) place ≡ Some role → decides_kind role.kind k ≡ false
agents_decide [] place role k at = none_some at
agents_decide (node ∷ nodes) zero role k at = subst (λ (r : Role). decides_kind r.kind k ≡ false) (one (agent_of node) role at) refl
agents_decide (node ∷ nodes) (suc place) role k at = agents_decide nodes place role k at

behind_decide : (nodes : List (List ℕ)) (place : ℕ) (role : Role) (k : Kind) → slice_get (roles_behind nodes) place ≡ Some role → decides_kind role.kind k ≡ false
behind_decide nodes zero role k at = subst (λ (r : Role). decides_kind r.kind k ≡ false) (one (of_kind seats.Binder) role at) refl
behind_decide nodes (suc zero) role k at = subst (λ (r : Role). decides_kind r.kind k ≡ false) (one (of_kind seats.ClaimProtect) role at) refl
behind_decide nodes (suc (suc zero)) role k at = subst (λ (r : Role). decides_kind r.kind k ≡ false) (one (of_kind seats.VolumeProtect) role at) refl
behind_decide nodes (suc (suc (suc place))) role k at = agents_decide nodes place role k at

awake_slot : (lets : Lets) (kind : SeatKind) (seat : ℕ) (old after : ActorState) (h past : List Entry) (b left : ℕ) → old.role ≡ of_kind kind
    → is_agent kind ≡ false → Runs lets seat after past left true (woken old) h b → after.memory.stale ≡ false
awake_slot lets kind seat old after h past b left role other runs = others_stay_awake lets seat (woken old) after h past b left (not_agent _ (ap (λ (r : Role). is_agent r.kind) role ∙ other)) runs

role_ran : (lets : Lets) (seat : ℕ) (old after : ActorState) (h past : List Entry) (b left : ℕ) → Runs lets seat after past left true (woken old) h b → after.role ≡ old.role
role_ran lets seat old after h past b left runs = run_role lets seat after past left true (woken old) h b runs

module _ (setup : Setup) (lets : Lets) (ds after : List Drainer) (h past : List Entry) (b left : ℕ) (run : IsRunOf setup past) (p : HasParts lets past left ds h b after) where
  scheduler_built : IsBuiltKind p.first.drainer.actor.role.kind
  scheduler_built = subst (λ (r : Role). IsBuiltKind r.kind) (sym p.scheduler) tt

  ops_built : IsBuiltKind p.second.drainer.actor.role.kind
  ops_built = subst (λ (r : Role). IsBuiltKind r.kind) (sym p.ops) tt

  pub run_behind : IsRunOf setup p.second.middle
  run_behind = let g = round_grows lets past left p.second.behind p.second.middle p.second.rest p.second.later true p.second.round in
      older_run setup g.longer.added p.second.middle (subst (IsRunOf setup) g.longer.are run)

  pub run_between : IsRunOf setup p.first.middle
  run_between = let g = round_grows lets past left p.first.behind p.first.middle p.first.rest p.first.later true p.first.round in
      older_run setup g.longer.added p.first.middle (subst (IsRunOf setup) g.longer.are run)

  -- what stands at the end stood behind the slot of ops
  stood_behind : (key : Key) (o : Object) → row_at key (world setup past).store.rows ≡ Some o → StandsIn (world setup p.second.middle) key
  stood_behind key o there = round_stood setup lets past left run p.second.behind p.second.middle p.second.rest p.second.later true p.second.round
      (subst MakeNone (sym p.others) (behind_none p.nodes)) key o there

  ops_cached : (key : Key) (o : Object) → row_at key (world setup past).store.rows ≡ Some o → decides_kind seats.Ops key.kind ≡ true
      → is_some (row_at key (all_objects p.second.ran.actor.caches)) ≡ true
  ops_cached key o there decides =
      let s = stood_behind key o there in
      let sees = sees_at_end setup lets p.second.drainer.seat p.second.drainer.actor p.second.ran.actor p.first.middle p.second.middle p.first.rest
      p.second.rest ops_built (runs_are_histories setup p.second.middle run_behind.run)
      (awake_slot lets seats.Ops p.second.drainer.seat p.second.drainer.actor p.second.ran.actor p.first.middle p.second.middle p.first.rest
      p.second.rest p.ops refl p.second.runs) p.second.runs in
      cached_by setup p.second.ran.actor p.second.middle key s.object sees
      (ap (λ (r : Role). follows r.kind key.kind)
      (role_ran lets p.second.drainer.seat p.second.drainer.actor p.second.ran.actor p.first.middle p.second.middle p.first.rest p.second.rest
      p.second.runs ∙ p.ops) ∙ decided_followed seats.Ops key.kind decides) s.there

  scheduler_cached : (key : Key) (o : Object) → row_at key (world setup past).store.rows ≡ Some o → decides_kind seats.Scheduler key.kind ≡ true
      → is_some (row_at key (all_objects p.first.ran.actor.caches)) ≡ true
  scheduler_cached key o there decides =
      let s = stood_behind key o there in
      let t = slot_stood setup lets p.second.drainer.seat p.second.drainer.actor p.second.ran.actor p.first.middle p.second.middle p.first.rest
      p.second.rest true ops_built run_behind p.second.runs key s.object
      (ap (λ (r : Role). makes r.kind key.kind) p.ops ∙ decided_unmade key.kind decides) s.there in
      let sees = sees_at_end setup lets p.first.drainer.seat p.first.drainer.actor p.first.ran.actor h p.first.middle b p.first.rest scheduler_built
      (runs_are_histories setup p.first.middle run_between.run)
      (awake_slot lets seats.Scheduler p.first.drainer.seat p.first.drainer.actor p.first.ran.actor h p.first.middle b p.first.rest p.scheduler refl p.first.runs) p.first.runs in
      cached_by setup p.first.ran.actor p.first.middle key t.object sees
      (ap (λ (r : Role). follows r.kind key.kind)
      (role_ran lets p.first.drainer.seat p.first.drainer.actor p.first.ran.actor h p.first.middle b p.first.rest p.first.runs ∙ p.scheduler)
      ∙ decided_followed seats.Scheduler key.kind decides) t.there

  others_decide : (place : ℕ) (d : Drainer) (k : Kind) → slice_get p.second.later place ≡ Some d → decides_kind d.actor.role.kind k ≡ false
  others_decide place d k at =
      behind_decide p.nodes place d.actor.role k
      (ap (λ roles. slice_get roles place) (sym
      (round_roles lets past left p.second.behind p.second.middle p.second.rest p.second.later true p.second.round ∙ p.others))
      ∙ (get_mapped (λ (x : Drainer). x.actor.role) p.second.later place ∙ ap (option_map (λ (x : Drainer). x.actor.role)) at))

  all_cached : (place : ℕ) (d : Drainer) → slice_get (p.first.ran ∷ p.second.ran ∷ p.second.later) place ≡ Some d → (key : Key) (o : Object)
      → row_at key (world setup past).store.rows ≡ Some o → decides_kind d.actor.role.kind key.kind ≡ true → is_some (row_at key (all_objects d.actor.caches)) ≡ true
  all_cached zero d at key o there decides =
      let same : p.first.ran ≡ d = one p.first.ran d at in
      let role = role_ran lets p.first.drainer.seat p.first.drainer.actor p.first.ran.actor h p.first.middle b p.first.rest p.first.runs ∙ p.scheduler in
      subst (λ (x : Drainer). is_some (row_at key (all_objects x.actor.caches)) ≡ true) same
      (scheduler_cached key o there (ap (λ (r : Role). decides_kind r.kind key.kind) (sym role) ∙ (ap (λ (x : Drainer). decides_kind x.actor.role.kind key.kind) same ∙ decides)))
  all_cached (suc zero) d at key o there decides =
      let same : p.second.ran ≡ d = one p.second.ran d at in
      let role = role_ran lets p.second.drainer.seat p.second.drainer.actor p.second.ran.actor p.first.middle p.second.middle p.first.rest p.second.rest p.second.runs ∙ p.ops in
      subst (λ (x : Drainer). is_some (row_at key (all_objects x.actor.caches)) ≡ true) same
      (ops_cached key o there (ap (λ (r : Role). decides_kind r.kind key.kind) (sym role) ∙ (ap (λ (x : Drainer). decides_kind x.actor.role.kind key.kind) same ∙ decides)))
  all_cached (suc (suc place)) d at key o there decides = absurd (true≢false (sym decides ∙ others_decide place d key.kind at))

pub rounds_cache : RoundsCache
rounds_cache setup ds after h past b left may run round =
    let p = parts_of all_pass past left ds h b after may.may.stand.roles round in
    λ place d at. all_cached setup all_pass ds after h past b left run p place d (ap (λ xs. slice_get xs place) (sym (p.first.after_are ∙ ap (λ xs. p.first.ran ∷ xs) p.second.after_are)) ∙ at)
