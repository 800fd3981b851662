-- A round does few writes: the sum of its slots.
use Rattle.std.proofs.Common.{◌≡◌, ◌≢◌, ◌∙◌, ℕ, suc, ◌+◌, ◌*◌, ◌≤◌, List, [], ◌∷◌, Bool, true, false, true≢false, None, Some, refl, sym, ap, subst, arith}
use Rattle.std.specs.Prelude.{map, slice_get, ⊤}
use Rattle.call_types.specs.declared.entry.Entry.{Entry}
use Rattle.call_types.specs.declared.request.SeatKind.{SeatKind}
use Rattle.call_types.specs.declared.request.SeatKind.TheVariants as seats
use Rattle.call_types.specs.declared.setup.Setup.{Setup}
use Rattle.binder_model.specs.Promises.{IsRunOf}
use Rattle.binder_model.specs.World.{world}
use Rattle.model_laws.proofs.Growing.{runs_are_histories}
use Rattle.worker_core.specs.declared.role.Role.{Role}
use Rattle.worker_core.specs.Absorbs.{woken}
use Rattle.worker_core.specs.States.{ActorState}
use Rattle.actor_rounds.specs.declared.drainers.Drainer.{Drainer}
use Rattle.actor_rounds.specs.Drainers.{AreRoles, agent_of, roles_of}
use Rattle.actor_rounds.specs.Rounds.{Ends, IsRound, Lets, RoundOf, Runs, Turns}
use Rattle.actor_rounds.proofs.RoundFacts.{round_grows}
use Rattle.actor_rounds.proofs.RunFacts.{run_grows}
use Rattle.settle_calls.specs.Slots.Slots.{writes_since}
use Rattle.settle_write_counts.specs.Scheduler.Pods.{pods_writes}
use Rattle.settle_write_counts.proofs.Scheduler.Pods.{schedulers_write_little}
use Rattle.settle_pays.specs.Pays.Pays.{IsPayer}
use Rattle.settle_pays.proofs.Pays.Entries.{paid_is_less}
use Rattle.settle_pays.proofs.Pays.Slots.{slots_pay}
use Rattle.settle_progress.proofs.Epochs.Silent.{older_run}
use Rattle.settle_write_counts.specs.Rounds.Counts.{RoundsWriteLittle, to_write}
use Rattle.settle_write_counts.proofs.Rounds.Slots.{counted, ops_write_little, others_select_none, others_write_little, schedulers_select_few}

-- ---- roles

abbrev pub is_plain : SeatKind → Bool
is_plain seats.Scheduler = false
is_plain seats.Ops = false
is_plain kind = true

pub no_scheduler : (kind : SeatKind) → is_plain kind ≡ true → kind ≢ seats.Scheduler
no_scheduler kind plain is = true≢false (sym plain ∙ ap is_plain is)

pub no_ops : (kind : SeatKind) → is_plain kind ≡ true → kind ≢ seats.Ops
no_ops kind plain is = true≢false (sym plain ∙ ap is_plain is)

abbrev ArePlain : List Role → Type 0
ArePlain [] = ⊤
ArePlain (role ∷ roles) = (is_plain role.kind ≡ true) × ArePlain roles

-- a scheduler, then ops, then others
abbrev StandSo : List Role → Type 0
StandSo [] = ⊥
StandSo (scheduler ∷ []) = ⊥
StandSo (scheduler ∷ (ops ∷ others)) = (scheduler.kind ≡ seats.Scheduler) × ((ops.kind ≡ seats.Ops) × ArePlain others)

plain_agents : (nodes : List (List ℕ)) → ArePlain (map agent_of nodes)
plain_agents [] = tt
plain_agents (node ∷ nodes) = (refl, plain_agents nodes)

stand_so : (roles : List Role) → AreRoles roles → StandSo roles
stand_so roles these = subst StandSo (sym these.are) (refl, (refl, (refl, (refl, (refl, plain_agents these.nodes)))))

-- ---- rounds

-- a scheduler that is run from here with nothing under way writes no more than it may
abbrev pub WritesLittleFrom : Setup → Lets → List Entry → Type 0
WritesLittleFrom setup lets h =
    (seat : ℕ) (old after : ActorState) (past : List Entry) (b left : ℕ) (idle : Bool) → old.role.kind ≡ seats.Scheduler → IsRunOf setup past
    → (old.memory.stale ≡ false → old.under ≡ None) → Runs lets seat after past left idle (woken old) h b
    → (world setup past).store.version ≤ (world setup h).store.version + pods_writes (world setup h)

module _ (setup : Setup) (lets : Lets) (past : List Entry) (left : ℕ) (run : IsRunOf setup past) where
  abbrev ArePayers : List Drainer → Type 0
  ArePayers ds = (place : ℕ) (d : Drainer) → slice_get ds place ≡ Some d → IsPayer setup d

  run_middle : (ds : List Drainer) (h : List Entry) (b : ℕ) (after : List Drainer) (whole : Bool) → IsRound lets past left ds h b after whole → IsRunOf setup h
  run_middle ds h b after whole round = let g = round_grows lets past left ds h b after whole round in older_run setup g.longer.added h (subst (IsRunOf setup) g.longer.are run)

  more_done : (ds : List Drainer) (h : List Entry) (b : ℕ) (after : List Drainer) (whole : Bool) → IsRound lets past left ds h b after whole
      → writes_since setup h past + (world setup h).store.version ≡ (world setup past).store.version
  more_done ds h b after whole round = let g = round_grows lets past left ds h b after whole round in counted setup g.longer.added h past g.longer.are

  plain_round : (ds : List Drainer) (h : List Entry) (b : ℕ) (after : List Drainer) (whole : Bool) → IsRound lets past left ds h b after whole
      → ArePlain (roles_of ds) → ArePayers ds → writes_since setup h past + to_write setup (world setup past) ≤ to_write setup (world setup h)
  plain_round _ h b _ _ (Ends entries rest) plain payers =
      let version = ap (λ es. (world setup es).store.version) entries in
      let rest_ = ap (λ es. to_write setup (world setup es)) entries in
      omega (arith, version, rest_)
  plain_round _ h b _ _ (Turns {ds = ds} {after = after} {whole = whole} d ran middle rest idle seat runs more) plain payers =
      let p = payers 0 d refl in
      let here = run_middle ds middle rest after whole more in
      let slot = others_write_little setup lets d.seat d.actor ran.actor h middle b rest idle p.built (no_scheduler d.actor.role.kind plain.0)
      (no_ops d.actor.role.kind plain.0) here p.rests p.pays runs in
      let nodes = others_select_none setup lets d.seat d.actor ran.actor h middle b rest idle p.built (no_scheduler d.actor.role.kind plain.0) (no_ops d.actor.role.kind plain.0) here runs in
      let later = plain_round ds middle rest after whole more plain.1 (λ place x at. payers (suc place) x at) in
      let n = more_done ds middle rest after whole more in
      let g = run_grows lets d.seat ran.actor middle rest idle (woken d.actor) h b runs in
      let m = counted setup g.longer.added h middle g.longer.are in
      omega (arith, slot, nodes, later, n, m)

  ops_round : (role : Role) (ds : List Drainer) (h : List Entry) (b : ℕ) (after : List Drainer) (whole : Bool) → IsRound lets past left ds h b after whole → StandSo (role ∷ roles_of ds) → ArePayers ds
      → writes_since setup h past + to_write setup (world setup past) ≤ to_write setup (world setup h)
  ops_round role _ h b _ _ (Ends entries rest) so payers = absurd so
  ops_round role _ h b _ _ (Turns {ds = ds} {after = after} {whole = whole} d ran middle rest idle seat runs more) so payers =
      let p = payers 0 d refl in
      let here = run_middle ds middle rest after whole more in
      let slot = ops_write_little setup lets d.seat d.actor ran.actor h middle b rest idle so.1.0 here p.rests p.pays runs in
      let later = plain_round ds middle rest after whole more so.1.1 (λ place x at. payers (suc place) x at) in
      let n = more_done ds middle rest after whole more in
      let g = run_grows lets d.seat ran.actor middle rest idle (woken d.actor) h b runs in
      let m = counted setup g.longer.added h middle g.longer.are in
      omega (arith, slot, later, n, m)

  whole_round : (ds : List Drainer) (h : List Entry) (b : ℕ) (after : List Drainer) (whole : Bool) → IsRound lets past left ds h b after whole
      → StandSo (roles_of ds) → ArePayers ds → WritesLittleFrom setup lets h
      → writes_since setup h past + to_write setup (world setup past) ≤ to_write setup (world setup h) + 2 * pods_writes (world setup h)
  whole_round _ h b _ _ (Ends entries rest) so payers few = absurd so
  whole_round _ h b _ _ (Turns {ds = ds} {after = after} {whole = whole} d ran middle rest idle seat runs more) so payers few =
      let p = payers 0 d refl in
      let here = run_middle ds middle rest after whole more in
      let kind = first_kind (roles_of ds) so in
      let paid = slots_pay setup lets d.seat d.actor ran.actor h middle b rest idle p.built here runs p.rests p.pays in
      let stays = (paid_is_less setup h middle (runs_are_histories setup middle here.run) paid).stays in
      let writes = few d.seat d.actor ran.actor middle b rest idle kind here p.rests runs in
      let nodes = schedulers_select_few setup lets d.seat d.actor ran.actor h middle b rest idle kind here runs in
      let later = ops_round d.actor.role ds middle rest after whole more so (λ place x at. payers (suc place) x at) in
      let n = more_done ds middle rest after whole more in
      let g = run_grows lets d.seat ran.actor middle rest idle (woken d.actor) h b runs in
      let m = counted setup g.longer.added h middle g.longer.are in
      omega (arith, stays, writes, nodes, later, n, m)
    where
      first_kind : (roles : List Role) → StandSo (d.actor.role ∷ roles) → d.actor.role.kind ≡ seats.Scheduler
      first_kind [] s = absurd s
      first_kind (r ∷ roles) s = s.0

-- however much the scheduler may write
pub rounds_write_as :
    (setup : Setup) (lets : Lets) (round : RoundOf lets) → AreRoles (roles_of round.drainers) → IsRunOf setup round.past
    → ((place : ℕ) (d : Drainer) → slice_get round.drainers place ≡ Some d → IsPayer setup d) → WritesLittleFrom setup lets round.start
    → writes_since setup round.start round.past + to_write setup (world setup round.past)
    ≤ to_write setup (world setup round.start) + 2 * pods_writes (world setup round.start)
rounds_write_as setup lets round roles run payers few =
    whole_round setup lets round.past round.left run round.drainers round.start round.budget round.after round.whole round.is_round
    (stand_so (roles_of round.drainers) roles) payers few

pub rounds_write_little : RoundsWriteLittle
rounds_write_little setup lets round roles run payers few =
    rounds_write_as setup lets round roles run payers
    (λ seat old ran middle c rest idle kind here rests runs. schedulers_write_little setup lets seat old ran round.start middle c rest idle kind here rests few runs)
