-- Behind some actors of a round the others act on what is due for them.
use Rattle.std.proofs.Common.{◌≡◌, ◌≢◌, ◌⊎◌, ℕ, List, true, Some, inl, inr, refl}
use Rattle.std.specs.Prelude.{⊤}
use Rattle.kube_objects.specs.declared.key.Key.{Key}
use Rattle.kube_objects.specs.declared.objects.Object.{Object}
use Rattle.kube_objects.specs.Keys.{key_of, row_at}
use Rattle.call_types.specs.declared.entry.Entry.{Entry}
use Rattle.call_types.specs.declared.request.SeatKind.{SeatKind}
use Rattle.call_types.specs.declared.request.SeatKind.TheVariants as seats
use Rattle.call_types.specs.declared.setup.Setup.{Setup}
use Rattle.binder_model.specs.Promises.{IsRunOf}
use Rattle.binder_model.specs.Reading.{follows}
use Rattle.binder_model.specs.World.{world}
use Rattle.worker_core.specs.declared.role.Role.{Role}
use Rattle.worker_core.specs.Roles.{IsBuiltKind}
use Rattle.actor_rounds.specs.declared.drainers.Drainer.{Drainer}
use Rattle.actor_rounds.specs.Drainers.{agent_of, of_kind, roles_of}
use Rattle.actor_rounds.specs.Rounds.{IsRound, all_pass}
use Rattle.actor_rounds.proofs.RoundFacts.{AreBuilt}
use Rattle.settle_writes.specs.Writes.Lasting.{HasLasting}
use Rattle.settle_slot.specs.Slot.Would.{WouldActOn}
use Rattle.settle_due.proofs.Binding.Claims.{claims_act}
use Rattle.settle_due.proofs.Upkeep.Claims.{claim_guards_act}
use Rattle.settle_due.proofs.Upkeep.Guards.{volume_guards_act}
use Rattle.settle_due.proofs.Upkeep.Volumes.{volumes_act}
use Rattle.settle_progress.specs.Agents.Acts.{AgentWouldActOn}
use Rattle.settle_progress.specs.Agents.Rounds.{HasAwake}
use Rattle.settle_progress.proofs.Agents.Mounting.{agents_act}
use Rattle.settle_progress.proofs.Agents.Rounds.{built_rounds_last}
use Rattle.settle_progress.specs.Drains.Rounds.{DueFor, ForAgent, ForBinder, ForBinderOfClaims, ForClaimProtection, ForProvisioner, ForReclaimer, ForScheduler, ForVolumeProtection}
use Rattle.settle_progress.proofs.Drains.Rounds.{HasRole, followed_by, kind_lasts, not_agent}

module _ (setup : Setup) (ds after : List Drainer) (h past : List Entry) (b left : ℕ) (run : IsRunOf setup past) (are_built : AreBuilt (roles_of ds))
    (round : IsRound all_pass past left ds h b after true) (key : Key) (o : Object) (stands : row_at key (world setup h).store.rows ≡ Some o) where
  -- an agent that is no stale one acts
  agent_lasts : (node : List ℕ) → HasAwake setup ds h node → follows seats.Agent (key_of o).kind ≡ true → ((seat : ℕ) → AgentWouldActOn setup seat (agent_of node) h key) → HasLasting setup h past
  agent_lasts node awake followed acts =
      built_rounds_last setup all_pass ds after h past b left run are_built round (record {
        node = node;
        agent = awake;
        key = key;
        object = o;
        stands = stands;
        followed = followed_by seats.Agent key o (world setup h).store.rows stands followed;
        acts = acts;
        passes = λ seat s g y u v p own gives leads same. refl;
      })

  -- so does a controller
  controller_lasts : (kind : SeatKind) → IsBuiltKind kind → kind ≢ seats.Agent → HasRole ds (of_kind kind) → follows kind (key_of o).kind ≡ true
      → ((seat : ℕ) → WouldActOn setup seat (of_kind kind) h key) → HasLasting setup h past
  controller_lasts kind built other at followed would =
      kind_lasts setup all_pass ds after h past b left run round key o stands kind built other at followed (λ seat s g y u v p own gives leads same. refl) would

-- those that have their slots behind ops
abbrev pub IsBehind : SeatKind → Type 0
IsBehind seats.Binder = ⊤
IsBehind seats.ClaimProtect = ⊤
IsBehind seats.VolumeProtect = ⊤
IsBehind kind = ⊥

-- what is due is for ops or the scheduler, or an entry lasts
pub due_behind : (setup : Setup) (ds after : List Drainer) (h past : List Entry) (b left : ℕ) (key : Key) (o : Object) (role : Role)
    → IsRunOf setup past → AreBuilt (roles_of ds) → IsRound all_pass past left ds h b after true → row_at key (world setup h).store.rows ≡ Some o
    → DueFor setup (world setup h) o role → ((kind : SeatKind) → IsBehind kind → HasRole ds (of_kind kind))
    → ((node : List ℕ) → role ≡ agent_of node → HasAwake setup ds h node) → (role.kind ≡ seats.Ops) ⊎ ((role.kind ≡ seats.Scheduler) ⊎ HasLasting setup h past)
due_behind setup ds after h past b left key _ _ run built round there (ForReclaimer v action due) roles awake = inl refl
due_behind setup ds after h past b left key _ _ run built round there (ForProvisioner c action due) roles awake = inl refl
due_behind setup ds after h past b left key _ _ run built round there (ForScheduler p action open_ due) roles awake = inr (inl refl)
due_behind setup ds after h past b left key _ _ run built round there (ForBinder v action due) roles awake =
    inr (inr (controller_lasts setup ds after h past b left run built round key _ there seats.Binder tt (not_agent seats.Binder refl)
    (roles seats.Binder tt) refl (λ seat. volumes_act setup seat (of_kind seats.Binder) h key v action run.imports refl there due)))
due_behind setup ds after h past b left key _ _ run built round there (ForBinderOfClaims c action due) roles awake =
    inr (inr (controller_lasts setup ds after h past b left run built round key _ there seats.Binder tt (not_agent seats.Binder refl)
    (roles seats.Binder tt) refl (λ seat. claims_act setup seat (of_kind seats.Binder) h key c action run.imports refl there due)))
due_behind setup ds after h past b left key _ _ run built round there (ForClaimProtection c action due) roles awake =
    inr (inr (controller_lasts setup ds after h past b left run built round key _ there seats.ClaimProtect tt (not_agent seats.ClaimProtect refl)
    (roles seats.ClaimProtect tt) refl (λ seat. claim_guards_act setup seat (of_kind seats.ClaimProtect) h key c action run.imports refl there due)))
due_behind setup ds after h past b left key _ _ run built round there (ForVolumeProtection v action due) roles awake =
    inr (inr (controller_lasts setup ds after h past b left run built round key _ there seats.VolumeProtect tt (not_agent seats.VolumeProtect refl)
    (roles seats.VolumeProtect tt) refl (λ seat. volume_guards_act setup seat (of_kind seats.VolumeProtect) h key v action run.imports refl there due)))
due_behind setup ds after h past b left key _ _ run built round there (ForAgent p action scheduled due) roles awake =
    inr (inr (agent_lasts setup ds after h past b left run built round key _ there p.node (awake p.node refl) refl
    (λ seat. agents_act setup seat (agent_of p.node) h key p action run.imports refl there scheduled due)))
