-- A whole round that begins with something due has an entry that lasts.
use Rattle.std.proofs.Common.{◌≡◌, ◌≢◌, ◌∙◌, ℕ, zero, suc, List, Bool, true, false, true≢false, Option, Some, None, refl, sym, ap, subst}
use Rattle.std.specs.Prelude.{option_map, slice_get, ⊤}
use Rattle.std.proofs.lemmas.Bool.{and_parts}
use Rattle.kube_objects.specs.declared.key.Key.{Key}
use Rattle.kube_objects.specs.declared.objects.Object.{Object}
use Rattle.kube_objects.specs.Keys.{key_of, row_at}
use Rattle.kube_objects.proofs.KeyOrder.{row_at_key}
use Rattle.call_types.specs.declared.entry.Entry.{Entry}
use Rattle.call_types.specs.declared.request.SeatKind.{SeatKind}
use Rattle.call_types.specs.declared.request.SeatKind.TheVariants as seats
use Rattle.call_types.specs.declared.setup.Setup.{Setup}
use Rattle.binder_model.specs.Reading.{follows}
use Rattle.binder_model.specs.Promises.{IsRunOf}
use Rattle.binder_model.specs.World.{world}
use Rattle.model_laws.proofs.Growing.{runs_are_histories}
use Rattle.model_laws.proofs.Lists.{none_some, one}
use Rattle.worker_core.specs.declared.role.Role.{Role}
use Rattle.worker_core.specs.Absorbs.{woken}
use Rattle.worker_core.specs.Roles.{IsBuiltKind}
use Rattle.actor_rounds.specs.declared.drainers.Drainer.{Drainer}
use Rattle.actor_rounds.specs.Drainers.{agent_of, of_kind, roles_for, roles_of}
use Rattle.actor_rounds.specs.Rounds.{Ends, IsRound, Lets, Runs, Turns}
use Rattle.settle_writes.specs.Writes.Lasting.{HasLasting}
use Rattle.settle_alike.proofs.Alike.Rows.{get_mapped}
use Rattle.settle_slot.specs.Slot.Would.{CallsPass, WouldActOn}
use Rattle.settle_slot.proofs.Slot.Slots.{others_stay_awake}
use Rattle.settle_slot.proofs.Slot.Would.{would_act_where_calls_pass}
use Rattle.settle_due.proofs.Binding.Claims.{claims_act}
use Rattle.settle_due.proofs.Upkeep.Claims.{claim_guards_act}
use Rattle.settle_due.proofs.Upkeep.Guards.{volume_guards_act}
use Rattle.settle_due.proofs.Upkeep.Reclaims.{reclaims_act}
use Rattle.settle_due.proofs.Upkeep.Volumes.{volumes_act}
use Rattle.settle_due.proofs.Provisioning.Provisions.{provisioner_acts}
use Rattle.settle_due.proofs.Scheduling.Acts.{pods_act}
use Rattle.settle_progress.specs.Epochs.Silent.{OnlyOvertakenAreSilent}
use Rattle.settle_progress.proofs.Epochs.Silent.{current_are_awake}
use Rattle.settle_progress.specs.Agents.Rounds.{HasAwake}
use Rattle.settle_progress.proofs.Agents.Mounting.{agents_act}
use Rattle.settle_progress.proofs.Agents.Rounds.{agent_rounds_last}
use Rattle.settle_progress.proofs.Rounds.Rounds.{rounds_last}
use Rattle.settle_progress.specs.Drains.Rounds.{
  DueRoundsLast,
  ForAgent,
  ForBinder,
  ForBinderOfClaims,
  ForClaimProtection,
  ForProvisioner,
  ForReclaimer,
  ForScheduler,
  ForVolumeProtection,
  HasCurrent,
  UnsettledRoundsLast,
  doer_of,
}
use Rattle.settle_progress.specs.Drains.Settling.{MayDrain}
use Rattle.settle_progress.proofs.Drains.Doers.{due_is_for}

-- a drainer of a role
pub record HasRole (ds : List Drainer) (role : Role) : Type 0 where
  pub place : ℕ
  pub drainer : Drainer
  pub there : slice_get ds place ≡ Some drainer
  pub role_is : drainer.actor.role ≡ role

pub role_at : (ds : List Drainer) (place : ℕ) (role : Role) → slice_get (roles_of ds) place ≡ Some role → HasRole ds role
role_at ds place role at = by (slice_get ds place) refl
  where
    mapped : slice_get (roles_of ds) place ≡ option_map (λ (d : Drainer). d.actor.role) (slice_get ds place)
    mapped = get_mapped (λ (d : Drainer). d.actor.role) ds place

    by : (x : Option Drainer) → slice_get ds place ≡ x → HasRole ds role
    by None e = none_some (sym (ap (option_map (λ (d : Drainer). d.actor.role)) e) ∙ (sym mapped ∙ at))
    by (Some d) e = record { place = place; drainer = d; there = e; role_is = one d.actor.role role (sym (ap (option_map (λ (d : Drainer). d.actor.role)) e) ∙ (sym mapped ∙ at)) }

-- the kinds that serve no node
abbrev IsController : SeatKind → Type 0
IsController seats.User = ⊥
IsController seats.Agent = ⊥
IsController kind = ⊤

-- each of them is among the drainers
controller_at : (ds : List Drainer) (nodes : List (List ℕ)) → roles_of ds ≡ roles_for nodes → (kind : SeatKind) → IsController kind → HasRole ds (of_kind kind)
controller_at ds nodes are seats.Scheduler is = role_at ds 0 (of_kind seats.Scheduler) (ap (λ roles. slice_get roles 0) are)
controller_at ds nodes are seats.Ops is = role_at ds 1 (of_kind seats.Ops) (ap (λ roles. slice_get roles 1) are)
controller_at ds nodes are seats.Binder is = role_at ds 2 (of_kind seats.Binder) (ap (λ roles. slice_get roles 2) are)
controller_at ds nodes are seats.ClaimProtect is = role_at ds 3 (of_kind seats.ClaimProtect) (ap (λ roles. slice_get roles 3) are)
controller_at ds nodes are seats.VolumeProtect is = role_at ds 4 (of_kind seats.VolumeProtect) (ap (λ roles. slice_get roles 4) are)
controller_at ds nodes are seats.User is = absurd is
controller_at ds nodes are seats.Agent is = absurd is

abbrev pub is_agent : SeatKind → Bool
is_agent seats.Agent = true
is_agent kind = false

pub not_agent : (kind : SeatKind) → is_agent kind ≡ false → kind ≢ seats.Agent
not_agent kind e is = true≢false (sym (ap is_agent is) ∙ e)

controllers_built : (kind : SeatKind) → IsController kind → IsBuiltKind kind × (kind ≢ seats.Agent)
controllers_built seats.Scheduler is = (tt, not_agent seats.Scheduler refl)
controllers_built seats.Ops is = (tt, not_agent seats.Ops refl)
controllers_built seats.Binder is = (tt, not_agent seats.Binder refl)
controllers_built seats.ClaimProtect is = (tt, not_agent seats.ClaimProtect refl)
controllers_built seats.VolumeProtect is = (tt, not_agent seats.VolumeProtect refl)
controllers_built seats.User is = absurd is
controllers_built seats.Agent is = absurd is

-- no actor but an agent is silent at the end of a whole round
module _ (lets : Lets) (past : List Entry) (left : ℕ) where
  awake_in : (ds : List Drainer) (h : List Entry) (b : ℕ) (after : List Drainer) (whole : Bool) → IsRound lets past left ds h b after whole
      → whole ≡ true → (place : ℕ) (d x : Drainer) → slice_get ds place ≡ Some d → slice_get after place ≡ Some x
      → d.actor.role.kind ≢ seats.Agent → x.actor.memory.stale ≡ false
  awake_in _ h b _ _ (Ends entries rest) is_whole place d x there ran_there other = none_some there
  awake_in _ h b _ _ (Turns {ds = ds} {after = after} {whole = whole} first ran middle rest idle seat run more) is_whole zero d x there ran_there other =
      let same : first ≡ d = one first d there in
      let ran_same : ran ≡ x = one ran x ran_there in
      let idle_run : Runs lets first.seat ran.actor middle rest true (woken first.actor) h b =
      subst (λ i. Runs lets first.seat ran.actor middle rest i (woken first.actor) h b) (and_parts idle whole is_whole).0 run in
      ap (λ (y : Drainer). y.actor.memory.stale) (sym ran_same)
      ∙ others_stay_awake lets first.seat (woken first.actor) ran.actor h middle b rest (subst (λ (y : Drainer). y.actor.role.kind ≢ seats.Agent) (sym same) other) idle_run
  awake_in _ h b _ _ (Turns {ds = ds} {after = after} {whole = whole} first ran middle rest idle seat run more) is_whole (suc place) d x there ran_there other =
      awake_in ds middle rest after whole more (and_parts idle whole is_whole).1 place d x there ran_there other

-- the kind of what stands under a key
pub followed_by : (kind : SeatKind) (key : Key) (o : Object) (rows : List Object) → row_at key rows ≡ Some o → follows kind (key_of o).kind ≡ true → follows kind key.kind ≡ true
followed_by kind key o rows there is = ap (λ (k : Key). follows kind k.kind) (sym (row_at_key key o rows there)) ∙ is

module _ (setup : Setup) (lets : Lets) (ds after : List Drainer) (h past : List Entry) (b left : ℕ) (run : IsRunOf setup past)
    (round : IsRound lets past left ds h b after true) (key : Key) (o : Object) (stands : row_at key (world setup h).store.rows ≡ Some o) where
  -- a drainer that serves no node acts
  pub kind_lasts : (kind : SeatKind) → IsBuiltKind kind → kind ≢ seats.Agent → HasRole ds (of_kind kind) → follows kind (key_of o).kind ≡ true
      → ((seat : ℕ) → CallsPass setup lets seat (of_kind kind) h key) → ((seat : ℕ) → WouldActOn setup seat (of_kind kind) h key) → HasLasting setup h past
  kind_lasts kind built other at followed passes would =
      rounds_last setup lets ds after h past b left (runs_are_histories setup past run.run) round (record {
        place = at.place;
        drainer = at.drainer;
        there = at.there;
        built = subst IsBuiltKind (sym kind_is) built;
        key = key;
        object = o;
        stands = stands;
        followed = ap (λ k. follows k key.kind) kind_is ∙ followed_by kind key o (world setup h).store.rows stands followed;
        acts = would_act_where_calls_pass setup lets at.drainer.seat at.drainer.actor.role h key (subst (λ r. CallsPass setup lets at.drainer.seat r h key) (sym at.role_is) (passes at.drainer.seat))
            (subst (λ r. WouldActOn setup at.drainer.seat r h key) (sym at.role_is) (would at.drainer.seat));
        awake = λ x there. awake_in lets past left ds h b after true round refl at.place at.drainer x at.there there (subst (λ k. k ≢ seats.Agent) (sym kind_is) other);
      })
    where
      kind_is : at.drainer.actor.role.kind ≡ kind
      kind_is = ap (λ (r : Role). r.kind) at.role_is

module _ (setup : Setup) (lets : Lets) (ds after : List Drainer) (h past : List Entry) (b left : ℕ) (may : MayDrain setup h ds)
    (run : IsRunOf setup past) (round : IsRound lets past left ds h b after true) (key : Key) (o : Object) (stands : row_at key (world setup h).store.rows ≡ Some o) where
  -- a controller acts
  controller_lasts : (kind : SeatKind) → IsController kind → follows kind (key_of o).kind ≡ true
      → ((seat : ℕ) → CallsPass setup lets seat (of_kind kind) h key) → ((seat : ℕ) → WouldActOn setup seat (of_kind kind) h key) → HasLasting setup h past
  controller_lasts kind is followed passes would =
      let kinds = controllers_built kind is in
      kind_lasts setup lets ds after h past b left run round key o stands kind kinds.0 kinds.1 (controller_at ds may.stand.roles.nodes may.stand.roles.are kind is) followed passes would

-- an agent whose epoch is its node's is no stale one
awake_of : (setup : Setup) (ds : List Drainer) (h : List Entry) (node : List ℕ) → OnlyOvertakenAreSilent setup ds h → HasCurrent setup ds h node → HasAwake setup ds h node
awake_of setup ds h node only a = record {
  place = a.place;
  drainer = a.drainer;
  there = a.there;
  role = a.role;
  awake = current_are_awake setup ds h
      a.place a.drainer node only a.there a.role a.current;
}

pub due_rounds_last : DueRoundsLast
due_rounds_last setup lets ds after h past b left key _ _ may only run round there (ForReclaimer v action due) passes doer =
    controller_lasts setup lets ds after h past b left may run round key _ there seats.Ops tt refl passes
    (λ seat. reclaims_act setup seat (of_kind seats.Ops) h key v action may.run.imports refl there due)
due_rounds_last setup lets ds after h past b left key _ _ may only run round there (ForProvisioner c action due) passes doer =
    controller_lasts setup lets ds after h past b left may run round key _ there seats.Ops tt refl passes
    (λ seat. provisioner_acts action setup seat (of_kind seats.Ops) h key c may.run.imports refl there due)
due_rounds_last setup lets ds after h past b left key _ _ may only run round there (ForBinder v action due) passes doer =
    controller_lasts setup lets ds after h past b left may run round key _ there seats.Binder tt refl passes
    (λ seat. volumes_act setup seat (of_kind seats.Binder) h key v action may.run.imports refl there due)
due_rounds_last setup lets ds after h past b left key _ _ may only run round there (ForBinderOfClaims c action due) passes doer =
    controller_lasts setup lets ds after h past b left may run round key _ there seats.Binder tt refl passes
    (λ seat. claims_act setup seat (of_kind seats.Binder) h key c action may.run.imports refl there due)
due_rounds_last setup lets ds after h past b left key _ _ may only run round there (ForClaimProtection c action due) passes doer =
    controller_lasts setup lets ds after h past b left may run round key _ there seats.ClaimProtect tt refl passes
    (λ seat. claim_guards_act setup seat (of_kind seats.ClaimProtect) h key c action may.run.imports refl there due)
due_rounds_last setup lets ds after h past b left key _ _ may only run round there (ForVolumeProtection v action due) passes doer =
    controller_lasts setup lets ds after h past b left may run round key _ there seats.VolumeProtect tt refl passes
    (λ seat. volume_guards_act setup seat (of_kind seats.VolumeProtect) h key v action may.run.imports refl there due)
due_rounds_last setup lets ds after h past b left key _ _ may only run round there (ForScheduler p action open_ due) passes doer =
    controller_lasts setup lets ds after h past b left may run round key _ there seats.Scheduler tt refl passes
    (λ seat. pods_act setup seat (of_kind seats.Scheduler) h key p action may.run.imports refl there open_ due)
due_rounds_last setup lets ds after h past b left key _ _ may only run round there (ForAgent p action scheduled due) passes doer =
    agent_rounds_last setup lets ds after h past b left run may.stand.roles round (record {
      node = p.node;
      agent = awake_of setup ds h p.node only (doer p.node refl);
      key = key;
      object = _;
      stands = there;
      followed = followed_by seats.Agent key _ _ there refl;
      acts = λ seat. agents_act setup seat (agent_of p.node) h key p action may.run.imports refl there scheduled due;
      passes = passes;
    })

pub unsettled_rounds_last : UnsettledRoundsLast
unsettled_rounds_last setup lets ds after h past b left may only run round x passes =
    due_rounds_last setup lets ds after h past b left x.key x.object (doer_of x.object x.action) may only run round x.stands (due_is_for setup (world setup h) x.action x.object x.due) passes x.doer
