-- What the binder begins lasts: it begins only what is due.
use Rattle.std.proofs.Common.{◌≡◌, ◌∙◌, ℕ, List, true, true≢false, Option, Some, None, refl, sym, ap, subst}
use Rattle.std.specs.Prelude.{is_some}
use Rattle.kube_objects.specs.declared.key.Key.{Key}
use Rattle.kube_parts.specs.declared.names.Due.{Due}
use Rattle.kube_types.specs.declared.lookup.Live.TheVariants.{NotAsked}
use Rattle.kube_objects.specs.declared.objects.Claim.{Claim as ClaimData}
use Rattle.kube_objects.specs.declared.objects.Volume.{Volume as VolumeData}
use Rattle.kube_objects.specs.declared.objects.Object.{Object}
use Rattle.kube_objects.specs.declared.objects.Object.TheVariants.{Class, Node, Volume, Claim, Pod}
use Rattle.kube_objects.specs.Keys.{key_of, row_at}
use Rattle.kube_objects.proofs.KeyOrder.{row_at_key}
use Rattle.call_types.specs.declared.entry.Entry.{Entry}
use Rattle.call_types.specs.declared.request.SeatKind.TheVariants as seats
use Rattle.call_types.specs.declared.setup.Setup.{Setup}
use Rattle.binder_model.specs.BinderDue.{volume_due}
use Rattle.binder_model.specs.Imports.{ImportsPass}
use Rattle.binder_model.specs.ObjectKeys.{claim_key}
use Rattle.binder_model.specs.Reading.{follows}
use Rattle.binder_model.specs.World.{world}
use Rattle.informer_cache.specs.All.{all_objects}
use Rattle.model_laws.proofs.Histories.{rows_stand_in_order}
use Rattle.claim_sync.specs.ClaimDecision.{claim_decision}
use Rattle.volume_sync.specs.VolumeDecision.{volume_decision}
use Rattle.binder_machines.specs.declared.decide.FirstMachine.TheVariants as binder_firsts
use Rattle.binder_machines.specs.declared.machine.Machine.{Machine}
use Rattle.binder_machines.specs.FirstSteps.{IsClaimFirst, IsFirst, volume_first}
use Rattle.worker_core.specs.declared.role.Role.{Role}
use Rattle.worker_core.specs.declared.task.First.TheVariants as firsts
use Rattle.worker_core.specs.declared.task.Task.{Task}
use Rattle.worker_core.specs.declared.task.Task.TheVariants as tasks
use Rattle.worker_core.specs.declared.task.Under.{Under}
use Rattle.worker_core.specs.States.{ActorState}
use Rattle.worker_core.specs.Tasks.{GivesCall, IsBinderFirst, IsFirstOf}
use Rattle.settle_slot.specs.Slot.Slots.{IsDecisionPoint}
use Rattle.settle_slot.specs.Slot.Would.{WouldLast}
use Rattle.settle_due.proofs.Upkeep.Volumes.{begins_one, volumes_act}
use Rattle.settle_due.proofs.Binding.Claims.{claims_act}
use Rattle.settle_due.proofs.Binding.Matches.{AgreeForBinder}
use Rattle.settle_due.specs.Begun.Begun.{BindingLasts}
use Rattle.settle_due.proofs.Begun.Claims.{begun_due, claim_begins_due}
use Rattle.settle_due.proofs.Begun.Seeing.{by_acting}
use Rattle.settle_due.proofs.Begun.Volumes.{volume_begins_due}

module _ (setup : Setup) (seat : ℕ) (role : Role) (start : List Entry) (pass : ImportsPass setup.imports) (kind : role.kind ≡ seats.Binder)
    (s : ActorState) (h : List Entry) (u : Under) (p : IsDecisionPoint setup seat role start s h) (gives : GivesCall s.role s.memory (all_objects s.caches) u) where
  abbrev cached : List Object
  cached = all_objects s.caches

  abbrev rows : List Object
  rows = (world setup h).store.rows

  abbrev WouldHere : Type 0
  WouldHere = WouldLast setup seat role.kind start h u

  s_kind : s.role.kind ≡ seats.Binder
  s_kind = ap (λ (r : Role). r.kind) p.role_is ∙ kind

  agree : AgreeForBinder cached rows
  agree k f = p.sees k (ap (λ x. follows x k.kind) s_kind ∙ f)

  decided : IsBinderFirst cached u.key (firsts.Begins u.task)
  decided = subst (λ k. IsFirstOf k s.role.node s.memory cached u.key (firsts.Begins u.task)) s_kind gives.decided

  -- what is cached of a kind that is followed stands in the store
  stands : (o : Object) → follows seats.Binder (key_of o).kind ≡ true → row_at u.key cached ≡ Some o → row_at u.key rows ≡ Some o
  stands o f row = sym (agree u.key (ap (λ (key : Key). follows seats.Binder key.kind) (sym (row_at_key u.key o cached row)) ∙ f)) ∙ row

  not_begun : {X : Type 0} (machine : Machine) → binder_firsts.Begins machine ≡ binder_firsts.Drops → X
  not_begun machine e = absurd (true≢false (ap begins_one e))

  of_volume : (v : VolumeData) → row_at u.key rows ≡ Some (Volume v) → (machine : Machine) → binder_firsts.Begins machine ≡ volume_first v (volume_decision cached v NotAsked) → WouldHere
  of_volume v there machine begins = by (volume_due rows v) refl
    where
      begun : true ≡ is_some (volume_due rows v)
      begun = ap begins_one begins ∙ volume_begins_due v cached rows (λ r. agree (claim_key r.namespace r.name) refl)

      by : (due : Option Due) → volume_due rows v ≡ due → WouldHere
      by None is = absurd (true≢false (begun ∙ ap is_some is))
      by (Some action) is = by_acting setup seat role start s h u p gives (volumes_act setup seat role h u.key v action pass kind there is)

  of_claim : (c : ClaimData) → row_at u.key rows ≡ Some (Claim c) → (machine : Machine) → IsClaimFirst cached c (claim_decision cached c NotAsked) (binder_firsts.Begins machine) → WouldHere
  of_claim c there machine begins =
      let due = begun_due cached c (claim_decision cached c NotAsked) machine begins in
      by_acting setup seat role start s h u p gives
      (claims_act setup seat role h u.key c due.action pass kind there (sym (claim_begins_due c cached rows p.ready.rows (rows_stand_in_order setup h) agree) ∙ due.is))

  by_row : (row : Option Object) → row_at u.key cached ≡ row → (machine : Machine) → IsFirst cached row (binder_firsts.Begins machine) → WouldHere
  by_row (Some (Volume v)) is machine begins = of_volume v (stands (Volume v) refl is) machine begins
  by_row (Some (Claim c)) is machine begins = of_claim c (stands (Claim c) refl is) machine begins
  by_row None is machine begins = not_begun machine begins
  by_row (Some (Class x)) is machine begins = not_begun machine begins
  by_row (Some (Node x)) is machine begins = not_begun machine begins
  by_row (Some (Pod x)) is machine begins = not_begun machine begins

  by_task : (task : Task) → IsBinderFirst cached u.key (firsts.Begins task) → WouldHere
  by_task (tasks.Binder machine) begins = by_row (row_at u.key cached) refl machine begins
  by_task (tasks.ClaimProtect op) begins = absurd begins
  by_task (tasks.VolumeProtect op) begins = absurd begins
  by_task (tasks.Agent op) begins = absurd begins
  by_task (tasks.Provision op) begins = absurd begins
  by_task (tasks.Erase op) begins = absurd begins
  by_task (tasks.Schedule op) begins = absurd begins

  pub bound : WouldHere
  bound = by_task u.task decided

pub binding_lasts : BindingLasts
binding_lasts setup seat role pass kind start s h u p gives = bound setup seat role start pass kind s h u p gives
