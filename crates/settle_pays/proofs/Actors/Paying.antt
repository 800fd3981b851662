-- The binder pays.
use Rattle.std.proofs.Common.{◌≡◌, ◌∙◌, ℕ, List, true, Some, None, refl, sym, ap, subst}
use Rattle.std.specs.Prelude.{Option}
use Rattle.kube_types.specs.declared.lookup.Live.TheVariants.{NotAsked}
use Rattle.kube_objects.specs.declared.objects.Claim.{Claim as ClaimData}
use Rattle.kube_objects.specs.declared.objects.Volume.{Volume as VolumeData}
use Rattle.kube_objects.specs.declared.objects.Object.{Object}
use Rattle.kube_objects.specs.declared.objects.Object.TheVariants.{Class, Node, Volume, Claim, Pod}
use Rattle.kube_objects.specs.Keys.{key_of, row_at}
use Rattle.kube_objects.proofs.KeyOrder.{row_at_key}
use Rattle.call_types.specs.declared.entry.Entry.{Entry}
use Rattle.call_types.specs.declared.request.SeatKind.TheVariants as seats
use Rattle.call_types.specs.declared.setup.Setup.{Setup}
use Rattle.binder_model.specs.ObjectKeys.{claim_key, volume_key}
use Rattle.binder_model.specs.Promises.{IsRunOf}
use Rattle.binder_model.specs.Reading.{follows}
use Rattle.binder_model.specs.World.{world}
use Rattle.informer_cache.specs.All.{all_objects}
use Rattle.claim_sync.specs.ClaimDecision.{claim_decision}
use Rattle.volume_sync.specs.VolumeDecision.{volume_decision}
use Rattle.binder_machines.specs.declared.decide.FirstMachine.TheVariants as binder_firsts
use Rattle.binder_machines.specs.declared.machine.Machine.{Machine}
use Rattle.binder_machines.specs.FirstSteps.{IsClaimFirst, IsFirst, volume_first}
use Rattle.worker_core.specs.declared.role.Role.{Role}
use Rattle.worker_core.specs.declared.task.First.TheVariants as firsts
use Rattle.worker_core.specs.declared.task.Under.{Under}
use Rattle.worker_core.specs.States.{ActorState}
use Rattle.worker_core.specs.Tasks.{GivesCall, IsBinderFirst, IsFirstOf}
use Rattle.settle_writes.proofs.Writes.Fitting.{no_namespace}
use Rattle.settle_slot.specs.Slot.Slots.{IsDecisionPoint}
use Rattle.settle_due.proofs.Binding.Matches.{AgreeForBinder}
use Rattle.settle_due.proofs.Upkeep.Deciding.{stored}
use Rattle.settle_due.proofs.Upkeep.Known.{rows_known}
use Rattle.settle_due.proofs.Upkeep.Reclaims.{has_uid}
use Rattle.settle_pays.specs.Pays.Pays.{WillPay}
use Rattle.settle_pays.specs.Actors.Binding.{BindingPays}
use Rattle.settle_pays.proofs.Actors.Claims.{claim_begun_pays}
use Rattle.settle_pays.proofs.Actors.Deciding.{by_machine}
use Rattle.settle_pays.proofs.Actors.Volumes.{begun_pays, drops_none, volume_begun}
use Rattle.settle_pays.proofs.Actors.Walking.{MachinePays, claim_stands, volume_stands}

module _ (setup : Setup) (seat : ℕ) (role : Role) (kind : role.kind ≡ seats.Binder) (s : ActorState) (h : List Entry) (u : Under)
    (run : IsRunOf setup h) (p : IsDecisionPoint setup seat role h s h) (gives : GivesCall s.role s.memory (all_objects s.caches) u) where
  abbrev rows : List Object
  rows = (world setup h).store.rows

  abbrev cached : List Object
  cached = all_objects s.caches

  s_kind : s.role.kind ≡ seats.Binder
  s_kind = ap (λ (r : Role). r.kind) p.role_is ∙ kind

  agree : AgreeForBinder cached rows
  agree k f = p.sees k (ap (λ x. follows x k.kind) s_kind ∙ f)

  decided : IsBinderFirst cached u.key (firsts.Begins u.task)
  decided = subst (λ k. IsFirstOf k s.role.node s.memory cached u.key (firsts.Begins u.task)) s_kind gives.decided

  -- what is cached of a kind that is followed stands in the store
  on_store : (o : Object) → follows seats.Binder (key_of o).kind ≡ true → row_at u.key cached ≡ Some o → row_at (key_of o) rows ≡ Some o
  on_store o f row =
      let own : key_of o ≡ u.key = row_at_key u.key o cached row in
      sym (agree (key_of o) f) ∙ (ap (λ k. row_at k cached) own ∙ row)

  of_volume : (v : VolumeData) → row_at u.key cached ≡ Some (Volume v) → (machine : Machine)
      → binder_firsts.Begins machine ≡ volume_first v (volume_decision cached v NotAsked) → MachinePays setup seat u.key h machine
  of_volume v row machine begins =
      let there = on_store (Volume v) refl row in
      let own : key_of (Volume v) ≡ volume_key v.meta.name = rw (no_namespace v (stored setup h (key_of (Volume v)) (Volume v) run.imports there).valid) refl in
      begun_pays setup seat u.key h v machine (volume_stands setup h v (ap (λ k. row_at k rows) (sym own) ∙ there))
      (volume_begun rows v machine cached (λ r. agree (claim_key r.namespace r.name) refl) begins)

  of_claim : (c : ClaimData) → row_at u.key cached ≡ Some (Claim c) → (machine : Machine)
      → IsClaimFirst cached c (claim_decision cached c NotAsked) (binder_firsts.Begins machine) → MachinePays setup seat u.key h machine
  of_claim c row machine begins =
      let there = on_store (Claim c) refl row in
      let known = has_uid c.meta.uid (rows_known setup h run.imports (key_of (Claim c)) (Claim c) there) in
      claim_begun_pays setup seat u.key h run.imports cached p.ready.rows agree c (claim_stands setup h c known.uid there known.is) machine begins

  by_row : (row : Option Object) → row_at u.key cached ≡ row → (machine : Machine) → IsFirst cached row (binder_firsts.Begins machine) → MachinePays setup seat u.key h machine
  by_row (Some (Volume v)) is machine begins = of_volume v is machine begins
  by_row (Some (Claim c)) is machine begins = of_claim c is machine begins
  by_row None is machine begins = drops_none machine begins
  by_row (Some (Class x)) is machine begins = drops_none machine begins
  by_row (Some (Node x)) is machine begins = drops_none machine begins
  by_row (Some (Pod x)) is machine begins = drops_none machine begins

  pays : WillPay setup seat seats.Binder h u
  pays = by_machine setup seat h u cached gives.call (λ machine begins. by_row (row_at u.key cached) refl machine begins) decided

pub binding_pays : BindingPays
binding_pays setup seat role kind s h u run p gives = subst (λ k. WillPay setup seat k h u) (sym kind) (pays setup seat role kind s h u run p gives)
