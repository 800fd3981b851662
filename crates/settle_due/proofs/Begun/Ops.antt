-- What the provisioner and reclaimer begins lasts, where it is due: on each volume, and on each claim but where nothing is due of provisioning.
use Rattle.std.proofs.Common.{◌≡◌, ◌∙◌, ◌⊎◌, ℕ, List, true, Option, Some, None, inl, inr, refl, sym, ap, subst}
use Rattle.kube_objects.specs.declared.key.Key.{Key}
use Rattle.kube_parts.specs.declared.names.Due.{Due}
use Rattle.kube_objects.specs.declared.objects.Claim.{Claim as ClaimData}
use Rattle.kube_objects.specs.declared.objects.Volume.{Volume as VolumeData}
use Rattle.kube_objects.specs.declared.objects.Object.{Object}
use Rattle.kube_objects.specs.declared.objects.Object.TheVariants.{Class, Node, Volume, Claim, Pod}
use Rattle.kube_objects.specs.Keys.{key_of, row_at}
use Rattle.kube_objects.proofs.KeyOrder.{row_at_key}
use Rattle.call_types.specs.declared.entry.Entry.{Entry}
use Rattle.call_types.specs.declared.request.SeatKind.TheVariants as seats
use Rattle.call_types.specs.declared.setup.Setup.{Setup}
use Rattle.binder_model.specs.Due.{provision_due, reclaim_due}
use Rattle.binder_model.specs.Imports.{ImportsPass}
use Rattle.binder_model.specs.Reading.{follows}
use Rattle.binder_model.specs.World.{world}
use Rattle.informer_cache.specs.All.{all_objects}
use Rattle.reclaim_ops.specs.Decisions.{claim_begins, volume_begins, volume_for}
use Rattle.worker_core.specs.declared.role.Role.{Role}
use Rattle.worker_core.specs.declared.task.First.TheVariants as firsts
use Rattle.worker_core.specs.declared.task.Under.{Under}
use Rattle.worker_core.specs.States.{ActorState}
use Rattle.worker_core.specs.Tasks.{GivesCall, IsFirstOf, erase_first, ops_first}
use Rattle.settle_slot.specs.Slot.Slots.{IsDecisionPoint}
use Rattle.settle_slot.specs.Slot.Would.{WouldLast}
use Rattle.settle_due.proofs.Upkeep.Reclaims.{reclaims_act}
use Rattle.settle_due.proofs.Provisioning.Provisions.{provisioner_acts}
use Rattle.settle_due.specs.Begun.Begun.{IsOfNoneDue, OpsLast}
use Rattle.settle_due.proofs.Begun.Seeing.{by_acting}
use Rattle.settle_writes.proofs.Done.Saying.{no_task as not_dropped}

module _ (setup : Setup) (seat : ℕ) (role : Role) (start : List Entry) (pass : ImportsPass setup.imports) (kind : role.kind ≡ seats.Ops)
    (s : ActorState) (h : List Entry) (u : Under) (p : IsDecisionPoint setup seat role start s h) (gives : GivesCall s.role s.memory (all_objects s.caches) u) where
  abbrev cached : List Object
  cached = all_objects s.caches

  abbrev rows : List Object
  rows = (world setup h).store.rows

  abbrev WouldOr : Type 0
  WouldOr = WouldLast setup seat role.kind start h u ⊎ IsOfNoneDue setup h u.key

  s_kind : s.role.kind ≡ seats.Ops
  s_kind = ap (λ (r : Role). r.kind) p.role_is ∙ kind

  decided : firsts.Begins u.task ≡ ops_first (claim_begins cached (row_at u.key cached)) (volume_begins (row_at u.key cached))
  decided = subst (λ k. IsFirstOf k s.role.node s.memory cached u.key (firsts.Begins u.task)) s_kind gives.decided

  -- what is cached of a kind that is followed stands in the store
  stands : (o : Object) → follows seats.Ops (key_of o).kind ≡ true → row_at u.key cached ≡ Some o → row_at u.key rows ≡ Some o
  stands o f row = sym (p.sees u.key (ap (λ x. follows x u.key.kind) s_kind ∙ (ap (λ (key : Key). follows seats.Ops key.kind) (sym (row_at_key u.key o cached row)) ∙ f))) ∙ row

  of_volume : (v : VolumeData) → row_at u.key rows ≡ Some (Volume v) → (action : Option Due) → reclaim_due v ≡ action → firsts.Begins u.task ≡ erase_first (volume_for v action) → WouldOr
  of_volume v there None due begins = not_dropped u.task begins
  of_volume v there (Some action) due begins = inl (by_acting setup seat role start s h u p gives (reclaims_act setup seat role h u.key v action pass kind there due))

  of_claim : (c : ClaimData) → row_at u.key rows ≡ Some (Claim c) → (action : Option Due) → provision_due setup (world setup h) c ≡ action → WouldOr
  of_claim c there None due = inr (record { claim = c; there = there; none = due })
  of_claim c there (Some action) due = inl (by_acting setup seat role start s h u p gives (provisioner_acts action setup seat role h u.key c pass kind there due))

  by_row : (row : Option Object) → row_at u.key cached ≡ row → firsts.Begins u.task ≡ ops_first (claim_begins cached row) (volume_begins row) → WouldOr
  by_row (Some (Volume v)) is begins = of_volume v (stands (Volume v) refl is) (reclaim_due v) refl begins
  by_row (Some (Claim c)) is begins = of_claim c (stands (Claim c) refl is) (provision_due setup (world setup h) c) refl
  by_row None is begins = not_dropped u.task begins
  by_row (Some (Class x)) is begins = not_dropped u.task begins
  by_row (Some (Node x)) is begins = not_dropped u.task begins
  by_row (Some (Pod x)) is begins = not_dropped u.task begins

  pub provided : WouldOr
  provided = by_row (row_at u.key cached) refl decided

pub ops_last : OpsLast
ops_last setup seat role start s h u pass kind p gives = provided setup seat role start pass kind s h u p gives
