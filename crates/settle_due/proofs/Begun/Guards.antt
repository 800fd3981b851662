-- What the protection controllers begin lasts: they begin only what is due.
use Rattle.std.proofs.Common.{◌≡◌, ◌∙◌, ℕ, List, Bool, true, false, Option, Some, None, refl, sym, ap, subst}
use Rattle.kube_objects.specs.declared.key.Key.{Key}
use Rattle.kube_parts.specs.declared.names.Due.{Due}
use Rattle.kube_objects.specs.declared.objects.Claim.{Claim as ClaimData}
use Rattle.kube_objects.specs.declared.objects.Volume.{Volume as VolumeData}
use Rattle.kube_objects.specs.declared.objects.Object.{Object}
use Rattle.kube_objects.specs.declared.objects.Object.TheVariants.{Class, Node, Volume, Claim, Pod}
use Rattle.kube_objects.specs.Bindings.{is_deleting, is_protected_claim, uses}
use Rattle.kube_objects.specs.Keys.{key_of, row_at}
use Rattle.kube_objects.proofs.KeyOrder.{row_at_key}
use Rattle.call_types.specs.declared.entry.Entry.{Entry}
use Rattle.call_types.specs.declared.request.SeatKind.{SeatKind}
use Rattle.call_types.specs.declared.request.SeatKind.TheVariants as seats
use Rattle.call_types.specs.declared.setup.Setup.{Setup}
use Rattle.binder_model.specs.Due.{claim_guard_due, guard_due, volume_guard_due}
use Rattle.binder_model.specs.Imports.{ImportsPass}
use Rattle.binder_model.specs.Reading.{follows}
use Rattle.binder_model.specs.World.{world}
use Rattle.informer_cache.specs.All.{all_objects}
use Rattle.model_laws.proofs.Histories.{rows_stand_in_order}
use Rattle.protect_sync.specs.Decisions.{claim_guard_begins, claim_guard_for, volume_guard_begins, volume_guard_for}
use Rattle.worker_core.specs.declared.role.Role.{Role}
use Rattle.worker_core.specs.declared.task.First.{First}
use Rattle.worker_core.specs.declared.task.First.TheVariants as firsts
use Rattle.worker_core.specs.declared.task.Under.{Under}
use Rattle.worker_core.specs.States.{ActorState}
use Rattle.worker_core.specs.Tasks.{GivesCall, IsFirstOf, claim_guard_first, volume_guard_first}
use Rattle.settle_slot.specs.Slot.Slots.{IsDecisionPoint}
use Rattle.settle_slot.specs.Slot.Would.{WouldLast}
use Rattle.settle_due.proofs.Upkeep.Claims.{claim_guards_act, uses_pod}
use Rattle.settle_due.proofs.Upkeep.Guards.{volume_guards_act}
use Rattle.settle_due.specs.Begun.Begun.{ClaimGuardsLast, VolumeGuardsLast}
use Rattle.settle_due.proofs.Begun.Seeing.{any_seen, by_acting}
use Rattle.settle_writes.proofs.Done.Saying.{no_task as not_dropped}

abbrev is_drop : First → Bool
is_drop firsts.Drops = true
is_drop first = false

module _ (setup : Setup) (seat : ℕ) (role : Role) (start : List Entry) (pass : ImportsPass setup.imports) (s : ActorState) (h : List Entry)
    (u : Under) (p : IsDecisionPoint setup seat role start s h) (gives : GivesCall s.role s.memory (all_objects s.caches) u) where
  abbrev cached : List Object
  cached = all_objects s.caches

  abbrev rows : List Object
  rows = (world setup h).store.rows

  abbrev WouldHere : Type 0
  WouldHere = WouldLast setup seat role.kind start h u

  -- an actor of this kind
  module _ (k : SeatKind) (kind : role.kind ≡ k) where
    s_kind : s.role.kind ≡ k
    s_kind = ap (λ (r : Role). r.kind) p.role_is ∙ kind

    decided : IsFirstOf k s.role.node s.memory cached u.key (firsts.Begins u.task)
    decided = subst (λ x. IsFirstOf x s.role.node s.memory cached u.key (firsts.Begins u.task)) s_kind gives.decided

    agree : (key : Key) → follows k key.kind ≡ true → row_at key cached ≡ row_at key rows
    agree key f = p.sees key (ap (λ x. follows x key.kind) s_kind ∙ f)

    -- what is cached of a kind that is followed stands in the store
    stands : (o : Object) → follows k (key_of o).kind ≡ true → row_at u.key cached ≡ Some o → row_at u.key rows ≡ Some o
    stands o f row = sym (agree u.key (ap (λ (key : Key). follows k key.kind) (sym (row_at_key u.key o cached row)) ∙ f)) ∙ row

  -- volume protection

  of_volume : role.kind ≡ seats.VolumeProtect → (v : VolumeData) → row_at u.key rows ≡ Some (Volume v) → (action : Option Due)
      → volume_guard_due v ≡ action → firsts.Begins u.task ≡ volume_guard_first (volume_guard_for v action) → WouldHere
  of_volume kind v there None due begins = not_dropped u.task begins
  of_volume kind v there (Some action) due begins = by_acting setup seat role start s h u p gives (volume_guards_act setup seat role h u.key v action pass kind there due)

  by_volume : role.kind ≡ seats.VolumeProtect → (row : Option Object) → row_at u.key cached ≡ row → firsts.Begins u.task ≡ volume_guard_first (volume_guard_begins row) → WouldHere
  by_volume kind (Some (Volume v)) is begins = of_volume kind v (stands seats.VolumeProtect kind (Volume v) refl is) (volume_guard_due v) refl begins
  by_volume kind None is begins = not_dropped u.task begins
  by_volume kind (Some (Class x)) is begins = not_dropped u.task begins
  by_volume kind (Some (Node x)) is begins = not_dropped u.task begins
  by_volume kind (Some (Claim x)) is begins = not_dropped u.task begins
  by_volume kind (Some (Pod x)) is begins = not_dropped u.task begins

  pub volume_guarded : role.kind ≡ seats.VolumeProtect → WouldHere
  volume_guarded kind = by_volume kind (row_at u.key cached) refl (decided seats.VolumeProtect kind)

  -- claim protection

  -- the pods that use the claim are those that the caches show
  due_seen : role.kind ≡ seats.ClaimProtect → (c : ClaimData) → claim_guard_due cached c ≡ claim_guard_due rows c
  due_seen kind c =
      ap (guard_due (is_deleting c.meta) (is_protected_claim c))
      (any_seen seats.ClaimProtect cached rows p.ready.rows (rows_stand_in_order setup h) (agree seats.ClaimProtect kind) (uses c) (λ o e. ap (λ x. follows seats.ClaimProtect x) (uses_pod c o e)))

  of_claim : role.kind ≡ seats.ClaimProtect → (c : ClaimData) → row_at u.key rows ≡ Some (Claim c) → (action : Option Due)
      → claim_guard_due cached c ≡ action → firsts.Begins u.task ≡ claim_guard_first (claim_guard_for c action) → WouldHere
  of_claim kind c there None due begins = not_dropped u.task begins
  of_claim kind c there (Some action) due begins = by_acting setup seat role start s h u p gives (claim_guards_act setup seat role h u.key c action pass kind there (sym (due_seen kind c) ∙ due))

  by_claim : role.kind ≡ seats.ClaimProtect → (row : Option Object) → row_at u.key cached ≡ row → firsts.Begins u.task ≡ claim_guard_first (claim_guard_begins cached row) → WouldHere
  by_claim kind (Some (Claim c)) is begins = of_claim kind c (stands seats.ClaimProtect kind (Claim c) refl is) (claim_guard_due cached c) refl begins
  by_claim kind None is begins = not_dropped u.task begins
  by_claim kind (Some (Class x)) is begins = not_dropped u.task begins
  by_claim kind (Some (Node x)) is begins = not_dropped u.task begins
  by_claim kind (Some (Volume x)) is begins = not_dropped u.task begins
  by_claim kind (Some (Pod x)) is begins = not_dropped u.task begins

  pub claim_guarded : role.kind ≡ seats.ClaimProtect → WouldHere
  claim_guarded kind = by_claim kind (row_at u.key cached) refl (decided seats.ClaimProtect kind)

pub volume_guards_last : VolumeGuardsLast
volume_guards_last setup seat role pass kind start s h u p gives = volume_guarded setup seat role start pass s h u p gives kind

pub claim_guards_last : ClaimGuardsLast
claim_guards_last setup seat role pass kind start s h u p gives = claim_guarded setup seat role start pass s h u p gives kind
