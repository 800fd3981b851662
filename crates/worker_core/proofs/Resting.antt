-- Rows on which nothing is begun.
use Rattle.std.proofs.Common.{◌≡◌, ℕ, Bool, true, false, not, ◌&&◌, List, Option, Some, None, refl, sym, subst}
use Rattle.std.specs.Bool.{OnTrue}
use Rattle.kube_objects.specs.declared.key.Key.{Key}
use Rattle.kube_objects.specs.declared.objects.Claim.{Claim as ClaimData}
use Rattle.kube_objects.specs.declared.objects.Volume.{Volume as VolumeData}
use Rattle.kube_objects.specs.declared.objects.Object.{Object}
use Rattle.kube_objects.specs.declared.objects.Object.TheVariants.{Claim, Volume}
use Rattle.kube_objects.specs.Bindings.{is_deleting, is_empty, is_ended, is_completed}
use Rattle.kube_objects.specs.Keys.{row_at}
use Rattle.call_types.specs.declared.request.SeatKind.{SeatKind}
use Rattle.call_types.specs.declared.request.SeatKind.TheVariants as seats
use Rattle.binder_machines.specs.declared.decide.FirstMachine.TheVariants as binder_firsts
use Rattle.binder_machines.specs.FirstSteps.{IsFirst}
use Rattle.pod_scheduler.specs.Decisions.{BeginsOn}
use Rattle.pod_scheduler.specs.declared.tries.Tried.{Tried}
use Rattle.protect_sync.specs.Decisions.{claim_guard_begins, volume_guard_begins}
use Rattle.reclaim_ops.specs.Decisions.{claim_begins, volume_begins}
use Rattle.worker_core.specs.declared.task.First.TheVariants as firsts
use Rattle.worker_core.specs.Memories.{Memory}
use Rattle.worker_core.specs.Tasks.{IsFirstOf, claim_guard_first, ops_first, volume_guard_first}

and_false : (a : Bool) → (a && false) ≡ false
and_false true = refl
and_false false = refl

-- nothing is provisioned for a claim that names a volume
pub named_claim : (rows : List Object) (c : ClaimData) → is_empty c.volume_name ≡ false → ops_first (claim_begins rows (Some (Claim c))) (volume_begins (Some (Claim c))) ≡ firsts.Drops
named_claim rows c e = rw (e, and_false (not (is_completed c) && not (is_deleting c.meta))) refl

-- no volume is reclaimed that has not ended
pub lasting_volume : (rows : List Object) (v : VolumeData) → is_ended v.phase ≡ false → ops_first (claim_begins rows (Some (Volume v))) (volume_begins (Some (Volume v))) ≡ firsts.Drops
lasting_volume rows v e = rw e refl

imply : (b : Bool) (P Q : Type 0) → (P → Q) → OnTrue b P → OnTrue b Q
imply true P Q f p = f p
imply false P Q f p = tt

module _ (rows : List Object) (row : Option Object) (b : Bool) where
  -- whatever is remembered, nothing is begun on a key of this row
  abbrev Rests : SeatKind → Type 0
  Rests kind = (node : List ℕ) (m : Memory) (key : Key) → row_at key rows ≡ row → IsFirstOf kind node m rows key firsts.Drops

  pub for_binder : (kind : SeatKind) → kind ≡ seats.Binder → OnTrue b (IsFirst rows row binder_firsts.Drops) → OnTrue b (Rests kind)
  for_binder kind e h = subst (λ k. OnTrue b (Rests k)) (sym e) (imply b _ _ (λ f node m key at. subst (λ r. IsFirst rows r binder_firsts.Drops) (sym at) f) h)

  pub for_ops : (kind : SeatKind) → kind ≡ seats.Ops → OnTrue b ((os : List Object) → ops_first (claim_begins os row) (volume_begins row) ≡ firsts.Drops) → OnTrue b (Rests kind)
  for_ops kind e h = subst (λ k. OnTrue b (Rests k)) (sym e) (imply b _ _ (λ f node m key at. subst (λ r. firsts.Drops ≡ ops_first (claim_begins rows r) (volume_begins r)) (sym at) (sym (f rows))) h)

  pub for_scheduler : (kind : SeatKind) → kind ≡ seats.Scheduler → OnTrue b ((os : List Object) (refused : List Tried) → BeginsOn os refused row None) → OnTrue b (Rests kind)
  for_scheduler kind e h = subst (λ k. OnTrue b (Rests k)) (sym e) (imply b _ _ (λ f node m key at. subst (λ r. BeginsOn rows m.tries.refused r None) (sym at) (f rows m.tries.refused)) h)

  pub for_claims : (kind : SeatKind) → kind ≡ seats.ClaimProtect → OnTrue b ((os : List Object) → claim_guard_first (claim_guard_begins os row) ≡ firsts.Drops) → OnTrue b (Rests kind)
  for_claims kind e h = subst (λ k. OnTrue b (Rests k)) (sym e) (imply b _ _ (λ f node m key at. subst (λ r. firsts.Drops ≡ claim_guard_first (claim_guard_begins rows r)) (sym at) (sym (f rows))) h)

  pub for_volumes : (kind : SeatKind) → kind ≡ seats.VolumeProtect → OnTrue b (volume_guard_first (volume_guard_begins row) ≡ firsts.Drops) → OnTrue b (Rests kind)
  for_volumes kind e h = subst (λ k. OnTrue b (Rests k)) (sym e) (imply b _ _ (λ f node m key at. subst (λ r. firsts.Drops ≡ volume_guard_first (volume_guard_begins r)) (sym at) (sym f)) h)

  -- so where it is found that the row rests, the key is dropped
  pub rested : (kind : SeatKind) → b ≡ true → OnTrue b (Rests kind) → (node : List ℕ) (m : Memory) (key : Key) → row_at key rows ≡ row → IsFirstOf kind node m rows key firsts.Drops
  rested kind e h = subst (λ x. OnTrue x (Rests kind)) e h
