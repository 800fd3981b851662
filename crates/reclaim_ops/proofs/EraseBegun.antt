-- What begins on a volume has its evidence, where the look-up shows what was told newest; and it has a next call.
use Rattle.std.proofs.Common.{◌≡◌, ◌∙◌, List, Bool, true, false, true≢false, Option, Some, None, refl, sym, ap, subst, if◌then◌else◌}
use Rattle.std.specs.Prelude.{is_some, not, ◌&&◌}
use Rattle.std.proofs.lemmas.Bool.{and_parts, not-true}
use Rattle.kube_objects.specs.declared.key.Key.{Key}
use Rattle.kube_parts.specs.declared.names.Due.{Due}
use Rattle.kube_parts.specs.declared.names.Due.TheVariants as dues
use Rattle.kube_objects.specs.declared.objects.Volume.{Volume as VolumeData}
use Rattle.kube_objects.specs.declared.objects.Object.{Object}
use Rattle.kube_objects.specs.declared.objects.Object.TheVariants.{Volume}
use Rattle.kube_objects.specs.Bindings.{is_delete, is_deleting, is_ended, ref_uid}
use Rattle.kube_objects.specs.Keys.{row_at}
use Rattle.kube_objects.proofs.KeyOrder.{row_at_key}
use Rattle.call_types.specs.declared.entry.Entry.{Entry}
use Rattle.binder_model.specs.Due.{reclaim_due}
use Rattle.binder_model.specs.OpsLicence.{IsToErase}
use Rattle.binder_model.specs.Told.{IsNewest}
use Rattle.informer_cache.specs.All.{AllKnown, AllStandFor, all_objects}
use Rattle.model_laws.proofs.Lists.{none_some, one}
use Rattle.reclaim_ops.specs.declared.erase.EraseOp.{EraseOp}
use Rattle.reclaim_ops.specs.declared.erase.EraseStep.{EraseStep}
use Rattle.reclaim_ops.specs.declared.erase.EraseStep.TheVariants as steps
use Rattle.reclaim_ops.specs.BeginLaw.{BegunErasuresHaveCalls, ParkedErasuresHaveEnded}
use Rattle.reclaim_ops.specs.Decisions.{volume_begins, volume_for}
use Rattle.reclaim_ops.specs.Erasures.{erase_call_at, erase_call, erase_parks, key_of_volume}
use Rattle.reclaim_ops.specs.Evidence.{EraseKeeps}

if_some : (b : Bool) → is_some (if b then Some dues.Reclaim else None) ≡ true → b ≡ true
if_some true h = refl
if_some false h = absurd (true≢false (sym h))

-- what reclaiming is due for may be erased
pub to_erase : (v : VolumeData) → is_some (reclaim_due v) ≡ true → IsToErase v
to_erase v h =
    let all = if_some (is_ended v.phase && is_delete v.policy && is_some (ref_uid v.claim_ref) && not (is_deleting v.meta)) h in
    let last = and_parts _ (not (is_deleting v.meta)) all in
    let third = and_parts _ (is_some (ref_uid v.claim_ref)) last.0 in
    let first = and_parts (is_ended v.phase) (is_delete v.policy) third.0 in
    record { ended = first.0; policy = first.1; referring = third.1; staying = not-true (is_deleting v.meta) last.1 }

becomes : (a b : EraseOp) (mine : List Entry) → Some a ≡ Some b → EraseKeeps a mine → EraseKeeps b mine
becomes a b mine e kept = subst (λ (k : EraseOp). EraseKeeps k mine) (one a b e) kept

volume_keeps : (v : VolumeData) (mine : List Entry) (op : EraseOp) → IsNewest mine (key_of_volume v) (Volume v) → volume_for v (reclaim_due v) ≡ Some op → EraseKeeps op mine
volume_keeps v mine op newest_is = by (reclaim_due v) refl
  where
    by : (action : Option Due) → reclaim_due v ≡ action → volume_for v action ≡ Some op → EraseKeeps op mine
    by (Some dues.Reclaim) due e = becomes (record { volume = v; step = steps.ReadsVolume }) op mine e (record { newest = newest_is; ended = to_erase v (ap is_some due) })
    by (Some _) due e = none_some e
    by None due e = none_some e

pub erase_decisions : (caches : AllKnown) (mine : List Entry) (key : Key) (op : EraseOp) → AllStandFor caches mine → volume_begins (row_at key (all_objects caches)) ≡ Some op → EraseKeeps op mine
erase_decisions caches mine key op stand = by (row_at key (all_objects caches)) refl
  where
    own : (v : VolumeData) → row_at key (all_objects caches) ≡ Some (Volume v) → IsNewest mine (key_of_volume v) (Volume v)
    own v at = subst (λ k. IsNewest mine k (Volume v)) (sym (row_at_key key (Volume v) (all_objects caches) at)) (sym (stand.rows key) ∙ at)

    by : (row : Option Object) → row_at key (all_objects caches) ≡ row → volume_begins row ≡ Some op → EraseKeeps op mine
    by (Some (Volume v)) at e = volume_keeps v mine op (own v at) e
    by None at e = none_some e
    by (Some _) at e = none_some e

-- next calls

has_call : (a b : EraseOp) → Some a ≡ Some b → is_some (erase_call a) ≡ true → is_some (erase_call b) ≡ true
has_call a b e is = subst (λ (k : EraseOp). is_some (erase_call k) ≡ true) (one a b e) is

volume_calls : (v : VolumeData) (action : Option Due) (op : EraseOp) → volume_for v action ≡ Some op → is_some (erase_call op) ≡ true
unfolding erase_call
volume_calls v (Some dues.Reclaim) op e = has_call (record { volume = v; step = steps.ReadsVolume }) op e refl
volume_calls v (Some _) op e = none_some e
volume_calls v None op e = none_some e

pub begun_erasures_have_calls : BegunErasuresHaveCalls
begun_erasures_have_calls (Some (Volume v)) op e = volume_calls v (reclaim_due v) op e
begun_erasures_have_calls None op e = none_some e
begun_erasures_have_calls (Some _) op e = none_some e

-- what is parked has ended

pub parked_erasures_have_ended : ParkedErasuresHaveEnded
unfolding erase_call
parked_erasures_have_ended op = by op.step
  where
    by : (step : EraseStep) → erase_parks step ≡ true → erase_call_at step op.volume ≡ None
    by steps.Parked e = refl
    by steps.ReadsVolume e = absurd (true≢false (sym e))
    by (steps.Erases uid) e = absurd (true≢false (sym e))
    by (steps.Deletes uid) e = absurd (true≢false (sym e))
    by steps.WritesFailed e = absurd (true≢false (sym e))
    by steps.Done e = absurd (true≢false (sym e))
