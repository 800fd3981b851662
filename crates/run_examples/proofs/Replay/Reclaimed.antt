-- The examples of a drain that reclaims a volume compute.
use Rattle.std.proofs.Common.{◌≡◌, [], ◌∷◌, length, Bool, true, false, Option, Some, inl, inr, refl, sym, ◌∙◌, ap, subst, arith}
use Rattle.std.specs.Prelude.{slice_get}
use Rattle.std.specs.declared.cmp.Ordering.{Ordering}
use Rattle.std.specs.declared.cmp.Ordering.TheVariants.{Less}
use Rattle.kube_objects.specs.declared.key.Key.{Key}
use Rattle.kube_parts.specs.declared.names.Due.{Due}
use Rattle.kube_parts.specs.declared.names.Due.TheVariants as dues
use Rattle.kube_objects.specs.declared.objects.Object.{Object}
use Rattle.kube_objects.specs.declared.objects.Object.TheVariants.{Volume}
use Rattle.kube_objects.specs.Keys.{key_of, key_cmp, row_at}
use Rattle.kube_objects.proofs.KeyOrder.{row_at_key}
use Rattle.call_types.specs.declared.entry.Entry.{Entry}
use Rattle.call_types.specs.declared.reply.Reply.TheVariants as replies
use Rattle.call_types.specs.declared.request.Request.TheVariants as requests
use Rattle.call_types.specs.declared.setup.Setup.{Setup}
use Rattle.binder_model.specs.Answers.{after, delete, delete_of, get, outcome, refuse}
use Rattle.binder_model.specs.BindWrites.{next_write, claim_write}
use Rattle.binder_model.specs.BinderDue.{volume_due, reference_due, referred_due, claim_with, claim_due, named_due, completed_due}
use Rattle.binder_model.specs.Devices.{device_answer, erase, unless_planned}
use Rattle.binder_model.specs.Due.{IsDue, IsFirstDue, IsSettled, or_due}
use Rattle.binder_model.specs.Imports.{imported_object}
use Rattle.binder_model.specs.Store.{first_moment, leaves, leaves_at_once, marked_object, with_meta}
use Rattle.binder_model.specs.Told.{own}
use Rattle.binder_model.specs.World.{World, effect, on_devices, world, world_after}
use Rattle.model_examples.specs.Samples.{ended_a, key_a}
use Rattle.model_examples.proofs.Tellings.{IsIn, differ, one}
use Rattle.model_laws.proofs.Readings.{found_stands as found_in}
use Rattle.settle_check.proofs.Settled.{not_settled}
use Rattle.world_core.specs.declared.drained.Drained.TheVariants.{Spent}
use Rattle.script_runs.specs.Replays.{IsReplay, Progress, first_progress}
use Rattle.run_examples.specs.Replay.Drains.{ReclaimExamples, data_erased, ended_script, ops_asks, volume_deleted}
use Rattle.run_examples.proofs.Replay.Firsts.{ends_so, first_call, last_drainers, no_lines}

-- ---- the worlds

abbrev setup : Setup
setup = ended_script.setup

-- the volume as the world begins with it, and once it was deleted

abbrev ended : Object
ended = Volume ended_a

abbrev marked : Object
marked = Volume (record ended_a { meta = record ended_a.meta { version = 9; deleted = Some first_moment } })

begins : (world setup []).store.rows ≡ ended ∷ []
unfolding imported_object
begins = refl

stands : (world setup data_erased).store.rows ≡ ended ∷ []
unfolding world_after effect on_devices device_answer after outcome get erase unless_planned imported_object
stands = refl

marks : (world setup volume_deleted).store.rows ≡ marked ∷ []
unfolding world_after effect on_devices device_answer after outcome get erase unless_planned imported_object delete delete_of refuse marked_object with_meta leaves leaves_at_once
marks = refl

-- ---- what is due in a world of one object

abbrev is_less : Ordering → Bool
is_less Less = true
is_less o = false

abbrev is_reclaim : Option Due → Bool
is_reclaim (Some dues.Reclaim) = true
is_reclaim action = false

alone : (o : Object) → key_of o ≡ key_a → (earlier : Key) (other : Object) → key_of other ≡ earlier → key_cmp earlier key_a ≡ Less → IsIn other (o ∷ []) → ⊥
alone o own earlier other k less (inl e) = differ is_less (sym (subst (λ k. key_cmp k key_a ≡ Less) (sym k ∙ sym (ap key_of e) ∙ own) less)) refl refl
alone o own earlier other k less (inr h) = h

only_due : (w : World) (o : Object) (action : Due) → w.store.rows ≡ o ∷ [] → key_of o ≡ key_a → row_at key_a (o ∷ []) ≡ Some o
    → IsDue setup w o (Some action) → IsFirstDue setup w (Some (key_a, action))
only_due w o action rows own at due = record {
  object = o;
  there = ap (row_at key_a) rows ∙ at;
  due = due;
  first = λ earlier other e less.
      let there = sym (ap (row_at earlier) rows) ∙ e in absurd (alone o own earlier other (row_at_key earlier other (o ∷ []) there) less (found_in earlier other (o ∷ []) there));
}

reclaim_due : (w : World) → w.store.rows ≡ ended ∷ [] → IsFirstDue setup w (Some (key_a, dues.Reclaim))
unfolding or_due volume_due reference_due referred_due claim_with claim_due named_due completed_due next_write claim_write
reclaim_due w rows = only_due w ended dues.Reclaim rows refl refl refl

unguard_due : (w : World) → w.store.rows ≡ marked ∷ [] → IsFirstDue setup w (Some (key_a, dues.Unguard))
unfolding or_due volume_due reference_due referred_due claim_with claim_due named_due completed_due next_write claim_write
unguard_due w rows = only_due w marked dues.Unguard rows refl refl refl

no_reclaim_due : (w : World) → w.store.rows ≡ marked ∷ [] → IsFirstDue setup w (Some (key_a, dues.Reclaim)) → ⊥
unfolding or_due volume_due reference_due referred_due claim_with claim_due named_due completed_due next_write claim_write
no_reclaim_due w rows f =
    let there : row_at key_a (marked ∷ []) ≡ Some f.object = sym (ap (row_at key_a) rows) ∙ f.there in
    differ is_reclaim (subst (λ o. IsDue setup w o (Some dues.Reclaim)) (sym (one marked f.object there)) f.due) refl refl

unsettled : (w : World) → w.store.rows ≡ ended ∷ [] → IsSettled setup w → ⊥
unsettled w rows settled = not_settled setup w (key_a, dues.Reclaim) (reclaim_due w rows) settled

-- ---- the drains

-- ops makes no first call
begins_otherwise : IsReplay ended_script (Some 2) data_erased (Spent 2 key_a dues.Reclaim) → ⊥
begins_otherwise r =
    let none : r.lines_done ≡ first_progress (Some 2) r.drainers = no_lines ended_script (Some 2) r.lines_done (first_progress (Some 2) r.drainers) [] refl r.moves in
    let empty : r.lines_done.past ≡ [] = ap (λ (p : Progress). p.past) none in
    let first = first_call ended_script (Some 2) r.lines_done r.end r.last
    (last_drainers ended_script (Some 2) data_erased (Spent 2 key_a dues.Reclaim) r) (λ same. let both : data_erased ≡ [] = r.history ∙ same ∙ empty in absurd (cc)) (ap (own 7) empty) in
    let long : length r.lines_done.past ≡ 0 = ap length empty in
    let at : slice_get data_erased 1 ≡ Some first.entry = ends_so data_erased first.later first.entry r.lines_done.past 1 (r.history ∙ first.are) (omega (arith, long)) in
    let e : 7 ≡ 6 = sym first.of_seat ∙ ap (λ (x : Entry). x.seat) (sym (one (ops_asks (requests.Get key_a) (replies.Found (Volume ended_a))) first.entry at)) in
    absurd (omega (arith, e))

pub reclaim_cases : ReclaimExamples
reclaim_cases = record {
  due_until_it_is_deleted = (refl, refl, reclaim_due (world setup data_erased) stands);
  then_its_protection_is_dropped = (refl, refl, unguard_due (world setup volume_deleted) marks);
  not_by_ops_alone = begins_otherwise;
  not_reclaimed_twice = λ r. no_reclaim_due (world setup volume_deleted) marks (subst (λ h. IsFirstDue setup (world setup h) (Some (key_a, dues.Reclaim))) (sym r.history) r.ends.2);
  not_settled_before = λ r. unsettled (world setup data_erased) stands (subst (λ h. IsSettled setup (world setup h)) (sym r.history) r.ends.1);
}
