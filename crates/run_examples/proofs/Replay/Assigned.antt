-- The examples of a drain that gives a pod its node compute.
use Rattle.std.proofs.Common.{◌≡◌, [], ◌∷◌, length, Bool, true, false, Option, Some, None, inl, inr, refl, sym, ◌∙◌, ap, subst, arith}
use Rattle.std.specs.Prelude.{slice_get}
use Rattle.std.specs.declared.cmp.Ordering.{Ordering}
use Rattle.std.specs.declared.cmp.Ordering.TheVariants.{Less}
use Rattle.kube_objects.specs.declared.key.Key.{Key}
use Rattle.kube_parts.specs.declared.names.Due.{Due}
use Rattle.kube_parts.specs.declared.names.Due.TheVariants as dues
use Rattle.kube_objects.specs.declared.objects.Object.{Object}
use Rattle.kube_objects.specs.declared.objects.Object.TheVariants.{Node, Pod}
use Rattle.kube_parts.specs.declared.parts.Kind.TheVariants as kinds
use Rattle.kube_objects.specs.Keys.{key_of, key_cmp, row_at}
use Rattle.kube_objects.proofs.KeyOrder.{row_at_key}
use Rattle.call_types.specs.declared.entry.Entry.{Entry}
use Rattle.call_types.specs.declared.request.Request.TheVariants as requests
use Rattle.call_types.specs.declared.setup.Setup.{Setup}
use Rattle.binder_model.specs.Answers.{after, bind, outcome, pod_with, refuse}
use Rattle.binder_model.specs.Choice.{step_of}
use Rattle.binder_model.specs.Devices.{device_answer}
use Rattle.binder_model.specs.Due.{IsDue, IsFirstDue, IsSettled, IsStepDue}
use Rattle.binder_model.specs.Imports.{imported_object}
use Rattle.binder_model.specs.Store.{at_version, leaves, with_meta}
use Rattle.binder_model.specs.Told.{own}
use Rattle.binder_model.specs.World.{World, effect, on_devices, world, world_after}
use Rattle.model_examples.specs.Samples.{key_p, n1, node_1, uid_p}
use Rattle.model_examples.proofs.Tellings.{IsIn, differ, one}
use Rattle.model_laws.proofs.Readings.{found_stands as found_in}
use Rattle.settle_check.proofs.Settled.{not_settled}
use Rattle.world_core.specs.declared.drained.Drained.TheVariants.{Spent}
use Rattle.script_runs.specs.Replays.{IsReplay, NoMoves, Progress, first_progress}
use Rattle.run_examples.specs.Replay.Drains.{AssignExamples, assigned_p, lone_p, pod_assigned, pod_script}
use Rattle.script_runs.specs.Parts.{drain_seat}
use Rattle.run_examples.proofs.Replay.Drained.{spent_drain}
use Rattle.run_examples.proofs.Replay.Drainers.{drainers_new, drainers_of}
use Rattle.run_examples.proofs.Replay.Firsts.{ends_so, first_call, last_drainers, no_lines}

-- ---- the worlds

abbrev setup : Setup
setup = pod_script.setup

abbrev first : World
first = world setup []

abbrev last : World
last = world setup pod_assigned

begins : first.store.rows ≡ Node n1 ∷ Pod lone_p ∷ []
unfolding imported_object leaves
begins = refl

assigns : last.store.rows ≡ Node n1 ∷ Pod assigned_p ∷ []
unfolding world_after effect on_devices device_answer after outcome refuse bind pod_with at_version with_meta imported_object leaves
assigns = refl

-- ---- what is due in a world of the node and a pod

abbrev is_less : Ordering → Bool
is_less Less = true
is_less o = false

abbrev is_assign : Option Due → Bool
is_assign (Some dues.Assign) = true
is_assign action = false

-- before the pod stands the node alone, of which nothing is due
none_before : (w : World) (o : Object) → key_of o ≡ key_p → w.store.rows ≡ Node n1 ∷ o ∷ [] → (earlier : Key) (other : Object)
    → row_at earlier w.store.rows ≡ Some other → key_cmp earlier key_p ≡ Less → IsDue setup w other None
none_before w o own rows earlier other e less = by (found_in earlier other (Node n1 ∷ o ∷ []) there)
  where
    there : row_at earlier (Node n1 ∷ o ∷ []) ≡ Some other
    there = sym (ap (row_at earlier) rows) ∙ e

    its : key_of other ≡ earlier
    its = row_at_key earlier other (Node n1 ∷ o ∷ []) there

    by : IsIn other (Node n1 ∷ o ∷ []) → IsDue setup w other None
    by (inl is) = subst (λ x. IsDue setup w x None) is refl
    by (inr (inl is)) = absurd (differ is_less (sym (subst (λ k. key_cmp k key_p ≡ Less) (sym its ∙ sym (ap key_of is) ∙ own) less)) refl refl)
    by (inr (inr h)) = absurd h

only_due : (w : World) (o : Object) (action : Due) → w.store.rows ≡ Node n1 ∷ o ∷ [] → key_of o ≡ key_p → row_at key_p (Node n1 ∷ o ∷ []) ≡ Some o
    → IsDue setup w o (Some action) → IsFirstDue setup w (Some (key_p, action))
only_due w o action rows own at due = record { object = o; there = ap (row_at key_p) rows ∙ at; due = due; first = none_before w o own rows }

assign_due : IsFirstDue setup first (Some (key_p, dues.Assign))
assign_due = only_due first (Pod lone_p) dues.Assign begins refl refl (subst (λ rows. IsStepDue setup first lone_p (step_of rows lone_p) (Some dues.Assign)) (sym begins) refl)

is_to_be_mounted : IsDue setup last (Pod assigned_p) (Some dues.Mount)
unfolding world_after effect on_devices device_answer after outcome refuse bind pod_with at_version with_meta imported_object leaves
is_to_be_mounted = refl

mount_due : IsFirstDue setup last (Some (key_p, dues.Mount))
mount_due = only_due last (Pod assigned_p) dues.Mount assigns refl refl is_to_be_mounted

no_assign_due : IsFirstDue setup last (Some (key_p, dues.Assign)) → ⊥
no_assign_due f =
    let there : row_at key_p (Node n1 ∷ Pod assigned_p ∷ []) ≡ Some f.object = sym (ap (row_at key_p) assigns) ∙ f.there in
    let due = subst (λ o. IsDue setup last o (Some dues.Assign)) (sym (one (Pod assigned_p) f.object there)) f.due in
    differ is_assign (due ∙ sym is_to_be_mounted) refl refl

unsettled : IsSettled setup first → ⊥
unsettled settled = not_settled setup first (key_p, dues.Assign) assign_due settled

-- ---- the drains

-- the scheduler lists the volumes before it gives the pod a node
lists_before : IsReplay pod_script (Some 1) pod_assigned (Spent 1 key_p dues.Mount) → ⊥
lists_before r =
    let none : r.lines_done ≡ first_progress (Some 1) r.drainers = no_lines pod_script (Some 1) r.lines_done (first_progress (Some 1) r.drainers) [] refl r.moves in
    let empty : r.lines_done.past ≡ [] = ap (λ (p : Progress). p.past) none in
    let call = first_call pod_script (Some 1) r.lines_done r.end r.last (last_drainers pod_script (Some 1) pod_assigned (Spent 1 key_p dues.Mount) r)
    (λ same. let both : pod_assigned ≡ [] = r.history ∙ same ∙ empty in absurd (cc)) (ap (own 7) empty) in
    let long : length r.lines_done.past ≡ 0 = ap length empty in
    let at : slice_get pod_assigned 0 ≡ Some call.entry = ends_so pod_assigned call.later call.entry r.lines_done.past 0 (r.history ∙ call.are) (omega (arith, long)) in
    let e : requests.BindPod key_p uid_p node_1 ≡ requests.List kinds.PersistentVolume None = ap (λ (x : Entry). x.request) (one _ call.entry at) ∙ call.asks in
    absurd (cc)

pub assign_cases : AssignExamples
assign_cases = record {
  due_until_it_has_a_node =
      record {
        drainers = drainers_of pod_script;
        new = drainers_new (drain_seat pod_script) pod_script.node_names;
        lines_done = first_progress (Some 0) (drainers_of pod_script);
        end = first_progress (Some 0) (drainers_of pod_script);
        moves = NoMoves refl refl;
        last =
            spent_drain pod_script (key_p, dues.Assign) assign_due;
        history = refl;
        ends = (refl, refl, assign_due);
      };
  then_it_is_to_be_mounted = (refl, refl, mount_due);
  not_before_anything_was_listed = lists_before;
  not_assigned_twice = λ r. no_assign_due (subst (λ h. IsFirstDue setup (world setup h) (Some (key_p, dues.Assign))) (sym r.history) r.ends.2);
  not_settled_before = λ r. unsettled (subst (λ h. IsSettled setup (world setup h)) (sym r.history) r.ends.1);
}
