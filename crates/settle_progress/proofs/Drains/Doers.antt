-- All that is due is for the actor that does it.
use Rattle.std.proofs.Common.{ℕ, ◌≡◌, ◌∙◌, List, Bool, true, false, Option, Some, None, refl, sym, ap, subst, if◌then◌else◌}
use Rattle.std.specs.Prelude.{◌&&◌, ◌||◌, bytes_eq, is_none, is_some, not}
use Rattle.std.specs.List.{list_any}
use Rattle.plain_data.specs.Pairs.{value_at}
use Rattle.kube_parts.specs.declared.uid.Uid.{Uid}
use Rattle.kube_parts.specs.declared.names.Due.{Due}
use Rattle.kube_parts.specs.declared.names.Due.TheVariants as dues
use Rattle.kube_objects.specs.declared.objects.Class.{Class as ClassData}
use Rattle.kube_objects.specs.declared.objects.Claim.{Claim as ClaimData}
use Rattle.kube_objects.specs.declared.objects.Pod.{Pod as PodData}
use Rattle.kube_objects.specs.declared.objects.Ref.{Ref}
use Rattle.kube_objects.specs.declared.objects.Volume.{Volume as VolumeData}
use Rattle.kube_objects.specs.declared.objects.Object.{Object}
use Rattle.kube_objects.specs.declared.objects.Object.TheVariants.{Claim, Class, Node, Pod, Volume}
use Rattle.kube_objects.specs.Bindings.{
  carries,
  class_of_claim,
  is_available,
  is_bound,
  is_completed,
  is_delete,
  is_deleting,
  is_empty,
  is_ended,
  is_for,
  is_lost,
  is_protected_claim,
  is_protected_volume,
  is_scheduled,
  lacks_class,
  ref_uid,
  selected_node,
  uses,
}
use Rattle.kube_objects.specs.Keys.{row_at}
use Rattle.call_types.specs.declared.request.SeatKind.{SeatKind}
use Rattle.call_types.specs.declared.request.SeatKind.TheVariants as seats
use Rattle.call_types.specs.declared.setup.Setup.{Setup}
use Rattle.binder_model.specs.BindWrites.{next_write}
use Rattle.binder_model.specs.Matching.{fits, has_match}
use Rattle.binder_model.specs.Provisioning.{data_name, is_wanting, provisions}
use Rattle.binder_model.specs.BinderDue.{claim_due, has_other_uid, is_default_row, is_reclaimed, claim_with, completed_due, lost_due, named_due, reference_due, referred_due, uid_due, volume_due}
use Rattle.binder_model.specs.Due.{
  IsDue,
  IsPodDue,
  by_class_due,
  claim_guard_due,
  delayed_due,
  guard_due,
  is_served,
  on_node_due,
  or_due,
  provision_due,
  provision_if_new,
  reclaim_due,
  volume_guard_due,
}
use Rattle.binder_model.specs.ObjectKeys.{claim_key, class_key, node_key, volume_key}
use Rattle.binder_model.specs.World.{World}
use Rattle.model_laws.proofs.Lists.{none_some, one}
use Rattle.actor_rounds.specs.Drainers.{agent_of, of_kind}
use Rattle.settle_progress.specs.Drains.Rounds.{
  DueFor,
  ForAgent,
  ForBinder,
  ForBinderOfClaims,
  ForClaimProtection,
  ForProvisioner,
  ForReclaimer,
  ForScheduler,
  ForVolumeProtection,
  doer_of,
  for_claim,
  for_volume,
}

-- what is due, if anything, is for an actor of this kind
record IsFor (by : Due → SeatKind) (kind : SeatKind) (x : Option Due) : Type 0 where
  is : (action : Due) → x ≡ Some action → by action ≡ kind

module _ (by : Due → SeatKind) (kind : SeatKind) where
  nothing : IsFor by kind None
  nothing = record { is = λ action e. none_some e }

  only : (a : Due) → by a ≡ kind → IsFor by kind (Some a)
  only a on = record { is = λ action e. ap by (sym (one a action e)) ∙ on }

  either : (b : Bool) (x y : Option Due) → IsFor by kind x → IsFor by kind y → IsFor by kind (if b then x else y)
  either true x y on off = on
  either false x y on off = off

  guarded : (deleting guarded_ needed : Bool) → by dues.Guard ≡ kind → by dues.Unguard ≡ kind → IsFor by kind (guard_due deleting guarded_ needed)
  guarded deleting guarded_ needed on off = either deleting _ _ (either (guarded_ && not needed) _ _ (only dues.Unguard off) nothing) (either guarded_ _ _ nothing (only dues.Guard on))

-- the binder's own, on a volume

by_claim : (v : VolumeData) (x : Option ClaimData) → IsFor for_volume seats.Binder (referred_due v x)
unfolding referred_due
by_claim v None = only for_volume seats.Binder dues.Release refl
by_claim v (Some c) =
    either for_volume seats.Binder (is_empty c.volume_name) _ _ (nothing for_volume seats.Binder)
    (either for_volume seats.Binder (bytes_eq c.volume_name v.meta.name) _ _
    (either for_volume seats.Binder (is_bound v.phase || not (is_protected_volume v)) _ _ (nothing for_volume seats.Binder) (only for_volume seats.Binder dues.Bound refl))
    (either for_volume seats.Binder (is_reclaimed v) _ _ (only for_volume seats.Binder dues.Release refl) (only for_volume seats.Binder dues.Unbind refl)))

by_uid : (rows : List Object) (v : VolumeData) (r : Ref) (uid : Option Uid) → IsFor for_volume seats.Binder (uid_due rows v r uid)
by_uid rows v r None = either for_volume seats.Binder (is_available v.phase) _ _ (nothing for_volume seats.Binder) (only for_volume seats.Binder dues.Available refl)
by_uid rows v r (Some uid) = either for_volume seats.Binder (is_ended v.phase) _ _ (nothing for_volume seats.Binder) (by_claim v (claim_with uid (row_at (claim_key r.namespace r.name) rows)))

by_reference : (rows : List Object) (v : VolumeData) (r : Option Ref) → IsFor for_volume seats.Binder (reference_due rows v r)
unfolding reference_due
by_reference rows v None = either for_volume seats.Binder (is_available v.phase) _ _ (nothing for_volume seats.Binder) (only for_volume seats.Binder dues.Available refl)
by_reference rows v (Some r) = by_uid rows v r r.uid

volumes_are_binders : (rows : List Object) (v : VolumeData) → IsFor for_volume seats.Binder (volume_due rows v)
unfolding volume_due
volumes_are_binders rows v = by_reference rows v v.claim_ref

-- on a claim

lost_is : (c : ClaimData) → IsFor for_claim seats.Binder (lost_due c)
lost_is c = either for_claim seats.Binder (is_lost c.phase) _ _ (nothing for_claim seats.Binder) (only for_claim seats.Binder dues.Lost refl)

completed_is : (c : ClaimData) (o : Option Object) → IsFor for_claim seats.Binder (completed_due c o)
unfolding completed_due
completed_is c None = lost_is c
completed_is c (Some (Volume v)) = either for_claim seats.Binder (has_other_uid v c) _ _ (lost_is c) (either for_claim seats.Binder
    ((is_none v.claim_ref || carries v c) && is_some (next_write v c)) _ _ (only for_claim seats.Binder dues.Bind refl) (nothing for_claim seats.Binder))
completed_is c (Some (Class x)) = lost_is c
completed_is c (Some (Node x)) = lost_is c
completed_is c (Some (Claim x)) = lost_is c
completed_is c (Some (Pod x)) = lost_is c

named_is : (c : ClaimData) (o : Option Object) → IsFor for_claim seats.Binder (named_due c o)
unfolding named_due
named_is c None = nothing for_claim seats.Binder
named_is c (Some (Volume v)) =
    either for_claim seats.Binder (is_deleting v.meta || not (is_protected_volume v) || is_ended v.phase) _ _ (nothing for_claim seats.Binder)
    (either for_claim seats.Binder (is_none v.claim_ref) _ _ (either for_claim seats.Binder (fits v c) _ _ (only for_claim seats.Binder dues.Bind refl) (nothing for_claim seats.Binder))
    (either for_claim seats.Binder (is_for v c) _ _ (only for_claim seats.Binder dues.Bind refl) (nothing for_claim seats.Binder)))
named_is c (Some (Class x)) = nothing for_claim seats.Binder
named_is c (Some (Node x)) = nothing for_claim seats.Binder
named_is c (Some (Claim x)) = nothing for_claim seats.Binder
named_is c (Some (Pod x)) = nothing for_claim seats.Binder

claims_are_binders : (rows : List Object) (c : ClaimData) → IsFor for_claim seats.Binder (claim_due rows c)
unfolding claim_due
claims_are_binders rows c =
    either for_claim seats.Binder (is_completed c) _ _ (either for_claim seats.Binder (is_empty c.volume_name) _ _ (lost_is c) (completed_is c (row_at (volume_key c.volume_name) rows)))
    (either for_claim seats.Binder (is_deleting c.meta) _ _ (nothing for_claim seats.Binder)
    (either for_claim seats.Binder (is_empty c.volume_name) _ _
    (either for_claim seats.Binder (has_match rows c) _ _ (only for_claim seats.Binder dues.Bind refl)
    (either for_claim seats.Binder (lacks_class c && list_any is_default_row rows) _ _ (only for_claim seats.Binder dues.AssignClass refl) (nothing for_claim seats.Binder)))
    (named_is c (row_at (volume_key c.volume_name) rows))))

-- the provisioner's

if_new : (rows : List Object) (uid : Uid) → IsFor for_claim seats.Ops (provision_if_new rows uid)
if_new rows uid = either for_claim seats.Ops (is_none (row_at (volume_key (data_name uid)) rows)) _ _ (only for_claim seats.Ops dues.Provision refl) (nothing for_claim seats.Ops)

module _ (setup : Setup) (w : World) (c : ClaimData) (uid : Uid) (x : ClassData) where
  on_node : (o : Option Object) → IsFor for_claim seats.Ops (on_node_due setup w c uid x o)
  on_node None = only for_claim seats.Ops dues.ClearNode refl
  on_node (Some (Node n)) = either for_claim seats.Ops (is_served setup w.devices c uid x (Some n.meta.labels)) _ _ (if_new w.store.rows uid) (only for_claim seats.Ops dues.ClearNode refl)
  on_node (Some (Class n)) = only for_claim seats.Ops dues.ClearNode refl
  on_node (Some (Volume n)) = only for_claim seats.Ops dues.ClearNode refl
  on_node (Some (Claim n)) = only for_claim seats.Ops dues.ClearNode refl
  on_node (Some (Pod n)) = only for_claim seats.Ops dues.ClearNode refl

  delayed_is : (node : Option (List ℕ)) → IsFor for_claim seats.Ops (delayed_due setup w c uid x node)
  delayed_is None = nothing for_claim seats.Ops
  delayed_is (Some node) = on_node (row_at (node_key node) w.store.rows)

by_class : (setup : Setup) (w : World) (c : ClaimData) (uid : Option Uid) (o : Option Object) → IsFor for_claim seats.Ops (by_class_due setup w c uid o)
by_class setup w c None o = nothing for_claim seats.Ops
by_class setup w c (Some uid) None = nothing for_claim seats.Ops
by_class setup w c (Some uid) (Some (Class x)) =
    either for_claim seats.Ops (not (provisions x)) _ _ (nothing for_claim seats.Ops)
    (either for_claim seats.Ops x.delayed _ _ (delayed_is setup w c uid x (value_at selected_node c.meta.annotations))
    (either for_claim seats.Ops (is_served setup w.devices c uid x None) _ _ (if_new w.store.rows uid) (nothing for_claim seats.Ops)))
by_class setup w c (Some uid) (Some (Node x)) = nothing for_claim seats.Ops
by_class setup w c (Some uid) (Some (Volume x)) = nothing for_claim seats.Ops
by_class setup w c (Some uid) (Some (Claim x)) = nothing for_claim seats.Ops
by_class setup w c (Some uid) (Some (Pod x)) = nothing for_claim seats.Ops

provisions_are_ops : (setup : Setup) (w : World) (c : ClaimData) → IsFor for_claim seats.Ops (provision_due setup w c)
provisions_are_ops setup w c = either for_claim seats.Ops (is_wanting c && not (has_match w.store.rows c)) _ _ (by_class setup w c c.meta.uid
    (row_at (class_key (class_of_claim c)) w.store.rows)) (nothing for_claim seats.Ops)

-- the reclaimer's
reclaims_are_ops : (v : VolumeData) → IsFor for_volume seats.Ops (reclaim_due v)
reclaims_are_ops v = either for_volume seats.Ops (is_ended v.phase && is_delete v.policy && is_some (ref_uid v.claim_ref) && not
    (is_deleting v.meta)) _ _ (only for_volume seats.Ops dues.Reclaim refl) (nothing for_volume seats.Ops)

-- the first of what is due

module _ (setup : Setup) (w : World) (action : Due) where
  for_kind : (o : Object) (kind other : SeatKind) → kind ≡ other → DueFor setup w o (of_kind other) → DueFor setup w o (of_kind kind)
  for_kind o kind other same due = subst (λ k. DueFor setup w o (of_kind k)) (sym same) due

  of_volume : (v : VolumeData) (binder reclaimer guard : Option Due) → volume_due w.store.rows v ≡ binder → reclaim_due v ≡ reclaimer
      → volume_guard_due v ≡ guard → Some action ≡ or_due binder (or_due reclaimer guard)
      → DueFor setup w (Volume v) (of_kind (for_volume action))
  unfolding or_due
  of_volume v (Some a) reclaimer guard e f g is =
      for_kind (Volume v) (for_volume action) seats.Binder ((volumes_are_binders w.store.rows v).is action (e ∙ sym is)) (ForBinder v action (e ∙ sym is))
  of_volume v None (Some a) guard e f g is =
      for_kind (Volume v) (for_volume action) seats.Ops ((reclaims_are_ops v).is action (f ∙ sym is)) (ForReclaimer v action (f ∙ sym is))
  of_volume v None None guard e f g is =
      for_kind (Volume v) (for_volume action) seats.VolumeProtect
      ((guarded for_volume seats.VolumeProtect (is_deleting v.meta) (is_protected_volume v) (is_bound v.phase) refl refl).is action (g ∙ sym is)) (ForVolumeProtection v action (g ∙ sym is))

  of_claim : (c : ClaimData) (guard binder provisioner : Option Due) → claim_guard_due w.store.rows c ≡ guard → claim_due w.store.rows c ≡ binder
      → provision_due setup w c ≡ provisioner → Some action ≡ or_due guard (or_due binder provisioner)
      → DueFor setup w (Claim c) (of_kind (for_claim action))
  unfolding or_due
  of_claim c (Some a) binder provisioner e f g is =
      for_kind (Claim c) (for_claim action) seats.ClaimProtect
      ((guarded for_claim seats.ClaimProtect (is_deleting c.meta) (is_protected_claim c) (list_any (uses c) w.store.rows) refl refl).is action (e ∙ sym is))
      (ForClaimProtection c action (e ∙ sym is))
  of_claim c None (Some a) provisioner e f g is =
      for_kind (Claim c) (for_claim action) seats.Binder ((claims_are_binders w.store.rows c).is action (f ∙ sym is)) (ForBinderOfClaims c action (f ∙ sym is))
  of_claim c None None provisioner e f g is =
      for_kind (Claim c) (for_claim action) seats.Ops ((provisions_are_ops setup w c).is action (g ∙ sym is)) (ForProvisioner c action (g ∙ sym is))

  of_pod : (p : PodData) (b : Bool) → is_scheduled p ≡ b → IsPodDue setup w p b (Some action) → DueFor setup w (Pod p) (if b then agent_of p.node else of_kind seats.Scheduler)
  of_pod p true is due = ForAgent p action is (sym due)
  of_pod p false is due = ForScheduler p action is (subst (λ b. IsPodDue setup w p b (Some action)) (sym is) due)

  pub due_is_for : (o : Object) → IsDue setup w o (Some action) → DueFor setup w o (doer_of o action)
  due_is_for (Volume v) due = of_volume v _ _ _ refl refl refl due
  due_is_for (Claim c) due = of_claim c _ _ _ refl refl refl due
  due_is_for (Pod p) due = of_pod p (is_scheduled p) refl due
  due_is_for (Class x) due = none_some (sym due)
  due_is_for (Node x) due = none_some (sym due)
