-- What begins on a claim is what is due of provisioning, as far as the devices can give it.
use Rattle.std.proofs.Common.{◌≡◌, ℕ, List, Bool, true, false, Option, Some, None, refl, ap, if◌then◌else◌}
use Rattle.std.specs.Prelude.{not, ◌&&◌}
use Rattle.plain_data.specs.Pairs.{Pair, value_at}
use Rattle.kube_parts.specs.declared.uid.Uid.{Uid}
use Rattle.kube_parts.specs.declared.names.Due.TheVariants as dues
use Rattle.kube_objects.specs.declared.objects.Class.{Class as ClassData}
use Rattle.kube_objects.specs.declared.objects.Claim.{Claim as ClaimData}
use Rattle.kube_objects.specs.declared.objects.Object.{Object}
use Rattle.kube_objects.specs.declared.objects.Object.TheVariants.{Class, Node}
use Rattle.kube_objects.specs.Bindings.{class_of_claim, selected_node}
use Rattle.kube_objects.specs.Keys.{row_at}
use Rattle.call_types.specs.declared.setup.Setup.{Setup}
use Rattle.binder_model.specs.Due.{by_class_due, delayed_due, immediate_due, is_served, on_node_due, provision_if_new}
use Rattle.binder_model.specs.Matching.{has_match}
use Rattle.binder_model.specs.ObjectKeys.{class_key, node_key}
use Rattle.binder_model.specs.Provisioning.{is_wanting, provisions}
use Rattle.binder_model.specs.World.{World}
use Rattle.reclaim_ops.specs.declared.provision.ProvisionStep.TheVariants as steps
use Rattle.reclaim_ops.specs.Decisions.{at_step, begins_at, by_class, delayed_step, node_step}
use Rattle.reclaim_ops.specs.DueLaw.{BeginsWhatIsDue, due_of_provision}

module _ (setup : Setup) (w : World) (c : ClaimData) where
  -- data are asked for, on a node with these labels where one was chosen
  asked : (uid : Uid) (x : ClassData) (labels : Option (List Pair)) (delayed : Bool) → x.delayed ≡ delayed
      → due_of_provision setup w (Some (at_step c uid x (steps.Provisions labels))) ≡ (if is_served setup w.devices c uid x labels then
      provision_if_new w.store.rows uid else if delayed then Some dues.ClearNode else None)
  asked uid x labels delayed late = ap (λ b. if is_served setup w.devices c uid x labels then provision_if_new w.store.rows uid else if b then Some dues.ClearNode else None) late

  on_node : (uid : Uid) (x : ClassData) (row : Option Object) → x.delayed ≡ true → due_of_provision setup w (Some (at_step c uid x (node_step row))) ≡ on_node_due setup w c uid x row
  on_node uid x (Some (Node n)) late = asked uid x (Some n.meta.labels) true late
  on_node uid x None late = refl
  on_node uid x (Some _) late = refl

  delayed_is : (uid : Uid) (x : ClassData) (node : Option (List ℕ)) → x.delayed ≡ true
      → due_of_provision setup w (begins_at c uid x (delayed_step w.store.rows node)) ≡ delayed_due setup w c uid x node
  delayed_is uid x None late = refl
  delayed_is uid x (Some node) late = on_node uid x (row_at (node_key node) w.store.rows) late

  of_class : (uid : Uid) (x : ClassData) (real delayed : Bool) → x.delayed ≡ delayed
      → due_of_provision setup w (begins_at c uid x
      (if not real then None else if delayed then delayed_step w.store.rows (value_at selected_node c.meta.annotations) else Some (steps.Provisions None)))
      ≡ (if not real then None else if delayed then delayed_due setup w c uid x (value_at selected_node c.meta.annotations) else immediate_due setup w c uid x)
  of_class uid x false delayed late = refl
  of_class uid x true false late = asked uid x None false late
  of_class uid x true true late = delayed_is uid x (value_at selected_node c.meta.annotations) late

  classed : (u : Option Uid) (row : Option Object) → due_of_provision setup w (by_class w.store.rows c u row) ≡ by_class_due setup w c u row
  classed (Some uid) (Some (Class x)) = of_class uid x (provisions x) x.delayed refl
  classed (Some uid) None = refl
  classed (Some uid) (Some _) = refl
  classed None row = refl

pub begins_what_is_due : BeginsWhatIsDue
begins_what_is_due setup w c = by (is_wanting c && not (has_match w.store.rows c))
  where
    by : (b : Bool) → due_of_provision setup w
        (if b then by_class w.store.rows c c.meta.uid (row_at (class_key (class_of_claim c)) w.store.rows) else None)
        ≡ (if b then by_class_due setup w c c.meta.uid (row_at (class_key (class_of_claim c)) w.store.rows) else None)
    by true = classed setup w c c.meta.uid (row_at (class_key (class_of_claim c)) w.store.rows)
    by false = refl
