-- A pod that is bound to a node, as both stand, is done, and lasts. What is known of a valid pod and of a valid node.
use Rattle.std.proofs.Common.{◌≡◌, ◌≢◌, ◌∙◌, ℕ, ◌+◌, List, [], ◌∷◌, Bool, true, false, true≢false, Option, Some, None, inl, refl, sym, ap, subst, arith}
use Rattle.std.specs.Prelude.{◌==◌, ◌||◌, not}
use Rattle.std.proofs.lemmas.Bool.Decides.{nat_tests}
use Rattle.kube_parts.specs.declared.uid.Uid.{Uid}
use Rattle.kube_parts.specs.declared.names.Field.{Field}
use Rattle.kube_parts.specs.declared.names.Field.TheVariants as fields
use Rattle.kube_objects.specs.declared.objects.Node.{Node as NodeData}
use Rattle.kube_objects.specs.declared.objects.Pod.{Pod as PodData}
use Rattle.kube_objects.specs.declared.objects.Object.{Object}
use Rattle.kube_objects.specs.declared.objects.Object.TheVariants.{Node, Pod}
use Rattle.kube_objects.specs.Bindings.{has_name, is_empty, is_scheduled, is_uid}
use Rattle.kube_objects.specs.Keys.{key_of, row_at}
use Rattle.call_types.specs.declared.reply.Reply.TheVariants.{Done}
use Rattle.call_types.specs.declared.request.Request.TheVariants.{BindPod}
use Rattle.call_types.specs.declared.request.SeatKind.{SeatKind}
use Rattle.call_types.specs.declared.setup.Setup.{Setup}
use Rattle.binder_model.specs.Answers.{bind, is_user, outcome, pod_with, refuse, reply_of}
use Rattle.binder_model.specs.Devices.{device_answer}
use Rattle.binder_model.specs.Fields.{create_fault, faulty, has_twice, is_namespace, is_subdomain, kind_fault, pod_fault}
use Rattle.binder_model.specs.ObjectKeys.{node_key}
use Rattle.binder_model.specs.Store.{at_version, has_no_names, with_meta}
use Rattle.binder_model.specs.World.{World, effect, on_devices, reply_to}
use Rattle.settle_writes.specs.Writes.Lasting.{IsChanged, IsLastingWrite, Lasts, content_of}
use Rattle.settle_writes.specs.Writes.Valid.{IsValid}
use Rattle.settle_writes.specs.Writes.Writes.{IsStored}

abbrev is_fault : Option Field → Bool
is_fault None = false
is_fault (Some field) = true

-- a valid node has a name
pub node_named : (n : NodeData) → IsValid (Node n) → is_empty n.meta.name ≡ false
unfolding create_fault kind_fault faulty
node_named n e = by n.meta.name e
  where
    by : (name : List ℕ) → faulty (not (is_subdomain name)) fields.Name (kind_fault false (Node n)) ≡ None → is_empty name ≡ false
    by [] e = absurd (true≢false (ap is_fault e))
    by (x ∷ xs) e = refl

-- a valid pod names each claim once
pub claims_once : (p : PodData) → IsValid (Pod p) → has_twice p.claims ≡ false
unfolding create_fault kind_fault pod_fault faulty
claims_once p e = by (is_subdomain p.meta.name) (is_namespace p.meta.namespace) (has_name [] p.claims) (has_twice p.claims) e
  where
    by : (a b c d : Bool)
        → faulty (not a) fields.Name (faulty (not b) fields.Namespace
        (faulty false fields.NodeName (faulty (c || d) fields.Claims (faulty (not (has_no_names p.meta.finalizers)) fields.Finalizers None)))) ≡ None → d ≡ false
    by false b c d e = absurd (true≢false (ap is_fault e))
    by true false c d e = absurd (true≢false (ap is_fault e))
    by true true true d e = absurd (true≢false (ap is_fault e))
    by true true false true e = absurd (true≢false (ap is_fault e))
    by true true false false e = refl

abbrev node_in : Object → List ℕ
node_in (Pod x) = x.node
node_in o = []

module _ (setup : Setup) (w : World) (kind : SeatKind) (controller : is_user kind ≡ false) (p : PodData) (uid : Uid) (s : IsStored w (Pod p))
    (known : p.meta.uid ≡ Some uid) (unscheduled : is_scheduled p ≡ false)
    (n : NodeData) (there : row_at (node_key n.meta.name) w.store.rows ≡ Some (Node n)) (valid : IsValid (Node n)) where
  -- the pod on its node
  abbrev bound : Object
  bound = at_version (Pod (record p { node = n.meta.name })) (w.store.version + 1)

  bind_said : reply_to (effect setup w kind (BindPod (key_of (Pod p)) uid n.meta.name)) ≡ Done bound
  unfolding effect on_devices device_answer outcome reply_to reply_of refuse bind pod_with
  bind_said =
      let itself : (uid.0 == uid.0) ≡ true = grind (arith, nat_tests) in
      let same : is_uid p.meta.uid uid ≡ true = ap (λ u. is_uid u uid) known ∙ itself in
      rw (controller, s.there, same, unscheduled, there, node_named n valid) refl

  moves : content_of (Pod p) ≢ content_of bound
  unfolding at_version with_meta
  moves e = true≢false (sym (no_node (is_empty p.node) unscheduled) ∙ (ap (λ o. is_empty (node_in o)) e ∙ node_named n valid))
    where
      no_node : (b : Bool) → not b ≡ false → b ≡ true
      no_node true e = refl
      no_node false e = absurd (true≢false e)

  pub bind_lasts : Lasts setup w kind (BindPod (key_of (Pod p)) uid n.meta.name)
  unfolding at_version with_meta
  bind_lasts = inl (subst (IsLastingWrite w.store.rows) (sym bind_said) (subst (λ row. IsChanged row bound) (sym s.there) moves))
