-- In the store of a world no volume and no node stands in a namespace: no import and no create gives it one, and no other call
-- changes the key of an object.
use Rattle.std.proofs.Common.{◌≡◌, ◌∙◌, Bool, true, false, not, ℕ, List, [], ◌∷◌, Option, Some, None, inl, inr, refl, sym, ap, subst}
use Rattle.std.specs.Prelude.{⊤}
use Rattle.kube_objects.specs.declared.key.Key.{Key}
use Rattle.kube_parts.specs.declared.names.Field.{Field}
use Rattle.kube_parts.specs.declared.names.Field.TheVariants as fields
use Rattle.kube_parts.specs.declared.parts.Kind.{Kind}
use Rattle.kube_parts.specs.declared.parts.Kind.TheVariants as kinds
use Rattle.kube_objects.specs.declared.objects.Object.{Object}
use Rattle.kube_objects.specs.declared.objects.Object.TheVariants.{Class, Node, Volume, Claim, Pod}
use Rattle.kube_objects.specs.Bindings.{is_empty}
use Rattle.kube_objects.specs.Keys.{key_of, row_at}
use Rattle.call_types.specs.declared.entry.Entry.{Entry}
use Rattle.call_types.specs.declared.setup.Setup.{Setup}
use Rattle.call_types.specs.declared.request.SeatKind.{SeatKind}
use Rattle.call_types.specs.declared.request.Request.{Request}
use Rattle.call_types.specs.declared.request.Request.TheVariants as requests
use Rattle.binder_model.specs.Fields.{create_fault, faulty, is_subdomain, kind_fault, volume_fault}
use Rattle.binder_model.specs.Imports.{ImportsPass}
use Rattle.binder_model.specs.Store.{State}
use Rattle.binder_model.specs.World.{World, stale_epoch, world}
use Rattle.model_laws.proofs.Histories.{rows_stand_in_order}
use Rattle.model_laws.proofs.Identity.{key-created}
use Rattle.model_laws.proofs.Imported.{from_key, import_row}
use Rattle.model_laws.proofs.Lists.{none_some}
use Rattle.safety_law.specs.Invariant.Whence.{IsNext}
use Rattle.safety_law.specs.Invariant.Writes.{Writes}
use Rattle.safety_law.proofs.Invariant.Moves.{moves}
use Rattle.safety_law.proofs.Invariant.Whence.{bound_next, finished_next, marked_next, status_next, updated_next}
use Rattle.safety_law.proofs.Law.Passing.{each_sound}
use Rattle.delayed_binding.specs.ChoiceLaw.{HaveNoNamespace}
use Rattle.delayed_binding.proofs.Rounds.{empty_is}

abbrev IsPlacedAs : Kind → List ℕ → Type 0
IsPlacedAs kinds.Node namespace = namespace ≡ []
IsPlacedAs kinds.PersistentVolume namespace = namespace ≡ []
IsPlacedAs kind namespace = ⊤

-- what stands under the key is no volume and no node, or it stands in no namespace
abbrev IsPlaced : Key → Type 0
IsPlaced k = IsPlacedAs k.kind k.namespace

-- what may be created is placed so

passes : (named bare : Bool) (rest : Option Field) → faulty (not named) fields.Name (faulty (not bare) fields.Namespace rest) ≡ None → bare ≡ true
unfolding faulty
passes named true rest e = refl
passes true false rest e = none_some (sym e)
passes false false rest e = none_some (sym e)

created : (lacks : Bool) (o : Object) → create_fault lacks o ≡ None → IsPlaced (key_of o)
unfolding create_fault kind_fault volume_fault
created lacks (Node n) e = empty_is n.meta.namespace (passes (is_subdomain n.meta.name) (is_empty n.meta.namespace) _ e)
created lacks (Volume v) e = empty_is v.meta.namespace (passes (is_subdomain v.meta.name) (is_empty v.meta.namespace) _ e)
created lacks (Class x) e = tt
created lacks (Claim x) e = tt
created lacks (Pod x) e = tt

-- and so is what is written

abbrev ArePlaced : List Object → Type 0
ArePlaced rows = (k : Key) (o : Object) → row_at k rows ≡ Some o → IsPlaced (key_of o)

next : (s : State) (old o : Object) → ArePlaced s.rows → IsNext s old o → IsPlaced (key_of o)
next s old o before n = subst IsPlaced (sym n.key) (before (key_of o) old n.there)

written : (w : World) (kind : SeatKind) (request : Request) (o : Object) → ArePlaced w.store.rows → Writes w kind request o → IsPlaced (key_of o)
written w kind (requests.Create new) o before f = subst IsPlaced (sym (ap key_of f.is ∙ key-created _ new _ w.moment)) (created _ new f.fault)
written w kind (requests.Update new given) o before f = next w.store f.old o before (updated_next w.store kind new given o f)
written w kind (requests.UpdateStatus key status given) o before f = next w.store f.old o before (status_next w.store kind key status given o f)
written w kind (requests.Edit key change) o before f = next w.store f.update.old o before (updated_next w.store kind f.new None o f.update)
written w kind (requests.Delete key given) o before f = next w.store f.old o before (marked_next w.store w.moment key given o f)
written w kind (requests.BindPod key uid node) o before f = next w.store (Pod f.pod) o before (bound_next w.store kind key uid node o f)
written w kind (requests.FinishPod key uid node epoch) o before f =
    next w.store (Pod f.pod) o before (finished_next w.store kind key uid node (stale_epoch w.devices (requests.FinishPod key uid node epoch)) o f)
written w kind _ o before f = absurd f

placed : (setup : Setup) → ImportsPass setup.imports → (past : List Entry) → ArePlaced (world setup past).store.rows
placed setup pass [] k o is =
    let c = import_row setup.imports setup.imports k o is in
    subst IsPlaced (sym (from_key setup.imports setup.imports o c)) (created false c.import (each_sound setup.imports pass c.import c.given).fields)
placed setup pass (e ∷ past) k o is =
    let w = world setup past in
    let before = placed setup pass past in
    elim ((moves setup w e.kind e.request (rows_stand_in_order setup past)).row k o is) [
      | inl same ↦ before k o same
      | inr new ↦ written w e.kind e.request o before new.write
    ]

pub none_in_a_namespace : (setup : Setup) → ImportsPass setup.imports → (past : List Entry) → HaveNoNamespace (world setup past).store.rows
none_in_a_namespace setup pass past = record { nodes = λ key n is. placed setup pass past key (Node n) is; volumes = λ key v is. placed setup pass past key (Volume v) is }
