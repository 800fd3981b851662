-- A history in which a volume stands in a namespace, is bound, and the completed claim names none: it is no run, since
-- the volume is refused at its creation. Source: Kubernetes API, volumes, classes and nodes have no namespace.
use Rattle.std.specs.Prelude.{ℕ, ◌≡◌, List, [], ◌∷◌, Some, None, codes}
use Rattle.kube_parts.specs.declared.names.Field.TheVariants as fields
use Rattle.kube_parts.specs.declared.parts.Kind.TheVariants as kinds
use Rattle.kube_parts.specs.declared.parts.VolumePhase.{VolumePhase}
use Rattle.kube_parts.specs.declared.parts.VolumePhase.TheVariants as volumes
use Rattle.kube_objects.specs.declared.key.Key.{Key}
use Rattle.kube_objects.specs.declared.objects.Volume.{Volume as VolumeData}
use Rattle.kube_objects.specs.declared.objects.Claim.{Claim as ClaimData}
use Rattle.kube_objects.specs.declared.objects.Object.TheVariants.{Class, Node, Volume, Claim}
use Rattle.kube_objects.specs.Bindings.{bound_by_controller, pv_protection, yes}
use Rattle.call_types.specs.declared.entry.Entry.{Entry}
use Rattle.call_types.specs.declared.request.NewStatus.TheVariants as statuses
use Rattle.call_types.specs.declared.request.SeatKind.TheVariants as seats
use Rattle.call_types.specs.declared.request.Request.TheVariants as requests
use Rattle.call_types.specs.declared.reply.Refusal.TheVariants as refusals
use Rattle.call_types.specs.declared.reply.Reply.TheVariants as replies
use Rattle.binder_model.specs.BindWrites.{ref_to}
use Rattle.binder_model.specs.World.{first_world}
use Rattle.binder_model.specs.Run.{Run}
use Rattle.model_laws.specs.Worked.{no_setup, by, answers, named, volume, claim, stands, claim_at, completed_c}
use Rattle.model_examples.specs.EmptyNode.{entry}
use Rattle.model_examples.specs.Samples.{fast, n1}

abbrev pub x_a : VolumeData
x_a = let v = volume (codes "a") 5 in record v { meta = named (codes "x") (codes "a") }

abbrev pub x_at : ℕ → VolumePhase → VolumeData
x_at version phase = record x_a { meta = stands x_a.meta 1 version pv_protection []; phase = phase }

abbrev pub c : ClaimData
c = claim_at (codes "c") 3 2 2

abbrev pub x_for : ℕ → VolumePhase → VolumeData
x_for version phase = record x_a {
  meta = stands x_a.meta 1 version pv_protection ((bound_by_controller, yes) ∷ []);
  claim_ref = Some (ref_to c);
  phase = phase;
}

abbrev pub x_key : Key
x_key = record { kind = kinds.PersistentVolume; namespace = codes "x"; name = codes "a" }

abbrev pub e1 : Entry
e1 = entry 1 seats.User (requests.Create (Volume x_a)) (replies.Done (Volume (x_at 1 volumes.Pending)))

abbrev pub e2 : Entry
e2 = entry 1 seats.User (requests.Create (Claim (claim (codes "c") 3))) (replies.Done (Claim c))

abbrev pub e3 : Entry
e3 = entry 5 seats.Binder (requests.List kinds.PersistentVolume None) (replies.Listed (Volume (x_at 1 volumes.Pending) ∷ []) 2)

abbrev pub e4 : Entry
e4 = entry 5 seats.Binder (requests.List kinds.PersistentVolumeClaim None) (replies.Listed (Claim c ∷ []) 2)

abbrev pub e5 : Entry
e5 = entry 5 seats.Binder (requests.Update (Volume (x_for 1 volumes.Pending)) (Some 1)) (replies.Done (Volume (x_for 3 volumes.Pending)))

abbrev pub e6 : Entry
e6 = entry 5 seats.Binder (requests.UpdateStatus x_key (statuses.Volume volumes.Bound) (Some 3)) (replies.Done (Volume (x_for 4 volumes.Bound)))

abbrev pub e7 : Entry
e7 = entry 5 seats.Binder (requests.Update (Claim (completed_c 2)) (Some 2)) (replies.Done (Claim (completed_c 5)))

abbrev pub history : List Entry
history = e7 ∷ e6 ∷ e5 ∷ e4 ∷ e3 ∷ e2 ∷ e1 ∷ []

pub record NamespacedVolumeIsRefused : Type 0 where
  pub volume : answers (first_world no_setup) (by seats.User (requests.Create (Volume x_a)) ∷ []) ≡ replies.Refused (refusals.Invalid fields.Namespace) ∷ []
  pub volume_by_controller : answers (first_world no_setup) (by seats.Ops (requests.Create (Volume x_a)) ∷ []) ≡ replies.Refused (refusals.Invalid fields.Namespace) ∷ []
  pub class : answers (first_world no_setup)
      (by seats.User (requests.Create (Class (record fast { meta = record fast.meta { namespace = codes "x" } }))) ∷ []) ≡ replies.Refused (refusals.Invalid fields.Namespace) ∷ []
  pub node : answers (first_world no_setup)
      (by seats.User (requests.Create (Node (record n1 { meta = record n1.meta { namespace = codes "x" } }))) ∷ []) ≡ replies.Refused (refusals.Invalid fields.Namespace) ∷ []
  pub is_no_run : Run no_setup history → ⊥
