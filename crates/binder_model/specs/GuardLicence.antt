-- Where the protection controllers may write, after their own earlier entries.
-- A choice of this project; each row restates the evidence on which the pvc-protection and pv-protection controllers act.
use Rattle.std.specs.Prelude.{ℕ, ◌≡◌, true, false, List, [], ◌∷◌, ◌++◌, Some}
use Rattle.std.specs.List.{list_any}
use Rattle.kube_parts.specs.declared.parts.Kind.TheVariants as kinds
use Rattle.kube_objects.specs.declared.objects.Meta.{Meta}
use Rattle.kube_objects.specs.declared.objects.Volume.{Volume as VolumeData}
use Rattle.kube_objects.specs.declared.objects.Claim.{Claim as ClaimData}
use Rattle.kube_objects.specs.Bindings.{has_name, pv_protection, pvc_protection, is_deleting, is_bound, uses}
use Rattle.call_types.specs.declared.entry.Entry.{Entry}
use Rattle.call_types.specs.declared.request.Request.{Request}
use Rattle.call_types.specs.declared.request.Request.TheVariants as requests
use Rattle.call_types.specs.declared.reply.Reply.{Reply}
use Rattle.call_types.specs.declared.reply.Reply.TheVariants.{Listed}
use Rattle.binder_model.specs.Edits.{without_name}
use Rattle.binder_model.specs.Told.{ToldClaim, After}
use Rattle.binder_model.specs.At.{IsSameObject}

-- the metadata with the finalizer behind the others
abbrev pub guarded_meta : List ℕ → Meta → Meta
guarded_meta name m = record m { finalizers = m.finalizers ++ name ∷ [] }

-- the metadata without the finalizer
abbrev pub unguarded_meta : List ℕ → Meta → Meta
unguarded_meta name m = record m { finalizers = without_name name m.finalizers }

-- the row AddGuard, for the finalizer of the object's kind
pub record MayGuard (name : List ℕ) (o new : Meta) : Type 0 where
  pub staying : is_deleting o ≡ false
  pub lacks : has_name name o.finalizers ≡ false
  pub change : new ≡ guarded_meta name o

-- the row DropVolumeGuard
pub record MayUnguardVolume (o new : VolumeData) : Type 0 where
  pub deleting : is_deleting o.meta ≡ true
  pub loose : is_bound o.phase ≡ false
  pub change : new ≡ record o { meta = unguarded_meta pv_protection o.meta }

-- this claim, told deleting
pub record IsDeletingVersion (o claim : ClaimData) : Type 0 where
  pub same : IsSameObject o.meta claim.meta
  pub deleting : is_deleting claim.meta ≡ true

-- a list of the pods of the claim's namespace told none that uses it
abbrev pub IsPodList : ClaimData → Request → Reply → Type 0
IsPodList o (requests.List kinds.Pod (Some namespace)) (Listed items version) = (namespace ≡ o.meta.namespace) × (list_any (uses o) items ≡ false)
IsPodList o request reply = ⊥

-- the seat was told by this entry that no scheduled pod uses the claim
abbrev pub TellsUnused : ClaimData → Entry → Type 0
TellsUnused o e = (e.told ≡ true) × IsPodList o e.request e.reply

-- the row DropClaimGuard
pub record MayUnguardClaim (mine : List Entry) (o new : ClaimData) : Type 0 where
  pub deleting : is_deleting o.meta ≡ true
  pub unused : After (ToldClaim (IsDeletingVersion o)) (TellsUnused o) mine
  pub change : new ≡ record o { meta = unguarded_meta pvc_protection o.meta }
