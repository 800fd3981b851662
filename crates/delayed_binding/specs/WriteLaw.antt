-- Laws of what is written for a choice: each write is one that the licence allows the scheduler, after what its seat was told.
-- A choice of this project.
use Rattle.std.specs.Prelude.{ℕ, ◌≡◌, ◌≢◌, ◌<◌, Bool, true, false, List, [], ◌++◌, Option, Some, is_some, length, map, slice_get, ◌+◌, ⊤}
use Rattle.std.specs.List.{list_all}
use Rattle.kube_parts.specs.declared.uid.Uid.{Uid}
use Rattle.kube_objects.specs.declared.key.Key.{Key}
use Rattle.kube_objects.specs.declared.objects.Claim.{Claim as ClaimData}
use Rattle.kube_objects.specs.declared.objects.Pod.{Pod as PodData}
use Rattle.kube_objects.specs.declared.objects.Volume.{Volume as VolumeData}
use Rattle.kube_objects.specs.declared.objects.Object.{Object}
use Rattle.kube_objects.specs.declared.objects.Object.TheVariants.{Volume, Claim, Pod}
use Rattle.kube_objects.specs.Bindings.{is_scheduled}
use Rattle.kube_objects.specs.Keys.{AreRows, key_of, row_at}
use Rattle.call_types.specs.declared.entry.Entry.{Entry}
use Rattle.call_types.specs.declared.request.Request.{Request}
use Rattle.call_types.specs.declared.request.Request.TheVariants.{BindPod, Update}
use Rattle.call_types.specs.declared.request.SeatKind.TheVariants.{Scheduler}
use Rattle.binder_model.specs.BindWrites.{write_reference}
use Rattle.binder_model.specs.Choice.{claims_of}
use Rattle.binder_model.specs.Fields.{has_twice}
use Rattle.binder_model.specs.Licence.{AreOfKind, Licensed}
use Rattle.binder_model.specs.Matching.{fits}
use Rattle.binder_model.specs.Told.{newest, object_of}
use Rattle.delayed_binding.specs.declared.choice.Choice.{Choice}
use Rattle.delayed_binding.specs.declared.choice.Choice.TheVariants.{Assign, Prepare}
use Rattle.delayed_binding.specs.Choices.{IsChoice}
use Rattle.delayed_binding.specs.Writes.{prepare_write}

-- the look-up shows of each key the newest that the seat was told
abbrev pub ShowsNewest : List Object → List Entry → Type 0
ShowsNewest rows mine = (key : Key) → row_at key rows ≡ object_of (newest mine key)

-- the keys of the objects that are written, in order
abbrev pub written_keys : Choice → List Key
written_keys (Prepare node binds provisions) = map (λ pair. pair.1) binds ++ provisions
written_keys choice = []

-- the first writes write to other keys
abbrev pub IsUnwritten : Choice → ℕ → Key → Type 0
IsUnwritten choice nth key = (i : ℕ) → i < nth → slice_get (written_keys choice) i ≢ Some key

-- the later rows are those of the choice, but for what its first writes wrote
abbrev pub OthersAreUnchanged : List Object → List Object → Choice → ℕ → Type 0
OthersAreUnchanged rows later choice nth = (key : Key) → IsUnwritten choice nth key → row_at key later ≡ row_at key rows

-- each claim of the pod has its UID and is named once, as in each store
abbrev pub is_known : ClaimData → Bool
is_known c = is_some c.meta.uid

-- the pod's claims have UIDs, and it names each once
pub record AreClaimsKnown (rows : List Object) (p : PodData) : Type 0 where
  pub known : list_all is_known (claims_of rows p) ≡ true
  pub once : has_twice p.claims ≡ false

-- each write of what was chosen, made after those before it, where the look-up shows what the seat was told
abbrev pub PreparedWritesAreAllowed : Type 0
PreparedWritesAreAllowed =
    (rows later : List Object) (p : PodData) (last : Option (List ℕ)) (choice : Choice) (nth : ℕ) (mine : List Entry) (request : Request)
    → AreRows rows → AreClaimsKnown rows p → IsChoice rows p last choice → OthersAreUnchanged rows later choice nth → ShowsNewest later mine
    → AreOfKind Scheduler mine → prepare_write later choice nth ≡ Some request → Licensed Scheduler mine request

-- each write of what was chosen, on the rows of the choice
abbrev pub ChosenWritesAreAllowed : Type 0
ChosenWritesAreAllowed =
    (rows : List Object) (p : PodData) (last : Option (List ℕ)) (choice : Choice) (nth : ℕ) (mine : List Entry) (request : Request)
    → AreRows rows → list_all is_known (claims_of rows p) ≡ true → IsChoice rows p last choice → ShowsNewest rows mine
    → AreOfKind Scheduler mine → prepare_write rows choice nth ≡ Some request → Licensed Scheduler mine request

-- a reference that is written is one of a volume of the rows to a claim of the rows that it fits
pub record IsFitting (rows : List Object) (request : Request) : Type 0 where
  pub volume : VolumeData
  pub claim : ClaimData
  pub volume_there : row_at (key_of (Volume volume)) rows ≡ Some (Volume volume)
  pub claim_there : row_at (key_of (Claim claim)) rows ≡ Some (Claim claim)
  pub is : request ≡ write_reference volume claim
  pub fits : fits volume claim ≡ true

-- where the write is one of a volume's reference, it fits the store
abbrev pub FitsIfReference : List Object → Request → Type 0
FitsIfReference rows (Update (Volume new) given) = IsFitting rows (Update (Volume new) given)
FitsIfReference rows request = ⊤

-- the references that a choice writes fit the store
abbrev pub ReferencesFit : Type 0
ReferencesFit =
    (rows : List Object) (p : PodData) (last : Option (List ℕ)) (choice : Choice) (nth : ℕ) (request : Request)
    → AreRows rows → IsChoice rows p last choice → prepare_write rows choice nth ≡ Some request → FitsIfReference rows request

-- the keys that are written are apart
abbrev pub WritesAreApart : Type 0
WritesAreApart =
    (rows : List Object) (p : PodData) (last : Option (List ℕ)) (choice : Choice) (i j : ℕ) (key : Key)
    → AreRows rows → AreClaimsKnown rows p → IsChoice rows p last choice
    → slice_get (written_keys choice) i ≡ Some key → slice_get (written_keys choice) j ≡ Some key → i ≡ j

-- each write is there, on the rows of the choice
abbrev pub PreparedWritesAreThere : Type 0
PreparedWritesAreThere =
    (rows : List Object) (p : PodData) (last : Option (List ℕ)) (choice : Choice) (nth : ℕ)
    → AreRows rows → IsChoice rows p last choice → nth < length (written_keys choice) → is_some (prepare_write rows choice nth) ≡ true

-- what is prepared is at least one write
abbrev pub HasWrite : Choice → Type 0
HasWrite (Prepare node binds provisions) = 0 < length binds + length provisions
HasWrite choice = ⊤

-- a choice that prepares has a write
abbrev pub PreparedHaveWrites : Type 0
PreparedHaveWrites = (rows : List Object) (p : PodData) (last : Option (List ℕ)) (choice : Choice) → AreRows rows → IsChoice rows p last choice → HasWrite choice

-- the pod that is assigned, where the look-up shows what the seat was told
abbrev pub AssignedPodsAreAllowed : Type 0
AssignedPodsAreAllowed =
    (rows : List Object) (key : Key) (p : PodData) (uid : Uid) (last : Option (List ℕ)) (name : List ℕ) (mine : List Entry)
    → row_at key rows ≡ Some (Pod p) → p.meta.uid ≡ Some uid → is_scheduled p ≡ false → IsChoice rows p last (Assign name)
    → ShowsNewest rows mine → AreOfKind Scheduler mine → Licensed Scheduler mine (BindPod key uid name)
