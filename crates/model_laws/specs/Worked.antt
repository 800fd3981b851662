-- Worked runs, computed: what the definitions say of small literal worlds. Each shows a run that the rows of this
-- project's tests have too.
-- A choice of this project, as the definitions are; their sources stand in `binder_model`.
use Rattle.std.specs.Prelude.{ℕ, ◌≡◌, ◌*◌, ◌^◌, true, false, List, [], ◌∷◌, ◌++◌, Some, None, codes}
use Rattle.std.specs.declared.cmp.Ordering.TheVariants.{Less}
use Rattle.plain_data.specs.Pairs.{Pair}
use Rattle.kube_parts.specs.declared.names.Field.TheVariants as fields
use Rattle.kube_parts.specs.declared.names.Rule.TheVariants as rules
use Rattle.kube_objects.specs.declared.key.Key.{Key}
use Rattle.kube_parts.specs.declared.parts.Modes.{Modes}
use Rattle.kube_parts.specs.declared.parts.Kind.TheVariants as kinds
use Rattle.kube_parts.specs.declared.parts.Policy.TheVariants as policies
use Rattle.kube_parts.specs.declared.parts.SourceKind.TheVariants as sources
use Rattle.kube_parts.specs.declared.parts.VolumePhase.{VolumePhase}
use Rattle.kube_parts.specs.declared.parts.VolumePhase.TheVariants as volumes
use Rattle.kube_parts.specs.declared.parts.ClaimPhase.TheVariants as claims
use Rattle.kube_objects.specs.declared.objects.Amount.{Amount}
use Rattle.kube_objects.specs.declared.objects.Meta.{Meta}
use Rattle.kube_objects.specs.declared.objects.Volume.{Volume as VolumeData}
use Rattle.kube_objects.specs.declared.objects.Claim.{Claim as ClaimData}
use Rattle.kube_objects.specs.declared.objects.Object.TheVariants.{Volume, Claim}
use Rattle.kube_parts.specs.Uids.{uid_of_serial}
use Rattle.kube_objects.specs.Bindings.{bind_completed, bound_by_controller, pv_protection, pvc_protection, yes}
use Rattle.call_types.specs.declared.edit.Edit.TheVariants as edits
use Rattle.call_types.specs.declared.setup.Setup.{Setup}
use Rattle.call_types.specs.declared.request.SeatKind.{SeatKind}
use Rattle.call_types.specs.declared.request.SeatKind.TheVariants as seats
use Rattle.call_types.specs.declared.request.Request.{Request}
use Rattle.call_types.specs.declared.request.Request.TheVariants as requests
use Rattle.call_types.specs.declared.reply.Refusal.TheVariants as refusals
use Rattle.call_types.specs.declared.reply.Reply.{Reply}
use Rattle.call_types.specs.declared.reply.Reply.TheVariants as replies
use Rattle.binder_model.specs.Store.{no_modes, first_moment}
use Rattle.binder_model.specs.ObjectKeys.{claim_key, volume_key}
use Rattle.binder_model.specs.BindWrites.{write_reference, write_bound, write_completion, write_claim_status, write_available}
use Rattle.binder_model.specs.BinderDue.{binder_due}
use Rattle.binder_model.specs.Matching.{eligible, match_cmp}
use Rattle.binder_model.specs.World.{World, first_world, effect, reply_to, world_after}

-- a setup with no pools, no planned faults and no imports
abbrev pub no_setup : Setup
no_setup = record { pools = []; faults = []; imports = [] }

-- a request and the kind of client that makes it
pub record Call : Type 0 where
  pub kind : SeatKind
  pub request : Request

-- this kind of client makes this request
abbrev pub by : SeatKind → Request → Call
by kind request = record { kind = kind; request = request }

-- the world after some calls, and what each of them is answered
abbrev pub world_of : World → List Call → World
world_of w [] = w
world_of w (c ∷ cs) = world_of (world_after w (effect no_setup w c.kind c.request)) cs

-- the replies to some calls, one after the other
abbrev pub answers : World → List Call → List Reply
answers w [] = []
answers w (c ∷ cs) = reply_to (effect no_setup w c.kind c.request) ∷ answers (world_after w (effect no_setup w c.kind c.request)) cs

-- manifests

-- the metadata of an object before it was created: a namespace and a name
abbrev pub named : List ℕ → List ℕ → Meta
named namespace name = record { namespace = namespace; name = name; uid = None; version = 0; created = []; deleted = None; labels = []; annotations = []; finalizers = [] }

-- the access modes with ReadWriteOnce alone
abbrev pub once : Modes
once = record no_modes { rwo = true }

-- so many gibibytes
abbrev pub amount : ℕ → Amount
amount gibibytes = record { text = codes "n"; bytes = gibibytes * 2 ^ 30 }

-- a volume of this name and size, as a user creates it
abbrev pub volume : List ℕ → ℕ → VolumeData
volume name size = record {
  meta = named [] name;
  amount = amount size;
  modes = once;
  block = false;
  class = codes "slow";
  policy = policies.Retain;
  claim_ref = None;
  source = record { kind = sources.Nfs; first = codes "s"; second = codes "/x" };
  terms = None;
  extra = [];
  phase = volumes.Pending;
}

-- a claim of this name and size, as a user creates it
abbrev pub claim : List ℕ → ℕ → ClaimData
claim name size = record {
  meta = named (codes "default") name;
  modes = once;
  amount = amount size;
  block = false;
  class = Some (codes "slow");
  selector = None;
  volume_name = [];
  extra = [];
  phase = claims.Pending;
  got_modes = no_modes;
  got = None;
}

-- as the store keeps them

-- the metadata of an object that was created: its UID, version and finalizer
abbrev pub stands : Meta → ℕ → ℕ → List ℕ → List Pair → Meta
stands m serial version finalizer annotations =
    record m { uid = Some (uid_of_serial serial); version = version; created = first_moment; annotations = annotations; finalizers = finalizer ∷ [] }

-- a volume that stands: its name, size, serial number, version and phase
abbrev pub volume_at : List ℕ → ℕ → ℕ → ℕ → VolumePhase → VolumeData
volume_at name size serial version phase =
    let v = volume name size in record v { meta = stands v.meta serial version pv_protection []; phase = phase }

-- a claim that stands: its name, size, serial number and version
abbrev pub claim_at : List ℕ → ℕ → ℕ → ℕ → ClaimData
claim_at name size serial version = let c = claim name size in record c { meta = stands c.meta serial version pvc_protection [] }

-- a volume that carries a claim
abbrev pub volume_for : VolumeData → ClaimData → ℕ → VolumePhase → VolumeData
volume_for v c version phase = record v {
  meta = record v.meta { version = version; annotations = (bound_by_controller, yes) ∷ [] };
  claim_ref = Some (record { namespace = c.meta.namespace; name = c.meta.name; uid = c.meta.uid });
  phase = phase;
}

-- the first run: a volume of 5 gibibytes and a claim of 3
abbrev pub a : ℕ → VolumePhase → VolumeData
a version phase = volume_at (codes "a") 5 1 version phase

-- the claim of this example at a version
abbrev pub c : ℕ → ClaimData
c version = claim_at (codes "c") 3 2 version

-- that claim after its binding was completed
abbrev pub completed_c : ℕ → ClaimData
completed_c version = let old = c 2 in record old {
  meta = record old.meta { version = version; annotations = (bind_completed, yes) ∷ (bound_by_controller, yes) ∷ [] };
  volume_name = codes "a";
}

-- a user creates the volume and then the claim
abbrev pub creates : List Call
creates = by seats.User (requests.Create (Volume (volume (codes "a") 5))) ∷ by seats.User (requests.Create (Claim (claim (codes "c") 3))) ∷ []

-- the volume is made Available and bound
abbrev pub binding_of_volume : List Call
binding_of_volume =
    by seats.Binder (write_available (a 1 volumes.Pending))
    ∷ by seats.Binder (write_reference (a 3 volumes.Available) (c 2))
    ∷ by seats.Binder (write_bound (volume_for (a 1 volumes.Pending) (c 2) 4 volumes.Available)) ∷ []

-- the volume, Bound to the claim
abbrev pub bound_a : VolumeData
bound_a = volume_for (a 1 volumes.Pending) (c 2) 5 volumes.Bound

-- the two writes of the binder that complete the claim
abbrev pub binding_of_claim : List Call
binding_of_claim = by seats.Binder (write_completion bound_a (c 2)) ∷ by seats.Binder (write_claim_status bound_a (completed_c 6)) ∷ []

-- the claim, Bound
abbrev pub bound_c : ClaimData
bound_c = let done = completed_c 7 in record done { phase = claims.Bound; got_modes = once; got = Some (amount 5) }

-- seven writes, after which the volume is Bound and the claim completed, and the binder has nothing to do
pub record IsFirstRun (w : World) : Type 0 where
  pub rows : w.store.rows ≡ Volume bound_a ∷ Claim bound_c ∷ []
  pub version : w.store.version ≡ 7
  pub volume_due : binder_due w.store.rows (Volume bound_a) ≡ None
  pub claim_due : binder_due w.store.rows (Claim bound_c) ≡ None

-- what a first run comes to: two creations and a binding
abbrev pub FirstRun : Type 0
FirstRun = IsFirstRun (world_of (first_world no_setup) (creates ++ binding_of_volume ++ binding_of_claim))

-- the claim is deleted between the second and the third write, and leaves: the completion finds none
abbrev pub leaving_c : ClaimData
leaving_c = let old = c 2 in record old { meta = record old.meta { version = 6; deleted = Some first_moment; finalizers = [] } }

-- the claim without its finalizer
abbrev pub left_c : ClaimData
left_c = record leaving_c { meta = record leaving_c.meta { version = 7 } }

-- the claim, marked for deletion
abbrev pub deleted_c : ClaimData
deleted_c = let old = c 2 in record old { meta = record old.meta { version = 6; deleted = Some first_moment } }

-- where the claim leaves between two writes of the binder, the next write is answered NotFound
abbrev pub ClaimGoneBetweenWrites : Type 0
ClaimGoneBetweenWrites =
    answers (world_of (first_world no_setup) (creates ++ binding_of_volume))
    (by seats.User (requests.Delete (claim_key (codes "default") (codes "c")) None)
    ∷ by seats.ClaimProtect (requests.Update (Claim leaving_c) (Some 6))
    ∷ by seats.Binder (write_completion bound_a (c 2)) ∷ [])
    ≡ replies.Done (Claim deleted_c) ∷ replies.Left (Claim left_c) ∷ replies.Refused refusals.NotFound ∷ []

-- two claims name one volume: the reference to the second, decided on the volume as it was, is a conflict
abbrev pub TwoClaimsOneVolume : Type 0
TwoClaimsOneVolume =
    answers (world_of (first_world no_setup) (creates ++ binding_of_volume))
    (by seats.Binder (write_reference (a 3 volumes.Available) (claim_at (codes "d") 3 9 9)) ∷ [])
    ≡ replies.Refused (refusals.Conflict 5) ∷ []

-- a volume that is deleted stays until its finalizer is dropped, and refuses what the guard and the fields forbid
abbrev pub key_a : Key
key_a = volume_key (codes "a")

-- the volume, marked for deletion
abbrev pub deleted_a : ℕ → List (List ℕ) → VolumeData
deleted_a version finalizers = let old = a 1 volumes.Pending in record old { meta = record old.meta { version = version; deleted = Some first_moment; finalizers = finalizers } }

-- a volume that is marked for deletion may be deleted again, and takes no new owner
abbrev pub DeletedVolumeRefuses : Type 0
DeletedVolumeRefuses =
    answers (first_world no_setup)
    (by seats.User (requests.Create (Volume (volume (codes "a") 5)))
    ∷ by seats.User (requests.Delete key_a None)
    ∷ by seats.User (requests.Delete key_a None)
    ∷ by seats.User (requests.Edit key_a (edits.DropFinalizer pv_protection))
    ∷ by seats.User (requests.Edit key_a (edits.AddFinalizer (codes "x/y")))
    ∷ by seats.VolumeProtect (requests.Update (Volume (deleted_a 2 [])) (Some 1))
    ∷ by seats.VolumeProtect (requests.Update (Volume (deleted_a 2 [])) (Some 2))
    ∷ by seats.User (requests.Get key_a) ∷ [])
    ≡ replies.Done (Volume (a 1 volumes.Pending))
    ∷ replies.Done (Volume (deleted_a 2 (pv_protection ∷ [])))
    ∷ replies.Done (Volume (deleted_a 2 (pv_protection ∷ [])))
    ∷ replies.Refused (refusals.Forbidden rules.Finalizer)
    ∷ replies.Refused (refusals.Invalid fields.Finalizers)
    ∷ replies.Refused (refusals.Conflict 2)
    ∷ replies.Left (Volume (deleted_a 3 []))
    ∷ replies.Refused refusals.NotFound ∷ []

-- a user may not set a guarded annotation
abbrev pub GuardOnAnnotations : Type 0
GuardOnAnnotations =
    answers (first_world no_setup)
    (by seats.User (requests.Create (Claim (claim (codes "c") 5)))
    ∷ by seats.User (requests.Edit (claim_key (codes "default") (codes "c")) (edits.SetAnnotation bind_completed yes)) ∷ [])
    ≡ replies.Done (Claim (claim_at (codes "c") 5 1 1)) ∷ replies.Refused (refusals.Forbidden rules.Annotation) ∷ []

-- watches of a store at version 600 with an empty log
abbrev pub at_600 : World
at_600 = record (first_world no_setup) { store = record { rows = []; version = 600 } }

-- the binder watches volumes from a version on
abbrev pub watching : ℕ → Call
watching from = by seats.Binder (requests.Watch kinds.PersistentVolume from)

-- a watch from before the window is Gone, one from the last version has no events, one from a later version is refused
abbrev pub Watches : Type 0
Watches =
    answers at_600 (watching 3 ∷ watching 87 ∷ watching 88 ∷ watching 601 ∷ [])
    ≡ replies.Refused (refusals.Gone 88) ∷ replies.Refused (refusals.Gone 88)
    ∷ replies.Events (record { events = []; upto = 600 })
    ∷ replies.Refused (refusals.Invalid fields.From) ∷ []

-- of two volumes of one size the first by name, and both before a larger one
pub record IsTieByName : Type 0 where
  pub first : eligible (a 3 volumes.Available) (claim (codes "c") 5) None ≡ true
  pub by_name : match_cmp (claim (codes "c") 5) (a 3 volumes.Available) (volume_at (codes "b") 5 2 4 volumes.Available) ≡ Less
  pub by_size : match_cmp (claim (codes "c") 5) (volume_at (codes "b") 5 2 4 volumes.Available) (volume_at (codes "big") 10 3 5 volumes.Available) ≡ Less

-- fewer modes come before fewer bytes, and what is too small is not eligible
abbrev pub m1 : VolumeData
m1 = let v = volume_at (codes "m1") 1 1 1 volumes.Available in record v { modes = record once { rox = true; rwx = true } }

-- a second volume, with fewer access modes and more bytes
abbrev pub m2 : VolumeData
m2 = volume_at (codes "m2") 5 2 2 volumes.Available

-- of two volumes that serve a claim, fewer access modes come before fewer bytes
pub record IsModesBeforeSize : Type 0 where
  pub both : eligible m1 (claim (codes "c") 1) None ≡ true
  pub modes_first : match_cmp (claim (codes "c") 1) m2 m1 ≡ Less
  pub too_small : eligible m2 (claim (codes "c") 6) None ≡ false

-- a node that was taken twice refuses its first epoch
abbrev pub StaleEpochs : Type 0
StaleEpochs =
    answers (first_world no_setup)
    (by seats.Agent (requests.TakeNode (codes "n1")) ∷ by seats.Agent (requests.TakeNode (codes "n1"))
    ∷ by seats.Agent (requests.Mounts (codes "n1") 1) ∷ by seats.Agent (requests.Mounts (codes "n1") 2)
    ∷ by seats.User (requests.Mounts (codes "n1") 2) ∷ [])
    ≡ replies.Epoch 1 ∷ replies.Epoch 2 ∷ replies.Refused (refusals.StaleEpoch 2) ∷ replies.Mounted [] ∷ replies.Refused (refusals.Forbidden rules.Verb) ∷ []
