-- Which volumes fit, what may be given, and what claims get at the end of runs, computed: for each definition a case that holds,
-- and cases that do not. A choice of this project, as the definitions are. Lists of entries begin with the newest.
use Rattle.std.specs.Prelude.{ℕ, ◌≡◌, true, false, List, [], ◌∷◌, Some, None, codes}
use Rattle.kube_parts.specs.declared.parts.Kind.TheVariants as kinds
use Rattle.kube_parts.specs.declared.parts.ClaimPhase.TheVariants as claims
use Rattle.kube_parts.specs.declared.parts.VolumePhase.{VolumePhase}
use Rattle.kube_parts.specs.declared.parts.VolumePhase.TheVariants as volumes
use Rattle.kube_objects.specs.declared.objects.Ref.{Ref}
use Rattle.kube_objects.specs.declared.objects.Volume.{Volume as VolumeData}
use Rattle.kube_objects.specs.declared.objects.Claim.{Claim as ClaimData}
use Rattle.kube_objects.specs.declared.objects.Object.{Object}
use Rattle.kube_objects.specs.declared.objects.Object.TheVariants.{Volume, Claim}
use Rattle.kube_parts.specs.Uids.{uid_of_serial}
use Rattle.kube_objects.specs.Bindings.{bind_completed, bound_by_controller, yes}
use Rattle.call_types.specs.declared.entry.Entry.{Entry}
use Rattle.call_types.specs.declared.setup.Setup.{Setup}
use Rattle.call_types.specs.declared.edit.Edit.TheVariants as edits
use Rattle.call_types.specs.declared.request.SeatKind.{SeatKind}
use Rattle.call_types.specs.declared.request.SeatKind.TheVariants as seats
use Rattle.call_types.specs.declared.request.Request.{Request}
use Rattle.call_types.specs.declared.request.Request.TheVariants as requests
use Rattle.call_types.specs.declared.reply.Reply.{Reply}
use Rattle.call_types.specs.declared.reply.Reply.TheVariants as replies
use Rattle.binder_model.specs.BindWrites.{completed_with, taken_for, write_available, write_bound, write_completion, write_reference}
use Rattle.binder_model.specs.ObjectKeys.{volume_key}
use Rattle.binder_model.specs.Imports.{ImportsPass}
use Rattle.binder_model.specs.Run.{Run}
use Rattle.binder_model.specs.Safe.{Counts, was_imported_as_lost}
use Rattle.model_laws.specs.Worked.{no_setup, claim, claim_at, volume, volume_at}
use Rattle.size_law.specs.Law.Fitting.{Fits, IsReservedFor, IsPair, IsRestored, GivesFitting, AreFitting, is_marked}
use Rattle.size_law.specs.Law.Enough.{ImportsFit, WerePair, IsGivenByController, IsNamedByController, GetsEnough, GetEnough, ReferencesFit}

-- a volume of 5 gibibytes that is free; and reserved for the claim by name, for another one, and taken for it
abbrev pub a : VolumeData
a = volume_at (codes "a") 5 1 1 volumes.Pending

-- the claim by its name, without its UID
abbrev pub name_c : Ref
name_c = record { namespace = codes "default"; name = codes "c"; uid = None }

-- the volume with this claimRef
abbrev pub with_reference : Ref → VolumeData → VolumeData
with_reference r v = record v { claim_ref = Some r }

-- the volume reserved for the claim by name
abbrev pub reserved_a : VolumeData
reserved_a = with_reference name_c a

-- the volume reserved for another claim
abbrev pub reserved_for_other : VolumeData
reserved_for_other = with_reference (record name_c { name = codes "d" }) a

-- the volume taken for the claim, with its UID
abbrev pub taken_a : VolumeData
taken_a = with_reference (record name_c { uid = Some (uid_of_serial 2) }) a

-- a claim of so many gibibytes; it names the volume; it is completed
abbrev pub c : ℕ → ClaimData
c size = claim_at (codes "c") size 2 2

-- the claim, which names the volume
abbrev pub naming_a : ClaimData → ClaimData
naming_a x = record x { volume_name = codes "a" }

-- the claim, whose binding is completed
abbrev pub completed : ClaimData → ClaimData
completed x = record x { meta = record x.meta { annotations = (bind_completed, yes) ∷ [] } }

-- the claim, which asks for a block device
abbrev pub of_blocks : ClaimData → ClaimData
of_blocks x = record x { block = true }

-- a volume fits a claim that asks for no more bytes and for the same volume mode
pub record FitsExamples : Type 0 where
  pub more_bytes : Fits a (c 3)
  pub same_bytes : Fits a (c 5)
  pub fewer_bytes : Fits a (c 6) → ⊥
  pub other_mode : Fits a (of_blocks (c 3)) → ⊥

-- what counts as reserved, as a pair that was bound by hand, and as a completed claim whose volume is free again
pub record ByHandExamples : Type 0 where
  pub reserved : IsReservedFor reserved_a (c 9)
  pub free_is_not_reserved : IsReservedFor a (c 9) → ⊥
  pub taken_is_not_reserved : IsReservedFor taken_a (c 9) → ⊥
  pub reserved_for_other : IsReservedFor reserved_for_other (c 9) → ⊥
  pub pair : IsPair reserved_a (naming_a (c 9))
  pub claim_that_names_none : IsPair reserved_a (c 9) → ⊥
  pub volume_that_is_free : IsPair a (naming_a (c 9)) → ⊥
  pub completed_claim : IsPair reserved_a (completed (naming_a (c 9))) → ⊥
  pub restored : IsRestored a (completed (naming_a (c 9)))
  pub restored_but_reserved : IsRestored reserved_a (completed (naming_a (c 9))) → ⊥
  pub restored_elsewhere : IsRestored a (completed (c 9)) → ⊥
  pub restored_undone : IsRestored a (naming_a (c 9)) → ⊥

-- what a seat may give

-- an entry whose client was told the reply
abbrev pub entry : ℕ → SeatKind → Request → Reply → Entry
entry seat kind request reply = record { seat = seat; kind = kind; request = request; reply = reply; told = true }

-- a client of this kind lists the volumes, of which there is this one
abbrev pub lists_volume : SeatKind → VolumeData → ℕ → Entry
lists_volume kind v version = entry 5 kind (requests.List kinds.PersistentVolume None) (replies.Listed (Volume v ∷ []) version)

-- a client of this kind lists the claims, of which there is this one
abbrev pub lists_claim : SeatKind → ClaimData → ℕ → Entry
lists_claim kind x version = entry 5 kind (requests.List kinds.PersistentVolumeClaim None) (replies.Listed (Claim x ∷ []) version)

-- a client of this kind was told the volume and the claim
abbrev pub told : SeatKind → VolumeData → ClaimData → List Entry
told kind v x = lists_claim kind x 2 ∷ lists_volume kind v 2 ∷ []

-- a binder, a scheduler that was told the two gives the one to the other
abbrev pub Gives : SeatKind → VolumeData → ClaimData → Type 0
Gives kind v x = GivesFitting kind (told kind v x) (write_reference v x)

-- which volumes a binder and a scheduler may give to which claims
pub record GivingExamples : Type 0 where
  pub fitting : Gives seats.Binder a (c 3)
  pub pair : Gives seats.Binder reserved_a (naming_a (c 9))
  pub restored : Gives seats.Binder a (completed (naming_a (c 9)))
  pub too_small : Gives seats.Binder a (c 9) → ⊥
  pub other_mode : Gives seats.Binder a (of_blocks (c 3)) → ⊥
  pub too_small_and_named : Gives seats.Binder a (naming_a (c 9)) → ⊥
  pub too_small_and_reserved : Gives seats.Binder reserved_a (c 9) → ⊥
  pub too_small_and_completed : Gives seats.Binder reserved_a (completed (naming_a (c 9))) → ⊥
  pub claim_never_told : GivesFitting seats.Binder (lists_volume seats.Binder a 2 ∷ []) (write_reference a (c 3)) → ⊥
  pub volume_never_told : GivesFitting seats.Binder (lists_claim seats.Binder (c 3) 2 ∷ []) (write_reference a (c 3)) → ⊥
  pub scheduler_fitting : Gives seats.Scheduler a (c 3)
  pub scheduler_too_small : Gives seats.Scheduler a (c 9) → ⊥
  pub other_writes_are_free : GivesFitting seats.Binder [] (write_bound taken_a)

-- runs of a user and a binder

-- the volume after the first write, and after the second; the claim after the third
abbrev pub taken : VolumeData → ClaimData → ℕ → VolumePhase → VolumeData
taken v x version phase = let t = taken_for v x in record t { meta = record t.meta { version = version }; phase = phase }

-- the claim once it is completed with the volume
abbrev pub done : ClaimData → VolumeData → ℕ → ClaimData
done x v version = let d = completed_with x v in record d { meta = record d.meta { version = version } }

-- the volume, which may be reserved, and the claim, which may name it, are created and bound; the claim is told before
abbrev pub history : VolumeData → VolumeData → ClaimData → ClaimData → List Entry
history new v asked x =
    entry 5 seats.Binder (write_completion (taken v x 4 volumes.Bound) x) (replies.Done (Claim (done x v 5)))
    ∷ entry 5 seats.Binder (write_bound (taken v x 3 volumes.Pending)) (replies.Done (Volume (taken v x 4 volumes.Bound)))
    ∷ entry 5 seats.Binder (write_reference v x) (replies.Done (Volume (taken v x 3 volumes.Pending)))
    ∷ lists_claim seats.Binder x 2 ∷ lists_volume seats.Binder v 2
    ∷ entry 1 seats.User (requests.Create (Claim asked)) (replies.Done (Claim x))
    ∷ entry 1 seats.User (requests.Create (Volume new)) (replies.Done (Volume v)) ∷ []

-- a claim of so many gibibytes gets the volume of 5
abbrev pub binding : ℕ → List Entry
binding size = history (volume (codes "a") 5) a (claim (codes "c") size) (c size)

-- a claim of 9, and the volume, bound by hand
abbrev pub pair_binding : List Entry
pair_binding = history (with_reference name_c (volume (codes "a") 5)) reserved_a (naming_a (claim (codes "c") 9)) (naming_a (c 9))

-- a claim of 3 gibibytes is bound to the volume and gets enough
pub record FittingRunExamples : Type 0 where
  pub run : Run no_setup (binding 3)
  pub fitting : AreFitting (binding 3)
  pub counts : Counts no_setup (binding 3) (done (c 3) a 5)
  pub gets_enough : GetsEnough no_setup (binding 3) (done (c 3) a 5)
  pub given_by_controller : IsGivenByController no_setup (binding 3) (taken a (c 3) 4 volumes.Bound)
  pub named_by_controller : IsNamedByController no_setup (done (c 3) a 5)
  pub references_fit : ReferencesFit no_setup (binding 3)

-- the licence alone lets a binder give too little
pub record ShortRunExamples : Type 0 where
  pub run : Run no_setup (binding 9)
  pub counts : Counts no_setup (binding 9) (done (c 9) a 5)
  pub not_fitting : AreFitting (binding 9) → ⊥
  pub were_no_pair : WerePair no_setup (binding 9) (taken a (c 9) 4 volumes.Bound) (done (c 9) a 5) → ⊥
  pub gets_too_little : GetsEnough no_setup (binding 9) (done (c 9) a 5) → ⊥
  pub not_enough : GetEnough no_setup (binding 9) → ⊥
  pub references_misfit : ReferencesFit no_setup (binding 9) → ⊥

-- who were bound by hand get what the user said
pub record PairRunExamples : Type 0 where
  pub run : Run no_setup pair_binding
  pub fitting : AreFitting pair_binding
  pub counts : Counts no_setup pair_binding (done (naming_a (c 9)) reserved_a 5)
  pub were_pair : WerePair no_setup pair_binding (taken reserved_a (naming_a (c 9)) 4 volumes.Bound) (done (naming_a (c 9)) reserved_a 5)
  pub gets_enough : GetsEnough no_setup pair_binding (done (naming_a (c 9)) reserved_a 5)
  pub too_little : Fits (taken reserved_a (naming_a (c 9)) 4 volumes.Bound) (done (naming_a (c 9)) reserved_a 5) → ⊥
  pub not_given_by_controller : IsGivenByController no_setup pair_binding (taken reserved_a (naming_a (c 9)) 4 volumes.Bound) → ⊥
  pub not_named_by_controller : IsNamedByController no_setup (done (naming_a (c 9)) reserved_a 5) → ⊥

-- what imports bring

-- a world that begins with these imports
abbrev pub setup_of : List Object → Setup
setup_of imports = record { pools = []; faults = []; imports = imports }

-- the claim, completed and marked as bound by a controller
abbrev pub marked_claim : ClaimData → ClaimData
marked_claim x = record x { meta = record x.meta { annotations = (bind_completed, yes) ∷ (bound_by_controller, yes) ∷ [] } }

-- the volume, marked as bound by a controller
abbrev pub marked_volume : VolumeData → VolumeData
marked_volume v = record v { meta = record v.meta { annotations = (bound_by_controller, yes) ∷ [] } }

-- a volume that an older store had bound to a claim of more bytes
abbrev pub old_a : VolumeData
old_a = let v = marked_volume taken_a in record v { phase = volumes.Bound }

-- the claim of so many gibibytes that an older store had bound to the volume
abbrev pub old_c : ℕ → ClaimData
old_c size = marked_claim (naming_a (c size))

-- a world that begins with the two
abbrev pub old_pair : ℕ → Setup
old_pair size = setup_of (Volume old_a ∷ Claim (old_c size) ∷ [])

-- an imported volume fits its imported claim or does not; of a claim that it does not fit the law says nothing
pub record ImportedPairExamples : Type 0 where
  pub imports_fit : ImportsFit (old_pair 3) (Some (uid_of_serial 2))
  pub imports_do_not_fit : ImportsFit (old_pair 9) (Some (uid_of_serial 2)) → ⊥
  pub imports_pass : ImportsPass (old_pair 9).imports
  pub counts : Counts (old_pair 9) [] (old_c 9)
  pub not_lost : was_imported_as_lost (old_pair 9) (Some (uid_of_serial 2)) ≡ false
  pub too_little : Fits old_a (old_c 9) → ⊥

-- a claim that was imported as Lost, whose volume comes back smaller
abbrev pub lost_setup : Setup
lost_setup = setup_of (Claim (old_c 9) ∷ [])

-- the imported claim in phase Lost
abbrev pub lost_c : ClaimData
lost_c = let x = old_c 9 in record x { phase = claims.Lost }

-- the volume, created anew
abbrev pub back_a : VolumeData
back_a = volume_at (codes "a") 5 3 3 volumes.Pending

-- a user creates the volume, and the binder gives it to the claim
abbrev pub coming_back : List Entry
coming_back =
    entry 5 seats.Binder (write_bound (taken back_a lost_c 4 volumes.Pending)) (replies.Done (Volume (taken back_a lost_c 5 volumes.Bound)))
    ∷ entry 5 seats.Binder (write_reference back_a lost_c) (replies.Done (Volume (taken back_a lost_c 4 volumes.Pending)))
    ∷ lists_claim seats.Binder lost_c 3 ∷ lists_volume seats.Binder back_a 3
    ∷ entry 1 seats.User (requests.Create (Volume (volume (codes "a") 5))) (replies.Done (Volume back_a)) ∷ []

-- a claim that was imported as Lost may get a smaller volume back
pub record LostClaimExamples : Type 0 where
  pub imports_pass : ImportsPass lost_setup.imports
  pub run : Run lost_setup coming_back
  pub fitting : AreFitting coming_back
  pub lost : was_imported_as_lost lost_setup (Some (uid_of_serial 2)) ≡ true
  pub counts : Counts lost_setup coming_back lost_c
  pub marked : is_marked (taken back_a lost_c 5 volumes.Bound).meta ≡ true
  pub too_little : Fits (taken back_a lost_c 5 volumes.Bound) lost_c → ⊥

-- a volume that was Released; a user clears its reference and leaves the mark, and reserves it for a larger claim
abbrev pub released_a : VolumeData
released_a = let v = marked_volume (with_reference (record name_c { name = codes "d"; uid = Some (uid_of_serial 9) }) a) in record v { phase = volumes.Released }

-- a world that begins with the Released volume
abbrev pub mark_setup : Setup
mark_setup = setup_of (Volume released_a ∷ [])

-- the volume without the reference, in this phase; reserved
abbrev pub cleared_a : ℕ → VolumePhase → VolumeData
cleared_a version phase = let v = released_a in record v { meta = record v.meta { version = version }; claim_ref = None; phase = phase }

-- the cleared volume, reserved for the claim
abbrev pub again_reserved : ℕ → VolumePhase → VolumeData
again_reserved version phase = with_reference name_c (cleared_a version phase)

-- a claim of 9 gibibytes that names the volume
abbrev pub new_c : ClaimData
new_c = naming_a (claim_at (codes "c") 9 12 12)

-- the reserved volume once it is Available
abbrev pub v13 : VolumeData
v13 = again_reserved 13 volumes.Available

-- a user clears the reference, reserves the volume and creates the claim; the binder binds the two
abbrev pub keeping_the_mark : List Entry
keeping_the_mark =
    entry 5 seats.Binder (write_completion (taken v13 new_c 15 volumes.Bound) new_c) (replies.Done (Claim (done new_c v13 16)))
    ∷ entry 5 seats.Binder (write_bound (taken v13 new_c 14 volumes.Available)) (replies.Done (Volume (taken v13 new_c 15 volumes.Bound)))
    ∷ entry 5 seats.Binder (write_reference v13 new_c) (replies.Done (Volume (taken v13 new_c 14 volumes.Available)))
    ∷ entry 5 seats.Binder (write_available (again_reserved 11 volumes.Released)) (replies.Done (Volume v13))
    ∷ lists_claim seats.Binder new_c 12 ∷ lists_volume seats.Binder (again_reserved 11 volumes.Released) 12
    ∷ entry 1 seats.User (requests.Create (Claim (naming_a (claim (codes "c") 9)))) (replies.Done (Claim new_c))
    ∷ entry 1 seats.User (requests.Edit (volume_key (codes "a")) (edits.SetClaimRef (codes "default") (codes "c"))) (replies.Done (Volume (again_reserved 11 volumes.Released)))
    ∷ entry 1 seats.User (requests.Update (Volume (cleared_a 1 volumes.Released)) None) (replies.Done (Volume (cleared_a 10 volumes.Released))) ∷ []

-- the mark alone does not say that a controller gave the volume
pub record KeptMarkExamples : Type 0 where
  pub imports_pass : ImportsPass mark_setup.imports
  pub run : Run mark_setup keeping_the_mark
  pub fitting : AreFitting keeping_the_mark
  pub counts : Counts mark_setup keeping_the_mark (done new_c v13 16)
  pub marked : is_marked (taken v13 new_c 15 volumes.Bound).meta ≡ true
  pub not_given_by_controller : IsGivenByController mark_setup keeping_the_mark (taken v13 new_c 15 volumes.Bound) → ⊥
  pub too_little : Fits (taken v13 new_c 15 volumes.Bound) (done new_c v13 16) → ⊥

-- a claim that an older store had marked and not completed, and a volume that a user reserves for it
abbrev pub early_c : ClaimData
early_c = let x = naming_a (c 9) in record x { meta = record x.meta { annotations = (bound_by_controller, yes) ∷ [] } }

-- a world that begins with this claim
abbrev pub early_setup : Setup
early_setup = setup_of (Claim early_c ∷ [])

-- a volume that is created later and reserved for the claim
abbrev pub reserved_back : VolumeData
reserved_back = with_reference name_c back_a

-- a user creates the volume, and the binder binds the two
abbrev pub marked_early : List Entry
marked_early =
    entry 5 seats.Binder (write_completion (taken reserved_back early_c 5 volumes.Bound) early_c) (replies.Done (Claim (done early_c reserved_back 6)))
    ∷ entry 5 seats.Binder (write_bound (taken reserved_back early_c 4 volumes.Pending)) (replies.Done (Volume (taken reserved_back early_c 5 volumes.Bound)))
    ∷ entry 5 seats.Binder (write_reference reserved_back early_c) (replies.Done (Volume (taken reserved_back early_c 4 volumes.Pending)))
    ∷ lists_claim seats.Binder early_c 3 ∷ lists_volume seats.Binder reserved_back 3
    ∷ entry 1 seats.User (requests.Create (Volume (with_reference name_c (volume (codes "a") 5)))) (replies.Done (Volume reserved_back)) ∷ []

-- the mark alone does not say that a controller chose the claim's volume
pub record EarlyMarkExamples : Type 0 where
  pub imports_pass : ImportsPass early_setup.imports
  pub run : Run early_setup marked_early
  pub fitting : AreFitting marked_early
  pub counts : Counts early_setup marked_early (done early_c reserved_back 6)
  pub marked : is_marked (done early_c reserved_back 6).meta ≡ true
  pub not_named_by_controller : IsNamedByController early_setup (done early_c reserved_back 6) → ⊥
  pub too_little : Fits (taken reserved_back early_c 5 volumes.Bound) (done early_c reserved_back 6) → ⊥
