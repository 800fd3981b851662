-- The parts of what is safe: a world or a step of a history that is, and one that is not, for each condition.
-- Whether these steps would be licensed is not asked. A choice of this project.
use Rattle.std.specs.Prelude.{true, false, List, [], ◌∷◌, Some, None, codes}
use Rattle.kube_parts.specs.declared.parts.VolumePhase.{VolumePhase}
use Rattle.kube_parts.specs.declared.parts.VolumePhase.TheVariants as volumes
use Rattle.kube_parts.specs.declared.uid.Uid.{Uid}
use Rattle.kube_objects.specs.declared.objects.Claim.{Claim as ClaimData}
use Rattle.kube_objects.specs.declared.objects.Volume.{Volume as VolumeData}
use Rattle.kube_objects.specs.declared.objects.Object.{Object}
use Rattle.kube_objects.specs.declared.objects.Object.TheVariants.{Volume, Claim}
use Rattle.kube_parts.specs.Uids.{uid_of_serial}
use Rattle.kube_objects.specs.Bindings.{bind_completed, yes}
use Rattle.call_types.specs.declared.entry.Entry.{Entry}
use Rattle.call_types.specs.declared.setup.Setup.{Setup}
use Rattle.call_types.specs.declared.request.NewStatus.TheVariants as statuses
use Rattle.call_types.specs.declared.request.SeatKind.TheVariants as seats
use Rattle.call_types.specs.declared.request.Request.{Request}
use Rattle.call_types.specs.declared.request.Request.TheVariants as requests
use Rattle.call_types.specs.declared.reply.Refusal.TheVariants as refusals
use Rattle.call_types.specs.declared.reply.Reply.TheVariants as replies
use Rattle.binder_model.specs.Devices.{no_devices}
use Rattle.binder_model.specs.World.{World, first_world}
use Rattle.binder_model.specs.Safe.{AreBindings, CountedAreBound, CountedAreApart, Counts, KeepsBound, KeepsMounted, ErasesWell, Safe}
use Rattle.model_laws.specs.Worked.{no_setup}
use Rattle.model_examples.specs.Imported.{setup_of}
use Rattle.model_examples.specs.Samples.{
  Exchange,
  seat_of,
  heard,
  unheard,
  tells_volume,
  finds,
  a,
  c,
  d,
  in_phase,
  claim_at,
  deleting,
  key_a,
  uid_c,
  taken_a,
  bound_a,
  released_a,
  bound_c,
  node_1,
  uid_p,
  ended_a,
  failed_a,
  id_a,
  bound_for_other,
  leaving_bound_a,
  still_bound_a,
}

-- a step by a binder that asks no licence. The world does not look at its reply
abbrev pub step : Request → Entry
step request = record { seat = 5; kind = seats.Binder; request = request; reply = replies.Timed; told = true }

-- claims that are completed, and the writes that complete them
abbrev pub completing : ClaimData → ClaimData
completing x = record x { meta = record x.meta { annotations = (bind_completed, yes) ∷ [] }; volume_name = codes "a" }

abbrev pub completes : ClaimData → Entry
completes x = step (requests.Update (Claim (completing x)) None)

abbrev pub sets_phase : VolumePhase → Entry
sets_phase phase = step (requests.UpdateStatus key_a (statuses.Volume phase) None)

abbrev pub with_claim : List Object → Setup
with_claim volumes = setup_of (with_last volumes)
  where
    with_last : List Object → List Object
    with_last [] = Claim c ∷ []
    with_last (o ∷ os) = o ∷ with_last os

-- the claim was completed before the world began, and no volume was bound to it
abbrev pub lost_setup : Setup
lost_setup = setup_of (Volume taken_a ∷ Claim bound_c ∷ [])

abbrev pub two_claims : Setup
two_claims = setup_of (Volume bound_a ∷ Claim c ∷ Claim d ∷ [])

-- claims that count, and Bound volumes of their own

pub record BindingExamples : Type 0 where
  pub empty_world : AreBindings no_setup []
  pub claim_before_completion : AreBindings (with_claim []) []
  pub bound_in_an_import : AreBindings (setup_of (Volume bound_a ∷ Claim bound_c ∷ [])) []
  pub completed_after_bound : AreBindings (with_claim (Volume bound_a ∷ [])) (completes c ∷ [])
  pub completed_without_volume_is_unsafe : CountedAreBound (with_claim []) (completes c ∷ []) → ⊥
  pub completed_with_free_volume_is_unsafe : CountedAreBound (with_claim (Volume a ∷ [])) (completes c ∷ []) → ⊥
  pub completed_before_bound_is_unsafe : CountedAreBound (with_claim (Volume taken_a ∷ [])) (completes c ∷ []) → ⊥
  pub released_under_claim_is_unsafe : CountedAreBound (with_claim (Volume bound_a ∷ [])) (sets_phase volumes.Released ∷ completes c ∷ []) → ⊥
  pub one_of_two_claims : CountedAreApart two_claims (completes c ∷ [])
  pub two_claims_of_one_volume_are_unsafe : CountedAreApart two_claims (completes d ∷ completes c ∷ []) → ⊥
  pub completed_claim_counts : Counts (with_claim (Volume bound_a ∷ [])) (completes c ∷ []) (completing (claim_at 6 c))
  pub claim_before_completion_does_not_count : Counts (with_claim []) [] c → ⊥
  pub lost_import_does_not_count : Counts lost_setup [] bound_c → ⊥
  pub lost_import_is_safe : AreBindings lost_setup []
  pub lost_import_counts_once_bound : Counts lost_setup (sets_phase volumes.Bound ∷ []) bound_c
  pub lost_import_bound_is_safe : CountedAreBound lost_setup (sets_phase volumes.Bound ∷ [])
  pub lost_import_bound_and_released_is_unsafe : CountedAreBound lost_setup (sets_phase volumes.Released ∷ sets_phase volumes.Bound ∷ []) → ⊥

-- what leaves

abbrev pub mounting : Uid → World
mounting uid = record (first_world no_setup) {
  store = record { rows = Claim c ∷ []; version = 9 };
  devices = record no_devices { mounts = record { node = node_1; row = record { pod = uid_p; claims = uid ∷ [] } } ∷ [] };
}

abbrev pub unmounted : World
unmounted = record (first_world no_setup) { store = record { rows = Claim c ∷ []; version = 9 } }

pub record LeavingExamples : Type 0 where
  pub bound_volume_stays : KeepsBound (Volume bound_a ∷ []) (Volume released_a ∷ [])
  pub free_volume_leaves : KeepsBound (Volume a ∷ []) []
  pub bound_volume_leaves_is_unsafe : KeepsBound (Volume bound_a ∷ []) [] → ⊥
  pub bound_volume_for_another_is_unsafe : KeepsBound (Volume bound_a ∷ []) (Volume (record a { meta = record a.meta { name = codes "b" } }) ∷ []) → ⊥
  pub mounted_claim_stays : KeepsMounted (mounting uid_c) (Claim c ∷ [])
  pub unmounted_claim_leaves : KeepsMounted unmounted []
  pub claim_leaves_beside_other_mount : KeepsMounted (mounting (uid_of_serial 8)) []
  pub mounted_claim_leaves_is_unsafe : KeepsMounted (mounting uid_c) [] → ⊥

-- erased data

abbrev pub next_a : VolumeData
next_a = record bound_a { meta = record bound_a.meta { uid = Some (uid_of_serial 12) } }

abbrev pub no_uid_a : VolumeData
no_uid_a = let old = ended_a in record old { meta = record old.meta { uid = None } }

-- data of the volume were erased after these exchanges, while these rows stood
abbrev pub ErasedAfter : List Object → List Exchange → Type 0
ErasedAfter rows xs = ErasesWell rows (seat_of seats.Ops xs) (requests.Erase id_a) (replies.Erased true)

-- the same of data that the back end never had, as those of an imported volume
abbrev pub ErasesImported : List Object → List Exchange → Type 0
ErasesImported rows xs = ErasesWell rows (seat_of seats.Ops xs) (requests.Erase id_a) (replies.Erased false)

pub record ErasedExamples : Type 0 where
  pub erased_while_released : ErasedAfter (Volume ended_a ∷ []) (finds key_a (Volume ended_a) ∷ [])
  pub erased_while_failed : ErasedAfter (Volume failed_a ∷ []) (finds key_a (Volume ended_a) ∷ [])
  pub erased_after_it_left : ErasedAfter [] (finds key_a (Volume ended_a) ∷ [])
  pub erased_beside_next_volume : ErasedAfter (Volume next_a ∷ []) (finds key_a (Volume ended_a) ∷ [])
  pub imported_data_of_an_ended_volume : ErasesImported (Volume ended_a ∷ []) (finds key_a (Volume ended_a) ∷ [])
  pub imported_data_never_read_are_unsafe : ErasesImported (Volume bound_a ∷ []) [] → ⊥
  pub imported_data_of_a_bound_volume_are_unsafe : ErasesImported (Volume (in_phase volumes.Bound ended_a) ∷ []) (finds key_a (Volume ended_a) ∷ []) → ⊥
  pub failed_erase : ErasesWell (Volume bound_a ∷ []) [] (requests.Erase id_a) (replies.Refused (refusals.BackFault 1))
  pub never_read_is_unsafe : ErasedAfter [] [] → ⊥
  pub listed_alone_is_unsafe : ErasedAfter [] (tells_volume ended_a ∷ []) → ⊥
  pub read_without_answer_is_unsafe : ErasedAfter [] (unheard (finds key_a (Volume ended_a)) ∷ []) → ⊥
  pub erased_without_uid_is_unsafe : ErasedAfter [] (finds key_a (Volume no_uid_a) ∷ []) → ⊥
  pub erased_while_bound_is_unsafe : ErasedAfter (Volume (in_phase volumes.Bound ended_a) ∷ []) (finds key_a (Volume ended_a) ∷ []) → ⊥
  pub erased_with_policy_retain_is_unsafe : ErasedAfter (Volume released_a ∷ []) (finds key_a (Volume ended_a) ∷ []) → ⊥

-- each point of a history: what was unsafe once stays so

pub record SafeExamples : Type 0 where
  pub nothing_asked : Safe no_setup []
  pub completed_after_bound : Safe (with_claim (Volume bound_a ∷ [])) (completes c ∷ [])
  pub unsafe_before_is_unsafe : Safe (with_claim (Volume taken_a ∷ [])) (sets_phase volumes.Bound ∷ completes c ∷ []) → ⊥

-- the whole promise, by histories in which all but one of its parts hold

-- the write that drops the finalizer of a deleting volume, after which it leaves
abbrev pub loosens : VolumeData → Entry
loosens v = step (requests.Update (Volume (record v { meta = record v.meta { finalizers = [] } })) None)

-- ops read the volume and erased its data
abbrev pub erases_read : VolumeData → List Entry
erases_read v = seat_of seats.Ops (heard (requests.Erase id_a) (replies.Erased true) ∷ finds key_a (Volume v) ∷ [])

-- the same of data that the back end never had
abbrev pub erases_imported : VolumeData → List Entry
erases_imported v = seat_of seats.Ops (heard (requests.Erase id_a) (replies.Erased false) ∷ finds key_a (Volume v) ∷ [])

abbrev pub leaving_free_a : VolumeData
leaving_free_a = record a { meta = deleting a.meta }

pub record WholeExamples : Type 0 where
  pub volume_of_another_claim_is_unsafe : Safe (with_claim (Volume bound_for_other ∷ [])) (completes c ∷ []) → ⊥
  pub free_volume_leaves : Safe (setup_of (Volume leaving_free_a ∷ [])) (loosens leaving_free_a ∷ [])
  pub bound_volume_leaves_is_unsafe : Safe (setup_of (Volume leaving_bound_a ∷ [])) (loosens leaving_bound_a ∷ []) → ⊥
  pub ended_volume_is_erased : Safe (setup_of (Volume ended_a ∷ [])) (erases_read ended_a)
  pub bound_volume_is_erased_is_unsafe : Safe (setup_of (Volume still_bound_a ∷ [])) (erases_read still_bound_a) → ⊥
  pub imported_bound_volume_is_erased_is_unsafe : Safe (setup_of (Volume still_bound_a ∷ [])) (erases_imported still_bound_a) → ⊥
  pub retained_volume_is_erased_is_unsafe : Safe (setup_of (Volume released_a ∷ [])) (erases_read released_a) → ⊥
  pub lost_import_excuses_itself : Safe (setup_of (Claim bound_c ∷ [])) []
  pub lost_import_excuses_another_is_unsafe : Safe (setup_of (Claim bound_c ∷ Claim d ∷ [])) (completes d ∷ []) → ⊥
