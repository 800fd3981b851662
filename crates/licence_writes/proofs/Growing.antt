-- What a row of ops allows by a part of the entries, it allows by the entries.
use Rattle.std.proofs.Common.{ℕ, List, subst}
use Rattle.kube_parts.specs.declared.uid.Uid.{Uid}
use Rattle.kube_objects.specs.declared.objects.DataId.{DataId}
use Rattle.kube_objects.specs.declared.objects.Claim.{Claim as ClaimData}
use Rattle.kube_objects.specs.declared.objects.Class.{Class as ClassData}
use Rattle.kube_objects.specs.declared.objects.Volume.{Volume as VolumeData}
use Rattle.kube_objects.specs.declared.objects.Object.{Object}
use Rattle.kube_objects.specs.Sources.{data_id_of}
use Rattle.call_types.specs.declared.entry.Entry.{Entry}
use Rattle.call_types.specs.declared.reply.Reply.{Reply}
use Rattle.call_types.specs.declared.reply.Reply.TheVariants.{Done}
use Rattle.call_types.specs.declared.request.Request.{Request}
use Rattle.call_types.specs.declared.request.Request.TheVariants as requests
use Rattle.binder_model.specs.At.{HasUid}
use Rattle.binder_model.specs.OpsLicence.{EraseDone, EraseFailed, IsEndedOver, IsExhausted, IsThisClaim, IsThisVolume, MayDelete, MayFail, TellsEraseFailed, TellsErased, TellsExhausted}
use Rattle.binder_model.specs.Provisioning.{data_name}
use Rattle.binder_model.specs.Told.{After, IsClaimWith, IsVolumeWith, ToldClaim}
use Rattle.licence_writes.specs.OpsRows.Providing.{Creates, GaveShown, TellsShown}
use Rattle.evidence_pages.specs.Parts.{IsPart}
use Rattle.evidence_pages.proofs.Growing.{IsOfReads, after_grows}

-- no answer of a write is one of the back end

no_fault : (id : DataId) (x : Object) (request : Request) → EraseFailed id request (Done x) → ⊥
no_fault id x (requests.Erase asked) h = h
no_fault id x request h = absurd h

fault_reads : (id : DataId) → IsOfReads (TellsEraseFailed id)
fault_reads id t x is h = no_fault id x t.request (subst (λ (r : Reply). EraseFailed id t.request r) is h.1)

no_erase : (id : DataId) (x : Object) (request : Request) → EraseDone id request (Done x) → ⊥
no_erase id x (requests.Erase asked) h = h
no_erase id x request h = absurd h

erase_reads : (id : DataId) → IsOfReads (TellsErased id)
erase_reads id t x is h = no_erase id x t.request (subst (λ (r : Reply). EraseDone id t.request r) is h.1)

no_bytes : (name : List ℕ) (x : Object) (request : Request) → IsExhausted name request (Done x) → ⊥
no_bytes name x (requests.Provision asked provisioner bytes labels) h = h
no_bytes name x request h = absurd h

exhausted_reads : (name : List ℕ) → IsOfReads (TellsExhausted name)
exhausted_reads name t x is h = no_bytes name x t.request (subst (λ (r : Reply). IsExhausted name t.request r) is h.1)

no_data : (name : List ℕ) (new : VolumeData) (x : Object) (request : Request) → GaveShown name new request (Done x) → ⊥
no_data name new x (requests.Provision asked provisioner bytes labels) h = h
no_data name new x request h = absurd h

shown_reads : (name : List ℕ) (new : VolumeData) → IsOfReads (TellsShown name new)
shown_reads name new t x is h = no_data name new x t.request (subst (λ (r : Reply). GaveShown name new t.request r) is h.1)

-- the rows

pub fail_grows : (small mine : List Entry) → IsPart small mine → (o : VolumeData) → MayFail small o → MayFail mine o
fail_grows small mine part o row = record {
  ended = row.ended;
  failed = after_grows (IsVolumeWith (IsThisVolume o))
      (TellsEraseFailed (data_id_of o.source)) (fault_reads (data_id_of o.source)) small mine part row.failed;
}

pub delete_grows : (small mine : List Entry) → IsPart small mine → (uid : Uid) → MayDelete small uid → MayDelete mine uid
delete_grows small mine part uid row = record { id = row.id; erased = after_grows (IsVolumeWith (IsEndedOver uid row.id)) (TellsErased row.id) (erase_reads row.id) small mine part row.erased }

pub exhausted_grows : (small mine : List Entry) → IsPart small mine → (o : ClaimData) (uid : Uid)
    → After (ToldClaim (IsThisClaim o)) (TellsExhausted (data_name uid)) small → After (ToldClaim (IsThisClaim o)) (TellsExhausted (data_name uid)) mine
exhausted_grows small mine part o uid h = after_grows (IsClaimWith (IsThisClaim o)) (TellsExhausted (data_name uid)) (exhausted_reads (data_name uid)) small mine part h

pub creates_grows : (small mine : List Entry) → IsPart small mine → (claim : ClaimData) (uid : Uid) (class : ClassData) (new : VolumeData)
    → Creates small claim uid class new → Creates mine claim uid class new
creates_grows small mine part claim uid class new row = record {
  known = row.known;
  made = row.made;
  given = after_grows (IsClaimWith (HasUid uid)) (TellsShown (data_name uid) new) (shown_reads (data_name uid) new) small mine part row.given;
}
