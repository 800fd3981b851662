-- The evidence of a volume's machine goes on with the answer to its call.
use Rattle.std.proofs.Common.{◌≡◌, ◌∙◌, ℕ, List, ◌∷◌, Bool, true, false, Option, Some, None, inl, inr, refl, sym, ap, subst, if◌then◌else◌}
use Rattle.std.specs.Prelude.{◌&&◌, bytes_eq, is_some}
use Rattle.std.proofs.lemmas.Slice.Eq.{bytes_eq-Decides}
use Rattle.kube_parts.specs.declared.uid.Uid.{Uid}
use Rattle.kube_objects.specs.declared.objects.DataId.{DataId}
use Rattle.kube_objects.specs.declared.objects.Volume.{Volume as VolumeData}
use Rattle.kube_objects.specs.declared.objects.Object.TheVariants.{Volume}
use Rattle.kube_objects.specs.Sources.{data_id_of}
use Rattle.call_types.specs.declared.entry.Entry.{Entry}
use Rattle.call_types.specs.declared.request.Request.TheVariants as requests
use Rattle.call_types.specs.declared.reply.Refusal.TheVariants.{BackFault}
use Rattle.call_types.specs.declared.reply.Reply.{Reply}
use Rattle.call_types.specs.declared.reply.Reply.TheVariants.{Erased, Found, Refused}
use Rattle.binder_model.specs.Devices.{same_id}
use Rattle.binder_model.specs.Due.{reclaim_due}
use Rattle.binder_model.specs.OpsLicence.{EraseDone, EraseFailed}
use Rattle.binder_model.specs.Told.{IsVolumeWith, SomeOf, TellsObject, first_some, found_over, last_found, objects_in}
use Rattle.model_laws.proofs.Lists.{none_some, one}
use Rattle.reclaim_ops.specs.declared.erase.EraseOp.{EraseOp}
use Rattle.reclaim_ops.specs.declared.erase.EraseStep.{EraseStep}
use Rattle.reclaim_ops.specs.declared.erase.EraseStep.TheVariants as steps
use Rattle.reclaim_ops.specs.Erasures.{after_erase, at_found, at_known, erase_call_at, erase_call, erase_moved, moved_at, erase_step_after}
use Rattle.reclaim_ops.specs.Evidence.{EraseKeeps, EraseStepKeeps, MayDeleteErased, MayEraseData, MayWriteFailed}
use Rattle.reclaim_ops.proofs.EraseBegun.{to_erase}

same_itself : (id : DataId) → same_id id id ≡ true
same_itself id = both (bytes_eq id.driver id.driver) (bytes_eq id.id id.id) ((bytes_eq-Decides id.driver id.driver).1 refl) ((bytes_eq-Decides id.id id.id).1 refl)
  where
    both : (a b : Bool) → a ≡ true → b ≡ true → (a && b) ≡ true
    both true b h k = k
    both false b h k = h

-- the volume that was read
module _ (v : VolumeData) (mine : List Entry) (e : Entry) (told : e.told ≡ true) (is : e.reply ≡ Found (Volume v)) where
  tells : TellsObject (IsVolumeWith (λ o. o ≡ v)) e
  tells = (told, subst (λ r. SomeOf (IsVolumeWith (λ o. o ≡ v)) (objects_in r)) (sym is) (inl refl))

  found : found_over (data_id_of v.source) e.told e.reply ≡ Some v
  found = ap (λ b. found_over (data_id_of v.source) b e.reply) told
      ∙ (ap (λ r. found_over (data_id_of v.source) true r) is
      ∙ ap (λ b. if b then Some v else None) (same_itself (data_id_of v.source)))

  erases : (uid : Uid) → v.meta.uid ≡ Some uid → is_some (reclaim_due v) ≡ true → MayEraseData v uid (e ∷ mine)
  erases uid known due = record {
    known = known;
    told = inl tells;
    last = ap (λ x. first_some x (last_found (data_id_of v.source) mine)) found;
    ended = to_erase v due;
  }

  found_keeps : (op : EraseOp) → EraseKeeps (at_found op v) (e ∷ mine)
  found_keeps op = by (is_some (reclaim_due v)) v.meta.uid refl refl
    where
      by : (b : Bool) (u : Option Uid) → is_some (reclaim_due v) ≡ b → v.meta.uid ≡ u → EraseKeeps (if b then at_known op v u else record op { step = steps.Done }) (e ∷ mine)
      by true (Some uid) due known = erases uid known due
      by true None due known = tt
      by false u due known = tt

reading : (op : EraseOp) (mine : List Entry) (e : Entry) → e.told ≡ true → (reply : Reply) → e.reply ≡ reply → EraseKeeps (moved_at op steps.ReadsVolume reply) (e ∷ mine)
reading op mine e told (Found (Volume v)) is = found_keeps v mine e told is op
reading op mine e told (Found _) is = tt
reading op mine e told (Refused r) is = tt
reading op mine e told _ is = tt

-- the answer to the erase
module _ (v : VolumeData) (uid : Uid) (mine : List Entry) (e : Entry) (kept : MayEraseData v uid mine) (asked : requests.Erase (data_id_of v.source) ≡ e.request) (told : e.told ≡ true) where
  erased : (removed : Bool) → e.reply ≡ Erased removed → MayDeleteErased v uid (e ∷ mine)
  erased removed is =
      let gone : EraseDone (data_id_of v.source) e.request e.reply =
      subst (λ r. EraseDone (data_id_of v.source) e.request r) (sym is) (subst (λ q. EraseDone (data_id_of v.source) q (Erased removed)) asked refl) in
      record { known = kept.known; ended = kept.ended; erased = inl ((told, gone), kept.told) }

  failed : (planned : ℕ) → e.reply ≡ Refused (BackFault planned) → MayWriteFailed v (e ∷ mine)
  failed planned is =
      let stays : EraseFailed (data_id_of v.source) e.request e.reply =
      subst (λ r. EraseFailed (data_id_of v.source) e.request r) (sym is) (subst (λ q. EraseFailed (data_id_of v.source) q (Refused (BackFault planned))) asked refl) in
      record { told = inr kept.told; ended = kept.ended; failed = inl ((told, stays), kept.told) }

  erasing : (reply : Reply) → e.reply ≡ reply → EraseStepKeeps (after_erase uid reply) v (e ∷ mine)
  erasing (Erased removed) is = erased removed is
  erasing (Refused (BackFault planned)) is = failed planned is
  erasing (Refused _) is = tt
  erasing _ is = tt

-- after a write nothing is left

deleted : (uid : Uid) (v : VolumeData) (reply : Reply) (mine : List Entry) → EraseStepKeeps (erase_step_after (steps.Deletes uid) reply) v mine
deleted uid v (Refused r) mine = tt
deleted uid v _ mine = tt

written : (v : VolumeData) (reply : Reply) (mine : List Entry) → EraseStepKeeps (erase_step_after steps.WritesFailed reply) v mine
written v (Refused r) mine = tt
written v _ mine = tt

step_goes_on : (op : EraseOp) (step : EraseStep) (mine : List Entry) (e : Entry) → EraseStepKeeps step op.volume mine
    → erase_call_at step op.volume ≡ Some e.request → e.told ≡ true → EraseKeeps (moved_at op step e.reply) (e ∷ mine)
step_goes_on op steps.ReadsVolume mine e kept call told = reading op mine e told e.reply refl
step_goes_on op (steps.Erases uid) mine e kept call told = erasing op.volume uid mine e kept (one _ _ call) told e.reply refl
step_goes_on op (steps.Deletes uid) mine e kept call told = deleted uid op.volume e.reply (e ∷ mine)
step_goes_on op steps.WritesFailed mine e kept call told = written op.volume e.reply (e ∷ mine)
step_goes_on op steps.Done mine e kept call told = none_some call
step_goes_on op steps.Parked mine e kept call told = none_some call

pub erase_goes_on : (op : EraseOp) (mine : List Entry) (e : Entry) → EraseKeeps op mine → erase_call op ≡ Some e.request → e.told ≡ true → EraseKeeps (erase_moved op e.reply) (e ∷ mine)
unfolding erase_call erase_moved
erase_goes_on op mine e kept call told = step_goes_on op op.step mine e kept call told
