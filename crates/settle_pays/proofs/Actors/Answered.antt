-- What is answered to the write of an object that stands: a refusal, or the object as it was written, which then has left or stands there.
use Rattle.std.proofs.Common.{◌≡◌, ℕ, ◌+◌, Bool, true, false, Option, Some, None, refl, sym, subst}
use Rattle.kube_objects.specs.declared.key.Key.{Key}
use Rattle.kube_parts.specs.declared.names.Field.{Field}
use Rattle.kube_parts.specs.declared.names.Rule.{Rule}
use Rattle.kube_parts.specs.declared.parts.ClaimPhase.{ClaimPhase}
use Rattle.kube_parts.specs.declared.parts.Modes.{Modes}
use Rattle.kube_parts.specs.declared.parts.VolumePhase.{VolumePhase}
use Rattle.kube_objects.specs.declared.objects.Amount.{Amount}
use Rattle.kube_objects.specs.declared.objects.Claim.{Claim as ClaimData}
use Rattle.kube_objects.specs.declared.objects.Volume.{Volume as VolumeData}
use Rattle.kube_objects.specs.declared.objects.Object.{Object}
use Rattle.kube_objects.specs.declared.objects.Object.TheVariants.{Volume, Claim}
use Rattle.kube_objects.specs.Keys.{key_of, put_row, row_at}
use Rattle.call_types.specs.declared.request.NewStatus.{NewStatus}
use Rattle.call_types.specs.declared.request.NewStatus.TheVariants as statuses
use Rattle.call_types.specs.declared.request.Request.TheVariants.{Update, UpdateStatus}
use Rattle.call_types.specs.declared.request.SeatKind.{SeatKind}
use Rattle.call_types.specs.declared.reply.Refusal.{Refusal}
use Rattle.call_types.specs.declared.reply.Reply.TheVariants.{Done, Left, Refused}
use Rattle.call_types.specs.declared.setup.Setup.{Setup}
use Rattle.binder_model.specs.Answers.{Outcome, after, outcome, refuse, refuse_field, refuse_rule, reply_of, update, update_status, with_status, write_of, write_outcome, written_if_fits}
use Rattle.binder_model.specs.Devices.{device_answer}
use Rattle.binder_model.specs.ObjectKeys.{claim_key, volume_key}
use Rattle.binder_model.specs.Store.{at_version, leaves, updated_object, with_meta, with_status_of}
use Rattle.binder_model.specs.World.{Effect, OnStore, World, effect, on_devices, reply_to, world_after}
use Rattle.settle_measure.proofs.Binding.Claims.{rewritten_claim, with_claim_status}
use Rattle.settle_measure.proofs.Binding.Stages.{phased, rewritten}

pub data Answered (w : World) (o : Object) (x : Effect) : Type 0 where
  Refuses : (refusal : Refusal) → reply_to x ≡ Refused refusal → Answered w o x
  Goes : reply_to x ≡ Left o → Answered w o x
  Stays : reply_to x ≡ Done o → (world_after w x).store.rows ≡ put_row o w.store.rows → Answered w o x

module _ (w : World) (o : Object) where
  wrote : Answered w o (OnStore (write_outcome o))
  unfolding world_after after reply_to reply_of
  wrote = by (leaves o)
    where
      by : (b : Bool) → Answered w o (OnStore (write_of o b))
      by true = Goes refl
      by false = Stays refl refl

  refused_or : (b : Bool) (refusal : Refusal) (next : Outcome) → Answered w o (OnStore next) → Answered w o (OnStore (refuse b refusal next))
  unfolding refuse reply_to reply_of
  refused_or true refusal next on = Refuses refusal refl
  refused_or false refusal next on = on

  rule_or : (rule : Option Rule) (next : Outcome) → Answered w o (OnStore next) → Answered w o (OnStore (refuse_rule rule next))
  unfolding refuse_rule reply_to reply_of
  rule_or None next on = on
  rule_or (Some rule) next on = Refuses _ refl

  field_or : (field : Option Field) (next : Outcome) → Answered w o (OnStore next) → Answered w o (OnStore (refuse_field field next))
  unfolding refuse_field reply_to reply_of
  field_or None next on = on
  field_or (Some field) next on = Refuses _ refl

module _ (setup : Setup) (w : World) (kind : SeatKind) where
  updated : (old new : Object) (given : Option ℕ) → row_at (key_of new) w.store.rows ≡ Some old → Answered w (updated_object old new (w.store.version + 1)) (effect setup w kind (Update new given))
  unfolding effect on_devices device_answer outcome update
  updated old new given there =
      subst (λ row. Answered w (updated_object old new (w.store.version + 1)) (OnStore (update w.store kind new given row))) (sym there)
      (refused_or w _ _ _ _ (rule_or w _ _ _ (field_or w _ _ _ (wrote w _))))

  stated : (key : Key) (status : NewStatus) (given : Option ℕ) (old new : Object) → row_at key w.store.rows ≡ Some old
      → with_status status old ≡ Some new → Answered w (at_version new (w.store.version + 1)) (effect setup w kind (UpdateStatus key status given))
  unfolding effect on_devices device_answer outcome update_status written_if_fits
  stated key status given old new there fits =
      subst (λ row. Answered w (at_version new (w.store.version + 1)) (OnStore (update_status w.store kind status given row))) (sym there)
      (refused_or w _ _ _ _ (refused_or w _ _ _ _ (subst (λ x. Answered w (at_version new (w.store.version + 1)) (OnStore (written_if_fits w.store x))) (sym fits) (wrote w _))))

  -- a volume

  pub volume_updated : (v x : VolumeData) (given : Option ℕ) → row_at (key_of (Volume x)) w.store.rows ≡ Some (Volume v)
      → Answered w (Volume (rewritten v x (w.store.version + 1))) (effect setup w kind (Update (Volume x) given))
  unfolding updated_object with_meta with_status_of
  volume_updated v x given there = updated (Volume v) (Volume x) given there

  pub volume_phased : (v : VolumeData) (phase : VolumePhase) (given : Option ℕ) → row_at (volume_key v.meta.name) w.store.rows ≡ Some (Volume v)
      → Answered w (Volume (phased v phase (w.store.version + 1))) (effect setup w kind (UpdateStatus (volume_key v.meta.name) (statuses.Volume phase) given))
  unfolding with_status at_version with_meta
  volume_phased v phase given there = stated (volume_key v.meta.name) (statuses.Volume phase) given (Volume v) (Volume (record v { phase = phase })) there refl

  -- a claim

  pub claim_updated : (c x : ClaimData) (given : Option ℕ) → row_at (key_of (Claim x)) w.store.rows ≡ Some (Claim c)
      → Answered w (Claim (rewritten_claim c x (w.store.version + 1))) (effect setup w kind (Update (Claim x) given))
  unfolding updated_object with_meta with_status_of
  claim_updated c x given there = updated (Claim c) (Claim x) given there

  pub claim_stated : (c : ClaimData) (phase : ClaimPhase) (modes : Modes) (amount : Option Amount) (given : Option ℕ) → row_at (claim_key c.meta.namespace c.meta.name) w.store.rows ≡ Some (Claim c)
      → Answered w (Claim (with_claim_status c phase modes amount (w.store.version + 1)))
      (effect setup w kind (UpdateStatus (claim_key c.meta.namespace c.meta.name) (statuses.Claim phase modes amount) given))
  unfolding with_status at_version with_meta
  claim_stated c phase modes amount given there =
      stated (claim_key c.meta.namespace c.meta.name) (statuses.Claim phase modes amount) given (Claim c) (Claim (record c { phase = phase; got_modes = modes; got = amount })) there refl
