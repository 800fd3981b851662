-- A binder may write Released only where it read the claim gone after it was told the volume with its UID.
-- A choice of this project, as the definitions are; their sources stand in `binder_model`.
use Rattle.std.specs.Prelude.{true, [], ◌∷◌, Some, None, codes}
use Rattle.kube_parts.specs.declared.parts.Kind.TheVariants as kinds
use Rattle.kube_parts.specs.declared.parts.VolumePhase.TheVariants as volumes
use Rattle.kube_objects.specs.declared.objects.Object.TheVariants.{Volume}
use Rattle.call_types.specs.declared.entry.Entry.{Entry}
use Rattle.call_types.specs.declared.request.NewStatus.TheVariants as statuses
use Rattle.call_types.specs.declared.request.SeatKind.TheVariants.{Binder}
use Rattle.call_types.specs.declared.request.Request.{Request}
use Rattle.call_types.specs.declared.request.Request.TheVariants as requests
use Rattle.call_types.specs.declared.reply.Refusal.TheVariants.{NotFound}
use Rattle.call_types.specs.declared.reply.Reply.TheVariants as replies
use Rattle.binder_model.specs.ObjectKeys.{claim_key, volume_key}
use Rattle.binder_model.specs.Licence.{Licensed}
use Rattle.model_laws.specs.Worked.{bound_a}

-- the binder read a claim and was told that it is not there
abbrev pub read_gone : Entry
read_gone = record {
  seat = 5;
  kind = Binder;
  request = requests.Get (claim_key (codes "default") (codes "c"));
  reply = replies.Refused NotFound;
  told = true;
}

-- then the binder listed the volumes, among them the one bound to that claim
abbrev pub told_volume : Entry
told_volume = record {
  seat = 5;
  kind = Binder;
  request = requests.List kinds.PersistentVolume None;
  reply = replies.Listed (Volume bound_a ∷ []) 5;
  told = true;
}

-- the binder writes the phase Released
abbrev pub release : Request
release = requests.UpdateStatus (volume_key (codes "a")) (statuses.Volume volumes.Released) (Some 5)

-- the newest entry stands first
pub record IsReleaseOrder : Type 0 where
  pub read_after : Licensed Binder (read_gone ∷ told_volume ∷ []) release
  pub read_before : Licensed Binder (told_volume ∷ read_gone ∷ []) release → ⊥
