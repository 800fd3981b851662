-- The newest told volume, as ops asks for it.
use Rattle.std.proofs.Common.{◌↔◌, IsTrue, Bool, List, Some, subst}
use Rattle.kube_objects.specs.declared.key.Key.{Key}
use Rattle.kube_objects.specs.declared.objects.Volume.{Volume as VolumeData}
use Rattle.kube_objects.specs.declared.objects.Object.{Object}
use Rattle.kube_objects.specs.declared.objects.Object.TheVariants.{Volume}
use Rattle.std.specs.Prelude.{Option}
use Rattle.call_types.specs.declared.entry.Entry.{Entry}
use Rattle.binder_model.specs.OpsLicence.{IsToErase}
use Rattle.binder_model.specs.Reading.{AsksForEnded}
use Rattle.binder_model.specs.Told.{IsNewest}
use Rattle.model_laws.proofs.NewestRows.{newest_volume as volume_is}

volume_or : VolumeData → Option Object → VolumeData
volume_or d (Some (Volume v)) = v
volume_or d o = d

pub ended_row : (mine : List Entry) (key : Key) (v : VolumeData) (b : Bool) → IsNewest mine key (Volume v) → (IsTrue b ↔ IsToErase v) → (IsTrue b ↔ AsksForEnded mine key)
ended_row mine key v b new is = (
  (λ t. record { volume = v; newest_volume = new; ended = is.0 t }),
  (λ a. is.1 (subst IsToErase (volume_is mine key a.volume v a.newest_volume new) a.ended)),
)
