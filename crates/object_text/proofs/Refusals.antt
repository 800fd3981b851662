-- A refusal stays one whatever would come next.
use Rattle.std.proofs.Common.{◌≡◌, false, Ok, refl}
use Rattle.serde_json.specs.Data.{Data}
use Rattle.kube_objects.specs.declared.objects.Meta.{Meta}
use Rattle.object_text.specs.declared.errors.ObjectError.{ObjectError}
use Rattle.object_text.specs.declared.errors.ObjectError.TheVariants.{OutOfMemory, NotJson, NotObject, UnknownKind, Missing, WrongType, BadQuantity, NotWhole, TooLong}
use Rattle.object_text.specs.declared.kind_readers.VolumeSpec.{VolumeSpec}
use Rattle.object_text.specs.Answers.{Fails}
use Rattle.object_text.specs.MetaReaders.{meta_of}
use Rattle.object_text.specs.KindReaders.{volume_spec_of, volume_status_of, volume_of}

-- of the status of a volume
pub phase_fails : (d : Data) (meta : Meta) (spec : VolumeSpec) (e : ObjectError) → meta_of false d ≡ Ok meta → volume_spec_of d ≡ Ok spec → Fails e (volume_status_of d) → Fails e (volume_of d)
unfolding volume_of
phase_fails d meta spec OutOfMemory hm hs h = tt
phase_fails d meta spec NotJson hm hs h = rw (hm, hs, h) refl
phase_fails d meta spec NotObject hm hs h = rw (hm, hs, h) refl
phase_fails d meta spec UnknownKind hm hs h = rw (hm, hs, h) refl
phase_fails d meta spec (Missing m) hm hs h = rw (hm, hs, h) refl
phase_fails d meta spec (WrongType m) hm hs h = rw (hm, hs, h) refl
phase_fails d meta spec (BadQuantity m) hm hs h = rw (hm, hs, h) refl
phase_fails d meta spec NotWhole hm hs h = rw (hm, hs, h) refl
phase_fails d meta spec TooLong hm hs h = rw (hm, hs, h) refl
