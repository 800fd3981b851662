-- What a canonical value gives is an object that a manifest can give.
use Rattle.std.proofs.Common.{◌≡◌, false, if◌then◌else◌, Ok, Err, IfOk}
use Rattle.serde_json.specs.Data.{Data}
use Rattle.serde_json.specs.Written.{has_float}
use Rattle.json_text.specs.Build.{Good}
use Rattle.kube_parts.specs.declared.parts.Kind.{Kind}
use Rattle.kube_parts.specs.declared.parts.Kind.TheVariants as kinds
use Rattle.object_text.specs.declared.errors.ObjectError.TheVariants.{NotObject, NotWhole}
use Rattle.object_text.specs.Reading.{is_object, whole_object, kind_at, object_of_kind, object_of}
use Rattle.object_text.specs.KindReaders.{volume_of, claim_of, class_of, node_of, pod_of}
use Rattle.object_laws.specs.Given.{IsVolume, IsClaim, IsClass, IsNode, IsPod, IsGivenObject}
use Rattle.object_laws.specs.Laws.{ValueGives}
use Rattle.object_laws.proofs.GivesParts.{step, past, if_ok, of_ok}
use Rattle.object_laws.proofs.GivesKinds.{volume_given, claim_given, class_given, node_given, pod_given}

kind_given : (kind : Kind) (d : Data) → Good 127 d → IfOk (object_of_kind kind d) IsGivenObject
kind_given kinds.StorageClass d h = step IsClass IsGivenObject (class_of d) _ (class_given d h) (λ c is. is)
kind_given kinds.Node d h = step IsNode IsGivenObject (node_of d) _ (node_given d h) (λ n is. is)
kind_given kinds.PersistentVolume d h = step IsVolume IsGivenObject (volume_of d) _ (volume_given d h) (λ v is. is)
kind_given kinds.PersistentVolumeClaim d h = step IsClaim IsGivenObject (claim_of d) _ (claim_given d h) (λ c is. is)
kind_given kinds.Pod d h = step IsPod IsGivenObject (pod_of d) _ (pod_given d h) (λ p is. is)

-- a value is good where it holds no float
abbrev pub IsSound : Data → Type 0
IsSound d = has_float d ≡ false → Good 127 d

whole_given : (value : Data) → IsSound value → IfOk (whole_object value) (Good 127)
whole_given value h =
    if_ok (Good 127) (is_object value) (if has_float value then Err NotWhole else Ok value) (Err NotObject) (λ e.
    if_ok (Good 127) (has_float value) (Err NotWhole) (Ok value) (λ f. tt) (λ f. h f)) (λ e. tt)

pub sound_given : (value : Data) → IsSound value → IfOk (object_of value) IsGivenObject
unfolding object_of
sound_given value h =
    step (Good 127) IsGivenObject (whole_object value) _ (whole_given value h) (λ d good.
    past IsGivenObject (kind_at d) _ (λ kind. kind_given kind d good))

pub object_given : ValueGives
object_given d o good e = of_ok IsGivenObject (object_of d) o (sound_given d (λ f. good)) e
