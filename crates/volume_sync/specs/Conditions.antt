-- The conditions of the table on a volume, as the code finds them. A choice of this project.
use Rattle.std.specs.Prelude.{Bool, false, not, ◌||◌, List, [], ◌∷◌, Option, Some, None, bytes_eq, is_some}
use Rattle.kube_objects.specs.declared.objects.Volume.{Volume as VolumeData}
use Rattle.kube_objects.specs.declared.objects.Claim.{Claim as ClaimData}
use Rattle.kube_objects.specs.declared.objects.Object.{Object}
use Rattle.kube_types.specs.declared.lookup.Live.{Live}
use Rattle.kube_types.specs.Lookups.{is_asked}
use Rattle.kube_objects.specs.Bindings.{is_available, is_bound, is_empty, is_protected_volume, is_ended}
use Rattle.binder_model.specs.BinderDue.{is_reclaimed}
use Rattle.volume_sync.specs.VolumeDecision.{refers_by_uid, seen_claim}

-- phase Bound is there already, or may not be written
abbrev pub is_settled : VolumeData → Bool
is_settled v = is_bound v.phase || not (is_protected_volume v)

-- there is a claim, and it names no volume
abbrev pub names_none : Option ClaimData → Bool
names_none None = false
names_none (Some c) = is_empty c.volume_name

-- there is a claim, and it names the volume
abbrev pub names : Option ClaimData → VolumeData → Bool
names None v = false
names (Some c) v = bytes_eq c.volume_name v.meta.name

-- the conditions with this claim; those on a claim that is not seen are false
unfoldable pub conditions_on : VolumeData → Bool → Option ClaimData → List Bool
conditions_on v asked claim =
    refers_by_uid v ∷ is_available v.phase ∷ is_ended v.phase ∷ is_some claim ∷ asked ∷ names_none claim ∷ names claim v ∷ is_settled v ∷ is_reclaimed v ∷ []

-- the conditions by which a volume is decided
abbrev pub volume_conditions : List Object → VolumeData → Live → List Bool
volume_conditions rows v live = conditions_on v (is_asked live) (seen_claim rows v live)
