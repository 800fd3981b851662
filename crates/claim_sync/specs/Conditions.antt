-- The conditions of the table on a claim, as the code finds them. A choice of this project.
use Rattle.std.specs.Prelude.{Bool, true, false, not, ◌&&◌, List, [], ◌∷◌, Option, Some, None, is_some, if◌then◌else◌}
use Rattle.kube_objects.specs.declared.objects.Volume.{Volume as VolumeData}
use Rattle.kube_objects.specs.declared.objects.Claim.{Claim as ClaimData}
use Rattle.kube_objects.specs.declared.objects.Object.{Object}
use Rattle.kube_types.specs.declared.lookup.Live.{Live}
use Rattle.kube_types.specs.declared.lookup.Live.TheVariants.{NotAsked, Absent, Present}
use Rattle.kube_types.specs.Lookups.{is_asked, is_present}
use Rattle.kube_objects.specs.Bindings.{is_completed, is_deleting, is_empty, is_lost}
use Rattle.binder_model.specs.Matching.{has_match}
use Rattle.binder_model.specs.BinderDue.{has_other_uid}
use Rattle.volume_index.specs.VolumeIndex.{as_volume}
use Rattle.claim_sync.specs.ClaimDecision.{has_write, is_blocked, is_open_to, may_assign, named_volume}

-- the volume, as it was read by itself
abbrev pub live_volume : Live → Option VolumeData
live_volume NotAsked = None
live_volume Absent = None
live_volume (Present o) = as_volume (Some o.now)

-- the look-up lacks the volume, or shows it with another UID
abbrev pub lacks_claim : ClaimData → Option VolumeData → Bool
lacks_claim c None = true
lacks_claim c (Some v) = has_other_uid v c

-- the volume of a completed claim is not seen with the claim, and was read by itself
abbrev pub reads_live : ClaimData → Live → Option VolumeData → Bool
reads_live c live v = is_completed c && (is_present live && lacks_claim c v)

-- the claim names no volume, and a match exists
abbrev pub has_best : List Object → ClaimData → Bool
has_best rows c = is_empty c.volume_name && has_match rows c

-- on a volume that is not seen no condition holds
abbrev pub on_volume : (VolumeData → Bool) → Option VolumeData → Bool
on_volume test None = false
on_volume test (Some v) = test v

-- the conditions, where it is known whether a match exists, whether a class may be assigned, whether the volume was asked for,
-- and whether a binding may be made with the volume that is seen
unfoldable pub conditions_on : ClaimData → Bool → Bool → Bool → Bool → Option VolumeData → List Bool
conditions_on c matched assignable asked bindable v =
    is_completed c ∷ is_deleting c.meta ∷ not (is_empty c.volume_name) ∷ matched ∷ assignable ∷ is_lost c.phase ∷ is_some v ∷ asked
    ∷ on_volume is_blocked v ∷ on_volume (λ u. is_open_to u c) v
    ∷ on_volume (λ u. has_other_uid u c) v ∷ on_volume (λ u. bindable && has_write u c) v ∷ []

-- the conditions on the volume of the look-up, or on the one that was read by itself, with which no binding is made
unfoldable pub claim_conditions : List Object → ClaimData → Live → List Bool
claim_conditions rows c live =
    if reads_live c live (named_volume rows c) then conditions_on c (has_best rows c) (may_assign rows c) true false (live_volume live)
    else conditions_on c (has_best rows c) (may_assign rows c) (is_asked live) true (named_volume rows c)
