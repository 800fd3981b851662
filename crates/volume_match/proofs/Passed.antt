-- A free volume that is passed is no candidate.
use Rattle.std.proofs.Common.{ℕ, ◌≡◌, ◌<◌, ◌∙◌, Bool, true, true≢false, List, [], length, get_or, Option, Some, slice_get, refl, sym, ap}
use Rattle.std.proofs.lemmas.Option.{slice_get-get_or, slice_get_read}
use Rattle.kube_objects.specs.declared.objects.Node.{Node as NodeData}
use Rattle.kube_objects.specs.declared.objects.Claim.{Claim as ClaimData}
use Rattle.kube_objects.specs.declared.objects.Volume.{Volume as VolumeData}
use Rattle.kube_objects.specs.declared.objects.Object.{Object}
use Rattle.kube_objects.specs.declared.objects.Object.TheVariants.{Volume}
use Rattle.kube_parts.specs.declared.parts.Kind.TheVariants as kinds
use Rattle.kube_objects.specs.Keys.{rows_of}
use Rattle.binder_model.specs.Matching.{is_excluded}
use Rattle.volume_match.specs.Passing.{PassedAreExcluded, StandsAt}
use Rattle.volume_match.proofs.Candidates.{IsNone}

pub passed_none : (rows : List Object) (c : ClaimData) (on : Option NodeData) (own : Bool) (excluded passed : List ℕ) (free : List VolumeData)
    (i : ℕ) → PassedAreExcluded rows free passed excluded → is_excluded passed i ≡ true → i < length free
    → (d : VolumeData) → IsNone rows c on own excluded (get_or free i d)
passed_none rows c on own excluded passed free i are marked lt d place q =
    true≢false (sym (are i place (get_or free i d) marked (slice_get-get_or free i d lt) q.there) ∙ q.open_to)

-- a volume that was looked at among the free ones, and found among the volumes, stands at both places
pub stands_at : (rows : List Object) (free : List VolumeData) (i place : ℕ) (v : VolumeData) → i < length free → v ≡ get_or free i v
    → slice_get (rows_of kinds.PersistentVolume rows) place ≡ Some (Volume v) → StandsAt rows free i place
stands_at rows free i place v lt at there u e =
    let same : Some v ≡ Some u = sym (slice_get_read free (length free) i v refl lt at) ∙ e in
    let one : v ≡ u = cc in
    there ∙ ap (λ w. Some (Volume w)) one

-- where nothing is passed, nothing else is to be excluded
pub none_passed : (rows : List Object) (free : List VolumeData) (excluded : List ℕ) → PassedAreExcluded rows free [] excluded
none_passed rows free excluded i place v marked at there = absurd (true≢false (sym marked))
