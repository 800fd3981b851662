-- The numbers of a run, and the seven lines that show them.
-- A choice of this project: the output format.
use Rattle.std.specs.Prelude.{ℕ, ◌==◌, List, [], ◌∷◌, ◌++◌, Bool, true, false, codes, decimal, length}
use Rattle.std.specs.List.{count_by}
use Rattle.kube_parts.specs.Words.{kind_word, due_word}
use Rattle.kube_parts.specs.declared.parts.Kind.{Kind}
use Rattle.kube_parts.specs.declared.parts.Kind.TheVariants as kinds
use Rattle.kube_parts.specs.declared.parts.VolumePhase.{VolumePhase}
use Rattle.kube_parts.specs.declared.parts.VolumePhase.TheVariants as volume_phases
use Rattle.kube_parts.specs.declared.parts.ClaimPhase.{ClaimPhase}
use Rattle.kube_parts.specs.declared.parts.ClaimPhase.TheVariants as claim_phases
use Rattle.kube_objects.specs.declared.objects.Object.{Object}
use Rattle.kube_objects.specs.declared.objects.Object.TheVariants as objects
use Rattle.kube_objects.specs.declared.key.Key.{Key}
use Rattle.kube_parts.specs.declared.names.Due.{Due}
use Rattle.history_text.specs.declared.summary.VolumeCounts.{VolumeCounts}
use Rattle.history_text.specs.declared.summary.ClaimCounts.{ClaimCounts}
use Rattle.history_text.specs.declared.summary.Ending.{Ending}
use Rattle.history_text.specs.declared.summary.Ending.TheVariants as endings
use Rattle.history_text.specs.declared.summary.Summary.{Summary}

-- the place of a phase in the summary's line
abbrev pub volume_place : VolumePhase → ℕ
volume_place volume_phases.Pending = 0
volume_place volume_phases.Available = 1
volume_place volume_phases.Bound = 2
volume_place volume_phases.Released = 3
volume_place volume_phases.Failed = 4

-- the place of a claim's phase in the summary's line
abbrev pub claim_place : ClaimPhase → ℕ
claim_place claim_phases.Pending = 0
claim_place claim_phases.Bound = 1
claim_place claim_phases.Lost = 2

-- the object is a volume in this phase
abbrev pub is_volume_in : VolumePhase → Object → Bool
is_volume_in phase (objects.Class c) = false
is_volume_in phase (objects.Node n) = false
is_volume_in phase (objects.Volume v) = volume_place v.phase == volume_place phase
is_volume_in phase (objects.Claim c) = false
is_volume_in phase (objects.Pod p) = false

-- the object is a claim in this phase
abbrev pub is_claim_in : ClaimPhase → Object → Bool
is_claim_in phase (objects.Class c) = false
is_claim_in phase (objects.Node n) = false
is_claim_in phase (objects.Volume v) = false
is_claim_in phase (objects.Claim c) = claim_place c.phase == claim_place phase
is_claim_in phase (objects.Pod p) = false

-- the object is a pod
abbrev pub is_pod : Object → Bool
is_pod (objects.Class c) = false
is_pod (objects.Node n) = false
is_pod (objects.Volume v) = false
is_pod (objects.Claim c) = false
is_pod (objects.Pod p) = true

-- how many volumes are in a phase
abbrev pub count_volumes : VolumePhase → List Object → ℕ
count_volumes phase rows = count_by (is_volume_in phase) rows

-- how many claims are in a phase
abbrev pub count_claims : ClaimPhase → List Object → ℕ
count_claims phase rows = count_by (is_claim_in phase) rows

-- how many pods there are
abbrev pub count_pods : List Object → ℕ
count_pods rows = count_by is_pod rows

-- how many volumes are in each phase
abbrev pub volume_counts : List Object → VolumeCounts
volume_counts rows =
    record {
      pending = count_volumes volume_phases.Pending rows;
      available = count_volumes volume_phases.Available rows;
      bound = count_volumes volume_phases.Bound rows;
      released = count_volumes volume_phases.Released rows;
      failed = count_volumes volume_phases.Failed rows;
    }

-- how many claims are in each phase
abbrev pub claim_counts : List Object → ClaimCounts
claim_counts rows =
    record {
      pending = count_claims claim_phases.Pending rows;
      bound = count_claims claim_phases.Bound rows;
      lost = count_claims claim_phases.Lost rows;
    }

-- the summary of these objects at a version of the store, with the counts of the devices
abbrev pub summary_of : List Object → ℕ → ℕ → ℕ → ℕ → Ending → Summary
summary_of rows version mounted stored calls ending =
    record {
      writes = version;
      objects = length rows;
      volumes = volume_counts rows;
      claims = claim_counts rows;
      pods = count_pods rows;
      mounted = mounted;
      stored = stored;
      calls = calls;
      ending = ending;
    }

-- claims and pods are named with their namespace
abbrev pub full_name_in : Kind → List ℕ → List ℕ → List ℕ
full_name_in kinds.StorageClass namespace name = name
full_name_in kinds.Node namespace name = name
full_name_in kinds.PersistentVolume namespace name = name
full_name_in kinds.PersistentVolumeClaim namespace name = namespace ++ (codes "/" ++ name)
full_name_in kinds.Pod namespace name = namespace ++ (codes "/" ++ name)

-- the name of an object, behind its namespace where it has one
abbrev pub full_name : Key → List ℕ
full_name k = full_name_in k.kind k.namespace k.name

-- how many writes changed the store
unfoldable pub writes_line : ℕ → List ℕ
writes_line n = codes "writes " ++ decimal n

-- how many objects there are
unfoldable pub objects_line : ℕ → List ℕ
objects_line n = codes "objects " ++ decimal n

-- how many volumes are in each phase, in one line
unfoldable pub volumes_line : VolumeCounts → List ℕ
volumes_line c =
    codes "volumes Pending " ++ (decimal c.pending
    ++ (codes " Available " ++ (decimal c.available
    ++ (codes " Bound " ++ (decimal c.bound
    ++ (codes " Released " ++ (decimal c.released
    ++ (codes " Failed " ++ decimal c.failed))))))))

-- how many claims are in each phase, in one line
unfoldable pub claims_line : ClaimCounts → List ℕ
claims_line c =
    codes "claims Pending " ++ (decimal c.pending
    ++ (codes " Bound " ++ (decimal c.bound
    ++ (codes " Lost " ++ decimal c.lost))))

-- how many pods there are, and how many of them have their claims mounted
unfoldable pub pods_line : ℕ → ℕ → List ℕ
pods_line pods mounted = codes "pods " ++ (decimal pods ++ (codes " mounted " ++ decimal mounted))

-- how many data the back ends hold, and how many device calls were made
unfoldable pub data_line : ℕ → ℕ → List ℕ
data_line stored calls = codes "data " ++ (decimal stored ++ (codes " calls " ++ decimal calls))

-- that the calls of a drain were spent while something was still due, and what and for which object
unfoldable pub unsettled_line : ℕ → Key → Due → List ℕ
unsettled_line calls key due =
    codes "unsettled after " ++ (decimal calls
    ++ (codes " calls: " ++ (kind_word key.kind
    ++ (codes " " ++ (full_name key
    ++ (codes " " ++ due_word due))))))

-- how the last drain ended
abbrev pub ending_line : Ending → List ℕ
ending_line endings.Settled = codes "settled"
ending_line (endings.Unsettled calls key due) = unsettled_line calls key due

-- the lines of the store: writes, objects, volumes and claims
abbrev pub count_lines : Summary → List (List ℕ)
count_lines s =
    writes_line s.writes
    ∷ objects_line s.objects
    ∷ volumes_line s.volumes
    ∷ claims_line s.claims
    ∷ []

-- the lines of the devices, and how the run ended
abbrev pub end_lines : Summary → List (List ℕ)
end_lines s =
    pods_line s.pods s.mounted
    ∷ data_line s.stored s.calls
    ∷ ending_line s.ending
    ∷ []

-- the seven lines
abbrev pub summary_lines : Summary → List (List ℕ)
summary_lines s = count_lines s ++ end_lines s
