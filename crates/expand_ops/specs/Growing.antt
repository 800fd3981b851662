-- Which claims may grow, why another does not, and the row of one that does.
-- Source: Kubernetes documentation, "Persistent Volumes", Expanding Persistent Volumes Claims: a bound claim of a provisioned volume
-- grows where its class has `allowVolumeExpansion`, and never shrinks. The order of the reasons is a choice of this project.
use Rattle.std.specs.Prelude.{ℕ, ◌-◌, ◌==◌, ◌&&◌, nat_lt, not, Bool, true, false, List, Option, Some, None, codes, if◌then◌else◌, option_and_then, unwrap_or}
use Rattle.serde_json.specs.Find.{get}
use Rattle.serde_json.specs.Read.{read}
use Rattle.json_text.specs.Look.{boolean_in}
use Rattle.plain_data.specs.Rows.{put}
use Rattle.kube_parts.specs.declared.parts.ClaimPhase.{ClaimPhase}
use Rattle.kube_parts.specs.declared.parts.ClaimPhase.TheVariants as phases
use Rattle.kube_parts.specs.declared.uid.Uid.{Uid}
use Rattle.kube_objects.specs.declared.key.Key.{Key}
use Rattle.kube_objects.specs.declared.objects.Amount.{Amount}
use Rattle.kube_objects.specs.declared.objects.Claim.{Claim as ClaimData}
use Rattle.kube_objects.specs.declared.objects.Class.{Class as ClassData}
use Rattle.kube_objects.specs.declared.objects.Volume.{Volume as VolumeData}
use Rattle.kube_objects.specs.declared.objects.Object.{Object}
use Rattle.kube_objects.specs.declared.objects.Object.TheVariants.{Class, Volume}
use Rattle.kube_objects.specs.Bindings.{carries, class_of_claim, has_key, is_completed, is_deleting, provisioned_by}
use Rattle.kube_objects.specs.Keys.{key_cmp, row_at}
use Rattle.binder_model.specs.Choice.{claim_in}
use Rattle.binder_model.specs.ObjectKeys.{class_key, volume_key}
use Rattle.side_calls.specs.declared.sizes.SizeRow.{SizeRow}
use Rattle.side_calls.specs.declared.sizes.Why.{Why}
use Rattle.side_calls.specs.declared.sizes.Why.TheVariants as reasons
use Rattle.side_calls.specs.declared.sizes.GrowError.{GrowError}
use Rattle.side_calls.specs.declared.sizes.GrowError.TheVariants.{NotGrowable, OverBytes}
use Rattle.quota_rules.specs.Using.{Tally, over_bytes, quota_of, used_by}
use Rattle.expand_ops.specs.Sizes.{size_at, size_key}

-- the volume, where the object is one
abbrev pub volume_in : Option Object → Option VolumeData
volume_in (Some (Volume v)) = Some v
volume_in object = None

-- the class, where the object is one
abbrev pub class_in : Option Object → Option ClassData
class_in (Some (Class k)) = Some k
class_in object = None

-- ---- classes that let their claims grow

-- Kubernetes API, StorageClass: the member of a class that lets its claims grow
abbrev pub grow_word : List ℕ
grow_word = codes "allowVolumeExpansion"

-- the member stands among the kept members of a class, and is true
abbrev pub lets_grow : List ℕ → Bool
lets_grow extra = unwrap_or (boolean_in (option_and_then (get grow_word) (read extra))) false

-- the class is there and lets its claims grow
abbrev pub class_lets : Option ClassData → Bool
class_lets None = false
class_lets (Some k) = lets_grow k.extra

-- the class that the claim names, as it stands now, lets its claims grow
abbrev pub claim_lets : List Object → Option ClaimData → Bool
claim_lets objects None = false
claim_lets objects (Some c) = class_lets (class_in (row_at (class_key (class_of_claim c)) objects))

-- ---- why a claim may not grow, whatever it asks for

-- the claim's phase is Bound
abbrev pub is_bound_claim : ClaimPhase → Bool
is_bound_claim phases.Bound = true
is_bound_claim phase = false

-- the capacity in a status is there, and has so many bytes
abbrev pub has_bytes : Option Amount → ℕ → Bool
has_bytes None bytes = false
has_bytes (Some a) bytes = a.bytes == bytes

-- the claim is bound to the volume, and its status shows the volume's capacity
abbrev pub holds_volume : ClaimData → VolumeData → Bool
holds_volume c v = is_bound_claim c.phase && is_completed c && carries v c && has_bytes c.got v.amount.bytes

-- the reason where it applies, else the next one
abbrev pub why_if : Bool → Why → Option Why → Option Why
why_if true why next = Some why
why_if false why next = next

-- of a claim that holds this volume, whose class lets its claims grow or does not
abbrev pub why_bound : Bool → VolumeData → Option Why
why_bound grows v = why_if (not (has_key provisioned_by v.meta.annotations)) reasons.Static (why_if (not grows) reasons.Class None)

-- of a claim that names this volume
abbrev pub why_volume : Bool → ClaimData → Option VolumeData → Option Why
why_volume grows c None = Some reasons.NotBound
why_volume grows c (Some v) = why_if (not (holds_volume c v)) reasons.NotBound (why_bound grows v)

-- of a claim among these objects
abbrev pub why_claim : Bool → List Object → Option ClaimData → Option Why
why_claim grows objects None = Some reasons.Absent
why_claim grows objects (Some c) = why_if (is_deleting c.meta) reasons.Deleting (why_volume grows c (volume_in (row_at (volume_key c.volume_name) objects)))

-- ---- why it does not grow to so many bytes

-- what a claim asks for: what it grew to, or else its request
abbrev pub asked_by : Option SizeRow → ClaimData → ℕ
asked_by None c = c.amount.bytes
asked_by (Some x) c = x.asked

-- what the claim of a key asks for; nothing where there is none
abbrev pub asked_now : List SizeRow → Key → Option ClaimData → ℕ
asked_now sizes key None = 0
asked_now sizes key (Some c) = asked_by (size_at key sizes) c

-- a limit of bytes that is passed, as an error: what is used, and the limit
abbrev pub over_error : Option (ℕ × ℕ) → Option GrowError
over_error None = None
over_error (Some over) = Some (OverBytes over.0 over.1)

-- what the quota of the namespace has against so many bytes more
abbrev pub over_by : Tally → List ℕ → ℕ → Option GrowError
over_by t namespace more = over_error (over_bytes (quota_of namespace t.quotas) (used_by namespace t.counted) more)

-- what stands against a claim that may grow and asks for so many bytes already
abbrev pub fault_by : Tally → Key → ℕ → ℕ → Option GrowError
fault_by t key bytes asked = if nat_lt bytes asked then Some (NotGrowable reasons.Smaller) else over_by t key.namespace (bytes - asked)

-- the reason why it may not grow, else what stands against it
abbrev pub fault_if : Option Why → Option GrowError → Option GrowError
fault_if (Some why) next = Some (NotGrowable why)
fault_if None next = next

-- why the claim of the key does not grow to so many bytes, the first reason that applies; none where it grows
abbrev pub grow_fault : Tally → List SizeRow → List Object → Key → ℕ → Option GrowError
grow_fault t sizes objects key bytes =
    let c = claim_in (row_at key objects) in
    fault_if (why_claim (claim_lets objects c) objects c) (fault_by t key bytes (asked_now sizes key c))

-- ---- the row of a claim that grows

-- the row that its first growth makes
abbrev pub first_row : Key → Uid → Amount → VolumeData → ℕ → SizeRow
first_row key uid got v bytes = record {
  key = key;
  claim = uid;
  asked = bytes;
  given = got.bytes;
  volume = v.amount.bytes;
  stored = v.amount.bytes;
  first = v.amount.bytes;
}

-- the row that stands asks for so many bytes; where none stands, the new one does
abbrev pub grown_row : Option SizeRow → SizeRow → ℕ → SizeRow
grown_row None new bytes = new
grown_row (Some x) new bytes = record x { asked = bytes }

-- the rows with it
abbrev pub grown_rows : SizeRow → List SizeRow → List SizeRow
grown_rows row rows = put key_cmp size_key row rows

-- the rows after a claim has grown that has this UID, this capacity in its status, and this volume
abbrev pub row_from : List SizeRow → Key → ℕ → Option Uid → Option Amount → Option VolumeData → List SizeRow
row_from sizes key bytes (Some uid) (Some got) (Some v) = grown_rows (grown_row (size_at key sizes) (first_row key uid got v bytes) bytes) sizes
row_from sizes key bytes uid got volume = sizes

-- the rows after the claim has grown
abbrev pub sizes_grown : List SizeRow → List Object → Key → ℕ → Option ClaimData → List SizeRow
sizes_grown sizes objects key bytes None = sizes
sizes_grown sizes objects key bytes (Some c) = row_from sizes key bytes c.meta.uid c.got (volume_in (row_at (volume_key c.volume_name) objects))

-- the new rows where nothing stands against the growth
abbrev pub grown_if : Option GrowError → List SizeRow → List SizeRow → List SizeRow
grown_if None new sizes = new
grown_if (Some error) new sizes = sizes

-- the rows after the claim of the key was asked to grow to so many bytes
abbrev pub rows_grown : Tally → List SizeRow → List Object → Key → ℕ → List SizeRow
rows_grown t sizes objects key bytes = grown_if (grow_fault t sizes objects key bytes) (sizes_grown sizes objects key bytes (claim_in (row_at key objects))) sizes
