-- Sample claims, quotas and rows of sizes, for the computed examples. Sizes are in gibibytes. A choice of this project.
use Rattle.std.specs.Prelude.{ℕ, ◌*◌, ◌^◌, List, [], ◌∷◌, Some, codes}
use Rattle.plain_data.specs.Pairs.{Pair}
use Rattle.kube_parts.specs.declared.uid.Uid.{Uid}
use Rattle.kube_parts.specs.Uids.{uid_of_serial}
use Rattle.kube_objects.specs.declared.key.Key.{Key}
use Rattle.kube_objects.specs.declared.objects.Class.{Class as ClassData}
use Rattle.kube_objects.specs.declared.objects.Claim.{Claim as ClaimData}
use Rattle.kube_objects.specs.declared.objects.Volume.{Volume as VolumeData}
use Rattle.kube_objects.specs.declared.objects.Object.{Object}
use Rattle.kube_objects.specs.declared.objects.Object.TheVariants.{Class, Claim, Volume}
use Rattle.kube_objects.specs.Bindings.{provisioned_by, pvc_protection}
use Rattle.binder_model.specs.ObjectKeys.{claim_key}
use Rattle.model_examples.specs.Samples.{amount, bound_a, bound_c, c, fast, key_c, standing, uid_c}
use Rattle.side_calls.specs.declared.quotas.Quota.{Quota}
use Rattle.side_calls.specs.declared.quotas.Used.{Used}
use Rattle.side_calls.specs.declared.sizes.SizeRow.{SizeRow}
use Rattle.quota_rules.specs.declared.counted.Counted.{Counted}

-- so many bytes
abbrev pub gibi : ℕ → ℕ
gibi n = n * 2 ^ 30

-- a claim that stands: its namespace, name, serial number and request
abbrev pub claim_of : List ℕ → List ℕ → ℕ → ℕ → ClaimData
claim_of namespace name serial size = record c { meta = standing namespace name serial 2 (pvc_protection ∷ []) []; amount = amount size }

-- the namespaces of these examples
abbrev pub here : List ℕ
here = codes "default"

abbrev pub there : List ℕ
there = codes "other"

-- what counts of a claim that asks for so much
abbrev pub counted : List ℕ → List ℕ → ℕ → ℕ → Counted
counted namespace name serial size = record { key = claim_key namespace name; claim = Some (uid_of_serial serial); asked = gibi size }

-- a quota of so many bytes and claims
abbrev pub quota : List ℕ → ℕ → ℕ → Quota
quota namespace size claims = record { namespace = namespace; bytes = gibi size; claims = claims }

-- a use of so many bytes and claims
abbrev pub use_of : ℕ → ℕ → Used
use_of size claims = record { bytes = gibi size; claims = claims }

-- a row of the claim c: what it asks for, was given, its volume has, is stored, and was stored first
abbrev pub row : ℕ → ℕ → ℕ → ℕ → ℕ → SizeRow
row asked given volume stored first = record {
  key = key_c;
  claim = uid_c;
  asked = gibi asked;
  given = gibi given;
  volume = gibi volume;
  stored = gibi stored;
  first = gibi first;
}

-- the same of another claim
abbrev pub row_of : Key → Uid → SizeRow → SizeRow
row_of key uid x = record x { key = key; claim = uid }

-- ---- a claim that may grow: of 3 gibibytes, bound to a provisioned volume of 5

-- the class, with these kept members
abbrev pub class_with : List ℕ → ClassData
class_with extra = record fast { extra = extra }

-- the members that let claims grow
abbrev pub lets : List ℕ
lets = codes "{\"allowVolumeExpansion\":true}"

-- the volume, with these annotations
abbrev pub volume_with : List Pair → VolumeData
volume_with annotations = record bound_a { meta = record bound_a.meta { annotations = annotations } }

-- the annotation of a volume that was provisioned
abbrev pub provisioned : List Pair
provisioned = (provisioned_by, codes "x/y") ∷ []

-- the three objects
abbrev pub three : ClassData → VolumeData → ClaimData → List Object
three k v x = Class k ∷ Volume v ∷ Claim x ∷ []

-- as they may grow
abbrev pub growable : List Object
growable = three (class_with lets) (volume_with provisioned) bound_c
