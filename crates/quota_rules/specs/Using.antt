-- What the claims of a namespace use of its quota, and what the quota allows.
-- Source: Kubernetes documentation, "Resource Quotas": `requests.storage` and `persistentvolumeclaims`. That bytes are tested before
-- claims is a choice of this project.
use Rattle.std.specs.Prelude.{ℕ, ◌+◌, nat_lt, List, [], ◌∷◌, Option, Some, None, bytes_eq, if◌then◌else◌, Ok, Err, ⊤}
use Rattle.std.specs.declared.result.Result.{Result}
use Rattle.side_calls.specs.declared.quotas.Quota.{Quota}
use Rattle.side_calls.specs.declared.quotas.Used.{Used}
use Rattle.side_calls.specs.declared.quotas.OverQuota.{OverQuota}
use Rattle.side_calls.specs.declared.quotas.OverQuota.TheVariants.{OverBytes, OverClaims}
use Rattle.quota_rules.specs.declared.counted.Counted.{Counted}

-- the quotas, and the claims that are counted against them
pub record Tally : Type 0 where
  pub quotas : List Quota
  pub counted : List Counted

-- what counts where two namespaces are one
abbrev pub if_in : List ℕ → List ℕ → ℕ → ℕ
if_in namespace other n = if bytes_eq other namespace then n else 0

-- the bytes that the claims of a namespace ask for together
abbrev pub bytes_by : List ℕ → List Counted → ℕ
bytes_by namespace [] = 0
bytes_by namespace (x ∷ xs) = if_in namespace x.key.namespace x.asked + bytes_by namespace xs

-- how many claims the namespace has
abbrev pub claims_by : List ℕ → List Counted → ℕ
claims_by namespace [] = 0
claims_by namespace (x ∷ xs) = if_in namespace x.key.namespace 1 + claims_by namespace xs

-- both together
abbrev pub used_by : List ℕ → List Counted → Used
used_by namespace xs = record { bytes = bytes_by namespace xs; claims = claims_by namespace xs }

-- the quota of a namespace, if it has one
abbrev pub quota_of : List ℕ → List Quota → Option Quota
quota_of namespace [] = None
quota_of namespace (q ∷ qs) = if bytes_eq q.namespace namespace then Some q else quota_of namespace qs

-- the limit that a use and more of it together pass, if they pass one: that of bytes, else that of claims
abbrev pub over_quota : Option Quota → Used → Used → Option OverQuota
over_quota None used more = None
over_quota (Some q) used more =
    if nat_lt q.bytes (used.bytes + more.bytes) then Some (OverBytes used.bytes q.bytes)
    else if nat_lt q.claims (used.claims + more.claims) then Some (OverClaims used.claims q.claims)
    else None

-- allowed where no limit is passed
abbrev pub allowed : Option OverQuota → Result ⊤ OverQuota
allowed None = Ok tt
allowed (Some over) = Err over

-- what stands against so much more in the namespace, if anything does
abbrev pub over_in : Tally → List ℕ → Used → Option OverQuota
over_in t namespace more = over_quota (quota_of namespace t.quotas) (used_by namespace t.counted) more

-- the same of bytes alone, since a claim that grows is no claim more: what is used, and the limit
abbrev pub over_bytes : Option Quota → Used → ℕ → Option (ℕ × ℕ)
over_bytes None used more = None
over_bytes (Some q) used more = if nat_lt q.bytes (used.bytes + more) then Some (used.bytes, q.bytes) else None
