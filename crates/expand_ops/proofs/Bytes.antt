-- A use of no claim more passes the limit of bytes exactly where the bytes alone do.
use Rattle.std.proofs.Common.{◌≡◌, ℕ, ◌+◌, Bool, true, false, cond, Option, Some, None, refl, List}
use Rattle.std.specs.Prelude.{nat_lt}
use Rattle.side_calls.specs.declared.quotas.OverQuota.{OverQuota}
use Rattle.side_calls.specs.declared.quotas.OverQuota.TheVariants as limits
use Rattle.side_calls.specs.declared.quotas.Quota.{Quota}
use Rattle.side_calls.specs.declared.quotas.Used.{Used}
use Rattle.side_calls.specs.declared.sizes.GrowError.{GrowError}
use Rattle.side_calls.specs.declared.sizes.GrowError.TheVariants.{OverBytes}
use Rattle.quota_rules.specs.Using.{Tally, over_bytes, over_in, over_quota, quota_of, used_by}
use Rattle.expand_ops.specs.Growing.{over_by, over_error}

-- of the limits that are passed, that of bytes
abbrev pub by_bytes : Option OverQuota → Option GrowError
by_bytes None = None
by_bytes (Some (limits.OverBytes used limit)) = Some (OverBytes used limit)
by_bytes (Some (limits.OverClaims used limit)) = None

alone : (q : Option Quota) (used : Used) (more : ℕ) → over_error (over_bytes q used more) ≡ by_bytes (over_quota q used (record { bytes = more; claims = 0 }))
alone None used more = refl
alone (Some q) used more = by (nat_lt q.bytes (used.bytes + more)) (nat_lt q.claims (used.claims + 0))
  where
    by : (a b : Bool) → over_error (cond a (Some (used.bytes, q.bytes)) None)
        ≡ by_bytes (cond a (Some (limits.OverBytes used.bytes q.bytes)) (cond b (Some (limits.OverClaims used.claims q.claims)) None))
    by true b = refl
    by false true = refl
    by false false = refl

pub bytes_alone : (t : Tally) (namespace : List ℕ) (more : ℕ) → over_by t namespace more ≡ by_bytes (over_in t namespace (record { bytes = more; claims = 0 }))
bytes_alone t namespace more = alone (quota_of namespace t.quotas) (used_by namespace t.counted) more
