-- What counts against quotas, and what they allow: small cases of each definition. A choice of this project.
use Rattle.std.specs.Prelude.{◌≡◌, ◌+◌, ◌^◌, List, [], ◌∷◌, Some, None, Ok, Err, codes}
use Rattle.kube_parts.specs.Uids.{uid_of_serial}
use Rattle.kube_objects.specs.declared.objects.Object.TheVariants.{Class, Claim, Volume}
use Rattle.call_types.specs.declared.reply.Refusal.TheVariants as refusals
use Rattle.call_types.specs.declared.reply.Reply.TheVariants.{Done, Left, Found, Refused}
use Rattle.side_calls.specs.declared.quotas.Quota.{Quota}
use Rattle.side_calls.specs.declared.quotas.OverQuota.TheVariants.{OverBytes, OverClaims}
use Rattle.quota_rules.specs.declared.counted.Counted.{Counted}
use Rattle.quota_rules.specs.Counting.{AreCounted, HasRoom, claims_in, grown_in, noted}
use Rattle.quota_rules.specs.Using.{allowed, over_bytes, over_in, quota_of, used_by}
use Rattle.model_examples.specs.Samples.{a, bound_a, fast}
use Rattle.side_examples.specs.Samples.{claim_of, counted, gibi, here, quota, there, use_of}

-- two claims that count: c, which grew from 3 to 4, and d of 2
abbrev pub two : List Counted
two = counted here (codes "c") 2 4 ∷ counted here (codes "d") 3 2 ∷ []

-- ---- what counts

pub record NotedExamples : Type 0 where
  -- a claim that was created counts, in the order of keys; one of another namespace too
  pub created : noted (Done (Claim (claim_of here (codes "b") 9 1))) two ≡ counted here (codes "b") 9 1 ∷ two
  pub elsewhere : noted (Done (Claim (claim_of there (codes "c") 9 1))) two ≡ counted here (codes "c") 2 4 ∷ counted here (codes "d") 3 2 ∷ counted there (codes "c") 9 1 ∷ []
  -- a write of a claim that counts changes nothing, so its growth stays
  pub written : noted (Done (Claim (claim_of here (codes "c") 2 3))) two ≡ two
  -- another claim of its name counts in its place
  pub again : noted (Done (Claim (claim_of here (codes "c") 9 1))) two ≡ counted here (codes "c") 9 1 ∷ counted here (codes "d") 3 2 ∷ []
  -- a claim that left counts no more; nothing else makes it leave
  pub left : noted (Left (Claim (claim_of here (codes "c") 2 3))) two ≡ counted here (codes "d") 3 2 ∷ []
  pub left_elsewhere : noted (Left (Claim (claim_of there (codes "c") 2 3))) two ≡ two
  pub found : noted (Found (Claim (claim_of here (codes "e") 9 1))) two ≡ two
  pub refused : noted (Refused refusals.NotFound) two ≡ two
  -- no other object counts
  pub class : noted (Done (Class fast)) two ≡ two
  pub volume : noted (Left (Volume a)) two ≡ two
  -- at first claims count with their requests
  pub first : claims_in (Class fast ∷ Volume bound_a ∷ Claim (claim_of here (codes "c") 2 3) ∷ []) ≡ counted here (codes "c") 2 3 ∷ []
  -- in the order of their keys, and no key twice
  pub ordered : AreCounted two
  pub not_ordered : AreCounted (counted here (codes "d") 3 2 ∷ counted here (codes "c") 2 4 ∷ []) → ⊥
  pub not_twice : AreCounted (counted here (codes "c") 2 4 ∷ counted here (codes "c") 3 2 ∷ []) → ⊥

-- ---- growth

pub record GrownInExamples : Type 0 where
  -- the claim of the UID in the namespace asks for more, and no other does
  pub grown : grown_in here (uid_of_serial 3) (gibi 5) two ≡ counted here (codes "c") 2 4 ∷ counted here (codes "d") 3 7 ∷ []
  pub other_namespace : grown_in there (uid_of_serial 3) (gibi 5) two ≡ two
  pub other_uid : grown_in here (uid_of_serial 9) (gibi 5) two ≡ two
  -- it must count, and ask for fewer than 2^64 bytes
  pub room : HasRoom here (uid_of_serial 3) (gibi 5) two
  pub no_room : HasRoom here (uid_of_serial 3) (2 ^ 64) two → ⊥
  pub no_claim : HasRoom there (uid_of_serial 3) (gibi 5) two → ⊥

-- ---- what is allowed

-- one quota, of 8 gibibytes and 3 claims
abbrev pub one_quota : List Quota
one_quota = quota here 8 3 ∷ []

pub record UsedExamples : Type 0 where
  -- the claims of the namespace together
  pub two_claims : used_by here two ≡ use_of 6 2
  pub none : used_by there two ≡ use_of 0 0
  pub quota_found : quota_of here one_quota ≡ Some (quota here 8 3)
  pub no_quota : quota_of there one_quota ≡ None
  -- up to the last byte, and not one more
  pub last : over_in (record { quotas = one_quota; counted = two }) here (use_of 2 1) ≡ None
  pub one_byte_more :
      over_in (record { quotas = one_quota; counted = two }) here (record { bytes = gibi 2 + 1; claims = 1 }) ≡ Some (OverBytes (gibi 6) (gibi 8))
  -- up to the last claim; bytes are tested first
  pub one_claim_more : over_in (record { quotas = one_quota; counted = two }) here (use_of 2 2) ≡ Some (OverClaims 2 3)
  pub both : over_in (record { quotas = one_quota; counted = two }) here (use_of 3 2) ≡ Some (OverBytes (gibi 6) (gibi 8))
  -- a namespace without a quota has no limit
  pub no_limit : over_in (record { quotas = one_quota; counted = two }) there (use_of 100 100) ≡ None
  -- a quota of nothing allows nothing but nothing
  pub nothing : over_in (record { quotas = quota here 0 0 ∷ []; counted = [] }) here (use_of 0 0) ≡ None
  pub no_claim : over_in (record { quotas = quota here 0 0 ∷ []; counted = [] }) here (use_of 0 1) ≡ Some (OverClaims 0 0)
  -- of bytes alone
  pub bytes : over_bytes (Some (quota here 8 3)) (use_of 6 9) (gibi 2) ≡ None
  pub over : over_bytes (Some (quota here 8 3)) (use_of 6 9) (gibi 3) ≡ Some (gibi 6, gibi 8)
  -- the answer
  pub yes : allowed None ≡ Ok tt
  pub no : allowed (Some (OverClaims 2 3)) ≡ Err (OverClaims 2 3)
