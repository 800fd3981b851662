-- What the side keeps beside the objects of the world, and what is counted of these.
-- A choice of this project: sizes of claims that grew stand beside the objects, whose specs stay as they were created.
use Rattle.std.specs.Prelude.{ℕ, List, [], ◌∷◌}
use Rattle.kube_objects.specs.declared.objects.Claim.{Claim as ClaimData}
use Rattle.kube_objects.specs.declared.objects.Object.{Object}
use Rattle.kube_objects.specs.declared.objects.Object.TheVariants.{Claim}
use Rattle.kube_objects.specs.Keys.{key_of}
use Rattle.side_calls.specs.declared.quotas.Quota.{Quota}
use Rattle.side_calls.specs.declared.sizes.SizeRow.{SizeRow}
use Rattle.quota_rules.specs.declared.counted.Counted.{Counted}
use Rattle.quota_rules.specs.Using.{Tally}
use Rattle.expand_ops.specs.Growing.{asked_by}
use Rattle.expand_ops.specs.Sizes.{Growth, size_at}

-- what the lines of a script set, wherever they stand: the quotas, and the bytes for growth
pub record SideSetup : Type 0 where
  pub quotas : List Quota
  pub reserve : ℕ

-- the side at a point: its setup, and the rows of the claims that grew
pub record Side : Type 0 where
  pub quotas : List Quota
  pub reserve : ℕ
  pub sizes : List SizeRow

-- before the first step no claim has grown
abbrev pub first_side : SideSetup → Side
first_side given = record { quotas = given.quotas; reserve = given.reserve; sizes = [] }

-- the reserve and the rows
abbrev pub growth_of : Side → Growth
growth_of s = record { reserve = s.reserve; rows = s.sizes }

-- a claim counts with what it grew to, or else with its request
abbrev pub counted_by : List SizeRow → ClaimData → Counted
counted_by sizes c = record { key = key_of (Claim c); claim = c.meta.uid; asked = asked_by (size_at (key_of (Claim c)) sizes) c }

-- what counts of these objects: each claim that stands
abbrev pub counted_in : List SizeRow → List Object → List Counted
counted_in sizes [] = []
counted_in sizes (Claim c ∷ objects) = counted_by sizes c ∷ counted_in sizes objects
counted_in sizes (o ∷ objects) = counted_in sizes objects

-- the quotas, and what these objects use of them
abbrev pub tally_of : Side → List Object → Tally
tally_of s objects = record { quotas = s.quotas; counted = counted_in s.sizes objects }
