-- Why quotas are kept: each new claim has passed its quota. For users alone create claims, no create that reached the world was to
-- be held back, and a claim keeps the namespace and the request that it was created with. A choice of this project.
use Rattle.std.specs.Prelude.{◌≡◌, List, [], ◌∷◌, false, None, ⊤}
use Rattle.plain_data.specs.Rows.{find}
use Rattle.kube_objects.specs.declared.objects.Claim.{Claim as ClaimData}
use Rattle.kube_objects.specs.declared.objects.Object.TheVariants.{Claim}
use Rattle.kube_objects.specs.Keys.{AreRows, key_cmp, key_of}
use Rattle.call_types.specs.declared.entry.Entry.{Entry}
use Rattle.call_types.specs.declared.reply.Reply.TheVariants.{Done}
use Rattle.call_types.specs.declared.setup.Setup.{Setup}
use Rattle.binder_model.specs.Licence.{Licensed}
use Rattle.binder_model.specs.World.{effect, reply_to, world}
use Rattle.quota_rules.specs.Counting.{counted_key, is_same_claim}
use Rattle.side_model.specs.Answers.{held_by, side}
use Rattle.side_model.specs.Merged.{Step, OfWorld, OfSide, entries}
use Rattle.side_model.specs.Sides.{SideSetup, counted_in, tally_of}
use Rattle.side_model.specs.Within.{PassesQuota, WithinThroughout}
use Rattle.side_laws.specs.Mirrors.{HaveUids, SizesStand}

-- a claim of which a reply says that it was made, and that did not count before, passed the quota of its namespace
abbrev pub NewPasses : Setup → SideSetup → List Step → Entry → Type 0
NewPasses setup given m e =
    (c : ClaimData) → e.reply ≡ Done (Claim c)
    → is_same_claim (find key_cmp counted_key (key_of (Claim c)) (counted_in (side setup given m).sizes (world setup (entries m)).store.rows)) c.meta.uid ≡ false
    → held_by (tally_of (side setup given m) (world setup (entries m)).store.rows) (Claim c) ≡ None

-- what holds of the world and the side before a step
pub record IsMirrored (setup : Setup) (given : SideSetup) (m : List Step) : Type 0 where
  pub order : AreRows (world setup (entries m)).store.rows
  pub uids : HaveUids (world setup (entries m)).store.rows
  pub stand : SizesStand (side setup given m).sizes (world setup (entries m)).store.rows

-- a call of the world that was answered truly, and made no claim past its quota
pub record IsFairCall (setup : Setup) (given : SideSetup) (m : List Step) (e : Entry) : Type 0 where
  pub mirrored : IsMirrored setup given m
  pub told : e.reply ≡ reply_to (effect setup (world setup (entries m)) e.kind e.request)
  pub passes : NewPasses setup given m e

-- at each step
abbrev pub IsFair : Setup → SideSetup → List Step → Type 0
IsFair setup given [] = ⊤
IsFair setup given (OfWorld e ∷ m) = IsFair setup given m × IsFairCall setup given m e
IsFair setup given (OfSide s ∷ m) = IsFair setup given m × IsMirrored setup given m

-- quotas are kept in each such list
abbrev pub FairRunsKeepQuotas : Type 0
FairRunsKeepQuotas = (setup : Setup) (given : SideSetup) (m : List Step) → IsFair setup given m → WithinThroughout setup given m

-- a licensed call that was not to be held back makes no claim past its quota
abbrev pub CreatesPass : Type 0
CreatesPass =
    (setup : Setup) (given : SideSetup) (m : List Step) (e : Entry) (mine : List Entry) → IsMirrored setup given m
    → e.reply ≡ reply_to (effect setup (world setup (entries m)) e.kind e.request)
    → Licensed e.kind mine e.request → PassesQuota setup given m e.kind e.request → NewPasses setup given m e
