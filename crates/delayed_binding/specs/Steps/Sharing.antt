-- How the claims that are not fixed are put in order and get their shares one by one. A choice of this project.
use Rattle.std.specs.Prelude.{ℕ, suc, ◌≡◌, ◌⊎◌, Bool, true, false, List, [], ◌∷◌, ◌++◌, Option, Some, None, IfSome, if◌then◌else◌}
use Rattle.std.specs.Ordering.{is_gt}
use Rattle.kube_objects.specs.declared.key.Key.{Key}
use Rattle.kube_objects.specs.declared.objects.Claim.{Claim as ClaimData}
use Rattle.kube_objects.specs.declared.objects.Node.{Node as NodeData}
use Rattle.kube_objects.specs.declared.objects.Object.{Object}
use Rattle.kube_objects.specs.declared.objects.Object.TheVariants.{Claim}
use Rattle.kube_objects.specs.Keys.{key_of}
use Rattle.volume_index.specs.VolumeIndex.{Index, StandsFor, volumes_in}
use Rattle.binder_model.specs.Choice.{AreShares, IsProvisioned, Share, TakesVolume, can_provision, claim_cmp}
use Rattle.binder_model.specs.Matching.{IsBest, is_excluded}
use Rattle.volume_match.specs.Passing.{PassedAreExcluded}
use Rattle.volume_match.specs.Volumes.{volume_at}
use Rattle.delayed_binding.specs.declared.shares.Shares.{Shares}
use Rattle.delayed_binding.specs.Choices.{binds_of, pair_of, provisions_of, set_aside}

-- how many claims at the front the claim comes after
abbrev pub place_in : ClaimData → List ClaimData → ℕ
place_in c [] = 0
place_in c (d ∷ ds) = if is_gt (claim_cmp c d) then suc (place_in c ds) else 0

-- the places that are taken once these shares were given, the last one first
abbrev pub taken_by : List ℕ → List Share → List ℕ
taken_by taken [] = taken
taken_by taken (TakesVolume place ∷ shares) = taken_by (place ∷ taken) shares
taken_by taken (IsProvisioned ∷ shares) = taken_by taken shares

-- the same places stand in both lists
abbrev pub AreSame : List ℕ → List ℕ → Type 0
AreSame xs ys = (place : ℕ) → is_excluded xs place ≡ is_excluded ys place

-- which places are taken or set aside, and what is prepared
pub record Held : Type 0 where
  pub taken : List ℕ
  pub binds : List (Key × Key)
  pub provisions : List Key

-- what the shares hold so far
abbrev pub held_by : Shares → Held
held_by s = record { taken = s.taken; binds = s.binds.items; provisions = s.provisions.items }

-- nothing is taken, set aside or prepared
abbrev pub nothing_held : Held
nothing_held = record { taken = []; binds = []; provisions = [] }

-- the index, where there is one, stands for the volumes of the rows
abbrev pub IsIndexOf : List Object → Option Index → Type 0
IsIndexOf rows index = IfSome index (λ i. StandsFor i (volumes_in rows))

-- what is passed in the index, where there is one, is taken
abbrev pub ArePassedIn : List Object → Option Index → List ℕ → List ℕ → Type 0
ArePassedIn rows index passed taken = IfSome index (λ i. PassedAreExcluded rows i.free passed taken)

-- the volumes that were passed over need not be looked at again
abbrev pub ArePassed : List Object → Option Index → Shares → Type 0
ArePassed rows index shares = ArePassedIn rows index shares.passed shares.taken

-- this place is passed too, if there is one
abbrev pub IsPassedToo : Option ℕ → List ℕ → List ℕ → Type 0
IsPassedToo None before after = after ≡ before
IsPassedToo (Some place) before after = AreSame after (place ∷ before)

-- once these claims have their shares
pub record IsSharedOut (rows : List Object) (node : NodeData) (claims : List ClaimData) (held : Held) : Type 0 where
  pub shares : List Share
  pub are : AreShares rows node (set_aside rows) claims shares
  pub taken_are : AreSame held.taken (taken_by (set_aside rows) shares)
  pub binds_are : held.binds ≡ binds_of rows claims shares
  pub provisions_are : held.provisions ≡ provisions_of claims shares

-- the claims can have no shares
abbrev pub HaveNoShares : List Object → NodeData → List ClaimData → Type 0
HaveNoShares rows node claims = (shares : List Share) → AreShares rows node (set_aside rows) claims shares → ⊥

-- one claim more: it takes the best volume that is left, or is to be provisioned, or nothing serves it

-- the claim takes the best volume that is left
pub record TakesBest (rows : List Object) (node : NodeData) (c : ClaimData) (before after : Held) : Type 0 where
  pub place : ℕ
  pub best : IsBest rows c (Some node) false before.taken (Some place)
  pub taken_are : AreSame after.taken (place ∷ before.taken)
  pub binds_are : after.binds ≡ before.binds ++ pair_of c (volume_at rows place)
  pub provisions_are : after.provisions ≡ before.provisions

-- no volume is left for the claim, and one can be provisioned
pub record IsLeftToProvision (rows : List Object) (node : NodeData) (c : ClaimData) (before after : Held) : Type 0 where
  pub none : IsBest rows c (Some node) false before.taken None
  pub can : can_provision rows c ≡ true
  pub after_is : after ≡ record before { provisions = before.provisions ++ key_of (Claim c) ∷ [] }

-- no volume is left for the claim, and none can be provisioned
pub record IsUnserved (rows : List Object) (node : NodeData) (c : ClaimData) (before : Held) : Type 0 where
  pub none : IsBest rows c (Some node) false before.taken None
  pub cannot : can_provision rows c ≡ false

-- the claim is served, or is not, with these shares before and after
abbrev pub IsServedAs : List Object → NodeData → ClaimData → Held → Held → Bool → Type 0
IsServedAs rows node c before after true = TakesBest rows node c before after ⊎ IsLeftToProvision rows node c before after
IsServedAs rows node c before after false = IsUnserved rows node c before
