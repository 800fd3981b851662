-- What was told of an object holds of a told object, and the entries of one seat as calls are made.
use Rattle.std.proofs.Common.{ℕ, zero, suc, ◌≡◌, ◌≢◌, ◌+◌, ◌<◌, ◌==◌, List, [], ◌∷◌, length, take, get_or, reverse, Bool, true, false, inl, inr, refl, sym, subst, ap, ◌∙◌, arith}
use Rattle.std.proofs.lemmas.Bool.Decides.{Decides-eqb}
use Rattle.std.proofs.lemmas.List.{take_more, reverse-append}
use Rattle.kube_objects.specs.declared.objects.Volume.{Volume as VolumeData}
use Rattle.kube_objects.specs.declared.objects.Claim.{Claim as ClaimData}
use Rattle.kube_objects.specs.declared.objects.Object.{Object}
use Rattle.kube_objects.specs.declared.objects.Object.TheVariants.{Volume, Claim}
use Rattle.call_types.specs.declared.entry.Entry.{Entry}
use Rattle.binder_model.specs.Told.{SomeOf, TellsObject, ToldObject, IsVolumeWith, IsClaimWith, ToldVolume, ToldClaim, own}
use Rattle.model_laws.proofs.Lists.{some_map}

pub told_map : {P Q : Object → Type 0} → ((o : Object) → P o → Q o) → (mine : List Entry) → ToldObject P mine → ToldObject Q mine
told_map {P = P} {Q = Q} f mine told = some_map {P = TellsObject P} {Q = TellsObject Q} (λ e t. (t.0, some_map f _ t.1)) mine told

-- what holds of each volume, and of each claim, holds of the object

pub volume_map : {P Q : VolumeData → Type 0} → ((v : VolumeData) → P v → Q v) → (o : Object) → IsVolumeWith P o → IsVolumeWith Q o
volume_map f (Volume v) h = f v h
volume_map f _ h = absurd h

pub claim_map : {P Q : ClaimData → Type 0} → ((c : ClaimData) → P c → Q c) → (o : Object) → IsClaimWith P o → IsClaimWith Q o
claim_map f (Claim c) h = f c h
claim_map f _ h = absurd h

-- what holds of a volume that was told holds of a told volume
pub told_volume : (P : VolumeData → Type 0) (v : VolumeData) (mine : List Entry) → ToldVolume (λ u. u ≡ v) mine → P v → ToldVolume P mine
told_volume P v mine told holds = told_map (volume_map (λ u is. subst P (sym is) holds)) mine told

pub told_claim : (P : ClaimData → Type 0) (c : ClaimData) (mine : List Entry) → ToldClaim (λ d. d ≡ c) mine → P c → ToldClaim P mine
told_claim P c mine told holds = told_map (claim_map (λ d is. subst P (sym is) holds)) mine told

-- the entries up to the next one, the newest first
pub newest_first : {X : Type 0} (xs : List X) (i : ℕ) (d : X) → i < length xs → reverse (take (i + 1) xs) ≡ get_or xs i d ∷ reverse (take i xs)
newest_first xs i d h = ap reverse (take_more xs i d h) ∙ reverse-append (take i xs) (get_or xs i d ∷ [])

-- an item at a place is one of them
pub some_at : {X : Type 0} (P : X → Type 0) (xs : List X) (i : ℕ) (d : X) → i < length xs → P (get_or xs i d) → SomeOf P xs
some_at P [] i d h p = absurd (omega (arith, h))
some_at P (x ∷ xs) zero d h p = inl p
some_at P (x ∷ xs) (suc i) d h p = inr (some_at P xs i d (omega (arith, h)) p)

-- a call of the seat's own is its newest entry
pub own_mine : (e : Entry) (past : List Entry) (seat : ℕ) → e.seat ≡ seat → own seat (e ∷ past) ≡ e ∷ own seat past
own_mine e past seat is =
    let same : (e.seat == seat) ≡ true = (Decides-eqb e.seat seat).1 is in
    rw same refl

-- a call of another seat leaves its entries as they were
pub own_other : (e : Entry) (past : List Entry) (other : ℕ) → other ≢ e.seat → own other (e ∷ past) ≡ own other past
own_other e past other differs = by (e.seat == other) refl
  where
    by : (b : Bool) → (e.seat == other) ≡ b → own other (e ∷ past) ≡ own other past
    by true h = absurd (differs (sym ((Decides-eqb e.seat other).0 h)))
    by false h = rw h refl
