-- Safe of a history without imports, in five plain sentences.
-- A choice of this project, as the definitions are; their sources stand in `binder_model`.
use Rattle.std.specs.Prelude.{◌≡◌, ◌↔◌, true, List, [], ◌∷◌, Some, ⊤}
use Rattle.kube_objects.specs.declared.key.Key.{Key}
use Rattle.kube_objects.specs.declared.objects.Claim.{Claim as ClaimData}
use Rattle.kube_objects.specs.declared.objects.Object.{Object}
use Rattle.kube_objects.specs.declared.objects.Object.TheVariants.{Claim}
use Rattle.kube_objects.specs.Keys.{row_at}
use Rattle.kube_objects.specs.Bindings.{is_completed}
use Rattle.call_types.specs.declared.entry.Entry.{Entry}
use Rattle.call_types.specs.declared.setup.Setup.{Setup}
use Rattle.binder_model.specs.World.{world}
use Rattle.binder_model.specs.Told.{own}
use Rattle.binder_model.specs.Safe.{IsBoundTo, KeepsBound, KeepsMounted, ErasesWell, Safe}

-- each completed claim names a volume that is in the store, carries it and is Bound
abbrev pub CompletedAreBound : List Object → Type 0
CompletedAreBound rows = (key : Key) (claim : ClaimData) → row_at key rows ≡ Some (Claim claim) → is_completed claim ≡ true → IsBoundTo rows claim

-- no two completed claims name one volume
abbrev pub CompletedAreApart : List Object → Type 0
CompletedAreApart rows =
    (key other_key : Key) (claim other : ClaimData)
    → row_at key rows ≡ Some (Claim claim) → row_at other_key rows ≡ Some (Claim other)
    → is_completed claim ≡ true → is_completed other ≡ true → claim.volume_name ≡ other.volume_name → key ≡ other_key

-- P holds of the objects in the store at each point of the history, from before its first entry on
abbrev pub AtEachPoint : (List Object → Type 0) → Setup → List Entry → Type 0
AtEachPoint P setup [] = P (world setup []).store.rows
AtEachPoint P setup (e ∷ past) = P (world setup (e ∷ past)).store.rows × AtEachPoint P setup past

-- P holds of each entry and those before it
abbrev pub AtEachEntry : (Entry → List Entry → Type 0) → List Entry → Type 0
AtEachEntry P [] = ⊤
AtEachEntry P (e ∷ past) = P e past × AtEachEntry P past

-- the five sentences
pub record IsPlainlySafe (setup : Setup) (past : List Entry) : Type 0 where
  -- at each point each completed claim names a Bound volume that carries it
  pub bound : AtEachPoint CompletedAreBound setup past
  -- at each point no two completed claims name one volume
  pub apart : AtEachPoint CompletedAreApart setup past
  -- no entry removed a volume that was Bound just before
  pub volumes : AtEachEntry (λ e before. KeepsBound (world setup before).store.rows (world setup (e ∷ before)).store.rows) past
  -- no entry removed a claim that was mounted just before
  pub claims : AtEachEntry (λ e before. KeepsMounted (world setup before) (world setup (e ∷ before)).store.rows) past
  -- data were erased only for ended volumes with policy Delete
  pub erased : AtEachEntry (λ e before. ErasesWell (world setup before).store.rows (own e.seat before) e.request e.reply) past

-- without imports a history is safe just where the five sentences hold of it
abbrev pub SafeWithoutImports : Type 0
SafeWithoutImports = (setup : Setup) (past : List Entry) → setup.imports ≡ [] → Safe setup past ↔ IsPlainlySafe setup past
