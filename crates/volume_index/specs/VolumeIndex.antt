-- What an index of volumes holds, and what volumes it stands for. A choice of this project.
use Rattle.std.specs.Prelude.{◌≡◌, ◌↔◌, Bool, true, false, ◌&&◌, not, List, [], ◌∷◌, Option, Some, None, filter, is_none, is_some}
use Rattle.std.specs.List.{Contains}
use Rattle.kube_objects.specs.declared.objects.Volume.{Volume as VolumeData}
use Rattle.kube_objects.specs.declared.objects.Object.{Object}
use Rattle.kube_objects.specs.declared.objects.Object.TheVariants.{Class, Node, Volume, Claim, Pod}
use Rattle.kube_objects.specs.Bindings.{is_available}
use Rattle.kube_objects.specs.Keys.{key_of, same_key}

-- all volumes and the free ones, in the order of their sizes, and those that refer to a claim in the order of claims
pub record Index : Type 0 where
  pub all : List VolumeData
  pub free : List VolumeData
  pub owned : List VolumeData

-- the volume is Available, and no claim is named in it
abbrev pub is_free : VolumeData → Bool
is_free v = is_available v.phase && is_none v.claim_ref

-- a claim is named in the volume
abbrev pub is_owned : VolumeData → Bool
is_owned v = is_some v.claim_ref

-- it is any volume
abbrev pub is_any : VolumeData → Bool
is_any v = true

-- two volumes have one name
abbrev pub same_name : VolumeData → VolumeData → Bool
same_name v u = same_key (key_of (Volume v)) (key_of (Volume u))

-- the volumes without the one of this volume's name
abbrev pub others : VolumeData → List VolumeData → List VolumeData
others v vs = filter (λ u. not (same_name u v)) vs

-- no volume has this volume's name
abbrev pub IsNew : VolumeData → List VolumeData → Type 0
IsNew v vs = (u : VolumeData) → Contains vs u → same_name u v ≡ false

-- each name is that of one volume at most
abbrev pub AreApart : List VolumeData → Type 0
AreApart vs = (v u : VolumeData) → Contains vs v → Contains vs u → same_name v u ≡ true → v ≡ u

-- a list holds those of the volumes that pass the test
abbrev pub HoldsThose : (VolumeData → Bool) → List VolumeData → List VolumeData → Type 0
HoldsThose test volumes held = (v : VolumeData) → Contains held v ↔ (Contains volumes v × (test v ≡ true))

-- the index holds all of the volumes, those that are free, and those that refer to a claim
pub record StandsFor (index : Index) (volumes : List VolumeData) : Type 0 where
  pub all : HoldsThose is_any volumes index.all
  pub free : HoldsThose is_free volumes index.free
  pub owned : HoldsThose is_owned volumes index.owned

-- the volumes among objects
abbrev pub volumes_in : List Object → List VolumeData
volumes_in [] = []
volumes_in (Volume v ∷ os) = v ∷ volumes_in os
volumes_in (Class x ∷ os) = volumes_in os
volumes_in (Node x ∷ os) = volumes_in os
volumes_in (Claim x ∷ os) = volumes_in os
volumes_in (Pod x ∷ os) = volumes_in os

-- an object that is a volume
abbrev pub as_volume : Option Object → Option VolumeData
as_volume (Some (Volume v)) = Some v
as_volume _ = None
