-- Keys by their places in the map: choices of this project, which no public clause names.
use Rattle.std.specs.Prelude.{ℕ, ◌<◌, zero, suc, List, [], ◌∷◌, map}
use Rattle.kube_parts.specs.declared.parts.Kind.TheVariants.{StorageClass}
use Rattle.kube_objects.specs.declared.key.Key.{Key}

-- what stands for the key at a place past the last one
abbrev pub no_key : Key
no_key = record { kind = StorageClass; namespace = []; name = [] }

-- the key at a place
abbrev pub key_there : List Key → ℕ → Key
key_there [] i = no_key
key_there (k ∷ ks) zero = k
key_there (k ∷ ks) (suc i) = key_there ks i

-- the keys at these places
abbrev pub keys_at : List Key → List ℕ → List Key
keys_at ks places = map (key_there ks) places

-- each place is below this one
abbrev pub AreBelow : ℕ → List ℕ → Type 0
AreBelow n [] = Unit {0}
AreBelow n (i ∷ is) = (i < n) × AreBelow n is
