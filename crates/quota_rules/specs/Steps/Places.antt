-- Where a claim stands among those that are counted. A choice of this project.
use Rattle.std.specs.Prelude.{ℕ, ◌+◌, List, [], ◌∷◌, if◌then◌else◌}
use Rattle.kube_parts.specs.declared.uid.Uid.{Uid}
use Rattle.quota_rules.specs.declared.counted.Counted.{Counted}
use Rattle.quota_rules.specs.Counting.{is_claim_of}

-- the place of the first claim of the UID in the namespace, or how many are counted where none is
abbrev pub place_of_uid : List ℕ → Uid → List Counted → ℕ
place_of_uid namespace uid [] = 0
place_of_uid namespace uid (x ∷ xs) = if is_claim_of namespace uid x then 0 else 1 + place_of_uid namespace uid xs
