-- A list of so many elements is the list of its elements by place, also without one of them.
use Rattle.std.proofs.Common.{◌≡◌, List, [], ◌∷◌, ◌++◌, length, slice_index_or, refl, arith}
use Rattle.settle_check.specs.DueTables.{without}

pub nine_without_fifth : {X : Type 0} (d : X) (xs more : List X) → length xs ≡ 9 → length more ≡ 3
    → (slice_index_or xs 0 d ∷ slice_index_or xs 1 d ∷ slice_index_or xs 2 d ∷ slice_index_or xs 3 d ∷ slice_index_or xs 5 d ∷ slice_index_or xs 6 d
    ∷ slice_index_or xs 7 d ∷ slice_index_or xs 8 d ∷ slice_index_or more 0 d ∷ slice_index_or more 1 d ∷ slice_index_or more 2 d ∷ [])
    ≡ without 4 xs ++ more
nine_without_fifth d (a ∷ b ∷ c ∷ e ∷ f ∷ g ∷ h ∷ i ∷ j ∷ []) (k ∷ l ∷ m ∷ []) whole three = refl
nine_without_fifth d xs more whole three = absurd (omega arith)

pub twelve_without_eighth : {X : Type 0} (d : X) (xs : List X) → length xs ≡ 12
    → (slice_index_or xs 0 d ∷ slice_index_or xs 1 d ∷ slice_index_or xs 2 d ∷ slice_index_or xs 3 d ∷ slice_index_or xs 4 d ∷ slice_index_or xs 5 d
    ∷ slice_index_or xs 6 d ∷ slice_index_or xs 8 d ∷ slice_index_or xs 9 d ∷ slice_index_or xs 10 d ∷ slice_index_or xs 11 d ∷ [])
    ≡ without 7 xs
twelve_without_eighth d (a ∷ b ∷ c ∷ e ∷ f ∷ g ∷ h ∷ i ∷ j ∷ k ∷ l ∷ m ∷ []) whole = refl
twelve_without_eighth d xs whole = absurd (omega arith)
