-- A fact of each list of k conditions, by its conditions one after the other.
use Rattle.std.proofs.Common.{ℕ, zero, suc, ◌≡◌, Bool, List, [], ◌∷◌, length, arith}

abbrev pub EachList : ℕ → (List Bool → Type 0) → Type 0
EachList zero P = P []
EachList (suc k) P = (b : Bool) → EachList k (λ cs. P (b ∷ cs))

pub each_list : (k : ℕ) (P : List Bool → Type 0) → EachList k P → (cs : List Bool) → length cs ≡ k → P cs
each_list zero P h [] whole = h
each_list zero P h (c ∷ cs) whole = absurd (omega arith)
each_list (suc k) P h [] whole = absurd (omega arith)
each_list (suc k) P h (c ∷ cs) whole = each_list k (λ ds. P (c ∷ ds)) (h c) cs (omega arith)
