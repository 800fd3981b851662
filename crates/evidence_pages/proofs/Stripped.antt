-- A text without what stands before it.
use Rattle.std.proofs.Common.{◌≡◌, ℕ, List, ◌++◌, Option, Some, None, sym, ◌∙◌, ap}
use Rattle.std.specs.Prelude.{MatchOption}
use Rattle.std.specs.Str.Pattern.{FindsTextPrefix, StripsPrefix}
use Rattle.std.specs.Borrow.{Bor}

pub stripped : (before text : List ℕ) (rest : Option (Bor (List ℕ))) → MatchOption rest (FindsTextPrefix before text None) (λ x. StripsPrefix (FindsTextPrefix before) text x.now)
    → MatchOption rest ((other : List ℕ) → text ≡ before ++ other → ⊥) (λ x. text ≡ before ++ x.now)
stripped before text None lacks = lacks
stripped before text (Some x) strips = strips.1.1 ∙ ap (λ l. before ++ l) (sym strips.2)
