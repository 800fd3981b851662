-- No refusal is want of memory.
use Rattle.std.proofs.Common.{◌≡◌, ℕ, Bool, true, false, List, Option, Some, None, Result, Err}
use Rattle.quantity_text.specs.declared.errors.AmountError.{AmountError}
use Rattle.quantity_text.specs.declared.errors.AmountError.TheVariants.{OutOfMemory}
use Rattle.quantity_text.specs.declared.scales.Scale.{Scale}
use Rattle.quantity_text.specs.Quantity.{parts_of, refuse, scale_of, scaled, scaled_by, unsigned_amount}

abbrev pub IsKnown : Result ℕ AmountError → Type 0
IsKnown r = r ≡ Err OutOfMemory → ⊥

refused : (b : Bool) (e : AmountError) (next : Result ℕ AmountError) → (e ≡ OutOfMemory → ⊥) → IsKnown next → IsKnown (refuse b e next)
unfolding refuse
refused true e next other rest is = let same : e ≡ OutOfMemory = cc in other same
refused false e next other rest is = rest is

scaled_known : (whole fraction : List ℕ) (scale : Scale) → IsKnown (scaled whole fraction scale)
unfolding scaled
scaled_known whole fraction scale = refused _ _ _ (λ e. cc) (refused _ _ _ (λ e. cc) (refused _ _ _ (λ e. cc) (λ e. cc)))

scaled_by_known : (o : Option Scale) (at : ℕ) (whole fraction : List ℕ) → IsKnown (scaled_by o at whole fraction)
scaled_by_known None at whole fraction = λ e. cc
scaled_by_known (Some scale) at whole fraction = scaled_known whole fraction scale

pub unsigned_known : (at : ℕ) (text : List ℕ) → IsKnown (unsigned_amount at text)
unfolding unsigned_amount
unsigned_known at text = refused _ _ _ (λ e. cc) (scaled_by_known (scale_of (parts_of text).suffix) _ _ _)
