-- A search for the first row that does not pass a test.
use Rattle.std.proofs.Common.{◌≡◌, ◌≤◌, Bool, true, false, true≢false, refl, sym, ap, arith, if◌then◌else◌}
use Rattle.std.specs.declared.cmp.Ordering.{Ordering}
use Rattle.std.specs.declared.cmp.Ordering.TheVariants.{Less, Equal, Greater}
use Rattle.std.specs.Ordering.{is_eq, is_gt, is_lt, ordering_index}

abbrev pub rank : Bool → Ordering
rank b = if b then Less else Greater

pub never_equal : (b : Bool) → rank b ≡ Equal → ⊥
never_equal true e = true≢false (sym (ap is_eq e))
never_equal false e = true≢false (sym (ap is_eq e))

pub less_passes : (b : Bool) → rank b ≡ Less → b ≡ true
less_passes true e = refl
less_passes false e = absurd (true≢false (sym (ap is_lt e)))

pub greater_fails : (b : Bool) → rank b ≡ Greater → b ≡ false
greater_fails true e = absurd (true≢false (sym (ap is_gt e)))
greater_fails false e = refl

-- where the later passes, so does the earlier
pub rank_rises : (a b : Bool) → (b ≡ true → a ≡ true) → ordering_index (rank a) ≤ ordering_index (rank b)
rank_rises true b h = omega arith
rank_rises false true h = absurd (true≢false (sym (h refl)))
rank_rises false false h = omega arith
