-- The entries of each seat, so that a seat's own are found at once.
use Rattle.std.specs.Prelude.{ℕ, ◌≡◌, ◌==◌, List, [], ◌∷◌, if◌then◌else◌, unwrap_or}
use Rattle.std.specs.Ordering.{nat_cmp}
use Rattle.std.specs.BTreeMap as tree
use Rattle.call_types.specs.declared.entry.Entry.{Entry}
use Rattle.binder_model.specs.Told.{own}
use Rattle.audit_check.specs.declared.seats.Seats.{Seats}

-- the entries of the seat that were noted, the newest first
abbrev pub noted : Seats → ℕ → List Entry
noted s seat = unwrap_or (tree.get nat_cmp s.evidence seat) []

-- the entry is noted too, of its seat alone
abbrev pub IsNoted : Seats → Seats → Entry → Type 0
IsNoted old new e = (seat : ℕ) → noted new seat ≡ (if e.seat == seat then e ∷ noted old seat else noted old seat)

-- each seat's own of these entries were noted
abbrev pub AreOwn : Seats → List Entry → Type 0
AreOwn s past = (seat : ℕ) → noted s seat ≡ own seat past
