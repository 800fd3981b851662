-- Entries and lines: there and back, and those of one seat.
use Rattle.std.proofs.Common.{◌≡◌, ℕ, suc, List, [], ◌∷◌, ◌++◌, length, Bool, true, false, refl, sym, ◌∙◌, ap, if◌then◌else◌}
use Rattle.std.specs.Prelude.{◌==◌, ltb}
use Rattle.call_types.specs.declared.entry.Entry.{Entry}
use Rattle.call_types.specs.declared.reply.Reply.{Reply}
use Rattle.binder_model.specs.Told.{own}
use Rattle.seat_lock.specs.declared.keeps.Entry.{Entry as Line}
use Rattle.seat_lock.specs.History.{calls_of, longer}
use Rattle.call_types.specs.declared.ask.Ask.{Ask}
use Rattle.shared_world.specs.Lines.{entries, entry_of, lines}

pub back : (past : List Entry) → entries (lines past) ≡ past
back [] = refl
back (e ∷ past) = ap (λ l. e ∷ l) (back past)

pub as_long : (past : List Entry) → length (lines past) ≡ length past
as_long [] = refl
as_long (e ∷ past) = ap suc (as_long past)

-- the entries of one seat's lines are those of the seat
pub own_entries : (n : ℕ) (log : List (Line Ask Reply)) → entries (calls_of n log) ≡ own n (entries log)
own_entries n [] = refl
own_entries n (l ∷ log) = by (l.seat == n) (own_entries n log)
  where
    by : (b : Bool) → entries (calls_of n log) ≡ own n (entries log)
        → entries (if b then l ∷ calls_of n log else calls_of n log) ≡ (if b then entry_of l ∷ own n (entries log) else own n (entries log))
    by true rest = ap (λ es. entry_of l ∷ es) rest
    by false rest = rest

pub own_lines : (n : ℕ) (past : List Entry) → entries (calls_of n (lines past)) ≡ own n past
own_lines n past = own_entries n (lines past) ∙ ap (own n) (back past)

pub both_entries : (late older : List (Line Ask Reply)) → entries (late ++ older) ≡ entries late ++ entries older
both_entries [] older = refl
both_entries (l ∷ late) older = ap (λ es. entry_of l ∷ es) (both_entries late older)

entries_long : (log : List (Line Ask Reply)) → length (entries log) ≡ length log
entries_long [] = refl
entries_long (l ∷ log) = ap suc (entries_long log)

-- the longer of two lists has the entries of the longer one
pub longer_entries : (a b : List (Line Ask Reply)) → entries (longer a b) ≡ longer (entries a) (entries b)
longer_entries a b = by (ltb (length a) (length b)) ∙ (λ i. if ltb (sym (entries_long a) i) (sym (entries_long b) i) then entries b else entries a)
  where
    by : (test : Bool) → entries (if test then b else a) ≡ (if test then entries b else entries a)
    by true = refl
    by false = refl
