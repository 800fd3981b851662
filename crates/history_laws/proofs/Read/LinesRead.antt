-- A printed line is read as what it says; and what is read of a line is printed as the line.
use Rattle.std.proofs.Common.{◌≡◌, ℕ, ◌≤◌, List, length, Bool, true, false, Option, Some, None, Ok, Err, if◌then◌else◌, bytes_eq, nat_lt, refl, sym, ap, ◌∙◌}
use Rattle.std.specs.Str.{is_utf8}
use Rattle.std.proofs.lemmas.Bool.{le-ltb}
use Rattle.std.proofs.lemmas.Slice.Eq.{bytes_eq-Decides}
use Rattle.serde_json.specs.Data.{Data, depth}
use Rattle.serde_json.specs.Written.{compact_text}
use Rattle.json_text.specs.Build.{Good}
use Rattle.json_text.proofs.ReadBack.{read-compact_text}
use Rattle.call_types.specs.declared.entry.Entry.{Entry}
use Rattle.call_types.specs.declared.setup.Setup.{Setup}
use Rattle.object_text.specs.Reading.{value_of}
use Rattle.history_text.specs.Entries.{entry_data, entry_line, setup_data, setup_line}
use Rattle.history_lines.specs.Answers.{◌>>=◌, taken}
use Rattle.history_lines.specs.Entries.{printed_as, entry_in, entry_of, setup_in, setup_of}
use Rattle.history_read.specs.declared.errors.HistoryReason.TheVariants.{TooLong}
use Rattle.history_read.specs.Grammar.{most_line_bytes, canonical, in_line}
use Rattle.history_laws.specs.Read.Given.{IsEntry, IsSetup, IsShallow}
use Rattle.history_laws.proofs.Read.EntriesBack.{entry_back, setup_back}
use Rattle.history_laws.proofs.Read.GoodLines.{entry_good, setup_good}

value_back : (n : ℕ) (d : Data) → Good n d → depth d ≤ 127 → is_utf8 (compact_text d) ≡ true → taken (value_of (compact_text d)) ≡ Some d
value_back n d good shallow utf8 = rw (utf8, read-compact_text d good.canonical shallow) refl

same_bytes : (s : List ℕ) → bytes_eq s s ≡ true
same_bytes s = (bytes_eq-Decides s s).1 refl

pub entry_read : (e : Entry) → IsEntry e → IsShallow e → is_utf8 (entry_line e) ≡ true → entry_of (entry_line e) ≡ Some e
unfolding entry_of entry_line
entry_read e is shallow utf8 = rw (value_back 131 (entry_data e) (entry_good e is) shallow utf8, entry_back e is, same_bytes (compact_text (entry_data e))) refl

pub setup_read : (s : Setup) → IsSetup s → depth (setup_data s) ≤ 127 → is_utf8 (setup_line s) ≡ true → setup_of (setup_line s) ≡ Some s
unfolding setup_of setup_line
setup_read s is shallow utf8 = rw (value_back 130 (setup_data s) (setup_good s is) shallow utf8, setup_back s is, same_bytes (compact_text (setup_data s))) refl

pub line_in : {X : Type 0} (of : List ℕ → Option X) (line : List ℕ) (x : X) → length line ≤ most_line_bytes → of line ≡ Some x → in_line of line ≡ Ok x
line_in of line x short is = rw (le-ltb most_line_bytes (length line) short) (ap canonical is)

-- ---- what is read is printed as the line

printed : {X : Type 0} (line_of : X → List ℕ) (line : List ℕ) (o : Option X) (x : X) → (o >>= λ y. printed_as line_of line y) ≡ Some x → line_of x ≡ line
printed line_of line None x h = absurd (cc)
printed line_of line (Some y) x h = by (bytes_eq (line_of y) line) refl h
  where
    by : (b : Bool) → bytes_eq (line_of y) line ≡ b → (if b then Some y else None) ≡ Some x → line_of x ≡ line
    by true same is = let e : y ≡ x = cc in sym (ap line_of e) ∙ (bytes_eq-Decides (line_of y) line).0 same
    by false same is = absurd (cc)

joined_steps : {X : Type 0} (o : Option Data) (read : Data → Option X) (check : X → Option X) → (o >>= λ d. read d >>= check) ≡ ((o >>= read) >>= check)
joined_steps None read check = refl
joined_steps (Some d) read check = refl

pub entry_printed : (line : List ℕ) (e : Entry) → entry_of line ≡ Some e → entry_line e ≡ line
unfolding entry_of
entry_printed line e h = printed entry_line line (taken (value_of line) >>= entry_in) e (sym (joined_steps (taken (value_of line)) entry_in (printed_as entry_line line)) ∙ h)

pub setup_printed : (line : List ℕ) (s : Setup) → setup_of line ≡ Some s → setup_line s ≡ line
unfolding setup_of
setup_printed line s h = printed setup_line line (taken (value_of line) >>= setup_in) s (sym (joined_steps (taken (value_of line)) setup_in (printed_as setup_line line)) ∙ h)

pub in_line_gives : {X : Type 0} (of : List ℕ → Option X) (line : List ℕ) (x : X) → in_line of line ≡ Ok x → of line ≡ Some x
in_line_gives {X = X} of line x h = by (nat_lt most_line_bytes (length line)) (of line) h
  where
    by : (b : Bool) (o : Option X) → (if b then Err TooLong else canonical o) ≡ Ok x → o ≡ Some x
    by true o is = absurd (cc)
    by false None is = absurd (cc)
    by false (Some y) is = let e : y ≡ x = cc in ap Some e
