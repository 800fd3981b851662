-- What is known of the value of a line, and of its members.
use Rattle.std.proofs.Common.{◌≡◌, ℕ, suc, ◌≤◌, List, Bool, true, false, if◌then◌else◌, Option, Some, None, IfSome, Result, Ok, Err, IfOk, refl, arith}
use Rattle.std.specs.Str.{is_utf8}
use Rattle.std.specs.declared.cmp.Ordering.{Ordering}
use Rattle.std.specs.declared.cmp.Ordering.TheVariants.{Less, Equal, Greater}
use Rattle.std.specs.Ordering.{nat_cmp, match_ordering}
use Rattle.std.specs.Cmp.Lexicographic.{slice_cmp}
use Rattle.serde_json.specs.Data.{Data, null, boolean, number, string, array, object, Members, no_members, member, depth, members_depth}
use Rattle.serde_json.specs.Find.{get_member}
use Rattle.serde_json.specs.Read.{read}
use Rattle.serde_json.proofs.Nesting.{depth-read}
use Rattle.json_text.specs.Look.{unless_null}
use Rattle.json_text.proofs.Good.{good_read}
use Rattle.json_text.proofs.ReadValues.{canonical-read}
use Rattle.object_text.specs.Reading.{is_object, value_in, value_of}
use Rattle.object_text.specs.declared.errors.ObjectError.{ObjectError}
use Rattle.object_laws.proofs.PartsRead.{IsTaken, HasTakenParts, read_taken, taken_reads, taken_parts, taken_member}
use Rattle.object_laws.proofs.Gives.{IsSound}
use Rattle.object_laws.proofs.GivesParts.{if_ok}
use Rattle.object_laws.proofs.Utf8Texts.{HasUtf8}
use Rattle.object_laws.proofs.Utf8Readers.{member_utf8}
use Rattle.object_laws.proofs.Utf8Kinds.{value_read_utf8}
use Rattle.script_laws.proofs.Read.Kept.{IsSoundLess}
use Rattle.script_lines.specs.declared.line_member.LineMember.{LineMember}
use Rattle.script_lines.specs.declared.errors.Reason.{Reason}
use Rattle.script_lines.specs.declared.errors.Reason.TheVariants.{NotObject}
use Rattle.script_lines.specs.Answers.{◌>>=◌, taken_in_line, unless}
use Rattle.script_lines.specs.MemberWords.{line_word}
use Rattle.script_lines.specs.Members.{at, needed_from, needed}
use Rattle.script_text.specs.Grammar.{object_value, line_value}

-- ---- steps of a reader

-- the next step, after a value of which the fact holds
pub step : {A B : Type 0} (P : A → Type 0) (Q : B → Type 0) (r : Result A Reason) (f : A → Result B Reason) → IfOk r P → ((a : A) → P a → IfOk (f a) Q) → IfOk (r >>= f) Q
step P Q (Ok a) f h k = k a h
step P Q (Err e) f h k = tt

-- the next step, whatever the value
pub past : {A B : Type 0} (Q : B → Type 0) (r : Result A Reason) (f : A → Result B Reason) → ((a : A) → IfOk (f a) Q) → IfOk (r >>= f) Q
past Q (Ok a) f k = k a
past Q (Err e) f k = tt

pub unless_gives : {X : Type 0} (P : X → Type 0) (b : Bool) (reason : Reason) (x : X) → (b ≡ false → P x) → IfOk (unless b reason x) P
unless_gives P true reason x h = tt
unless_gives P false reason x h = h refl

-- ---- the value of a line

-- it was read from UTF-8, and nests at most so deep
pub record WasRead (n : ℕ) (d : Data) : Type 0 where
  pub source : IsTaken n d
  pub shallow : depth d ≤ n
  pub utf8 : HasUtf8 d

pub sound : (n : ℕ) (d : Data) → n ≤ 127 → WasRead n d → IsSound d
sound n d le t none = let own = taken_reads n d le t.source in good_read d (canonical-read own.0 d own.1 none) (depth-read own.0 d own.1)

taken_value : (text : List ℕ) → IfOk (value_of text) (IsTaken 127)
taken_value text = by (is_utf8 text) (read text) refl
  where
    in_taken : (o : Option Data) → read text ≡ o → IfOk (value_in o) (IsTaken 127)
    in_taken None e = tt
    in_taken (Some d) e = read_taken text d e

    by : (b : Bool) (o : Option Data) → read text ≡ o → IfOk (value_in (if b then o else None)) (IsTaken 127)
    by true o e = in_taken o e
    by false o e = tt

pub line_was_read : (text : List ℕ) → IfOk (line_value text) (WasRead 127)
line_was_read text = by (value_of text) (taken_value text) (value_read_utf8 text)
  where
    by : (r : Result Data ObjectError) → IfOk r (IsTaken 127) → IfOk r HasUtf8 → IfOk (taken_in_line r >>= object_value) (WasRead 127)
    by (Ok d) t u = if_ok (WasRead 127) (is_object d) (Ok d) (Err NotObject)
        (λ e. let own = taken_reads 127 d (omega arith) t in record { source = t; shallow = depth-read own.0 d own.1; utf8 = u }) (λ e. tt)
    by (Err e) t u = tt

-- ---- members

abbrev IsShallow : ℕ → Data → Type 0
IsShallow n d = depth d ≤ n

member_shallow : (n : ℕ) (k : List ℕ) (ms : Members) → members_depth ms ≤ n → IfSome (get_member k ms) (IsShallow n)
member_shallow n k no_members h = tt
member_shallow n k (member l d ms) h = placed (slice_cmp nat_cmp k l) (member_shallow n k ms (omega arith))
  where
    placed : (o : Ordering) → IfSome (get_member k ms) (IsShallow n) → IfSome (match_ordering o (get_member k ms) (Some d) (get_member k ms)) (IsShallow n)
    placed Less rest = rest
    placed Equal rest = omega arith
    placed Greater rest = rest

all_known : (n : ℕ) (o : Option Data) → IfSome o (IsTaken n) → IfSome o (IsShallow n) → IfSome o HasUtf8 → IfSome o (WasRead n)
all_known n None t s u = tt
all_known n (Some d) t s u = record { source = t; shallow = s; utf8 = u }

pub at_read : (n : ℕ) (m : LineMember) (d : Data) → WasRead (suc n) d → IfSome (at m d) (WasRead n)
at_read n m d h = by d (taken_parts n d h.source) h.shallow h.utf8
  where
    by : (e : Data) → HasTakenParts n e → depth e ≤ suc n → HasUtf8 e → IfSome (at m e) (WasRead n)
    by null t s u = tt
    by (boolean b) t s u = tt
    by (number x) t s u = tt
    by (string x) t s u = tt
    by (array ds) t s u = tt
    by (object ms) t s u = all_known n (get_member (line_word m) ms) (taken_member n (line_word m) ms t) (member_shallow n (line_word m) ms (omega arith)) (member_utf8 (line_word m) ms u)

pub unless_read : (n : ℕ) (o : Option Data) → IfSome o (WasRead n) → IfSome (unless_null o) (WasRead n)
unless_read n None h = tt
unless_read n (Some null) h = tt
unless_read n (Some (boolean b)) h = h
unless_read n (Some (number x)) h = h
unless_read n (Some (string s)) h = h
unless_read n (Some (array ds)) h = h
unless_read n (Some (object ms)) h = h

pub needed_read : (n : ℕ) (m : LineMember) (d : Data) → WasRead (suc n) d → IfOk (needed m d) (WasRead n)
needed_read n m d h = by (unless_null (at m d)) (unless_read n (at m d) (at_read n m d h))
  where
    by : (o : Option Data) → IfSome o (WasRead n) → IfOk (needed_from m o) (WasRead n)
    by None k = tt
    by (Some e) k = k

-- ---- objects in a line

-- an object that nests one level less deep than a line may, where it holds no float
pub sound_less : (d : Data) → WasRead 126 d → IsSoundLess d
sound_less d h none = record { canonical = (sound 126 d (omega arith) h none).canonical; shallow = h.shallow }
