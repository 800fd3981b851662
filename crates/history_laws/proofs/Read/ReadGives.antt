-- What is read of a text is what a text can give.
use Rattle.std.proofs.Common.{◌≡◌, ℕ, ◌+◌, ◌≤◌, List, [], ◌∷◌, ◌++◌, Bool, true, false, ◌&&◌, if◌then◌else◌, Option, Some, None, IfSome, Result, Ok, Err, IfOk, codes, bytes_eq, refl, ap, ◌∙◌, subst}
use Rattle.std.specs.List.{All}
use Rattle.std.specs.Str.{is_utf8}
use Rattle.std.proofs.lemmas.List.Elements.{All-nil, All-cons, All-append, All-head, All-tail}
use Rattle.serde_json.specs.Data.{Data, depth}
use Rattle.serde_json.specs.Read.{read}
use Rattle.kube_objects.specs.declared.objects.Object.{Object}
use Rattle.call_types.specs.declared.entry.Entry.{Entry}
use Rattle.call_types.specs.declared.setup.Pool.{Pool}
use Rattle.call_types.specs.declared.setup.Setup.{Setup}
use Rattle.object_text.specs.Reading.{value_in, value_of}
use Rattle.object_laws.specs.Given.{IsGivenObject}
use Rattle.object_laws.proofs.GivesParts.{of_ok}
use Rattle.object_laws.proofs.PartsRead.{read_taken}
use Rattle.history_text.specs.Entries.{entry_data, entry_line, setup_data, setup_line}
use Rattle.history_lines.specs.Answers.{◌>>=◌, taken}
use Rattle.history_lines.specs.Members.{Look, look_in, text_at, number_in, number_at, flag_at, object_in, list_at, some_list_at, some_topology_at}
use Rattle.history_lines.specs.Requests.{request_in}
use Rattle.history_lines.specs.Replies.{reply_in}
use Rattle.history_lines.specs.Entries.{printed_as, asked_at, seat_kind_at, replied_at, entry_in, entry_of, pool_in, rise, imports_pass, parts_with, parts_in, setup_in, setup_of}
use Rattle.history_lines.proofs.Imports.{read_passes}
use Rattle.history_read.specs.declared.errors.HistoryReason.{HistoryReason}
use Rattle.history_read.specs.declared.errors.BadHistoryLine.{BadHistoryLine}
use Rattle.call_types.specs.declared.histories.History.{History}
use Rattle.history_read.specs.Grammar.{lines_of, in_line, at_line, entries_from, with_setup, history_in, history_of}
use Rattle.history_laws.specs.Read.Given.{IsNumber, IsRequest, IsReply, IsEntry, IsPool, IsSetup, IsTextHistory, IsShallow, AreShallow}
use Rattle.history_laws.specs.Read.Laws.{ReadGives, ReadIsOnly}
use Rattle.json_text.proofs.Deep.{read_shallow}
use Rattle.history_laws.proofs.Read.GoodLines.{entry_good, good_setup}
use Rattle.history_laws.proofs.Read.LinesRead.{entry_printed, setup_printed, in_line_gives}
use Rattle.history_laws.proofs.Read.OneHistory.{one_history}
use Rattle.history_laws.proofs.Read.Printed.{read_is_printed}
use Rattle.history_laws.proofs.Read.ReadParts.{step, past, IsRead, looks, number_in_given, number_at_given, object_in_given, list_at_given, some_list_given}
use Rattle.history_laws.proofs.Read.ReadCalls.{request_given, reply_given}

-- ---- the value of a line

value_read : (line : List ℕ) → IfSome (taken (value_of line)) IsRead
value_read line = by (is_utf8 line) (read line) refl
  where
    by : (b : Bool) (o : Option Data) → read line ≡ o → IfSome (taken (value_in (if b then o else None))) IsRead
    by true None e = tt
    by true (Some d) e = read_taken line d e
    by false o e = tt

-- a line that gives something was read
was_read : {X : Type 0} (line : List ℕ) (f : Data → Option X) (x : X) → (taken (value_of line) >>= f) ≡ Some x → (d : Data) × (read line ≡ Some d)
was_read {X = X} line f x h = by (is_utf8 line) (read line) refl h
  where
    by : (b : Bool) (o : Option Data) → read line ≡ o → (taken (value_in (if b then o else None)) >>= f) ≡ Some x → (d : Data) × (read line ≡ Some d)
    by true None e k = absurd (cc)
    by true (Some d) e k = (d, e)
    by false o e k = absurd (cc)

printed_given : {X : Type 0} (line_of : X → List ℕ) (line : List ℕ) (P : X → Type 0) (x : X) → P x → IfSome (printed_as line_of line x) P
printed_given {X = X} line_of line P x h = by (bytes_eq (line_of x) line)
  where
    by : (b : Bool) → IfSome (if b then Some x else None) P
    by true = h
    by false = tt

of_some : {X : Type 0} (P : X → Type 0) (o : Option X) (x : X) → IfSome o P → o ≡ Some x → P x
of_some {X = X} P o x h e = subst (λ (p : Option X). IfSome p P) e h

-- ---- entries

parts_given : (d : Data) → IsRead d → IfSome (entry_in d) IsEntry
unfolding entry_in
parts_given d t =
    let m : Look = look_in d in
    step IsRequest IsEntry (asked_at m) _ (step IsRead IsRequest (m (codes "ask")) request_in (looks d t (codes "ask")) request_given) (λ r is.
    past IsEntry (seat_kind_at m) _ (λ kind.
    step IsReply IsEntry (replied_at m) _ (step IsRead IsReply (m (codes "reply")) reply_in (looks d t (codes "reply")) reply_given) (λ p given.
    step IsNumber IsEntry (number_at (codes "seat") m) _ (number_at_given (codes "seat") m (looks d t)) (λ n number.
    past IsEntry (flag_at (codes "told") m) _ (λ told. record { seat = number; request = is; reply = given })))))

entry_has : (line : List ℕ) → IfSome (entry_of line) IsEntry
unfolding entry_of
entry_has line =
    step IsRead IsEntry (taken (value_of line)) _ (value_read line) (λ d t.
    step IsEntry IsEntry (entry_in d) _ (parts_given d t) (λ e has. printed_given entry_line line IsEntry e has))

entry_was_read : (line : List ℕ) (e : Entry) → entry_of line ≡ Some e → (d : Data) × (read line ≡ Some d)
unfolding entry_of
entry_was_read line e h = was_read line (λ d. entry_in d >>= λ x. printed_as entry_line line x) e h

-- an entry that a text can give, and that nests no deeper than is read
abbrev IsTold : Entry → Type 0
IsTold e = IsEntry e × IsShallow e

entry_given : (line : List ℕ) (e : Entry) → entry_of line ≡ Some e → IsTold e
unfolding entry_line
entry_given line e h =
    let is : IsEntry e = of_some IsEntry (entry_of line) e (entry_has line) h in
    let good = entry_good e is in
    let own = entry_was_read line e h in
    (is, read_shallow (entry_data e) own.0 good.canonical (ap read (entry_printed line e h) ∙ own.1))

-- ---- setups

-- a setup, whatever its levels
record HasLists (s : Setup) : Type 0 where
  pub pools : All IsPool s.pools
  pub faults : All IsNumber s.faults
  pub rising : rise s.faults ≡ true
  pub imports : All IsGivenObject s.imports

pool_given : (d : Data) → IsRead d → IfSome (pool_in d) IsPool
unfolding pool_in
pool_given d t =
    let m : Look = look_in d in
    step IsNumber IsPool (number_at (codes "bytes") m) _ (number_at_given (codes "bytes") m (looks d t)) (λ n number.
    past IsPool (text_at (codes "name") m) _ (λ name. past IsPool (text_at (codes "provisioner") m) _ (λ provisioner. past IsPool (some_topology_at m) _ (λ topology. number))))

lists_with : (pools : List Pool) (faults : List ℕ) (imports : List Object) → All IsPool pools → All IsNumber faults → All IsGivenObject imports → IfSome (parts_with pools faults imports) HasLists
lists_with pools faults imports a b c = by (rise faults) (imports_pass imports) refl
  where
    by : (r p : Bool) → rise faults ≡ r → IfSome (if r && p then Some (record { pools = pools; faults = faults; imports = imports }) else None) HasLists
    by true true e = record { pools = a; faults = b; rising = e; imports = c }
    by true false e = tt
    by false p e = tt

lists_given : (d : Data) → IsRead d → IfSome (parts_in d) HasLists
unfolding parts_in
lists_given d t =
    let m : Look = look_in d in
    step (All IsNumber) HasLists (list_at number_in (codes "faults") m) _ (list_at_given number_in IsNumber number_in_given (codes "faults") m (looks d t)) (λ faults b.
    step (All IsGivenObject) HasLists (some_list_at object_in (codes "imports") m) _ (some_list_given object_in IsGivenObject object_in_given (codes "imports") m (looks d t)) (λ imports c.
    step (All IsPool) HasLists (list_at pool_in (codes "pools") m) _ (list_at_given pool_in IsPool pool_given (codes "pools") m (looks d t)) (λ pools a.
    lists_with pools faults imports a b c)))

setup_has : (line : List ℕ) → IfSome (setup_of line) HasLists
unfolding setup_of setup_in
setup_has line =
    step IsRead HasLists (taken (value_of line)) _ (value_read line) (λ d t.
    step HasLists HasLists (setup_in d) _ (step IsRead HasLists (look_in d (codes "setup")) parts_in (looks d t (codes "setup")) lists_given) (λ s has. printed_given setup_line line HasLists s has))

setup_was_read : (line : List ℕ) (s : Setup) → setup_of line ≡ Some s → (d : Data) × (read line ≡ Some d)
unfolding setup_of
setup_was_read line s h = was_read line (λ d. setup_in d >>= λ x. printed_as setup_line line x) s h

setup_given : (line : List ℕ) (s : Setup) → setup_of line ≡ Some s → IsSetup s × (depth (setup_data s) ≤ 127)
unfolding setup_line
setup_given line s h =
    let has : HasLists s = of_some HasLists (setup_of line) s (setup_has line) h in
    let good = good_setup s has.pools has.faults has.imports in
    let own = setup_was_read line s h in (
      record { pools = has.pools; faults = has.faults; rising = has.rising; imports = has.imports; passing = read_passes line (Ok s) h },
      read_shallow (setup_data s) own.0 good.canonical (ap read (setup_printed line s h) ∙ own.1),
    )

-- ---- the text

entries_given : (n : ℕ) (lines : List (List ℕ)) (found : List Entry) → All IsTold found → IfOk (entries_from n lines found) (All IsTold)
entries_given n [] found h = tt
entries_given n (line ∷ lines) found h =
    by (bytes_eq line (codes "end")) (in_line entry_of line) refl
    (λ e is. entries_given (n + 1) lines (found ++ e ∷ []) (All-append IsTold found (e ∷ []) h (All-cons IsTold e [] is (All-nil IsTold))))
  where
    by : (b : Bool) (r : Result Entry HistoryReason) → in_line entry_of line ≡ r
        → ((e : Entry) → IsTold e → IfOk (entries_from (n + 1) lines (found ++ e ∷ [])) (All IsTold))
        → IfOk (if b then Ok found else at_line n r (λ e. entries_from (n + 1) lines (found ++ e ∷ []))) (All IsTold)
    by true r is more = h
    by false (Ok e) is more = more e (entry_given line e (in_line_gives entry_of line e is))
    by false (Err reason) is more = tt

are_entries : (es : List Entry) → All IsTold es → All IsEntry es
are_entries [] h = All-nil IsEntry
are_entries (e ∷ es) h = let first = All-head IsTold e es h in All-cons IsEntry e es first.0 (are_entries es (All-tail IsTold e es h))

are_shallow : (es : List Entry) → All IsTold es → All IsShallow es
are_shallow [] h = All-nil IsShallow
are_shallow (e ∷ es) h = let first = All-head IsTold e es h in All-cons IsShallow e es first.1 (are_shallow es (All-tail IsTold e es h))

abbrev IsOne : History → Type 0
IsOne h = IsTextHistory h.setup h.entries × AreShallow h.setup h.entries

history_given : (lines : List (List ℕ)) → IfOk (history_in lines) IsOne
history_given [] = tt
history_given (line ∷ lines) = by (in_line setup_of line) refl (entries_from 2 lines []) (entries_given 2 lines [] (All-nil IsTold))
  where
    by : (r : Result Setup HistoryReason) → in_line setup_of line ≡ r → (o : Result (List Entry) BadHistoryLine) → IfOk o (All IsTold) → IfOk (at_line 1 r (λ s. with_setup s o)) IsOne
    by (Ok s) is (Ok es) h =
        let own = setup_given line s (in_line_gives setup_of line s is) in
        (record { setup = own.0; entries = are_entries es h }, record { setup = own.1; entries = are_shallow es h })
    by (Ok s) is (Err b) h = tt
    by (Err reason) is o h = tt

pub read_gives : ReadGives
read_gives text h is = of_ok IsOne (history_of text) h (history_given (lines_of text)) is

pub read_is_only : ReadIsOnly
read_is_only text h s es read is has = let own = read_gives text h read in one_history text s h.setup es h.entries is own.0 has (read_is_printed text h read)
