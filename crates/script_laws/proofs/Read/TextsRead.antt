-- The text of a script is read, line by line, as the script.
use Rattle.std.proofs.Common.{
  ◌≡◌,
  ℕ,
  suc,
  ◌+◌,
  ◌<◌,
  ◌≤◌,
  List,
  [],
  ◌∷◌,
  ◌++◌,
  length,
  map,
  false,
  None,
  Result,
  Ok,
  refl,
  sym,
  ap,
  ◌∙◌,
  subst,
  append_assoc,
  append-nil,
  arith,
  length-append,
  eqb,
}
use Rattle.std.specs.List.{All}
use Rattle.std.specs.Ordering.{nat_cmp}
use Rattle.std.specs.declared.cmp.Ordering.TheVariants.{Less}
use Rattle.std.proofs.lemmas.Bool.{le-ltb, ne_eqb}
use Rattle.std.proofs.lemmas.Cmp.{ranked}
use Rattle.std.proofs.lemmas.List.Elements.{All-nil, All-cons, All-head, All-tail, All-append}
use Rattle.std.proofs.lemmas.List.Splits.{slice_split_at}
use Rattle.json_text.specs.Canonical.{IsLine}
use Rattle.json_text.proofs.Lines.{text_line}
use Rattle.plain_data.specs.Pairs.{Pair}
use Rattle.plain_data.specs.Rows.{put, IsAfter}
use Rattle.quantity_text.specs.Quantity.{amount_of}
use Rattle.kube_objects.specs.declared.objects.Object.{Object}
use Rattle.call_types.specs.declared.setup.Pool.{Pool}
use Rattle.history_text.proofs.Joined.{joined, is_feed, no_feed, with_joined}
use Rattle.script_lines.specs.declared.errors.BadLine.{BadLine}
use Rattle.script_lines.specs.Members.{most_call, is_given}
use Rattle.script_text.specs.declared.script.Line.{Line}
use Rattle.script_text.specs.declared.script.Meaning.TheVariants as meanings
use Rattle.script_text.specs.declared.script.Script.{Script}
use Rattle.script_text.specs.Said.{Said, nothing_said, and_said, and_node, created_node, imported_node, has_begun, agents_after, imported_after, agents_of, nodes_of, numbered_of}
use Rattle.script_text.specs.Steps.Indexed.{AreFaults}
use Rattle.script_text.specs.Grammar.{
  most_lines,
  most_pools,
  most_faults,
  line_limit,
  object_limit,
  and_line,
  agents_beside,
  agents_in,
  lines_of,
  at_line,
  said_from,
  said_in,
  numbered_from,
  read_numbered_of,
  script_from,
}
use Rattle.script_print.specs.Printing.{line_data, line_text, pool_data, pool_text, pool_lines, fault_data, fault_text, import_data, import_text, script_lines, script_text}
use Rattle.script_laws.specs.Read.Given.{IsCount, IsLineAfter, IsLineObject}
use Rattle.script_laws.specs.Read.Limits.{IsShort, IsShortObject, LineHasShortObject, ScriptFits}
use Rattle.script_laws.specs.Read.Scripts.{IsImportAfter, AreImportsAfter, AreLinesAfter, AreSized, IsScript}
use Rattle.script_laws.specs.Read.Laws.{IsText, ScriptIsRead}
use Rattle.script_laws.proofs.Read.LinesBack.{line_means, pool_means, fault_means, import_means}
use Rattle.script_laws.proofs.Read.LinesGood.{line_good, pool_good, fault_good, import_good}
use Rattle.script_laws.proofs.Read.LinesRead.{IsRead, line_read, none_read, blank_node}
use Rattle.script_laws.proofs.Read.Lengths.{lines_objects, script_short}
use Rattle.script_laws.proofs.Read.Agents.{own_node, pool_node, fault_node, import_node}

-- ---- lines that can be read

-- within the limits of what is read
record Fits (s : Script) : Type 0 where
  pub lines : All IsShort (script_lines s)
  pub imports : All IsShortObject s.setup.imports
  pub objects : All LineHasShortObject s.lines

fits_all : (s : Script) → IsScript s → ScriptFits s → Fits s
fits_all s is h = record { lines = script_short s (agents_of s.setup.imports s.lines) is.lines is.fault_numbers h; imports = h.imports; objects = lines_objects s.lines h.lines }

pub record IsFine (text : List ℕ) : Type 0 where
  pub short : IsShort text
  pub utf8 : IsText text

fine_lines : (texts : List (List ℕ)) → All IsShort texts → All IsText texts → All IsFine texts
fine_lines [] h k = All-nil IsFine
fine_lines (t ∷ ts) h k =
    All-cons IsFine t ts (record { short = All-head IsShort t ts h; utf8 = All-head IsText t ts k }) (fine_lines ts (All-tail IsShort t ts h) (All-tail IsText t ts k))

fine_first : (xs ys : List (List ℕ)) → All IsFine (xs ++ ys) → All IsFine xs
fine_first [] ys h = All-nil IsFine
fine_first (x ∷ xs) ys h = All-cons IsFine x xs (All-head IsFine x (xs ++ ys) h) (fine_first xs ys (All-tail IsFine x (xs ++ ys) h))

fine_second : (xs ys : List (List ℕ)) → All IsFine (xs ++ ys) → All IsFine ys
fine_second [] ys h = h
fine_second (x ∷ xs) ys h = fine_second xs ys (All-tail IsFine x (xs ++ ys) h)

pool_is_read : (pool : Pool) (size : List ℕ) → IsFine (pool_text pool size) → IsRead (pool_data pool size)
unfolding pool_text pool_data
pool_is_read pool size fine = record { members = refl; good = pool_good pool size; utf8 = fine.utf8; short = fine.short }

fault_is_read : (call : ℕ) → IsCount most_call call → IsFine (fault_text call) → IsRead (fault_data call)
unfolding fault_text fault_data
fault_is_read call is fine = record { members = refl; good = fault_good call is; utf8 = fine.utf8; short = fine.short }

import_is_read : (o : Object) → IsLineObject o → IsFine (import_text o) → IsRead (import_data o)
unfolding import_text import_data
import_is_read o is fine = record { members = refl; good = import_good o is; utf8 = fine.utf8; short = fine.short }

line_is_read : (agents : List Pair) (before : List Line) (line : Line) → IsLineAfter agents before line → IsFine (line_text line) → IsRead (line_data line)
unfolding line_text line_data
line_is_read agents before line is fine = record { members = refl; good = line_good agents before line is; utf8 = fine.utf8; short = fine.short }

-- ---- the number of the next line

abbrev past : {X : Type 0} → ℕ → List X → ℕ
past n [] = n
past n (x ∷ xs) = past (n + 1) xs

past_is : {X : Type 0} (n : ℕ) (xs : List X) → past n xs ≡ n + length xs
past_is n [] = omega arith
past_is n (x ∷ xs) = let e : (n + 1) + length xs ≡ n + suc (length xs) = omega arith in past_is (n + 1) xs ∙ e

abbrev next_lines : List Pair → ℕ → List (List ℕ) → Said → Result Said BadLine
next_lines agents n lines said = said_from agents n lines said

go_on : (agents : List Pair) (n : ℕ) (line : List ℕ) (lines : List (List ℕ)) (said now : Said) → and_line agents said n line ≡ Ok now
    → said_from agents n (line ∷ lines) said ≡ said_from agents (n + 1) lines now
go_on agents n line lines said now e = ap (λ r. at_line n r (λ s. said_from agents (n + 1) lines s)) e

-- ---- pools

abbrev and_pools : ℕ → Said → List Pool → List (List ℕ) → Said
and_pools n said [] sizes = said
and_pools n said (pool ∷ pools) [] = said
and_pools n said (pool ∷ pools) (size ∷ sizes) = and_pools (n + 1) (and_said said n (meanings.Pool pool size)) pools sizes

pool_step : (agents : List Pair) (said : Said) (n : ℕ) (pool : Pool) (size : List ℕ) → amount_of size ≡ Ok pool.bytes → IsFine (pool_text pool size)
    → n ≤ most_lines → length said.pools + 1 ≤ most_pools
    → and_line agents said n (pool_text pool size) ≡ Ok (and_said said n (meanings.Pool pool size))
unfolding pool_text
pool_step agents said n pool size is fine few room =
    let le : length (said.pools ++ pool ∷ []) ≤ most_pools = omega (arith, length-append said.pools (pool ∷ [])) in
    line_read agents said n (pool_data pool size) (meanings.Pool pool size) (pool_is_read pool size fine) few (pool_means agents said pool size is)
    (rw (le-ltb most_pools (length (said.pools ++ pool ∷ [])) le) refl)

pools_read : (agents : List Pair) (pools : List Pool) (sizes rest : List (List ℕ)) (n : ℕ) (said : Said) → AreSized pools sizes
    → All IsFine (pool_lines pools sizes) → n + length pools ≤ 4097 → length said.pools + length pools ≤ most_pools
    → said_from agents n (pool_lines pools sizes ++ rest) said ≡ said_from agents (past n pools) rest (and_pools n said pools sizes)
pools_read agents [] sizes rest n said h fine few room = refl
pools_read agents (pool ∷ pools) [] rest n said h fine few room = absurd h
pools_read agents (pool ∷ pools) (size ∷ sizes) rest n said h fine few room =
    go_on agents n (pool_text pool size) (pool_lines pools sizes ++ rest) said _
    (pool_step agents said n pool size h.0 (All-head IsFine (pool_text pool size) (pool_lines pools sizes) fine) (omega arith) (omega arith))
    ∙ pools_read agents pools sizes rest (n + 1) (and_said said n (meanings.Pool pool size)) h.1
    (All-tail IsFine (pool_text pool size) (pool_lines pools sizes) fine) (omega arith) (omega (arith, length-append said.pools (pool ∷ [])))

record SamePools (a b : Said) (pools : List Pool) (sizes : List (List ℕ)) : Type 0 where
  pub pools_are : b.pools ≡ a.pools ++ pools
  pub sizes_are : b.sizes ≡ a.sizes ++ sizes
  pub faults_are : b.faults ≡ a.faults
  pub imports_are : b.imports ≡ a.imports
  pub lines_are : b.lines ≡ a.lines

pools_kept : (pools : List Pool) (sizes : List (List ℕ)) (n : ℕ) (said : Said) → AreSized pools sizes → SamePools said (and_pools n said pools sizes) pools sizes
pools_kept [] [] n said h = record { pools_are = sym (append-nil said.pools); sizes_are = sym (append-nil said.sizes); faults_are = refl; imports_are = refl; lines_are = refl }
pools_kept [] (size ∷ sizes) n said h = absurd h
pools_kept (pool ∷ pools) [] n said h = absurd h
pools_kept (pool ∷ pools) (size ∷ sizes) n said h =
    let k = pools_kept pools sizes (n + 1) (and_said said n (meanings.Pool pool size)) h.1 in
    record {
      pools_are = k.pools_are ∙ append_assoc said.pools (pool ∷ []) pools;
      sizes_are = k.sizes_are
          ∙ append_assoc said.sizes (size ∷ []) sizes;
      faults_are = k.faults_are;
      imports_are = k.imports_are;
      lines_are = k.lines_are;
    }

-- ---- faults: each is put behind those that are there

abbrev own : ℕ → ℕ
own m = m

below : (n m : ℕ) → nat_cmp n m ≡ Less → n < m
below n m e = ranked n m Less (sym e)

after_all : (y : ℕ) (ws : List ℕ) (x : ℕ) (ys : List ℕ) → IsAfter nat_cmp (λ m. m) y (ws ++ x ∷ ys) → nat_cmp y x ≡ Less
after_all y [] x ys h = h.0
after_all y (w ∷ ws) x ys h = after_all y ws x ys h.1

put_last : (xs : List ℕ) (x : ℕ) (ys : List ℕ) → AreFaults (xs ++ x ∷ ys) → put nat_cmp (λ m. m) x xs ≡ xs ++ x ∷ []
put_last [] x ys h = refl
put_last (y ∷ xs) x ys h = rw (after_all y xs x ys h.0) (ap (λ l. y ∷ l) (put_last xs x ys h.1))

is_fresh : (xs : List ℕ) (x : ℕ) (ys : List ℕ) → AreFaults (xs ++ x ∷ ys) → is_given x xs ≡ false
is_fresh [] x ys h = refl
is_fresh (y ∷ xs) x ys h =
    let less : y < x = below y x (after_all y xs x ys h.0) in
    let other : eqb y x ≡ false = ne_eqb y x (λ e. omega arith) in
    rw other (is_fresh xs x ys h.1)

abbrev and_faults : ℕ → Said → List ℕ → Said
and_faults n said [] = said
and_faults n said (call ∷ calls) = and_faults (n + 1) (and_said said n (meanings.Fault call)) calls

fault_step : (agents : List Pair) (said : Said) (n : ℕ) (call : ℕ) (calls : List ℕ) → AreFaults (said.faults ++ call ∷ calls)
    → IsCount most_call call → IsFine (fault_text call) → n ≤ most_lines → length said.faults + 1 ≤ most_faults
    → and_line agents said n (fault_text call) ≡ Ok (and_said said n (meanings.Fault call))
unfolding fault_text
fault_step agents said n call calls rising is fine few room =
    let new = put_last said.faults call calls rising in
    let le : length (said.faults ++ call ∷ []) ≤ most_faults = omega (arith, length-append said.faults (call ∷ [])) in
    line_read agents said n (fault_data call) (meanings.Fault call) (fault_is_read call is fine) few
    (fault_means agents said call (record { counted = is; fresh = is_fresh said.faults call calls rising })) (rw (new, le-ltb most_faults (length (said.faults ++ call ∷ [])) le) refl)

still_rising : (xs : List ℕ) (x : ℕ) (ys : List ℕ) → AreFaults (xs ++ x ∷ ys) → AreFaults (put nat_cmp (λ m. m) x xs ++ ys)
still_rising xs x ys h = subst (λ (l : List ℕ). AreFaults l) (sym (ap (λ l. l ++ ys) (put_last xs x ys h) ∙ append_assoc xs (x ∷ []) ys)) h

one_longer : (xs : List ℕ) (x : ℕ) (ys : List ℕ) → AreFaults (xs ++ x ∷ ys) → length (put nat_cmp (λ m. m) x xs) ≡ length xs + 1
one_longer xs x ys h = ap length (put_last xs x ys h) ∙ length-append xs (x ∷ [])

faults_read : (agents : List Pair) (calls : List ℕ) (rest : List (List ℕ)) (n : ℕ) (said : Said) → AreFaults (said.faults ++ calls)
    → All (IsCount most_call) calls → All IsFine (map fault_text calls) → n + length calls ≤ 4097 → length said.faults + length calls ≤ most_faults
    → said_from agents n (map fault_text calls ++ rest) said ≡ said_from agents (past n calls) rest (and_faults n said calls)
faults_read agents [] rest n said rising is fine few room = refl
faults_read agents (call ∷ calls) rest n said rising is fine few room =
    let longer = one_longer said.faults call calls rising in
    go_on agents n (fault_text call) (map fault_text calls ++ rest) said _
    (fault_step agents said n call calls rising (All-head (IsCount most_call) call calls is) (All-head IsFine (fault_text call) (map fault_text calls) fine) (omega arith) (omega arith))
    ∙ faults_read agents calls rest (n + 1) (and_said said n (meanings.Fault call)) (still_rising said.faults call calls rising)
    (All-tail (IsCount most_call) call calls is) (All-tail IsFine (fault_text call) (map fault_text calls) fine) (omega arith) (omega (arith, longer))

record SameFaults (a b : Said) (calls : List ℕ) : Type 0 where
  pub pools_are : b.pools ≡ a.pools
  pub sizes_are : b.sizes ≡ a.sizes
  pub faults_are : b.faults ≡ a.faults ++ calls
  pub imports_are : b.imports ≡ a.imports
  pub lines_are : b.lines ≡ a.lines

faults_kept : (calls : List ℕ) (n : ℕ) (said : Said) → AreFaults (said.faults ++ calls) → SameFaults said (and_faults n said calls) calls
faults_kept [] n said h = record { pools_are = refl; sizes_are = refl; faults_are = sym (append-nil said.faults); imports_are = refl; lines_are = refl }
faults_kept (call ∷ calls) n said h =
    let k = faults_kept calls (n + 1) (and_said said n (meanings.Fault call)) (still_rising said.faults call calls h) in
    record {
      pools_are = k.pools_are;
      sizes_are = k.sizes_are;
      faults_are = k.faults_are ∙ ap (λ l. l ++ calls) (put_last said.faults call calls h)
          ∙ append_assoc said.faults (call ∷ []) calls;
      imports_are = k.imports_are;
      lines_are = k.lines_are;
    }

-- ---- imported objects

abbrev and_imports : ℕ → Said → List Object → Said
and_imports n said [] = said
and_imports n said (o ∷ os) = and_imports (n + 1) (and_said said n (meanings.Import o)) os

import_step : (agents : List Pair) (said : Said) (n : ℕ) (o : Object) → IsImportAfter said.imports o → said.lines ≡ [] → IsShortObject o → IsFine (import_text o) → n ≤ most_lines
    → and_line agents said n (import_text o) ≡ Ok (and_said said n (meanings.Import o))
unfolding import_text
import_step agents said n o is none short fine few =
    line_read agents said n (import_data o) (meanings.Import o) (import_is_read o is.object fine) few
    (import_means agents said o is.object short (ap has_begun none) is.passes) (ap (λ lines. object_limit (said.imports ++ o ∷ []) lines) none ∙ is.few)

imports_read : (agents : List Pair) (imports : List Object) (rest : List (List ℕ)) (n : ℕ) (said : Said) → AreImportsAfter said.imports imports
    → said.lines ≡ [] → All IsShortObject imports → All IsFine (map import_text imports) → n + length imports ≤ 4097
    → said_from agents n (map import_text imports ++ rest) said ≡ said_from agents (past n imports) rest (and_imports n said imports)
imports_read agents [] rest n said is none short fine few = refl
imports_read agents (o ∷ os) rest n said is none short fine few =
    go_on agents n (import_text o) (map import_text os ++ rest) said _
    (import_step agents said n o is.0 none (All-head IsShortObject o os short) (All-head IsFine (import_text o) (map import_text os) fine) (omega arith))
    ∙ imports_read agents os rest (n + 1) (and_said said n (meanings.Import o)) is.1 none (All-tail IsShortObject o os short) (All-tail IsFine (import_text o) (map import_text os) fine) (omega arith)

record SameImports (a b : Said) (imports : List Object) : Type 0 where
  pub pools_are : b.pools ≡ a.pools
  pub sizes_are : b.sizes ≡ a.sizes
  pub faults_are : b.faults ≡ a.faults
  pub imports_are : b.imports ≡ a.imports ++ imports
  pub lines_are : b.lines ≡ a.lines

imports_kept : (imports : List Object) (n : ℕ) (said : Said) → SameImports said (and_imports n said imports) imports
imports_kept [] n said = record { pools_are = refl; sizes_are = refl; faults_are = refl; imports_are = sym (append-nil said.imports); lines_are = refl }
imports_kept (o ∷ os) n said =
    let k = imports_kept os (n + 1) (and_said said n (meanings.Import o)) in
    record { pools_are = k.pools_are; sizes_are = k.sizes_are; faults_are = k.faults_are; imports_are = k.imports_are ∙ append_assoc said.imports (o ∷ []) os; lines_are = k.lines_are }

-- ---- lines

abbrev and_lines : ℕ → Said → List Line → Said
and_lines n said [] = said
and_lines n said (line ∷ lines) = and_lines (n + 1) (and_said said n (meanings.Line line)) lines

line_step : (agents : List Pair) (said : Said) (n : ℕ) (line : Line) → IsLineAfter agents said.lines line
    → line_limit said.imports (said.lines ++ line ∷ []) line ≡ None → LineHasShortObject line → IsFine (line_text line) → n ≤ most_lines
    → and_line agents said n (line_text line) ≡ Ok (and_said said n (meanings.Line line))
unfolding line_text
line_step agents said n line is limit fits fine few =
    line_read agents said n (line_data line) (meanings.Line line) (line_is_read agents said.lines line is fine) few (line_means agents said line is fits) limit

lines_read : (agents : List Pair) (lines : List Line) (rest : List (List ℕ)) (n : ℕ) (said : Said)
    → AreLinesAfter said.imports agents said.lines lines → All LineHasShortObject lines → All IsFine (map line_text lines) → n + length lines ≤ 4097
    → said_from agents n (map line_text lines ++ rest) said ≡ said_from agents (past n lines) rest (and_lines n said lines)
lines_read agents [] rest n said h fits fine few = refl
lines_read agents (line ∷ lines) rest n said h fits fine few =
    go_on agents n (line_text line) (map line_text lines ++ rest) said _
    (line_step agents said n line h.0 h.1 (All-head LineHasShortObject line lines fits) (All-head IsFine (line_text line) (map line_text lines) fine) (omega arith))
    ∙ lines_read agents lines rest (n + 1) (and_said said n (meanings.Line line)) h.2 (All-tail LineHasShortObject line lines fits)
    (All-tail IsFine (line_text line) (map line_text lines) fine) (omega arith)

record SameLines (a b : Said) (lines : List Line) : Type 0 where
  pub pools_are : b.pools ≡ a.pools
  pub sizes_are : b.sizes ≡ a.sizes
  pub faults_are : b.faults ≡ a.faults
  pub imports_are : b.imports ≡ a.imports
  pub lines_are : b.lines ≡ a.lines ++ lines

lines_kept : (lines : List Line) (n : ℕ) (said : Said) → SameLines said (and_lines n said lines) lines
lines_kept [] n said = record { pools_are = refl; sizes_are = refl; faults_are = refl; imports_are = refl; lines_are = sym (append-nil said.lines) }
lines_kept (line ∷ lines) n said =
    let k = lines_kept lines (n + 1) (and_said said n (meanings.Line line)) in
    record { pools_are = k.pools_are; sizes_are = k.sizes_are; faults_are = k.faults_are; imports_are = k.imports_are; lines_are = k.lines_are ∙ append_assoc said.lines (line ∷ []) lines }

-- ---- agents

pools_beside : (agents : List Pair) (pools : List Pool) (sizes rest : List (List ℕ)) → AreSized pools sizes → All IsFine (pool_lines pools sizes)
    → agents_beside agents (pool_lines pools sizes ++ rest) ≡ agents_beside agents rest
pools_beside agents [] sizes rest h fine = refl
pools_beside agents (pool ∷ pools) [] rest h fine = absurd h
pools_beside agents (pool ∷ pools) (size ∷ sizes) rest h fine =
    ap (λ o. agents_beside (and_node agents o) (pool_lines pools sizes ++ rest)) (pool_node pool size (pool_is_read pool size (All-head IsFine (pool_text pool size) (pool_lines pools sizes) fine)))
    ∙ pools_beside agents pools sizes rest h.1 (All-tail IsFine (pool_text pool size) (pool_lines pools sizes) fine)

faults_beside : (agents : List Pair) (calls : List ℕ) (rest : List (List ℕ)) → All (IsCount most_call) calls → All IsFine (map fault_text calls)
    → agents_beside agents (map fault_text calls ++ rest) ≡ agents_beside agents rest
faults_beside agents [] rest is fine = refl
faults_beside agents (call ∷ calls) rest is fine =
    ap (λ o. agents_beside (and_node agents o) (map fault_text calls ++ rest))
    (fault_node call (fault_is_read call (All-head (IsCount most_call) call calls is) (All-head IsFine (fault_text call) (map fault_text calls) fine)))
    ∙ faults_beside agents calls rest (All-tail (IsCount most_call) call calls is) (All-tail IsFine (fault_text call) (map fault_text calls) fine)

imports_beside : (agents : List Pair) (before imports : List Object) (rest : List (List ℕ)) → AreImportsAfter before imports → All IsShortObject imports → All IsFine (map import_text imports)
    → agents_beside agents (map import_text imports ++ rest) ≡ agents_beside (imported_after agents imports) rest
imports_beside agents before [] rest is short fine = refl
imports_beside agents before (o ∷ os) rest is short fine =
    let object = is.0.object in
    ap (λ n. agents_beside (and_node agents n) (map import_text os ++ rest))
    (import_node o object (All-head IsShortObject o os short) (import_is_read o object (All-head IsFine (import_text o) (map import_text os) fine)))
    ∙ imports_beside (and_node agents (imported_node o)) (before ++ o ∷ []) os rest is.1 (All-tail IsShortObject o os short) (All-tail IsFine (import_text o) (map import_text os) fine)

lines_beside : (imports : List Object) (known : List Pair) (agents : List Pair) (before lines : List Line) (rest : List (List ℕ))
    → AreLinesAfter imports known before lines → All LineHasShortObject lines → All IsFine (map line_text lines)
    → agents_beside agents (map line_text lines ++ rest) ≡ agents_beside (agents_after agents lines) rest
lines_beside imports known agents before [] rest h fits fine = refl
lines_beside imports known agents before (line ∷ lines) rest h fits fine =
    let own_fits = All-head LineHasShortObject line lines fits in
    let own_fine = All-head IsFine (line_text line) (map line_text lines) fine in
    ap (λ o. agents_beside (and_node agents o) (map line_text lines ++ rest)) (own_node known before line h.0 own_fits (line_is_read known before line h.0 own_fine))
    ∙ lines_beside imports known (and_node agents (created_node line)) (before ++ line ∷ []) lines rest h.2
    (All-tail LineHasShortObject line lines fits) (All-tail IsFine (line_text line) (map line_text lines) fine)

-- ---- lines and line feeds

split_joined : (lines : List (List ℕ)) → All IsLine lines → lines_of (joined lines) ≡ lines ++ [] ∷ []
split_joined [] h = refl
split_joined (line ∷ lines) h =
    slice_split_at is_feed line 10 (joined lines) (no_feed line (All-head IsLine line lines h)) refl
    ∙ ap (λ l. line ∷ l) (split_joined lines (All-tail IsLine line lines h))

pool_lines_are_lines : (pools : List Pool) (sizes : List (List ℕ)) → AreSized pools sizes → All IsLine (pool_lines pools sizes)
unfolding pool_text
pool_lines_are_lines [] sizes h = All-nil IsLine
pool_lines_are_lines (pool ∷ pools) [] h = absurd h
pool_lines_are_lines (pool ∷ pools) (size ∷ sizes) h =
    let good = pool_good pool size in
    All-cons IsLine (pool_text pool size) (pool_lines pools sizes) (text_line (pool_data pool size) good.canonical) (pool_lines_are_lines pools sizes h.1)

fault_lines_are_lines : (calls : List ℕ) → All (IsCount most_call) calls → All IsLine (map fault_text calls)
unfolding fault_text
fault_lines_are_lines [] h = All-nil IsLine
fault_lines_are_lines (call ∷ calls) h =
    let good = fault_good call (All-head (IsCount most_call) call calls h) in
    All-cons IsLine (fault_text call) (map fault_text calls) (text_line (fault_data call) good.canonical) (fault_lines_are_lines calls (All-tail (IsCount most_call) call calls h))

import_lines_are_lines : (before imports : List Object) → AreImportsAfter before imports → All IsLine (map import_text imports)
unfolding import_text
import_lines_are_lines before [] h = All-nil IsLine
import_lines_are_lines before (o ∷ os) h =
    let good = import_good o h.0.object in
    All-cons IsLine (import_text o) (map import_text os) (text_line (import_data o) good.canonical) (import_lines_are_lines (before ++ o ∷ []) os h.1)

line_lines_are_lines : (imports : List Object) (agents : List Pair) (before lines : List Line) → AreLinesAfter imports agents before lines → All IsLine (map line_text lines)
unfolding line_text
line_lines_are_lines imports agents before [] h = All-nil IsLine
line_lines_are_lines imports agents before (line ∷ lines) h =
    let good = line_good agents before line h.0 in
    All-cons IsLine (line_text line) (map line_text lines) (text_line (line_data line) good.canonical) (line_lines_are_lines imports agents (before ++ line ∷ []) lines h.2)

-- ---- the script

abbrev pools_of : Script → List (List ℕ)
pools_of s = pool_lines s.setup.pools s.sizes

abbrev faults_of : Script → List (List ℕ)
faults_of s = map fault_text s.setup.faults

abbrev imports_of : Script → List (List ℕ)
imports_of s = map import_text s.setup.imports

abbrev texts_of : Script → List (List ℕ)
texts_of s = map line_text s.lines

abbrev last_part : List (List ℕ)
last_part = [] ∷ []

-- what comes after the pools, and after the faults
abbrev after_pool_lines : Script → List (List ℕ)
after_pool_lines s = faults_of s ++ (imports_of s ++ texts_of s)

abbrev script_agents : Script → List Pair
script_agents s = agents_of s.setup.imports s.lines

parts_of : (s : Script) → IsScript s → lines_of (script_text s) ≡ pools_of s ++ (faults_of s ++ (imports_of s ++ (texts_of s ++ last_part)))
unfolding script_lines
parts_of s is =
    let all_texts = All-append IsLine (imports_of s) (texts_of s) (import_lines_are_lines [] s.setup.imports is.imports) (line_lines_are_lines s.setup.imports (script_agents s) [] s.lines is.lines) in
    let all_lines = All-append IsLine (pools_of s) (after_pool_lines s) (pool_lines_are_lines s.setup.pools s.sizes is.pools)
    (All-append IsLine (faults_of s) (imports_of s ++ texts_of s) (fault_lines_are_lines s.setup.faults is.fault_numbers) all_texts) in
    ap lines_of (with_joined [] (pools_of s ++ after_pool_lines s))
    ∙ split_joined (pools_of s ++ after_pool_lines s) all_lines
    ∙ append_assoc (pools_of s) (after_pool_lines s) last_part
    ∙ ap (λ l. pools_of s ++ l) (append_assoc (faults_of s) (imports_of s ++ texts_of s) last_part)
    ∙ ap (λ l. pools_of s ++ (faults_of s ++ l)) (append_assoc (imports_of s) (texts_of s) last_part)

record AllFine (s : Script) : Type 0 where
  pub pools : All IsFine (pools_of s)
  pub faults : All IsFine (faults_of s)
  pub imports : All IsFine (imports_of s)
  pub texts : All IsFine (texts_of s)

all_fine : (s : Script) → Fits s → All IsText (script_lines s) → AllFine s
unfolding script_lines
all_fine s fits utf8 =
    let fine = fine_lines (script_lines s) fits.lines utf8 in
    let rest = fine_second (pools_of s) (after_pool_lines s) fine in
    let last = fine_second (faults_of s) (imports_of s ++ texts_of s) rest in
    record {
      pools = fine_first (pools_of s) (after_pool_lines s) fine;
      faults = fine_first (faults_of s) (imports_of s ++ texts_of s) rest;
      imports = fine_first (imports_of s) (texts_of s) last;
      texts = fine_second (imports_of s) (texts_of s) last;
    }

agents_read : (s : Script) → IsScript s → Fits s → AllFine s → agents_in (pools_of s ++ (faults_of s ++ (imports_of s ++ (texts_of s ++ last_part)))) ≡ script_agents s
agents_read s is fits fine =
    pools_beside [] s.setup.pools s.sizes (faults_of s ++ (imports_of s ++ (texts_of s ++ last_part))) is.pools fine.pools
    ∙ faults_beside [] s.setup.faults (imports_of s ++ (texts_of s ++ last_part)) is.fault_numbers fine.faults
    ∙ imports_beside [] [] s.setup.imports (texts_of s ++ last_part) is.imports fits.imports fine.imports
    ∙ lines_beside s.setup.imports (script_agents s) (imported_after [] s.setup.imports) [] s.lines last_part is.lines fits.objects fine.texts
    ∙ ap (and_node (script_agents s)) (blank_node [] refl)

abbrev after_pools : Script → Said
after_pools s = and_pools 1 nothing_said s.setup.pools s.sizes

abbrev after_faults : Script → Said
after_faults s = and_faults (past 1 s.setup.pools) (after_pools s) s.setup.faults

abbrev after_imports : Script → Said
after_imports s = and_imports (past (past 1 s.setup.pools) s.setup.faults) (after_faults s) s.setup.imports

abbrev after_lines : Script → Said
after_lines s = and_lines (past (past (past 1 s.setup.pools) s.setup.faults) s.setup.imports) (after_imports s) s.lines

rising_behind : (xs ys : List ℕ) → xs ≡ [] → AreFaults ys → AreFaults (xs ++ ys)
rising_behind xs ys e h = subst (λ (l : List ℕ). AreFaults (l ++ ys)) (sym e) h

-- what was said after each part
record AreSaid (s : Script) : Type 0 where
  pub one : SamePools nothing_said (after_pools s) s.setup.pools s.sizes
  pub two : SameFaults (after_pools s) (after_faults s) s.setup.faults
  pub three : SameImports (after_faults s) (after_imports s) s.setup.imports
  pub four : SameLines (after_imports s) (after_lines s) s.lines
  pub rising : AreFaults ((after_pools s).faults ++ s.setup.faults)

are_said : (s : Script) → IsScript s → AreSaid s
are_said s is =
    let one = pools_kept s.setup.pools s.sizes 1 nothing_said is.pools in
    let rising = rising_behind (after_pools s).faults s.setup.faults one.faults_are is.faults in
    record {
      one = one;
      two = faults_kept s.setup.faults (past 1 s.setup.pools) (after_pools s) rising;
      three = imports_kept s.setup.imports (past (past 1 s.setup.pools) s.setup.faults) (after_faults s);
      four = lines_kept s.lines (past (past (past 1 s.setup.pools) s.setup.faults) s.setup.imports) (after_imports s);
      rising = rising;
    }

record IsSaid (s : Script) (f : Said) : Type 0 where
  pub pools : f.pools ≡ s.setup.pools
  pub sizes : f.sizes ≡ s.sizes
  pub faults : f.faults ≡ s.setup.faults
  pub imports : f.imports ≡ s.setup.imports
  pub lines : f.lines ≡ s.lines

is_said : (s : Script) → AreSaid s → IsSaid s (after_lines s)
is_said s are = record {
  pools = are.four.pools_are ∙ are.three.pools_are ∙ are.two.pools_are ∙ are.one.pools_are;
  sizes = are.four.sizes_are ∙ are.three.sizes_are ∙ are.two.sizes_are ∙ are.one.sizes_are;
  faults = are.four.faults_are ∙ are.three.faults_are ∙ are.two.faults_are ∙ ap (λ l. l ++ s.setup.faults) are.one.faults_are;
  imports = are.four.imports_are ∙ are.three.imports_are ∙ ap (λ l. l ++ s.setup.imports) (are.two.imports_are ∙ are.one.imports_are);
  lines = are.four.lines_are ∙ ap (λ l. l ++ s.lines) (are.three.lines_are ∙ are.two.lines_are ∙ are.one.lines_are);
}

abbrev made : List Pool → List ℕ → List Object → List Line → List (List ℕ) → List (List ℕ) → Script
made pools faults imports lines nodes sizes = record { setup = record { pools = pools; faults = faults; imports = imports }; lines = lines; node_names = nodes; sizes = sizes }

same_script : (s : Script) (f : Said) → IsScript s → IsSaid s f → (numbered_of f).script ≡ s
unfolding numbered_of
same_script s f is said =
    ap (λ x. made x f.faults f.imports f.lines (nodes_of (agents_of f.imports f.lines)) f.sizes) said.pools
    ∙ ap (λ x. made s.setup.pools x f.imports f.lines (nodes_of (agents_of f.imports f.lines)) f.sizes) said.faults
    ∙ ap (λ x. made s.setup.pools s.setup.faults x f.lines (nodes_of (agents_of x f.lines)) f.sizes) said.imports
    ∙ ap (λ x. made s.setup.pools s.setup.faults s.setup.imports x (nodes_of (agents_of s.setup.imports x)) f.sizes) said.lines
    ∙ ap (λ x. made s.setup.pools s.setup.faults s.setup.imports s.lines (nodes_of (script_agents s)) x) said.sizes
    ∙ ap (λ x. made s.setup.pools s.setup.faults s.setup.imports s.lines x s.sizes) (sym is.nodes)

said_read : (s : Script) → IsScript s → Fits s → AllFine s
    → said_from (script_agents s) 1 (pools_of s ++ (faults_of s ++ (imports_of s ++ (texts_of s ++ last_part)))) nothing_said ≡ Ok (after_lines s)
said_read s is fits fine =
    let agents : List Pair = script_agents s in
    let few = is.few_lines in
    let are = are_said s is in
    let first = past_is 1 s.setup.pools in
    let second = past_is (past 1 s.setup.pools) s.setup.faults in
    let third = past_is (past (past 1 s.setup.pools) s.setup.faults) s.setup.imports in
    let none : length (after_pools s).faults ≡ 0 = ap length are.one.faults_are in
    let early : (after_faults s).lines ≡ [] = are.two.lines_are ∙ are.one.lines_are in
    let no_imports : (after_faults s).imports ≡ [] = are.two.imports_are ∙ are.one.imports_are in
    let before : (after_imports s).lines ≡ [] = are.three.lines_are ∙ early in
    let imported : (after_imports s).imports ≡ s.setup.imports = are.three.imports_are ∙ ap (λ l. l ++ s.setup.imports) no_imports in
    let lines : AreLinesAfter (after_imports s).imports agents (after_imports s).lines s.lines =
    subst (λ (b : List Line). AreLinesAfter (after_imports s).imports agents b s.lines) (sym before) (subst (λ (i : List Object). AreLinesAfter i agents [] s.lines) (sym imported) is.lines) in
    pools_read agents s.setup.pools s.sizes (faults_of s ++ (imports_of s ++ (texts_of s ++ last_part))) 1 nothing_said is.pools fine.pools (omega arith) (omega (arith, is.few_pools))
    ∙ faults_read agents s.setup.faults (imports_of s ++ (texts_of s ++ last_part)) (past 1 s.setup.pools)
    (after_pools s) are.rising is.fault_numbers fine.faults (omega arith) (omega (arith, is.few_faults))
    ∙ imports_read agents s.setup.imports (texts_of s ++ last_part) (past (past 1 s.setup.pools) s.setup.faults) (after_faults s)
    (subst (λ (b : List Object). AreImportsAfter b s.setup.imports) (sym no_imports) is.imports) early fits.imports fine.imports (omega arith)
    ∙ lines_read agents s.lines last_part (past (past (past 1 s.setup.pools) s.setup.faults) s.setup.imports) (after_imports s) lines fits.objects fine.texts (omega arith)
    ∙ go_on agents (past (past (past (past 1 s.setup.pools) s.setup.faults) s.setup.imports) s.lines) [] [] (after_lines s) (after_lines s) (none_read agents (after_lines s) _)

pub script_is_read : ScriptIsRead
unfolding read_numbered_of
script_is_read s is h utf8 =
    let fits = fits_all s is h in
    let fine = all_fine s fits utf8 in
    ap (λ lines. script_from (numbered_from (said_in lines))) (parts_of s is)
    ∙ ap (λ agents. script_from (numbered_from (said_from agents 1 (pools_of s ++ (faults_of s ++ (imports_of s ++ (texts_of s ++ last_part)))) nothing_said))) (agents_read s is fits fine)
    ∙ ap (λ r. script_from (numbered_from r)) (said_read s is fits fine)
    ∙ ap Ok (same_script s (after_lines s) is (is_said s (are_said s is)))
