-- What the text of a script gives is a script that a text can give.
use Rattle.std.proofs.Common.{
  ◌≡◌,
  ℕ,
  suc,
  ◌+◌,
  ◌<◌,
  ◌≤◌,
  nat_lt,
  List,
  [],
  ◌∷◌,
  ◌++◌,
  length,
  map,
  Bool,
  true,
  false,
  Option,
  Some,
  None,
  Result,
  Ok,
  Err,
  IfOk,
  refl,
  sym,
  ap,
  ◌∙◌,
  subst,
  append_assoc,
  append-nil,
  arith,
  length-append,
}
use Rattle.std.specs.List.{All, list_all}
use Rattle.std.specs.Ordering.{nat_cmp, match_ordering}
use Rattle.std.specs.declared.cmp.Ordering.{Ordering}
use Rattle.std.specs.declared.cmp.Ordering.TheVariants.{Less, Equal, Greater}
use Rattle.std.proofs.lemmas.Bool.{ltb-false}
use Rattle.std.proofs.lemmas.Cmp.{nat_cmp_total}
use Rattle.std.proofs.lemmas.Str.{is_utf8-from_IsUtf8}
use Rattle.std.proofs.lemmas.List.Elements.{All-nil, All-cons, All-head, All-tail, All-append}
use Rattle.serde_json.specs.Data.{Data}
use Rattle.serde_json.specs.Written.{compact_text}
use Rattle.plain_data.specs.Pairs.{Pair, text_cmp}
use Rattle.plain_data.specs.Rows.{put}
use Rattle.plain_data.proofs.RowFacts.{rising_put}
use Rattle.quantity_text.specs.Quantity.{amount_of}
use Rattle.call_types.specs.declared.setup.Pool.{Pool}
use Rattle.object_laws.proofs.GivesParts.{if_ok}
use Rattle.object_laws.proofs.Utf8Texts.{HasUtf8, text_utf8}
use Rattle.script_lines.specs.declared.errors.Reason.{Reason}
use Rattle.script_lines.specs.declared.errors.Reason.TheVariants.{BadValue, TooLong, TooManyLines, TooManyObjects, TooManyNodes, TooManyPools, TooManyFaults}
use Rattle.script_lines.specs.declared.errors.BadLine.{BadLine}
use Rattle.script_lines.specs.declared.verbs.Verb.{Verb}
use Rattle.script_lines.specs.declared.verbs.Verb.TheVariants as verbs
use Rattle.script_lines.specs.Answers.{◌>>=◌, unless}
use Rattle.script_lines.specs.Actors.{actor_word, agent_word, with_node}
use Rattle.script_lines.specs.declared.line_member.LineMember.TheVariants as members
use Rattle.script_lines.specs.Members.{most_call, most_turn, text_at, count_at, new_call_at, user_at, kind_at, key_at, condition_at, object_at, actor_at, when_at, edit_at}
use Rattle.kube_parts.specs.declared.names.ImportFault.{ImportFault}
use Rattle.kube_objects.specs.declared.objects.Object.{Object}
use Rattle.binder_model.specs.Imports.{import_fault}
use Rattle.script_text.specs.declared.script.Line.{Line}
use Rattle.script_text.specs.declared.script.Line.TheVariants.{Call, Lose, Restart, Turn, Drain}
use Rattle.script_text.specs.declared.script.Meaning.{Meaning}
use Rattle.script_text.specs.declared.script.Meaning.TheVariants as meanings
use Rattle.script_text.specs.declared.script.Script.{Script}
use Rattle.script_text.specs.Said.{Said, nothing_said, and_said, and_node, created_node, meaning_node, has_begun, creates, imported_after, agents_of, losses_of, restarts_of, numbered_of}
use Rattle.script_text.specs.Steps.Indexed.{AreFaults, CanTake}
use Rattle.script_text.specs.LineReaders.{
  create_line,
  update_line,
  edit_line,
  delete_line,
  get_line,
  list_line,
  time_line,
  pool_line,
  fault_line,
  unless_fault,
  import_line,
  lose_line,
  restart_line,
  turn_line,
  verb_at,
  as_line,
  as_import,
  meaning_by,
  meaning_of,
}
use Rattle.script_text.specs.Grammar.{
  most_line_bytes,
  most_lines,
  most_objects,
  most_nodes,
  most_pools,
  most_faults,
  passed,
  first_of,
  object_limit,
  limit_of,
  line_limit,
  unless_passed,
  is_blank,
  line_value,
  and_filled,
  and_line,
  object_by,
  own_object,
  node_from,
  agents_beside,
  agents_in,
  lines_of,
  at_line,
  said_from,
  said_in,
  numbered_from,
  read_numbered_of,
  script_from,
  script_of,
}
use Rattle.script_print.specs.Printing.{line_data, line_text, pool_data, pool_text, pool_lines, import_data, import_text}
use Rattle.script_laws.specs.Read.Given.{IsCount, IsNewCall, IsLineAfter}
use Rattle.script_laws.specs.Read.Scripts.{IsImportAfter, AreImportsAfter, AreLinesAfter, AreSized, IsScript}
use Rattle.script_laws.specs.Read.Laws.{IsText}
use Rattle.script_laws.proofs.Read.Values.{step, past, unless_gives, WasRead, line_was_read}
use Rattle.script_laws.proofs.Read.MembersGive.{AreAgents}
use Rattle.script_laws.proofs.Read.LinesGive.{LineGiven, create_gives, update_gives, edit_gives, delete_gives, get_gives, list_gives, time_gives, lose_gives, restart_gives, turn_gives, drain_given}
use Rattle.script_laws.proofs.Read.LinesRead.{blank_node}
use Rattle.script_laws.proofs.Read.SetupGives.{PoolGiven, IsPool, pool_gives, IsFault, fault_gives, ImportGiven, IsImport, import_gives}
use Rattle.script_text.proofs.Indexes.{agents_more, agents_imported, same_before}
use Rattle.script_text.proofs.Meanings.{meaning_can}

-- ---- what one line means

abbrev MeaningGiven : List Pair → Said → Meaning → Type 0
MeaningGiven agents said (meanings.Pool pool size) = PoolGiven pool size
MeaningGiven agents said (meanings.Fault call) = IsNewCall said.faults call
MeaningGiven agents said (meanings.Import o) = ImportGiven said.lines said.imports o
MeaningGiven agents said (meanings.Line line) = LineGiven agents said.lines line

as_given : (agents : List Pair) (said : Said) (r : Result Line Reason) → IfOk r (LineGiven agents said.lines) → IfOk (as_line r) (MeaningGiven agents said)
as_given agents said (Ok line) h = h
as_given agents said (Err e) h = tt

pool_given : (agents : List Pair) (said : Said) (r : Result Meaning Reason) → IfOk r IsPool → IfOk r (MeaningGiven agents said)
pool_given agents said (Ok (meanings.Pool pool size)) h = h
pool_given agents said (Ok (meanings.Fault call)) h = absurd h
pool_given agents said (Ok (meanings.Import o)) h = absurd h
pool_given agents said (Ok (meanings.Line line)) h = absurd h
pool_given agents said (Err e) h = tt

fault_given : (agents : List Pair) (said : Said) (r : Result Meaning Reason) → IfOk r (IsFault said.faults) → IfOk r (MeaningGiven agents said)
fault_given agents said (Ok (meanings.Pool pool size)) h = absurd h
fault_given agents said (Ok (meanings.Fault call)) h = h
fault_given agents said (Ok (meanings.Import o)) h = absurd h
fault_given agents said (Ok (meanings.Line line)) h = absurd h
fault_given agents said (Err e) h = tt

import_given : (agents : List Pair) (said : Said) (r : Result Meaning Reason) → IfOk r (IsImport said.lines said.imports) → IfOk r (MeaningGiven agents said)
import_given agents said (Ok (meanings.Pool pool size)) h = absurd h
import_given agents said (Ok (meanings.Fault call)) h = absurd h
import_given agents said (Ok (meanings.Import o)) h = h
import_given agents said (Ok (meanings.Line line)) h = absurd h
import_given agents said (Err e) h = tt

by_gives : (verb : Verb) (agents : List Pair) (said : Said) (d : Data) → AreAgents agents → WasRead 127 d → IfOk (meaning_by verb agents said d) (MeaningGiven agents said)
by_gives verbs.Create agents said d are h = as_given agents said (create_line d) (create_gives agents said.lines d h)
by_gives verbs.Update agents said d are h = as_given agents said (update_line d) (update_gives agents said.lines d h)
by_gives verbs.Edit agents said d are h = as_given agents said (edit_line d) (edit_gives agents said.lines d h)
by_gives verbs.Delete agents said d are h = as_given agents said (delete_line d) (delete_gives agents said.lines d h)
by_gives verbs.Get agents said d are h = as_given agents said (get_line d) (get_gives agents said.lines d h)
by_gives verbs.List agents said d are h = as_given agents said (list_line d) (list_gives agents said.lines d h)
by_gives verbs.Time agents said d are h = as_given agents said (time_line d) (time_gives agents said.lines d h)
by_gives verbs.Pool agents said d are h = pool_given agents said (pool_line d) (pool_gives d h)
by_gives verbs.Fault agents said d are h = fault_given agents said (fault_line said.faults d) (fault_gives said.faults d)
by_gives verbs.Import agents said d are h = import_given agents said (import_line said.lines said.imports d) (import_gives said.lines said.imports d h)
by_gives verbs.Lose agents said d are h = as_given agents said (lose_line agents said.lines d) (lose_gives agents said.lines d are h)
by_gives verbs.Restart agents said d are h = as_given agents said (restart_line agents said.lines d) (restart_gives agents said.lines d are h)
by_gives verbs.Turn agents said d are h = as_given agents said (turn_line agents d) (turn_gives agents said.lines d are h)
by_gives verbs.Drain agents said d are h = drain_given agents said.lines

meaning_gives : (agents : List Pair) (said : Said) (d : Data) → AreAgents agents → WasRead 127 d → IfOk (meaning_of agents said d) (MeaningGiven agents said)
unfolding meaning_of
meaning_gives agents said d are h = past (MeaningGiven agents said) (verb_at d) _ (λ verb. by_gives verb agents said d are h)

-- ---- what lines said

pub record SaidGiven (agents : List Pair) (n : ℕ) (said : Said) : Type 0 where
  pub pools : AreSized said.pools said.sizes
  pub pool_texts : All IsText (pool_lines said.pools said.sizes)
  pub few_pools : length said.pools ≤ most_pools
  pub faults : AreFaults said.faults
  pub fault_numbers : All (IsCount most_call) said.faults
  pub few_faults : length said.faults ≤ most_faults
  pub imports : AreImportsAfter [] said.imports
  pub import_texts : All IsText (map import_text said.imports)
  pub lines : AreLinesAfter said.imports agents [] said.lines
  pub line_texts : All IsText (map line_text said.lines)
  pub below : length said.pools + (length said.faults + (length said.imports + length said.lines)) < n
  pub few_lines : length said.pools + (length said.faults + (length said.imports + length said.lines)) ≤ most_lines

nothing_given : (agents : List Pair) → SaidGiven agents 1 nothing_said
nothing_given agents = record {
  pools = tt;
  pool_texts = All-nil IsText;
  few_pools = omega arith;
  faults = tt;
  fault_numbers = All-nil (IsCount most_call);
  few_faults = omega arith;
  imports = tt;
  import_texts = All-nil IsText;
  lines = tt;
  line_texts = All-nil IsText;
  below = omega arith;
  few_lines = omega arith;
}

later : (agents : List Pair) (n : ℕ) (said : Said) → SaidGiven agents n said → SaidGiven agents (n + 1) said
later agents n said h = record {
  pools = h.pools;
  pool_texts = h.pool_texts;
  few_pools = h.few_pools;
  faults = h.faults;
  fault_numbers = h.fault_numbers;
  few_faults = h.few_faults;
  imports = h.imports;
  import_texts = h.import_texts;
  lines = h.lines;
  line_texts = h.line_texts;
  below = let b = h.below in omega arith;
  few_lines = h.few_lines;
}

-- ---- with one line more

sized_more : (pools : List Pool) (sizes : List (List ℕ)) (pool : Pool) (size : List ℕ) → AreSized pools sizes → amount_of size ≡ Ok pool.bytes → AreSized (pools ++ pool ∷ []) (sizes ++ size ∷ [])
sized_more [] [] pool size h is = (is, tt)
sized_more [] (s ∷ ss) pool size h is = absurd h
sized_more (p ∷ ps) [] pool size h is = absurd h
sized_more (p ∷ ps) (s ∷ ss) pool size h is = (h.0, sized_more ps ss pool size h.1 is)

pool_lines_more : (pools : List Pool) (sizes : List (List ℕ)) (pool : Pool) (size : List ℕ) → AreSized pools sizes
    → pool_lines (pools ++ pool ∷ []) (sizes ++ size ∷ []) ≡ pool_lines pools sizes ++ pool_text pool size ∷ []
pool_lines_more [] [] pool size h = refl
pool_lines_more [] (s ∷ ss) pool size h = absurd h
pool_lines_more (p ∷ ps) [] pool size h = absurd h
pool_lines_more (p ∷ ps) (s ∷ ss) pool size h = ap (λ l. pool_text p s ∷ l) (pool_lines_more ps ss pool size h.1)

texts_more : (lines : List Line) (line : Line) → map line_text (lines ++ line ∷ []) ≡ map line_text lines ++ line_text line ∷ []
texts_more [] line = refl
texts_more (l ∷ ls) line = ap (λ ts. line_text l ∷ ts) (texts_more ls line)

lines_more : (imports : List Object) (agents : List Pair) (before lines : List Line) (line : Line) → AreLinesAfter imports agents before lines
    → IsLineAfter agents (before ++ lines) line → line_limit imports ((before ++ lines) ++ line ∷ []) line ≡ None
    → AreLinesAfter imports agents before (lines ++ line ∷ [])
lines_more imports agents before [] line h is limit =
    let none = append-nil before in
    (subst (λ (b : List Line). IsLineAfter agents b line) none is, subst (λ (b : List Line). line_limit imports (b ++ line ∷ []) line ≡ None) none limit, tt)
lines_more imports agents before (l ∷ ls) line h is limit =
    let same = sym (append_assoc before (l ∷ []) ls) in (
      h.0,
      h.1,
      lines_more imports agents (before ++ l ∷ []) ls line h.2 (subst (λ (b : List Line). IsLineAfter agents b line) same is)
          (subst (λ (b : List Line). line_limit imports (b ++ line ∷ []) line ≡ None) same limit),
    )

imports_more : (before imports : List Object) (o : Object) → AreImportsAfter before imports → IsImportAfter (before ++ imports) o → AreImportsAfter before (imports ++ o ∷ [])
imports_more before [] o h is = (subst (λ (b : List Object). IsImportAfter b o) (append-nil before) is, tt)
imports_more before (i ∷ is) o h k = (h.0, imports_more (before ++ i ∷ []) is o h.1 (subst (λ (b : List Object). IsImportAfter b o) (sym (append_assoc before (i ∷ []) is)) k))

import_texts_more : (imports : List Object) (o : Object) → map import_text (imports ++ o ∷ []) ≡ map import_text imports ++ import_text o ∷ []
import_texts_more [] o = refl
import_texts_more (i ∷ is) o = ap (λ ts. import_text i ∷ ts) (import_texts_more is o)

-- before any call, lines keep the limits whatever is imported
lines_early : (imports now : List Object) (agents : List Pair) (before lines : List Line) → has_begun lines ≡ false → AreLinesAfter imports agents before lines → AreLinesAfter now agents before lines
lines_early imports now agents before [] e h = tt
lines_early imports now agents before (Call user request ∷ lines) e h = absurd (cc)
lines_early imports now agents before (Lose actor call after ∷ lines) e h = (h.0, h.1, lines_early imports now agents (before ++ Lose actor call after ∷ []) lines e h.2)
lines_early imports now agents before (Restart actor after ∷ lines) e h = (h.0, h.1, lines_early imports now agents (before ++ Restart actor after ∷ []) lines e h.2)
lines_early imports now agents before (Turn actor calls ∷ lines) e h = absurd (cc)
lines_early imports now agents before (Drain ∷ lines) e h = absurd (cc)

no_creates : (lines : List Line) → has_begun lines ≡ false → creates lines ≡ 0
no_creates [] e = refl
no_creates (Call user request ∷ lines) e = absurd (cc)
no_creates (Lose actor call after ∷ lines) e = let rest : creates lines ≡ 0 = no_creates lines e in omega (arith, rest)
no_creates (Restart actor after ∷ lines) e = let rest : creates lines ≡ 0 = no_creates lines e in omega (arith, rest)
no_creates (Turn actor calls ∷ lines) e = absurd (cc)
no_creates (Drain ∷ lines) e = absurd (cc)

abbrev limit_with : List Object → ℕ → List Pair → Option Reason
limit_with imports created agents = first_of (passed (nat_lt most_objects (length imports + created)) TooManyObjects) (passed (nat_lt most_nodes (length agents)) TooManyNodes)

early_limit : (imports : List Object) (lines : List Line) → has_begun lines ≡ false → object_limit imports lines ≡ object_limit imports []
early_limit imports lines e =
    ap (λ n. limit_with imports n (agents_of imports lines)) (no_creates lines e)
    ∙ ap (λ a. limit_with imports 0 a) (same_before (imported_after [] imports) lines e)

all_put : (x : ℕ) (xs : List ℕ) → IsCount most_call x → All (IsCount most_call) xs → All (IsCount most_call) (put nat_cmp (λ m. m) x xs)
all_put x [] is h = All-cons (IsCount most_call) x [] is (All-nil (IsCount most_call))
all_put x (y ∷ ys) is h = by (nat_cmp y x) (all_put x ys is (All-tail (IsCount most_call) y ys h))
  where
    by : (o : Ordering) → All (IsCount most_call) (put nat_cmp (λ m. m) x ys) → All (IsCount most_call) (match_ordering o (y ∷ put nat_cmp (λ m. m) x ys) (x ∷ ys) (x ∷ y ∷ ys))
    by Less rest = All-cons (IsCount most_call) y _ (All-head (IsCount most_call) y ys h) rest
    by Equal rest = All-cons (IsCount most_call) x ys is (All-tail (IsCount most_call) y ys h)
    by Greater rest = All-cons (IsCount most_call) x (y ∷ ys) is h

longer : (x : ℕ) (xs : List ℕ) → length (put nat_cmp (λ m. m) x xs) ≤ length xs + 1
longer x [] = omega arith
longer x (y ∷ ys) = by (nat_cmp y x) (longer x ys)
  where
    by : (o : Ordering) → length (put nat_cmp (λ m. m) x ys) ≤ length ys + 1 → length (match_ordering o (y ∷ put nat_cmp (λ m. m) x ys) (x ∷ ys) (x ∷ y ∷ ys)) ≤ suc (length ys) + 1
    by Less rest = omega arith
    by Equal rest = omega arith
    by Greater rest = omega arith

not_passed : (b : Bool) (reason : Reason) → passed b reason ≡ None → b ≡ false
not_passed true reason e = absurd (cc)
not_passed false reason e = refl

within : (most n : ℕ) (reason : Reason) → passed (nat_lt most n) reason ≡ None → n ≤ most
within most n reason e = ltb-false most n (not_passed (nat_lt most n) reason e)

text_is : (d : Data) → HasUtf8 d → IsText (compact_text d)
text_is d u = is_utf8-from_IsUtf8 (compact_text d) (text_utf8 d u)

line_text_is : (line : Line) → HasUtf8 (line_data line) → IsText (line_text line)
unfolding line_text
line_text_is line u = text_is (line_data line) u

import_text_is : (o : Object) → HasUtf8 (import_data o) → IsText (import_text o)
unfolding import_text
import_text_is o u = text_is (import_data o) u

pool_text_is : (pool : Pool) (size : List ℕ) → HasUtf8 (pool_data pool size) → IsText (pool_text pool size)
unfolding pool_text
pool_text_is pool size u = text_is (pool_data pool size) u

one_text : (t : List ℕ) → IsText t → All IsText (t ∷ [])
one_text t h = All-cons IsText t [] h (All-nil IsText)

said_more : (agents : List Pair) (n : ℕ) (said : Said) (meaning : Meaning) → SaidGiven agents n said → MeaningGiven agents said meaning
    → n ≤ most_lines → limit_of (and_said said n meaning) meaning ≡ None → SaidGiven agents (n + 1) (and_said said n meaning)
said_more agents n said (meanings.Pool pool size) h m few limit =
    let b = h.below in
    let more = length-append said.pools (pool ∷ []) in
    record {
      pools = sized_more said.pools said.sizes pool size h.pools m.sized;
      pool_texts = subst (λ (l : List (List ℕ)). All IsText l) (sym (pool_lines_more said.pools said.sizes pool size h.pools))
          (All-append IsText (pool_lines said.pools said.sizes) (pool_text pool size ∷ []) h.pool_texts (one_text (pool_text pool size) (pool_text_is pool size m.utf8)));
      few_pools = within most_pools (length (said.pools ++ pool ∷ [])) TooManyPools limit;
      faults = h.faults;
      fault_numbers = h.fault_numbers;
      few_faults = h.few_faults;
      imports = h.imports;
      import_texts = h.import_texts;
      lines = h.lines;
      line_texts = h.line_texts;
      below = omega arith;
      few_lines = omega arith;
    }
said_more agents n said (meanings.Fault call) h m few limit =
    let b = h.below in
    let more = longer call said.faults in
    record {
      pools = h.pools;
      pool_texts = h.pool_texts;
      few_pools = h.few_pools;
      faults = rising_put nat_cmp_total (λ k. k) call said.faults h.faults;
      fault_numbers = all_put call said.faults m.counted h.fault_numbers;
      few_faults = within most_faults (length (put nat_cmp (λ k. k) call said.faults)) TooManyFaults limit;
      imports = h.imports;
      import_texts = h.import_texts;
      lines = h.lines;
      line_texts = h.line_texts;
      below = omega arith;
      few_lines = omega arith;
    }
said_more agents n said (meanings.Import o) h m few limit =
    let b = h.below in
    let more = length-append said.imports (o ∷ []) in
    record {
      pools = h.pools;
      pool_texts = h.pool_texts;
      few_pools = h.few_pools;
      faults = h.faults;
      fault_numbers = h.fault_numbers;
      few_faults = h.few_faults;
      imports = imports_more [] said.imports o h.imports (record { object = m.object; passes = m.passes; few = sym (early_limit (said.imports ++ o ∷ []) said.lines m.early) ∙ limit });
      import_texts = subst (λ (l : List (List ℕ)). All IsText l) (sym (import_texts_more said.imports o))
          (All-append IsText (map import_text said.imports) (import_text o ∷ []) h.import_texts (one_text (import_text o) (import_text_is o m.utf8)));
      lines = lines_early said.imports (said.imports ++ o ∷ []) agents [] said.lines m.early h.lines;
      line_texts = h.line_texts;
      below = omega arith;
      few_lines = omega arith;
    }
said_more agents n said (meanings.Line line) h m few limit =
    let b = h.below in
    let more = length-append said.lines (line ∷ []) in
    record {
      pools = h.pools;
      pool_texts = h.pool_texts;
      few_pools = h.few_pools;
      faults = h.faults;
      fault_numbers = h.fault_numbers;
      few_faults = h.few_faults;
      imports = h.imports;
      import_texts = h.import_texts;
      lines = lines_more said.imports agents [] said.lines line h.lines m.given limit;
      line_texts = subst (λ (l : List (List ℕ)). All IsText l) (sym (texts_more said.lines line))
          (All-append IsText (map line_text said.lines) (line_text line ∷ []) h.line_texts (one_text (line_text line) (line_text_is line m.utf8)));
      below = omega arith;
      few_lines = omega arith;
    }

-- ---- one line

abbrev IsNow : Said → ℕ → Meaning → Said → Type 0
IsNow said n meaning now = (now ≡ and_said said n meaning) × (n ≤ most_lines)

passed_gives : (agents : List Pair) (n : ℕ) (said : Said) (meaning : Meaning) (now : Said) → SaidGiven agents n said
    → MeaningGiven agents said meaning → IsNow said n meaning now → IfOk (unless_passed (limit_of now meaning) now) (SaidGiven agents (n + 1))
passed_gives agents n said meaning now h m is =
    subst (λ (s : Said). IfOk (unless_passed (limit_of s meaning) s) (SaidGiven agents (n + 1))) (sym is.0) (by (limit_of (and_said said n meaning) meaning) refl)
  where
    by : (o : Option Reason) → limit_of (and_said said n meaning) meaning ≡ o → IfOk (unless_passed o (and_said said n meaning)) (SaidGiven agents (n + 1))
    by None e = said_more agents n said meaning h m is.1 e
    by (Some reason) e = tt

filled_gives : (agents : List Pair) (n : ℕ) (said : Said) (line : List ℕ) → AreAgents agents → SaidGiven agents n said → IfOk (and_filled agents said n line) (SaidGiven agents (n + 1))
unfolding and_filled
filled_gives agents n said line are h =
    step (WasRead 127) (SaidGiven agents (n + 1)) (line_value line) _ (line_was_read line) (λ value read.
    step (MeaningGiven agents said) (SaidGiven agents (n + 1)) (meaning_of agents said value) _ (meaning_gives agents said value are read) (λ meaning m.
    step (IsNow said n meaning) (SaidGiven agents (n + 1)) (unless (nat_lt most_lines n) TooManyLines (and_said said n meaning)) _
    (unless_gives (IsNow said n meaning) (nat_lt most_lines n) TooManyLines (and_said said n meaning) (λ e. (refl, ltb-false most_lines n e))) (λ now is.
    passed_gives agents n said meaning now h m is)))

line_gives : (agents : List Pair) (n : ℕ) (said : Said) (line : List ℕ) → AreAgents agents → SaidGiven agents n said → IfOk (and_line agents said n line) (SaidGiven agents (n + 1))
unfolding and_line
line_gives agents n said line are h =
    if_ok (SaidGiven agents (n + 1)) (nat_lt most_line_bytes (length line)) (Err TooLong) _ (λ e. tt) (λ e.
    if_ok (SaidGiven agents (n + 1)) (list_all is_blank line) (Ok said) (and_filled agents said n line) (λ f. later agents n said h) (λ f. filled_gives agents n said line are h))

-- for some number of the next line
abbrev Given : List Pair → Said → Type 0
Given agents said = (n : ℕ) × SaidGiven agents n said

at_gives : (Q : Said → Type 0) (P : Said → Type 0) (n : ℕ) (r : Result Said Reason) (next : Said → Result Said BadLine) → IfOk r P
    → ((now : Said) → P now → IfOk (next now) Q) → IfOk (at_line n r next) Q
at_gives Q P n (Ok now) next h k = k now h
at_gives Q P n (Err e) next h k = tt

lines_give : (agents : List Pair) (n : ℕ) (lines : List (List ℕ)) (said : Said) → AreAgents agents → SaidGiven agents n said → IfOk (said_from agents n lines said) (Given agents)
lines_give agents n [] said are h = (n, h)
lines_give agents n (line ∷ lines) said are h =
    at_gives (Given agents) (SaidGiven agents (n + 1)) n (and_line agents said n line) _ (line_gives agents n said line are h) (λ now k. lines_give agents (n + 1) lines now are k)

-- ---- agents

agents_put : (node : List ℕ) (agents : List Pair) → AreAgents agents → AreAgents (with_node node agents)
agents_put node [] h = (refl, tt)
agents_put node (p ∷ ps) h = by (text_cmp p.0 (agent_word node)) (agents_put node ps h.1)
  where
    by : (o : Ordering) → AreAgents (with_node node ps) → AreAgents (match_ordering o (p ∷ with_node node ps) ((agent_word node, node) ∷ ps) ((agent_word node, node) ∷ p ∷ ps))
    by Less rest = (h.0, rest)
    by Equal rest = (refl, h.1)
    by Greater rest = (refl, h)

pub agents_and : (agents : List Pair) (o : Option (List ℕ)) → AreAgents agents → AreAgents (and_node agents o)
agents_and agents None h = h
agents_and agents (Some node) h = agents_put node agents h

beside_are : (agents : List Pair) (lines : List (List ℕ)) → AreAgents agents → AreAgents (agents_beside agents lines)
beside_are agents [] h = h
beside_are agents (line ∷ lines) h = beside_are (and_node agents (node_from (own_object line))) lines (agents_and agents (node_from (own_object line)) h)

-- ---- the agents of the text are those of the nodes that its lines create or import

abbrev OwnNode : Verb → Data → Meaning → Type 0
OwnNode verb d meaning = node_from (object_by verb d) ≡ meaning_node meaning

-- a line that creates nothing
abbrev Creates : Line → Type 0
Creates line = None ≡ created_node line

none_as : (r : Result Line Reason) → IfOk r Creates → IfOk (as_line r) (λ m. None ≡ meaning_node m)
none_as (Ok line) h = h
none_as (Err e) h = tt

create_node : (r : Result Line Reason) → IfOk (as_line r) (λ m. node_from (as_line r) ≡ meaning_node m)
create_node (Ok line) = refl
create_node (Err e) = tt

update_none : (d : Data) → IfOk (update_line d) Creates
unfolding update_line
update_none d = past Creates (object_at d) _ (λ o. past Creates (user_at d) _ (λ u. refl))

edit_none : (d : Data) → IfOk (edit_line d) Creates
unfolding edit_line
edit_none d = past Creates (key_at d) _ (λ k. past Creates (edit_at d) _ (λ e. past Creates (user_at d) _ (λ u. refl)))

delete_none : (d : Data) → IfOk (delete_line d) Creates
unfolding delete_line
delete_none d = past Creates (key_at d) _ (λ k. past Creates (condition_at d) _ (λ c. past Creates (user_at d) _ (λ u. refl)))

get_none : (d : Data) → IfOk (get_line d) Creates
unfolding get_line
get_none d = past Creates (key_at d) _ (λ k. past Creates (user_at d) _ (λ u. refl))

list_none : (d : Data) → IfOk (list_line d) Creates
unfolding list_line
list_none d = past Creates (kind_at d) _ (λ k. past Creates (user_at d) _ (λ u. refl))

time_none : (d : Data) → IfOk (time_line d) Creates
unfolding time_line
time_none d = past Creates (text_at members.At d) _ (λ s. past Creates (user_at d) _ (λ u. refl))

lose_none : (agents : List Pair) (before : List Line) (d : Data) → IfOk (lose_line agents before d) Creates
unfolding lose_line
lose_none agents before d = past Creates (actor_at agents d) _ (λ a. past Creates (new_call_at members.Call (losses_of (actor_word a) before) d) _ (λ c. past Creates (when_at d) _ (λ w. refl)))

restart_none : (agents : List Pair) (before : List Line) (d : Data) → IfOk (restart_line agents before d) Creates
unfolding restart_line
restart_none agents before d = past Creates (actor_at agents d) _ (λ a. past Creates (new_call_at members.After (restarts_of (actor_word a) before) d) _ (λ c. refl))

turn_none : (agents : List Pair) (d : Data) → IfOk (turn_line agents d) Creates
unfolding turn_line
turn_none agents d = past Creates (actor_at agents d) _ (λ a. past Creates (count_at members.Calls most_turn d) _ (λ c. refl))

abbrev IsNone : Meaning → Type 0
IsNone m = None ≡ meaning_node m

pool_none : (r : Result Meaning Reason) → IfOk r IsPool → IfOk r IsNone
pool_none (Ok (meanings.Pool pool size)) h = refl
pool_none (Ok (meanings.Fault call)) h = absurd h
pool_none (Ok (meanings.Import o)) h = absurd h
pool_none (Ok (meanings.Line line)) h = absurd h
pool_none (Err e) h = tt

fault_none : (faults : List ℕ) (r : Result Meaning Reason) → IfOk r (IsFault faults) → IfOk r IsNone
fault_none faults (Ok (meanings.Pool pool size)) h = absurd h
fault_none faults (Ok (meanings.Fault call)) h = refl
fault_none faults (Ok (meanings.Import o)) h = absurd h
fault_none faults (Ok (meanings.Line line)) h = absurd h
fault_none faults (Err e) h = tt

import_node : (lines : List Line) (before : List Object) (d : Data) → IfOk (import_line lines before d) (λ m. node_from (as_import (object_at d)) ≡ meaning_node m)
unfolding import_line
import_node lines before d = by (object_at d) (has_begun lines)
  where
    last : (o : Object) (fault : Option ImportFault) → IfOk (unless_fault fault o) (λ m. node_from (as_import (Ok o)) ≡ meaning_node m)
    last o None = refl
    last o (Some fault) = tt

    by : (r : Result Object Reason) (b : Bool)
        → IfOk (r >>= λ object. unless b (BadValue members.Do) object >>= λ early. unless_fault (import_fault before early) early) (λ m. node_from (as_import r) ≡ meaning_node m)
    by (Ok o) true = tt
    by (Ok o) false = last o (import_fault before o)
    by (Err e) b = tt

own_node : (verb : Verb) (agents : List Pair) (said : Said) (d : Data) → WasRead 127 d → IfOk (meaning_by verb agents said d) (OwnNode verb d)
own_node verbs.Create agents said d h = create_node (create_line d)
own_node verbs.Update agents said d h = none_as (update_line d) (update_none d)
own_node verbs.Edit agents said d h = none_as (edit_line d) (edit_none d)
own_node verbs.Delete agents said d h = none_as (delete_line d) (delete_none d)
own_node verbs.Get agents said d h = none_as (get_line d) (get_none d)
own_node verbs.List agents said d h = none_as (list_line d) (list_none d)
own_node verbs.Time agents said d h = none_as (time_line d) (time_none d)
own_node verbs.Pool agents said d h = pool_none (pool_line d) (pool_gives d h)
own_node verbs.Fault agents said d h = fault_none said.faults (fault_line said.faults d) (fault_gives said.faults d)
own_node verbs.Import agents said d h = import_node said.lines said.imports d
own_node verbs.Lose agents said d h = none_as (lose_line agents said.lines d) (lose_none agents said.lines d)
own_node verbs.Restart agents said d h = none_as (restart_line agents said.lines d) (restart_none agents said.lines d)
own_node verbs.Turn agents said d h = none_as (turn_line agents d) (turn_none agents d)
own_node verbs.Drain agents said d h = refl

-- what the members of a value create is what its meaning creates
abbrev ValueNode : Data → Meaning → Type 0
ValueNode d meaning = node_from (verb_at d >>= λ verb. object_by verb d) ≡ meaning_node meaning

verb_step : (agents : List Pair) (said : Said) (d : Data) (r : Result Verb Reason) → WasRead 127 d
    → IfOk (r >>= λ verb. meaning_by verb agents said d) (λ m. node_from (r >>= λ verb. object_by verb d) ≡ meaning_node m)
verb_step agents said d (Ok verb) h = own_node verb agents said d h
verb_step agents said d (Err e) h = tt

value_node : (agents : List Pair) (said : Said) (d : Data) → WasRead 127 d → IfOk (meaning_of agents said d) (ValueNode d)
unfolding meaning_of
value_node agents said d h = verb_step agents said d (verb_at d) h

-- that, and it can be taken
record IsKnown (said : Said) (d : Data) (meaning : Meaning) : Type 0 where
  pub node : ValueNode d meaning
  pub can : CanTake said.lines meaning

known_both : (said : Said) (d : Data) (r : Result Meaning Reason) → IfOk r (ValueNode d) → IfOk r (CanTake said.lines) → IfOk r (IsKnown said d)
known_both said d (Ok meaning) h k = record { node = h; can = k }
known_both said d (Err e) h k = tt

value_known : (agents : List Pair) (said : Said) (d : Data) → WasRead 127 d → IfOk (meaning_of agents said d) (IsKnown said d)
value_known agents said d h = known_both said d (meaning_of agents said d) (value_node agents said d h) (meaning_can agents said d)

-- the agents with what a line creates are those of the lines with it
abbrev StillAgents : Said → Option (List ℕ) → Said → Type 0
StillAgents said node now = and_node (agents_of said.imports said.lines) node ≡ agents_of now.imports now.lines

meaning_agents : (said : Said) (n : ℕ) (meaning : Meaning) → CanTake said.lines meaning → StillAgents said (meaning_node meaning) (and_said said n meaning)
meaning_agents said n (meanings.Pool pool size) h = refl
meaning_agents said n (meanings.Fault call) h = refl
meaning_agents said n (meanings.Import o) h = sym (agents_imported said.imports said.lines o h)
meaning_agents said n (meanings.Line line) h = sym (agents_more (imported_after [] said.imports) said.lines line)

passed_agents : (said : Said) (n : ℕ) (meaning : Meaning) (now : Said) → CanTake said.lines meaning → now ≡ and_said said n meaning
    → IfOk (unless_passed (limit_of now meaning) now) (StillAgents said (meaning_node meaning))
passed_agents said n meaning now can is = by (limit_of now meaning)
  where
    by : (o : Option Reason) → IfOk (unless_passed o now) (StillAgents said (meaning_node meaning))
    by None = meaning_agents said n meaning can ∙ ap (λ (s : Said). agents_of s.imports s.lines) (sym is)
    by (Some reason) = tt

-- what a value that was read creates
abbrev made_node : Data → Option (List ℕ)
made_node value = node_from (verb_at value >>= λ verb. object_by verb value)

read_agents : (agents : List Pair) (n : ℕ) (said : Said) (value : Data) → WasRead 127 value
    → IfOk (meaning_of agents said value >>= λ meaning. unless (nat_lt most_lines n) TooManyLines (and_said said n meaning) >>= λ now. unless_passed
    (limit_of now meaning) now) (StillAgents said (made_node value))
read_agents agents n said value h =
    step (IsKnown said value) (StillAgents said (made_node value)) (meaning_of agents said value) _ (value_known agents said value h) (λ meaning k.
    step (λ now. now ≡ and_said said n meaning) (StillAgents said (made_node value))
    (unless (nat_lt most_lines n) TooManyLines (and_said said n meaning)) _
    (unless_gives (λ now. now ≡ and_said said n meaning) (nat_lt most_lines n) TooManyLines (and_said said n meaning) (λ f. refl)) (λ now is.
    subst (λ (o : Option (List ℕ)). IfOk (unless_passed (limit_of now meaning) now) (StillAgents said o)) (sym k.node) (passed_agents said n meaning now k.can is)))

-- the same of a line whose value is this
line_agents : (agents : List Pair) (n : ℕ) (said : Said) (r : Result Data Reason) → IfOk r (WasRead 127)
    → IfOk (r >>= λ value. meaning_of agents said value >>= λ meaning. unless (nat_lt most_lines n) TooManyLines
    (and_said said n meaning) >>= λ now. unless_passed (limit_of now meaning) now) (StillAgents said (node_from (r >>= λ value. verb_at value >>= λ verb. object_by verb value)))
line_agents agents n said (Ok value) h = read_agents agents n said value h
line_agents agents n said (Err e) h = tt

filled_agents : (agents : List Pair) (n : ℕ) (said : Said) (line : List ℕ) → nat_lt most_line_bytes (length line) ≡ false
    → IfOk (and_filled agents said n line) (StillAgents said (node_from (own_object line)))
unfolding and_filled own_object
filled_agents agents n said line short = rw short (line_agents agents n said (line_value line) (line_was_read line))

one_agents : (agents : List Pair) (n : ℕ) (said : Said) (line : List ℕ) → IfOk (and_line agents said n line) (StillAgents said (node_from (own_object line)))
unfolding and_line
one_agents agents n said line =
    if_ok (StillAgents said (node_from (own_object line))) (nat_lt most_line_bytes (length line)) (Err TooLong) _ (λ e. tt) (λ e.
    if_ok (StillAgents said (node_from (own_object line))) (list_all is_blank line) (Ok said) (and_filled agents said n line)
    (λ f. ap (and_node (agents_of said.imports said.lines)) (blank_node line f)) (λ f. filled_agents agents n said line e))

abbrev AllAgents : Said → List (List ℕ) → Said → Type 0
AllAgents said lines last = agents_beside (agents_of said.imports said.lines) lines ≡ agents_of last.imports last.lines

all_agents : (agents : List Pair) (n : ℕ) (lines : List (List ℕ)) (said : Said) → IfOk (said_from agents n lines said) (AllAgents said lines)
all_agents agents n [] said = refl
all_agents agents n (line ∷ lines) said =
    at_gives (AllAgents said (line ∷ lines)) (StillAgents said (node_from (own_object line))) n (and_line agents said n line) _ (one_agents agents n said line) (λ now k.
    moved agents (n + 1) lines now (and_node (agents_of said.imports said.lines) (node_from (own_object line))) k (all_agents agents (n + 1) lines now))
  where
    moved : (known : List Pair) (m : ℕ) (rest : List (List ℕ)) (now : Said) (beside : List Pair) → beside ≡ agents_of now.imports now.lines
        → IfOk (said_from known m rest now) (AllAgents now rest) → IfOk (said_from known m rest now) (λ last. agents_beside beside rest ≡ agents_of last.imports last.lines)
    moved known m rest now beside e h = subst (λ (b : List Pair). IfOk (said_from known m rest now) (λ last. agents_beside b rest ≡ agents_of last.imports last.lines)) (sym e) h

-- ---- the script

pub record ScriptGiven (s : Script) : Type 0 where
  pub script : IsScript s
  pub pool_texts : All IsText (pool_lines s.setup.pools s.sizes)
  pub import_texts : All IsText (map import_text s.setup.imports)
  pub line_texts : All IsText (map line_text s.lines)

script_given : (last : Said) (agents : List Pair) → agents ≡ agents_of last.imports last.lines → Given agents last → ScriptGiven (numbered_of last).script
unfolding numbered_of
script_given last agents e h =
    let g = h.1 in
    record {
      script = record {
        imports = g.imports;
        nodes = refl;
        pools = g.pools;
        few_pools = g.few_pools;
        faults = g.faults;
        fault_numbers = g.fault_numbers;
        few_faults = g.few_faults;
        lines = subst (λ (a : List Pair). AreLinesAfter last.imports a [] last.lines) e g.lines;
        few_lines = g.few_lines;
      };
      pool_texts = g.pool_texts;
      import_texts = g.import_texts;
      line_texts = g.line_texts;
    }

said_given : (agents : List Pair) (lines : List (List ℕ)) → agents ≡ agents_in lines → AreAgents agents → IfOk (script_from (numbered_from (said_from agents 1 lines nothing_said))) ScriptGiven
said_given agents lines e are = by (said_from agents 1 lines nothing_said) (lines_give agents 1 lines nothing_said are (nothing_given agents)) (all_agents agents 1 lines nothing_said)
  where
    by : (r : Result Said BadLine) → IfOk r (Given agents) → IfOk r (AllAgents nothing_said lines) → IfOk (script_from (numbered_from r)) ScriptGiven
    by (Ok last) g a = script_given last agents (e ∙ a) g
    by (Err b) g a = tt

-- what lines say, whatever text they are of
pub all_lines_give : (lines : List (List ℕ)) → IfOk (script_from (numbered_from (said_in lines))) ScriptGiven
all_lines_give lines = said_given (agents_in lines) lines refl (beside_are [] lines tt)

pub script_gives : (text : List ℕ) → IfOk (script_of text) ScriptGiven
unfolding read_numbered_of
script_gives text = all_lines_give (lines_of text)
