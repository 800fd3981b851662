-- What `clap` makes of the words, word by word: the parts of the grammar.
use Rattle.std.proofs.Common.{
  ◌≡◌,
  ◌∙◌,
  ◌&&◌,
  ◌||◌,
  inl,
  inr,
  ℕ,
  Bool,
  cond,
  codes,
  true,
  false,
  not,
  refl,
  sym,
  ap,
  ap₂,
  subst,
  List,
  [],
  ◌∷◌,
  ◌++◌,
  length,
  Option,
  Some,
  None,
  is_some,
  true≢false,
  append-nil,
}
use Rattle.std.specs.List.{find, fold, list_all, list_any}
use Rattle.std.specs.Option.{option_map_or}
use Rattle.std.specs.Prelude.{slice_get}
use Rattle.std.specs.Str.{bytes_eq, chars}
use Rattle.std.proofs.lemmas.Bool.{not-true}
use Rattle.clap.specs.Lexer.{long_of, short_of}
use Rattle.clap.specs.Walk.{
  Held,
  Row,
  Rule,
  Step,
  Waiting,
  Walk,
  after_flag,
  after_step,
  arg_by_id,
  arg_by_index,
  arg_by_long,
  at_row,
  bundle,
  bundle_met,
  done,
  finished,
  has_row,
  idle,
  is_pending,
  long_met,
  long_or_other,
  long_word,
  more_values,
  nothing_held,
  option,
  option_word,
  plain_word,
  pushed,
  refused,
  settled,
  settled_rows,
  short_or_plain,
  takes_several,
  trailing,
  used,
  used_by_id,
  value,
  walk,
  walk_from,
  walked,
  with_default,
  without,
}
use Rattle.clap.specs.Simple.{Shape, built, entered, filled, matches_of}
use Rattle.clap.specs.Kinds.{Kinds, or_else}
use Rattle.clap.specs.Faults.{
  bundle_fault,
  check_fault,
  default_fault,
  defaults_fault,
  entered_fault,
  fault_of,
  flag_word_fault,
  flags_fault,
  long_fault,
  positional_fault,
  settle_fault,
  step_fault,
  stray_fault,
  turn_fault,
  use_fault,
  walk_fault,
}
use Rattle.clap.specs.declared.error.kind.ErrorKind.TheVariants as kind
use Rattle.clap.specs.declared.parser.matches.ValueSource.TheVariants.{CommandLine}
use Rattle.command_words.specs.Grammar.{Part, Text, is_option, last_parts, option_parts, parts_from, with_part, word_parts, words_of}
use Rattle.command_words.specs.Steps.Line.{line, option_rule}
use Rattle.command_words.specs.declared.words.CommandWords.{CommandWords}
use Rattle.command_words.proofs.Parts.{adds, all_added, bad_command, bad_number, has_more, hyphen, hyphen_of_long, hyphen_of_short, is_one_of, itself, one_none, reads, row, same_text, take_part}

abbrev shape : Shape
shape = (built line).top

abbrev rules : List Rule
rules = shape.rules

-- a rule of the command as it is built
abbrev taken_rule : Option ℕ → Option Text → Text → Rule
taken_rule index long id = record (filled (option_rule id)) { index = index; long = long }

abbrev option_taken : Text → Rule
option_taken name = taken_rule None (Some name) name

abbrev command_taken : Rule
command_taken = taken_rule (Some 1) None (codes "command")

abbrev Pending : Type 0
Pending = Option (Text × List Text)

abbrev held : List Row → Pending → Held
held rows p = record { rows = rows; pending = p; skip = 0 }

abbrev at : List Row → Pending → Waiting → ℕ → Bool → Walk
at rows p waiting position is_trailing = record {
  held = held rows p;
  waiting = waiting;
  position = position;
  is_trailing = is_trailing;
  stopped = None;
}

abbrev place : Bool → ℕ
place has_command = cond has_command 2 1

abbrev is_nil : Kinds → Bool
is_nil [] = true
is_nil (k ∷ ks) = false

nil_or : (a b : Kinds) → is_nil (or_else a b) ≡ (is_nil a && is_nil b)
nil_or [] b = refl
nil_or (k ∷ ks) b = refl

-- what is said where the walk ends, and what the words from a walk on say
abbrev ends : Held → Option CommandWords
ends h = cond (is_nil (settle_fault rules false h)) (reads (settled rules h).rows) None

abbrev says : Walk → List Text → Option CommandWords
says w words = cond (is_nil (walk_fault shape [] w words)) (ends (fold (walked rules []) w words).held) None

says_none : (w : Walk) → says w [] ≡ ends w.held
unfolding walk_fault
says_none w = refl

step : (w : Walk) (word : Text) (rest : List Text) → says w (word ∷ rest) ≡ cond (is_nil (turn_fault shape [] w word)) (says (walked rules [] w word) rest) None
unfolding walk_fault
step w word rest = go (turn_fault shape [] w word)
  where
    go : (k : Kinds) → cond (is_nil (or_else k (walk_fault shape [] (walked rules [] w word) rest))) (ends (fold (walked rules []) (walked rules [] w word) rest).held) None
        ≡ cond (is_nil k) (says (walked rules [] w word) rest) None
    go [] = refl
    go (k ∷ ks) = refl

-- ---- the rules

abbrev found_long : Text → Option Rule
found_long name = cond (is_option name) (Some (option_taken name)) None

arg_long : (name : Text) → arg_by_long rules name ≡ found_long name
arg_long name = go (bytes_eq (codes "workers") name) (bytes_eq (codes "seed") name) (bytes_eq (codes "calls") name) (bytes_eq (codes "budget") name)
    (same_text _ _) (same_text _ _) (same_text _ _) (same_text _ _)
  where
    go : (a b c d : Bool) → (a ≡ true → codes "workers" ≡ name) → (b ≡ true → codes "seed" ≡ name) → (c ≡ true → codes "calls" ≡ name) → (d ≡ true → codes "budget" ≡ name)
        → cond (a || false) (Some (option_taken (codes "workers")))
        (cond (b || false) (Some (option_taken (codes "seed"))) (cond (c || false) (Some (option_taken (codes "calls"))) (cond (d || false) (Some (option_taken (codes "budget"))) None)))
        ≡ cond (a || (b || (c || d))) (Some (option_taken name)) None
    go true b c d f g h k = ap (λ n. Some (option_taken n)) (f refl)
    go false true c d f g h k = ap (λ n. Some (option_taken n)) (g refl)
    go false false true d f g h k = ap (λ n. Some (option_taken n)) (h refl)
    go false false false true f g h k = ap (λ n. Some (option_taken n)) (k refl)
    go false false false false f g h k = refl

arg_id : (name : Text) → is_option name ≡ true → arg_by_id rules name ≡ Some (option_taken name)
arg_id name known = elim (is_one_of name known) [
  | inl h ↦ subst (λ n. arg_by_id rules n ≡ Some (option_taken n)) h refl
  | inr r ↦ elim r [
    | inl h ↦ subst (λ n. arg_by_id rules n ≡ Some (option_taken n)) h refl
    | inr s ↦ elim s [
      | inl h ↦ subst (λ n. arg_by_id rules n ≡ Some (option_taken n)) h refl
      | inr h ↦ subst (λ n. arg_by_id rules n ≡ Some (option_taken n)) h refl
    ]
  ]
]

not_command : (name : Text) → is_option name ≡ true → bytes_eq name (codes "command") ≡ false
not_command name known = elim (is_one_of name known) [
  | inl h ↦ subst (λ n. bytes_eq n (codes "command") ≡ false) h refl
  | inr r ↦ elim r [
    | inl h ↦ subst (λ n. bytes_eq n (codes "command") ≡ false) h refl
    | inr s ↦ elim s [
      | inl h ↦ subst (λ n. bytes_eq n (codes "command") ≡ false) h refl
      | inr h ↦ subst (λ n. bytes_eq n (codes "command") ≡ false) h refl
    ]
  ]
]

-- ---- one use

none_at : (id : Text) (change : Row → List Row) (missing rows : List Row) → has_row id rows ≡ false → at_row id change missing rows ≡ rows ++ missing
none_at id change missing [] e = refl
none_at id change missing (r ∷ rs) e = go (bytes_eq r.id id) e (none_at id change missing rs)
  where
    go : (b : Bool) → (b || has_row id rs) ≡ false → (has_row id rs ≡ false → at_row id change missing rs ≡ rs ++ missing)
        → cond b (change r ++ rs) (r ∷ at_row id change missing rs) ≡ r ∷ (rs ++ missing)
    go true h later = absurd (true≢false h)
    go false h later = ap (λ xs. r ∷ xs) (later h)

module _ (index : Option ℕ) (long : Option Text) (id text : Text) (rows : List Row) where
  use_nil : is_nil (use_fault false (taken_rule index long id) (text ∷ []) rows) ≡ not (has_row id rows)
  use_nil = go (has_row id rows)
    where
      go : (b : Bool) → is_nil (or_else (cond (b && true) (kind.ArgumentConflict ∷ []) []) []) ≡ not b
      go true = refl
      go false = refl

  used_new : has_row id rows ≡ false → used (taken_rule index long id) (text ∷ []) rows ≡ rows ++ row (id, text) ∷ []
  used_new e =
      ap (at_row id (more_values CommandLine (text ∷ [])) (row (id, text) ∷ [])) (none_at id (λ _. []) [] rows e ∙ append-nil rows)
      ∙ none_at id (more_values CommandLine (text ∷ [])) (row (id, text) ∷ []) rows e

  module _ (found : arg_by_id rules id ≡ Some (taken_rule index long id)) where
    settle_full : is_nil (settle_fault rules false (held rows (Some (id, text ∷ [])))) ≡ not (has_row id rows)
    settle_full = ap (λ o. is_nil (option_map_or (λ a. use_fault false a (text ∷ []) rows) o [])) found ∙ use_nil

    settled_full : has_row id rows ≡ false → settled_rows rules (Some (id, text ∷ [])) rows ≡ rows ++ row (id, text) ∷ []
    settled_full e = ap (λ o. used_by_id o (text ∷ []) rows) found ∙ used_new e

settle_empty : (name : Text) (rows : List Row) → is_option name ≡ true → is_nil (settle_fault rules false (held rows (Some (name, [])))) ≡ false
settle_empty name rows known = ap (λ o. is_nil (option_map_or (λ a. use_fault false a [] rows) o [])) (arg_id name known)

-- ---- where the walk stands between two words

record Stands (rows : List Row) (p : Pending) (taken : List Row) (good has_command : Bool) : Type 0 where
  fault : is_nil (settle_fault rules false (held rows p)) ≡ good
  rows_are : good ≡ true → settled_rows rules p rows ≡ taken
  command : good ≡ true → has_row (codes "command") taken ≡ has_command

-- a part that has been read stands still to be settled
module _ (name : Text) (taken : List Row) (text : Text) (has_command : Bool) where
  command_more : bytes_eq name (codes "command") ≡ false → has_row (codes "command") taken ≡ has_command → has_row (codes "command") (taken ++ row (name, text) ∷ []) ≡ has_command
  command_more e h = has_more taken (name, text) (codes "command") ∙ ap₂ (λ a b. a || (b || false)) h e ∙ go has_command
    where
      go : (b : Bool) → (b || false) ≡ b
      go true = refl
      go false = refl

option_stands : (name text : Text) (taken : List Row) (has_command : Bool) → is_option name ≡ true → has_row (codes "command") taken ≡ has_command
    → Stands taken (Some (name, text ∷ [])) (taken ++ row (name, text) ∷ []) (not (has_row name taken)) has_command
option_stands name text taken has_command known h = record {
  fault = settle_full None (Some name) name text taken (arg_id name known);
  rows_are = λ e. settled_full None (Some name) name text taken (arg_id name known) (not-true _ e);
  command = λ e. command_more name taken text has_command (not_command name known) h;
}

command_stands : (text : Text) (taken : List Row) → has_row (codes "command") taken ≡ false
    → Stands taken (Some (codes "command", text ∷ [])) (taken ++ row (codes "command", text) ∷ []) true true
command_stands text taken h = record {
  fault = settle_full (Some 1) None (codes "command") text taken refl ∙ ap not h;
  rows_are = λ e. settled_full (Some 1) None (codes "command") text taken refl h;
  command = λ e. has_more taken (codes "command", text) (codes "command") ∙ ap (λ b. b || true) h;
}

and_false : (b : Bool) → (b && false) ≡ false
and_false true = refl
and_false false = refl

-- ---- a word that no flag takes goes to the place of the command

-- what the words say after it
abbrev plain_says : Text → Held → Waiting → Bool → Bool → List Text → Option CommandWords
plain_says word h waiting has_command is_trailing rest =
    cond (is_nil (step_fault shape (place has_command) h value))
    (says (after_step rules word (record { held = h; waiting = waiting; position = place has_command; is_trailing = is_trailing; stopped = None }) h value) rest)
    None

positional_nil : (rows : List Row) (p : Pending) → is_nil (positional_fault rules false command_taken (held rows p)) ≡ is_nil (settle_fault rules false (held rows p))
positional_nil rows p = ap (λ b. is_nil (cond b [] (settle_fault rules false (held rows p)))) (and_false (is_pending command_taken p))

blocked : (word : Text) (rows : List Row) (p : Pending) (waiting : Waiting) (has_command is_trailing : Bool) (rest : List Text)
    → is_nil (settle_fault rules false (held rows p)) ≡ false → plain_says word (held rows p) waiting has_command is_trailing rest ≡ None
blocked word rows p waiting true is_trailing rest e = refl
blocked word rows p waiting false is_trailing rest e =
    ap (λ b. cond b (says (after_step rules word (at rows p waiting 1 is_trailing) (held rows p) value) rest) None) (positional_nil rows p ∙ e)

abbrev after_plain : Text → Held → Bool → Bool → Walk
after_plain word h is_trailing same = record {
  held = pushed (codes "command") word (cond same h (settled rules h));
  waiting = idle;
  position = 2;
  is_trailing = is_trailing;
  stopped = None;
}

plain_step : (word : Text) (rows : List Row) (p : Pending) (waiting : Waiting) (is_trailing : Bool) (rest : List Text)
    → plain_says word (held rows p) waiting false is_trailing rest
    ≡ cond (is_nil (settle_fault rules false (held rows p))) (says (at (settled_rows rules p rows) (Some (codes "command", word ∷ [])) idle 2 is_trailing) rest) None
plain_step word rows p waiting true rest =
    ap (λ b. cond (is_nil (cond b [] (settle_fault rules false (held rows p)))) (says (after_plain word (held rows p) true b) rest) None) (and_false (is_pending command_taken p))
plain_step word rows p waiting false rest =
    ap (λ b. cond (is_nil (cond b [] (settle_fault rules false (held rows p)))) (says (after_plain word (held rows p) false b) rest) None) (and_false (is_pending command_taken p))

settle_to : {X : Type 0} (good : Bool) (f : List Row → Option X) (rows taken : List Row) → (good ≡ true → rows ≡ taken) → cond good (f rows) None ≡ cond good (f taken) None
settle_to true f rows taken h = ap f (h refl)
settle_to false f rows taken h = refl

module _ (rows : List Row) (p : Pending) (taken : List Row) (good has_command : Bool) (st : Stands rows p taken good has_command) where
  stands_to : {X : Type 0} (f : List Row → Option X) → cond (is_nil (settle_fault rules false (held rows p))) (f (settled_rows rules p rows)) None ≡ cond good (f taken) None
  stands_to f = ap (λ b. cond b (f (settled_rows rules p rows)) None) st.fault ∙ settle_to good f (settled_rows rules p rows) taken st.rows_are

  ends_is : ends (held rows p) ≡ cond good (adds taken (Some [])) None
  ends_is = stands_to reads ∙ ap (λ rs. cond good (reads rs) None) (sym (append-nil taken))

plain_idle : (word : Text) (is_trailing : Bool) (rest : List Text) (rows : List Row) (p : Pending) (taken : List Row) (good has_command : Bool) → Stands rows p taken good has_command
    → plain_says word (held rows p) idle has_command is_trailing rest ≡ cond good (cond has_command None (says (at taken (Some (codes "command", word ∷ [])) idle 2 is_trailing) rest)) None
plain_idle word is_trailing rest rows p taken good true st = sym (one_none good)
plain_idle word is_trailing rest rows p taken good false st =
    plain_step word rows p idle is_trailing rest ∙ stands_to rows p taken good false st (λ rs. says (at rs (Some (codes "command", word ∷ [])) idle 2 is_trailing) rest)

-- the command word is a part
command_part : (taken : List Row) (word : Text) (o : Option (List Part)) (said : Option CommandWords) (has_command : Bool) → has_row (codes "command") taken ≡ has_command
    → (has_command ≡ false → said ≡ adds (taken ++ row (codes "command", word) ∷ []) o) → cond has_command None said ≡ adds taken (with_part (codes "command") word o)
command_part taken word o said true h is = sym (take_part taken (codes "command") word o ∙ ap (λ b. cond b None (adds (taken ++ row (codes "command", word) ∷ []) o)) h)
command_part taken word o said false h is = is refl ∙ sym (take_part taken (codes "command") word o ∙ ap (λ b. cond b None (adds (taken ++ row (codes "command", word) ∷ []) o)) h)

-- ---- after `--`

step_trailing : (word : Text) (rest : List Text) (rows : List Row) (p : Pending) (waiting : Waiting) (has_command : Bool)
    → says (at rows p waiting (place has_command) true) (word ∷ rest) ≡ plain_says word (held rows p) waiting has_command true rest
unfolding walked
step_trailing word rest rows p waiting has_command = step (at rows p waiting (place has_command) true) word rest

last_said : (word : Text) (rest : List Text) (taken : List Row) (has_command : Bool) → has_row (codes "command") taken ≡ has_command
    → cond has_command None (says (at taken (Some (codes "command", word ∷ [])) idle 2 true) rest) ≡ adds taken (last_parts (word ∷ rest))
last_said word [] taken has_command h = command_part taken word (Some []) _ has_command h by
  where
    by : has_command ≡ false → says (at taken (Some (codes "command", word ∷ [])) idle 2 true) [] ≡ adds (taken ++ row (codes "command", word) ∷ []) (Some [])
    by e = says_none _ ∙ ends_is taken (Some (codes "command", word ∷ [])) (taken ++ row (codes "command", word) ∷ []) true true (command_stands word taken (h ∙ e))
last_said word (next ∷ rest) taken true h = refl
last_said word (next ∷ rest) taken false h = step_trailing next rest taken (Some (codes "command", word ∷ [])) idle true

trailed : (rest : List Text) (rows : List Row) (p : Pending) (taken : List Row) (good has_command : Bool) → Stands rows p taken good has_command
    → says (at rows p idle (place has_command) true) rest ≡ cond good (adds taken (last_parts rest)) None
trailed [] rows p taken good has_command st = says_none _ ∙ ends_is rows p taken good has_command st
trailed (word ∷ rest) rows p taken good has_command st =
    step_trailing word rest rows p idle has_command ∙ plain_idle word true rest rows p taken good has_command st ∙ go good st.command
  where
    go : (b : Bool) → (b ≡ true → has_row (codes "command") taken ≡ has_command)
        → cond b (cond has_command None (says (at taken (Some (codes "command", word ∷ [])) idle 2 true) rest)) None ≡ cond b (adds taken (last_parts (word ∷ rest))) None
    go true h = last_said word rest taken has_command (h refl)
    go false h = refl

ends_empty : (name : Text) (rows : List Row) → is_option name ≡ true → ends (held rows (Some (name, []))) ≡ None
ends_empty name rows known = ap (λ b. cond b (reads (settled_rows rules (Some (name, [])) rows)) None) (settle_empty name rows known)

-- an option whose number is missing
dead : (rest : List Text) (name : Text) (taken : List Row) (has_command : Bool) → is_option name ≡ true
    → says (at taken (Some (name, [])) (option name) (place has_command) true) rest ≡ None
dead [] name taken has_command known = says_none _ ∙ ends_empty name taken known
dead (word ∷ rest) name taken has_command known =
    step_trailing word rest taken (Some (name, [])) (option name) has_command
    ∙ blocked word taken (Some (name, [])) (option name) has_command true rest (settle_empty name taken known)

-- ---- before `--`

abbrev flag_fault : Option (Text × Option Text) → Option Text → Held → Kinds
flag_fault (Some p) s h = long_fault rules false (arg_by_long rules p.0) p.1 h
flag_fault None s h = option_map_or (λ flags. bundle_fault rules false flags h) s []

abbrev met_by : Option (Text × Option Text) → Option Text → Waiting → Text → Held → Held × Step
met_by (Some p) s waiting word h = long_word rules waiting word p.0 p.1 h
met_by None s waiting word h = short_or_plain rules waiting word s h

abbrev said_with : Kinds → Held × Step → Walk → Text → List Text → Option CommandWords
said_with fault met w word rest = cond (is_nil (or_else fault (step_fault shape w.position met.0 met.1))) (says (after_step rules word w met.0 met.1) rest) None

abbrev said_by : Bool → Option (Text × Option Text) → Option Text → Walk → Text → List Text → Option CommandWords
said_by d l s w word rest = said_with (cond d [] (flag_fault l s w.held)) (cond d (w.held, trailing w.position) (met_by l s w.waiting word w.held)) w word rest

flag_is : (l : Option (Text × Option Text)) (word : Text) (h : Held) → flag_word_fault rules false l word h ≡ flag_fault l (short_of word) h
flag_is (Some p) word h = refl
flag_is None word h = refl

met_is : (l : Option (Text × Option Text)) (waiting : Waiting) (word : Text) (h : Held) → long_or_other rules waiting word l h ≡ met_by l (short_of word) waiting word h
met_is (Some p) waiting word h = refl
met_is None waiting word h = refl

abbrev dashes : Text
dashes = codes "--"

step_idle : (word : Text) (rest : List Text) (rows : List Row) (p : Pending) (position : ℕ)
    → says (at rows p idle position false) (word ∷ rest) ≡ said_by (bytes_eq word dashes) (long_of word) (short_of word) (at rows p idle position false) word rest
unfolding walked
step_idle word rest rows p position =
    step (at rows p idle position false) word rest
    ∙ ap₂ (λ (fault : Kinds) (met : Held × Step). said_with (cond (bytes_eq word dashes) [] fault)
    (cond (bytes_eq word dashes) (held rows p, trailing position) met) (at rows p idle position false) word rest)
    (flag_is (long_of word) word (held rows p)) (met_is (long_of word) idle word (held rows p))

step_waits : (word : Text) (rest : List Text) (name : Text) (rows : List Row) (p : Pending) (position : ℕ)
    → says (at rows p (option name) position false) (word ∷ rest) ≡ said_by (bytes_eq word dashes) (long_of word) (short_of word) (at rows p (option name) position false) word rest
unfolding walked
step_waits word rest name rows p position =
    step (at rows p (option name) position false) word rest
    ∙ ap₂ (λ (fault : Kinds) (met : Held × Step). said_with (cond (bytes_eq word dashes) [] fault)
    (cond (bytes_eq word dashes) (held rows p, trailing position) met) (at rows p (option name) position false) word rest)
    (flag_is (long_of word) word (held rows p)) (met_is (long_of word) (option name) word (held rows p))

-- a word `-x` is refused
abbrev opens : Text → Bool
opens [] = false
opens (x ∷ xs) = is_some (slice_get (chars (x ∷ xs)) 0)

short_case : (flags : Text) (rows : List Row) (p : Pending) (waiting : Waiting) (position : ℕ) (word : Text) (rest : List Text)
    → said_by false None (Some flags) (at rows p waiting position false) word rest ≡ cond (opens flags) None (said_by false None None (at rows p waiting position false) word rest)
unfolding flags_fault bundle_met
short_case [] rows p waiting position word rest = refl
short_case (x ∷ xs) rows p waiting position word rest = go (slice_get (chars (x ∷ xs)) 0)
  where
    go : (o : Option ℕ)
        → said_with (Rattle.clap.specs.Faults.bundle_step_fault rules false o (x ∷ xs) 0 (held rows p) (flags_fault rules false (length xs)))
        (after_flag rules waiting word (Rattle.clap.specs.Walk.bundle_step rules o (x ∷ xs) 0 Rattle.clap.specs.Walk.plain (held rows p) (bundle_met rules (length xs))).0
        (Rattle.clap.specs.Walk.bundle_step rules o (x ∷ xs) 0 Rattle.clap.specs.Walk.plain (held rows p) (bundle_met rules (length xs))).1)
        (at rows p waiting position false) word rest
        ≡ cond (is_some o) None (said_by false None None (at rows p waiting position false) word rest)
    go None = refl
    go (Some y) = refl

abbrev said_long : Option Rule → Option Text → Walk → Text → List Text → Option CommandWords
said_long o v w word rest = said_with (long_fault rules false o v w.held) (after_flag rules w.waiting word (long_met rules o v w.held).0 (long_met rules o v w.held).1) w word rest

-- ---- words at which nothing waits

and_true : (b : Bool) → (b && true) ≡ b
and_true true = refl
and_true false = refl

module _ (name : Text) (known : is_option name ≡ true) (word : Text) (rest : List Text) (rows : List Row) (p : Pending) (taken : List Row)
    (good has_command : Bool) (st : Stands rows p taken good has_command) where
  abbrev said_joined : Text → List Row → Option CommandWords
  said_joined text rs = cond (not (has_row name rs)) (says (at (used (option_taken name) (text ∷ []) rs) None idle (place has_command) false) rest) None

  joined : (text : Text) → said_long (Some (option_taken name)) (Some text) (at rows p idle (place has_command) false) word rest ≡ cond good (said_joined text taken) None
  joined text =
      go (settle_fault rules false (held rows p)) (use_fault false (option_taken name) (text ∷ []) (settled_rows rules p rows))
      (says (at (used (option_taken name) (text ∷ []) (settled_rows rules p rows)) None idle (place has_command) false) rest)
      ∙ ap (λ b. cond (is_nil (settle_fault rules false (held rows p)))
      (cond b (says (at (used (option_taken name) (text ∷ []) (settled_rows rules p rows)) None idle (place has_command) false) rest) None) None)
      (use_nil None (Some name) name text (settled_rows rules p rows))
      ∙ stands_to rows p taken good has_command st (said_joined text)
    where
      go : (f u : Kinds) (said : Option CommandWords) → cond (is_nil (or_else (or_else f u) [])) said None ≡ cond (is_nil f) (cond (is_nil u) said None) None
      go [] [] said = refl
      go [] (k ∷ ks) said = refl
      go (k ∷ ks) u said = refl

  apart : said_long (Some (option_taken name)) None (at rows p idle (place has_command) false) word rest ≡ cond good
      (says (at taken (Some (name, [])) (option name) (place has_command) false) rest) None
  apart =
      ap (λ b. cond b (says (at (settled_rows rules p rows) (Some (name, [])) (option name) (place has_command) false) rest) None) (nil_or (settle_fault rules false (held rows p)) [] ∙ and_true _)
      ∙ stands_to rows p taken good has_command st (λ rs. says (at rs (Some (name, [])) (option name) (place has_command) false) rest)

-- what holds of the words from a walk on
abbrev Idle : List Text → Type 0
Idle words = (rows : List Row) (p : Pending) (taken : List Row) (good has_command : Bool) → Stands rows p taken good has_command
    → says (at rows p idle (place has_command) false) words ≡ cond good (adds taken (parts_from None words)) None

abbrev Waits : List Text → Type 0
Waits words = (name : Text) (taken : List Row) (has_command : Bool) → is_option name ≡ true → has_row (codes "command") taken ≡ has_command
    → says (at taken (Some (name, [])) (option name) (place has_command) false) words ≡ adds taken (parts_from (Some name) words)

taken_stands : (taken : List Row) (has_command : Bool) → has_row (codes "command") taken ≡ has_command → Stands taken None taken true has_command
taken_stands taken has_command h = record { fault = refl; rows_are = λ e. refl; command = λ e. h }

module _ (word : Text) (rest : List Text) (idles : Idle rest) (waits : Waits rest) where
  -- an option and its number, joined or apart
  joined_part : (name text : Text) (taken : List Row) (has_command : Bool) → is_option name ≡ true → has_row (codes "command") taken ≡ has_command
      → cond (not (has_row name taken)) (says (at (used (option_taken name) (text ∷ []) taken) None idle (place has_command) false) rest) None ≡ adds taken (with_part name text (parts_from None rest))
  joined_part name text taken has_command known h = go (has_row name taken) refl ∙ sym (take_part taken name text (parts_from None rest))
    where
      go : (b : Bool) → has_row name taken ≡ b
          → cond (not b) (says (at (used (option_taken name) (text ∷ []) taken) None idle (place has_command) false) rest) None ≡ cond b None
          (adds (taken ++ row (name, text) ∷ []) (parts_from None rest))
      go true e = refl
      go false e =
          ap (λ rs. says (at rs None idle (place has_command) false) rest) (used_new None (Some name) name text taken e)
          ∙ idles (taken ++ row (name, text) ∷ []) None (taken ++ row (name, text) ∷ []) true has_command
          (taken_stands (taken ++ row (name, text) ∷ []) has_command (command_more name taken text has_command (not_command name known) h))

  apart_part : (name : Text) (taken : List Row) (has_command : Bool) → is_option name ≡ true → has_row (codes "command") taken ≡ has_command
      → says (at taken (Some (name, word ∷ [])) idle (place has_command) false) rest ≡ adds taken (with_part name word (parts_from None rest))
  apart_part name taken has_command known h =
      idles taken (Some (name, word ∷ [])) (taken ++ row (name, word) ∷ []) (not (has_row name taken)) has_command (option_stands name word taken has_command known h)
      ∙ go (has_row name taken) ∙ sym (take_part taken name word (parts_from None rest))
    where
      go : (b : Bool) → cond (not b) (adds (taken ++ row (name, word) ∷ []) (parts_from None rest)) None ≡ cond b None (adds (taken ++ row (name, word) ∷ []) (parts_from None rest))
      go true = refl
      go false = refl

  module _ (rows : List Row) (p : Pending) (taken : List Row) (good has_command : Bool) (st : Stands rows p taken good has_command) where
    long_idle : (name : Text) (v : Option Text) → said_long (arg_by_long rules name) v (at rows p idle (place has_command) false) word rest
        ≡ cond good (adds taken (word_parts (Some (name, v)) word (parts_from None rest) (λ n. parts_from (Some n) rest))) None
    long_idle name v = ap (λ o. said_long o v (at rows p idle (place has_command) false) word rest) (arg_long name) ∙ go (is_option name) refl v
      where
        inside : (b : Bool) (x y : Option CommandWords) → (b ≡ true → x ≡ y) → cond b x None ≡ cond b y None
        inside true x y h = h refl
        inside false x y h = refl

        go : (k : Bool) → is_option name ≡ k → (v : Option Text) → said_long (cond k (Some (option_taken name)) None) v (at rows p idle (place has_command) false) word rest
            ≡ cond good (adds taken (cond k (option_parts name v (parts_from None rest) (parts_from (Some name) rest)) None)) None
        go false e v = sym (one_none good)
        go true e (Some text) = joined name e word rest rows p taken good has_command st text ∙ inside good _ _ (λ g. joined_part name text taken has_command e (st.command g))
        go true e None = apart name e word rest rows p taken good has_command st ∙ inside good _ _ (λ g. waits name taken has_command e (st.command g))

    plain_part : said_by false None None (at rows p idle (place has_command) false) word rest ≡ cond good (adds taken (with_part (codes "command") word (parts_from None rest))) None
    plain_part = plain_idle word false rest rows p taken good has_command st ∙ go good st.command
      where
        go : (b : Bool) → (b ≡ true → has_row (codes "command") taken ≡ has_command)
            → cond b (cond has_command None (says (at taken (Some (codes "command", word ∷ [])) idle 2 false) rest)) None ≡ cond b
            (adds taken (with_part (codes "command") word (parts_from None rest))) None
        go true h = command_part taken word (parts_from None rest) _ has_command (h refl) (λ e.
            idles taken (Some (codes "command", word ∷ [])) (taken ++ row (codes "command", word) ∷ []) true true (command_stands word taken (h refl ∙ e)))
        go false h = refl

    idle_word : says (at rows p idle (place has_command) false) (word ∷ rest) ≡ cond good (adds taken (parts_from None (word ∷ rest))) None
    idle_word = step_idle word rest rows p (place has_command) ∙ go (bytes_eq word dashes) (long_of word) (short_of word) refl
      where
        go : (d : Bool) (l : Option (Text × Option Text)) (s : Option Text) → short_of word ≡ s
            → said_by d l s (at rows p idle (place has_command) false) word rest
            ≡ cond good (adds taken (cond d (last_parts rest) (word_parts l word (parts_from None rest) (λ name. parts_from (Some name) rest)))) None
        go true l s e = trailed rest rows p taken good has_command st
        go false (Some q) s e = long_idle q.0 q.1
        go false None None e = plain_part
        go false None (Some flags) e = short_case flags rows p idle (place has_command) word rest ∙ refused_or (opens flags)
          where
            refused_or : (b : Bool) → cond b None (said_by false None None (at rows p idle (place has_command) false) word rest) ≡ cond good (adds
                taken (with_part (codes "command") word (parts_from None rest))) None
            refused_or true = sym (ap (λ x. cond good x None) (bad_command taken word (parts_from None rest) (hyphen_of_short word flags e)) ∙ one_none good)
            refused_or false = plain_part

  -- ---- words at which an option waits for its number

  module _ (name : Text) (taken : List Row) (has_command : Bool) (known : is_option name ≡ true) (h : has_row (codes "command") taken ≡ has_command) where
    abbrev here : Walk
    here = at taken (Some (name, [])) (option name) (place has_command) false

    unsettled : (f u : Kinds) (said : Option CommandWords) → is_nil f ≡ false → cond (is_nil (or_else (or_else f u) [])) said None ≡ None
    unsettled [] u said e = absurd (true≢false e)
    unsettled (k ∷ ks) u said e = refl

    unsettled_bare : (f : Kinds) (said : Option CommandWords) → is_nil f ≡ false → cond (is_nil (or_else f [])) said None ≡ None
    unsettled_bare [] said e = absurd (true≢false e)
    unsettled_bare (k ∷ ks) said e = refl

    long_waits : (other : Text) (v : Option Text) → said_long (arg_by_long rules other) v here word rest ≡ None
    long_waits other v = ap (λ o. said_long o v here word rest) (arg_long other) ∙ go (is_option other) v
      where
        go : (k : Bool) (v : Option Text) → said_long (cond k (Some (option_taken other)) None) v here word rest ≡ None
        go false v = refl
        go true (Some text) = unsettled (settle_fault rules false (held taken (Some (name, [])))) (use_fault false (option_taken other) (text ∷ [])
            (settled_rows rules (Some (name, [])) taken)) _ (settle_empty name taken known)
        go true None = unsettled_bare (settle_fault rules false (held taken (Some (name, [])))) _ (settle_empty name taken known)

    plain_waits : said_by false None None here word rest ≡ adds taken (with_part name word (parts_from None rest))
    plain_waits =
        ap (λ o. said_with [] (
          (option_word o name word (held taken (Some (name, [])))).0,
          Rattle.clap.specs.Walk.next
              (option_word o name word (held taken (Some (name, [])))).1,
        ) here word rest) (arg_id name known)
        ∙ ap (λ b. says (at taken (Some (name, word ∷ [])) (cond (Rattle.std.specs.Prelude.nat_lt (cond b 1 0) 1) (option name) idle) (place has_command) false) rest) (itself name)
        ∙ apart_part name taken has_command known h

    waits_word : says here (word ∷ rest) ≡ adds taken (parts_from (Some name) (word ∷ rest))
    waits_word = step_waits word rest name taken (Some (name, [])) (place has_command) ∙ go (bytes_eq word dashes) (long_of word) (short_of word) refl refl refl
      where
        go : (d : Bool) (l : Option (Text × Option Text)) (s : Option Text) → bytes_eq word dashes ≡ d → long_of word ≡ l → short_of word ≡ s
            → said_by d l s here word rest ≡ adds taken (with_part name word (parts_from None rest))
        go true l s is e f = dead rest name taken has_command known ∙ sym (bad_number taken name word (parts_from None rest) known (ap hyphen (same_text word dashes is)))
        go false (Some q) s is e f = long_waits q.0 q.1 ∙ sym (bad_number taken name word (parts_from None rest) known (hyphen_of_long word q e))
        go false None None is e f = plain_waits
        go false None (Some flags) is e f = short_case flags taken (Some (name, [])) (option name) (place has_command) word rest ∙ refused_or (opens flags)
          where
            refused_or : (b : Bool) → cond b None (said_by false None None here word rest) ≡ adds taken (with_part name word (parts_from None rest))
            refused_or true = sym (bad_number taken name word (parts_from None rest) known (hyphen_of_short word flags f))
            refused_or false = plain_waits

each_word : (words : List Text) → Idle words × Waits words
each_word [] = (
  λ rows p taken good has_command st. says_none _ ∙ ends_is rows p taken good has_command st,
  λ name taken has_command known h. says_none _ ∙ ends_empty name taken known,
)
each_word (word ∷ rest) = (idle_word word rest (each_word rest).0 (each_word rest).1, waits_word word rest (each_word rest).0 (each_word rest).1)

-- ---- the whole parse

module _ (index : Option ℕ) (long : Option Text) (id : Text) (rows : List Row) (rest : List Rule) where
  no_fault : defaults_fault rows (taken_rule index long id ∷ rest) ≡ defaults_fault rows rest
  unfolding defaults_fault
  no_fault = go (has_row id rows)
    where
      go : (b : Bool) → or_else (cond (b || true) [] []) (defaults_fault (cond b rows rows) rest) ≡ defaults_fault rows rest
      go true = refl
      go false = refl

  no_default : with_default rows (taken_rule index long id) ≡ rows
  no_default = go (has_row id rows)
    where
      go : (b : Bool) → cond b rows rows ≡ rows
      go true = refl
      go false = refl

-- the rules of the options after the first ones
abbrev budget_rule : List Rule
budget_rule = option_taken (codes "budget") ∷ []

abbrev from_calls : List Rule
from_calls = option_taken (codes "calls") ∷ budget_rule

abbrev from_seed : List Rule
from_seed = option_taken (codes "seed") ∷ from_calls

abbrev from_workers : List Rule
from_workers = option_taken (codes "workers") ∷ from_seed

no_faults : (rows : List Row) → defaults_fault rows rules ≡ []
unfolding defaults_fault
no_faults rows =
    no_fault (Some 1) None (codes "command") rows from_workers
    ∙ no_fault None (Some (codes "workers")) (codes "workers") rows from_seed
    ∙ no_fault None (Some (codes "seed")) (codes "seed") rows from_calls
    ∙ no_fault None (Some (codes "calls")) (codes "calls") rows budget_rule
    ∙ no_fault None (Some (codes "budget")) (codes "budget") rows []

abbrev option_default : Text → List Row → List Row
option_default name rows = with_default rows (option_taken name)

no_defaults : (rows : List Row) → fold with_default rows rules ≡ rows
no_defaults rows =
    ap (λ rs. option_default (codes "budget") (option_default (codes "calls") (option_default (codes "seed") (option_default (codes "workers") rs))))
    (no_default (Some 1) None (codes "command") rows [])
    ∙ ap (λ rs. option_default (codes "budget") (option_default (codes "calls") (option_default (codes "seed") rs))) (no_default None (Some (codes "workers")) (codes "workers") rows [])
    ∙ ap (λ rs. option_default (codes "budget") (option_default (codes "calls") rs)) (no_default None (Some (codes "seed")) (codes "seed") rows [])
    ∙ ap (λ rs. option_default (codes "budget") rs) (no_default None (Some (codes "calls")) (codes "calls") rows [])
    ∙ no_default None (Some (codes "budget")) (codes "budget") rows []

no_entered : (stop : Option (Text × List Text)) → entered_fault (built line) stop ≡ []
no_entered None = refl
no_entered (Some p) = refl

never_entered : (stop : Option (Text × List Text)) → is_some (entered (built line) stop) ≡ false
never_entered None = refl
never_entered (Some p) = refl

abbrev end_of : List Text → Held
end_of words = (walk rules [] nothing_held words).held

abbrev whole_fault : List Text → Kinds → Bool → Kinds → Kinds
whole_fault words below entered defaults =
    or_else (walk_fault shape [] (walk_from nothing_held) words)
    (or_else below (or_else (settle_fault rules false (end_of words)) (or_else defaults (check_fault shape (finished rules (end_of words)) entered))))

fault_is : (words : List Text) → fault_of line words ≡ whole_fault words [] false []
fault_is words =
    let stop = (walk rules [] nothing_held words).stopped in
    (λ i. whole_fault words (no_entered stop i) (never_entered stop i) (no_faults (settled_rows rules (end_of words).pending (end_of words).rows) i))

matches_are : (words : List Text) → matches_of line words ≡ settled_rows rules (end_of words).pending (end_of words).rows
matches_are words = no_defaults (settled_rows rules (end_of words).pending (end_of words).rows)

-- a parse says what the words say
pub parse_says : (words : List Text) → words_of words ≡ cond (is_nil (fault_of line words)) (reads (matches_of line words)) None
parse_says words =
    sym (ap₂ (λ (k : Kinds) (rows : List Row). cond (is_nil k) (reads rows) None) (fault_is words) (matches_are words)
    ∙ go (walk_fault shape [] (walk_from nothing_held) words) (settle_fault rules false (end_of words)) (reads (settled_rows rules (end_of words).pending (end_of words).rows))
    ∙ (each_word words).0 [] None [] true false (taken_stands [] false refl)
    ∙ all_added words)
  where
    go : (w s : Kinds) (said : Option CommandWords) → cond (is_nil (or_else w (or_else s []))) said None ≡ cond (is_nil w) (cond (is_nil s) said None) None
    go [] [] said = refl
    go [] (k ∷ ks) said = refl
    go (k ∷ ks) s said = refl

-- no kind of error, and the matches; or some kind
pub parse_ok : (words : List Text) → fault_of line words ≡ [] → words_of words ≡ reads (matches_of line words)
parse_ok words e = parse_says words ∙ ap (λ k. cond (is_nil k) (reads (matches_of line words)) None) e

pub parse_fails : (words : List Text) (k : _) (ks : Kinds) → fault_of line words ≡ k ∷ ks → words_of words ≡ None
parse_fails words k ks e = parse_says words ∙ ap (λ f. cond (is_nil f) (reads (matches_of line words)) None) e
