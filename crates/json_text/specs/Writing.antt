-- Compact JSON text that grows by values and members.
-- Source: RFC 8259; that it is compact is a choice of this project.
use Rattle.std.specs.Prelude.{ℕ, List, [], ◌∷◌, ◌++◌, Bool, true, false, Option}
use Rattle.json.specs.Print.{quoted}
use Rattle.std.specs.Ordering.{nat_cmp, match_ordering}
use Rattle.std.specs.Cmp.Lexicographic.{slice_cmp}
use Rattle.serde_json.specs.Data.{Data, Items, no_items, item}
use Rattle.serde_json.specs.Written.{comma_if, compact_text}
use Rattle.plain_data.specs.Pairs.{Pair}
use Rattle.json_text.specs.Members.{MemberList, with_option, with_options}
use Rattle.json_text.specs.declared.writing.JsonText.{JsonText}

-- the text, and whether a value stands before what comes next
abbrev pub Writing : Type 0
Writing = List ℕ × Bool

-- the text that a writer has, and whether a value stands before what comes next
abbrev pub written : JsonText → Writing
written o = (o.bytes.items, o.later)

-- the text that a writer has
abbrev pub text_of : JsonText → List ℕ
text_of o = o.bytes.items

-- with a line feed
unfoldable pub line_ended : Writing → Writing
line_ended w = (w.0 ++ 10 ∷ [], false)

-- with the comma that is wanted
unfoldable pub after_comma : Writing → List ℕ
after_comma w = w.0 ++ comma_if w.1

-- with the text of a value
unfoldable pub with_text : List ℕ → Writing → Writing
with_text text w = (after_comma w ++ text, true)

-- with the compact text of a value
abbrev pub with_value : Data → Writing → Writing
with_value d w = with_text (compact_text d) w

-- with the name of a member
unfoldable pub with_key : List ℕ → Writing → Writing
with_key k w = ((after_comma w ++ quoted k) ++ 58 ∷ [], false)

-- within an object, or an array
unfoldable pub opened : ℕ → Writing → Writing
opened c w = (after_comma w ++ c ∷ [], false)

-- behind an object, or an array, with its closing bracket
unfoldable pub closed : ℕ → Writing → Writing
closed c w = (w.0 ++ c ∷ [], true)

-- with the member
abbrev pub with_member : List ℕ → Data → Writing → Writing
with_member k d w = with_value d (with_key k w)

-- with the member, if there is one
abbrev pub with_some : List ℕ → Option Data → Writing → Writing
with_some k o w = with_option with_member k o w

-- with these members, one after another
abbrev pub with_all : MemberList → Writing → Writing
with_all ps w = with_options with_member ps w

-- with these members, whose values are texts already
abbrev pub with_texts : List Pair → Writing → Writing
with_texts [] w = w
with_texts (p ∷ ps) w = with_texts ps (with_text p.1 (with_key p.0 w))

-- with their object as the member, left out where there are none
abbrev pub with_filled_texts : List ℕ → List Pair → Writing → Writing
with_filled_texts k [] w = w
with_filled_texts k (p ∷ ps) w = closed 125 (with_texts (p ∷ ps) (opened 123 (with_key k w)))

-- with these items, one after another
abbrev pub items_after : Items → Writing → Writing
items_after no_items w = w
items_after (item d ds) w = items_after ds (with_value d w)

-- the names are in order, each once, whether their members are there or not
abbrev pub rise_from : List ℕ → MemberList → Bool
rise_from k [] = true
rise_from k (p ∷ ps) = match_ordering (slice_cmp nat_cmp k p.0) (rise_from p.0 ps) false false

-- the names of the members are in order, each once, whether their members are there or not
abbrev pub names_rise : MemberList → Bool
names_rise [] = true
names_rise (p ∷ ps) = rise_from p.0 ps
