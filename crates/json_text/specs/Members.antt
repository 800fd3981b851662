-- Members of printed objects and items of printed arrays.
-- Source: RFC 8259, section 4 and 5; that empty members are left out is a choice of this project, as `omitempty` of the Kubernetes API.
use Rattle.std.specs.Prelude.{ℕ, List, [], ◌∷◌, ◌++◌, Bool, true, false, Option, Some, None, ◌==◌, if◌then◌else◌, decimal}
use Rattle.serde_json.specs.Data.{Data, boolean, string, array, object, Items, no_items, item, Members, no_members, member}
use Rattle.serde_json.specs.Read.{read}
use Rattle.serde_json.specs.Written.{has_float, compact_text}
use Rattle.json_text.specs.Build.{put_some, put_all, number_data}
use Rattle.json_text.specs.Trees.{members_in}
use Rattle.plain_data.specs.Pairs.{Pair, put_pair}

-- names of members, and the values of those that are there
abbrev pub MemberList : Type 0
MemberList = List (List ℕ × Option Data)

-- a member that is a string, empty or not
abbrev pub text : List ℕ → Option Data
text s = Some (string s)

-- a member that is a whole number
abbrev pub whole : ℕ → Option Data
whole n = Some (number_data n)

-- a member that is true or false
abbrev pub flag : Bool → Option Data
flag b = Some (boolean b)

-- a text that is left out where it is empty
abbrev pub filled : List ℕ → Option Data
filled [] = None
filled (x ∷ xs) = Some (string (x ∷ xs))

-- a number in a text, left out where it is 0
abbrev pub counted : ℕ → Option Data
counted n = if n == 0 then None else text (decimal n)

-- with the member, if there is one, where f puts one
unfoldable pub with_option : {S : Type 0} → (List ℕ → Data → S → S) → List ℕ → Option Data → S → S
with_option f k None s = s
with_option f k (Some d) s = f k d s

-- with these members, one after another
abbrev pub with_options : {S : Type 0} → (List ℕ → Data → S → S) → MemberList → S → S
with_options f [] s = s
with_options f (p ∷ ps) s = with_options f ps (with_option f p.0 p.1 s)

-- an object of these members alone
abbrev pub object_of : MemberList → Data
object_of ps = object (put_all ps no_members)

-- an array of a list
abbrev pub items_data : {X : Type 0} → (X → Data) → List X → Items
items_data data_of [] = no_items
items_data data_of (x ∷ xs) = item (data_of x) (items_data data_of xs)

-- an array, even where it is empty
abbrev pub array_data : {X : Type 0} → (X → Data) → List X → Data
array_data data_of xs = array (items_data data_of xs)

-- an array that is left out where it is empty
abbrev pub filled_array : {X : Type 0} → (X → Data) → List X → Option Data
filled_array data_of [] = None
filled_array data_of (x ∷ xs) = Some (array_data data_of (x ∷ xs))

-- with a member for each pair
abbrev pub put_pairs : List Pair → Members → Members
put_pairs [] ms = ms
put_pairs (p ∷ ps) ms = put_pairs ps (put_some p.0 (text p.1) ms)

-- an object of texts
abbrev pub pairs_data : List Pair → Data
pairs_data ps = object (put_pairs ps no_members)

-- an object of texts that is left out where it is empty
abbrev pub filled_pairs : List Pair → Option Data
filled_pairs [] = None
filled_pairs (p ∷ ps) = Some (pairs_data (p ∷ ps))

-- an object that is left out where it has no member
abbrev pub filled_object : Members → Option Data
filled_object no_members = None
filled_object (member k d ms) = Some (object (member k d ms))

-- a value within objects of one member each
abbrev pub within : List ℕ → Data → Data
within name d = object_of ((name, Some d) ∷ [])

-- the members of a value that holds no float at any depth
abbrev pub members_unless : Bool → Data → Members
members_unless true d = no_members
members_unless false d = members_in d

-- the members of the object that was read, if any, unless a float stands in it
abbrev pub extra_from : Option Data → Members
extra_from None = no_members
extra_from (Some d) = members_unless (has_float d) d

-- the members that a kept text gives: those of its object; none where it is no object or holds a float
unfoldable pub extra_members : List ℕ → Members
extra_members kept = extra_from (read kept)

-- the text that is kept for members: that of their object, empty where there are none
abbrev pub extra_text : Members → List ℕ
extra_text no_members = []
extra_text (member k d ms) = compact_text (object (member k d ms))

-- members as their names and the texts of their values
abbrev pub member_texts : Members → List Pair
member_texts no_members = []
member_texts (member k d ms) = (k, compact_text d) ∷ member_texts ms

-- with the member, over any of its name
abbrev pub with_member_text : List ℕ → Data → List Pair → List Pair
with_member_text k d rows = put_pair k (compact_text d) rows

-- with these members at the end
abbrev pub then_texts : Members → List Pair → List Pair
then_texts no_members rows = rows
then_texts (member k d ms) rows = then_texts ms (rows ++ (k, compact_text d) ∷ [])

-- the pairs as members whose values are strings
abbrev pub pair_members : List Pair → MemberList
pair_members [] = []
pair_members (p ∷ ps) = (p.0, text p.1) ∷ pair_members ps
