-- How many bytes the compact text of a value has.
-- Source: RFC 8259, section 6: a number that is not whole has a point or an exponent. That each counts as the fewest bytes it
-- can have is a choice of this project: which digits are printed for it is said by no clause.
use Rattle.std.specs.Prelude.{ℕ, ◌+◌, ◌<◌, ◌≡◌, Bool, Option, Some, None, if◌then◌else◌, length}
use Rattle.serde_json.specs.Data.{Data, null, boolean, number, string, array, object, Items, no_items, item, Members, no_members, member}
use Rattle.serde_json.specs.Find.{is_float}
use Rattle.serde_json.specs.Written.{compact_text, items_text, members_text}

-- three bytes, as 0.5 has, for each number that is not whole; no other bytes count here
abbrev mutual
  pub float_bytes : Data → ℕ
  float_bytes null = 0
  float_bytes (boolean b) = 0
  float_bytes (number n) = if is_float n then 3 else 0
  float_bytes (string s) = 0
  float_bytes (array ds) = items_float_bytes ds
  float_bytes (object ms) = members_float_bytes ms

  pub items_float_bytes : Items → ℕ
  items_float_bytes no_items = 0
  items_float_bytes (item d ds) = float_bytes d + items_float_bytes ds

  pub members_float_bytes : Members → ℕ
  members_float_bytes no_members = 0
  members_float_bytes (member k d ms) = float_bytes d + members_float_bytes ms

-- how many bytes the compact text of the value has at least; exactly so many where each number is whole. The text itself
-- leaves out the numbers that are not whole
abbrev pub least_bytes : Data → ℕ
least_bytes d = length (compact_text d) + float_bytes d

-- the same of items and of members, up to the closing bracket
abbrev pub least_items : Bool → Items → ℕ
least_items later ds = length (items_text later ds) + items_float_bytes ds

-- the same of the members of an object, up to the closing bracket
abbrev pub least_members : Bool → Members → ℕ
least_members later ms = length (members_text later ms) + members_float_bytes ms

-- what is left of a room from which so many bytes are taken; nothing where they are more
abbrev pub Leaves : ℕ → ℕ → Option ℕ → Type 0
Leaves bytes room None = room < bytes
Leaves bytes room (Some left) = left + bytes ≡ room
