-- What a value is that may be absent.
-- A choice of this project.
use Rattle.std.specs.Prelude.{ℕ, List, Bool, Option, Some, None, option_and_then}
use Rattle.serde_json.specs.Data.{Data, null, boolean, number, string, array, object, Items, Members}
use Rattle.serde_json.specs.Find.{as_number, as_u64, as_bool, as_str, as_array, as_object}

-- absent also where it is null
abbrev pub unless_null : Option Data → Option Data
unless_null None = None
unless_null (Some null) = None
unless_null (Some (boolean b)) = Some (boolean b)
unless_null (Some (number n)) = Some (number n)
unless_null (Some (string s)) = Some (string s)
unless_null (Some (array ds)) = Some (array ds)
unless_null (Some (object ms)) = Some (object ms)

-- the text, where the value is there and is a string
abbrev pub text_in : Option Data → Option (List ℕ)
text_in o = option_and_then as_str o

-- a whole number of 64 bits that is not negative
abbrev pub whole_in : Option Data → Option ℕ
whole_in o = option_and_then (λ d. option_and_then as_u64 (as_number d)) o

-- the truth value, where the value is there and is one
abbrev pub boolean_in : Option Data → Option Bool
boolean_in o = option_and_then as_bool o

-- the items, where the value is there and is an array
abbrev pub items_in : Option Data → Option Items
items_in o = option_and_then as_array o

-- the members, where the value is there and is an object
abbrev pub object_in : Option Data → Option Members
object_in o = option_and_then as_object o
