-- Places that hold whole numbers alone.
use Rattle.std.specs.Prelude.{◌≡◌, false, ⊤, Option, Some, None}
use Rattle.serde_json.specs.Data.{Data}
use Rattle.serde_json.specs.Written.{has_float}

-- no value, or one whose numbers are whole numbers of 64 bits, at any depth
abbrev pub IsWholePlace : Option Data → Type 0
IsWholePlace None = ⊤
IsWholePlace (Some d) = has_float d ≡ false
