-- Unique ids, as UUIDs.
-- Source: RFC 9562, sections 4 and 5.8, and the crate `uuid` for the forms that are read; the serial in it is a choice of this project.
use Rattle.std.specs.Prelude.{◌≡◌, ℕ, ◌+◌, ◌^◌, ◌<◌, List, Option, Some, option_map}
use Rattle.std.specs.Int.{from_be_bytes, to_be_bytes, w128}
use Rattle.uuid.specs.Text.{hyphenated_text, lower, parsed}
use Rattle.kube_parts.specs.declared.uid.Uid.{Uid}

-- RFC 9562, section 5.8: version 8, whose free bits hold the serial number below 2^62, the others 0
abbrev pub uid_of_serial : ℕ → Uid
uid_of_serial n = record { 0 = 2 ^ 79 + 2 ^ 63 + n }

-- RFC 9562, section 4: the sixteen bytes, the highest first, hyphenated in lower case
unfoldable pub uid_text : Uid → List ℕ
uid_text u = hyphenated_text lower (to_be_bytes w128 u.0)

-- the UUID of a text in one of the four forms of the crate `uuid`
unfoldable pub uid_of_text : List ℕ → Option Uid
uid_of_text text = option_map (λ bytes. record { 0 = from_be_bytes w128 bytes }) (parsed text)

-- two serial numbers, two ids
abbrev pub SerialsAreApart : Type 0
SerialsAreApart = (m n : ℕ) → uid_of_serial m ≡ uid_of_serial n → m ≡ n

-- the text of an id gives it back
abbrev pub UidReadsBack : Type 0
UidReadsBack = (u : Uid) → u.0 < 2 ^ 128 → uid_of_text (uid_text u) ≡ Some u
