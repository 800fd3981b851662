-- What an answer says of a condition: yes, that it holds; no, where all is known, that it does not.
-- A choice of this project.
use Rattle.std.specs.Prelude.{Bool, IsTrue}

-- a test that is right where it says yes, and complete where the record is whole
abbrev pub Judges : Type 0 → Bool → Type 0 → Type 0
Judges whole told P = (IsTrue told → P) × (whole → P → IsTrue told)
