-- Where a seat stands with a kind, as the code has it.
-- A choice of this project, as the rows are.
use Rattle.std.specs.Prelude.{ℕ, Option, Some, None}
use Rattle.binder_model.specs.Reading.{Following, Unlisted, ListedAt}

-- the version of the list, and the one that a watch has reached since
abbrev pub as_following : Option (ℕ × Option ℕ) → Following
as_following None = Unlisted
as_following (Some p) = ListedAt p.0 p.1
