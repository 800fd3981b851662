-- A source and a sink in memory, as others see them.
-- A choice of this project.
use Rattle.std.specs.Prelude.{ℕ, List, drop, length, min}
use Rattle.fault_io.specs.Faults.{one_more}

-- what is left, how many bytes a read gives at most, the numbers of the calls that fail, the calls and the faults so far
pub record SourceState : Type 0 where
  pub left : List ℕ
  pub piece : ℕ
  pub fails : List ℕ
  pub calls : ℕ
  pub faults : ℕ

-- what was written, how many more bytes it takes, and the faults so far
pub record SinkState : Type 0 where
  pub written : List ℕ
  pub room : ℕ
  pub faults : ℕ

-- how many bytes a read into a buffer of this length gives
abbrev pub read_count : SourceState → ℕ → ℕ
read_count s size = min (min size s.piece) (length s.left)

-- after a read that gave n bytes
abbrev pub after_read : SourceState → ℕ → SourceState
after_read s n = record s { left = drop n s.left; calls = one_more s.calls }

-- after a read that failed
abbrev pub after_failed_read : SourceState → SourceState
after_failed_read s = record s { calls = one_more s.calls; faults = one_more s.faults }
