-- What generated scripts are.
-- A choice of this project: the script format.
use Rattle.std.specs.Prelude.{ℕ, ◌≡◌, ◌+◌, length}
use Rattle.script_gen.specs.Generated.{generated}
use Rattle.script_laws.specs.Read.Scripts.{IsScript}

-- whatever the seed, a text can give the script: its lines are those of users, its objects those of manifests, and no limit is passed
abbrev pub GeneratedIsScript : Type 0
GeneratedIsScript = (seed : ℕ) → IsScript (generated seed)

-- and it has 712 lines, with that of the pool
abbrev pub CountsLines : Type 0
CountsLines = (seed : ℕ) → length (generated seed).setup.pools + length (generated seed).lines ≡ 712
