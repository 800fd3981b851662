-- A generated script keeps the limits of scripts.
use Rattle.std.proofs.Common.{◌≡◌, ℕ, subst, sym}
use Rattle.script_text.specs.declared.script.Script.{Script}
use Rattle.script_runs.specs.Limits.{IsReadable}
use Rattle.script_runs.proofs.Readable.{script_readable}
use Rattle.script_gen.specs.Generated.{generated}
use Rattle.script_laws.proofs.Generated.Whole.{generated_is_script}

pub generated_is_readable : (seed : ℕ) (script : Script) → script ≡ generated seed → IsReadable script
generated_is_readable seed script same = subst IsReadable (sym same) (script_readable (generated seed) (generated_is_script seed))
