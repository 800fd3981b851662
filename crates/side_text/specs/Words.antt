-- The printed words of the side.
-- A choice of this project: the format of extended histories.
use Rattle.std.specs.Prelude.{ℕ, List, codes}
use Rattle.side_calls.specs.declared.sizes.StepKind.{StepKind}
use Rattle.side_calls.specs.declared.sizes.StepKind.TheVariants as steps
use Rattle.side_calls.specs.declared.sizes.Why.{Why}
use Rattle.side_calls.specs.declared.sizes.Why.TheVariants as whys

-- the word `do` of a step of growth, by the number that it raises
abbrev pub step_word : StepKind → List ℕ
step_word steps.Data = codes "data"
step_word steps.Volume = codes "volume"
step_word steps.Given = codes "given"

-- why a claim may not grow
abbrev pub why_word : Why → List ℕ
why_word whys.Absent = codes "Absent"
why_word whys.Deleting = codes "Deleting"
why_word whys.NotBound = codes "NotBound"
why_word whys.Static = codes "Static"
why_word whys.Class = codes "Class"
why_word whys.Smaller = codes "Smaller"
