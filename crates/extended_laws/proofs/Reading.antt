-- The script of an extended script that was read is one that a text can give.
use Rattle.std.proofs.Common.{◌≡◌, map, Result, Ok, Err, IfOk, ap, subst}
use Rattle.script_lines.specs.declared.errors.BadLine.{BadLine}
use Rattle.script_text.specs.declared.script.Numbered.{Numbered}
use Rattle.script_text.specs.Grammar.{lines_of, read_lines_of, script_from}
use Rattle.script_laws.specs.Read.Scripts.{IsScript}
use Rattle.script_laws.proofs.Read.TextsGive.{ScriptGiven, all_lines_give}
use Rattle.extended_text.specs.declared.progress.SideSaid.{SideSaid}
use Rattle.extended_text.specs.declared.sides.Extended.{Extended}
use Rattle.extended_laws.specs.Laws.{ExtendedGives}
use Rattle.extended_text.specs.Extended.{blanked, extended_by, extended_of, joined, sides_in}

same_script : (numbered : Numbered) (said : SideSaid) (extended : Extended) → extended_by numbered said ≡ extended → numbered.script ≡ extended.script
unfolding extended_by
same_script numbered said extended is = ap (λ (e : Extended). e.script) is

halves_give : (numbered : Result Numbered BadLine) (said : Result SideSaid BadLine) (extended : Extended) → IfOk (script_from numbered) ScriptGiven
    → joined numbered said ≡ Ok extended → IsScript extended.script
halves_give (Ok numbered) (Ok said) extended given e =
    let is : extended_by numbered said ≡ extended = cc in subst IsScript (same_script numbered said extended is) given.script
halves_give (Ok numbered) (Err bad) extended given e = absurd (cc)
halves_give (Err bad) said extended given e = absurd (cc)

pub extended_gives : ExtendedGives
unfolding extended_of
extended_gives text extended e =
    halves_give (read_lines_of (map blanked (lines_of text))) (sides_in (lines_of text)) extended (all_lines_give (map blanked (lines_of text))) e
