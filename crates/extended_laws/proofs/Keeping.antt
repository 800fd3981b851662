-- What extended runs keep, together.
use Rattle.std.proofs.Common.{◌≡◌, ℕ, ◌+◌, List, [], ◌∷◌, refl, ap, ◌∙◌}
use Rattle.script_text.specs.declared.script.Line.{Line}
use Rattle.extended_text.specs.declared.sides.PlacedSide.{PlacedSide}
use Rattle.extended_text.specs.declared.sides.SideLine.{SideLine}
use Rattle.extended_text.specs.declared.sides.SideLine.TheVariants.{Grow, Quota, Reserve}
use Rattle.extended_runs.specs.Works.{OfScript, Work, lines_in, sides_before, sides_behind, with_side, with_sides, works_from}
use Rattle.extended_laws.specs.Laws.{ExtendedRunsKeep, WorksHaveLines}
use Rattle.extended_laws.proofs.Users.{users_in_order}
use Rattle.extended_laws.proofs.Walking.{run_leaves, run_played, run_replays, runs_answer, runs_hold}

pub extended_runs_keep : ExtendedRunsKeep
extended_runs_keep script given works option kept m ending lines run = record {
  left = run_leaves script given works option kept m ending run lines;
  replay = run_replays script given works option kept m ending run lines;
  played = run_played script given works option kept m ending run lines;
  answers = runs_answer script given works option kept m ending run;
  holds = runs_hold script given works option kept m ending run;
  users = users_in_order script given works option kept m ending run;
}

-- ---- the works of an extended script

side_has_none : (line : SideLine) (works : List Work) → lines_in (with_side line works) ≡ lines_in works
side_has_none (Grow user key bytes) works = refl
side_has_none (Quota quota) works = refl
side_has_none (Reserve bytes) works = refl

sides_have_none : (sides : List PlacedSide) (works : List Work) → lines_in (with_sides sides works) ≡ lines_in works
sides_have_none [] works = refl
sides_have_none (s ∷ sides) works = side_has_none s.line (with_sides sides works) ∙ sides_have_none sides works

works_have : (place : ℕ) (lines : List Line) (sides : List PlacedSide) → lines_in (works_from place lines sides) ≡ lines
works_have place [] sides = sides_have_none sides []
works_have place (line ∷ lines) sides =
    sides_have_none (sides_before place sides) (OfScript line ∷ works_from (place + 1) lines (sides_behind place sides))
    ∙ ap (λ ls. line ∷ ls) (works_have (place + 1) lines (sides_behind place sides))

pub works_have_lines : WorksHaveLines
works_have_lines extended = works_have 0 extended.script.lines extended.sides
