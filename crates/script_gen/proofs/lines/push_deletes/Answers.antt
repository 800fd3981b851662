use Rattle.std.proofs.Common.{ℕ, refl, ap, ◌∙◌, arith}
use Rattle.script_gen.specs.Generated.{delete_line}
use Rattle.script_gen.proofs.Each.{none_yet, one_line}
use Rattle.script_gen.proofs.lines.push_deletes.Goals as goal

pub loop-i-init : goal.loop-i-init
loop-i-init c = record { seed = refl; made = c.requires; lines = none_yet _ _ }

pub loop-i-preserved : goal.loop-i-preserved
loop-i-preserved c = record {
  seed = c.in_ok-delete_line.ensures.seed ∙ c.loop-i.invariant.seed;
  made = omega (arith, c.in_ok-delete_line.ensures.made);
  lines = one_line _ _ c.loop-i.i (delete_line c.args.draws.now.seed) _ _ c.loop-i.invariant.lines c.in_ok-push.ensures.ok
      (c.in_ok-delete_line.ensures.line ∙ ap (λ (seed : ℕ). delete_line seed c.loop-i.i) c.loop-i.invariant.seed);
}
