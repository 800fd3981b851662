use Rattle.std.proofs.Common.{refl, arith}
use Rattle.script_gen.specs.Draws.{state_after}
use Rattle.text_examples.specs.Gen.Draws.{DrawExamples}

pub draw_examples : DrawExamples
unfolding state_after
draw_examples = record {
  begins = refl;
  first_state = refl;
  high_bits = refl;
  first_draw = refl;
  second_draw = refl;
  seed_zero = refl;
  another_seed = refl;
  last_seed = refl;
  not_the_low_bits = λ h. omega (arith, h);
  another_multiplier = λ h. omega (arith, h);
}
