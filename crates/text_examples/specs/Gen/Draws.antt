-- The first draws of some seeds, beside numbers that they are not.
-- A choice of this project, as the definitions are.
use Rattle.std.specs.Prelude.{◌≡◌, ◌≢◌, ◌/◌, ◌^◌}
use Rattle.script_gen.specs.Draws.{state_after, draw}

pub record DrawExamples : Type 0 where
  pub begins : state_after 1 0 ≡ 1
  pub first_state : state_after 1 1 ≡ 7806831264735756412
  pub high_bits : 7806831264735756412 / 2 ^ 33 ≡ 908834774
  pub first_draw : draw 1 1 16 ≡ 6
  pub second_draw : draw 1 2 4 ≡ 1
  pub seed_zero : state_after 0 1 ≡ 1442695040888963407
  pub another_seed : draw 2 1 16 ≡ 12
  pub last_seed : draw 18446744073709551615 1 16 ≡ 8
  pub not_the_low_bits : draw 1 1 16 ≢ 12
  pub another_multiplier : state_after 1 1 ≢ 7806831264735756414
