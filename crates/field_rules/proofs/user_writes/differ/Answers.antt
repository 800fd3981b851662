use Rattle.std.proofs.Common.{refl}
use mathlib.Core.Bool.{xor}
use Rattle.field_rules.proofs.user_writes.differ.Goals as goal

pub returns : goal.returns
unfolding xor
returns c = refl
