use Rattle.std.proofs.Common.{◌≡◌, drop}
use Rattle.std.specs.Cmp.Lexicographic.{pointwise}
use Rattle.binder_model.specs.World.{fits_shape}
use Rattle.world_core.proofs.moments.fits.Given as goal

abbrev pub invariant-loop-i : goal.invariant-loop-i
invariant-loop-i l = pointwise fits_shape l.shape l.bytes ≡ pointwise fits_shape (drop l.i l.shape) (drop l.i l.bytes)
