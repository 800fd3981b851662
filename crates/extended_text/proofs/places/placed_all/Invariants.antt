use Rattle.std.proofs.Common.{◌≡◌, map, take}
use Rattle.extended_text.specs.Extended.{placed}
use Rattle.extended_text.proofs.places.placed_all.Given as goal

-- the side's lines so far have their places
abbrev pub invariant-loop-side : goal.invariant-loop-side
invariant-loop-side l = l.all ≡ map (placed l.numbers) (take l.side-index l.sides)
