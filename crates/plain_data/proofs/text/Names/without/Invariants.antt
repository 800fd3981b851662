-- proofs/text/Names/without/Invariants.antt
use Rattle.std.proofs.Common.{◌≡◌, ◌++◌, drop}
use Rattle.std.specs.Prelude.{bytes_eq, filter, not}
use Rattle.plain_data.proofs.text.Names.without.Given as goal

-- those kept and those that are left to keep
abbrev pub invariant-loop-item : goal.invariant-loop-item
invariant-loop-item l = l.kept ++ filter (λ n. not (bytes_eq n l.name)) (drop l.item-index l.item-items) ≡ filter (λ n. not (bytes_eq n l.name)) l.self
