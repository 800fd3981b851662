-- proofs/text/Names/contains/Invariants.antt
use Rattle.std.proofs.Common.{◌≡◌, drop}
use Rattle.std.specs.Prelude.{bytes_eq}
use Rattle.std.specs.List.{list_any}
use Rattle.plain_data.proofs.text.Names.contains.Given as goal

-- the answer is the one for the items that are left
abbrev pub invariant-loop-item : goal.invariant-loop-item
invariant-loop-item l = list_any (λ n. bytes_eq n l.name) (drop l.item-index l.item-items) ≡ list_any (λ n. bytes_eq n l.name) l.self
