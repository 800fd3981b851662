use Rattle.std.proofs.Common.{◌≡◌, ◌≤◌, nat_lt, take}
use Rattle.std.specs.List.{count_by}
use Rattle.extended_text.proofs.places.count_below.Given as goal

-- so many of the numbers so far are below
abbrev pub invariant-loop-other : goal.invariant-loop-other
invariant-loop-other l = record {
  below : l.count ≡ count_by (λ n. nat_lt n l.number) (take l.other-index l.numbers);
  within : l.count ≤ l.other-index;
}
