use Rattle.std.proofs.Common.{◌≡◌, ◌-◌, ◌≤◌, drop}
use Rattle.informer_cache.proofs.Rising.{is_rising}
use Rattle.informer_cache.proofs.merge.are_in_order.Given as goal

-- each of those so far stands before the next one
abbrev pub invariant-loop-place : goal.invariant-loop-place
invariant-loop-place l = record {
  first : 1 ≤ l.place;
  rest : is_rising (drop (l.place - 1) l.items) ≡ is_rising l.items;
}
