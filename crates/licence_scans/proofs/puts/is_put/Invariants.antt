use Rattle.std.proofs.Common.{◌≡◌, ◌↔◌, ◌≤◌, ◌-◌, drop, length}
use Rattle.plain_data.specs.Pairs.{put_pair}
use Rattle.licence_scans.proofs.puts.is_put.Given as goal

-- what is left of both is to be tested still
abbrev pub invariant-loop-place : goal.invariant-loop-place
invariant-loop-place l = record {
  within : l.place ≤ length l.old;
  left : (drop l.place l.new ≡ put_pair l.key l.value (drop l.place l.old)) ↔ (l.new ≡ put_pair l.key l.value l.old);
}

abbrev pub decreases-loop-place : goal.decreases-loop-place
decreases-loop-place l = length l.old - l.place
