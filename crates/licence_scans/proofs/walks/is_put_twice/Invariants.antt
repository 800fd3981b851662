use Rattle.std.proofs.Common.{◌≡◌, ◌↔◌, ◌≤◌, ◌-◌, drop, length}
use Rattle.plain_data.specs.Pairs.{put_pair}
use Rattle.licence_scans.proofs.walks.is_put_twice.Given as goal

-- what is left of both is to be tested still
abbrev pub invariant-loop-place : goal.invariant-loop-place
invariant-loop-place l = record {
  within : l.place ≤ length l.old;
  left : (drop l.place l.new ≡ put_pair l.first l.first_value (put_pair l.second l.second_value (drop l.place l.old))) ↔
      (l.new ≡ put_pair l.first l.first_value (put_pair l.second l.second_value l.old));
}

abbrev pub decreases-loop-place : goal.decreases-loop-place
decreases-loop-place l = length l.old - l.place
