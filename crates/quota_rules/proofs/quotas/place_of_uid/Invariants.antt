use Rattle.std.proofs.Common.{◌≡◌, ◌+◌, ◌≤◌, drop}
use Rattle.quota_rules.specs.Steps.Places.{place_of_uid}
use Rattle.quota_rules.proofs.quotas.place_of_uid.Given as goal

abbrev pub invariant-loop-x : goal.invariant-loop-x
invariant-loop-x l = record {
  place : l.place + place_of_uid l.namespace l.uid (drop l.x-index l.counted) ≡ place_of_uid l.namespace l.uid l.counted;
  few : l.place ≤ l.x-index;
}
