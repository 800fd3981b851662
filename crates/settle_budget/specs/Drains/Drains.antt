-- How many writes and calls a drain makes, by its rounds and by the world with which it begins.
-- A choice of this project.
use Rattle.std.specs.Prelude.{ℕ, ◌+◌, List}
use Rattle.call_types.specs.declared.entry.Entry.{Entry}
use Rattle.call_types.specs.declared.setup.Setup.{Setup}
use Rattle.actor_rounds.specs.declared.drainers.Drainer.{Drainer}
use Rattle.actor_rounds.specs.Rounds.{Drains, Goes, IsSpent, Lets, NothingDue}

-- how many rounds the drain makes
abbrev pub rounds_in : (lets : Lets) (setup : Setup) (after : List Drainer) (past : List Entry) (left : ℕ) (ds : List Drainer) (h : List Entry) (b : ℕ) → Drains lets setup after past left ds h b → ℕ
rounds_in lets setup after past left ds h b (NothingDue settled same entries rest) = 0
rounds_in lets setup after past left ds h b (IsSpent first due none same entries rest) = 0
rounds_in lets setup after past left ds h b (Goes first due some between middle rest whole round more) = 1 + rounds_in lets setup after past left between middle rest more
