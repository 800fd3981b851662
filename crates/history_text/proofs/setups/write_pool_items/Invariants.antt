use Rattle.std.proofs.Common.{◌≡◌, drop}
use Rattle.json_text.specs.Members.{items_data}
use Rattle.json_text.specs.Writing.{written, items_after}
use Rattle.history_text.specs.Entries.{pool_data}
use Rattle.history_text.proofs.setups.write_pool_items.Given as goal

abbrev pub invariant-loop-pool : goal.invariant-loop-pool
invariant-loop-pool l = items_after (items_data pool_data (drop l.pool-index l.pools)) (written l.out) ≡ items_after (items_data pool_data l.pools) (written l.initial.out)
