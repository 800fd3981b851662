use Rattle.std.proofs.Common.{◌≡◌, drop}
use Rattle.json_text.specs.Members.{items_data}
use Rattle.json_text.specs.Writing.{written, items_after}
use Rattle.history_text.specs.Replies.{mount_data}
use Rattle.history_text.proofs.replies.write_mount_items.Given as goal

abbrev pub invariant-loop-row : goal.invariant-loop-row
invariant-loop-row l = items_after (items_data mount_data (drop l.row-index l.rows)) (written l.out) ≡ items_after (items_data mount_data l.rows) (written l.initial.out)
