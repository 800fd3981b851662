use Rattle.std.proofs.Common.{◌≡◌, drop}
use Rattle.json_text.specs.Members.{items_data}
use Rattle.json_text.specs.Writing.{items_after}
use Rattle.piece_print.specs.Writing.{whole}
use Rattle.history_text.specs.Replies.{event_data}
use Rattle.history_text.proofs.replies.write_event_items.Given as goal

abbrev pub invariant-loop-event : goal.invariant-loop-event
invariant-loop-event l = items_after (items_data event_data (drop l.event-index l.events)) (whole l.out) ≡ items_after (items_data event_data l.events) (whole l.initial.out)
