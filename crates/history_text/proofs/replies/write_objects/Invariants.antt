use Rattle.std.proofs.Common.{◌≡◌, drop}
use Rattle.json_text.specs.Members.{items_data}
use Rattle.json_text.specs.Writing.{items_after}
use Rattle.piece_print.specs.Writing.{whole}
use Rattle.object_print.specs.Objects.{object_data}
use Rattle.history_text.proofs.replies.write_objects.Given as goal

abbrev pub invariant-loop-object : goal.invariant-loop-object
invariant-loop-object l = items_after (items_data object_data (drop l.object-index l.objects)) (whole l.out) ≡ items_after (items_data object_data l.objects) (whole l.initial.out)
