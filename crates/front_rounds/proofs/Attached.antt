-- After a turn nothing is next, and so a Mount that is due and not held passes: the law on held rounds applies.
use Rattle.std.proofs.Common.{ℕ, List, Bool, subst}
use Rattle.call_types.specs.declared.entry.Entry.{Entry}
use Rattle.call_types.specs.declared.setup.Setup.{Setup}
use Rattle.binder_model.specs.World.{world}
use Rattle.actor_rounds.specs.declared.drainers.Drainer.{Drainer}
use Rattle.actor_rounds.specs.Rounds.{IsRound}
use Rattle.settle_progress.proofs.Drains.Held.{held_rounds_last}
use Rattle.attach_law.specs.declared.attachment.Attachment.{Attachment}
use Rattle.attach_law.proofs.Asks.{turns_leave_nothing}
use Rattle.attach_front.specs.Front.{lets_of}
use Rattle.attach_front.proofs.Alike.{mounts_alone_are_held}
use Rattle.attach_front.proofs.Front.{free_mounts_pass}
use Rattle.front_rounds.specs.Attached.{AttachedDrainsLast, RoundLastsBehind, TakesTurn}
use Rattle.front_rounds.specs.Behind.{BudgetSpent, GoesOn, NothingFree}

round_lasts : (setup : Setup) (old att : List Attachment) (ds after : List Drainer) (h past : List Entry) (b left : ℕ) (whole : Bool) → TakesTurn setup h old att
    → IsRound (lets_of setup att) past left ds h b after whole → RoundLastsBehind setup att ds h past whole
round_lasts setup old att ds after h past b left whole turn round is_whole may silent run_h run_past x free =
    let nothing = turns_leave_nothing (world setup h) old turn.asks att turn.turned in
    let passes = free_mounts_pass setup att h run_h nothing x.key x.object x.action x.stands x.due free in
    let is = subst (IsRound (lets_of setup att) past left ds h b after) is_whole round in
    held_rounds_last setup (lets_of setup att) ds after h past b left may silent run_past is (mounts_alone_are_held setup att) x passes

pub attached_drains_last : AttachedDrainsLast
attached_drains_last setup last after past left f ds h b (NothingFree turned rest same entries less) = tt
attached_drains_last setup last after past left f ds h b (BudgetSpent first turned free none same entries less) = tt
attached_drains_last setup last after past left f ds h b (GoesOn g first turned free some between middle rest whole round more) =
    (round_lasts setup f g ds between h middle b rest whole turned round, attached_drains_last setup last after past left g between middle rest more)
