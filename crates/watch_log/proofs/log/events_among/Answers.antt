use Rattle.std.proofs.Common.{arith}
use Rattle.watch_log.proofs.Numbered.{most_told, none_left}
use Rattle.watch_log.proofs.log.events_among.Goals as goal
use Rattle.watch_log.proofs.log.events_among.Goals.{then-loop-left-test+else-as_slice-lt-MOST_EVENTS, else-loop-left-test}

pub returns : goal.returns
returns c = elim c.loop-left-test.branch [
  | then-loop-left-test+else-as_slice-lt-MOST_EVENTS w ↦
      let seen = w.as_slice.ensures in
      let full = w.if-as_slice-lt-MOST_EVENTS.false in
      let most = c.loop-left.invariant.most in
      most_told _ _ _ c.loop-left.invariant.told (grind (arith, seen, full, most))
  | else-loop-left-test w ↦
      none_left c.args.kind c.args.events.now.items c.loop-left.left c.loop-left.told _ w.loop-left-test.false c.loop-left.invariant.told c.loop-left.invariant.most
]
