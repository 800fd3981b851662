use Rattle.std.proofs.Common.{reverse, sym, true≢false}
use Rattle.licence_agent.proofs.Shown.{ready_lengths}
use Rattle.licence_agent.proofs.mounting.are_read_ready.Goals as goal

pub returns-then-names-uids : goal.returns-then-names-uids
returns-then-names-uids c = (
  (λ t. absurd (true≢false (sym t))),
  (λ h. absurd (c.if-names-uids.true (ready_lengths (reverse c.args.recent.now) c.args.namespace.now c.args.names.now c.args.uids.now h))),
)
