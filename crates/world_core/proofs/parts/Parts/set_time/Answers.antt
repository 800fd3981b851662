use Rattle.std.proofs.Common.{sym}
use Rattle.world_core.proofs.Moves.{no_time, refuses, time_answer}
use Rattle.world_core.proofs.parts.Parts.set_time.Goals as goal

pub returns-then-not-is_time-clause-ok : goal.returns-then-not-is_time-clause-ok
returns-then-not-is_time-clause-ok c =
    refuses c.args.self.now c.args.kind _ _ c.refuse.result (no_time c.args.self.now c.args.kind c.args.at.now (sym c.if-not-is_time.ensures)) c.refuse.ensures.told c.refuse.ensures.kept

pub returns-clause-ok : goal.returns-clause-ok
returns-clause-ok c = time_answer c.args.self.now c.args.kind c.args.at.now _ (sym c.if-not-is_time.ensures) c.in_ok-self.ensures
