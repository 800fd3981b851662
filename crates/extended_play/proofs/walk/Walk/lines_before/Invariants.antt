use Rattle.std.proofs.Common.{◌-◌, length}
use Rattle.extended_play.specs.Steps.Walking.{LinesGo, SomeWalks}
use Rattle.extended_play.proofs.walk.Walk.lines_before.Given as goal

abbrev pub invariant-lines : goal.invariant-lines
invariant-lines l = record {
  some : SomeWalks l.script l.option l.self;
  goes : LinesGo l.script l.option l.before l.initial.self l.self;
}

abbrev pub decreases-lines : goal.decreases-lines
decreases-lines l = length l.script.lines - l.self.place
