use Rattle.store_serving.specs.Lines.{pending}
use Rattle.store_serving.specs.Steps.Going.{HasServed}
use Rattle.store_serving.proofs.serving.serve.Given as goal

-- the lines so far were read, and their answers were written
abbrev pub invariant-lines : goal.invariant-lines
invariant-lines g l =
    HasServed l.fenced (g.S.Source.left l.initial.source) (pending l.reader (g.S.Source.left l.source)) (g.K.Sink.written l.initial.sink) (g.K.Sink.written l.sink) l.server
