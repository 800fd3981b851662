use Rattle.std.proofs.Common.{inl, refl}
use Rattle.store_serving.specs.Lines.{pending}
use Rattle.store_serving.specs.Serving.{ServesFront}
use Rattle.store_serving.proofs.Folds.{all_if, front_if, goes, none_served, nothing_held, on_error, serves_front, serves_more}
use Rattle.store_serving.proofs.serving.serve.Goals as goal

pub lines-init : goal.lines-init
lines-init g c =
    let left = g.S.Source.left c.args.source.now in
    none_served c.args.fenced left (pending c.new-reader.result left) (g.K.Sink.written c.args.sink.now) c.new-server.result
    (nothing_held c.new-reader.result left c.new-reader.ensures) c.new-server.ensures

pub returns-in_err-serve_line-clause-front : goal.returns-in_err-serve_line-clause-front
returns-in_err-serve_line-clause-front g c =
    let now = c.lines in
    let left = g.S.Source.left c.args.source.now in
    let first = g.K.Sink.written c.args.sink.now in
    let after = g.K.Sink.written c.serve_line.new.sink in
    on_error c.from_residual.result (ServesFront c.args.fenced left first after)
    (serves_front c.args.fenced left (pending now.reader (g.S.Source.left now.source)) first (g.K.Sink.written now.sink) after now.server now.invariant c.in_err-serve_line.ensures.stop)

pub returns-then-not-branch-clause-all : goal.returns-then-not-branch-clause-all
returns-then-not-branch-clause-all g c =
    let now = c.lines in
    let next = c.serve_line.new in
    all_if c.args.fenced c.in_ok-serve_line.field-0 (g.S.Source.left c.args.source.now) (pending now.reader (g.S.Source.left now.source))
    (pending next.reader (g.S.Source.left next.source)) (g.K.Sink.written c.args.sink.now) (g.K.Sink.written now.sink) (g.K.Sink.written next.sink)
    (g.K.Sink.written c.close.new.sink) now.server next.server c.close.result now.invariant c.if-not-branch.true c.in_ok-serve_line.ensures.next c.close.ensures.ok

pub returns-then-not-branch-clause-front : goal.returns-then-not-branch-clause-front
returns-then-not-branch-clause-front g c =
    let now = c.lines in
    let next = c.serve_line.new in
    front_if c.args.fenced c.in_ok-serve_line.field-0 (g.S.Source.left c.args.source.now) (pending now.reader (g.S.Source.left now.source))
    (pending next.reader (g.S.Source.left next.source)) (g.K.Sink.written c.args.sink.now) (g.K.Sink.written now.sink) (g.K.Sink.written next.sink)
    (g.K.Sink.written c.close.new.sink) now.server next.server c.close.result now.invariant c.if-not-branch.true c.in_ok-serve_line.ensures.next c.close.ensures.stop

pub lines-preserved : goal.lines-preserved
lines-preserved g c =
    let now = c.lines in
    let next = c.serve_line.new in
    let left = pending now.reader (g.S.Source.left now.source) in
    let later = pending next.reader (g.S.Source.left next.source) in
    let before = g.K.Sink.written now.sink in
    let after = g.K.Sink.written next.sink in
    serves_more c.args.fenced (g.S.Source.left c.args.source.now) left later (g.K.Sink.written c.args.sink.now) before after now.server next.server now.invariant
    (goes c.in_ok-serve_line.field-0 now.server next.server left later before after c.if-not-branch.false c.in_ok-serve_line.ensures.next)

pub returns-clause-front : goal.returns-clause-front
returns-clause-front g c =
    let now = c.lines in
    let written = g.K.Sink.written now.sink in
    serves_front c.args.fenced (g.S.Source.left c.args.source.now) (pending now.reader (g.S.Source.left now.source)) (g.K.Sink.written c.args.sink.now) written written now.server
    now.invariant (inl refl)
