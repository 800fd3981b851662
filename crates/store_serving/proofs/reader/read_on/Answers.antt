use Rattle.std.proofs.Common.{◌≡◌, ◌++◌, take, sym, subst}
use Rattle.json_text.specs.Canonical.{IsLine}
use Rattle.json_text.proofs.Lines.{line_append}
use Rattle.store_serving.proofs.Feeds.{line_read, more_held}
use Rattle.store_serving.proofs.reader.read_on.Goals as goal

pub returns-in-Some : goal.returns-in-Some
returns-in-Some g c =
    line_read (g.S.Source.left c.args.source.now) (g.S.Source.left c.pieces.source) (g.S.Source.left c.read.new.self) c.args.held.now.items c.pieces.held.items
    (take c.in-Ok.count c.read.new.buf) c.take_piece.new.held.items c.in_ok-take_piece-in-Some.field-0 c.in-Some.place
    c.pieces.invariant.line c.pieces.invariant.kept c.in-Some.ensures.some c.in-Ok.ensures.bytes.0 c.in_ok-take_piece-in-Some.ensures

pub pieces-preserved : goal.pieces-preserved
pieces-preserved g c =
    let piece = take c.in-Ok.count c.read.new.buf in
    let held : c.extend_from_slice.new.self.items ≡ c.pieces.held.items ++ piece = c.in_ok-extend_from_slice-in-None.ensures.items in
    record {
      line = subst IsLine (sym held) (line_append c.pieces.held.items piece c.pieces.invariant.line c.in-None.ensures.none);
      kept =
          more_held (g.S.Source.left c.args.source.now) (g.S.Source.left c.pieces.source) (g.S.Source.left c.read.new.self) c.args.held.now.items c.pieces.held.items piece
          c.extend_from_slice.new.self.items held c.pieces.invariant.kept c.in-Ok.ensures.bytes.0;
    }
