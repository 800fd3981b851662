-- Canonical texts of objects are lines.
use Rattle.json_text.proofs.Lines.{text_line}
use Rattle.object_print.specs.Objects.{object_data, object_line}
use Rattle.object_print.specs.Laws.{ObjectsAreLines}

pub objects_are_lines : ObjectsAreLines
unfolding object_line
objects_are_lines o h = text_line (object_data o) h
