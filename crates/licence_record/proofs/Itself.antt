-- All entries are a part of themselves.
use Rattle.std.proofs.Common.{List, [], ◌∷◌}
use Rattle.call_types.specs.declared.entry.Entry.{Entry}
use Rattle.evidence_pages.specs.Parts.{IsPart, Begins, Keeps}

pub itself : (mine : List Entry) → IsPart mine mine
itself [] = Begins
itself (e ∷ mine) = Keeps e (itself mine)
