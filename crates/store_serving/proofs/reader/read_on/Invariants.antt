use Rattle.std.proofs.Common.{◌+◌, ◌-◌, ◌≡◌, vec_len}
use Rattle.json_text.specs.Canonical.{IsLine}
use Rattle.store_serving.specs.Lines.{pending}
use Rattle.store_serving.proofs.reader.read_on.Given as goal

-- what is held is a part of one line, and nothing that was read is lost
abbrev pub invariant-pieces : goal.invariant-pieces
invariant-pieces g l = record {
  line : IsLine l.held.items;
  kept : pending l.held.items (g.S.Source.left l.source) ≡ pending l.initial.held.items (g.S.Source.left l.initial.source);
}

abbrev pub decreases-pieces : goal.decreases-pieces
decreases-pieces g l = 4194304 + 1 - vec_len l.held
