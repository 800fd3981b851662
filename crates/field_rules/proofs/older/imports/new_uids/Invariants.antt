use Rattle.std.proofs.Common.{◌≡◌, [], drop, map, take}
use Rattle.field_rules.specs.Stores.Steps.Passing.{come_new, uid_number}
use Rattle.field_rules.proofs.older.imports.new_uids.Given as goal

-- it is left to see whether those from this place on are new; the UIDs of those before it are known
abbrev pub invariant-loop-object : goal.invariant-loop-object
invariant-loop-object l = record {
  rest : come_new l.keys.keys l.uids.keys (drop l.object-index l.imports) ≡ come_new [] [] l.imports;
  uids : l.uids.keys ≡ map uid_number (take l.object-index l.imports);
}
