use Rattle.std.proofs.Common.{◌≡◌, drop}
use Rattle.std.specs.List.{list_any}
use Rattle.binder_model.specs.Imports.{binds_claim}
use Rattle.version_store.proofs.imports.is_bound_among.Given as goal

abbrev pub invariant-loop-object : goal.invariant-loop-object
invariant-loop-object l = list_any (binds_claim l.claim) (drop l.object-index l.imports) ≡ list_any (binds_claim l.claim) l.imports
