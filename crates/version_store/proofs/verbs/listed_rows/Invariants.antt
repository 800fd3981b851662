use Rattle.std.proofs.Common.{◌≡◌, ◌++◌, drop}
use Rattle.binder_model.specs.Answers.{listed_rows}
use Rattle.version_store.proofs.verbs.listed_rows.Given as goal

abbrev pub invariant-loop-object : goal.invariant-loop-object
invariant-loop-object l = listed_rows l.namespace l.objects ≡ l.items ++ listed_rows l.namespace (drop l.object-index l.objects)
