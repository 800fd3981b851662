-- The imported objects of a script that a text can give pass one after another, and a text can give each of them.
use Rattle.std.proofs.Common.{List, [], ◌∷◌, ◌++◌}
use Rattle.std.specs.List.{All}
use Rattle.std.proofs.lemmas.List.Elements.{All-nil, All-cons}
use Rattle.kube_objects.specs.declared.objects.Object.{Object}
use Rattle.binder_model.specs.Imports.{PassAfter}
use Rattle.object_laws.specs.Given.{IsGivenObject}
use Rattle.script_laws.specs.Read.Scripts.{AreImportsAfter}
use Rattle.script_laws.specs.Read.Laws.{ImportsGiven}

pass_after : (before imports : List Object) → AreImportsAfter before imports → PassAfter before imports
pass_after before [] h = tt
pass_after before (o ∷ os) h = (h.0.passes, pass_after (before ++ o ∷ []) os h.1)

all_given : (before imports : List Object) → AreImportsAfter before imports → All IsGivenObject imports
all_given before [] h = All-nil IsGivenObject
all_given before (o ∷ os) h = All-cons IsGivenObject o os h.0.object.given (all_given (before ++ o ∷ []) os h.1)

pub imports_given : ImportsGiven
imports_given s is = record { given = all_given [] s.setup.imports is.imports; pass = pass_after [] s.setup.imports is.imports }
