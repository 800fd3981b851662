-- What holds of the texts of objects.
-- A choice of this project.
use Rattle.std.specs.Prelude.{◌≡◌, false}
use Rattle.serde_json.specs.Written.{has_float}
use Rattle.json_text.specs.Canonical.{IsCanonical, IsLine}
use Rattle.kube_objects.specs.declared.objects.Object.{Object}
use Rattle.object_print.specs.Objects.{object_data, object_line}

-- each number in the manifest of an object is whole
abbrev pub ObjectsHoldNoFloat : Type 0
ObjectsHoldNoFloat = (o : Object) → has_float (object_data o) ≡ false

-- no byte 10 stands in the line
abbrev pub ObjectsAreLines : Type 0
ObjectsAreLines = (o : Object) → IsCanonical (object_data o) → IsLine (object_line o)
