-- Parts of the volume that is made for a claim, as they are built.
use Rattle.std.specs.Prelude.{ℕ, List, [], ◌∷◌}
use Rattle.kube_parts.specs.declared.parts.Op.TheVariants.{In}
use Rattle.kube_parts.specs.declared.parts.SourceKind.TheVariants.{Csi}
use Rattle.kube_objects.specs.declared.objects.DataId.{DataId}
use Rattle.kube_objects.specs.declared.objects.Expr.{Expr}
use Rattle.kube_objects.specs.declared.objects.Source.{Source}

-- the source of the data that a driver gave
abbrev pub csi_source : DataId → Source
csi_source id = record { kind = Csi; first = id.driver; second = id.id }

-- the label with this value
abbrev pub label_expr : List ℕ → List ℕ → Expr
label_expr label value = record { key = label; op = In; values = value ∷ [] }
