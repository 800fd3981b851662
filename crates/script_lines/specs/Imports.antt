-- Why an object of an older store is refused, as a line of a script says it: by the member that is at fault. A field of the object
-- that is invalid stands by its own name. The words are a choice of this project.
use Rattle.kube_parts.specs.declared.names.ImportFault.{ImportFault}
use Rattle.kube_parts.specs.declared.names.ImportFault.TheVariants as faults
use Rattle.object_text.specs.declared.errors.Member.TheVariants as manifests
use Rattle.script_lines.specs.declared.line_member.LineMember.TheVariants.{Of, Field}
use Rattle.script_lines.specs.declared.errors.Reason.{Reason}
use Rattle.script_lines.specs.declared.errors.Reason.TheVariants.{Missing, BadValue}

-- why an import line is refused whose object cannot stand in the store
abbrev pub import_reason : ImportFault → Reason
import_reason faults.MissingUid = Missing (Of manifests.Uid)
import_reason faults.Version = BadValue (Of manifests.ResourceVersion)
import_reason faults.Serial = BadValue (Of manifests.Uid)
import_reason (faults.Value field) = BadValue (Field field)
import_reason faults.NameAgain = BadValue (Of manifests.Name)
import_reason faults.UidAgain = BadValue (Of manifests.Uid)
import_reason faults.ClaimRef = BadValue (Of manifests.ClaimRef)
import_reason faults.Phase = BadValue (Of manifests.Phase)
