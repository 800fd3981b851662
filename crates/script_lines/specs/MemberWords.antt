-- The names of the members of lines. A choice of this project; those of manifests are the Kubernetes API's.
use Rattle.std.specs.Prelude.{ℕ, List, codes}
use Rattle.kube_parts.specs.Words.{field_word}
use Rattle.object_text.specs.MemberWords.{member_word}
use Rattle.script_lines.specs.declared.line_member.LineMember.{LineMember}
use Rattle.script_lines.specs.declared.line_member.LineMember.TheVariants as members

-- the name of a member in a line
abbrev pub line_word : LineMember → List ℕ
line_word members.Do = codes "do"
line_word members.Object = codes "object"
line_word members.User = codes "user"
line_word members.At = codes "at"
line_word members.Bytes = codes "bytes"
line_word members.Label = codes "label"
line_word members.Value = codes "value"
line_word members.Call = codes "call"
line_word members.Actor = codes "actor"
line_word members.When = codes "when"
line_word members.After = codes "after"
line_word members.Calls = codes "calls"
line_word members.Claims = codes "claims"
line_word members.Edit = codes "edit"
line_word members.AddFinalizer = codes "addFinalizer"
line_word members.DropFinalizer = codes "dropFinalizer"
line_word members.DropLabel = codes "dropLabel"
line_word members.DropAnnotation = codes "dropAnnotation"
line_word members.SetLabel = codes "setLabel"
line_word members.SetAnnotation = codes "setAnnotation"
line_word members.SetVolumeName = codes "setVolumeName"
line_word members.SetPolicy = codes "setPolicy"
line_word members.SetClaimRef = codes "setClaimRef"
line_word members.ClearClaimRef = codes "clearClaimRef"
line_word (members.Of m) = member_word m
line_word (members.Field f) = field_word f
