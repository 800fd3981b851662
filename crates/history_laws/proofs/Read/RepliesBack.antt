-- What is printed of a reply is read again.
use Rattle.std.proofs.Common.{◌≡◌, Some, None, refl, ap, ◌∙◌}
use Rattle.kube_parts.specs.Words.{field_word, rule_word}
use Rattle.kube_parts.specs.declared.names.Field.{Field}
use Rattle.kube_parts.specs.declared.names.Field.TheVariants as fields
use Rattle.kube_parts.specs.declared.names.Rule.{Rule}
use Rattle.kube_parts.specs.declared.names.Rule.TheVariants as rules
use Rattle.call_types.specs.declared.reply.Change.{Change}
use Rattle.call_types.specs.declared.reply.Change.TheVariants as changes
use Rattle.call_types.specs.declared.reply.Event.{Event}
use Rattle.call_types.specs.declared.reply.MountRow.{MountRow}
use Rattle.call_types.specs.declared.reply.Refusal.{Refusal}
use Rattle.call_types.specs.declared.reply.Refusal.TheVariants as refusals
use Rattle.call_types.specs.declared.reply.Reply.{Reply}
use Rattle.call_types.specs.declared.reply.Reply.TheVariants as replies
use Rattle.object_print.specs.Metadata.{uid_data}
use Rattle.object_print.specs.Objects.{object_data}
use Rattle.object_laws.specs.Given.{IsGivenObject, IsUid}
use Rattle.call_types.specs.Words.{change_word}
use Rattle.history_text.specs.Replies.{event_pairs, event_data, mount_pairs, mount_data, refusal_pairs, reply_pairs, reply_data}
use Rattle.history_lines.specs.Answers.{◌>>=◌}
use Rattle.history_lines.specs.Words.{change_named, field_named, rule_named}
use Rattle.history_lines.specs.Members.{uid_in, object_in}
use Rattle.history_lines.specs.Replies.{event_at, event_in, mounted_at, mounted_in, refusal_at, reply_at, reply_in}
use Rattle.history_laws.specs.Read.Given.{IsEvent, IsMountRow, IsReply}
use Rattle.history_laws.proofs.Read.Members.{shown, looked, next, uid_back, object_again, list_back}

-- ---- words

change_back : (c : Change) → change_named (change_word c) ≡ Some c
change_back changes.Added = refl
change_back changes.Modified = refl
change_back changes.Deleted = refl

field_back : (f : Field) → field_named (field_word f) ≡ Some f
field_back fields.Name = refl
field_back fields.Namespace = refl
field_back fields.Capacity = refl
field_back fields.Request = refl
field_back fields.AccessModes = refl
field_back fields.ClaimRef = refl
field_back fields.Provisioner = refl
field_back fields.NodeName = refl
field_back fields.Claims = refl
field_back fields.Finalizers = refl
field_back fields.Time = refl
field_back fields.Kind = refl
field_back fields.From = refl
field_back fields.Spec = refl
field_back fields.VolumeName = refl
field_back fields.Source = refl
field_back fields.VolumeMode = refl
field_back fields.NodeAffinity = refl
field_back fields.Parameters = refl
field_back fields.Policy = refl
field_back fields.BindingMode = refl
field_back fields.Deletion = refl

rule_back : (r : Rule) → rule_named (rule_word r) ≡ Some r
rule_back rules.Verb = refl
rule_back rules.Annotation = refl
rule_back rules.Finalizer = refl
rule_back rules.ClaimRef = refl
rule_back rules.Policy = refl

-- ---- events, and pods that are mounted

event_back : (e : Event) → IsEvent e → event_in (event_data e) ≡ Some e
unfolding event_in event_data
event_back e is = ap event_at (looked (event_pairs e)) ∙ rw (change_back e.change, object_again e.object is.object) refl

mounted_back : (row : MountRow) → IsMountRow row → mounted_in (mount_data row) ≡ Some row
unfolding mounted_in mount_data
mounted_back row is = ap mounted_at (looked (mount_pairs row)) ∙ rw (list_back uid_in uid_data IsUid uid_back row.claims is.claims, uid_back row.pod is.pod) refl

-- ---- refusals

refusal_back : (r : Refusal) → refusal_at (shown (refusal_pairs r)) ≡ Some r
refusal_back refusals.NotFound = refl
refusal_back refusals.AlreadyExists = refl
refusal_back (refusals.Conflict current) = refl
refusal_back (refusals.Invalid field) = next (λ f. Some (refusals.Invalid f)) (field_back field)
refusal_back (refusals.Forbidden rule) = next (λ r. Some (refusals.Forbidden r)) (rule_back rule)
refusal_back (refusals.Gone oldest) = refl
refusal_back (refusals.Exhausted free) = refl
refusal_back (refusals.BackFault planned) = refl
refusal_back (refusals.StaleEpoch current) = refl
refusal_back (refusals.Assigned node) = refl

refused_back : (r : Refusal) → reply_at (shown (refusal_pairs r)) ≡ (refusal_at (shown (refusal_pairs r)) >>= λ x. Some (replies.Refused x))
refused_back refusals.NotFound = refl
refused_back refusals.AlreadyExists = refl
refused_back (refusals.Conflict current) = refl
refused_back (refusals.Invalid field) = refl
refused_back (refusals.Forbidden rule) = refl
refused_back (refusals.Gone oldest) = refl
refused_back (refusals.Exhausted free) = refl
refused_back (refusals.BackFault planned) = refl
refused_back (refusals.StaleEpoch current) = refl
refused_back (refusals.Assigned node) = refl

-- ---- replies

reply_found : (r : Reply) → IsReply r → reply_at (shown (reply_pairs r)) ≡ Some r
reply_found (replies.Done o) is = next (λ x. Some (replies.Done x)) (object_again o is)
reply_found (replies.Left o) is = next (λ x. Some (replies.Left x)) (object_again o is)
reply_found (replies.Found o) is = next (λ x. Some (replies.Found x)) (object_again o is)
reply_found (replies.Listed items version) is = rw (list_back object_in object_data IsGivenObject object_again items is.0) refl
reply_found (replies.Events events) is = rw (list_back event_in event_data IsEvent event_back events.events is.events) refl
reply_found (replies.Provisioned id None) is = refl
reply_found (replies.Provisioned id (Some t)) is = refl
reply_found (replies.Erased removed) is = refl
reply_found (replies.Epoch epoch) is = refl
reply_found (replies.Mounted rows) is = next (λ x. Some (replies.Mounted x)) (list_back mounted_in mount_data IsMountRow mounted_back rows is)
reply_found replies.Timed is = refl
reply_found (replies.Refused refusal) is = refused_back refusal ∙ next (λ x. Some (replies.Refused x)) (refusal_back refusal)

pub reply_back : (r : Reply) → IsReply r → reply_in (reply_data r) ≡ Some r
unfolding reply_in reply_data
reply_back r is = ap reply_at (looked (reply_pairs r)) ∙ reply_found r is
