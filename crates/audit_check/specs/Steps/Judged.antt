-- What an audit keeps from entry to entry.
use Rattle.std.specs.Prelude.{◌≡◌, Bool, true, false, List, ◌∷◌, Option, Some, None, Ok, Err}
use Rattle.std.specs.declared.result.Result.{Result}
use Rattle.kube_parts.specs.declared.names.LicenceRule.{LicenceRule}
use Rattle.call_types.specs.declared.entry.Entry.{Entry}
use Rattle.call_types.specs.declared.setup.Setup.{Setup}
use Rattle.binder_model.specs.Run.{Run}
use Rattle.audit_check.specs.declared.auditor.Auditor.{Auditor}
use Rattle.audit_check.specs.declared.verdict.AuditRule.{AuditRule}
use Rattle.audit_check.specs.declared.verdict.AuditRule.TheVariants.{Answer, Licence}
use Rattle.audit_check.specs.Verdicts.{Breaks}
use Rattle.audit_check.specs.Steps.Noted.{AreOwn}

-- the rule by which an entry breaks, where it has its answer or not, and was allowed or refused by a rule
abbrev pub rule_of : Bool → Result Unit LicenceRule → Option AuditRule
rule_of false allowed = Some Answer
rule_of true (Ok u) = None
rule_of true (Err rule) = Some (Licence rule)

-- these entries, which are a run, are those of the world and of the seats
pub record AuditorStands (a : Auditor) (setup : Setup) (past : List Entry) : Type 0 where
  pub begun : a.world.setup ≡ setup
  pub passed : a.world.past ≡ past
  pub owned : AreOwn a.seats past
  pub run : Run setup past

-- the next entry stands too, or breaks by the rule
abbrev pub Judges : Option AuditRule → Auditor → Setup → List Entry → Entry → Type 0
Judges None a setup past e = AuditorStands a setup (e ∷ past)
Judges (Some rule) a setup past e = Breaks setup past e rule
