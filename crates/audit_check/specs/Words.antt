-- The printed words of the rules of an audit. A choice of this project.
use Rattle.std.specs.Prelude.{ℕ, List, codes}
use Rattle.kube_parts.specs.Words.{licence_word}
use Rattle.audit_check.specs.declared.verdict.AuditRule.{AuditRule}
use Rattle.audit_check.specs.declared.verdict.AuditRule.TheVariants.{Answer, Licence}

-- the word by which a broken rule is printed
abbrev pub audit_word : AuditRule → List ℕ
audit_word Answer = codes "Answer"
audit_word (Licence rule) = licence_word rule
