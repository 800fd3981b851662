-- What a judge keeps from entry to entry, and what it finds.
use Rattle.std.specs.Prelude.{◌≡◌, Bool, true, false, List, [], ◌∷◌, ◌++◌, Ok, Err, Option, Some, None, ⊤}
use Rattle.std.specs.declared.result.Result.{Result}
use Rattle.kube_parts.specs.declared.names.LicenceRule.{LicenceRule}
use Rattle.call_types.specs.declared.entry.Entry.{Entry}
use Rattle.call_types.specs.declared.setup.Setup.{Setup}
use Rattle.audit_check.specs.declared.verdict.AuditRule.{AuditRule}
use Rattle.audit_check.specs.declared.verdict.AuditRule.TheVariants.{Answer, Licence}
use Rattle.audit_check.specs.Steps.Noted.{AreOwn}
use Rattle.store_judge.specs.declared.faults.Judged.{Judged}
use Rattle.store_judge.specs.declared.judging.Judge.{Judge}
use Rattle.store_judge.specs.Faults.{BreaksRules}

-- the rule that refuses, if one does
abbrev pub refusing : Result Unit LicenceRule → Option LicenceRule
refusing (Ok u) = None
refusing (Err rule) = Some rule

-- a wrong answer
abbrev pub answer_rules : Bool → List AuditRule
answer_rules true = []
answer_rules false = Answer ∷ []

-- a rule that refuses
abbrev pub licence_rules : Option LicenceRule → List AuditRule
licence_rules None = []
licence_rules (Some rule) = Licence rule ∷ []

-- both
abbrev pub rules_in : Judged → List AuditRule
rules_in j = answer_rules j.answered ++ licence_rules j.refused

-- the same was asked by seats of the same kinds; seats and replies may differ
abbrev pub AskAlike : List Entry → List Entry → Type 0
AskAlike [] [] = ⊤
AskAlike [] (f ∷ q) = ⊥
AskAlike (e ∷ p) [] = ⊥
AskAlike (e ∷ p) (f ∷ q) = (e.kind ≡ f.kind) × (e.request ≡ f.request) × AskAlike p q

-- the world was asked the same, and the entries of each seat were noted
pub record JudgeStands (j : Judge) (setup : Setup) (past : List Entry) : Type 0 where
  pub begun : j.world.setup ≡ setup
  pub alike : AskAlike j.world.past past
  pub owned : AreOwn j.seats past

-- the next entry was judged
pub record JudgesEntry (j : Judge) (setup : Setup) (past : List Entry) (e : Entry) (judged : Judged) : Type 0 where
  pub stands : JudgeStands j setup (e ∷ past)
  pub breaks : BreaksRules setup past e (rules_in judged)
