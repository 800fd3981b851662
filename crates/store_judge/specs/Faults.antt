-- Every fault of a history: of each entry the answer that is not the world's, and the rule of the licence that refuses the
-- request. An entry is judged by all entries before it, those at fault included; the newest stands first.
-- A choice of this project: one fault hides no other.
use Rattle.std.specs.Prelude.{ℕ, ◌≡◌, ◌+◌, List, [], ◌∷◌, ◌++◌, length, map}
use Rattle.kube_parts.specs.declared.names.LicenceRule.{LicenceRule}
use Rattle.call_types.specs.declared.entry.Entry.{Entry}
use Rattle.call_types.specs.declared.setup.Setup.{Setup}
use Rattle.binder_model.specs.Told.{own}
use Rattle.binder_model.specs.Licence.{IsRefusedBy, Licensed}
use Rattle.audit_check.specs.declared.verdict.AuditRule.{AuditRule}
use Rattle.audit_check.specs.declared.verdict.AuditRule.TheVariants.{Answer, Licence}
use Rattle.audit_check.specs.Verdicts.{HasItsAnswer}
use Rattle.store_judge.specs.declared.faults.EntryFault.{EntryFault}

-- the seat was allowed what it asked, by its own entries before
abbrev pub WasAllowed : List Entry → Entry → Type 0
WasAllowed past e = Licensed e.kind (own e.seat past) e.request

-- the rule refuses what the seat asked
abbrev pub WasRefused : List Entry → Entry → LicenceRule → Type 0
WasRefused past e rule = IsRefusedBy e.kind (own e.seat past) e.request rule

-- what the entry breaks, after these entries
abbrev pub BreaksRules : Setup → List Entry → Entry → List AuditRule → Type 0
BreaksRules setup past e [] = HasItsAnswer setup past e × WasAllowed past e
BreaksRules setup past e (Answer ∷ []) = (HasItsAnswer setup past e → ⊥) × WasAllowed past e
BreaksRules setup past e (Licence rule ∷ []) = HasItsAnswer setup past e × WasRefused past e rule
BreaksRules setup past e (Answer ∷ Licence rule ∷ []) = (HasItsAnswer setup past e → ⊥) × WasRefused past e rule
BreaksRules setup past e rules = ⊥

-- faults of the entry of this number
abbrev pub at_entry : ℕ → List AuditRule → List EntryFault
at_entry n rules = map (λ rule. record { entry = n; rule = rule }) rules

-- all faults of these entries, in order
abbrev pub FaultsIn : Setup → List Entry → List EntryFault → Type 0
FaultsIn setup [] faults = faults ≡ []
FaultsIn setup (e ∷ past) faults =
    (earlier : List EntryFault) × (rules : List AuditRule)
    × FaultsIn setup past earlier × BreaksRules setup past e rules × (faults ≡ earlier ++ at_entry (length past + 1) rules)
