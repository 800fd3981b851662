-- The first fault is the one that an audit names.
use Rattle.std.proofs.Common.{◌≡◌, ℕ, ◌+◌, List, [], ◌∷◌, ◌++◌, length, reverse, refl, ap, sym, ◌∙◌, subst, append_assoc}
use Rattle.std.proofs.lemmas.List.{length-reverse, reverse-append, reverse-reverse}
use Rattle.call_types.specs.declared.entry.Entry.{Entry}
use Rattle.call_types.specs.declared.setup.Setup.{Setup}
use Rattle.binder_model.specs.Run.{Run}
use Rattle.audit_check.specs.declared.verdict.AuditRule.{AuditRule}
use Rattle.audit_check.specs.declared.verdict.AuditRule.TheVariants.{Answer, Licence}
use Rattle.audit_check.specs.Verdicts.{Breaks, IsVerdict}
use Rattle.store_judge.specs.declared.faults.EntryFault.{EntryFault}
use Rattle.store_judge.specs.Faults.{BreaksRules, FaultsIn, at_entry}
use Rattle.store_judge.specs.Laws.{FirstIsAudits, verdict_of}

-- the fault is that of an entry which breaks a run of those before it
record IsFirst (setup : Setup) (past : List Entry) (fault : EntryFault) : Type 0 where
  later : List Entry
  entry : Entry
  before : List Entry
  stand : past ≡ later ++ entry ∷ before
  place : fault.entry ≡ length before + 1
  run : Run setup before
  breaks : Breaks setup before entry fault.rule

abbrev Begins : Setup → List Entry → List EntryFault → Type 0
Begins setup past [] = Run setup past
Begins setup past (fault ∷ faults) = IsFirst setup past fault

here : (setup : Setup) (past : List Entry) (e : Entry) (rules : List AuditRule) → Run setup past → BreaksRules setup past e rules
    → Begins setup (e ∷ past) (at_entry (length past + 1) rules)
here setup past e [] run breaks = (run, breaks.0, breaks.1)
here setup past e (Answer ∷ []) run breaks = record { later = []; entry = e; before = past; stand = refl; place = refl; run = run; breaks = breaks.0 }
here setup past e (Licence rule ∷ []) run breaks = record { later = []; entry = e; before = past; stand = refl; place = refl; run = run; breaks = breaks }
here setup past e (Answer ∷ Licence rule ∷ []) run breaks = record { later = []; entry = e; before = past; stand = refl; place = refl; run = run; breaks = breaks.0 }
here setup past e (Answer ∷ Answer ∷ rules) run breaks = absurd breaks
here setup past e (Answer ∷ Licence rule ∷ other ∷ rules) run breaks = absurd breaks
here setup past e (Licence rule ∷ other ∷ rules) run breaks = absurd breaks

joined_first : (setup : Setup) (past : List Entry) (e : Entry) (earlier : List EntryFault) (rules : List AuditRule)
    → Begins setup past earlier → BreaksRules setup past e rules → Begins setup (e ∷ past) (earlier ++ at_entry (length past + 1) rules)
joined_first setup past e [] rules begins breaks = here setup past e rules begins breaks
joined_first setup past e (fault ∷ earlier) rules begins breaks = record {
  later = e ∷ begins.later;
  entry = begins.entry;
  before = begins.before;
  stand = ap (λ (xs : List Entry). e ∷ xs) begins.stand;
  place = begins.place;
  run = begins.run;
  breaks = begins.breaks;
}

begins_so : (setup : Setup) (past : List Entry) (faults : List EntryFault) → FaultsIn setup past faults → Begins setup past faults
begins_so setup [] faults found = subst (λ (fs : List EntryFault). Begins setup [] fs) (sym found) tt
begins_so setup (e ∷ past) faults found =
    subst (λ (fs : List EntryFault). Begins setup (e ∷ past) fs) (sym found.4)
    (joined_first setup past e found.0 found.1 (begins_so setup past found.0 found.2) found.3)

verdict_is : (setup : Setup) (entries : List Entry) (faults : List EntryFault) → Begins setup (reverse entries) faults → IsVerdict setup entries (verdict_of faults)
verdict_is setup entries [] begins = begins
verdict_is setup entries (fault ∷ faults) begins =
    let turned : reverse (begins.later ++ begins.entry ∷ begins.before) ≡ reverse begins.before ++ begins.entry ∷ reverse begins.later =
    reverse-append begins.later (begins.entry ∷ begins.before)
    ∙ ap (λ (xs : List Entry). xs ++ reverse begins.later) (reverse-append (begins.entry ∷ []) begins.before)
    ∙ append_assoc (reverse begins.before) (begins.entry ∷ []) (reverse begins.later) in
    record {
      before = reverse begins.before;
      entry = begins.entry;
      later = reverse begins.later;
      stand = sym (reverse-reverse entries) ∙ ap reverse begins.stand ∙ turned;
      place = begins.place ∙ ap (λ (n : ℕ). n + 1) (sym (length-reverse begins.before));
      run = subst (λ (xs : List Entry). Run setup xs) (sym (reverse-reverse begins.before)) begins.run;
      breaks = subst (λ (xs : List Entry). Breaks setup xs begins.entry fault.rule) (sym (reverse-reverse begins.before)) begins.breaks;
    }

pub first_is_audits : FirstIsAudits
first_is_audits setup entries faults found = verdict_is setup entries faults (begins_so setup (reverse entries) faults found)
