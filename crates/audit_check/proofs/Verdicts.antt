-- A history has one verdict.
use Rattle.std.proofs.Common.{◌≡◌, ℕ, ◌+◌, List, [], ◌∷◌, ◌++◌, reverse, length, refl, ap, sym, ◌∙◌, subst, inl, inr, append_assoc}
use Rattle.std.specs.Prelude.{◌⊎◌}
use Rattle.std.proofs.lemmas.List.{reverse-append}
use Rattle.call_types.specs.declared.entry.Entry.{Entry}
use Rattle.call_types.specs.declared.setup.Setup.{Setup}
use Rattle.binder_model.specs.Run.{Run}
use Rattle.safety_law.proofs.Law.Law.{each_run_is_safe}
use Rattle.binder_model.specs.Told.{own}
use Rattle.audit_check.specs.declared.verdict.AuditRule.{AuditRule}
use Rattle.audit_check.specs.declared.verdict.AuditRule.TheVariants.{Answer, Licence}
use Rattle.audit_check.specs.declared.verdict.Verdict.{Verdict}
use Rattle.audit_check.specs.declared.verdict.Verdict.TheVariants.{Yes, No}
use Rattle.audit_check.specs.Verdicts.{Breaks, IsFirstBreak, IsVerdict}
use Rattle.audit_check.specs.Laws.{OneVerdict, YesIsRun, YesIsSafe}
use Rattle.audit_check.proofs.OneRule.{one_rule}
use Rattle.model_laws.proofs.OlderRuns.{run_back}

-- ---- what stands in a run

turned : (before : List Entry) (e : Entry) (later : List Entry) → reverse (before ++ e ∷ later) ≡ reverse later ++ e ∷ reverse before
turned before e later = reverse-append before (e ∷ later) ∙ ap (λ xs. xs ++ reverse before) (reverse-append (e ∷ []) later) ∙ append_assoc (reverse later) (e ∷ []) (reverse before)

-- an entry of a run breaks nothing
no_break : (setup : Setup) (past : List Entry) (e : Entry) (rule : AuditRule) → Run setup (e ∷ past) → Breaks setup past e rule → ⊥
no_break setup past e Answer run breaks = breaks run.1
no_break setup past e (Licence rule) run breaks = breaks.1.refused run.2

stands_there : (setup : Setup) (before : List Entry) (e : Entry) (later : List Entry) (rule : AuditRule)
    → Run setup (reverse (before ++ e ∷ later)) → Breaks setup (reverse before) e rule → ⊥
stands_there setup before e later rule run breaks =
    no_break setup (reverse before) e rule
    (run_back setup (reverse later) (e ∷ reverse before) (subst (λ (xs : List Entry). Run setup xs) (turned before e later) run))
    breaks

no_first_break : (setup : Setup) (entries : List Entry) (n : ℕ) (rule : AuditRule) → Run setup (reverse entries) → IsFirstBreak setup entries n rule → ⊥
no_first_break setup entries n rule run first =
    stands_there setup first.before first.entry first.later rule
    (subst (λ (xs : List Entry). Run setup (reverse xs)) first.stand run)
    first.breaks

-- ---- two places in one list

-- the same place
pub record AreOne (xs : List Entry) (x : Entry) (ys : List Entry) (y : Entry) : Type 0 where
  pub front : xs ≡ ys
  pub entry : x ≡ y

-- x stands in front of the second
pub record StandsBefore (xs : List Entry) (x : Entry) (ys : List Entry) : Type 0 where
  pub between : List Entry
  pub front : ys ≡ xs ++ x ∷ between

compared : (xs : List Entry) (x : Entry) (xs' : List Entry) (ys : List Entry) (y : Entry) (ys' : List Entry)
    → xs ++ x ∷ xs' ≡ ys ++ y ∷ ys' → AreOne xs x ys y ⊎ (StandsBefore xs x ys ⊎ StandsBefore ys y xs)
compared [] x xs' [] y ys' e = inl (record { front = refl; entry = cc })
compared [] x xs' (b ∷ ys) y ys' e = inr (inl (record { between = ys; front = cc }))
compared (a ∷ xs) x xs' [] y ys' e = inr (inr (record { between = xs; front = cc }))
compared (a ∷ xs) x xs' (b ∷ ys) y ys' e =
    let head : a ≡ b = cc in
    let rest : xs ++ x ∷ xs' ≡ ys ++ y ∷ ys' = cc in
    elim (compared xs x xs' ys y ys' rest) [
      | inl one ↦ inl (record { front = let f = one.front in cc; entry = one.entry })
      | inr (inl s) ↦ inr (inl (record { between = s.between; front = let f = s.front in cc }))
      | inr (inr s) ↦ inr (inr (record { between = s.between; front = let f = s.front in cc }))
    ]

-- ---- one verdict

same_rule : (setup : Setup) (past : List Entry) (e : Entry) (r s : AuditRule) → Breaks setup past e r → Breaks setup past e s → r ≡ s
same_rule setup past e Answer Answer p q = refl
same_rule setup past e Answer (Licence s) p q = absurd (p q.0)
same_rule setup past e (Licence r) Answer p q = absurd (q p.0)
same_rule setup past e (Licence r) (Licence s) p q = ap Licence (one_rule e.kind (own e.seat past) e.request r s p.1 q.1)

later_break : (setup : Setup) (xs : List Entry) (x : Entry) (ys : List Entry) (rule : AuditRule)
    → StandsBefore xs x ys → Run setup (reverse ys) → Breaks setup (reverse xs) x rule → ⊥
later_break setup xs x ys rule s run breaks = stands_there setup xs x s.between rule (subst (λ (zs : List Entry). Run setup (reverse zs)) s.front run) breaks

one_break : (setup : Setup) (entries : List Entry) (n m : ℕ) (r s : AuditRule)
    → (p : IsFirstBreak setup entries n r) (q : IsFirstBreak setup entries m s)
    → AreOne p.before p.entry q.before q.entry → No n r ≡ No m s
one_break setup entries n m r s p q one =
    let place : n ≡ m = p.place ∙ ap (λ (xs : List Entry). length xs + 1) one.front ∙ sym q.place in
    let front : Breaks setup (reverse q.before) p.entry r = subst (λ (xs : List Entry). Breaks setup (reverse xs) p.entry r) one.front p.breaks in
    let there : Breaks setup (reverse q.before) q.entry r = subst (λ (e : Entry). Breaks setup (reverse q.before) e r) one.entry front in
    let rule : r ≡ s = same_rule setup (reverse q.before) q.entry r s there q.breaks in
    cc

two_breaks : (setup : Setup) (entries : List Entry) (n m : ℕ) (r s : AuditRule) → IsFirstBreak setup entries n r → IsFirstBreak setup entries m s → No n r ≡ No m s
two_breaks setup entries n m r s p q =
    elim (compared p.before p.entry p.later q.before q.entry q.later (sym p.stand ∙ q.stand)) [
      | inl one ↦ one_break setup entries n m r s p q one
      | inr (inl before) ↦ absurd (later_break setup p.before p.entry q.before r before q.run p.breaks)
      | inr (inr before) ↦ absurd (later_break setup q.before q.entry p.before s before p.run q.breaks)
    ]

pub one_verdict : OneVerdict
one_verdict setup entries Yes Yes p q = refl
one_verdict setup entries Yes (No m s) p q = absurd (no_first_break setup entries m s p q)
one_verdict setup entries (No n r) Yes p q = absurd (no_first_break setup entries n r q p)
one_verdict setup entries (No n r) (No m s) p q = two_breaks setup entries n m r s p q

pub yes_is_run : YesIsRun
yes_is_run setup entries v is =
    (λ yes. subst (λ (w : Verdict). IsVerdict setup entries w) yes is, λ run. one_verdict setup entries v Yes is run)

pub yes_is_safe : YesIsSafe
yes_is_safe setup entries imports short run = each_run_is_safe setup entries imports short run
