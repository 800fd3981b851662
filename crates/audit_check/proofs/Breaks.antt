-- How an audit comes to its verdict.
use Rattle.std.proofs.Common.{◌≡◌, ℕ, suc, ◌+◌, ◌<◌, ◌≤◌, List, ◌∷◌, ◌++◌, reverse, take, drop, length, get_or, ap, sym, ◌∙◌, arith, drop-cons}
use Rattle.std.proofs.lemmas.List.{take-append-drop, length-take-le}
use Rattle.call_types.specs.declared.entry.Entry.{Entry}
use Rattle.call_types.specs.declared.setup.Setup.{Setup}
use Rattle.binder_model.specs.Run.{Run}
use Rattle.audit_check.specs.declared.verdict.AuditRule.{AuditRule}
use Rattle.audit_check.specs.Verdicts.{Breaks, IsFirstBreak}

split : (xs : List Entry) (i : ℕ) (d : Entry) → i < length xs → xs ≡ take i xs ++ get_or xs i d ∷ drop (i + 1) xs
split xs i d h =
    let one : suc i ≡ i + 1 = omega arith in
    let behind : drop i xs ≡ get_or xs i d ∷ drop (i + 1) xs = drop-cons xs i d h ∙ ap (λ (n : ℕ). get_or xs i d ∷ drop n xs) one in
    sym (take-append-drop i xs) ∙ ap (λ (ys : List Entry). take i xs ++ ys) behind

-- the entry at a place, after a run, is the first that breaks
pub first_break : (setup : Setup) (xs : List Entry) (i : ℕ) (d : Entry) (rule : AuditRule) → i < length xs
    → Run setup (reverse (take i xs)) → Breaks setup (reverse (take i xs)) (get_or xs i d) rule → IsFirstBreak setup xs (i + 1) rule
first_break setup xs i d rule h run breaks =
    let within : i ≤ length xs = omega arith in
    record {
      before = take i xs;
      entry = get_or xs i d;
      later = drop (i + 1) xs;
      stand = split xs i d h;
      place = ap (λ (n : ℕ). n + 1) (sym (length-take-le i xs within));
      run = run;
      breaks = breaks;
    }
