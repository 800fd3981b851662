-- What the texts of answers say.
use Rattle.std.proofs.Common.{◌≡◌, ℕ, List, [], Bool, Option, Some, None, Result, Ok, Err, refl, sym, ap, subst, ◌∙◌}
use Rattle.std.specs.Prelude.{IfOk, OnOk, is_some, option_map, true, false}
use Rattle.kube_parts.specs.declared.names.LicenceRule.{LicenceRule}
use Rattle.call_types.specs.declared.setup.Setup.{Setup}
use Rattle.history_text.specs.Entries.{entry_line, setup_line}
use Rattle.history_text.specs.Output.{with_line}
use Rattle.store_asks.specs.declared.asks.StoreAsk.{StoreAsk}
use Rattle.store_lines.specs.declared.faults.LineFault.{LineFault}
use Rattle.store_lines.specs.declared.faults.LineFault.TheVariants.{NoSetup, SecondSetup}
use Rattle.store_lines.specs.declared.faults.StoreLineError.{StoreLineError}
use Rattle.store_lines.specs.declared.faults.StoreLineError.TheVariants as errors
use Rattle.store_lines.specs.declared.reading.StoreLine.{StoreLine}
use Rattle.store_lines.specs.declared.reading.StoreLine.TheVariants as lines
use Rattle.store_lines.specs.Faults.{StoreLineFails}
use Rattle.store_lines.specs.Lines.{line_of}
use Rattle.store_server.specs.declared.open_store.OpenStore.{OpenStore}
use Rattle.store_server.specs.Answers.{Begins, Enters, Refuses, Faults, bad_line, refused_line}
use Rattle.store_server.specs.Serving.{Opened, Served, ComesTo, IsStep, Judges, entry_for, next_number, with_entry}
use Rattle.store_server.specs.Steps.Kept.{Answers, AnswersAsk, opened_of}

-- ---- asks

pub refused : {E : Type 0} (fenced : Bool) (o : Opened) (a : StoreAsk) (rule : LicenceRule) (r : Result (List ℕ) E)
    → Judges fenced o.past a (Some rule) → IfOk r (λ text. text ≡ with_line [] (refused_line a.seat rule)) → IfOk r (AnswersAsk fenced o o a)
refused fenced o a rule (Ok text) judged printed = record { answer = Refuses a.seat rule; comes = (judged, refl); leaves = refl; printed = λ n. printed }
refused fenced o a rule (Err e) judged printed = tt

pub entered : {E : Type 0} (fenced : Bool) (old new : Opened) (a : StoreAsk) (r : Result (List ℕ) E)
    → Judges fenced old.past a None → OnOk r (new ≡ with_entry old (entry_for old a))
    → IfOk r (λ text. text ≡ with_line [] (entry_line (entry_for old a))) → IfOk r (AnswersAsk fenced old new a)
entered fenced old new a (Ok text) judged opened printed =
    record { answer = Enters (entry_for old a); comes = (judged, refl); leaves = ap Some (sym opened); printed = λ n. printed }
entered fenced old new a (Err e) judged opened printed = tt

-- ---- what a server has

abbrev served : Bool → ℕ → Option OpenStore → Served
served fenced n store = record { fenced = fenced; lines = n; opened = option_map opened_of store }

-- an ask before any setup
pub unopened : {E : Type 0} (old : Served) (fenced : Bool) (n : ℕ) (a : StoreAsk) (store left : Option OpenStore) (r : Result (List ℕ) E)
    → served fenced n store ≡ old → store ≡ None → left ≡ None
    → IfOk r (λ text. text ≡ with_line [] (bad_line n NoSetup)) → IfOk r (Answers old (served fenced n left) (Ok (lines.Ask a)))
unopened old fenced n a store left (Err e) is none gone printed = tt
unopened old fenced n a (Some s) left (Ok text) is none gone printed = absurd (cc)
unopened old fenced n a None (Some s) (Ok text) is none gone printed = absurd (cc)
unopened old fenced n a None None (Ok text) is none gone printed =
    subst (λ (s : Served). Answers s (served fenced n None) (Ok (lines.Ask a)) text) is (record { answer = Faults NoSetup; comes = refl; leaves = refl; printed = printed })

-- a setup after another
pub reopened : {E : Type 0} (old : Served) (fenced : Bool) (n : ℕ) (setup : Setup) (store : Option OpenStore) (found : Bool) (r : Result (List ℕ) E)
    → served fenced n store ≡ old → found ≡ is_some store → found ≡ true
    → IfOk r (λ text. text ≡ with_line [] (bad_line n SecondSetup)) → IfOk r (Answers old old (Ok (lines.Setup setup)))
reopened old fenced n setup store found (Err e) is finds there printed = tt
reopened old fenced n setup None found (Ok text) is finds there printed = absurd (cc)
reopened old fenced n setup (Some o) found (Ok text) is finds there printed =
    subst (λ (s : Served). Answers s s (Ok (lines.Setup setup)) text) is (record { answer = Faults SecondSetup; comes = refl; leaves = refl; printed = printed })

-- the first setup
pub opens : (old : Served) (fenced : Bool) (n : ℕ) (setup : Setup) (store : Option OpenStore) (found : Bool) (new : OpenStore) (text : List ℕ)
    → served fenced n store ≡ old → found ≡ is_some store → found ≡ false → opened_of new ≡ record { setup = setup; past = [] }
    → text ≡ with_line [] (setup_line setup) → Answers old (served fenced n (Some new)) (Ok (lines.Setup setup)) text
opens old fenced n setup (Some o) found new text is finds absent begun printed = absurd (cc)
opens old fenced n setup None found new text is finds absent begun printed =
    subst (λ (s : Served). Answers s (served fenced n (Some new)) (Ok (lines.Setup setup)) text) is
    (record {
      answer = Begins setup;
      comes = refl;
      leaves = ap (λ (o : Opened). record { fenced = fenced; lines = n; opened = Some o }) begun;
      printed = printed;
    })

-- a line at fault
pub faulty : {E : Type 0} (old : Served) (fenced : Bool) (n m : ℕ) (store : Option OpenStore) (line : List ℕ) (e : StoreLineError) (fault : LineFault)
    (r : Result (List ℕ) E)
    → served fenced n store ≡ old → m ≡ next_number n → e ≡ errors.Refused fault → StoreLineFails e (line_of line)
    → IfOk r (λ text. text ≡ with_line [] (bad_line m fault)) → IfOk r (IsStep old (served fenced m store) line)
faulty old fenced n m store line e fault (Err f) is next refuses fails printed = tt
faulty old fenced n m store line e fault (Ok text) is next refuses fails printed =
    let read : line_of line ≡ Err fault = subst (λ (x : StoreLineError). StoreLineFails x (line_of line)) refuses fails in
    subst (λ (s : Served). IsStep s (served fenced m store) line text) is
    (record {
      answer = Faults fault;
      comes = subst (λ (x : Result StoreLine LineFault). ComesTo fenced (option_map opened_of store) x (Faults fault)) (sym read) refl;
      leaves = ap (λ (k : ℕ). served fenced k store) next;
      printed = printed ∙ ap (λ (k : ℕ). with_line [] (bad_line k fault)) next;
    })
