use Rattle.std.proofs.Common.{◌≡◌, ℕ, ◌^◌, List, [], ◌∷◌, ◌++◌, length, true, false, true≢false, refl, sym, ap, ◌∙◌, arith, append_assoc, length-append, codes}
use Rattle.std.specs.List.{All}
use Rattle.std.proofs.lemmas.List.Elements.{All-nil, All-cons, All-head}
use Rattle.call_types.specs.declared.entry.Entry.{Entry}
use Rattle.call_types.specs.declared.setup.Setup.{Setup}
use Rattle.history_text.specs.Output.{history_text, with_lines}
use Rattle.history_laws.specs.Read.Given.{IsEntry, IsTextHistory, IsNumber, IsPool, IsSetup}
use Rattle.history_laws.specs.Read.Texts.{IsTextOf, lines_before_end}
use Rattle.history_laws.specs.Runs.Laws.{HasOneHistory, IsAskedGiven, IsGivenRun}
use Rattle.history_laws.proofs.Runs.Texts.{has_one}
use Rattle.text_examples.specs.Printable.Given.{GivenExamples, bare, finds_nothing, looks, watches_far}

bare_given : IsSetup bare
bare_given = record { pools = All-nil IsPool; faults = All-nil IsNumber; rising = refl; imports = All-nil _; passing = tt }

call_given : IsEntry (finds_nothing 1 looks)
call_given = record { seat = omega arith; request = tt; reply = tt }

nothing_given : IsTextHistory bare []
nothing_given = record { setup = bare_given; entries = All-nil IsEntry }

call_of : (e : Entry) → IsTextHistory bare (e ∷ []) → IsEntry e
call_of e h = All-head IsEntry e [] h.entries

falling : IsSetup (record bare { faults = 2 ∷ 1 ∷ [] }) → ⊥
falling h = true≢false (sym h.rising)

-- a text ends in its line `end`, which is longer than nothing
longer : (before rest : List ℕ) → before ≡ before ++ (codes "end" ++ rest) → ⊥
longer before rest same =
    let e : length before ≡ length (before ++ (codes "end" ++ rest)) = ap length same in
    let l = length-append before (codes "end" ++ rest) in
    omega (arith, e, l)

nothing_alone : HasOneHistory (history_text bare []) bare []
nothing_alone = has_one bare [] [] nothing_given

not_a_call : HasOneHistory (history_text bare []) bare (finds_nothing 1 looks ∷ []) → ⊥
not_a_call h =
    let same = h.only bare [] nothing_given nothing_alone.has in
    let e : 0 ≡ 1 = ap (λ (es : List Entry). length es) same.1 in
    omega (arith, e)

pub given_examples : GivenExamples
given_examples = record {
  nothing = nothing_given;
  a_call = record { setup = bare_given; entries = All-cons IsEntry (finds_nothing 1 looks) [] call_given (All-nil IsEntry) };
  no_such_seat = λ h. let few = (call_of (finds_nothing (2 ^ 64) looks) h).seat in omega (arith, few);
  no_such_version = λ h. let few = (call_of (finds_nothing 1 watches_far) h).request in omega (arith, few);
  no_falling_faults = falling;
  asked = record { seat = omega arith; request = λ e. tt };
  not_asked = λ h. let few = h.request refl in omega (arith, few);
  a_run = record { setup_given = bare_given; short = omega arith; asked = All-nil IsAskedGiven; run = tt };
  no_run_of_falling_faults = λ h. falling h.setup_given;
  its_text = nothing_alone.has;
  not_without_its_end = λ h. longer (with_lines [] (lines_before_end bare [])) h.0 h.2;
  alone = nothing_alone;
  not_of_a_call = not_a_call;
}
