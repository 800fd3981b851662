-- How the program ends.
use Rattle.std.proofs.Common.{◌≡◌, ◌≢◌, ◌≤◌, ◌∙◌, ℕ, List, String, Some, None, Ok, Err, IfSome, length, refl, sym, ap, subst, true≢false, arith, inl, inr}
use Rattle.std.specs.Prelude.{IsErr, is_err}
use Rattle.std.specs.declared.result.Result.{Result}
use Rattle.std.specs.declared.option.Option.{Option}
use Rattle.std.specs.declared.alloc.Global.{Global}
use Rattle.fault_io.specs.declared.ends.ReadError.{ReadError}
use Rattle.fault_io.specs.declared.ends.ReadError.TheVariants as read_errors
use Rattle.fault_io.specs.Faults.{Rose}
use Rattle.fault_io.specs.Reading.{TakesFront}
use Rattle.fault_io.specs.Writing.{Appends}
use Rattle.script_text.specs.Grammar.{script_of}
use Rattle.object_text.specs.Listing.{list_of}
use Rattle.extended_text.specs.Extended.{extended_of}
use Rattle.history_read.specs.Grammar.{history_of}
use Rattle.binder_console.specs.declared.status.Status.{Status}
use Rattle.binder_console.specs.declared.status.Status.TheVariants.{Done, Usage, Refused, Unsettled, ReadFault, WriteFault, Memory, AuditNo}
use Rattle.binder_console.specs.declared.commands.Task.{Task}
use Rattle.binder_console.specs.declared.commands.Task.TheVariants.{Replay, Run, Check, Audit, Gen, Extend}
use Rattle.binder_console.specs.declared.answers.Answer.{Answer}
use Rattle.binder_console.specs.declared.answers.Answer.TheVariants as answers
use Rattle.binder_console.specs.Commands.{task_of}
use Rattle.binder_console.specs.Ends.{EndsAnswered, EndsBy, EndsCut, Outside}
use Rattle.binder_console.specs.Exactly.{AreExact, IsComplete, IsNoInput, IsToBeDone, IsToBeRefused, IsTold, NoneFailed}
use Rattle.binder_console.proofs.Completed.{completed}
use Rattle.binder_console.specs.Inputs.{IsInput, IsInputOf, IsReadPast, IsReadThrough, IsTooLong, IsTooMuchOf, ReadsNothing, most_input}
use Rattle.binder_console.specs.Outcomes.{Answers, IsAnswer, IsDueText, OfInput, OfRefusal, OfTask, OfUsage, TooLong, Written, Whole, Front, answer_status, answer_text, too_long_text, usage_text}

-- ---- an input that was read, or is too long, is no failed read

pub read_is_no_fault : {T : Type 0} (x : T) (result : Result T ReadError) → result ≡ Ok x → result ≢ Err read_errors.ReadFault
read_is_no_fault x result is fault = let e : Ok x ≡ Err read_errors.ReadFault = sym is ∙ fault in absurd (cc)

pub too_long_is_no_fault : {T : Type 0} (result : Result T ReadError) → result ≡ Err read_errors.TooLong → result ≢ Err read_errors.ReadFault
too_long_is_no_fault result is fault = let e : Err read_errors.TooLong ≡ Err read_errors.ReadFault = sym is ∙ fault in absurd (cc)

-- ---- a text that is due was written, or a front of it

-- the status is the one that is wanted, or a write failed
ends_written : (words : List (String Global)) (before after : Outside) (text : List ℕ) (want status : Status)
    → (Appends before.written after.written text → EndsBy want words before after) → IsDueText words before.left text
    → Written before.written after.written before.write_faults after.write_faults text want status → EndsBy status words before after
ends_written words before after text want status whole due (Whole e appended) = subst (λ (s : Status). EndsBy s words before after) (sym e) (whole appended)
ends_written words before after text want status whole due (Front e rose front) =
    let ends : EndsCut words before after = record { text = text; due = due; front = front; failed = rose } in
    subst (λ (s : Status). EndsBy s words before after) (sym e) ends

pub ends_misused : (words : List (String Global)) (before after : Outside) (status : Status)
    → task_of words ≡ None → Written before.written after.written before.write_faults after.write_faults usage_text Usage status
    → EndsBy status words before after
ends_misused words before after status asked written =
    ends_written words before after usage_text Usage status (λ appended. record { asked = asked; appended = appended }) (OfUsage asked refl) written

pub ends_too_long : (task : Task) (words : List (String Global)) (before after : Outside) (status : Status)
    → task_of words ≡ Some task → IsTooLong task before.left → IsReadPast task before.left after.left
    → Written before.written after.written before.write_faults after.write_faults too_long_text Refused status → EndsBy status words before after
ends_too_long task words before after status asked long past written =
    ends_written words before after too_long_text Refused status
    (λ appended. record { task = task; text = too_long_text; asked = asked; refused = TooLong long refl; taken = inr (long, past); appended = appended })
    (OfRefusal task asked (TooLong long refl)) written

pub ends_unread : (task : Task) (words : List (String Global)) (before after : Outside)
    → task_of words ≡ Some task → (ReadsNothing task → ⊥) → TakesFront before.left after.left → Rose before.read_faults after.read_faults
    → EndsBy ReadFault words before after
ends_unread task words before after asked reads front failed = record { task = task; asked = asked; reads = reads; front = front; failed = failed }

-- ---- an input was read, and this came of it

-- what the task writes with this status was to be written
ends_task : (task : Task) (words : List (String Global)) (before after : Outside) (input text : List ℕ) (want status : Status)
    → (EndsAnswered want words before after → EndsBy want words before after)
    → task_of words ≡ Some task → IsInput task before.left input → IsReadThrough task after.left → Answers task want input text
    → Written before.written after.written before.write_faults after.write_faults text want status
    → EndsBy status words before after
ends_task task words before after input text want status by asked read through is written =
    ends_written words before after text want status
    (λ appended. by (record { task = task; text = text; asked = asked; answered = record { input = input; read = read; answered = is }; read_through = through; appended = appended }))
    (OfTask task want asked (record { input = input; read = read; answered = is })) written

pub ends_answer : (task : Task) (words : List (String Global)) (before after : Outside) (input : List ℕ) (answer : Answer) (status : Status)
    → task_of words ≡ Some task → IsInput task before.left input → IsReadThrough task after.left → IsAnswer task input answer
    → Written before.written after.written before.write_faults after.write_faults (answer_text answer) (answer_status answer) status
    → EndsBy status words before after
ends_answer task words before after input (answers.Output text) status asked read through is written = ends_task task words before after input text Done status (λ e. e) asked read through is written
ends_answer task words before after input (answers.Unsettled text) status asked read through is written =
    ends_task task words before after input text Unsettled status (λ e. e) asked read through is written
ends_answer task words before after input (answers.No text) status asked read through is written = ends_task task words before after input text AuditNo status (λ e. e) asked read through is written
ends_answer task words before after input (answers.Refusal text) status asked read through is written =
    ends_written words before after text Refused status (λ appended. record { task = task; text = text; asked = asked; refused = OfInput input read is; taken = inl through; appended = appended })
    (OfRefusal task asked (OfInput input read is)) written

-- ---- an input of which the task is done is not to be refused

not_too_much : (most : Option ℕ) (bytes input : List ℕ) → IsInputOf most (Some bytes) input → IsTooMuchOf most bytes → ⊥
not_too_much (Some most) bytes input read much =
    let short : length bytes ≤ most = subst (λ (b : List ℕ). length b ≤ most) (sym read.whole) read.short in
    absurd (omega arith)
not_too_much None bytes input read much = much

no_error : {T E : Type 0} (r : Result T E) (x : T) → r ≡ Ok x → IsErr r → ⊥
no_error r x e err = true≢false (sym err ∙ ap is_err e)

is_an_input : (task : Task) (status : Status) (bytes input text : List ℕ) → IsInput task (Some bytes) input → Answers task status input text → IsNoInput task bytes → ⊥
is_an_input (Replay budget) status bytes input text read done err = no_error (script_of bytes) done.script (subst (λ (b : List ℕ). script_of b ≡ Ok done.script) (sym read.whole) done.read) err
is_an_input (Run workers calls budget) status bytes input text read done err =
    no_error (script_of bytes) done.script (subst (λ (b : List ℕ). script_of b ≡ Ok done.script) (sym read.whole) done.read) err
is_an_input Check status bytes input text read done err = no_error (list_of bytes) done.1.objects (subst (λ (b : List ℕ). list_of b ≡ Ok done.1.objects) (sym read.whole) done.1.read) err
is_an_input Audit status bytes input text read done err = no_error (history_of bytes) done.history (subst (λ (b : List ℕ). history_of b ≡ Ok done.history) (sym read.whole) done.read) err
is_an_input (Gen seed budget) status bytes input text read done err = err
is_an_input (Extend budget) status bytes input text read done err =
    no_error (extended_of bytes) done.extended (subst (λ (b : List ℕ). extended_of b ≡ Ok done.extended) (sym read.whole) done.read) err

not_refused : (asked : Option Task) (task : Task) (left : Option (List ℕ)) (status : Status) (input text : List ℕ) → asked ≡ Some task
    → IsInput task left input → Answers task status input text → IsToBeRefused asked left → ⊥
not_refused asked task left status input text is read done due = by left read (subst (λ (a : Option Task). IsToBeRefused a left) is due)
  where
    by : (l : Option (List ℕ)) → IsInput task l input → IsToBeRefused (Some task) l → ⊥
    by None r d = d
    by (Some bytes) r d = elim d [
      | inl much ↦ not_too_much (most_input task) bytes input r much
      | inr err ↦ is_an_input task status bytes input text r done err
    ]

-- ---- what follows

no_task : (asked : Option Task) (task : Task) → asked ≡ Some task → asked ≡ None → ⊥
no_task asked task some none = absurd (cc)

abbrev IsDoneWhereItMay : Status → List (String Global) → Outside → Outside → Type 0
IsDoneWhereItMay status words before after =
    (task : Task) (input : List ℕ) → task_of words ≡ Some task → IsTold task before.left input → IsToBeDone task input → NoneFailed before after → IsComplete task status

done_where_it_may : (status : Status) (words : List (String Global)) (before after : Outside) → EndsBy status words before after → IsDoneWhereItMay status words before after
done_where_it_may status words before after e task input asked told done none = completed words before after task input asked told done none status e

-- with such a status a task that the words ask for was done
of_task : (status : Status) (words : List (String Global)) (before after : Outside) → (status ≡ Usage → ⊥) → EndsAnswered status words before after
    → IsDoneWhereItMay status words before after → AreExact status words before after
of_task status words before after other e complete = record {
  misused = λ same. absurd (other same);
  misuse = λ none. absurd (no_task (task_of words) e.task e.asked none);
  refusal = λ due. absurd (not_refused (task_of words) e.task before.left status e.answered.input e.text e.asked e.answered.read e.answered.answered due);
  read_through = λ _. subst (λ (t : Option Task). IfSome t (λ task. IsReadThrough task after.left)) (sym e.asked) e.read_through;
  complete = complete;
}

pub are_exact : (status : Status) (words : List (String Global)) (before after : Outside) → EndsBy status words before after → AreExact status words before after
are_exact Done words before after e = of_task Done words before after (λ same. absurd (cc)) e (done_where_it_may Done words before after e)
are_exact Unsettled words before after e = of_task Unsettled words before after (λ same. absurd (cc)) e (done_where_it_may Unsettled words before after e)
are_exact AuditNo words before after e = of_task AuditNo words before after (λ same. absurd (cc)) e (done_where_it_may AuditNo words before after e)
are_exact Usage words before after e = record {
  misused = λ _. e.asked;
  misuse = λ _. inl refl;
  refusal = λ due. absurd (subst (λ (t : Option Task). IsToBeRefused t before.left) e.asked due);
  read_through = λ no. absurd no;
  complete = done_where_it_may Usage words before after e;
}
are_exact Refused words before after e = record {
  misused = λ same. absurd (cc);
  misuse = λ none. absurd (no_task (task_of words) e.task e.asked none);
  refusal = λ _. inl refl;
  read_through = λ no. absurd no;
  complete = done_where_it_may Refused words before after e;
}
are_exact ReadFault words before after e = record {
  misused = λ same. absurd (cc);
  misuse = λ none. absurd (no_task (task_of words) e.task e.asked none);
  refusal = λ _. inr tt;
  read_through = λ no. absurd no;
  complete = done_where_it_may ReadFault words before after e;
}
are_exact WriteFault words before after e = record {
  misused = λ same. absurd (cc);
  misuse = λ _. inr (inl refl);
  refusal = λ _. inr tt;
  read_through = λ no. absurd no;
  complete = done_where_it_may WriteFault words before after e;
}
are_exact Memory words before after e = record {
  misused = λ same. absurd (cc);
  misuse = λ _. inr (inr refl);
  refusal = λ _. inr tt;
  read_through = λ no. absurd no;
  complete = done_where_it_may Memory words before after e;
}
