use Rattle.std.proofs.Common.{◌≡◌, ◌<◌, ℕ, List, [], ◌∷◌, None, Some, inl, inr, ◌⊎◌, refl, ap, arith, length, take, ◌≤◌}
use Rattle.std.proofs.lemmas.List.{length-take-le}
use Rattle.binder_console.specs.declared.status.Status.TheVariants.{Refused, Unsettled, WriteFault, AuditNo}
use Rattle.binder_console.specs.declared.commands.Task.{Task}
use Rattle.binder_console.specs.declared.commands.Task.TheVariants.{Replay, Run, Check, Audit, Gen, Extend}
use Rattle.binder_console.specs.Ends.{Ends}
use Rattle.binder_console.specs.Exactly.{IsComplete}
use Rattle.binder_console.specs.Inputs.{IsReadThrough, IsReadThroughOf, IsTooLong, IsTooLongOf}
use Rattle.binder_console.specs.Outcomes.{IsDueText, RefusedWith, usage_text}
use Rattle.run_examples.specs.End.{no_words, told, begun, unread, EndExamples}

-- the text that is due where there are no words is the usage line
due_usage : (text : List ℕ) → IsDueText no_words None text → text ≡ usage_text
due_usage text (IsDueText.OfUsage asked is) = is
due_usage text (IsDueText.OfRefusal task asked refused) = absurd (cc)
due_usage text (IsDueText.OfTask task status asked answered) = absurd (cc)

-- a front that is not the whole is shorter
not_whole : (count : ℕ) → count < length usage_text → usage_text ≡ take count usage_text → ⊥
not_whole count within same = let few : count ≤ length usage_text = omega (arith, within) in
    omega (arith, within, ap length same, length-take-le count usage_text few)

whole_not_cut : Ends WriteFault no_words begun (told 0 1 usage_text) → ⊥
whole_not_cut end =
    let text = due_usage end.by.text end.by.due in
    not_whole end.by.front.count (rw text at end.by.front.within) (rw text at end.by.front.appended)

-- a byte that is left was not read, and is not too much
not_taken : {F : Type 0} (most : ℕ) → 0 < most → IsReadThroughOf (Some most) unread.left ⊎ (IsTooLongOf (Some most) unread.left × F) → ⊥
not_taken most some (inl through) = let e : 120 ∷ [] ≡ [] = through in absurd (cc)
not_taken most some (inr long) = let more : most < 1 = long.0 in omega (arith, more, some)

half_read : {F : Type 0} (task : Task) (text : List ℕ) → RefusedWith task unread.left text → IsReadThrough task unread.left ⊎ (IsTooLong task unread.left × F) → ⊥
half_read (Replay budget) text refused taken = not_taken 1048576 (omega arith) taken
half_read (Run workers calls budget) text refused taken = not_taken 1048576 (omega arith) taken
half_read Check text refused taken = not_taken 1048576 (omega arith) taken
half_read Audit text refused taken = not_taken 268435456 (omega arith) taken
half_read (Extend budget) text refused taken = not_taken 1048576 (omega arith) taken
half_read (Gen seed budget) text (RefusedWith.TooLong long is) taken = long
half_read (Gen seed budget) text (RefusedWith.OfInput input read refuses) taken = refuses

not_said_no : IsComplete Check AuditNo → ⊥
not_said_no (inl e) = absurd (cc)
not_said_no (inr e) = absurd (cc)

not_refused : IsComplete Check Refused → ⊥
not_refused (inl e) = absurd (cc)
not_refused (inr e) = absurd (cc)

not_unsettled : IsComplete (Replay (Some 16)) Unsettled → ⊥
not_unsettled (inl e) = absurd (cc)
not_unsettled (inr e) = absurd (cc)

pub end_examples : EndExamples
end_examples = record {
  the_usage_line = record { by = record { asked = refl; appended = refl }; unfailed = λ _. refl; reads_later = omega (arith); writes_later = omega (arith) };
  after_what_stood_there = record { by = record { asked = refl; appended = refl }; unfailed = λ _. refl; reads_later = omega (arith); writes_later = omega (arith) };
  out_of_memory = record { by = tt; unfailed = λ _. refl; reads_later = omega (arith); writes_later = omega (arith) };
  cut_before_its_first_byte = record {
    by = record { text = usage_text; due = IsDueText.OfUsage refl refl; front = record { count = 0; within = omega (arith); appended = refl }; failed = omega (arith) };
    unfailed = λ _. refl;
    reads_later = omega (arith);
    writes_later = omega (arith);
  };
  not_silent = λ end. let e = end.by.appended in absurd (cc);
  no_other_text = λ end. let e = end.by.appended in absurd (cc);
  nothing_done = λ after end. let e = end.by.asked in absurd (cc);
  nothing_unsettled = λ after end. let e = end.by.asked in absurd (cc);
  nothing_audited = λ after end. let e = end.by.asked in absurd (cc);
  nothing_refused = λ after end. let e = end.by.asked in absurd (cc);
  nothing_read = λ after end. let e = end.by.asked in absurd (cc);
  no_memory_after_a_failed_read = λ end. let e = end.unfailed (λ same. absurd (cc)) in omega (arith, e);
  no_usage_after_a_failed_read = λ end. let e = end.unfailed (λ same. absurd (cc)) in omega (arith, e);
  a_count_never_falls = λ end. let e = end.writes_later in omega (arith, e);
  cut_only_by_a_failed_write = λ end. let e = end.by.failed in omega (arith, e);
  a_whole_text_is_not_cut = whole_not_cut;
  no_refusal_of_what_was_not_read = λ words end. half_read end.task end.text end.refused end.taken;
  done = inl refl;
  or_out_of_memory = inr refl;
  an_audit_may_say_no = inr (inl refl);
  no_other_task_says_no = not_said_no;
  never_refused = not_refused;
  never_unsettled = not_unsettled;
  none_failed = ((λ rose. omega (arith, rose)), (λ rose. omega (arith, rose)));
  a_read_failed = λ none. none.0 (omega arith);
  a_write_failed = λ none. none.1 (omega arith);
  a_source_that_tells = (refl, omega arith);
  a_source_that_does_not = λ told. let e = told.0 in absurd (cc);
  nothing_is_read_for_a_seed = tt;
}
