-- How the program ends on no words at all, beside ends that it does not have; and when a task is to be done.
-- A choice of this project, as the statuses are.
use Rattle.std.specs.Prelude.{ℕ, List, [], ◌∷◌, Some, None, String}
use Rattle.std.specs.declared.alloc.Global.{Global}
use Rattle.binder_console.specs.declared.status.Status.TheVariants.{Done, Usage, Refused, Unsettled, ReadFault, WriteFault, Memory, AuditNo}
use Rattle.binder_console.specs.declared.commands.Task.TheVariants.{Replay, Check, Audit, Gen}
use Rattle.binder_console.specs.Ends.{Ends, EndsRefused, Outside}
use Rattle.binder_console.specs.Exactly.{IsComplete, IsTold, NoneFailed}
use Rattle.binder_console.specs.Outcomes.{usage_text}

abbrev pub no_words : List (String Global)
no_words = []

-- a source that does not tell what is left, and a sink that tells what was written
abbrev pub told : ℕ → ℕ → List ℕ → Outside
told read_faults write_faults written = record { left = None; read_faults = read_faults; written = Some written; write_faults = write_faults }

abbrev pub begun : Outside
begun = told 0 0 []

-- a source that has one byte left
abbrev pub unread : Outside
unread = record { left = Some (120 ∷ []); read_faults = 0; written = Some []; write_faults = 0 }

pub record EndExamples : Type 0 where
  pub the_usage_line : Ends Usage no_words begun (told 0 0 usage_text)
  pub after_what_stood_there : Ends Usage no_words (told 0 0 (7 ∷ [])) (told 0 0 (7 ∷ usage_text))
  pub out_of_memory : Ends Memory no_words begun begun
  pub cut_before_its_first_byte : Ends WriteFault no_words begun (told 0 1 [])
  pub not_silent : Ends Usage no_words begun begun → ⊥
  pub no_other_text : Ends Usage no_words begun (told 0 0 (7 ∷ [])) → ⊥
  pub nothing_done : (after : Outside) → Ends Done no_words begun after → ⊥
  pub nothing_unsettled : (after : Outside) → Ends Unsettled no_words begun after → ⊥
  pub nothing_audited : (after : Outside) → Ends AuditNo no_words begun after → ⊥
  pub nothing_refused : (after : Outside) → Ends Refused no_words begun after → ⊥
  pub nothing_read : (after : Outside) → Ends ReadFault no_words begun after → ⊥
  pub no_memory_after_a_failed_read : Ends Memory no_words begun (told 1 0 []) → ⊥
  pub no_usage_after_a_failed_read : Ends Usage no_words begun (told 1 0 usage_text) → ⊥
  pub a_count_never_falls : Ends Memory no_words (told 0 1 []) begun → ⊥
  pub cut_only_by_a_failed_write : Ends WriteFault no_words begun begun → ⊥
  pub a_whole_text_is_not_cut : Ends WriteFault no_words begun (told 0 1 usage_text) → ⊥
  pub no_refusal_of_what_was_not_read : (words : List (String Global)) → EndsRefused words unread unread → ⊥
  pub done : IsComplete Check Done
  pub or_out_of_memory : IsComplete Check Memory
  pub an_audit_may_say_no : IsComplete Audit AuditNo
  pub no_other_task_says_no : IsComplete Check AuditNo → ⊥
  pub never_refused : IsComplete Check Refused → ⊥
  pub never_unsettled : IsComplete (Replay (Some 16)) Unsettled → ⊥
  pub none_failed : NoneFailed begun begun
  pub a_read_failed : NoneFailed begun (told 1 0 []) → ⊥
  pub a_write_failed : NoneFailed begun (told 0 1 []) → ⊥
  pub a_source_that_tells : IsTold Check (Some (7 ∷ [])) (7 ∷ [])
  pub a_source_that_does_not : IsTold Check None [] → ⊥
  pub nothing_is_read_for_a_seed : IsTold (Gen 1 None) None []
