-- Texts that are histories, and texts that are none.
-- A choice of this project: the history format.
use Rattle.std.specs.Prelude.{◌≡◌, [], ◌∷◌, ◌++◌, Ok, codes}
use Rattle.history_read.specs.declared.errors.HistoryReason.TheVariants.{NotCanonical, MissingEnd}
use Rattle.history_read.specs.Grammar.{history_of}
use Rattle.history_read.specs.Refusals.{refusal_line}
use Rattle.text_examples.specs.History.Samples.{no_setup, no_setup_line, taken, taken_line, at_fault}

pub record TextExamples : Type 0 where
  pub no_entries : history_of (no_setup_line ++ codes "\nend\n") ≡ Ok (record { setup = no_setup; entries = [] })
  pub the_last_line_feed_may_lack : history_of (no_setup_line ++ codes "\nend") ≡ Ok (record { setup = no_setup; entries = [] })
  pub what_follows_is_not_looked_at : history_of (no_setup_line ++ codes "\nend\nx") ≡ Ok (record { setup = no_setup; entries = [] })
  pub one_entry : history_of (no_setup_line ++ (10 ∷ (taken_line ++ codes "\nend\n"))) ≡ Ok (record { setup = no_setup; entries = taken ∷ [] })
  pub nothing : history_of [] ≡ at_fault 1 MissingEnd
  pub no_setup_at_all : history_of (codes "end\n") ≡ at_fault 1 NotCanonical
  pub no_end : history_of (no_setup_line ++ codes "\n") ≡ at_fault 2 MissingEnd
  pub no_end_and_no_line_feed : history_of no_setup_line ≡ at_fault 2 MissingEnd
  pub ends_within_a_line : history_of (no_setup_line ++ codes "\nen") ≡ at_fault 2 NotCanonical
  pub more_behind_the_word : history_of (no_setup_line ++ codes "\nend \n") ≡ at_fault 2 NotCanonical
  pub an_empty_line : history_of (no_setup_line ++ codes "\n\nend\n") ≡ at_fault 2 NotCanonical
  pub the_first_line_at_fault : history_of (no_setup_line ++ (10 ∷ (taken_line ++ codes "\nx\ny\nend\n"))) ≡ at_fault 3 NotCanonical

pub record PrintedExamples : Type 0 where
  pub not_canonical : refusal_line (record { line = 12; reason = NotCanonical }) ≡ codes "line 12: NotCanonical"
  pub missing_end : refusal_line (record { line = 4097; reason = MissingEnd }) ≡ codes "line 4097: Missing end"
