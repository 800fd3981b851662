-- The text of a history, and what is printed after it.
-- A choice of this project: the history format. Each line ends in a line feed.
use Rattle.std.specs.Prelude.{ℕ, List, [], ◌∷◌, ◌++◌, codes, map}
use Rattle.kube_objects.specs.declared.objects.Object.{Object}
use Rattle.call_types.specs.declared.entry.Entry.{Entry}
use Rattle.call_types.specs.declared.setup.Setup.{Setup}
use Rattle.history_text.specs.declared.summary.Summary.{Summary}
use Rattle.object_print.specs.Objects.{object_line}
use Rattle.history_text.specs.Entries.{entry_line, setup_line}
use Rattle.history_text.specs.Summaries.{summary_lines}

-- with a line at the end
abbrev pub with_line : List ℕ → List ℕ → List ℕ
with_line done line = done ++ (line ++ 10 ∷ [])

-- with these lines at the end
abbrev pub with_lines : List ℕ → List (List ℕ) → List ℕ
with_lines done [] = done
with_lines done (line ∷ rest) = with_lines (with_line done line) rest

-- the setup, the entries with the oldest first, and the end
unfoldable pub history_lines : Setup → List Entry → List (List ℕ)
history_lines setup entries = setup_line setup ∷ (map entry_line entries ++ codes "end" ∷ [])

-- the text of a history
abbrev pub history_text : Setup → List Entry → List ℕ
history_text setup entries = with_lines [] (history_lines setup entries)

-- the objects and the summary
unfoldable pub final_lines : List Object → Summary → List (List ℕ)
final_lines objects summary = codes "objects" ∷ (map object_line objects ++ codes "summary" ∷ summary_lines summary)

-- the text that follows a history: the objects at the end, and the summary
abbrev pub final_text : List Object → Summary → List ℕ
final_text objects summary = with_lines [] (final_lines objects summary)
