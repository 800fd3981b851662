-- What is printed of an extended run: a history, the side behind it, and then what is printed behind any history.
-- A choice of this project: the format of extended histories. Each line ends in a line feed.
use Rattle.std.specs.Prelude.{ℕ, List, ◌∷◌, ◌++◌, codes, decimal, map}
use Rattle.kube_objects.specs.declared.objects.Object.{Object}
use Rattle.call_types.specs.declared.entry.Entry.{Entry}
use Rattle.call_types.specs.declared.setup.Setup.{Setup}
use Rattle.history_text.specs.declared.summary.Summary.{Summary}
use Rattle.history_text.specs.Output.{final_lines, history_text, with_lines}
use Rattle.history_text.specs.Summaries.{full_name}
use Rattle.side_calls.specs.declared.sizes.SizeRow.{SizeRow}
use Rattle.side_text.specs.declared.entries.PlacedEntry.{PlacedEntry}
use Rattle.side_text.specs.Entries.{side_line}

-- the sizes of a claim that grew: what it asks for, the capacities of its status and of its volume, and what is stored for it
unfoldable pub size_line : SizeRow → List ℕ
size_line row =
    codes "size " ++ (full_name row.key
    ++ (codes " asked " ++ (decimal row.asked
    ++ (codes " given " ++ (decimal row.given
    ++ (codes " volume " ++ (decimal row.volume
    ++ (codes " data " ++ decimal row.stored))))))))

-- the lines of the side: its entries between two lines that say so, and the sizes
unfoldable pub side_lines : List PlacedEntry → List SizeRow → List (List ℕ)
side_lines entries sizes = codes "side" ∷ (map side_line entries ++ codes "end side" ∷ map size_line sizes)

-- what stands behind the history of an extended run
unfoldable pub rest_lines : List PlacedEntry → List SizeRow → List Object → Summary → List (List ℕ)
rest_lines entries sizes objects summary = side_lines entries sizes ++ final_lines objects summary

-- the text of an extended run
abbrev pub extended_text : Setup → List Entry → List PlacedEntry → List SizeRow → List Object → Summary → List ℕ
extended_text setup entries told sizes objects summary = with_lines (history_text setup entries) (rest_lines told sizes objects summary)
