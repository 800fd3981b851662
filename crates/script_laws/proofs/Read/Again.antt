-- What was read from a text is printed as it is read again.
use Rattle.std.proofs.Common.{◌≡◌, ℕ, List, [], ◌∷◌, ◌++◌, map, Ok, codes, refl, arith}
use Rattle.std.specs.List.{All}
use Rattle.std.proofs.lemmas.Str.{is_utf8-from_IsUtf8}
use Rattle.std.proofs.lemmas.List.Elements.{All-nil, All-cons, All-head, All-tail, All-append}
use Rattle.json.proofs.Printed.Utf8.{IsUtf8-are_ascii}
use Rattle.serde_json.specs.Written.{compact_text}
use Rattle.json_text.specs.Members.{text, whole}
use Rattle.object_laws.proofs.GivesParts.{of_ok}
use Rattle.object_laws.proofs.Utf8Texts.{HasUtf8, text_utf8}
use Rattle.script_lines.specs.Members.{most_call}
use Rattle.script_text.specs.declared.script.Script.{Script}
use Rattle.script_text.specs.Grammar.{script_of}
use Rattle.script_print.specs.Printing.{line_text, pool_lines, fault_data, fault_text, import_text, script_lines}
use Rattle.script_laws.specs.Read.Given.{IsCount}
use Rattle.script_laws.specs.Read.Laws.{IsText, ScriptGives, ScriptIsReadAgain}
use Rattle.script_laws.proofs.Read.LinesGive.{object_of_utf8, count_utf8}
use Rattle.script_laws.proofs.Read.TextsRead.{script_is_read}
use Rattle.script_laws.proofs.Read.TextsGive.{ScriptGiven, script_gives as text_gives}

fault_utf8 : (call : ℕ) → IsCount most_call call → HasUtf8 (fault_data call)
unfolding fault_data
fault_utf8 call is = object_of_utf8 ((codes "call", whole call) ∷ (codes "do", text (codes "fault")) ∷ []) (
  IsUtf8-are_ascii _ refl,
  count_utf8
      most_call call (omega arith) is,
  (IsUtf8-are_ascii _ refl, IsUtf8-are_ascii _ refl, tt),
)

fault_text_is : (call : ℕ) → IsCount most_call call → IsText (fault_text call)
unfolding fault_text
fault_text_is call is = is_utf8-from_IsUtf8 (compact_text (fault_data call)) (text_utf8 (fault_data call) (fault_utf8 call is))

fault_texts : (calls : List ℕ) → All (IsCount most_call) calls → All IsText (map fault_text calls)
fault_texts [] h = All-nil IsText
fault_texts (call ∷ calls) h = All-cons IsText (fault_text call) (map fault_text calls) (fault_text_is call
    (All-head (IsCount most_call) call calls h)) (fault_texts calls (All-tail (IsCount most_call) call calls h))

script_texts : (s : Script) → ScriptGiven s → All IsText (script_lines s)
unfolding script_lines
script_texts s h =
    All-append IsText (pool_lines s.setup.pools s.sizes) (map fault_text s.setup.faults ++ (map import_text s.setup.imports ++ map line_text s.lines)) h.pool_texts
    (All-append IsText (map fault_text s.setup.faults) (map import_text s.setup.imports ++ map line_text s.lines) (fault_texts s.setup.faults h.script.fault_numbers)
    (All-append IsText (map import_text s.setup.imports) (map line_text s.lines) h.import_texts h.line_texts))

given : (text : List ℕ) (s : Script) → script_of text ≡ Ok s → ScriptGiven s
given text s e = of_ok ScriptGiven (script_of text) s (text_gives text) e

pub script_gives : ScriptGives
script_gives text s e = let h = given text s e in h.script

pub script_is_read_again : ScriptIsReadAgain
script_is_read_again text s e fits = let h = given text s e in script_is_read s h.script fits (script_texts s h)
