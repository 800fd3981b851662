-- What printing and reading histories say of each other.
-- A choice of this project: the history format.
use Rattle.std.specs.Prelude.{◌≡◌, ℕ, List, ◌++◌, All, Ok}
use Rattle.call_types.specs.declared.entry.Entry.{Entry}
use Rattle.call_types.specs.declared.setup.Setup.{Setup}
use Rattle.history_text.specs.Output.{history_text}
use Rattle.call_types.specs.declared.histories.History.{History}
use Rattle.history_read.specs.Grammar.{history_of}
use Rattle.history_laws.specs.Read.Given.{IsTextHistory, AreShallow}
use Rattle.history_laws.specs.Read.Texts.{IsTextOf, IsLineToRead, lines_before_end}

-- what is read is what the text has
abbrev pub ReadIsPrinted : Type 0
ReadIsPrinted = (text : List ℕ) (h : History) → history_of text ≡ Ok h → IsTextOf text h.setup h.entries

-- what the text has is read, where a text can give it and its lines are not too long and not too deep
abbrev pub TextIsRead : Type 0
TextIsRead = (text : List ℕ) (s : Setup) (es : List Entry) → IsTextHistory s es → AreShallow s es → All IsLineToRead (lines_before_end s es)
    → IsTextOf text s es → history_of text ≡ Ok (record { setup = s; entries = es })

-- so is the printed text, whatever follows it
abbrev pub PrintedIsRead : Type 0
PrintedIsRead = (s : Setup) (es : List Entry) (more : List ℕ) → IsTextHistory s es → AreShallow s es → All IsLineToRead (lines_before_end s es)
    → history_of (history_text s es ++ more) ≡ Ok (record { setup = s; entries = es })

-- what is read is such that a text can give it, and nests no deeper than is read
abbrev pub ReadGives : Type 0
ReadGives = (text : List ℕ) (h : History) → history_of text ≡ Ok h → IsTextHistory h.setup h.entries × AreShallow h.setup h.entries

-- a text has at most one setup and list of entries, however deep its lines nest
abbrev pub OneHistory : Type 0
OneHistory = (text : List ℕ) (s t : Setup) (es fs : List Entry) → IsTextHistory s es → IsTextHistory t fs → IsTextOf text s es → IsTextOf text t fs → (s ≡ t) × (es ≡ fs)

-- so what is read of a text is the only one that it has
abbrev pub ReadIsOnly : Type 0
ReadIsOnly = (text : List ℕ) (h : History) (s : Setup) (es : List Entry) → history_of text ≡ Ok h → IsTextHistory s es → IsTextOf text s es → (s ≡ h.setup) × (es ≡ h.entries)
