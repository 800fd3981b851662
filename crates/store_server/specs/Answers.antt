-- What a line is answered by.
-- A choice of this project: the protocol of the store. The lines of setups and entries are those of the history format.
use Rattle.std.specs.Prelude.{ℕ, List, ◌++◌, codes, decimal}
use Rattle.kube_parts.specs.declared.names.LicenceRule.{LicenceRule}
use Rattle.kube_parts.specs.Words.{licence_word}
use Rattle.call_types.specs.declared.entry.Entry.{Entry}
use Rattle.call_types.specs.declared.setup.Setup.{Setup}
use Rattle.history_text.specs.Entries.{entry_line, setup_line}
use Rattle.store_lines.specs.declared.faults.LineFault.{LineFault}
use Rattle.store_lines.specs.Faults.{fault_text}

-- the history begins, it has an entry more, the fence refuses the request of a seat by a rule, or the line is at fault.
-- The last two change nothing
pub data StepAnswer : Type 0 where
  Begins : Setup → StepAnswer
  Enters : Entry → StepAnswer
  Refuses : ℕ → LicenceRule → StepAnswer
  Faults : LineFault → StepAnswer

-- the answer to a line that is at fault: its number and the reason, as JSON
unfoldable pub bad_line : ℕ → LineFault → List ℕ
bad_line n fault = codes "{\"bad\":{\"line\":" ++ (decimal n ++ (codes ",\"reason\":\"" ++ (fault_text fault ++ codes "\"}}")))

-- the answer to a request that the fence refuses: the rule and the seat, as JSON
unfoldable pub refused_line : ℕ → LicenceRule → List ℕ
refused_line seat rule = codes "{\"refused\":{\"rule\":\"" ++ (licence_word rule ++ (codes "\",\"seat\":" ++ (decimal seat ++ codes "}}")))

-- the line of an answer to the line of this number
abbrev pub answer_line : ℕ → StepAnswer → List ℕ
answer_line n (Begins setup) = setup_line setup
answer_line n (Enters e) = entry_line e
answer_line n (Refuses seat rule) = refused_line seat rule
answer_line n (Faults fault) = bad_line n fault
