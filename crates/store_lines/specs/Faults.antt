-- Why a line is answered with nothing done, and what is printed for it.
-- A choice of this project: the protocol of the store. The reasons of scripts' lines are those of the script format.
use Rattle.std.specs.Prelude.{ℕ, ◌≡◌, List, ◌++◌, Ok, Err, codes, ⊤}
use Rattle.std.specs.declared.result.Result.{Result}
use Rattle.script_lines.specs.Refusals.{reason_text}
use Rattle.store_asks.specs.Asks.{ask_member_word}
use Rattle.store_lines.specs.declared.faults.LineFault.{LineFault}
use Rattle.store_lines.specs.declared.faults.LineFault.TheVariants as faults
use Rattle.store_lines.specs.declared.faults.StoreLineError.{StoreLineError}
use Rattle.store_lines.specs.declared.faults.StoreLineError.TheVariants.{OutOfMemory, Refused}

-- the word that is printed for a fault
abbrev pub fault_word : LineFault → List ℕ
fault_word faults.TooLong = codes "TooLong"
fault_word faults.NotJson = codes "NotJson"
fault_word faults.NotObject = codes "NotObject"
fault_word faults.UnknownLine = codes "UnknownLine"
fault_word faults.BadSetup = codes "BadSetup"
fault_word (faults.BadAsk member) = codes "BadAsk"
fault_word (faults.BadScript reason) = codes "BadScript"
fault_word faults.NotCall = codes "NotCall"
fault_word faults.NoSetup = codes "NoSetup"
fault_word faults.SecondSetup = codes "SecondSetup"

-- the word; behind a blank the member of an ask, or the reason of a script's line
unfoldable pub fault_text : LineFault → List ℕ
fault_text (faults.BadAsk member) = codes "BadAsk" ++ (codes " " ++ ask_member_word member)
fault_text (faults.BadScript reason) = codes "BadScript" ++ (codes " " ++ reason_text reason)
fault_text fault = fault_word fault

-- ---- answers

-- a call that ends so is right: that is the fault; of a call that ran out of memory nothing is said
abbrev pub StoreLineFails : {X : Type 0} → StoreLineError → Result X LineFault → Type 0
StoreLineFails OutOfMemory answer = ⊤
StoreLineFails (Refused fault) answer = answer ≡ Err fault

-- the result is this answer, unless memory was wanting
abbrev pub StoreLineGives : {X : Type 0} → Result X StoreLineError → Result X LineFault → Type 0
StoreLineGives (Ok x) answer = answer ≡ Ok x
StoreLineGives (Err e) answer = StoreLineFails e answer

-- the same, where the result is seen by a view
abbrev pub StoreLineGivesBy : {X Y : Type 0} → (X → Y) → Result X StoreLineError → Result Y LineFault → Type 0
StoreLineGivesBy view (Ok x) answer = answer ≡ Ok (view x)
StoreLineGivesBy view (Err e) answer = StoreLineFails e answer
