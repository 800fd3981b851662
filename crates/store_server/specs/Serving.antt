-- What a line comes to in a store that is served, and what it leaves. The newest entry of a history stands first.
-- A choice of this project: the protocol of the store, and its fence, which is the licence's own judgement on each ask.
use Rattle.std.specs.Prelude.{ℕ, ◌≡◌, ◌+◌, ◌-◌, ◌^◌, min, List, [], ◌∷◌, Bool, true, false, Ok, Err, Option, Some, None}
use Rattle.std.specs.declared.result.Result.{Result}
use Rattle.kube_parts.specs.declared.names.LicenceRule.{LicenceRule}
use Rattle.call_types.specs.declared.entry.Entry.{Entry}
use Rattle.call_types.specs.declared.setup.Setup.{Setup}
use Rattle.binder_model.specs.World.{world, effect, reply_to}
use Rattle.binder_model.specs.Told.{own}
use Rattle.binder_model.specs.Licence.{IsRefusedBy, Licensed}
use Rattle.history_text.specs.Output.{with_line}
use Rattle.store_asks.specs.declared.asks.StoreAsk.{StoreAsk}
use Rattle.store_lines.specs.declared.faults.LineFault.{LineFault}
use Rattle.store_lines.specs.declared.faults.LineFault.TheVariants.{NoSetup, SecondSetup}
use Rattle.store_lines.specs.declared.reading.StoreLine.{StoreLine}
use Rattle.store_lines.specs.declared.reading.StoreLine.TheVariants as lines
use Rattle.store_lines.specs.Lines.{line_of}
use Rattle.store_server.specs.Answers.{StepAnswer, Begins, Enters, Refuses, Faults, answer_line}

-- a history that has begun: its setup and its entries
pub record Opened : Type 0 where
  pub setup : Setup
  pub past : List Entry

-- a store that is served: whether it has a fence, how many lines were read, and its history once a setup was read
pub record Served : Type 0 where
  pub fenced : Bool
  pub lines : ℕ
  pub opened : Option Opened

-- the number of the next line, which stands still at 2^64 - 1
abbrev pub next_number : ℕ → ℕ
next_number lines = min (lines + 1) (2 ^ 64 - 1)

-- ---- asks

-- the entry of an ask, with the reply of the world of the entries before it
abbrev pub entry_for : Opened → StoreAsk → Entry
entry_for o a = record { seat = a.seat; kind = a.kind; request = a.request; reply = reply_to (effect o.setup (world o.setup o.past) a.kind a.request); told = a.told }

-- the history with one entry more
abbrev pub with_entry : Opened → Entry → Opened
with_entry o e = record { setup = o.setup; past = e ∷ o.past }

-- what the fence says after these entries: nothing where the licence allows the request after what its own seat was told, else
-- the rule that refuses it
abbrev pub FenceSays : List Entry → StoreAsk → Option LicenceRule → Type 0
FenceSays past a None = Licensed a.kind (own a.seat past) a.request
FenceSays past a (Some rule) = IsRefusedBy a.kind (own a.seat past) a.request rule

-- the judgement on an ask; where there is no fence nothing is refused
abbrev pub Judges : Bool → List Entry → StoreAsk → Option LicenceRule → Type 0
Judges false past a said = said ≡ None
Judges true past a said = FenceSays past a said

-- an ask enters the history, or is refused
abbrev pub AskComesTo : Bool → Opened → StoreAsk → StepAnswer → Type 0
AskComesTo fenced o a (Enters e) = Judges fenced o.past a None × (e ≡ entry_for o a)
AskComesTo fenced o a (Refuses seat rule) = Judges fenced o.past a (Some rule) × (seat ≡ a.seat)
AskComesTo fenced o a (Begins setup) = ⊥
AskComesTo fenced o a (Faults fault) = ⊥

-- ---- lines

-- what a line comes to. The first setup begins the history; before it nothing may be asked, and no other may come behind it
abbrev pub ComesTo : Bool → Option Opened → Result StoreLine LineFault → StepAnswer → Type 0
ComesTo fenced opened (Err fault) answer = answer ≡ Faults fault
ComesTo fenced None (Ok (lines.Setup setup)) answer = answer ≡ Begins setup
ComesTo fenced (Some o) (Ok (lines.Setup setup)) answer = answer ≡ Faults SecondSetup
ComesTo fenced None (Ok (lines.Ask a)) answer = answer ≡ Faults NoSetup
ComesTo fenced (Some o) (Ok (lines.Ask a)) answer = AskComesTo fenced o a answer

-- the history after an answer
abbrev pub opened_after : Option Opened → StepAnswer → Option Opened
opened_after opened (Begins setup) = Some (record { setup = setup; past = [] })
opened_after None (Enters e) = None
opened_after (Some o) (Enters e) = Some (with_entry o e)
opened_after opened (Refuses seat rule) = opened
opened_after opened (Faults fault) = opened

-- what an answer leaves
abbrev pub served_after : Served → StepAnswer → Served
served_after s answer = record { fenced = s.fenced; lines = next_number s.lines; opened = opened_after s.opened answer }

-- the text of an answer: its line and a line feed
abbrev pub answer_text : Served → StepAnswer → List ℕ
answer_text s answer = with_line [] (answer_line (next_number s.lines) answer)

-- one line was read and answered by this text
pub record IsStep (old new : Served) (line text : List ℕ) : Type 0 where
  pub answer : StepAnswer
  pub comes : ComesTo old.fenced old.opened (line_of line) answer
  pub leaves : new ≡ served_after old answer
  pub printed : text ≡ answer_text old answer

-- these lines were read one after the other, and answered so
abbrev pub AreAnswered : Served → List (List ℕ) → List StepAnswer → Served → Type 0
AreAnswered s [] [] t = s ≡ t
AreAnswered s [] (answer ∷ answers) t = ⊥
AreAnswered s (line ∷ lines) [] t = ⊥
AreAnswered s (line ∷ lines) (answer ∷ answers) t = ComesTo s.fenced s.opened (line_of line) answer × AreAnswered (served_after s answer) lines answers t
