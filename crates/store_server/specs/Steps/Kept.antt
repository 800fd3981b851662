-- What an open store keeps, and how it answers an ask.
use Rattle.std.specs.Prelude.{ℕ, ◌≡◌, List, [], Bool, true, false, Some, ⊤}
use Rattle.std.specs.declared.result.Result.{Result}
use Rattle.binder_model.specs.Run.{Run}
use Rattle.audit_check.specs.Steps.Noted.{AreOwn}
use Rattle.history_text.specs.Output.{with_line}
use Rattle.store_asks.specs.declared.asks.StoreAsk.{StoreAsk}
use Rattle.store_lines.specs.declared.faults.LineFault.{LineFault}
use Rattle.store_lines.specs.declared.reading.StoreLine.{StoreLine}
use Rattle.store_server.specs.declared.open_store.OpenStore.{OpenStore}
use Rattle.store_server.specs.Answers.{StepAnswer, answer_line}
use Rattle.store_server.specs.Serving.{Opened, Served, AskComesTo, ComesTo, opened_after}

-- its history
abbrev pub opened_of : OpenStore → Opened
opened_of o = record { setup = o.world.setup; past = o.world.past }

-- the history is a run, and each seat's own entries were noted
pub record IsFenced (o : OpenStore) : Type 0 where
  pub owned : AreOwn o.seats o.world.past
  pub run : Run o.world.setup o.world.past

-- so it is where there is a fence
abbrev pub OpenStands : Bool → OpenStore → Type 0
OpenStands false o = ⊤
OpenStands true o = IsFenced o

-- an ask was answered by this text; the number of the line does not matter
pub record AnswersAsk (fenced : Bool) (old new : Opened) (a : StoreAsk) (text : List ℕ) : Type 0 where
  pub answer : StepAnswer
  pub comes : AskComesTo fenced old a answer
  pub leaves : opened_after (Some old) answer ≡ Some new
  pub printed : (n : ℕ) → text ≡ with_line [] (answer_line n answer)

-- what was read of the line of the last number was answered by this text
pub record Answers (old new : Served) (read : Result StoreLine LineFault) (text : List ℕ) : Type 0 where
  pub answer : StepAnswer
  pub comes : ComesTo old.fenced old.opened read answer
  pub leaves : new ≡ record { fenced = old.fenced; lines = old.lines; opened = opened_after old.opened answer }
  pub printed : text ≡ with_line [] (answer_line old.lines answer)
