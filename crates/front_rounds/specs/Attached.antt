-- Drains behind the gate by what is attached, which takes its turns: each whole round with something free to do has an entry that lasts.
-- A choice of this project.
use Rattle.std.specs.Prelude.{ℕ, ◌≡◌, Bool, true, false, List, ⊤}
use Rattle.call_types.specs.declared.entry.Entry.{Entry}
use Rattle.call_types.specs.declared.setup.Setup.{Setup}
use Rattle.binder_model.specs.Promises.{IsRunOf}
use Rattle.binder_model.specs.World.{world}
use Rattle.actor_rounds.specs.declared.drainers.Drainer.{Drainer}
use Rattle.settle_writes.specs.Writes.Lasting.{HasLasting}
use Rattle.settle_progress.specs.Epochs.Silent.{OnlyOvertakenAreSilent}
use Rattle.settle_progress.specs.Drains.Rounds.{HasDue}
use Rattle.settle_progress.specs.Drains.Settling.{MayDrain}
use Rattle.attach_law.specs.declared.attachment.Attachment.{Attachment}
use Rattle.attach_law.specs.declared.attachment.AttachAsk.{AttachAsk}
use Rattle.attach_law.specs.Asks.{Turned}
use Rattle.attach_law.specs.Next.{holds}
use Rattle.attach_front.specs.Front.{lets_of}
use Rattle.front_rounds.specs.Behind.{BudgetSpent, DrainsBehind, GoesOn, Holds, NothingFree}

-- what it holds back
abbrev pub holds_by : List Attachment → Holds
holds_by att w o action = holds w.store.rows att o action

-- its turn: the calls that are next, until nothing is
pub record TakesTurn (setup : Setup) (h : List Entry) (old new : List Attachment) : Type 0 where
  pub asks : List AttachAsk
  pub turned : Turned (world setup h) old asks new

-- a drain behind it
abbrev pub DrainsAttached : Setup → List Attachment → List Drainer → List Entry → ℕ → List Attachment → List Drainer → List Entry → ℕ → Type 0
DrainsAttached setup = DrainsBehind (lets_of setup) holds_by (TakesTurn setup) setup

-- a round that begins after a turn, and with something due, for an actor that is no stale agent, which is not held back: where it is whole
-- it has an entry that lasts
abbrev pub RoundLastsBehind : Setup → List Attachment → List Drainer → List Entry → List Entry → Bool → Type 0
RoundLastsBehind setup att ds h past whole =
    whole ≡ true → MayDrain setup h ds → OnlyOvertakenAreSilent setup ds h → IsRunOf setup h → IsRunOf setup past
    → (x : HasDue setup ds h) → holds_by att (world setup h) x.object x.action ≡ false → HasLasting setup h past

-- so each round of a drain
abbrev pub EachRoundLastsBehind : (setup : Setup) (last : List Attachment) (after : List Drainer) (past : List Entry) (left : ℕ) (f : List Attachment) (ds : List Drainer)
    (h : List Entry) (b : ℕ) → DrainsAttached setup last after past left f ds h b → Type 0
EachRoundLastsBehind setup last after past left f ds h b (NothingFree turned rest same entries less) = ⊤
EachRoundLastsBehind setup last after past left f ds h b (BudgetSpent first turned free none same entries less) = ⊤
EachRoundLastsBehind setup last after past left f ds h b (GoesOn g first turned free some between middle rest whole round more) =
    RoundLastsBehind setup g ds h middle whole × EachRoundLastsBehind setup last after past left g between middle rest more

-- it is so of every drain
abbrev pub AttachedDrainsLast : Type 0
AttachedDrainsLast =
    (setup : Setup) (last : List Attachment) (after : List Drainer) (past : List Entry) (left : ℕ) (f : List Attachment) (ds : List Drainer) (h : List Entry) (b : ℕ)
    → (drain : DrainsAttached setup last after past left f ds h b) → EachRoundLastsBehind setup last after past left f ds h b drain
