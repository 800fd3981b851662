-- A run has only values that a text can give, where its setup has and its users ask so. Lists of entries begin with the newest.
-- A choice of this project.
use Rattle.std.specs.Prelude.{ℕ, ◌≡◌, ◌<◌, true, false, List, All, length, reverse}
use Rattle.call_types.specs.declared.entry.Entry.{Entry}
use Rattle.call_types.specs.declared.setup.Setup.{Setup}
use Rattle.call_types.specs.declared.request.SeatKind.{SeatKind}
use Rattle.call_types.specs.declared.request.Request.{Request}
use Rattle.binder_model.specs.Answers.{is_user}
use Rattle.binder_model.specs.Licence.{Licensed}
use Rattle.binder_model.specs.Promises.{most_entries}
use Rattle.binder_model.specs.Run.{Run}
use Rattle.history_text.specs.Output.{history_text, with_lines}
use Rattle.history_laws.specs.Read.Given.{IsNumber, IsRequest, IsEntry, IsSetup, IsTextHistory}
use Rattle.history_laws.specs.Read.Texts.{IsTextOf}

-- what a controller may ask a text can give, after entries that a text can give
abbrev pub LicensedAskGiven : Type 0
LicensedAskGiven =
    (kind : SeatKind) (mine : List Entry) (request : Request)
    → is_user kind ≡ false → All IsEntry mine → Licensed kind mine request → IsRequest request

-- the seat is a number of 64 bits, and a user asks what a text can give
pub record IsAskedGiven (e : Entry) : Type 0 where
  pub seat : IsNumber e.seat
  pub request : is_user e.kind ≡ true → IsRequest e.request

-- a run of fewer entries than a history may have, whose setup and users are such
pub record IsGivenRun (setup : Setup) (past : List Entry) : Type 0 where
  pub setup_given : IsSetup setup
  pub short : length past < most_entries
  pub asked : All IsAskedGiven past
  pub run : Run setup past

-- is a history that a text can give, the oldest entry first
abbrev pub RunsGive : Type 0
RunsGive = (setup : Setup) (past : List Entry) → IsGivenRun setup past → IsTextHistory setup (reverse past)

-- the text has this setup and these entries, and no others that a text can give
pub record HasOneHistory (text : List ℕ) (setup : Setup) (entries : List Entry) : Type 0 where
  pub given : IsTextHistory setup entries
  pub has : IsTextOf text setup entries
  pub only : (other : Setup) (others : List Entry) → IsTextHistory other others → IsTextOf text other others → (other ≡ setup) × (others ≡ entries)

-- what is printed of such a run has it alone, whatever lines follow it
abbrev pub RunTextsHaveOne : Type 0
RunTextsHaveOne =
    (setup : Setup) (past : List Entry) (lines : List (List ℕ))
    → IsGivenRun setup past → HasOneHistory (with_lines (history_text setup (reverse past)) lines) setup (reverse past)
