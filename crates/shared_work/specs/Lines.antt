-- What the lines of a script make a user ask, and the entries of one who asked just that. The newest entry stands first.
-- A choice of this project: the script format.
use Rattle.std.specs.Prelude.{ℕ, ◌≡◌, ◌==◌, Bool, true, false, List, [], ◌∷◌, ◌++◌, map, reverse}
use Rattle.std.specs.List.{flat_map}
use Rattle.call_types.specs.declared.entry.Entry.{Entry}
use Rattle.call_types.specs.declared.reply.Reply.{Reply}
use Rattle.call_types.specs.declared.request.Request.{Request}
use Rattle.call_types.specs.declared.request.SeatKind.{SeatKind}
use Rattle.call_types.specs.declared.request.SeatKind.TheVariants.{User}
use Rattle.script_text.specs.declared.script.Line.{Line}
use Rattle.script_text.specs.declared.script.Line.TheVariants.{Call}

-- the request, where it is asked
abbrev pub asked_if : Bool → Request → List Request
asked_if true request = request ∷ []
asked_if false request = []

-- the request that a line asks for a user
abbrev pub asked_in : ℕ → Line → List Request
asked_in user (Call by request) = asked_if (by == user) request
asked_in user line = []

-- what the user asks in these lines, in their order
abbrev pub asked_by : ℕ → List Line → List Request
asked_by user lines = flat_map (asked_in user) lines

-- an entry but for its reply: the seat and its kind, the request, and whether the answer was told
abbrev pub call_of : Entry → ℕ × SeatKind × Request × Bool
call_of e = (e.seat, e.kind, e.request, e.told)

-- a user's call: it is told the answer
abbrev pub user_call : ℕ → Request → ℕ × SeatKind × Request × Bool
user_call user request = (user, User, request, true)

-- these entries are the calls of the user's lines: in order, each once, and no others
abbrev pub AreOfLines : ℕ → List Line → List Entry → Type 0
AreOfLines user lines mine = map call_of (reverse mine) ≡ map (user_call user) (asked_by user lines)

-- the seat has one entry more, a user's call with this request
abbrev pub HasAsked : Request → ℕ × List Entry → ℕ × List Entry → Type 0
HasAsked request before after =
    (reply : Reply) × (after ≡ (before.0, (record { seat = before.0; kind = User; request = request; reply = reply; told = true }) ∷ before.1))

-- the seat has more entries: the calls of the user's lines
abbrev pub HasDone : List Line → ℕ × List Entry → ℕ × List Entry → Type 0
HasDone lines before after = (late : List Entry) × (after ≡ (before.0, late ++ before.1)) × AreOfLines before.0 lines late

-- the one seat has more entries: the calls of the user's lines
pub record DoLines (lines : List Line) (before after : List (ℕ × List Entry)) : Type 0 where
  pub first : ℕ × List Entry
  pub last : ℕ × List Entry
  pub before_is : before ≡ first ∷ []
  pub after_is : after ≡ last ∷ []
  pub done : HasDone lines first last
