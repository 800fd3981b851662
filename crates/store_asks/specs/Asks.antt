-- The ask that a line of a program that is attached is: an entry of a history without its reply.
-- A choice of this project: the protocol of the store, over the history format.
use Rattle.std.specs.Prelude.{ℕ, ◌≡◌, List, Ok, Err, Option, Some, None, codes, ⊤}
use Rattle.std.specs.declared.result.Result.{Result}
use Rattle.serde_json.specs.Data.{Data}
use Rattle.history_lines.specs.Members.{look_in, number_at, flag_at}
use Rattle.history_lines.specs.Entries.{asked_at, seat_kind_at}
use Rattle.store_asks.specs.declared.errors.AskMember.{AskMember}
use Rattle.store_asks.specs.declared.errors.AskMember.TheVariants.{Ask, Kind, Seat, Told}
use Rattle.store_asks.specs.declared.errors.AskError.{AskError}
use Rattle.store_asks.specs.declared.errors.AskError.TheVariants.{OutOfMemory, BadMember}
use Rattle.store_asks.specs.declared.asks.StoreAsk.{StoreAsk}

-- the name of the member in JSON
abbrev pub ask_member_word : AskMember → List ℕ
ask_member_word Ask = codes "ask"
ask_member_word Kind = codes "kind"
ask_member_word Seat = codes "seat"
ask_member_word Told = codes "told"

infixl 10 ◌>>=◌
-- the first member at fault, else what the next step makes of the value
abbrev pub ◌>>=◌ : {A B : Type 0} → Result A AskMember → (A → Result B AskMember) → Result B AskMember
(Ok x) >>= f = f x
(Err m) >>= f = Err m

-- what a member gives, or that it is at fault
abbrev pub or_fault : {X : Type 0} → AskMember → Option X → Result X AskMember
or_fault m None = Err m
or_fault m (Some x) = Ok x

-- what is asked, the kind of the seat, its number, and whether it is told; or the first of these members at fault
unfoldable pub ask_in : Data → Result StoreAsk AskMember
ask_in d = do
  request ← or_fault Ask (asked_at (look_in d))
  kind ← or_fault Kind (seat_kind_at (look_in d))
  seat ← or_fault Seat (number_at (codes "seat") (look_in d))
  told ← or_fault Told (flag_at (codes "told") (look_in d))
  Ok (record { seat = seat; kind = kind; request = request; told = told })

-- ---- answers

-- a call that ends so is right: that member is at fault; of a call that ran out of memory nothing is said
abbrev pub AskFails : {X : Type 0} → AskError → Result X AskMember → Type 0
AskFails OutOfMemory answer = ⊤
AskFails (BadMember m) answer = answer ≡ Err m

-- the result is this answer, unless memory was wanting
abbrev pub AskGives : {X : Type 0} → Result X AskError → Result X AskMember → Type 0
AskGives (Ok x) answer = answer ≡ Ok x
AskGives (Err e) answer = AskFails e answer
