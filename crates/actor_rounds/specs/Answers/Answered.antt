-- What a call of a seat came to, and which seat may call next. The newest entry stands first.
-- A choice of this project.
use Rattle.std.specs.Prelude.{ℕ, ◌≡◌, ◌<◌, Bool, true, false, List, [], ◌∷◌, Option, Some, None}
use Rattle.call_types.specs.declared.entry.Entry.{Entry}
use Rattle.call_types.specs.declared.reply.Reply.{Reply}
use Rattle.call_types.specs.declared.request.Request.{Request}
use Rattle.call_types.specs.declared.request.SeatKind.{SeatKind}
use Rattle.binder_model.specs.Told.{own}

-- which requests reach the world, after these entries
abbrev pub Lets : Type 0
Lets = List Entry → Request → Bool

-- none is held back
abbrev pub all_pass : Lets
all_pass h request = true

-- of these seats no later one has an entry
abbrev pub IsLatest : (ℕ → Type 0) → ℕ → List Entry → Type 0
IsLatest Orders seat past = (other : ℕ) → Orders other → seat < other → own other past ≡ []

-- the call was let through, and is one entry more; or it was held back, and has none
abbrev pub IsAnswered : Lets → ℕ → SeatKind → Request → Bool → Option Reply → List Entry → List Entry → Type 0
IsAnswered lets seat kind request told (Some reply) past new =
    (lets past request ≡ true) × (new ≡ (record { seat = seat; kind = kind; request = request; reply = reply; told = told }) ∷ past)
IsAnswered lets seat kind request told None past new = (lets past request ≡ false) × (new ≡ past)
