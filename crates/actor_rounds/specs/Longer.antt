-- A history that has grown by calls of some seats, whose answers were told. The newest entry stands first.
-- A choice of this project.
use Rattle.std.specs.Prelude.{ℕ, ◌≡◌, ◌≤◌, true, List, [], ◌∷◌, ◌++◌, filter, length, ⊤}
use Rattle.call_types.specs.declared.entry.Entry.{Entry}
use Rattle.binder_model.specs.Answers.{is_user}
use Rattle.binder_model.specs.Told.{SomeOf}

-- the seat is one of these
abbrev pub IsOneOf : List ℕ → ℕ → Type 0
IsOneOf seats seat = SomeOf (λ s. s ≡ seat) seats

-- each entry is of one of these seats, and its answer was told
abbrev pub AreToldOf : List ℕ → List Entry → Type 0
AreToldOf seats [] = ⊤
AreToldOf seats (e ∷ es) = IsOneOf seats e.seat × (e.told ≡ true) × AreToldOf seats es

-- the entries are the earlier ones and then so many of these seats
pub record IsLonger (seats : List ℕ) (made : ℕ) (earlier entries : List Entry) : Type 0 where
  pub added : List Entry
  pub are : entries ≡ added ++ earlier
  pub count : length added ≡ made
  pub of_seats : AreToldOf seats added

-- the entries are the earlier ones and then some of these seats
pub record HasGrown (seats : List ℕ) (earlier entries : List Entry) : Type 0 where
  pub made : ℕ
  pub longer : IsLonger seats made earlier entries

-- the entries are the earlier ones and then some of these seats, no more than so many calls: a call that was held back has none
pub record GrowsWithin (seats : List ℕ) (calls : ℕ) (earlier entries : List Entry) : Type 0 where
  pub made : ℕ
  pub few : made ≤ calls
  pub longer : IsLonger seats made earlier entries

-- the entries of users
abbrev pub users_of : List Entry → List Entry
users_of entries = filter (λ e. is_user e.kind) entries
