-- What each step of the lock tells the seat that makes it, and what a split or a join makes of views. A choice of this project.
use Rattle.std.specs.Prelude.{◌≡◌, ◌≢◌, ℕ, ◌+◌, ◌-◌, ◌%◌, ◌^◌, ◌<◌, ◌≤◌, max, List, [], ◌∷◌, ◌++◌, Option, Some, All}
use Rattle.atomic_table.specs.Table.{Me, Step}
use Rattle.seat_lock.specs.declared.keeps.Entry.{Entry}
use Rattle.seat_lock.specs.declared.known.Known.{Known}
use Rattle.seat_lock.specs.declared.known.Stage.TheVariants.{Idle, Waits, Turn, Closing}
use Rattle.seat_lock.specs.Steps.Rule.{spent_view}
use Rattle.seat_lock.specs.History.{calls_of, StartsWith, longer}

-- the state of a thread at the table: the value that it holds, if it does, and what it knows
abbrev SeatState : Type 0 → Type 0 → Type 0 → Type 0 → Type 0
SeatState X A R B = Me (Option X) (Known A R B)

module _ {X A R B : Type 0} where
  -- a ticket was drawn
  abbrev pub DrawsTicket : Step (Option X) → SeatState X A R B → ℕ → SeatState X A R B → Type 0
  DrawsTicket st m n m' = (t : ℕ) × (n ≡ t % 2 ^ 64) × (m' ≡ (record m.0 { stage = Waits t }, m.1))

  -- where its ticket is served the seat has the turn and the value
  abbrev pub ReadsServing : (X → List (Entry A R)) → (X → B) → Step (Option X) → SeatState X A R B → ℕ → SeatState X A R B → Type 0
  ReadsServing history base st m n m' = (t : ℕ) → m.0.stage ≡ Waits t
      → (n ≡ t % 2 ^ 64 → (x : X) × (m' ≡ (record m.0 { stage = Turn t (history x) }, (0, Some x) ∷ m.1)) × StartsWith (history x) m.0.front
      × (m.0.own ≡ calls_of m.0.number (history x)) × (m.0.base ≡ Some (base x)))
      × (n ≢ t % 2 ^ 64 → m' ≡ m)

  -- the entries of the value in hand are counted
  abbrev pub CountsEntry : (X → List (Entry A R)) → Step (Option X) → SeatState X A R B → ℕ → SeatState X A R B → Type 0
  CountsEntry history st m n m' = (x : X) (t : ℕ) (l : List (Entry A R)) → m.1 ≡ (0, Some x) ∷ [] → m.0.stage ≡ Turn t l
      → m' ≡ (record m.0 { stage = Turn t (history x); own = calls_of m.0.number (history x); front = history x }, m.1)

  -- the turn is over, and the value is at home
  abbrev pub EndsTurn : Step (Option X) → SeatState X A R B → ℕ → SeatState X A R B → Type 0
  EndsTurn st m n m' = m' ≡ (record m.0 { stage = Idle }, [])

  -- a bell was rung, which changes nothing of the seat
  abbrev pub RingsBell : Step (Option X) → SeatState X A R B → ℕ → SeatState X A R B → Type 0
  RingsBell st m n m' = m' ≡ m

  -- The next number is held for a seat to come, at the price of a fork. It is above those that the seat has and those that it knew of. A seat that
  -- accounts for all that it knew of is the only one, so that none was drawn since
  abbrev pub DrawsNumber : Step (Option X) → SeatState X A R B → ℕ → SeatState X A R B → Type 0
  DrawsNumber st m n m' = (n < 2 ^ 49) × (m' ≡
      (record m.0 { forks = m.0.forks - 1; share = m.0.share + 1; made = n + 1; from = n + 1; upto = n + 2 }, m.1)) × (m.0.number ≤ n) × All (λ (p : ℕ × List (Entry A R)). p.0 ≤ n) m.0.met
      × (m.0.made ≤ n)
      × (m.0.share ≤ n)
      × (m.0.made ≡ m.0.share → n ≡ m.0.share)

  -- the numbers drawn are at least those that the seat accounts for
  abbrev pub TalliesNumbers : Step (Option X) → SeatState X A R B → ℕ → SeatState X A R B → Type 0
  TalliesNumbers st m n m' = (m' ≡ m) × (m.0.share ≤ n) × (n < 2 ^ 49)

  -- What the seat has seen begins with what the passes that it met had seen, and these have other numbers than its own. Of its own entries it has
  -- seen the oldest ones, and no others of its number
  abbrev pub ComparesFronts : Step (Option X) → SeatState X A R B → ℕ → SeatState X A R B → Type 0
  ComparesFronts st m n m' = (m' ≡ (record m.0 { fronts = [] }, m.1)) × All (λ (l : List (Entry A R)). StartsWith m.0.front l) m.0.fronts × All (λ (p : ℕ × List (Entry A R)). p.0 ≢ m.0.number) m.0.met
      × StartsWith m.0.own (calls_of m.0.number m.0.front)

  -- Where the seat accounts for each number, no more are drawn, and it knew of just these. Else it knew of more than it accounts for
  abbrev pub ClosesNumbers : Step (Option X) → SeatState X A R B → ℕ → SeatState X A R B → Type 0
  ClosesNumbers st m n m' = (n ≡ m.0.share → (m' ≡ (record m.0 { stage = Closing }, m.1)) × (m.0.made ≡ n))
      × (n ≢ m.0.share → (m' ≡ (record m.0 { found = n ∷ m.0.found; made = n }, m.1)) × (m.0.share < m.0.made) × (m.0.made ≤ n))

-- the first of the numbers, or this one where there is none
abbrev pub head_or : ℕ → List ℕ → ℕ
head_or d [] = d
head_or d (n ∷ ns) = n

-- the numbers behind the first
abbrev pub tail_of : List ℕ → List ℕ
tail_of [] = []
tail_of (n ∷ ns) = ns

module _ {A R B : Type 0} where
  -- the view without the first number that it holds, and without some forks
  abbrev pub left_part : ℕ → Known A R B → Known A R B
  left_part given v = record v { forks = v.forks - given; share = v.share - 1; from = v.from + 1 }

  -- a new view with that number and these forks
  abbrev pub right_part : ℕ → Known A R B → Known A R B
  right_part given v = record {
    stage = Idle;
    number = v.from;
    forks = given;
    share = 1;
    made = v.made;
    loans = [];
    found = [];
    from = 0;
    upto = 0;
    own = calls_of v.from v.opening;
    front = v.front;
    fronts = [];
    met = [];
    opening = v.opening;
    base = v.base;
  }

  -- the first view, which has seen the longer front, and accounts for the numbers of the second
  abbrev pub joint_view : Known A R B → Known A R B → Known A R B
  joint_view v w = record v {
    share = v.share + w.share;
    made = max v.made w.made;
    front = longer v.front w.front;
    fronts = v.front ∷ w.front ∷
        (w.fronts ++ v.fronts);
    met = (w.number, w.own) ∷ (w.met ++ v.met);
  }

  -- the view without its share
  abbrev pub without_share : Known A R B → Known A R B
  without_share v = record v { share = 0 }

  -- a note of a share, and of the passes known to be made
  abbrev pub note_of : ℕ → ℕ → Known A R B
  note_of n made = record spent_view { share = n; made = made }

  abbrev pub share_note : Known A R B → Known A R B
  share_note v = note_of v.share v.made

  -- the view itself, which keeps all that it has
  abbrev pub whole_view : Known A R B → Known A R B
  whole_view v = v

  -- a note of what the view has seen
  abbrev pub sight_note : Known A R B → Known A R B
  sight_note v = record (note_of 0 v.made) { front = v.front }

  -- the view, which has seen what the note shows too
  abbrev pub learnt_view : Known A R B → Known A R B → Known A R B
  learnt_view v w = record v { front = longer v.front w.front; fronts = v.front ∷ w.front ∷ v.fronts }

  -- the view with the share of a note, which it borrows
  abbrev pub with_loan : Known A R B → Known A R B → Known A R B
  with_loan v w = record v { share = v.share + w.share; made = max v.made w.made; loans = v.loans ++ w.share ∷ [] }

  -- the view without the share that it borrowed first
  abbrev pub without_first_loan : Known A R B → Known A R B
  without_first_loan v = record v { share = v.share - head_or 0 v.loans; loans = tail_of v.loans }

  abbrev pub first_loan_note : Known A R B → Known A R B
  first_loan_note v = note_of (head_or 0 v.loans) v.made

  -- the view with its share that comes back, and what the seat knows that had it
  abbrev pub with_share : Known A R B → Known A R B → Known A R B
  with_share v w = record v { share = v.share + w.share; made = w.made }
