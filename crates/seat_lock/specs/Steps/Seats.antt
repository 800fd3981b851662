-- What the steps of the calls say of a seat. A choice of this project.
use Rattle.std.specs.Prelude.{◌≡◌, ℕ, List, [], ◌∷◌, Option, Some, None, All}
use Rattle.atomic_table.specs.Table.{Me}
use Rattle.seat_lock.specs.declared.keeps.Entry.{Entry}
use Rattle.seat_lock.specs.declared.known.Known.{Known}
use Rattle.seat_lock.specs.declared.known.Stage.TheVariants.{Idle, Turn, Closing}
use Rattle.seat_lock.specs.History.{calls_of, StartsWith, AddsNoOthers}

module _ {X A R B : Type 0} where
  -- the seat has no ticket, and no slot
  abbrev pub IsIdleSeat : Me (Option X) (Known A R B) → Type 0
  IsIdleSeat m = (m.0.stage ≡ Idle) × (m.1 ≡ [])

  -- the seat has the turn, and the value had these entries
  abbrev pub HasTurn : List (Entry A R) → Me (Option X) (Known A R B) → Type 0
  HasTurn log m = (t : ℕ) × (m.0.stage ≡ Turn t log)

  -- the seat has the turn, and the value x was taken out of its slot
  abbrev pub TakesValue : (X → List (Entry A R)) → Me (Option X) (Known A R B) → X → Me (Option X) (Known A R B) → Type 0
  TakesValue history m x m' = (t : ℕ) × (m' ≡ (record m.0 { stage = Turn t (history x) }, (0, None) ∷ []))

  -- the seat has the turn, and the value that it holds has these entries and its base
  abbrev pub HoldsValue : (X → List (Entry A R)) → (X → B) → Me (Option X) (Known A R B) → Type 0
  HoldsValue history base m = (x : X) × HasTurn (history x) m × (m.1 ≡ (0, Some x) ∷ []) × (m.0.base ≡ Some (base x))

module _ {A R B : Type 0} where
  -- the seat is closing and has what it had, but for what it has seen
  pub record IsSameSeat (v w : Known A R B) : Type 0 where
    pub closing : w.stage ≡ Closing
    pub share : w.share ≡ v.share
    pub number : w.number ≡ v.number
    pub own : w.own ≡ v.own
    pub base : w.base ≡ v.base
    pub opening : w.opening ≡ v.opening

module _ {X A R B : Type 0} (history : X → List (Entry A R)) (base : X → B) where
  -- the value that was taken out begins with what the view has seen, and has its own entries and its base
  abbrev pub KnowsStart : Known A R B → X → Type 0
  KnowsStart v x = StartsWith (history x) v.front × (v.own ≡ calls_of v.number (history x)) × (v.base ≡ Some (base x))

  -- what the value is at the end: its entries begin with what the view has seen, and have its own and those of the passes that were met
  pub record IsEndOf (v : Known A R B) (x : X) : Type 0 where
    pub base_is : v.base ≡ Some (base x)
    pub front : StartsWith (history x) v.front
    pub fronts : All (λ (l : List (Entry A R)). StartsWith (history x) l) v.fronts
    pub own : v.own ≡ calls_of v.number (history x)
    pub met : All (λ (m : ℕ × List (Entry A R)). m.1 ≡ calls_of m.0 (history x)) v.met
    pub opening : StartsWith (history x) v.opening
    pub others : AddsNoOthers v.share v.opening (history x)
