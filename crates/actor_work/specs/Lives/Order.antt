-- The order of an actor's lives: each begins after the one before it has made its last call. The newest entry stands first.
-- A choice of this project, after a controller of Kubernetes, which is started again once it has ended.
use Rattle.std.specs.Prelude.{ℕ, ◌≡◌, ◌≢◌, ◌≤◌, ◌<◌, ◌⊎◌, ◌+◌, List, [], ◌++◌, length, slice_index_or, slice_set}
use Rattle.call_types.specs.declared.entry.Entry.{Entry}
use Rattle.binder_model.specs.Told.{own}
use Rattle.shared_world.specs.Passes.{Begins}
use Rattle.actor_turns.specs.declared.part.Part.{Part}
use Rattle.actor_turns.specs.Parts.{lives_of}

-- at some point of the history the earlier seat had made all its entries, and the later one none
pub record StandsBefore (earlier later : ℕ) (past : List Entry) : Type 0 where
  pub late : List Entry
  pub early : List Entry
  pub is : past ≡ late ++ early
  pub all : own earlier late ≡ []
  pub none : own later early ≡ []

-- the entries of an actor's lives stand one life after the other, whatever others stand between them
abbrev pub AreInOrder : Part → List Entry → Type 0
AreInOrder part past = (earlier later : ℕ) → part.first ≤ earlier → earlier < later → later < part.first + lives_of part → StandsBefore earlier later past

-- ---- what the passes of lives know of it

-- what a pass knows of the history: its own entries, and all that it has seen
abbrev pub Knowledge : Type 0
Knowledge = List Entry × List Entry

-- what the pass of the life at this place knows
abbrev pub known_at : List Knowledge → ℕ → Knowledge
known_at lives i = slice_index_or lives i ([], [])

-- at some point that the later seat has seen, the earlier one had made all these entries, and the later one none
pub record ComesAfter (earlier later : ℕ) (mine seen : List Entry) : Type 0 where
  pub point : List Entry
  pub begins : Begins seen point
  pub all : Begins (own earlier point) mine
  pub none : own later point ≡ []

-- the later seat has no entry, or comes after the earlier one
abbrev pub Follows : ℕ → ℕ → Knowledge → Knowledge → Type 0
Follows earlier later before after = (after.0 ≡ []) ⊎ ComesAfter earlier later before.0 after.1

-- of lives whose seats follow one another each has seen its own entries, and follows the ones before it
pub record AreOrdered (first : ℕ) (lives : List Knowledge) : Type 0 where
  pub selves : (i : ℕ) → i < length lives → own (first + i) (known_at lives i).1 ≡ (known_at lives i).0
  pub follow : (i j : ℕ) → i < j → j < length lives → Follows (first + i) (first + j) (known_at lives i) (known_at lives j)

-- the life at this place has seen all entries of those before it, and its own
pub record HasSeenEarlier (first at : ℕ) (lives : List Knowledge) : Type 0 where
  pub within : at < length lives
  pub knows : (i : ℕ) → i ≤ at → Begins (own (first + i) (known_at lives at).1) (known_at lives i).0

-- the life at this place is the first one, or has called; and it has seen all entries of those before it
pub record IsReached (first at : ℕ) (lives : List Knowledge) : Type 0 where
  pub seen : HasSeenEarlier first at lives
  pub called : (at ≡ 0) ⊎ ((known_at lives at).0 ≢ [])

-- the life at one place has learnt what that at another had seen, and no life has another entry
pub record HasTold (from to : ℕ) (before after : List Knowledge) : Type 0 where
  pub now : List Entry
  pub is : after ≡ slice_set before to ((known_at before to).0, now)
  pub old : Begins now (known_at before to).1
  pub new : Begins now (known_at before from).1
