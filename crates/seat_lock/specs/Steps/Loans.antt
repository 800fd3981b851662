-- The shares that passes lend to a seat, so that it can count all passes, and what a view knows of the entries. A choice of this project.
use Rattle.std.specs.Prelude.{◌≡◌, ℕ, ◌<◌, List, [], length, slice_index_or, All}
use Rattle.seat_lock.specs.declared.keeps.Entry.{Entry}
use Rattle.seat_lock.specs.declared.keeps.Keeps.{Ghosts}
use Rattle.seat_lock.specs.declared.known.Known.{Known}
use Rattle.seat_lock.specs.declared.pass.Pass.{Pass}
use Rattle.seat_lock.specs.declared.table.SeatLock.{SeatLock}
use Rattle.seat_lock.specs.History.{calls_of, StartsWith}
use Rattle.seat_lock.specs.Passes.{number_of, forks_of, met_count, pass_count, view_of}
use Rattle.seat_lock.specs.Steps.Plays.{without_share}

module _ {X A R B : Type 0} {k : Ghosts X A R B} where
  -- the pass q is p without its share
  abbrev pub IsLent : Pass X A R B k → Pass X A R B k → Type 0
  IsLent p q = (number_of q ≡ number_of p)
      × (forks_of q ≡ forks_of p)
      × (met_count q ≡ met_count p)
      × (q.seat.table_id ≡ p.seat.table_id)
      × (q.seat.id ≡ p.seat.id)
      × (q.seat.me ≡ (without_share (view_of p), []))

  abbrev pub AreLent : List (Pass X A R B k) → List (Pass X A R B k) → Type 0
  AreLent ps qs = (i : ℕ) (d : Pass X A R B k) → i < length ps → IsLent (slice_index_or ps i d) (slice_index_or qs i d)

  -- the pass of this lock is without its share
  abbrev pub IsLentOf : SeatLock X A R B → Pass X A R B k → Type 0
  IsLentOf lock p = (p.seat.table_id ≡ lock.table.shared.table_id) × ((view_of p).share ≡ 0)

  -- the pass q is p with its share, and knows that so many passes were made
  abbrev pub IsRepaid : ℕ → Pass X A R B k → Pass X A R B k → Type 0
  IsRepaid made p q = (number_of q ≡ number_of p)
      × (forks_of q ≡ forks_of p)
      × (met_count q ≡ met_count p)
      × (q.seat.table_id ≡ p.seat.table_id)
      × (q.seat.id ≡ p.seat.id)
      × (q.seat.me ≡ (record (view_of p) { share = pass_count p; made = made }, []))

  -- the passes qs are those of ps with their shares
  abbrev pub AreRepaid : ℕ → List (Pass X A R B k) → List (Pass X A R B k) → Type 0
  AreRepaid made ps qs = (i : ℕ) (d : Pass X A R B k) → i < length ps → IsRepaid made (slice_index_or ps i d) (slice_index_or qs i d)

module _ {A R B : Type 0} where
  -- these entries have what the view knows
  abbrev pub Agrees : List (Entry A R) → Known A R B → Type 0
  Agrees log v = StartsWith log v.front × All (λ (l : List (Entry A R)). StartsWith log l) v.fronts × All (λ (m : ℕ × List (Entry A R)). m.1 ≡ calls_of m.0 log) v.met
