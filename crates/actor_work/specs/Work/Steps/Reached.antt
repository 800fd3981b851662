-- How far the work of an actor has come. A choice of this project.
use Rattle.std.specs.Prelude.{ℕ, ◌≡◌, ◌≤◌, ◌<◌, Bool, true, List}
use Rattle.call_types.specs.declared.entry.Entry.{Entry}
use Rattle.binder_model.specs.Told.{own}
use Rattle.actor_turns.specs.declared.player.Player.{Player}
use Rattle.actor_turns.specs.Steps.Playing.{IsLife, Plays}

-- the actor plays; and where it was woken, with calls left of those up to the end, it has made none since
pub record HasPlayedTo (end : ℕ) (woken : Bool) (x : Player) (past : List Entry) : Type 0 where
  pub told : ℕ → List Entry
  pub plays : Plays x past told
  pub rests : woken ≡ true → x.made < end → (seat : ℕ) → x.seat ≤ seat → IsLife x.part seat → told seat ≡ own seat past
