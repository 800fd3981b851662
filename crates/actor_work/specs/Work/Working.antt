-- What the work of one actor comes to. The newest entry stands first.
-- A choice of this project, after what a controller of Kubernetes meets: calls are lost, and it is restarted.
use Rattle.std.specs.Prelude.{ℕ, ◌≡◌, ◌≤◌, ◌<◌, ◌⊎◌, ◌+◌, List}
use Rattle.call_types.specs.declared.entry.Entry.{Entry}
use Rattle.binder_model.specs.Told.{own}
use Rattle.attention_law.specs.Diligence.{Call}
use Rattle.attention_law.specs.Resting.{WasToldStale}
use Rattle.worker_core.specs.declared.role.Role.{Role}
use Rattle.actor_turns.specs.declared.part.Part.{Part}
use Rattle.actor_turns.specs.declared.player.Player.{Player}
use Rattle.actor_turns.specs.Calls.{seat_at}
use Rattle.actor_turns.specs.Lives.{WasPlayed}
use Rattle.actor_turns.specs.Parts.{lives_of}
use Rattle.actor_turns.specs.Steps.Living.{Lives}

-- the calls are all that were to be made; or they are fewer, and the life that would make the next one was told that its epoch
-- is stale
abbrev pub HasWorked : Part → ℕ → ℕ → List Entry → Type 0
HasWorked part end made past = (made ≡ end) ⊎ ((made < end) × WasToldStale part.kind (own (seat_at part (made + 1)) past))

-- each life of the actor was played by it
abbrev pub AreWorkedLives : Role → Player → List Entry → Type 0
AreWorkedLives role x past = (seat : ℕ) → x.part.first ≤ seat → seat < x.part.first + lives_of x.part → WasPlayed x.held role x.part seat x.made past

-- the actor may go on
pub record SomeLives (role : Role) (x : Player) (past : List Entry) : Type 0 where
  pub idle : ℕ → List Call
  pub lives : Lives role x past idle
