-- Rounds behind a front: it holds some actions back, and takes a turn before each round and behind the last. Newest entries stand first.
-- A choice of this project.
use Rattle.std.specs.Prelude.{ℕ, ◌≡◌, ◌⊎◌, ◌<◌, Bool, true, false, List, Some, None}
use Rattle.std.specs.declared.cmp.Ordering.TheVariants.{Less}
use Rattle.kube_parts.specs.declared.names.Due.{Due}
use Rattle.kube_objects.specs.declared.key.Key.{Key}
use Rattle.kube_objects.specs.declared.objects.Object.{Object}
use Rattle.kube_objects.specs.Keys.{key_cmp, row_at}
use Rattle.call_types.specs.declared.entry.Entry.{Entry}
use Rattle.call_types.specs.declared.setup.Setup.{Setup}
use Rattle.binder_model.specs.Due.{IsDue}
use Rattle.binder_model.specs.World.{World, world}
use Rattle.actor_rounds.specs.declared.drainers.Drainer.{Drainer}
use Rattle.actor_rounds.specs.Rounds.{IsRound, Lets}

-- which actions are held back, in a world and for an object
abbrev pub Holds : Type 0
Holds = World → Object → Due → Bool

-- something is due for the object, and it is held back
pub record IsHeldBack (holds : Holds) (setup : Setup) (w : World) (o : Object) : Type 0 where
  pub action : Due
  pub due : IsDue setup w o (Some action)
  pub held : holds w o action ≡ true

-- nothing is due for the object, or it is held back
abbrev pub IsResting : Holds → Setup → World → Object → Type 0
IsResting holds setup w o = IsDue setup w o None ⊎ IsHeldBack holds setup w o

-- so it is of each object
abbrev pub AllRest : Holds → Setup → World → Type 0
AllRest holds setup w = (key : Key) (o : Object) → row_at key w.store.rows ≡ Some o → IsResting holds setup w o

-- the first object, in the order of keys, for which something is due that is not held back
pub record IsFirstFree (holds : Holds) (setup : Setup) (w : World) (first : Key × Due) : Type 0 where
  pub object : Object
  pub there : row_at first.0 w.store.rows ≡ Some object
  pub due : IsDue setup w object (Some first.1)
  pub free : holds w object first.1 ≡ false
  pub before : (earlier : Key) (other : Object) → row_at earlier w.store.rows ≡ Some other → key_cmp earlier first.0 ≡ Less → IsResting holds setup w other

-- a drain behind a front: the front takes its turn; then the drain ends where all rest, or where the budget is spent; else it makes a
-- round, by what the front now lets through, and goes on
pub data DrainsBehind {F : Type 0} (lets : F → Lets) (holds : F → Holds) (Turns : List Entry → F → F → Type 0) (setup : Setup)
    (last : F) (after : List Drainer) (past : List Entry) (left : ℕ) : F → List Drainer → List Entry → ℕ → Type 0 where
  NothingFree : {f : F} {ds : List Drainer} {h : List Entry} {b : ℕ} → Turns h f last → AllRest (holds last) setup (world setup h)
      → after ≡ ds → past ≡ h → left ≡ b → DrainsBehind lets holds Turns setup last after past left f ds h b
  BudgetSpent : {f : F} {ds : List Drainer} {h : List Entry} {b : ℕ} (first : Key × Due) → Turns h f last → IsFirstFree (holds last) setup (world setup h) first
      → b ≡ 0 → after ≡ ds → past ≡ h → left ≡ b → DrainsBehind lets holds Turns setup last after past left f ds h b
  GoesOn : {f : F} {ds : List Drainer} {h : List Entry} {b : ℕ} (g : F) (first : Key × Due) → Turns h f g → IsFirstFree (holds g) setup (world setup h) first
      → 0 < b → (between : List Drainer) (middle : List Entry) (rest : ℕ) (whole : Bool) → IsRound (lets g) middle rest ds h b between whole
      → DrainsBehind lets holds Turns setup last after past left g between middle rest → DrainsBehind lets holds Turns setup last after past left f ds h b
