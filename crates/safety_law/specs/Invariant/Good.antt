-- A history along which the invariant held and the store moved as it may; and what it is that a seat was told the truth.
-- A choice of this project, as the definitions are; their sources stand in `binder_model`.
use Rattle.std.specs.Prelude.{◌≡◌, List, [], ◌∷◌}
use Rattle.kube_objects.specs.declared.objects.Object.{Object}
use Rattle.call_types.specs.declared.entry.Entry.{Entry}
use Rattle.call_types.specs.declared.setup.Setup.{Setup}
use Rattle.binder_model.specs.World.{world, effect, reply_to}
use Rattle.binder_model.specs.Told.{ToldObject}
use Rattle.safety_law.specs.Invariant.Moves.{Moves}
use Rattle.safety_law.specs.Invariant.Was.{Made}
use Rattle.safety_law.specs.Invariant.Invariant.{Invariant}
use Rattle.model_laws.specs.Stood.{Stood}

-- how the store moves at this entry
abbrev pub MovesAt : Setup → Entry → List Entry → Type 0
MovesAt setup e past = Moves (world setup past) e.request (effect setup (world setup past) e.kind e.request) (Made setup past)

-- a history along which the invariant held, and the store moved as it may
abbrev pub Good : Setup → List Entry → Type 0
Good setup [] = Invariant setup []
Good setup (e ∷ past) = Good setup past × MovesAt setup e past × (e.reply ≡ reply_to (effect setup (world setup past) e.kind e.request)) × Invariant setup (e ∷ past)

-- what was told stood there, as a fact of one list of own entries
abbrev pub IsTrue : Setup → List Entry → List Entry → Type 1
IsTrue setup past mine = (P : Object → Type 0) → ToldObject P mine → (o : Object) × Stood setup past o × P o

-- the invariant is kept where the store moves as it may
abbrev pub MovesKeepTheInvariant : Type 0
MovesKeepTheInvariant = (setup : Setup) (e : Entry) (past : List Entry) → Invariant setup past → MovesAt setup e past → Invariant setup (e ∷ past)
