-- What the actor of an agent may rely on in a history: by what its seat asked and was told, it has started, and may decide.
-- A choice of this project.
use Rattle.std.specs.Prelude.{ℕ, ◌≡◌, ◌<◌, Bool, false, List, [], ◌∷◌, Some, bytes_eq, is_none, length, ⊤}
use Rattle.kube_objects.specs.declared.key.Key.{Key}
use Rattle.kube_objects.specs.Keys.{row_at}
use Rattle.call_types.specs.declared.entry.Entry.{Entry}
use Rattle.call_types.specs.declared.setup.Setup.{Setup}
use Rattle.call_types.specs.declared.request.Request.{Request}
use Rattle.call_types.specs.declared.request.Request.TheVariants as requests
use Rattle.binder_model.specs.AgentLicence.{last_epoch}
use Rattle.binder_model.specs.Imports.{ImportsPass}
use Rattle.binder_model.specs.Promises.{most_entries}
use Rattle.binder_model.specs.Told.{own}
use Rattle.binder_model.specs.World.{IsHistory}
use Rattle.informer_cache.specs.All.{AllKnown, AllStandFor, all_objects}
use Rattle.safety_law.specs.Pods.Tellings.{AreToldByReads}
use Rattle.node_agent.specs.Evidence.{HasStarted, MayDecide}
use Rattle.node_agent.specs.StartLaw.{AreLicensed, TookFirst}

-- the request takes the node
abbrev pub is_take_of : List ℕ → Request → Bool
is_take_of node (requests.TakeNode taken) = bytes_eq taken node
is_take_of node request = false

-- the seat asked for the node, and for nothing else, until it was told an epoch of it, and never again after that
abbrev pub TakesFirst : List ℕ → List Entry → Type 0
TakesFirst node [] = ⊤
TakesFirst node (e ∷ mine) = (is_take_of node e.request ≡ is_none (last_epoch node mine)) × TakesFirst node mine

-- a seat that asks so took its node before it was told a pod, or listed pods
abbrev pub TakersTookFirst : Type 0
TakersTookFirst =
    (setup : Setup) (past : List Entry) (seat : ℕ) (node : List ℕ)
    → IsHistory setup past → TakesFirst node (own seat past) → TookFirst node (own seat past)

-- an agent that asked what it may is told of pods by reads alone
abbrev pub HistoriesTellByReads : Type 0
HistoriesTellByReads =
    (setup : Setup) (past : List Entry) (seat : ℕ)
    → IsHistory setup past → AreLicensed (own seat past) → AreToldByReads (own seat past)

-- and has started, where it took its node first
abbrev pub TakersHaveStarted : Type 0
TakersHaveStarted =
    (setup : Setup) (past : List Entry) (seat : ℕ) (node : List ℕ)
    → IsHistory setup past → AreLicensed (own seat past) → TakesFirst node (own seat past) → HasStarted node (own seat past)

-- and may decide each key by caches that stand for what it was told. One UID is one pod where the imports pass and the history is
-- short
abbrev pub TakersMayDecide : Type 0
TakersMayDecide =
    (setup : Setup) (past : List Entry) (seat : ℕ) (node : List ℕ) (epoch : ℕ) (caches : AllKnown) (key : Key)
    → ImportsPass setup.imports → length past < most_entries → IsHistory setup past
    → AreLicensed (own seat past) → TakesFirst node (own seat past)
    → last_epoch node (own seat past) ≡ Some epoch → AllStandFor caches (own seat past)
    → MayDecide node epoch (row_at key (all_objects caches)) (own seat past)
